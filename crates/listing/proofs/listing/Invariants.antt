-- `listing::listing` meets its contract. The loops' invariants: none of the lines tried so far is the input's, and nothing is written.
-- Assumes nothing.
use mathlib.Core.Path.{◌≡◌}
use Prim.Native.Nat.{◌+◌, ◌*◌}
use Rattle.listing.specs.Listing.{listed_by, listed}
use Rattle.listing.proofs.listing.Given as goal

abbrev pub invariant-loop-schedule : goal.invariant-loop-schedule
invariant-loop-schedule l = (l.text ≡ l.initial.text) × (listed l.input ≡ listed_by (11 * l.schedule) l.input)

abbrev pub invariant-loop-k : goal.invariant-loop-k
invariant-loop-k l = (l.text ≡ l.initial.text) × (listed l.input ≡ listed_by (11 * l.schedule + l.k) l.input)
