-- `listing::rounds::put_rounds` meets its contract. The loop's invariant: the lines of the rounds so far are written, their hashes summed, and
-- the card is before the next round. Assumes nothing.
use mathlib.Core.Path.{◌≡◌}
use lib.ListN.{length}
use Rattle.listing.proofs.RunLaws.{Ran}
use Rattle.listing.proofs.rounds.put_rounds.Given as goal

abbrev pub invariant-loop-round : goal.invariant-loop-round
invariant-loop-round l = Ran l.schedule l.k l.initial.page l.card l.page l.round l.total × (length l.card ≡ length l.initial.card)
