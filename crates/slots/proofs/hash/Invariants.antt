-- `slots::hash` meets its contract. The loop's invariant: as many hashes as turns are done on the values, which stand from `newest` on, and nothing behind
-- them is touched. `open` makes the room and f is applied in place, which together is one hash. Assumes nothing.
use mathlib.Core.Path.{◌≡◌}
use Rattle.oneway.specs.Step.{step}
use Rattle.slots.proofs.Growing.{HashedSoFar}
use Rattle.slots.proofs.hash.Given as goal

abbrev pub invariant-loop : goal.invariant-loop
invariant-loop l = (l.applied ≡ l.counter) × HashedSoFar l.w (step l.chain) l.k l.h l.n l.at l.initial.new l.new l.newest l.applied
