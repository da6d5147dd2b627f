-- `refill::climb` meets its contract. The loop's invariant: the value has gone as many steps along the chain as the position went up. Assumes nothing.
use mathlib.Core.Path.{◌≡◌}
use Prim.Native.Nat.{◌-◌}
use Rattle.records.proofs.Laws.{Walking}
use Rattle.refill.proofs.climb.Given as goal

abbrev pub invariant-loop : goal.invariant-loop
invariant-loop l = (l.at ≡ l.counter) × Walking l.chain l.initial.value l.value (l.counter - l.from)
