-- `refill::climb` meets its contract. The loop's invariant: the value has gone as many steps along the chain as the position went up. Assumes nothing.
use mathlib.Core.Path.{refl, ap}
use Prim.Native.Nat.{ℕ, ◌+◌}
use Rattle.refill.proofs.Laws.{climbing_none, climbing_next}
use Rattle.refill.proofs.climb.Goals as goal

pub loop-init : goal.loop-init
loop-init c = (refl, climbing_none _ _ _ c.requires.whole_and_upwards.0)

pub loop-preserved : goal.loop-preserved
loop-preserved c =
    (ap (λ (n : ℕ). n + 1) c.loop.invariant.0, climbing_next _ _ _ _ _ _ c.loop.auto.counter c.loop.invariant.1 c.apply.ensures)
