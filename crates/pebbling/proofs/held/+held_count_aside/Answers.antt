-- `held::held_count_aside` meets its contract. The children of P_k are P_(k-1) and the children below it; HeldLaws has the three ways in which they run. The
-- level falls at each call. Assumes nothing.
use mathlib.Core.Path.{◌≡◌}
use Prim.Native.Nat.{suc, ◌-◌}
use native.Mathlib.Omega.{arith}
use Rattle.pebbling.proofs.HeldLaws.{level, aside_late_asks, aside_late, aside_last, aside_both_asks, aside_both}
use Rattle.pebbling.proofs.held.+held_count_aside.Goals as goal

pub held_count_aside-requires : goal.held_count_aside-requires
held_count_aside-requires t c =
    let up : suc (c.args.k - 1) ≡ c.args.k = level _ _ _ _ c.requires in
    (omega (arith, up), aside_late_asks _ _ _ _ _ _ up c.requires c.power-half.ensures c.if-half-n.true)

pub returns-then-half-n : goal.returns-then-half-n
returns-then-half-n t c =
    let up : suc (c.args.k - 1) ≡ c.args.k = level _ _ _ _ c.requires in
    aside_late _ _ _ _ _ _ up c.requires c.power-half.ensures c.if-half-n.true _ c.held_count_aside.ensures

pub returns-then-n-half : goal.returns-then-n-half
returns-then-n-half t c =
    let up : suc (c.args.k - 1) ≡ c.args.k = level _ _ _ _ c.requires in
    aside_last _ _ _ _ _ _ up c.requires c.power-half.ensures c.if-half-n.false _ _ c.hashes_done.ensures c.held_count_after-own.ensures c.if-n-half.true

pub held_count_aside-requires-2 : goal.held_count_aside-requires-2
held_count_aside-requires-2 t c =
    let up : suc (c.args.k - 1) ≡ c.args.k = level _ _ _ _ c.requires in (
      omega (arith, up),
      aside_both_asks _ _ _ _ _ _ up c.requires c.power-half.ensures c.if-half-n.false _ _ c.hashes_done.ensures c.held_count_after-own.ensures c.if-n-half.false,
    )

pub returns : goal.returns
returns t c =
    let up : suc (c.args.k - 1) ≡ c.args.k = level _ _ _ _ c.requires in
    aside_both _ _ _ _ _ _ up c.requires c.power-half.ensures c.if-half-n.false _ _ c.hashes_done.ensures c.held_count_after-own.ensures _ c.held_count_aside-2.ensures
