-- `card::pay` meets its contract: a preparing round puts out nothing, and a later one the value in slot 0. Assumes nothing.
use native.Mathlib.Omega.{arith}
use lib.ListN.{length-take}
use Rattle.card.proofs.TurnLaws.{paid_quiet, paid_tick}
use Rattle.card.proofs.pay.Goals as goal

pub returns-then-round-power : goal.returns-then-round-power
returns-then-round-power c =
    paid_quiet c.args.checked.head c.args.checked.numbered _ c.args.slots.now c.args.out.now c.requires _ c.power.ensures c.if-round-power.true

pub slice_bounds-copy-end : goal.slice_bounds-copy-end
slice_bounds-copy-end c =
    simp length-take (omega (arith, c.width-w.ensures, c.requires.first))

pub copy-requires : goal.copy-requires
copy-requires c =
    simp length-take (omega (arith, c.width-w.ensures, c.requires.wide))

pub returns : goal.returns
returns c =
    paid_tick c.args.checked.head c.args.checked.numbered _ c.args.slots.now c.args.out.now c.requires _ c.power.ensures c.if-round-power.false _ _ _ c.width-w.ensures c.rounds_left-left.ensures c.copy.ensures
