-- `card::run` meets its contract. The scratch is made as zeros, so what the round leaves behind its values is zero; refusal 8 never comes.
-- Assumes nothing.
use mathlib.Core.Path.{refl}
use Rattle.card.proofs.TurnLaws.{advance_asks, never_full, pay_asks, ran}
use Rattle.card.proofs.run.Goals as goal

pub advance-moved-requires : goal.advance-moved-requires
advance-moved-requires c =
    advance_asks c.args.checked.head c.args.card.now c.args.out.now c.requires _ c.slots_size-n.ensures _ c.chain.ensures _ refl

pub returns-then-n-moved : goal.returns-then-n-moved
returns-then-n-moved c =
    absurd (never_full c.args.checked.head c.args.card.now c.args.out.now c.requires _ c.slots_size-n.ensures _ c.chain.ensures _ c.advance-moved.new.new _ _ _ c.advance-moved.auto.new c.advance-moved.ensures c.if-n-moved.true)

pub pay-outcome-requires : goal.pay-outcome-requires
pay-outcome-requires c =
    pay_asks c.args.checked.head c.args.card.now c.args.out.now c.requires _ c.slots_size-n.ensures

pub returns : goal.returns
returns c =
    ran c.args.checked.head c.args.card.now c.args.out.now c.requires _ c.slots_size-n.ensures _ c.chain.ensures _ c.advance-moved.new.new _ _ _ c.advance-moved.auto.new c.advance-moved.ensures refl _ _ _ _ c.pay-outcome.ensures c.later.ensures c.put.ensures
