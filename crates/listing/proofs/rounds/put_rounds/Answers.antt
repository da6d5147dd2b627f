-- `listing::rounds::put_rounds` meets its contract. The loop's invariant: the lines of the rounds so far are written, their hashes summed, and
-- the card is before the next round. Assumes nothing.
use mathlib.Core.Path.{refl, ◌∙◌}
use native.Mathlib.Omega.{arith}
use Rattle.listing.proofs.RunLaws.{ran_none, round-fits, sum_fits, ran_next}
use Rattle.listing.proofs.rounds.put_rounds.Goals as goal

pub loop-round-init : goal.loop-round-init
loop-round-init c =
    (ran_none c.args.schedule c.args.k c.args.page.now c.requires.schedule_bound.0 c.requires.schedule_bound.1 _ c.requires.card_value, refl)

pub put_round-total-requires-clause-round_in_bounds : goal.put_round-total-requires-clause-round_in_bounds
put_round-total-requires-clause-round_in_bounds c =
    round-fits c.args.schedule c.args.k c.args.page.now c.requires.schedule_bound.0 c.requires.schedule_bound.1 c.requires.at_bound.0 c.requires.at_bound.1 _ c.power-stop.ensures _ c.loop-round.page _ _ c.loop-round.invariant.0 c.loop-round-test.true

pub overflow_add-total : goal.overflow_add-total
overflow_add-total c =
    let w = c.put_round-total in
    omega (arith, sum_fits c.args.schedule c.args.k c.args.page.now c.requires.schedule_bound.0 c.requires.schedule_bound.1 c.requires.at_bound.0 c.requires.at_bound.1 _ c.power-stop.ensures _ c.loop-round.page _ _ c.loop-round.invariant.0 c.loop-round-test.true w.new.page _ _ w.ensures.line w.ensures.hashes w.ensures.card_after)

pub loop-round-preserved : goal.loop-round-preserved
loop-round-preserved c =
    let w = c.put_round-total in
    (ran_next c.args.schedule c.args.k c.args.page.now c.requires.schedule_bound.0 c.requires.schedule_bound.1 c.requires.at_bound.0 c.requires.at_bound.1 _ c.power-stop.ensures _ c.loop-round.page _ _ c.loop-round.invariant.0 c.loop-round-test.true w.new.page _ _ w.ensures.line w.ensures.hashes w.ensures.card_after, w.auto.card ∙ c.loop-round.invariant.1)
