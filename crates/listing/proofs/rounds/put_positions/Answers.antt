-- `listing::rounds::put_positions` meets its contract. The loop's invariant: what is still to be written makes the text that was promised.
-- Assumes nothing.
use mathlib.Core.Path.{refl, ◌∙◌}
use native.Mathlib.Omega.{arith}
use Rattle.listing.proofs.LineLaws.{no_positions, left_room, left_next, last_room, last_says}
use Rattle.listing.proofs.rounds.put_positions.Goals as goal

pub returns-in_default : goal.returns-in_default
returns-in_default c = record { wrote = no_positions _ _ _ c.in_default.ensures.cases; lent = refl }

pub put_field-requires : goal.put_field-requires
put_field-requires c =
    left_room _ _ c.args.page.now.at c.args.page.now.text.now _ _ _ c.loop-position.invariant.0 c.loop-position-test.true (rw c.in-Some.ensures.cases.0 at c.requires)

pub loop-position-preserved : goal.loop-position-preserved
loop-position-preserved c =
    (left_next _ _ c.args.page.now.at c.args.page.now.text.now _ _ _ c.loop-position.invariant.0 c.loop-position-test.true _ _ c.put_field.ensures.wrote, c.put_field.ensures.lent ∙ c.loop-position.invariant.1)

pub put_field-requires-2 : goal.put_field-requires-2
put_field-requires-2 c =
    last_room _ _ c.args.page.now.at c.args.page.now.text.now _ _ _ c.loop-position.invariant.0 (omega arith) (rw c.in-Some.ensures.cases.0 at c.requires)

pub returns : goal.returns
returns c =
    record {
      wrote = rw c.in-Some.ensures.cases.0 (last_says _ _ c.args.page.now.at c.args.page.now.text.now _ _ _ c.loop-position.invariant.0 (omega arith) _ _ c.put_field-2.ensures.wrote);
      lent = c.put_field-2.ensures.lent ∙ c.loop-position.invariant.1;
    }
