-- `listing::rounds::put_round` meets its contract. The position list refuses nothing and gives the recursion's positions, and the card's round
-- says the recursion's hashes and what it puts out, so that the line is the recursion's (RoundLaws). Assumes nothing.
use mathlib.Core.Path.{sym, ◌∙◌}
use lib.Seq.{length-take-le}
use Rattle.listing.proofs.RoundLaws.{is_listed, count_fits, line-is, answer_fits, line_says, card_moves}
use Rattle.listing.proofs.rounds.put_round.Goals as goal

pub unwrap-listed-requires : goal.unwrap-listed-requires
unwrap-listed-requires c =
    is_listed c.args.schedule c.args.k c.args.round.0 c.requires.round _ _ c.positions.ensures

pub slice_bounds-list-end : goal.slice_bounds-list-end
slice_bounds-list-end c =
    count_fits c.args.schedule c.args.k c.args.round.0 c.requires.round _ _ c.positions.ensures _ c.unwrap-listed.ensures

pub slice_bounds-put_answer-end : goal.slice_bounds-put_answer-end
slice_bounds-put_answer-end c =
    sym (length-take-le _ _ (count_fits c.args.schedule c.args.k c.args.round.0 c.requires.round _ _ c.positions.ensures _ c.unwrap-listed.ensures))

pub put_answer-requires : goal.put_answer-requires
put_answer-requires c =
    answer_fits c.args.schedule c.args.k c.args.round.0 c.requires.round _ _ c.positions.ensures _ c.unwrap-listed.ensures _ _ _ _ c.requires.card_value c.round-answer.ensures c.args.page.now c.requires.round_in_bounds

pub returns-clause-line : goal.returns-clause-line
returns-clause-line c =
    line_says c.args.schedule c.args.k c.args.round.0 c.requires.round _ _ c.positions.ensures _ c.unwrap-listed.ensures _ _ _ _ c.requires.card_value c.round-answer.ensures c.args.page.now _ c.put_answer.ensures.line

pub returns-clause-hashes : goal.returns-clause-hashes
returns-clause-hashes c =
    c.put_answer.ensures.hashes
    ∙ (line-is c.args.schedule c.args.k c.args.round.0 c.requires.round _ _ c.positions.ensures _ c.unwrap-listed.ensures _ _ _ _ c.requires.card_value c.round-answer.ensures).1

pub returns-clause-card_after : goal.returns-clause-card_after
returns-clause-card_after c =
    card_moves c.args.schedule c.args.k c.args.round.0 c.requires.round _ _ c.positions.ensures _ c.unwrap-listed.ensures _ _ _ _ c.requires.card_value c.round-answer.ensures
