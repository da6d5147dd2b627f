-- `listing::rounds::put_answer` meets its contract: behind the fields that every line has stands "-" or the position. Assumes nothing.
use mathlib.Core.Path.{sym}
use Rattle.printing.specs.Names.{bytes}
use Rattle.listing.proofs.PageLaws.{put_none}
use Rattle.listing.proofs.AnswerLaws.{quiet_ends, tick_ends, refused_says, held_fits, last_fits, answer_says}
use Rattle.listing.proofs.rounds.put_answer.Goals as goal

-- ---- a refused round
pub returns-in_default-answer-2-clause-line : goal.returns-in_default-answer-2-clause-line
returns-in_default-answer-2-clause-line c =
    rw (refused_says c.args.round.0 c.args.list.now c.args.answer _ c.in_default-answer.is).0 (put_none c.args.page.now)

pub returns-in_default-answer-2-clause-hashes : goal.returns-in_default-answer-2-clause-hashes
returns-in_default-answer-2-clause-hashes c =
    sym (refused_says c.args.round.0 c.args.list.now c.args.answer _ c.in_default-answer.is).1

-- ---- a quiet round
pub put_held-requires : goal.put_held-requires
put_held-requires c =
    (c.requires.0, held_fits _ _ c.args.answer _ _ (quiet_ends _ _ _ _ _ c.in-Ok-Quiet.is (rw c.in-Ok-Quiet.is at c.in-Ok-Quiet.field-0-is)) c.args.page.now c.requires.1)

pub put-requires : goal.put-requires
unfolding bytes
put-requires c =
    last_fits _ _ c.args.answer _ _ (quiet_ends _ _ _ _ _ c.in-Ok-Quiet.is (rw c.in-Ok-Quiet.is at c.in-Ok-Quiet.field-0-is)) c.args.page.now c.requires.1 c.put_held.new.page c.put_held.ensures

pub returns-in_default-clause-line : goal.returns-in_default-clause-line
unfolding bytes
returns-in_default-clause-line c =
    answer_says _ _ c.args.answer _ _ (quiet_ends _ _ _ _ _ c.in-Ok-Quiet.is (rw c.in-Ok-Quiet.is at c.in-Ok-Quiet.field-0-is)) c.args.page.now c.put_held.new.page _ c.put_held.ensures c.put.ensures

pub returns-in_default-clause-hashes : goal.returns-in_default-clause-hashes
returns-in_default-clause-hashes c =
    sym (quiet_ends c.args.round.0 c.args.list.now c.args.answer _ _ c.in-Ok-Quiet.is (rw c.in-Ok-Quiet.is at c.in-Ok-Quiet.field-0-is)).counts

-- ---- a tick
pub put_held-requires-2 : goal.put_held-requires-2
put_held-requires-2 c =
    (c.requires.0, held_fits _ _ c.args.answer _ _ (tick_ends _ _ _ _ _ _ c.in-Ok-Tick.is (rw c.in-Ok-Tick.is at c.in-Ok-Tick.field-0-is)) c.args.page.now c.requires.1)

pub put_field-requires : goal.put_field-requires
put_field-requires c =
    last_fits _ _ c.args.answer _ _ (tick_ends _ _ _ _ _ _ c.in-Ok-Tick.is (rw c.in-Ok-Tick.is at c.in-Ok-Tick.field-0-is)) c.args.page.now c.requires.1 c.put_held-2.new.page c.put_held-2.ensures

pub returns-clause-line : goal.returns-clause-line
returns-clause-line c =
    answer_says _ _ c.args.answer _ _ (tick_ends _ _ _ _ _ _ c.in-Ok-Tick.is (rw c.in-Ok-Tick.is at c.in-Ok-Tick.field-0-is)) c.args.page.now c.put_held-2.new.page _ c.put_held-2.ensures c.put_field.ensures

pub returns-clause-hashes : goal.returns-clause-hashes
returns-clause-hashes c =
    sym (tick_ends c.args.round.0 c.args.list.now c.args.answer _ _ _ c.in-Ok-Tick.is (rw c.in-Ok-Tick.is at c.in-Ok-Tick.field-0-is)).counts
