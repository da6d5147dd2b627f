-- `card::start` meets its contract: the numbers are checked, and the seed is held at position 0. Assumes nothing.
use Rattle.std.proofs.Common.{sym}
use Rattle.card.proofs.StartLaws.{started_begun, seed_begins}
use Rattle.card.proofs.start.Goals as goal

pub begin-requires : goal.begin-requires
begin-requires c = seed_begins _

pub returns : goal.returns
returns c =
    started_begun _ _ _ _ _ _ _ _ (sym c.in_ok-checked.ensures) c.begin.ensures
