-- `card::round` meets its contract. Assumes nothing.
use Rattle.std.proofs.Common.{sym}
use Rattle.card.specs.Sound.{sound}
use Rattle.card.proofs.round.Goals as goal

pub turn-requires : goal.turn-requires
turn-requires c = sound _ _ (sym c.in_ok-checked.ensures)
