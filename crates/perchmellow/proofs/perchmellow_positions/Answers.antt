-- `perchmellow_positions` meets its contract. Assumes nothing.
use Rattle.perchmellow.specs.Fits.{positions_fit}
use Rattle.perchmellow.proofs.perchmellow_positions.Goals as goal

pub positions_word-requires : goal.positions_word-requires
positions_word-requires c = positions_fit _ _ _ _ _ _ c.positions.ensures
