-- `perchmellow_round` meets its contract. Assumes nothing.
use Rattle.perchmellow.specs.Fits.{round-fits}
use Rattle.perchmellow.proofs.perchmellow_round.Goals as goal

pub round_word-requires : goal.round_word-requires
round_word-requires c = round-fits _ _ _ _ _ c.round.ensures
