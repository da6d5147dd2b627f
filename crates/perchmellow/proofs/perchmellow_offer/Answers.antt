-- `perchmellow_offer` meets its contract. Assumes nothing.
use Rattle.perchmellow.specs.Fits.{offer_fits}
use Rattle.perchmellow.proofs.perchmellow_offer.Goals as goal

pub offer_word-requires : goal.offer_word-requires
offer_word-requires c = offer_fits _ _ _ _ _ c.offer.ensures
