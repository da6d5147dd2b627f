-- `card::lay` meets its contract. The slots are made as zeros and filled anew from their front. Assumes nothing.
use Rattle.card.proofs.StartLaws.{refill_asks, laid}
use Rattle.card.proofs.lay.Goals as goal

pub refill-requires : goal.refill-requires
refill-requires c =
    refill_asks c.args.checked.head c.args.checked.numbered c.args.held.now c.args.seed.now c.args.card.now c.requires _ c.slots_size-n.ensures _ c.chain.ensures

pub returns : goal.returns
returns c =
    laid c.args.checked.head c.args.checked.numbered c.args.held.now c.args.seed.now c.args.card.now c.requires _ c.slots_size-n.ensures _ c.chain.ensures _ _ c.refill.ensures _ c.put.ensures
