-- `listing::put_listing` meets its contract. The card that is started is the one before round 1, and the first line, the lines of the rounds
-- and the last line fit the text (RunLaws). Assumes nothing.
use mathlib.Core.Path.{refl}
use Rattle.std.proofs.Common.{rules}
use Rattle.listing.proofs.PageLaws.{page_wrote}
use Rattle.listing.proofs.RoundLaws.{is_started, card_started}
use Rattle.listing.proofs.RunLaws.{head_fits, rounds_fit, total_fits, listing_says}
use Rattle.listing.proofs.put_listing.Goals as goal

pub unwrap-requires : goal.unwrap-requires
unwrap-requires c =
    is_started c.args.schedule c.args.k c.requires.0 c.requires.1 _ _ c.start.ensures

pub put_head-requires : goal.put_head-requires
put_head-requires c =
    head_fits c.args.schedule c.args.k (record { text = c.args.text; at = 0 }) c.requires.0 c.requires.1 refl c.requires.2

pub put_rounds-hashes-requires : goal.put_rounds-hashes-requires
put_rounds-hashes-requires c =
    record {
      schedule_bound = (c.requires.0, c.requires.1);
      card_value = card_started c.args.schedule c.args.k c.requires.0 c.requires.1 _ _ c.start.ensures;
      at_bound = rounds_fit c.args.schedule c.args.k _ c.requires.0 c.requires.1 refl c.requires.2 c.put_head.new.page c.put_head.ensures;
    }

pub put_total-requires : goal.put_total-requires
put_total-requires c =
    total_fits c.args.schedule c.args.k _ c.requires.0 c.requires.1 refl c.requires.2 c.put_head.new.page c.put_head.ensures c.put_rounds-hashes.new.page c.put_rounds-hashes.result c.put_rounds-hashes.ensures.lines c.put_rounds-hashes.ensures.hashes

pub returns : goal.returns
returns c =
    let all =
    listing_says c.args.schedule c.args.k _ c.requires.0 c.requires.1 refl c.requires.2 c.put_head.new.page c.put_head.ensures c.put_rounds-hashes.new.page c.put_rounds-hashes.result c.put_rounds-hashes.ensures.lines c.put_rounds-hashes.ensures.hashes c.put_total.new.page c.put_total.ensures in
    let lent = all.lent in
    page_wrote _ _ c.put_total.new.page all _ (search rules)
