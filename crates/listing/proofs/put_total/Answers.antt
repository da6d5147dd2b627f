-- `listing::put_total` meets its contract: two pieces, the second written where the first ended. Assumes nothing.
use Rattle.printing.specs.Names.{bytes}
use Rattle.listing.specs.Listing.{line_feed, field, total_line}
use Rattle.listing.proofs.PageLaws.{first_room, next_room, put_both}
use Rattle.listing.proofs.put_total.Goals as goal

pub put-requires : goal.put-requires
unfolding total_line bytes
put-requires c =
    first_room (bytes "total ") (field c.args.hashes line_feed) c.args.page.now c.requires

pub put_field-requires : goal.put_field-requires
unfolding total_line bytes
put_field-requires c =
    next_room (bytes "total ") (field c.args.hashes line_feed) c.args.page.now _ c.put.ensures c.requires

pub returns : goal.returns
unfolding total_line bytes
returns c =
    put_both (bytes "total ") (field c.args.hashes line_feed) c.args.page.now _ c.put.ensures _ c.put_field.ensures
