-- `listing::put_head` meets its contract: three pieces, each written where the one before it ended. Assumes nothing.
use mathlib.Core.List.{◌++◌}
use Rattle.printing.specs.Names.{bytes}
use Rattle.listing.specs.Listing.{line_for, head_line}
use Rattle.listing.proofs.PageLaws.{first_room, second_room, third_room, put_three}
use Rattle.listing.proofs.put_head.Goals as goal

pub put-requires : goal.put-requires
unfolding head_line bytes
put-requires c =
    first_room (bytes "pebbles ") (line_for c.args.schedule c.args.k ++ bytes "\n") c.args.page.now c.requires

pub put_asked-requires : goal.put_asked-requires
unfolding head_line bytes
put_asked-requires c =
    second_room (bytes "pebbles ") (line_for c.args.schedule c.args.k) (bytes "\n") c.args.page.now c.put.new.self c.put.ensures c.requires

pub put-requires-2 : goal.put-requires-2
unfolding head_line bytes
put-requires-2 c =
    third_room (bytes "pebbles ") (line_for c.args.schedule c.args.k) (bytes "\n") c.args.page.now c.put.new.self c.put.ensures c.put_asked.new.page c.put_asked.ensures c.requires

pub returns : goal.returns
unfolding head_line bytes
returns c =
    put_three (bytes "pebbles ") (line_for c.args.schedule c.args.k) (bytes "\n") c.args.page.now c.put.new.self c.put.ensures c.put_asked.new.page c.put_asked.ensures _ c.put-2.ensures
