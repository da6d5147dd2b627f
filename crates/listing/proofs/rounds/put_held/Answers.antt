-- `listing::rounds::put_held` meets its contract: four pieces, each written where the one before it ended. Assumes nothing.
use mathlib.Core.List.{◌++◌}
use lib.ListN.{length}
use Rattle.listing.specs.Listing.{space, field, position_list, held_fields}
use Rattle.listing.proofs.PageLaws.{first_room, second_room, third_of_four_room, fourth_room, put_four}
use Rattle.listing.proofs.rounds.put_held.Goals as goal

-- ---- the text
pub returns : goal.returns
unfolding held_fields
returns c =
    put_four (field c.args.round.0 space) (field c.args.hashes space) (field (length c.args.list.now) space) (position_list c.args.list.now) c.args.page.now c.put_field.new.self c.put_field.ensures c.put_field-2.new.self c.put_field-2.ensures c.put_field-3.new.self c.put_field-3.ensures _ c.put_positions.ensures

-- ---- the room for each piece
pub put_field-requires : goal.put_field-requires
unfolding held_fields
put_field-requires c =
    first_room (field c.args.round.0 space) (field c.args.hashes space ++ (field (length c.args.list.now) space ++ position_list c.args.list.now)) c.args.page.now c.requires.1

pub put_field-requires-2 : goal.put_field-requires-2
unfolding held_fields
put_field-requires-2 c =
    second_room (field c.args.round.0 space) (field c.args.hashes space) (field (length c.args.list.now) space ++ position_list c.args.list.now) c.args.page.now c.put_field.new.self c.put_field.ensures c.requires.1

pub put_field-requires-3 : goal.put_field-requires-3
unfolding held_fields
put_field-requires-3 c =
    third_of_four_room (field c.args.round.0 space) (field c.args.hashes space) (field (length c.args.list.now) space) (position_list c.args.list.now) c.args.page.now c.put_field.new.self c.put_field.ensures c.put_field-2.new.self c.put_field-2.ensures c.requires.1

pub put_positions-requires : goal.put_positions-requires
unfolding held_fields
put_positions-requires c =
    fourth_room (field c.args.round.0 space) (field c.args.hashes space) (field (length c.args.list.now) space) (position_list c.args.list.now) c.args.page.now c.put_field.new.self c.put_field.ensures c.put_field-2.new.self c.put_field-2.ensures c.put_field-3.new.self c.put_field-3.ensures c.requires.1
