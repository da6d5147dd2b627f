-- `listing::put_asked` meets its contract: a name, a space and k, each written where the one before it ended. Assumes nothing.
use mathlib.Core.List.{[], ◌∷◌}
use Rattle.printing.specs.Names.{name_of}
use Rattle.listing.specs.Text.{decimal}
use Rattle.listing.specs.Listing.{space, line_for}
use Rattle.listing.proofs.PageLaws.{first_room, second_room, third_room, put_three}
use Rattle.listing.proofs.put_asked.Goals as goal

pub put-requires : goal.put-requires
unfolding line_for
put-requires c =
    rw c.schedule_name.ensures (first_room (name_of c.args.schedule) (space ∷ decimal c.args.k) c.args.page.now c.requires)

pub put-requires-2 : goal.put-requires-2
unfolding line_for
put-requires-2 c =
    second_room (name_of c.args.schedule) (space ∷ []) (decimal c.args.k) c.args.page.now c.put.new.self (rw c.schedule_name.ensures at c.put.ensures) c.requires

pub put_decimal-requires : goal.put_decimal-requires
unfolding line_for
put_decimal-requires c =
    third_room (name_of c.args.schedule) (space ∷ []) (decimal c.args.k) c.args.page.now c.put.new.self (rw c.schedule_name.ensures at c.put.ensures) c.put-2.new.self c.put-2.ensures c.requires

pub returns : goal.returns
unfolding line_for
returns c =
    put_three (name_of c.args.schedule) (space ∷ []) (decimal c.args.k) c.args.page.now c.put.new.self (rw c.schedule_name.ensures at c.put.ensures) c.put-2.new.self c.put-2.ensures _ c.put_decimal.ensures
