-- `listing::text::Page::put_field` meets its contract: the number's digits, and the mark behind them. Assumes nothing.
use mathlib.Core.List.{[], ◌∷◌}
use native.Mathlib.Omega.{arith}
use Rattle.listing.specs.Text.{decimal}
use Rattle.listing.specs.Listing.{field}
use Rattle.listing.proofs.PageLaws.{first_room, next_room, put_both}
use Rattle.listing.proofs.text.Page.put_field.Goals as goal

pub put_decimal-requires : goal.put_decimal-requires
unfolding field
put_decimal-requires c = first_room (decimal c.args.n) (c.args.mark ∷ []) c.args.self.now c.requires

pub put_byte-requires : goal.put_byte-requires
unfolding field
put_byte-requires c =
    omega (arith, next_room (decimal c.args.n) (c.args.mark ∷ []) c.args.self.now _ c.put_decimal.ensures c.requires)

pub returns : goal.returns
unfolding field
returns c =
    put_both (decimal c.args.n) (c.args.mark ∷ []) c.args.self.now _ c.put_decimal.ensures _ c.put_byte.ensures
