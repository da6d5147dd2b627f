-- `listing::text::Page::put_decimal` meets its contract: the digits but the last are those of n / 10, which is below n, and the last is
-- n % 10. Assumes nothing.
use Rattle.std.proofs.Common.{refl, arith}
use Rattle.listing.proofs.TextLaws.{digit_fits, digit_says, front_fits, last_fits, last_says}
use Rattle.listing.proofs.text.Page.+put_decimal.Goals as goal

-- ---- one digit
pub put_byte-requires : goal.put_byte-requires
put_byte-requires t c = digit_fits _ c.args.self.now c.requires c.if-n-lt10.true

pub returns-then-n-lt10 : goal.returns-then-n-lt10
returns-then-n-lt10 t c =
    digit_says _ _ c.requires c.if-n-lt10.true _ _ refl c.put_byte.ensures

-- ---- more digits
pub put_decimal-requires : goal.put_decimal-requires
put_decimal-requires t c = (omega arith, front_fits _ c.args.self.now c.requires c.if-n-lt10.false)

pub put_byte-requires-else-n-lt10 : goal.put_byte-requires-else-n-lt10
put_byte-requires-else-n-lt10 t c = last_fits _ c.args.self.now c.requires c.if-n-lt10.false _ c.put_decimal.ensures

pub returns-else-n-lt10 : goal.returns-else-n-lt10
returns-else-n-lt10 t c =
    last_says _ _ c.requires c.if-n-lt10.false _ c.put_decimal.ensures _ _ refl c.put_byte-else-n-lt10.ensures
