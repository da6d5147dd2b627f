-- `listing::text::Page::put_decimal` meets its contract. The measure is the number: the digits but the last are those of n / 10, which is
-- below n. Assumes nothing.
use Rattle.listing.proofs.text.Page.+put_decimal.Given as goal

abbrev pub decreases-put_decimal : goal.decreases-put_decimal
decreases-put_decimal l = l.n
