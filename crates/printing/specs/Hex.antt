-- Bytes in hexadecimal, with the letters a to f. Assumes nothing.
use Rattle.std.specs.Prelude.{cond, List, [], ◌∷◌, ℕ, ◌+◌, ◌/◌, ◌%◌, ltb}

-- 0 to 9, and then a to f
unfoldable pub digit_of : ℕ → ℕ
digit_of n = cond (ltb n 10) (48 + n) (87 + n)

abbrev pub digits_of : ℕ → List ℕ
digits_of byte = digit_of (byte / 16) ∷ digit_of (byte % 16) ∷ []
