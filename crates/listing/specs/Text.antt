-- A number in decimal, as bytes. Assumes nothing.
use Rattle.std.specs.Prelude.{cond, List, [], ◌∷◌, ◌++◌, ℕ, zero, suc, ◌+◌, ◌/◌, ◌%◌, ltb}

-- a digit in ASCII
abbrev pub digit : ℕ → ℕ
digit d = 48 + d

-- a number in decimal, without leading zeros: at most so many digits before the last one, of which n are enough
unfoldable pub decimal_in : ℕ → ℕ → List ℕ
decimal_in zero n = digit (n % 10) ∷ []
decimal_in (suc more) n = cond (ltb n 10) (digit n ∷ []) (decimal_in more (n / 10) ++ (digit (n % 10) ∷ []))

unfoldable pub decimal : ℕ → List ℕ
decimal n = decimal_in n n
