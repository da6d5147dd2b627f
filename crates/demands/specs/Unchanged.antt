-- The refusal's number in a word. That a refusal leaves every lent buffer as it was is in proofs/Unchanged.antt. Assumes nothing.
use Rattle.std.specs.Prelude.{ℕ, ◌%◌, ◌^◌}

-- ---- the exported functions: a word with a refusal's number

-- bits 0-7: the refusal's number, 0 for none
abbrev pub number_in : ℕ → ℕ
number_in word = word % 2 ^ 8
