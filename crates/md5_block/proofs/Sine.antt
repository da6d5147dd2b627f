-- Why 120 terms of the sine's series are enough for the additive words.
-- For x up to 64 the terms x^d/d! fall from degree 64 on and alternate in sign, so the sine lies between the sum of 120 terms and that
-- of 121. The checker computes that both have the same integer part times 2 ^ 32, for each of the 64 words. Assumes nothing.
use Rattle.std.proofs.Common.{◌≡◌, ℕ, ◌+◌, ◌<◌, Bool, eqb, eqb→eq}
use Rattle.tables.specs.Tabled.{below}
use Rattle.md5_block.specs.Md5.{sine, additive}

settled : ℕ → Bool
settled i = eqb (additive i) (sine 121 (i + 1))

pub terms_enough : (i : ℕ) → i < 64 → additive i ≡ sine 121 (i + 1)
unfolding settled additive sine
terms_enough i h = eqb→eq (additive i) (sine 121 (i + 1)) (below settled 64 tt i h)
