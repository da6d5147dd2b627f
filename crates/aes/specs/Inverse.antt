-- The definition's inverse is one: the checker computes the product of each byte with its inverse. Assumes nothing.
use Rattle.std.specs.Prelude.{◌≡◌, ℕ, zero, suc, ◌<◌, eqb}
use Rattle.std.proofs.Common.{le_of_suc-le-suc, not-suc-le-zero, eqb→eq}
use Rattle.tables.specs.Tabled.{below}
use Rattle.aes.specs.Aes.{xtimes, ◌•◌, power_of, inverse}

pub inverse_is : (b : ℕ) → 0 < b → b < 256 → b • inverse b ≡ 1
unfolding xtimes ◌•◌ power_of inverse
inverse_is zero h l = absurd (not-suc-le-zero h)
inverse_is (suc b) h l = eqb→eq (suc b • inverse (suc b)) 1 (below (λ k. eqb (suc k • inverse (suc k)) 1) 255 tt b (le_of_suc-le-suc l))
