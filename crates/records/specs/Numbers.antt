-- Numbers in bytes, low byte first. Assumes nothing.
use Rattle.std.specs.Prelude.{◌≡◌, List, [], ◌∷◌, ℕ, zero, suc, ◌+◌, ◌*◌, ◌/◌, ◌^◌, ◌<◌}
use Rattle.std.proofs.Math.Nat.{pow-succ'}
use Rattle.std.proofs.Common.{arith}
use Rattle.oneway.specs.Step.{little_endian}

-- bytes as a number
unfoldable pub number : List ℕ → ℕ
number [] = 0
number (x ∷ xs) = x + 256 * number xs

-- a number that is written in n bytes is read back
pub number_read : (n x : ℕ) → x < 256 ^ n → number (little_endian n x) ≡ x
unfolding number
number_read zero x h = omega arith
number_read (suc n) x h =
    let l : x / 256 < 256 ^ n = omega (arith, pow-succ' 256 n) in
    rw (number_read n (x / 256) l) (omega arith)
