-- A word as one number, the first of its four bytes lowest: a byte's place there is a lane. The contract of the code's own
-- `doubled` cites these, and the proofs of what is done to all four at once; the cipher's definition does not need them. Assumes nothing.
use Rattle.std.specs.Prelude.{◌≡◌, ℕ, ◌+◌, ◌*◌, ◌/◌, ◌%◌, ◌^◌, ◌<◌}
use Rattle.std.specs.Int.Bits.{bit_and}
use Rattle.aes.specs.Aes.{◌⊕◌}

-- the number whose lanes are a, b, c and d
abbrev pub word : ℕ → ℕ → ℕ → ℕ → ℕ
word a b c d = ((d * 256 + c) * 256 + b) * 256 + a

-- w is that number, of four bytes
pub record Lanes (w a b c d : ℕ) : Type 0 where
  pub is : w ≡ word a b c d
  pub a_byte : a < 256
  pub b_byte : b < 256
  pub c_byte : c < 256
  pub d_byte : d < 256

-- each lane's product with x: the high bits take 0x1b, the others move
unfoldable pub double : ℕ → ℕ
double w = 0x1b * (bit_and w 0x80808080 / 128) ⊕ bit_and w 0x7f7f7f7f * 2 % 2 ^ 32
