-- The one-way functions of docs/RULES.md, "Chain, card and post", and the two things that everything above speaks of: how wide a chain's
-- values are, and what comes after a value. Assumes nothing.
use Rattle.std.specs.Prelude.{Bool, List, [], ◌∷◌, ◌++◌, ℕ, zero, suc, ◌-◌, ◌*◌, ◌/◌, ◌%◌, ltb, length, replicate}
use Rattle.md5_block.specs.Md5.{block_of}
use Rattle.aes.specs.Aes.{cipher}
use Rattle.oneway.specs.declared.Chain.{Chain}

-- the function numbers that exist: 0 and 1
unfoldable pub known : ℕ → Bool
known function = ltb function 2

-- a value is 16 bytes
unfoldable pub width : Chain → ℕ
width chain = 16

-- n bytes of a number, the low byte first
abbrev pub little_endian : ℕ → ℕ → List ℕ
little_endian zero x = []
little_endian (suc n) x = x % 256 ∷ little_endian n (x / 256)

-- words of 32 bits as bytes, the low byte of each first
unfoldable pub little_endian_words : List ℕ → List ℕ
little_endian_words [] = []
little_endian_words (x ∷ xs) = little_endian 4 x ++ little_endian_words xs

-- a message of under 56 bytes as one block: the message, byte 0x80, zeros, and its length in bits as 64 bits, low byte first
unfoldable pub padded : List ℕ → List ℕ
padded m = m ++ (0x80 ∷ (replicate (55 - length m) 0 ++ little_endian 8 (8 * length m)))

-- RFC 1321, section 3.3
abbrev pub initial : List ℕ
initial = 0x6745_2301 ∷ 0xefcd_ab89 ∷ 0x98ba_dcfe ∷ 0x1032_5476 ∷ []

-- MD5 of such a message
unfoldable pub digest : List ℕ → List ℕ
digest m = little_endian_words (block_of initial (padded m))

-- what comes after a value: by function 0 its MD5, by function 1 the all-zero block under it as the key of AES-128. Nothing asks for
-- the step of another number
unfoldable pub step_by : ℕ → List ℕ → List ℕ
step_by zero value = digest value
step_by (suc zero) value = cipher value (replicate 16 0)
step_by (suc (suc n)) value = value

unfoldable pub step : Chain → List ℕ → List ℕ
step chain value = step_by chain.function value
