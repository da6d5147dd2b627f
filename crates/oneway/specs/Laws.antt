-- What callers know of `width` and `step` without opening them: a step gives a value of the chain's width, and bytes stay bytes.
-- Assumes nothing.
use Rattle.std.specs.Prelude.{◌≡◌, refl, true, List, [], ◌∷◌, ℕ, zero, suc, ◌/◌, ◌%◌, ◌≤◌, ◌<◌, length, replicate}
use Rattle.std.proofs.Common.{arith, ltb-true}
use Rattle.lists.specs.Bytes.{Bytes, bytes_none, bytes_cons, bytes_append}
use Rattle.md5_block.specs.Md5.{added, block_of}
use Rattle.aes.specs.Bounds.{cipher_length, cipher_bytes}
use Rattle.oneway.specs.declared.Chain.{Chain}
use Rattle.oneway.specs.Step.{known, width, little_endian, little_endian_words, padded, initial, digest, step_by, step}

pub width_positive : (chain : Chain) → 0 < width chain
unfolding width
width_positive chain = omega arith

pub width_small : (chain : Chain) → width chain ≤ 16
unfolding width
width_small chain = omega arith

-- a known function's number fits a byte
pub known_byte : (function : ℕ) → known function ≡ true → function ≤ 255
unfolding known
known_byte function e = omega (arith, ltb-true function 2 e)

digest_length : (m : List ℕ) → length (digest m) ≡ 16
unfolding digest little_endian_words block_of added
digest_length m = refl

little_endian_bytes : (n x : ℕ) → Bytes (little_endian n x)
little_endian_bytes zero x = bytes_none
little_endian_bytes (suc n) x = bytes_cons (x % 256) (little_endian n (x / 256)) (omega arith) (little_endian_bytes n (x / 256))

words_bytes : (l : List ℕ) → Bytes (little_endian_words l)
unfolding little_endian_words
words_bytes [] = bytes_none
words_bytes (x ∷ l) = bytes_append (little_endian 4 x) (little_endian_words l) (little_endian_bytes 4 x) (words_bytes l)

digest_bytes : (m : List ℕ) → Bytes (digest m)
unfolding digest
digest_bytes m = words_bytes (block_of initial (padded m))

-- a step gives a value of the same width
pub step_length : (chain : Chain) (value : List ℕ) → length value ≡ width chain → length (step chain value) ≡ width chain
unfolding width step_by step
step_length chain value e = by_function chain.function
  where
    by_function : (n : ℕ) → length (step_by n value) ≡ 16
    by_function zero = digest_length value
    by_function (suc zero) = cipher_length value (replicate 16 0)
    by_function (suc (suc n)) = e

-- .. and of bytes, bytes
pub step_bytes : (chain : Chain) (value : List ℕ) → Bytes value → Bytes (step chain value)
unfolding step_by step
step_bytes chain value b = by_function chain.function
  where
    by_function : (n : ℕ) → Bytes (step_by n value)
    by_function zero = digest_bytes value
    by_function (suc zero) = cipher_bytes value (replicate 16 0) (λ i l. b i)
    by_function (suc (suc n)) = b
