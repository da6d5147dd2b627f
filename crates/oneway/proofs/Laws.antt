-- Laws of MD5 over 16 bytes: four words as bytes, and the block laid out around a value. Assumes nothing.
use mathlib.Core.Path.{◌≡◌, refl, sym, ap, ◌∙◌}
use mathlib.Core.List.{List, [], ◌∷◌, ◌++◌}
use Prim.Native.Nat.{ℕ}
use native.Mathlib.Nat.{div-div-eq-div-mul}
use native.Mathlib.Omega.{arith}
use lib.Dec.{T, ltb→lt}
use lib.ListN.{length, get_or, set, replicate}
use Rattle.md5_block.specs.Md5.{block_of}
use Rattle.std.specs.Int.{w32, to_le_bytes}
use Rattle.std.proofs.lemmas.List.{set-append_right}
use Rattle.oneway.specs.declared.Chain.{Chain}
use Rattle.oneway.specs.Step.{known, little_endian_words, padded, initial, digest, step_by, step}

-- four words' bytes, as the library takes them: by quotients of the word itself
pub words_bytes : (s : List ℕ) → length s ≡ 4
    → to_le_bytes w32 (get_or s 0 0) ++ (to_le_bytes w32 (get_or s 1 0) ++ (to_le_bytes w32 (get_or s 2 0) ++ to_le_bytes w32 (get_or s 3 0)))
    ≡ little_endian_words s
unfolding little_endian_words
words_bytes [] l = absurd (omega arith)
words_bytes (a ∷ []) l = absurd (omega arith)
words_bytes (a ∷ b ∷ []) l = absurd (omega arith)
words_bytes (a ∷ b ∷ c ∷ []) l = absurd (omega arith)
words_bytes (a ∷ b ∷ c ∷ d ∷ []) l = simp div-div-eq-div-mul
words_bytes (a ∷ b ∷ c ∷ d ∷ e ∷ s) l = absurd (omega arith)

-- the block behind the value, before the two bytes are written
pub laid_padded : (v : List ℕ) → length v ≡ 16 → set (set (v ++ replicate 48 0) 16 0x80) 56 128 ≡ padded v
unfolding padded
laid_padded v l =
    ap (λ (b : List ℕ). set b 56 128) (set-append_right v (replicate 48 0) 16 16 0x80 l (omega arith))
    ∙ set-append_right v _ 16 56 128 l (omega arith)
    ∙ rw l refl

-- the block from the initial state, and its words as bytes
pub digest_is : (v : List ℕ) {b s r : List ℕ} → b ≡ padded v → s ≡ block_of initial b → r ≡ little_endian_words s → r ≡ digest v
unfolding digest
digest_is v e f g = g ∙ ap little_endian_words (f ∙ ap (block_of initial) e)

-- a chain of function 0 and one of function 1, whose number is known and not 0
pub step_0 : (chain : Chain) (v : List ℕ) {r : List ℕ} → chain.function ≡ 0 → r ≡ digest v → r ≡ step chain v
unfolding step step_by
step_0 chain v e f = f ∙ ap (λ (n : ℕ). step_by n v) (sym e)

pub step_1 : (chain : Chain) (v : List ℕ) {r : List ℕ} → T (known chain.function) → (chain.function ≡ 0 → ⊥) → r ≡ step_by 1 v → r ≡ step chain v
unfolding known step
step_1 chain v t n f =
    let e : 1 ≡ chain.function = omega (arith, ltb→lt chain.function 2 t) in
    f ∙ ap (λ (m : ℕ). step_by m v) e
