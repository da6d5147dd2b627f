-- The round keys as the code makes and keeps them: four words at a time, and as sixteen bytes each. The contracts of the code's own
-- functions cite these; the cipher's definition does not need them. Assumes nothing.
use Rattle.std.specs.Prelude.{◌≡◌, List, [], ◌∷◌, ℕ, ◌<◌, get_or}
use Rattle.aes.specs.Aes.{columns, xor_words, sub_word, rot_word, round_key, key_expansion}

-- the four words that follow the four of k; x is the first byte of Rcon
unfoldable pub next_round_key : List (List ℕ) → ℕ → List (List ℕ)
next_round_key k x =
    let w₀ = xor_words (get_or k 0 []) (xor_words (sub_word (rot_word (get_or k 3 []))) (x ∷ 0 ∷ 0 ∷ 0 ∷ [])) in
    let w₁ = xor_words (get_or k 1 []) w₀ in
    let w₂ = xor_words (get_or k 2 []) w₁ in
    let w₃ = xor_words (get_or k 3 []) w₂ in
    w₀ ∷ w₁ ∷ w₂ ∷ w₃ ∷ []

-- the key of round j, as four words, out of the round keys' bytes
abbrev pub key_of : List (List ℕ) → ℕ → List (List ℕ)
key_of keys j = columns (get_or keys j [])

-- the first n of keys are the key's round keys
pub record RoundKeys (n : ℕ) (key : List ℕ) (keys : List (List ℕ)) : Type 0 where
  pub at : (j : ℕ) → j < n → key_of keys j ≡ round_key (key_expansion key) j
