-- The key expansion, read four words at a time. A word, once it is there, stays where it is, so the rule that makes w[i] holds of the
-- whole list. Where i is a multiple of 4 the rule changes the word before and adds Rcon, and elsewhere it does not: that is how the
-- code makes a round key from the one before. Assumes nothing.
use mathlib.Core.Path.{◌≡◌, refl, sym, ap, ap₂, ◌∙◌, subst}
use mathlib.Core.List.{List, [], ◌∷◌}
use mathlib.Core.Logic.{⊎_elim}
use Prim.Native.Nat.{ℕ, zero, suc, ◌+◌, ◌-◌, ◌*◌, ◌/◌, ◌%◌, ◌<◌}
use native.Mathlib.Nat.{ne_of_lt, le_of_suc-le-suc, not-suc-le-zero, eq-or-lt_of_le}
use native.Mathlib.Omega.{arith}
use borrow.Author.Tests.{eq-eqb, ne_eqb}
use borrow.Author.Count.{below_more}
use lib.Dec.{eqb, eqb→eq}
use lib.ListN.{length, get_or, set, length-append, get_or-append}
use lib.Seq.{get_or_at, get_or-set_same, get_or-set_other}
use Rattle.tables.specs.Tabled.{below}
use Rattle.aes.specs.Aes.{columns, xtimes, ◌•◌, power_of, xor_words, sub_word, rot_word, rcon, temp, expand, key_expansion, round_key}
use Rattle.aes.specs.Schedule.{next_round_key, key_of, RoundKeys}

expand_length : (key : List ℕ) (n : ℕ) → length (expand key n) ≡ n + 4
unfolding expand
expand_length key zero = refl
expand_length key (suc n) = simp length-append (omega (arith, expand_length key n))

-- w[n + 4], as it is added
abbrev next : List (List ℕ) → ℕ → List ℕ
next w n = xor_words (get_or w n []) (temp (n + 4) (get_or w (n + 3) []))

-- the words that are there stay
expand_keeps : (key : List ℕ) (n i : ℕ) → i < n + 4 → get_or (expand key (suc n)) i [] ≡ get_or (expand key n) i []
unfolding expand
expand_keeps key n i h =
    let l : i < length (expand key n) = omega (arith, expand_length key n) in
    get_or-append (expand key n) (next (expand key n) n ∷ []) [] i l

expand_last : (key : List ℕ) (n : ℕ) → get_or (expand key (suc n)) (n + 4) [] ≡ next (expand key n) n
unfolding expand
expand_last key n = get_or_at (expand key n) (next (expand key n) n) [] [] (n + 4) (expand_length key n)

-- each word after the fourth, in any list that has it
expand_next : (key : List ℕ) (m n : ℕ) → n < m → get_or (expand key m) (n + 4) [] ≡ next (expand key m) n
expand_next key zero n h = absurd (not-suc-le-zero h)
expand_next key (suc m) n h =
    let p = expand_keeps key m n (omega arith) in
    let q = expand_keeps key m (n + 3) (omega arith) in
    ⊎_elim
    (λ e. rw (p, q) (subst (λ (k : ℕ). get_or (expand key (suc m)) (k + 4) [] ≡ next (expand key m) k) (sym e) (expand_last key m)))
    (λ l. rw (p, q, expand_keeps key m (n + 4) (omega arith)) (expand_next key m n l))
    (eq-or-lt_of_le (le_of_suc-le-suc h))

-- the same of the whole expansion: w[i] from a = i - 4 and b = i - 1
word : (key : List ℕ) (i a b : ℕ) → i ≡ a + 4 → b ≡ a + 3 → a < 40
    → get_or (key_expansion key) i [] ≡ xor_words (get_or (key_expansion key) a []) (temp i (get_or (key_expansion key) b []))
unfolding key_expansion
word key i a b e f h = rw (e, f) (expand_next key 40 a h)

-- what the first word of a round key is added to
temp_first : (j : ℕ) (last : List ℕ) → temp (4 * (j + 1) + 0) last ≡ xor_words (sub_word (rot_word last)) (power_of 4 2 j ∷ 0 ∷ 0 ∷ 0 ∷ [])
unfolding temp rcon
temp_first j last =
    let e : (4 * (j + 1) + 0) % 4 ≡ 0 = omega arith in
    let f : (4 * (j + 1) + 0) / 4 - 1 ≡ j = omega arith in
    rw (eq-eqb _ _ e, f)

-- and the other three
temp_other : (i : ℕ) (last : List ℕ) → (i % 4 ≡ 0 → ⊥) → temp i last ≡ last
unfolding temp
temp_other i last h = rw (ne_eqb _ _ h)

-- a round key from the one before
pub round_key_next : (key : List ℕ) (j : ℕ) → j < 10
    → next_round_key (round_key (key_expansion key) j) (power_of 4 2 j) ≡ round_key (key_expansion key) (j + 1)
unfolding round_key next_round_key
round_key_next key j h =
    let p = word key (4 * (j + 1) + 0) (4 * j + 0) (4 * j + 3) (omega arith) (omega arith) (omega arith) in
    let q = word key (4 * (j + 1) + 1) (4 * j + 1) (4 * (j + 1) + 0) (omega arith) (omega arith) (omega arith) in
    let r = word key (4 * (j + 1) + 2) (4 * j + 2) (4 * (j + 1) + 1) (omega arith) (omega arith) (omega arith) in
    let s = word key (4 * (j + 1) + 3) (4 * j + 3) (4 * (j + 1) + 2) (omega arith) (omega arith) (omega arith) in
    cc (
      temp_first j (get_or (key_expansion key) (4 * j + 3) []),
      temp_other (4 * (j + 1) + 1) (get_or (key_expansion key) (4 * (j + 1) + 0) []) (omega arith),
      temp_other (4 * (j + 1) + 2) (get_or (key_expansion key) (4 * (j + 1) + 1) []) (omega arith),
      temp_other (4 * (j + 1) + 3) (get_or (key_expansion key) (4 * (j + 1) + 2) []) (omega arith),
    )

-- the first byte of Rcon, from round to round
pub power-next : (j : ℕ) → j < 10 → xtimes (power_of 4 2 j) ≡ power_of 4 2 (j + 1)
unfolding xtimes ◌•◌ power_of
power-next j h = eqb→eq (xtimes (power_of 4 2 j)) (power_of 4 2 (j + 1)) (below (λ k. eqb (xtimes (power_of 4 2 k)) (power_of 4 2 (k + 1))) 10 tt j h)

-- the key is round key 0
pub first_key : (key : List ℕ) (rest : List (List ℕ)) → RoundKeys 1 key (key ∷ rest)
unfolding round_key key_expansion expand
first_key key rest = record { at = λ j h. let e : j ≡ 0 = omega arith in rw e }

-- and each further one is made from the one before
pub more_keys : (key : List ℕ) (keys : List (List ℕ)) (n x : ℕ) (next : List ℕ)
    → n < 10
    → n + 1 < length keys
    → x ≡ power_of 4 2 n
    → columns next ≡ next_round_key (key_of keys n) x
    → RoundKeys (n + 1) key keys
    → RoundKeys (n + 1 + 1) key (set keys (n + 1) next)
more_keys key keys n x next h l e f all =
    record {
      at =
          below_more (λ (j : ℕ). key_of (set keys (n + 1) next) j ≡ round_key (key_expansion key) j) (n + 1)
          (λ j b. ap columns (get_or-set_other keys (n + 1) j next [] (ne_of_lt b)) ∙ all.at j b)
          (ap columns (get_or-set_same keys (n + 1) next [] l) ∙ f ∙ ap₂ next_round_key (all.at n (omega arith)) e ∙ round_key_next key n h);
    }
