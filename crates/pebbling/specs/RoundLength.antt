-- How many values a round leaves, whatever values it is run on: as many as the positions held after it. Assumes nothing.
use Rattle.std.specs.Prelude.{◌≡◌, Bool, cond, ◌⊎◌, take, drop}
use Rattle.std.proofs.Math.Path.{refl}
use Rattle.std.proofs.Common.{ap, ◌∙◌, inl, inr, eq-or-lt_of_le, add-zero, length-append, length-take, length-drop}
use Rattle.std.proofs.Math.Bool.{true, false}
use mathlib.Core.List.{List, [], ◌∷◌}
use Prim.Native.Nat.{ℕ, zero, suc, ◌+◌, ◌-◌, ◌^◌, ◌≤◌, ◌<◌}
use native.Mathlib.Omega.{arith}
use Rattle.std.proofs.Math.ListN.{length}
use Rattle.pebbling.specs.Len.{lt_or_le}
use Rattle.pebbling.specs.Recursion.{done, held, finished, hash, hashes, positions, round}
use Rattle.pebbling.specs.SideBySide.{held_some, side_positions, positions_itself, positions_children, side_positions_both, side_positions_last, side_positions_late, side_held_count, side_length}
use Rattle.pebbling.specs.Turns.{side_round, round_prepare, round_out_lem, round_children, side_round_both, side_round_last, side_round_late}
use Rattle.pebbling.specs.OnePebbler.{places_length, held_all, held_begin, held_on}
use Rattle.pebbling.specs.HashesDone.{Fair, done_suc, done_all, done_fits}
use Rattle.pebbling.specs.ChainRound.{children_begin}

module _ {A : Type 0} (f : A → A) where
  hash_length : (k h a : ℕ) (ys : List A) → suc h < 2 ^ k → length ys ≡ length (held k h a) → length (hash f k h ys) ≡ length (held k (suc h) a)
  unfolding hash
  hash_length k h a [] b e = absurd (omega (arith, held_some k h a))
  hash_length k h a (y ∷ ys) b e = go (finished k h) refl
    where
      go : (c : Bool) → finished k h ≡ c → length (cond (finished k h) (f y ∷ y ∷ ys) (f y ∷ ys)) ≡ length (held k (suc h) a)
      go true c = rw c (omega (arith, held_begin k h a a b c))
      go false c = rw c (omega (arith, held_on k h a a b c))

  hashes_length : (k h n a : ℕ) (ys : List A) → h + n < 2 ^ k → length ys ≡ length (held k h a) → length (hashes f k h n ys) ≡ length (held k (h + n) a)
  unfolding hashes
  hashes_length k h zero a ys b e = rw (add-zero h) e
  hashes_length k h (suc n) a ys b e =
      let d : h + suc n ≡ suc h + n = omega arith in
      rw d (hashes_length k (suc h) n a (hash f k h ys) (omega arith) (hash_length k h a ys (omega arith) e))

  module _ (t : ℕ → ℕ → ℕ) (t_fair : Fair t) where
    prepared : (k r a : ℕ) (ys : List A) → 0 < r → r < 2 ^ k → length ys ≡ length (held k (done t k r) a) → length (hashes f k (done t k r) (t k r) ys) ≡ length (held k (done t k (suc r)) a)
    prepared k r a ys p h e = rw (done_suc t k r p) (hashes_length k (done t k r) (t k r) a ys (done_fits t t_fair k r p h) e)

    handed_over : (k r a : ℕ) (ys : List A) → r ≡ 2 ^ k → length ys ≡ length (held k (done t k r) a) → length (drop 1 ys) ≡ length (side_positions t k 1 a)
    handed_over k r a ys h e =
        let n : length ys ≡ suc k = e ∙ rw (done_all t t_fair k r h, held_all k a) (places_length k 0 (suc k) a) in
        length-drop 1 ys ∙ rw (children_begin t k a) (omega (arith, places_length k 1 k a))

    side_round_lem : (k n : ℕ) (ys : List A) → 0 < n → n < 2 ^ k → length ys ≡ side_held_count t k n → length (side_round t f k n ys) ≡ side_held_count t k (suc n)
    side_round_lem zero n ys p h e = absurd (omega arith)
    side_round_lem (suc k) n ys p h e = go (λ n ys p h e. side_round_lem k n ys p h e) (lt_or_le (2 ^ k) n)
      where
        go : ((n : ℕ) (ys : List A) → 0 < n → n < 2 ^ k → length ys ≡ side_held_count t k n → length (side_round t f k n ys) ≡ side_held_count t k (suc n))
            → (2 ^ k < n) ⊎ (n ≤ 2 ^ k) → length (side_round t f (suc k) n ys) ≡ side_held_count t (suc k) (suc n)
        go ih (inl g) =
            let d : suc n - 2 ^ k ≡ suc (n - 2 ^ k) = omega arith in
            rw (side_round_late t f k n ys g, side_positions_late t k (suc n) 0 (omega arith), d)
            (ih (n - 2 ^ k) ys (omega arith) (omega arith) (e ∙ ap length (side_positions_late t k n 0 g)))
        go ih (inr g) = by (eq-or-lt_of_le g)
          where
            by : (n ≡ 2 ^ k) ⊎ (n < 2 ^ k) → length (side_round t f (suc k) n ys) ≡ side_held_count t (suc k) (suc n)
            by (inl q) =
                let d : suc n - 2 ^ k ≡ 1 = omega arith in
                rw (side_round_last t f k n ys q e, side_positions_late t k (suc n) 0 (omega arith), d)
                (handed_over k n 0 ys q (e ∙ ap length (side_positions_last t k n 0 q)))
            by (inr l) =
                let m : ℕ = side_held_count t k n in
                let w : length ys ≡ m + length (held k (done t k n) 0) =
                e ∙ ap length (side_positions_both t k n 0 g) ∙ length-append (side_positions t k n (0 + 2 ^ k)) (held k (done t k n) 0) ∙ rw (side_length t k n (0 + 2 ^ k)) refl in
                let a : length (take m ys) ≡ m = length-take m ys ∙ omega arith in
                let b : length (drop m ys) ≡ length (held k (done t k n) 0) = length-drop m ys ∙ omega arith in
                rw (side_round_both t f k n ys l e, side_positions_both t k (suc n) 0 l)
                (simp length-append (omega (arith, ih n (take m ys) p l a, prepared k n 0 (drop m ys) p l b, side_length t k (suc n) (0 + 2 ^ k))))

    pub round_length : (k r : ℕ) (ys : List A) → 0 < r → r < 2 ^ suc k → length ys ≡ length (positions t k r 0) → length (round t f k r ys) ≡ length (positions t k (suc r) 0)
    round_length k r ys p h e = go (lt_or_le (2 ^ k) r)
      where
        go : (2 ^ k < r) ⊎ (r ≤ 2 ^ k) → length (round t f k r ys) ≡ length (positions t k (suc r) 0)
        go (inl g) =
            let d : suc r - 2 ^ k ≡ suc (r - 2 ^ k) = omega arith in
            rw (round_children t f k r ys g, positions_children t k (suc r) 0 (omega arith), d)
            (side_round_lem k (r - 2 ^ k) ys (omega arith) (omega arith) (e ∙ ap length (positions_children t k r 0 g)))
        go (inr g) = by (eq-or-lt_of_le g)
          where
            own : length ys ≡ length (held k (done t k r) 0)
            own = e ∙ ap length (positions_itself t k r 0 g)

            by : (r ≡ 2 ^ k) ⊎ (r < 2 ^ k) → length (round t f k r ys) ≡ length (positions t k (suc r) 0)
            by (inl q) =
                let d : suc r - 2 ^ k ≡ 1 = omega arith in
                rw (round_out_lem t f k r ys q own, positions_children t k (suc r) 0 (omega arith), d) (handed_over k r 0 ys q own)
            by (inr l) = rw (round_prepare t f k r ys l own, positions_itself t k (suc r) 0 l) (prepared k r 0 ys p l own)
