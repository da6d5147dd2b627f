-- P_(j+1) past its round 2^(j+1), as two P_j: the one over the upper half in round 2^j + n, whose values stand first, and the one over the lower half in
-- round n. Counts, hashes and a round on values. Once n is 2^j the upper one has ended. Assumes nothing.
use mathlib.Core.Path.{◌≡◌, refl, sym, ap, ◌∙◌}
use mathlib.Core.Logic.{◌⊎◌, inl, inr}
use mathlib.Core.List.{List, ◌++◌}
use Prim.Native.Nat.{ℕ, suc, ◌+◌, ◌-◌, ◌^◌, ◌≤◌, ◌<◌}
use native.Mathlib.Nat.{add-suc, eq-or-lt_of_le}
use native.Mathlib.Omega.{arith}
use lib.ListN.{length, take, drop, length-append, length-drop}
use Rattle.pebbling.specs.Recursion.{done, held, positions, work, round}
use Rattle.pebbling.specs.SideBySide.{side_held_count, side_positions_last, positions_itself, positions_children, positions_split, positions_length, positions_ended, work_split, work_ended}
use Rattle.pebbling.specs.Turns.{round_prepare, round_out_lem, round_children, side_round, side_round_both, side_round_last, side_round_late}

module _ (t : ℕ → ℕ → ℕ) (j n : ℕ) (0<n : 0 < n) where
  -- ---- how many are held before the round and after it

  split : (x : ℕ) → 0 < x
      → length (positions t (suc j) (2 ^ suc j + x) 0) ≡ length (positions t j (2 ^ j + x) 0) + length (positions t j x 0)
  split x p =
      ap length (positions_split t j x 0 p)
      ∙ length-append (positions t j (2 ^ j + x) (0 + 2 ^ j)) (positions t j x 0)
      ∙ rw (positions_length t j (2 ^ j + x) (0 + 2 ^ j)) refl

  pub held_before : length (positions t (suc j) (2 ^ suc j + n) 0) ≡ length (positions t j (2 ^ j + n) 0) + length (positions t j n 0)
  held_before = split n 0<n

  pub held_count_after : length (positions t (suc j) (suc (2 ^ suc j + n)) 0) ≡ length (positions t j (suc (2 ^ j + n)) 0) + length (positions t j (suc n) 0)
  held_count_after = rw (add-suc (2 ^ suc j) n, add-suc (2 ^ j) n) at (split (suc n) (omega arith))

  -- ---- the children of P_(j+1) are what it is then

  past : 2 ^ suc j + n - 2 ^ suc j ≡ n
  past = omega arith

  children_held : length (positions t (suc j) (2 ^ suc j + n) 0) ≡ side_held_count t (suc j) n
  children_held = ap length (positions_children t (suc j) (2 ^ suc j + n) 0 (omega arith)) ∙ ap (side_held_count t (suc j)) past

  module _ {A : Type 0} (f : A → A) (ys : List A) where
    children_round : round t f (suc j) (2 ^ suc j + n) ys ≡ side_round t f (suc j) n ys
    children_round = round_children t f (suc j) (2 ^ suc j + n) ys (omega arith) ∙ ap (λ (x : ℕ). side_round t f (suc j) x ys) past

  -- ---- the upper one has ended

  module _ (late : 2 ^ j ≤ n) where
    pub alone_before : length (positions t (suc j) (2 ^ suc j + n) 0) ≡ length (positions t j n 0)
    alone_before = omega (arith, held_before, ap length (positions_ended t j (2 ^ j + n) 0 (omega arith)))

    pub alone_after : length (positions t (suc j) (suc (2 ^ suc j + n)) 0) ≡ length (positions t j (suc n) 0)
    alone_after = omega (arith, held_count_after, ap length (positions_ended t j (suc (2 ^ j + n)) 0 (omega arith)))

    pub alone_works : work t (suc j) (2 ^ suc j + n) ≡ work t j n
    alone_works = omega (arith, work_split t j n 0<n, work_ended t j (2 ^ j + n) (omega arith))

    pub alone_round : {A : Type 0} (f : A → A) (ys : List A) → length ys ≡ length (positions t j n 0) → round t f (suc j) (2 ^ suc j + n) ys ≡ round t f j n ys
    alone_round f ys e = children_round f ys ∙ go (eq-or-lt_of_le late)
      where
        go : (2 ^ j ≡ n) ⊎ (2 ^ j < n) → side_round t f (suc j) n ys ≡ round t f j n ys
        go (inl q) =
            let own : length ys ≡ length (held j (done t j n) 0) = e ∙ ap length (positions_itself t j n 0 (omega arith)) in
            side_round_last t f j n ys (sym q) (own ∙ sym (ap length (side_positions_last t j n 0 (sym q)))) ∙ sym (round_out_lem t f j n ys (sym q) own)
        go (inr q) = side_round_late t f j n ys q ∙ sym (round_children t f j n ys q)

  -- ---- both run: the lower one prepares

  module _ (early : n < 2 ^ j) where
    pub both_round : {A : Type 0} (f : A → A) (ys : List A) → length ys ≡ length (positions t j (2 ^ j + n) 0) + length (positions t j n 0)
        → round t f (suc j) (2 ^ suc j + n) ys
        ≡ round t f j (2 ^ j + n) (take (length (positions t j (2 ^ j + n) 0)) ys) ++ round t f j n (drop (length (positions t j (2 ^ j + n) 0)) ys)
    both_round f ys e =
        let d : 2 ^ j + n - 2 ^ j ≡ n = omega arith in
        let m : length (positions t j (2 ^ j + n) 0) ≡ side_held_count t j n = ap length (positions_children t j (2 ^ j + n) 0 (omega arith)) ∙ ap (side_held_count t j) d in
        let own : length (drop (side_held_count t j n) ys) ≡ length (held j (done t j n) 0) =
        length-drop (side_held_count t j n) ys ∙ omega (arith, ap length (positions_itself t j n 0 (omega arith))) in
        let upper = ap (λ (x : ℕ). side_round t f j x (take (side_held_count t j n) ys)) d in
        rw m
        (children_round f ys
        ∙ side_round_both t f j n ys early (e ∙ sym held_before ∙ children_held)
        ∙ rw (round_children t f j (2 ^ j + n) (take (side_held_count t j n) ys) (omega arith), d, round_prepare t f j n (drop (side_held_count t j n) ys) early own) refl)
