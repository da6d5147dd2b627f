-- The loop over a round's positions but the last: `Left` says that those from i on and the last are still to be written from `next` on, and
-- that the text is then what was promised. Assumes nothing.
use mathlib.Core.Path.{◌≡◌, refl, sym, ◌∙◌}
use mathlib.Core.List.{List, [], ◌∷◌, ◌++◌, append-nil}
use Prim.Native.Nat.{ℕ, suc, ◌+◌, ◌≤◌, ◌<◌}
use native.Mathlib.Numerals.{add-one}
use native.Mathlib.Omega.{arith}
use lib.ListN.{length, drop, get_or, length-append, drop_of_length-le}
use lib.Seq.{sets, length-sets, drop-cons}
use Rattle.lists.specs.Written.{Written, written_length, written_as, written_rest}
use Rattle.listing.specs.Listing.{space, comma, field, position_list}
use Rattle.listing.proofs.TextLaws.{mark_last, mark_between}

module _ (others : List ℕ) (last at : ℕ) (text₀ : List ℕ) where
  abbrev pub all : List ℕ
  all = others ++ (last ∷ [])

  pub record Left (i next : ℕ) (text : List ℕ) : Type 0 where
    pub left : Written (position_list (drop i others ++ (last ∷ []))) next text (at + length (position_list all)) (sets text₀ at (position_list all))

  module _ (i next : ℕ) (text : List ℕ) (l : Left i next text) where
    pub left_length : length text ≡ length text₀
    left_length = sym (written_length (position_list (drop i others ++ (last ∷ []))) text _ next _ l.left) ∙ length-sets text₀ at (position_list all)

    module _ (less : i < length others) where
      apart : position_list (drop i others ++ (last ∷ [])) ≡ field (get_or others i 0) comma ++ position_list (drop (i + 1) others ++ (last ∷ []))
      unfolding position_list
      apart =
          let e : length (drop (suc i) others ++ (last ∷ [])) ≡ 0 → ⊥ = λ z. omega (arith, length-append (drop (suc i) others) (last ∷ [])) in
          rw (drop-cons others i 0 less, ← mark_between (length (drop (suc i) others ++ (last ∷ []))) e, add-one i) refl

      split : Written (field (get_or others i 0) comma ++ position_list (drop (i + 1) others ++ (last ∷ []))) next text (at + length (position_list all)) (sets text₀ at (position_list all))
      split = rw apart at l.left

      pub left_next : (text₁ : List ℕ) (mid : ℕ) → Written (field (get_or others i 0) comma) next text mid text₁ → Left (i + 1) mid text₁
      left_next text₁ mid w =
          record { left = written_rest (field (get_or others i 0) comma) (position_list (drop (i + 1) others ++ (last ∷ []))) text next text₁ mid w _ _ split }

      pub left_room : at + length (position_list all) ≤ length text₀ → next + length (field (get_or others i 0) comma) ≤ length text
      left_room room =
          let f : List ℕ = field (get_or others i 0) comma in
          let r : List ℕ = position_list (drop (i + 1) others ++ (last ∷ [])) in
          omega (arith, split.ends, left_length, length-append f r)

    -- only the last is left
    module _ (none : length others ≤ i) where
      final : Written (field last space) next text (at + length (position_list all)) (sets text₀ at (position_list all))
      unfolding position_list
      final = written_as _ _ _ _ _ _ one l.left
        where
          one : position_list (drop i others ++ (last ∷ [])) ≡ field last space
          one = rw (drop_of_length-le others none, ← mark_last 0 refl) (append-nil (field last space))

      pub last_room : at + length (position_list all) ≤ length text₀ → next + length (field last space) ≤ length text
      last_room room = omega (arith, final.ends, left_length)

      pub last_says : (text₁ : List ℕ) (end : ℕ) → Written (field last space) next text end text₁ → Written (position_list all) at text₀ end text₁
      last_says text₁ end w = record { ends = omega (arith, w.ends, final.ends); holds = w.holds ∙ sym final.holds }

-- no positions
pub no_positions : (list : List ℕ) (at : ℕ) (text : List ℕ) → length list ≡ 0 → Written (position_list list) at text at text
unfolding position_list
no_positions [] at text e = record { ends = omega arith; holds = refl }
no_positions (p ∷ ps) at text e = absurd (omega arith)
