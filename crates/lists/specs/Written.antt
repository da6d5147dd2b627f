-- Pieces written into a list from a place on: two pieces, the second where the first ended, are one piece, and there is room for each
-- where there is room for all. Assumes nothing.
use Rattle.std.specs.Prelude.{◌≡◌, refl, List, [], ◌∷◌, ◌++◌, ℕ, suc, ◌+◌, ◌-◌, ◌≤◌, length, take, drop, set}
use Rattle.std.proofs.Common.{sym, ap, ◌∙◌, append_assoc, add-zero, arith, length-append, drop-drop}
use Rattle.std.proofs.lemmas.List.Edits.{sets, sets-eq}
use Rattle.std.proofs.Math.Seq.{length-sets, take-append_seam}
use borrow.Rule.Slice.PartMut.{put_mid}
use Rattle.lists.specs.Parts.{part_tail, put_tail}
use Rattle.lists.specs.Writing.{over}

-- `piece` is written into `text` from `at` on
pub record Written (piece : List ℕ) (at : ℕ) (text : List ℕ) (end : ℕ) (text' : List ℕ) : Type 0 where
  pub ends : end ≡ at + length piece
  pub holds : text' ≡ sets text at piece

sets_append : (l : List ℕ) (i : ℕ) (ps qs : List ℕ) → sets l i (ps ++ qs) ≡ sets (sets l i ps) (i + length ps) qs
sets_append l i [] qs = rw (add-zero i) refl
sets_append l i (p ∷ ps) qs = let e : i + suc (length ps) ≡ suc i + length ps = omega arith in rw e (sets_append (set l i p) (suc i) ps qs)

-- the text keeps its length
pub written_length : (a text text' : List ℕ) (at end : ℕ) → Written a at text end text' → length text' ≡ length text
written_length a text text' at end w = ap length w.holds ∙ length-sets text at a

pub written_as : (a b text text' : List ℕ) (at end : ℕ) → a ≡ b → Written a at text end text' → Written b at text end text'
written_as a b text text' at end e w = rw (← e) w

-- nothing, and one entry
pub written_none : (text : List ℕ) (at : ℕ) → Written [] at text at text
written_none text at = record { ends = sym (add-zero at); holds = refl }

pub written_one : (b at : ℕ) (text : List ℕ) → Written (b ∷ []) at text (at + 1) (set text at b)
written_one b at text = record { ends = refl; holds = refl }

module _ (a b text : List ℕ) (at : ℕ) where
  pub first_fits : at + length (a ++ b) ≤ length text → at + length a ≤ length text
  first_fits h = omega (arith, length-append a b)

  module _ (text₁ : List ℕ) (mid : ℕ) (w : Written a at text mid text₁) where
    pub next_fits : at + length (a ++ b) ≤ length text → mid + length b ≤ length text₁
    next_fits h = omega (arith, w.ends, written_length a text text₁ at mid w, length-append a b)

    pub written_both : (text₂ : List ℕ) (end : ℕ) → Written b mid text₁ end text₂ → Written (a ++ b) at text end text₂
    written_both text₂ end v =
        record {
          ends = omega (arith, v.ends, w.ends, length-append a b);
          holds = v.holds ∙ rw (w.ends, w.holds, sets_append text at a b) refl;
        }

    -- what is left of a piece when its front is written
    pub written_rest : (text₂ : List ℕ) (end : ℕ) → Written (a ++ b) at text end text₂ → Written b mid text₁ end text₂
    written_rest text₂ end v =
        record {
          ends = omega (arith, v.ends, w.ends, length-append a b);
          holds = v.holds ∙ sets_append text at a b ∙ rw (w.ends, w.holds) refl;
        }

-- three and four pieces
module _ (a b c text : List ℕ) (at : ℕ) (text₁ : List ℕ) (mid₁ : ℕ) (w₁ : Written a at text mid₁ text₁) where
  pub second_fits : at + length (a ++ (b ++ c)) ≤ length text → mid₁ + length b ≤ length text₁
  second_fits h = first_fits b c text₁ mid₁ (next_fits a (b ++ c) text at text₁ mid₁ w₁ h)

  module _ (text₂ : List ℕ) (mid₂ : ℕ) (w₂ : Written b mid₁ text₁ mid₂ text₂) where
    pub third_fits : at + length (a ++ (b ++ c)) ≤ length text → mid₂ + length c ≤ length text₂
    third_fits h = next_fits b c text₁ mid₁ text₂ mid₂ w₂ (next_fits a (b ++ c) text at text₁ mid₁ w₁ h)

    pub written_three : (text₃ : List ℕ) (end : ℕ) → Written c mid₂ text₂ end text₃ → Written (a ++ (b ++ c)) at text end text₃
    written_three text₃ end w₃ = written_both a (b ++ c) text at text₁ mid₁ w₁ text₃ end (written_both b c text₁ mid₁ text₂ mid₂ w₂ text₃ end w₃)

module _ (a b c d text : List ℕ) (at : ℕ) (text₁ : List ℕ) (mid₁ : ℕ) (w₁ : Written a at text mid₁ text₁) (text₂ : List ℕ) (mid₂ : ℕ) (w₂ : Written b mid₁ text₁ mid₂ text₂) where
  pub third_of_four_fits : at + length (a ++ (b ++ (c ++ d))) ≤ length text → mid₂ + length c ≤ length text₂
  third_of_four_fits h = second_fits b c d text₁ mid₁ text₂ mid₂ w₂ (next_fits a (b ++ (c ++ d)) text at text₁ mid₁ w₁ h)

  module _ (text₃ : List ℕ) (mid₃ : ℕ) (w₃ : Written c mid₂ text₂ mid₃ text₃) where
    pub fourth_fits : at + length (a ++ (b ++ (c ++ d))) ≤ length text → mid₃ + length d ≤ length text₃
    fourth_fits h = third_fits b c d text₁ mid₁ text₂ mid₂ w₂ text₃ mid₃ w₃ (next_fits a (b ++ (c ++ d)) text at text₁ mid₁ w₁ h)

    pub written_four : (text₄ : List ℕ) (end : ℕ) → Written d mid₃ text₃ end text₄ → Written (a ++ (b ++ (c ++ d))) at text end text₄
    written_four text₄ end w₄ = written_both a (b ++ (c ++ d)) text at text₁ mid₁ w₁ text₄ end (written_three b c d text₁ mid₁ text₂ mid₂ w₂ text₃ mid₃ w₃ text₄ end w₄)

-- what stands in front of the text, when it is written from 0 on
pub written_front : (a text text' : List ℕ) (end : ℕ) → length a ≤ length text → Written a 0 text end text' → text' ≡ over a text
written_front a text text' end h w =
    let z : 0 + length a ≡ length a = omega arith in
    w.holds ∙ sets-eq a text 0 (omega arith) ∙ rw z refl

pub written_taken : (a text text' : List ℕ) (end : ℕ) → length a ≤ length text → Written a 0 text end text' → take end text' ≡ a
written_taken a text text' end h w =
    let z : end ≡ length a = omega (arith, w.ends) in
    rw (written_front a text text' end h w, z) (take-append_seam a (drop (length a) text))

-- a copy to the text's rest
pub written_part : (piece text part : List ℕ) (at : ℕ) → at + length piece ≤ length text → part ≡ over piece (take (length text - at) (drop at text))
    → Written piece at text (at + length piece) (put_mid at (length text - at) text part)
written_part piece text part at h e =
    let d : drop (length piece) (drop at text) ≡ drop (at + length piece) text = drop-drop (length piece) at text in
    let p : part ≡ piece ++ drop (at + length piece) text = e ∙ rw (part_tail at text, d) refl in
    record {
      ends = refl;
      holds = put_tail at text part (omega arith) ∙ rw p (sym (sets-eq piece text at h ∙ append_assoc (take at text) piece (drop (at + length piece) text)));
    }
