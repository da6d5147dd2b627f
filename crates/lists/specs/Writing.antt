-- Loops that write a list from its front, one store a turn, of entries of any type. What is written and what stood there before are lists of
-- one length; after i turns the first i entries are new and the rest are old. Assumes nothing.
use Rattle.std.specs.Prelude.{◌≡◌, refl, List, [], ◌∷◌, ◌++◌, ℕ, zero, suc, ◌+◌, ◌≤◌, ◌<◌, length, take, drop, set, get_or}
use Rattle.std.proofs.Common.{sym, ap, subst, ◌∙◌, append-nil, add-one, arith, drop_of_length-le, length-append, length-drop, length-set, take_all, take_at}
use Rattle.std.proofs.Math.ListN.{get_or-append}
use Rattle.std.proofs.Math.Seq.{take-append_seam}

-- `front` over the front of `old`, whose other entries stay
abbrev pub over : {A : Type 0} → List A → List A → List A
over front old = front ++ drop (length front) old

pub over_length : {A : Type 0} (front old : List A) → length front ≤ length old → length (over front old) ≡ length old
over_length front old h = simp (length-append, length-drop) (omega arith)

-- and the front is what was written
pub over_taken : {A : Type 0} (front old new : List A) (n : ℕ) → length front ≡ n → new ≡ over front old → take n new ≡ front
over_taken front old new n l e = ap (take n) e ∙ take_at front (drop (length front) old) n l

-- a loop's invariant: the list `now`, once i entries of `new` are written into `old`
pub record Writing {A : Type 0} (new old now : List A) (i : ℕ) : Type 0 where
  pub within : i ≤ length old
  pub sized : length now ≡ length old
  pub holds : now ≡ take i new ++ drop i old

pub writing_none : {A : Type 0} (new old : List A) → Writing new old old 0
writing_none new old = record { within = omega arith; sized = refl; holds = refl }

set_next : {A : Type 0} (i : ℕ) (v d : A) (new old : List A) → i < length new → i < length old → v ≡ get_or new i d
    → set (take i new ++ drop i old) i v ≡ take (suc i) new ++ drop (suc i) old
set_next i v d [] old a b e = absurd (omega arith)
set_next i v d (x ∷ new) [] a b e = absurd (omega arith)
set_next zero v d (x ∷ new) (y ∷ old) a b e = ap (λ z. z ∷ old) e
set_next (suc i) v d (x ∷ new) (y ∷ old) a b e = ap (λ s. x ∷ s) (set_next i v d new old (omega arith) (omega arith) e)

-- one store more
pub writing_next : {A : Type 0} (new old now : List A) (i : ℕ) (v d : A) → length new ≡ length old → i < length old → Writing new old now i
    → v ≡ get_or new i d → Writing new old (set now i v) (i + 1)
writing_next new old now i v d e h w q =
    record {
      within = omega arith;
      sized = length-set now i v ∙ w.sized;
      holds =
          ap (λ s. set s i v) w.holds
          ∙ subst (λ (n : ℕ). set (take i new ++ drop i old) i v ≡ take n new ++ drop n old) (sym (add-one i))
          (set_next i v d new old (omega arith) h q);
    }

-- one entry more of a copy to the front, written at place j
pub writing_copied : {A : Type 0} (from old now : List A) (i j : ℕ) (v d : A) → length from ≤ length old → i < length from → j ≡ i
    → Writing (over from old) old now i → v ≡ get_or from i d → Writing (over from old) old (set now j v) (i + 1)
writing_copied from old now i j v d h l e w q =
    rw e (writing_next (over from old) old now i v d (over_length from old h) (omega arith) w
    (q ∙ sym (get_or-append from (drop (length from) old) d i l)))

-- all is written
pub writing_all : {A : Type 0} (new old now : List A) (i : ℕ) → length new ≡ length old → length old ≤ i → Writing new old now i → now ≡ new
writing_all new old now i e h w =
    w.holds ∙ rw (take_all i new (omega arith), drop_of_length-le old h) (append-nil new)

-- the front is written, and the rest is to stay
pub writing_front : {A : Type 0} (front old now : List A) (i : ℕ) → i ≡ length front → Writing (over front old) old now i → now ≡ over front old
writing_front front old now i e w = w.holds ∙ rw (e, take-append_seam) refl
