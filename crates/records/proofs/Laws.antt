-- What reading a number and walking along a chain come to, over plain lists. Assumes nothing.
use mathlib.Core.Path.{◌≡◌, refl, sym, ap, ◌∙◌}
use mathlib.Core.List.{List, [], ◌∷◌}
use Prim.Native.Nat.{ℕ, ◌+◌, ◌*◌}
use native.Mathlib.Numerals.{add-one}
use native.Mathlib.Omega.{arith}
use lib.ListN.{length, get_or}
use Rattle.oneway.specs.declared.Chain.{Chain}
use Rattle.oneway.specs.Step.{width, step}
use Rattle.oneway.specs.Laws.{step_length}
use Rattle.pebbling.specs.Recursion.{chain}
use Rattle.records.specs.Numbers.{number}

-- ---- word

pub word_number : (bytes : List ℕ) → length bytes ≡ 4 → get_or bytes 0 0 + 256 * (get_or bytes 1 0 + 256 * (get_or bytes 2 0 + 256 * get_or bytes 3 0)) ≡ number bytes
unfolding number
word_number [] e = absurd (omega arith)
word_number (a ∷ []) e = absurd (omega arith)
word_number (a ∷ b ∷ []) e = absurd (omega arith)
word_number (a ∷ b ∷ c ∷ []) e = absurd (omega arith)
word_number (a ∷ b ∷ c ∷ d ∷ []) e = omega arith
word_number (a ∷ b ∷ c ∷ d ∷ x ∷ l) e = absurd (omega arith)

-- ---- walk: after i steps, the chain's element i

pub record Walking (c : Chain) (seed value : List ℕ) (i : ℕ) : Type 0 where
  pub wide : length seed ≡ width c
  pub sized : length value ≡ length seed
  pub holds : value ≡ chain (step c) seed i

pub walking_none : (c : Chain) (seed : List ℕ) → length seed ≡ width c → Walking c seed seed 0
unfolding chain
walking_none c seed e = record { wide = e; sized = refl; holds = refl }

pub walking_next : (c : Chain) (seed value value' : List ℕ) (i : ℕ) → Walking c seed value i → value' ≡ step c value → Walking c seed value' (i + 1)
unfolding chain
walking_next c seed value value' i w e =
    record {
      wide = w.wide;
      sized = ap length e ∙ step_length c value (w.sized ∙ w.wide) ∙ sym w.wide;
      holds = rw (add-one i) (e ∙ ap (step c) w.holds);
    }
