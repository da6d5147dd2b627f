-- What the search along a chain comes to, over plain lists and numbers. Assumes nothing.
use mathlib.Core.Path.{◌≡◌, refl, sym, ap, ◌∙◌}
use mathlib.Core.Bool.{Bool, true, false, cond}
use mathlib.Core.List.{List}
use Rattle.std.proofs.Math.Logic.{⊎_elim}
use Prim.Native.Nat.{ℕ, zero, suc, ◌+◌, ◌≤◌, ◌<◌}
use native.Mathlib.Omega.{arith}
use Rattle.lists.specs.Same.{same}
use Rattle.oneway.specs.Step.{step}
use Rattle.oneway.specs.declared.Chain.{Chain}
use Rattle.pebbling.specs.Len.{lt_or_le}
use Rattle.pebbling.specs.Recursion.{chain}
use Rattle.std.specs.Prelude.{None, Some}
use Rattle.post.specs.Search.{least, fewest}
use Rattle.post.specs.Fewest.{least_kept}

abbrev pub fits : Chain → List ℕ → List ℕ → ℕ → Bool
fits c held value g = same (chain (step c) value g) held

-- before the search looks at g: the value has been stepped on g - 1 times, and none that it has looked at fits
pub record Searching (c : Chain) (held value : List ℕ) (g : ℕ) (stepped : List ℕ) : Type 0 where
  pub holds : (n : ℕ) → suc n ≡ g → stepped ≡ chain (step c) value n
  pub none : (n : ℕ) → n < g → least n (fits c held value) ≡ None

module _ (c : Chain) (held value : List ℕ) where
  pub search_begins : Searching c held value 1 value
  unfolding chain least
  search_begins =
      record {
        holds = λ n q. let z : n ≡ 0 = omega arith in rw z refl;
        none = λ n q. let z : n ≡ 0 = omega arith in rw z refl;
      }

  module _ (g : ℕ) (stepped : List ℕ) (s : Searching c held value g stepped) where
    pub search_ends : (limit : ℕ) → limit < g → None ≡ fewest (step c) limit held value
    unfolding fewest
    search_ends limit l = sym (s.none limit l)

    -- one step more
    module _ (from : 0 < g) (stepped' : List ℕ) (one : stepped' ≡ chain (step c) stepped 1) where
      walked : (n : ℕ) → n ≡ g → stepped' ≡ chain (step c) value n
      unfolding chain
      walked zero q = absurd (omega arith)
      walked (suc n) q = one ∙ ap (step c) (s.holds n q)

      looked : (n : ℕ) → n ≡ g → least n (fits c held value) ≡ cond (same stepped' held) (Some n) None
      unfolding least
      looked zero q = absurd (omega arith)
      looked (suc n) q = rw (s.none n (omega arith), ← walked (suc n) q) refl

      pub search_fits : (limit : ℕ) → g ≤ limit → same stepped' held ≡ true → Some g ≡ fewest (step c) limit held value
      unfolding fewest
      search_fits limit l t = sym (least_kept (fits c held value) g limit g l (looked g refl ∙ rw t refl))

      pub search_on : same stepped' held ≡ false → Searching c held value (g + 1) stepped'
      search_on f =
          record {
            holds = λ n q. walked n (omega arith);
            none = λ n l. ⊎_elim (λ b. s.none n b) (λ b. looked n (omega arith) ∙ rw f refl) (lt_or_le n g);
          }

      pub search_last : (limit : ℕ) → limit ≤ g → same stepped' held ≡ false → None ≡ fewest (step c) limit held value
      unfolding fewest
      search_last limit l f = sym ((search_on f).none limit (omega arith))

pub ruleset searching = (search_begins, search_on, search_fits, search_ends, search_last)
