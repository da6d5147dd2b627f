-- A number written digit by digit, and which mark is written. Assumes nothing.
use mathlib.Core.Path.{◌≡◌, refl, ap}
use mathlib.Core.List.{[], ◌∷◌, ◌++◌}
use Prim.Native.Nat.{ℕ, ◌+◌, ◌/◌, ◌%◌, ◌≤◌, ◌<◌}
use native.Mathlib.Omega.{arith}
use borrow.Author.Tests.{eq-eqb, ne_eqb}
use lib.ListN.{length}
use Rattle.listing.specs.Text.{digit, decimal}
use Rattle.listing.specs.Listing.{space, comma, mark_before}
use Rattle.listing.specs.Lines.{decimal_small, decimal_more}
use Rattle.listing.specs.declared.text.Page.{Page}
use Rattle.listing.specs.Steps.{Put}
use Rattle.listing.proofs.PageLaws.{first_room, next_room, put_both}

-- ---- digits

module _ (n : ℕ) (p : Page) (room : p.at + length (decimal n) ≤ length p.text.now) where
  module _ (small : n < 10) where
    pub digit_fits : p.at < length p.text.now
    digit_fits = omega (arith, ap length (decimal_small n small))

    pub digit_says : (q : Page) (b : ℕ) → b ≡ digit n → Put (b ∷ []) p q → Put (decimal n) p q
    digit_says q b e w = rw (decimal_small n small, ← e) w

  module _ (large : 10 ≤ n) where
    rest : p.at + length (decimal (n / 10) ++ (digit (n % 10) ∷ [])) ≤ length p.text.now
    rest = rw (← decimal_more n large) room

    pub front_fits : p.at + length (decimal (n / 10)) ≤ length p.text.now
    front_fits = first_room (decimal (n / 10)) (digit (n % 10) ∷ []) p rest

    module _ (q : Page) (w : Put (decimal (n / 10)) p q) where
      pub last_fits : q.at < length q.text.now
      last_fits = omega (arith, next_room (decimal (n / 10)) (digit (n % 10) ∷ []) p q w rest)

      pub last_says : (r : Page) (b : ℕ) → b ≡ digit (n % 10) → Put (b ∷ []) q r → Put (decimal n) p r
      last_says r b e v = rw (decimal_more n large, ← e) (put_both (decimal (n / 10)) (b ∷ []) p q w r v)

-- ---- marks

pub mark_last : (n : ℕ) → n ≡ 0 → space ≡ mark_before n
unfolding mark_before
mark_last n e = rw (eq-eqb n 0 e) refl

pub mark_between : (n : ℕ) → (n ≡ 0 → ⊥) → comma ≡ mark_before n
unfolding mark_before
mark_between n h = rw (ne_eqb n 0 h) refl
