-- Pieces put on a page one behind the other: they are one piece, and there is room for each where there is room for all. What a page's text
-- is, once the page is done with. Assumes nothing.
use mathlib.Core.Path.{◌≡◌, refl, ap, ◌∙◌}
use mathlib.Core.List.{List, [], ◌++◌}
use Prim.Native.Nat.{ℕ, ◌+◌, ◌≤◌}
use native.Mathlib.Omega.{arith}
use lib.ListN.{length, take}
use Rattle.lists.specs.Written.{
  Written,
  written_length,
  written_none,
  first_fits,
  next_fits,
  written_both,
  second_fits,
  third_fits,
  written_three,
  third_of_four_fits,
  fourth_fits,
  written_four,
  written_taken,
}
use Rattle.listing.specs.declared.text.Page.{Page}
use Rattle.listing.specs.Steps.{Put}

pub put_none : (p : Page) → Put [] p p
put_none p = record { wrote = written_none p.text.now p.at; lent = refl }

-- the text keeps its length
pub put_length : (a : List ℕ) (p q : Page) → Put a p q → length q.text.now ≡ length p.text.now
put_length a p q w = written_length a p.text.now q.text.now p.at q.at w.wrote

-- ---- two pieces

module _ (a b : List ℕ) (p : Page) where
  pub first_room : p.at + length (a ++ b) ≤ length p.text.now → p.at + length a ≤ length p.text.now
  first_room h = first_fits a b p.text.now p.at h

  module _ (q : Page) (w : Put a p q) where
    pub next_room : p.at + length (a ++ b) ≤ length p.text.now → q.at + length b ≤ length q.text.now
    next_room h = next_fits a b p.text.now p.at q.text.now q.at w.wrote h

    pub put_both : (r : Page) → Put b q r → Put (a ++ b) p r
    put_both r v =
        record {
          wrote = written_both a b p.text.now p.at q.text.now q.at w.wrote r.text.now r.at v.wrote;
          lent = v.lent ∙ w.lent;
        }

-- ---- three and four

module _ (a b c : List ℕ) (p q : Page) (w : Put a p q) where
  pub second_room : p.at + length (a ++ (b ++ c)) ≤ length p.text.now → q.at + length b ≤ length q.text.now
  second_room h = second_fits a b c p.text.now p.at q.text.now q.at w.wrote h

  module _ (r : Page) (v : Put b q r) where
    pub third_room : p.at + length (a ++ (b ++ c)) ≤ length p.text.now → r.at + length c ≤ length r.text.now
    third_room h = third_fits a b c p.text.now p.at q.text.now q.at w.wrote r.text.now r.at v.wrote h

    pub put_three : (s : Page) → Put c r s → Put (a ++ (b ++ c)) p s
    put_three s u =
        record {
          wrote = written_three a b c p.text.now p.at q.text.now q.at w.wrote r.text.now r.at v.wrote s.text.now s.at u.wrote;
          lent = u.lent ∙ v.lent ∙ w.lent;
        }

module _ (a b c d : List ℕ) (p q : Page) (w : Put a p q) (r : Page) (v : Put b q r) where
  pub third_of_four_room : p.at + length (a ++ (b ++ (c ++ d))) ≤ length p.text.now → r.at + length c ≤ length r.text.now
  third_of_four_room h = third_of_four_fits a b c d p.text.now p.at q.text.now q.at w.wrote r.text.now r.at v.wrote h

  module _ (s : Page) (u : Put c r s) where
    pub fourth_room : p.at + length (a ++ (b ++ (c ++ d))) ≤ length p.text.now → s.at + length d ≤ length s.text.now
    fourth_room h = fourth_fits a b c d p.text.now p.at q.text.now q.at w.wrote r.text.now r.at v.wrote s.text.now s.at u.wrote h

    pub put_four : (t : Page) → Put d s t → Put (a ++ (b ++ (c ++ d))) p t
    put_four t x =
        record {
          wrote = written_four a b c d p.text.now p.at q.text.now q.at w.wrote r.text.now r.at v.wrote s.text.now s.at u.wrote t.text.now t.at x.wrote;
          lent = x.lent ∙ u.lent ∙ v.lent ∙ w.lent;
        }

-- ---- the text that was lent for a page is the page's, once the page is done with

module _ (a : List ℕ) (p q : Page) (w : Put a p q) (text : List ℕ) (is : q.text.now ≡ text) where
  pub page_wrote : Written a p.at p.text.now q.at text
  page_wrote = rw (← is) w.wrote

  module _ (room : p.at + length a ≤ length p.text.now) where
    pub page_within : q.at ≤ length text
    page_within = omega (arith, ap length is, w.wrote.ends, put_length a p q w)

    pub page_taken : p.at ≡ 0 → take q.at text ≡ a
    page_taken z = written_taken a p.text.now text q.at (omega arith) (rw z at page_wrote)
