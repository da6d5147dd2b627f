-- The definitions tried on examples, each of which antt computes. Assumes nothing.
use Rattle.std.specs.Prelude.{◌≡◌, refl, true, ◌||◌, List, [], ◌∷◌, ℕ, suc, eqb, get_or}
use Rattle.lists.specs.Same.{same}
use Rattle.records.specs.Numbers.{number}
use Rattle.pebbling.specs.Recursion.{chain}
use Rattle.post.specs.declared.Head.{Head}
use Rattle.std.specs.Prelude.{None, Some}
use Rattle.post.specs.Record.{head_bytes, post_bytes, head_of, marked}
use Rattle.post.specs.Search.{least, fewest}

-- the first counts, and 0 is never tried
first_counts : least 5 (λ (g : ℕ). eqb g 0 || (eqb g 3 || eqb g 5)) ≡ Some 3
unfolding least
first_counts = refl

none_fits : least 5 (λ (g : ℕ). eqb g 0 || eqb g 6) ≡ None
unfolding least
none_fits = refl

-- with "add one" as f: two steps from 5 to 7, none from 7 to itself, and none from 5 to 7 within 1
add_one : List ℕ → List ℕ
add_one value = suc (get_or value 0 0) ∷ []

two_steps : fewest add_one 64 (7 ∷ []) (5 ∷ []) ≡ Some 2
unfolding fewest least same chain add_one
two_steps = refl

held_again : fewest add_one 64 (7 ∷ []) (7 ∷ []) ≡ None
unfolding fewest least same chain add_one
held_again = refl

too_far : fewest add_one 1 (7 ∷ []) (5 ∷ []) ≡ None
unfolding fewest least same chain add_one
too_far = refl

-- a record, and its head read back
head : Head
head = record { function = 1; k = 20; paid = 0x0001_02FF }

laid_out : post_bytes head (8 ∷ []) (9 ∷ []) ≡ 0xB7 ∷ 0x02 ∷ 1 ∷ 20 ∷ 0xFF ∷ 0x02 ∷ 0x01 ∷ 0 ∷ 8 ∷ 9 ∷ []
unfolding post_bytes head_bytes head
laid_out = refl

read_back : head_of (post_bytes head (8 ∷ []) (9 ∷ [])) ≡ head
unfolding post_bytes head_bytes head_of number head
read_back = refl

has_mark : marked (post_bytes head [] []) ≡ true
unfolding post_bytes head_bytes marked head
has_mark = refl
