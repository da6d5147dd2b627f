-- What an offer knows of the record and of the credit, over plain lists and numbers. Assumes nothing.
use mathlib.Core.Path.{◌≡◌}
use mathlib.Core.List.{List}
use Prim.Native.Nat.{ℕ, ◌+◌, ◌^◌, ◌≤◌}
use native.Mathlib.Omega.{arith}
use lib.Pow.{pow_mono}
use Rattle.post.specs.declared.Head.{Head}
use Rattle.std.specs.Prelude.{Ok, Some}
use Rattle.post.specs.Refused.{inspect_of}
use Rattle.post.specs.Search.{fewest}
use Rattle.post.specs.Fewest.{least_found}
use Rattle.post.specs.Promises.{limit_of, search_finds}
use Rattle.post.specs.Sound.{Sound, sound, Searchable}

-- a record that has passed inspection
pub inspect_sound : (post : List ℕ) (h : Head) → inspect_of post ≡ Ok h → Sound post h
inspect_sound post h e = (sound post h e).1

-- a credit keeps within the ticks of the largest card
pub credit_fits : (post value : List ℕ) (gap : ℕ) (head : Head) (g : ℕ) → Searchable post value head → search_finds post value gap head ≡ Some g
    → head.paid + g ≤ 1048576
unfolding search_finds fewest
credit_fits post value gap head g ok e =
    let f = least_found _ (limit_of gap head) g e in
    let p : 2 ^ head.k ≤ 2 ^ 20 = pow_mono ok.sound.numbered.small in
    omega (arith, f.upto, ok.sound.within, p)
