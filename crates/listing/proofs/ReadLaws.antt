-- A line that the input begins with, and a search for LF. Assumes nothing.
use mathlib.Core.Path.{◌≡◌, refl, ap}
use mathlib.Core.Bool.{Bool, true, false, ◌&&◌, ◌||◌}
use mathlib.Core.List.{List, [], ◌∷◌, ◌++◌}
use Prim.Native.Nat.{ℕ, ◌<◌}
use native.Mathlib.Omega.{arith}
use borrow.Author.Tests.{lt-leb, eq-eqb, eqb-true}
use lib.Dec.{eqb}
use lib.ListN.{length, get_or}
use Rattle.std.specs.List.{list_any}
use Rattle.listing.specs.Listing.{line_feed, reads, ended, decides}

-- behind the line only what comes next counts
reads_behind : (line rest : List ℕ) → reads line (line ++ rest) ≡ reads [] rest
unfolding reads
reads_behind [] rest = refl
reads_behind (c ∷ cs) rest = rw (eq-eqb c c refl) (reads_behind cs rest)

-- the input is the line
pub reads_all : (line input rest : List ℕ) → input ≡ line ++ rest → length rest < 1 → reads line input ≡ true
unfolding reads
reads_all line input [] e h = rw e (reads_behind line [])
reads_all line input (b ∷ bs) e h = absurd (omega arith)

-- it goes on behind the line
pub reads_on : (line input rest : List ℕ) → input ≡ line ++ rest → 0 < length rest → reads line input ≡ eqb (get_or rest 0 0) line_feed
unfolding reads
reads_on line input [] e h = absurd (omega arith)
reads_on line input (b ∷ bs) e h = rw e (reads_behind line (b ∷ bs))

-- an input that does not begin with the line
pub reads_other : (line input : List ℕ) → ((rest : List ℕ) → input ≡ line ++ rest → ⊥) → reads line input ≡ false
unfolding reads
reads_other [] input n = absurd (n input refl)
reads_other (c ∷ cs) [] n = refl
reads_other (c ∷ cs) (b ∷ bs) n = go (eqb c b) refl (reads_other cs bs)
  where
    go : (e : Bool) → eqb c b ≡ e → (((rest : List ℕ) → bs ≡ cs ++ rest → ⊥) → reads cs bs ≡ false) → (e && reads cs bs) ≡ false
    go false q ih = refl
    go true q ih = ih (λ rest p. n rest (let r : c ≡ b = eqb-true c b q in cc))

-- ---- a search for LF

-- fewer decide where LF is among them
pub decides_few : (input : List ℕ) → length input < 11 → decides input ≡ ended input
unfolding decides
decides_few input h = rw (lt-leb 11 (length input) h) refl

pub any_ended : (input : List ℕ) → list_any (λ (b : ℕ). eqb b line_feed) input ≡ ended input
unfolding ended
any_ended [] = refl
any_ended (b ∷ bs) = ap (λ (e : Bool). eqb b line_feed || e) (any_ended bs)
