-- The twelve cases of docs/RULES.md, on both sides of the edges: one table with one proof, by computing the definitions. Assumes nothing.
use Rattle.std.specs.Prelude.{◌≡◌, refl, ℕ, suc, length}
use mathlib.Core.List.{List, [], ◌∷◌, ◌++◌, map, flat_map, zip_with}
use Rattle.pebbling.specs.Len.{len, len_in}
use Rattle.pebbling.specs.Recursion.{
  total,
  row,
  rushing,
  speed1,
  speed2,
  optimal,
  schedule,
  T,
  W,
  done,
  place,
  held,
  finished,
  hash,
  hashes,
  itself_or,
  children,
  running,
  preparing,
  puts_out,
  holds,
  does,
  gives,
  keeps,
  in_turn,
  put_out,
  positions,
  work,
  tick,
  round,
  before,
}

-- all that a card of 2^2 ticks puts out in its rounds 1 to 7, with "add one" as f and seed 0
abbrev ticks_of : ℕ → List ℕ
ticks_of s = flat_map (λ (r : ℕ). tick (schedule s) 2 r (before (schedule s) suc 2 0 r)) (row (λ (r : ℕ). r) 1 7)

-- what the definitions give, and what docs/RULES.md says
abbrev table : List (List ℕ × List ℕ)
table =
    -- 1, 2, 3: T_2, T_3 and T_4, optimal
    (T (schedule 3) 2, 0 ∷ 1 ∷ 2 ∷ [])
    ∷ (T (schedule 3) 3, 0 ∷ 0 ∷ 0 ∷ 2 ∷ 1 ∷ 2 ∷ 2 ∷ [])
    ∷ (T (schedule 3) 4, 0 ∷ 0 ∷ 0 ∷ 0 ∷ 0 ∷ 0 ∷ 0 ∷ 2 ∷ 2 ∷ 1 ∷ 1 ∷ 2 ∷ 2 ∷ 2 ∷ 3 ∷ [])
    -- 4: T_3, speed-2
    ∷ (T (schedule 2) 3, 0 ∷ 0 ∷ 0 ∷ 2 ∷ 2 ∷ 2 ∷ 1 ∷ [])
    -- 5, 6: W_3, speed-1 and optimal
    ∷ (W (schedule 1) 3, 2 ∷ 1 ∷ 1 ∷ 0 ∷ 1 ∷ 0 ∷ 0 ∷ [])
    ∷ (W (schedule 3) 3, 1 ∷ 1 ∷ 2 ∷ 0 ∷ 1 ∷ 0 ∷ 0 ∷ [])
    -- 7, 8: the hashes of one round, k = 4, speed-2 and rushing
    ∷ (work (schedule 2) 4 21 ∷ [], 3 ∷ [])
    ∷ (work (schedule 0) 4 23 ∷ [], 7 ∷ [])
    -- 9: k = 0 runs one round and no second; position 0 is put out, and under each schedule held before it; no hash
    ∷ (length (running 0 1 0) ∷ length (running 0 2 0) ∷ [], 1 ∷ 0 ∷ [])
    ∷ (put_out 0 1 0, 0 ∷ [])
    ∷ (positions (schedule 0) 0 1 0 ++ (work (schedule 0) 0 1 ∷ []), 0 ∷ 0 ∷ [])
    ∷ (positions (schedule 1) 0 1 0 ++ (work (schedule 1) 0 1 ∷ []), 0 ∷ 0 ∷ [])
    ∷ (positions (schedule 2) 0 1 0 ++ (work (schedule 2) 0 1 ∷ []), 0 ∷ 0 ∷ [])
    ∷ (positions (schedule 3) 0 1 0 ++ (work (schedule 3) 0 1 ∷ []), 0 ∷ 0 ∷ [])
    -- 10: positions before rounds 11, 12 and 16, optimal, k = 3
    ∷ (positions (schedule 3) 3 11 0, 4 ∷ 1 ∷ 0 ∷ [])
    ∷ (positions (schedule 3) 3 12 0, 3 ∷ 2 ∷ 0 ∷ [])
    ∷ (positions (schedule 3) 3 16 0, [])
    -- 11: values held before round 18, speed-1, k = 4
    ∷ (length (positions (schedule 1) 4 18 0) ∷ [], 6 ∷ [])
    -- 12: what is put out under each schedule
    ∷ (ticks_of 0, 3 ∷ 2 ∷ 1 ∷ 0 ∷ [])
    ∷ (ticks_of 1, 3 ∷ 2 ∷ 1 ∷ 0 ∷ [])
    ∷ (ticks_of 2, 3 ∷ 2 ∷ 1 ∷ 0 ∷ [])
    ∷ (ticks_of 3, 3 ∷ 2 ∷ 1 ∷ 0 ∷ [])
    ∷ []

pub twelve_cases : map (λ (c : List ℕ × List ℕ). c.0) table ≡ map (λ (c : List ℕ × List ℕ). c.1) table
unfolding flat_map zip_with len len_in total row rushing speed1 speed2 optimal schedule T W done place held finished hash hashes itself_or children running preparing puts_out holds does gives keeps in_turn put_out positions work tick round before
twelve_cases = refl
