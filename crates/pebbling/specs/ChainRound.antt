-- A round takes the chain's values at the positions held before it to the chain's values at the positions held after it, for every f and every seed. So
-- a card that is started and run holds the chain at its positions, and puts out the chain from its end. Assumes nothing.
use Rattle.std.specs.Prelude.{◌≡◌, ◌⊎◌, List, [], ◌∷◌, ◌++◌, map, length, take, drop}
use Rattle.std.proofs.Math.Path.{refl}
use Rattle.std.proofs.Common.{sym, ap, ◌∙◌, inl, inr, eq-or-lt_of_le, one-add, arith, take_at, drop_at, pow_pos}
use Rattle.std.proofs.lemmas.List.{map-append, length-map}
use Prim.Native.Nat.{ℕ, zero, suc, ◌+◌, ◌-◌, ◌^◌, ◌≤◌, ◌<◌}
use Rattle.pebbling.specs.Len.{lt_or_le}
use Rattle.pebbling.specs.Recursion.{done, place, held, hashes, positions, tick, round, before, chain}
use Rattle.pebbling.specs.SideBySide.{side_positions, positions_itself, positions_children, side_positions_zero, side_positions_both, side_positions_last, side_positions_late, side_held_count, side_length}
use Rattle.pebbling.specs.Turns.{side_round, round_prepare, round_out_lem, round_children, side_round_both, side_round_last, side_round_late, tick_first}
use Rattle.pebbling.specs.OnePebbler.{places, places_snoc, places_upper, held_none, held_all, held_hashes}
use Rattle.pebbling.specs.HashesDone.{Fair, done_first, done_suc, done_all, done_fits}
use Rattle.pebbling.specs.PutOut.{positions_first}

pub take-map : {A B : Type 0} (g : A → B) (s : List A) → take 1 (map g s) ≡ map g (take 1 s)
take-map g [] = refl
take-map g (x ∷ s) = refl

-- the children of P_k begin with its y_1 to y_k
pub children_begin : (t : ℕ → ℕ → ℕ) (k base : ℕ) → side_positions t k 1 base ≡ places k 1 k base
unfolding places
children_begin t zero base = side_positions_zero t 1 base
children_begin t (suc k) base =
    let z : place (suc k) (1 + k) base ≡ base = unfold place in rw (one-add k) (omega arith) in
    side_positions_both t k 1 base (pow_pos k)
    ∙ rw (children_begin t k (base + 2 ^ k), done_first t k, held_none k base, ← places_upper k 1 k base (omega arith))
    (ap (λ (x : ℕ). places (suc k) 1 k base ++ (x ∷ [])) (sym z) ∙ places_snoc (suc k) 1 k base)

module _ (t : ℕ → ℕ → ℕ) (t_fair : Fair t) {A : Type 0} (f : A → A) (seed : A) where
  abbrev at : List ℕ → List A
  at s = map (chain f seed) s

  -- ---- P_k itself

  prepared : (k r base : ℕ) → 0 < r → r < 2 ^ k → hashes f k (done t k r) (t k r) (at (held k (done t k r) base)) ≡ at (held k (done t k (suc r)) base)
  prepared k r base p h = rw (done_suc t k r p) (held_hashes f seed k (done t k r) (t k r) base (done_fits t t_fair k r p h))

  handed_over : (k r base : ℕ) → r ≡ 2 ^ k → drop 1 (at (held k (done t k r) base)) ≡ at (side_positions t k 1 base)
  unfolding places
  handed_over k r base e = rw (done_all t t_fair k r e, held_all k base, children_begin t k base) refl

  -- ---- its children

  side_at : (k n base : ℕ) → length (at (side_positions t k n base)) ≡ side_held_count t k n
  side_at k n base = length-map (side_positions t k n base) (chain f seed) ∙ side_length t k n base

  side_round_lem : (k n base : ℕ) → 0 < n → n < 2 ^ k → side_round t f k n (at (side_positions t k n base)) ≡ at (side_positions t k (suc n) base)
  side_round_lem zero n base p h = absurd (omega arith)
  side_round_lem (suc k) n base p h = go (λ n base p h. side_round_lem k n base p h) (lt_or_le (2 ^ k) n)
    where
      go : ((n base : ℕ) → 0 < n → n < 2 ^ k → side_round t f k n (at (side_positions t k n base)) ≡ at (side_positions t k (suc n) base))
          → (2 ^ k < n) ⊎ (n ≤ 2 ^ k) → side_round t f (suc k) n (at (side_positions t (suc k) n base)) ≡ at (side_positions t (suc k) (suc n) base)
      go ih (inl g) =
          let d : suc n - 2 ^ k ≡ suc (n - 2 ^ k) = omega arith in
          rw (side_positions_late t k n base g, side_positions_late t k (suc n) base (omega arith), d, side_round_late t f k n (at (side_positions t k (n - 2 ^ k) base)) g)
          (ih (n - 2 ^ k) base (omega arith) (omega arith))
      go ih (inr g) = by (eq-or-lt_of_le g)
        where
          by : (n ≡ 2 ^ k) ⊎ (n < 2 ^ k) → side_round t f (suc k) n (at (side_positions t (suc k) n base)) ≡ at (side_positions t (suc k) (suc n) base)
          by (inl e) =
              let d : suc n - 2 ^ k ≡ 1 = omega arith in
              side_round_last t f k n (at (side_positions t (suc k) n base)) e (side_at (suc k) n base)
              ∙ rw (side_positions_last t k n base e, side_positions_late t k (suc n) base (omega arith), d) (handed_over k n base e)
          by (inr l) =
              let b : ℕ = base + 2 ^ k in
              let m : length (at (side_positions t k n b)) ≡ side_held_count t k n = side_at k n b in
              side_round_both t f k n (at (side_positions t (suc k) n base)) l (side_at (suc k) n base)
              ∙ rw (
                side_positions_both t k n base g,
                side_positions_both t k (suc n) base l,
                map-append (chain f seed) (side_positions t k n b) (held k (done t k n) base),
                map-append (chain f seed) (side_positions t k (suc n) b) (held k (done t k (suc n)) base),
                take_at (at (side_positions t k n b)) (at (held k (done t k n) base)) (side_held_count t k n) m,
                drop_at (at (side_positions t k n b)) (at (held k (done t k n) base)) (side_held_count t k n) m,
                ih n b p l,
                prepared k n base p l,
              ) refl

  -- ---- all of them

  positions_at : (k r base : ℕ) → length (at (positions t k r base)) ≡ length (positions t k r base)
  positions_at k r base = length-map (positions t k r base) (chain f seed)

  -- the round carries the chain at the positions before it to the chain at the positions after it
  pub round_chain : (k r : ℕ) → 0 < r → r < 2 ^ suc k → round t f k r (map (chain f seed) (positions t k r 0)) ≡ map (chain f seed) (positions t k (suc r) 0)
  round_chain k r p h = go (lt_or_le (2 ^ k) r)
    where
      itself : r ≤ 2 ^ k → length (at (positions t k r 0)) ≡ length (held k (done t k r) 0)
      itself g = positions_at k r 0 ∙ ap length (positions_itself t k r 0 g)

      go : (2 ^ k < r) ⊎ (r ≤ 2 ^ k) → round t f k r (at (positions t k r 0)) ≡ at (positions t k (suc r) 0)
      go (inl g) =
          let d : suc r - 2 ^ k ≡ suc (r - 2 ^ k) = omega arith in
          rw (round_children t f k r (at (positions t k r 0)) g, positions_children t k r 0 g, positions_children t k (suc r) 0 (omega arith), d)
          (side_round_lem k (r - 2 ^ k) 0 (omega arith) (omega arith))
      go (inr g) = by (eq-or-lt_of_le g)
        where
          by : (r ≡ 2 ^ k) ⊎ (r < 2 ^ k) → round t f k r (at (positions t k r 0)) ≡ at (positions t k (suc r) 0)
          by (inl e) =
              let d : suc r - 2 ^ k ≡ 1 = omega arith in
              round_out_lem t f k r (at (positions t k r 0)) e (itself g)
              ∙ rw (positions_itself t k r 0 g, positions_children t k (suc r) 0 (omega arith), d) (handed_over k r 0 e)
          by (inr l) =
              round_prepare t f k r (at (positions t k r 0)) l (itself g)
              ∙ rw (positions_itself t k r 0 g, positions_itself t k (suc r) 0 l) (prepared k r 0 p l)

  -- so a card that is run from its start holds the chain at its positions, before every round and after the last
  pub before_chain : (k r : ℕ) → 0 < r → r ≤ 2 ^ suc k → before t f k seed r ≡ map (chain f seed) (positions t k r 0)
  unfolding before chain
  before_chain k zero p h = absurd (omega arith)
  before_chain k (suc zero) p h = rw (positions_itself t k 1 0 (pow_pos k), done_first t k, held_none k 0) refl
  before_chain k (suc (suc r)) p h = rw (before_chain k (suc r) (omega arith) (omega arith)) (round_chain k (suc r) (omega arith) h)

  -- and puts out x_c in the round after which c rounds are left
  pub tick_chain : (k r c : ℕ) → r + suc c ≡ 2 ^ suc k → 2 ^ k ≤ r → tick t k r (before t f k seed r) ≡ chain f seed c ∷ []
  tick_chain k r c e h =
      let b : before t f k seed r ≡ at (positions t k r 0) = before_chain k r (omega (arith, pow_pos k)) (omega arith) in
      let z : 0 + c ≡ c = omega arith in
      tick_first t k r (before t f k seed r) h (omega arith) (ap length b ∙ positions_at k r 0)
      ∙ rw (b, take-map (chain f seed) (positions t k r 0), positions_first t t_fair k r c 0 e h, z) refl
