-- The recursion on values of w bytes each, for every width w and every f that keeps it. What a card's slots hold is `joined`, the values one behind
-- another, and what is read of them is `values w`. A function's width is an instance: 16 bytes today, 8 or 32 without a word changed here.
-- Assumes nothing.
use Rattle.std.specs.Prelude.{◌≡◌, Bool, cond, take, drop}
use Rattle.std.proofs.Math.Path.{refl}
use Rattle.std.proofs.Common.{ap, ◌∙◌, mul-le-mul_left}
use Rattle.std.proofs.Math.Bool.{true, false}
use mathlib.Core.List.{List, [], ◌∷◌, ◌++◌, map, append-nil}
use Prim.Native.Nat.{ℕ, zero, suc, ◌+◌, ◌*◌, ◌^◌, ◌≤◌, ◌<◌}
use native.Mathlib.Omega.{arith}
use Rattle.std.proofs.Math.ListN.{length}
use Rattle.std.proofs.lemmas.List.{length-map}
use Rattle.lists.specs.Values.{values, joined}
use Rattle.lists.specs.Wide.{Wide, none, more, wide_append, wide_take, wide_drop, wide_map, joined_wide, joined_cut}
use Rattle.pebbling.specs.Recursion.{done, finished, hash, hashes, Pebbler, running, preparing, holds, keeps, in_turn, schedule, positions, tick, round, chain, slots}
use Rattle.pebbling.specs.HashesDone.{fair}
use Rattle.pebbling.specs.PutOut.{positions_first}
use Rattle.pebbling.specs.Turns.{tick_none, tick_first}
use Rattle.pebbling.specs.ChainRound.{round_chain, take-map}
use Rattle.pebbling.specs.RoundLength.{round_length}
use Rattle.pebbling.specs.Slots.{enough_slots}

module _ (w : ℕ) where
  -- ---- a round keeps the width

  module _ (f : List ℕ → List ℕ) (f_keeps : (x : List ℕ) → length x ≡ w → length (f x) ≡ w) where
    hash_wide : (k h : ℕ) (vs : List (List ℕ)) → Wide w vs → Wide w (hash f k h vs)
    unfolding hash
    hash_wide k h [] none = none
    hash_wide k h (v ∷ vs) (more l a) = go (finished k h)
      where
        go : (b : Bool) → Wide w (cond b (f v ∷ v ∷ vs) (f v ∷ vs))
        go true = more (f_keeps v l) (more l a)
        go false = more (f_keeps v l) a

    hashes_wide : (k h n : ℕ) (vs : List (List ℕ)) → Wide w vs → Wide w (hashes f k h n vs)
    unfolding hashes
    hashes_wide k h zero vs a = a
    hashes_wide k h (suc n) vs a = hashes_wide k (suc h) n (hash f k h vs) (hash_wide k h vs a)

    module _ (t : ℕ → ℕ → ℕ) where
      keeps_wide : (p : Pebbler) (vs : List (List ℕ)) → Wide w vs → Wide w (keeps t f p vs)
      unfolding keeps
      keeps_wide p vs a = go (preparing p)
        where
          go : (b : Bool) → Wide w (cond b (hashes f p.level (done t p.level p.round) (t p.level p.round) vs) (drop 1 vs))
          go true = hashes_wide p.level (done t p.level p.round) (t p.level p.round) vs a
          go false = wide_drop w 1 vs a

      in_turn_wide : (ps : List Pebbler) (vs : List (List ℕ)) → Wide w vs → Wide w (in_turn t (keeps t f) ps vs)
      unfolding in_turn
      in_turn_wide [] vs a = none
      in_turn_wide (p ∷ ps) vs a =
          let n : ℕ = length (holds t p) in
          wide_append w (keeps t f p (take n vs)) (in_turn t (keeps t f) ps (drop n vs)) (keeps_wide p (take n vs) (wide_take w n vs a))
          (in_turn_wide ps (drop n vs) (wide_drop w n vs a))

      pub round_wide : (k r : ℕ) (vs : List (List ℕ)) → Wide w vs → Wide w (round t f k r vs)
      unfolding round
      round_wide k r vs a = in_turn_wide (running k r 0) vs a

    -- whatever values a round is run on, it leaves as many bytes as the positions held after it ask for
    pub round_size : (s : ℕ) → s ≤ 3 → (k r : ℕ) (vs : List (List ℕ)) → 0 < r → r < 2 ^ suc k → Wide w vs → length vs ≡ length (positions (schedule s) k r 0)
        → length (joined (round (schedule s) f k r vs)) ≡ w * length (positions (schedule s) k (suc r) 0)
    round_size s known k r vs from less a e =
        joined_wide w (round (schedule s) f k r vs) (round_wide (schedule s) k r vs a)
        ∙ ap (λ (n : ℕ). w * n) (round_length f (schedule s) (fair s known) k r vs from less e)

    -- ---- a card's chain on bytes

    module _ (seed : List ℕ) (seeded : length seed ≡ w) where
      -- every element has w bytes
      pub element_wide : (n : ℕ) → length (chain f seed n) ≡ w
      unfolding chain
      element_wide zero = seeded
      element_wide (suc n) = f_keeps (chain f seed n) (element_wide n)

      module _ (s : ℕ) (known : s ≤ 3) (k : ℕ) where
        -- what is held before round r takes w bytes a position, and fits the slots
        pub held_size_lem : (r : ℕ) → length (joined (map (chain f seed) (positions (schedule s) k r 0))) ≡ w * length (positions (schedule s) k r 0)
        held_size_lem r =
            let ps = positions (schedule s) k r 0 in
            joined_wide w (map (chain f seed) ps) (wide_map w (chain f seed) element_wide ps) ∙ ap (λ (n : ℕ). w * n) (length-map ps (chain f seed))

        pub held_fits : (r : ℕ) → r ≤ 2 ^ suc k → length (joined (map (chain f seed) (positions (schedule s) k r 0))) ≤ w * slots s k
        held_fits r h = omega (arith, held_size_lem r, mul-le-mul_left w (enough_slots s known k r 0 h))

        -- it is read back, whatever stands behind it
        pub held_read : (r : ℕ) (rest : List ℕ)
            → values w (length (positions (schedule s) k r 0)) (joined (map (chain f seed) (positions (schedule s) k r 0)) ++ rest)
            ≡ map (chain f seed) (positions (schedule s) k r 0)
        held_read r rest =
            let ps = positions (schedule s) k r 0 in
            ap (λ (n : ℕ). values w n (joined (map (chain f seed) ps) ++ rest)) (sym_length ps)
            ∙ joined_cut w (map (chain f seed) ps) rest (wide_map w (chain f seed) element_wide ps)
          where
            sym_length : (ps : List ℕ) → length ps ≡ length (map (chain f seed) ps)
            sym_length ps = omega (arith, length-map ps (chain f seed))

        -- a round takes the bytes held before it to the bytes held after it
        pub round_on_bytes : (r : ℕ) (rest : List ℕ) → 0 < r → r < 2 ^ suc k
            → joined (round (schedule s) f k r (values w (length (positions (schedule s) k r 0)) (joined (map (chain f seed) (positions (schedule s) k r 0)) ++ rest)))
            ≡ joined (map (chain f seed) (positions (schedule s) k (suc r) 0))
        round_on_bytes r rest from less = rw (held_read r rest) (ap joined (round_chain (schedule s) (fair s known) f seed k r from less))

        -- a preparing round puts out no byte, and a paying round with i rounds left after it the w bytes of x_i
        pub quiet_on_bytes : (r : ℕ) (bytes : List ℕ) → r < 2 ^ k → joined (tick (schedule s) k r (values w (length (positions (schedule s) k r 0)) bytes)) ≡ []
        unfolding joined
        quiet_on_bytes r bytes h = rw (tick_none (schedule s) k r (values w (length (positions (schedule s) k r 0)) bytes) h) refl

        pub tick_on_bytes : (r i : ℕ) (rest : List ℕ) → 2 ^ k ≤ r → r + suc i ≡ 2 ^ suc k
            → joined (tick (schedule s) k r (values w (length (positions (schedule s) k r 0)) (joined (map (chain f seed) (positions (schedule s) k r 0)) ++ rest)))
            ≡ chain f seed i
        unfolding joined
        tick_on_bytes r i rest h e =
            let ps = positions (schedule s) k r 0 in
            let z : 0 + i ≡ i = omega arith in
            rw (
              held_read r rest,
              tick_first (schedule s) k r (map (chain f seed) ps) h (omega arith) (length-map ps (chain f seed)),
              take-map (chain f seed) ps,
              positions_first (schedule s) (fair s known) k r i 0 e h,
              z,
            ) (append-nil (chain f seed i))
