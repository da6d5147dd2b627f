-- A round on values, split as the pebblers are: the children's turns on the front values, and then P_k's on the rest. Assumes nothing.
use Rattle.std.specs.Prelude.{◌≡◌, ◌⊎◌, drop}
use Rattle.std.proofs.Math.Path.{refl, ap}
use Rattle.std.proofs.Common.{sym, ◌∙◌, inl, inr, eq-or-lt_of_le, arith, length-take, take_all}
use mathlib.Core.List.{List, [], ◌∷◌, ◌++◌, map, append-nil, append_assoc, flat_map}
use Prim.Native.Nat.{ℕ, zero, suc, ◌+◌, ◌-◌, ◌^◌, ◌≤◌, ◌<◌}
use borrow.Author.Tests.{lt-ltb, le-ltb}
use Rattle.std.proofs.Math.ListN.{length, take, length-append, length-drop}
use Rattle.std.proofs.Math.Seq.{take-take, drop-drop, take-nil}
use Rattle.pebbling.specs.Len.{lt_or_le}
use Rattle.pebbling.specs.Recursion.{done, held, hashes, Pebbler, running, preparing, gives, holds, keeps, in_turn, positions, tick, round}
use Rattle.pebbling.specs.SideBySide.{held_base, running_split, running_shift, positions_length, shift, side, pebbler, running_itself, running_children, side_both, side_last, side_late, side_shift, side_positions, side_positions_both, side_positions_last, side_positions_late, positions_itself, positions_children, side_held_count, side_some, holds_length, side_length}

drop-take : {A : Type 0} (n m : ℕ) (s : List A) → drop n (take (n + m) s) ≡ take m (drop n s)
drop-take zero m s = let e : 0 + m ≡ m = omega arith in rw e refl
drop-take (suc n) m [] = rw (take-nil (suc n + m), take-nil m) refl
drop-take (suc n) m (x ∷ s) = let e : suc n + m ≡ suc (n + m) = omega arith in rw e (drop-take n m s)

module _ (t : ℕ → ℕ → ℕ) {A : Type 0} where
  in_turn_append : (g : Pebbler → List A → List A) (ps qs : List Pebbler) (ys : List A)
      → in_turn t g (ps ++ qs) ys ≡ in_turn t g ps (take (length (flat_map (holds t) ps)) ys) ++ in_turn t g qs (drop (length (flat_map (holds t) ps)) ys)
  unfolding in_turn flat_map
  in_turn_append g [] qs ys = refl
  in_turn_append g (p ∷ ps) qs ys =
      let n : ℕ = length (holds t p) in
      let m : ℕ = length (flat_map (holds t) ps) in
      rw (
        in_turn_append g ps qs (drop n ys),
        length-append,
        take-take n (n + m) ys (omega arith),
        drop-take n m ys,
        drop-drop m n ys,
        append_assoc,
      ) refl

  in_turn_one : (g : Pebbler → List A → List A) (p : Pebbler) (ys : List A) → length ys ≡ length (holds t p) → in_turn t g (p ∷ []) ys ≡ g p ys
  unfolding in_turn
  in_turn_one g p ys e = rw (take_all (length (holds t p)) ys (omega arith)) (append-nil (g p ys))

  -- a turn that does not look at the base
  abbrev Baseless : (Pebbler → List A → List A) → Type 0
  Baseless g = (p : Pebbler) (b : ℕ) (ys : List A) → g (shift b p) ys ≡ g p ys

  in_turn_shift : (g : Pebbler → List A → List A) → Baseless g → (ps : List Pebbler) (b : ℕ) (ys : List A) → in_turn t g (map (shift b) ps) ys ≡ in_turn t g ps ys
  unfolding in_turn holds
  in_turn_shift g e [] b ys = refl
  in_turn_shift g e (p ∷ ps) b ys =
      let n : ℕ = length (holds t p) in
      rw (held_base p.level (done t p.level p.round) (p.base + b) p.base, e p b (take n ys), in_turn_shift g e ps b (drop n ys)) refl

  module _ (g : Pebbler → List A → List A) where
    -- the turns of the children of P_k
    unfoldable side_turn : ℕ → ℕ → List A → List A
    side_turn k n ys = in_turn t g (side k n 0) ys

    turn_late : (k n : ℕ) (ys : List A) → 2 ^ k < n → side_turn (suc k) n ys ≡ side_turn k (n - 2 ^ k) ys
    unfolding side_turn
    turn_late k n ys h = rw (side_late k n 0 h) refl

    turn_last : (k n : ℕ) (ys : List A) → n ≡ 2 ^ k → length ys ≡ side_held_count t (suc k) n → side_turn (suc k) n ys ≡ g (pebbler k n 0) ys
    unfolding side_turn holds
    turn_last k n ys h e = rw (side_last k n 0 h) (in_turn_one g (pebbler k n 0) ys (e ∙ ap length (side_positions_last t k n 0 h)))

    module _ (baseless : Baseless g) where
      turn_both : (k n : ℕ) (ys : List A) → n ≤ 2 ^ k → length ys ≡ side_held_count t (suc k) n
          → side_turn (suc k) n ys ≡ side_turn k n (take (side_held_count t k n) ys) ++ g (pebbler k n 0) (drop (side_held_count t k n) ys)
      unfolding side_turn side_positions holds
      turn_both k n ys h e =
          let m : ℕ = side_held_count t k n in
          let l : length (drop m ys) ≡ length (held k (done t k n) 0) =
          length-drop m ys ∙ omega (arith, ap length (side_positions_both t k n 0 h), length-append (side_positions t k n (0 + 2 ^ k)) (held k (done t k n) 0), side_length t k n (0 + 2 ^ k)) in
          rw (
            side_both k n 0 h,
            in_turn_append,
            side_shift k n (0 + 2 ^ k),
            in_turn_shift g baseless (side k n 0) (0 + 2 ^ k),
            holds_length t (side k n 0) (0 + 2 ^ k),
            in_turn_one g (pebbler k n 0) (drop m ys) l,
          ) refl

  -- ---- what is held after the round

  module _ (f : A → A) where
    unfoldable pub side_round : ℕ → ℕ → List A → List A
    side_round k n ys = in_turn t (keeps t f) (side k n 0) ys

    keeps_baseless : Baseless (keeps t f)
    unfolding keeps preparing
    keeps_baseless p b ys = refl

    prepares : (k r base : ℕ) (ys : List A) → r < 2 ^ k → keeps t f (pebbler k r base) ys ≡ hashes f k (done t k r) (t k r) ys
    unfolding keeps preparing
    prepares k r base ys h = rw (lt-ltb r (2 ^ k) h) refl

    puts : (k r base : ℕ) (ys : List A) → r ≡ 2 ^ k → keeps t f (pebbler k r base) ys ≡ drop 1 ys
    unfolding keeps preparing
    puts k r base ys e = rw (le-ltb r (2 ^ k) (omega arith)) refl

    -- P_k alone: a preparing round hashes, round 2^k drops y_0
    pub round_prepare : (k r : ℕ) (ys : List A) → r < 2 ^ k → length ys ≡ length (held k (done t k r) 0) → round t f k r ys ≡ hashes f k (done t k r) (t k r) ys
    unfolding round holds
    round_prepare k r ys h e = rw (running_itself k r 0 (omega arith)) (in_turn_one (keeps t f) (pebbler k r 0) ys e ∙ prepares k r 0 ys h)

    pub round_out_lem : (k r : ℕ) (ys : List A) → r ≡ 2 ^ k → length ys ≡ length (held k (done t k r) 0) → round t f k r ys ≡ drop 1 ys
    unfolding round holds
    round_out_lem k r ys h e = rw (running_itself k r 0 (omega arith)) (in_turn_one (keeps t f) (pebbler k r 0) ys e ∙ puts k r 0 ys h)

    pub round_children : (k r : ℕ) (ys : List A) → 2 ^ k < r → round t f k r ys ≡ side_round k (r - 2 ^ k) ys
    unfolding round side_round
    round_children k r ys h = rw (running_children k r 0 h) refl

    -- the children, in the three ways
    pub side_round_both : (k n : ℕ) (ys : List A) → n < 2 ^ k → length ys ≡ side_held_count t (suc k) n
        → side_round (suc k) n ys ≡ side_round k n (take (side_held_count t k n) ys) ++ hashes f k (done t k n) (t k n) (drop (side_held_count t k n) ys)
    unfolding side_round side_turn
    side_round_both k n ys h e = turn_both (keeps t f) keeps_baseless k n ys (omega arith) e ∙ rw (prepares k n 0 (drop (side_held_count t k n) ys) h) refl

    pub side_round_last : (k n : ℕ) (ys : List A) → n ≡ 2 ^ k → length ys ≡ side_held_count t (suc k) n → side_round (suc k) n ys ≡ drop 1 ys
    unfolding side_round side_turn
    side_round_last k n ys h e = turn_last (keeps t f) k n ys h e ∙ puts k n 0 ys h

    pub side_round_late : (k n : ℕ) (ys : List A) → 2 ^ k < n → side_round (suc k) n ys ≡ side_round k (n - 2 ^ k) ys
    unfolding side_round side_turn
    side_round_late = turn_late (keeps t f)

  -- ---- what is put out

  gives_baseless : Baseless gives
  unfolding gives preparing
  gives_baseless p b ys = refl

  -- a preparing round puts out nothing
  pub tick_none : (k r : ℕ) (ys : List A) → r < 2 ^ k → tick t k r ys ≡ []
  unfolding tick in_turn gives preparing
  tick_none k r ys h = rw (running_itself k r 0 (omega arith), lt-ltb r (2 ^ k) h) refl

  none : (k r base : ℕ) (ys : List A) → r < 2 ^ k → gives (pebbler k r base) ys ≡ []
  unfolding gives preparing
  none k r base ys h = rw (lt-ltb r (2 ^ k) h) refl

  out : (k r base : ℕ) (ys : List A) → r ≡ 2 ^ k → gives (pebbler k r base) ys ≡ take 1 ys
  unfolding gives preparing
  out k r base ys e = rw (le-ltb r (2 ^ k) (omega arith)) refl

  first_of : (m : ℕ) (ys : List A) → 0 < m → take 1 (take m ys) ≡ take 1 ys
  first_of m ys h = take-take 1 m ys h

  side_tick : (k n : ℕ) (ys : List A) → 0 < n → n < 2 ^ k → length ys ≡ side_held_count t k n → side_turn gives k n ys ≡ take 1 ys
  side_tick zero n ys p h e = absurd (omega arith)
  side_tick (suc k) n ys p h e = go (λ n ys p h e. side_tick k n ys p h e) (lt_or_le (2 ^ k) n)
    where
      go : ((n : ℕ) (ys : List A) → 0 < n → n < 2 ^ k → length ys ≡ side_held_count t k n → side_turn gives k n ys ≡ take 1 ys)
          → (2 ^ k < n) ⊎ (n ≤ 2 ^ k) → side_turn gives (suc k) n ys ≡ take 1 ys
      go ih (inl g) = turn_late gives k n ys g ∙ ih (n - 2 ^ k) ys (omega arith) (omega arith) (e ∙ ap length (side_positions_late t k n 0 g))
      go ih (inr g) = by (eq-or-lt_of_le g)
        where
          by : (n ≡ 2 ^ k) ⊎ (n < 2 ^ k) → side_turn gives (suc k) n ys ≡ take 1 ys
          by (inl q) = turn_last gives k n ys q e ∙ out k n 0 ys q
          by (inr q) =
              let m : ℕ = side_held_count t k n in
              let l : length (take m ys) ≡ m =
              length-take m ys ∙ omega (arith, ap length (side_positions_both t k n 0 g), length-append (side_positions t k n (0 + 2 ^ k)) (held k (done t k n) 0), side_length t k n (0 + 2 ^ k)) in
              turn_both gives gives_baseless k n ys g e
              ∙ rw (ih n (take m ys) p q l, none k n 0 (drop m ys) q, append-nil) (first_of m ys (side_some t k n p q))

  -- every later round puts out the first of the values held
  pub tick_first : (k r : ℕ) (ys : List A) → 2 ^ k ≤ r → r < 2 ^ suc k → length ys ≡ length (positions t k r 0) → tick t k r ys ≡ take 1 ys
  unfolding tick side_turn holds
  tick_first k r ys h b e = go (eq-or-lt_of_le h)
    where
      go : (2 ^ k ≡ r) ⊎ (2 ^ k < r) → tick t k r ys ≡ take 1 ys
      go (inl q) =
          rw (running_itself k r 0 (omega arith))
          (in_turn_one gives (pebbler k r 0) ys (e ∙ ap length (positions_itself t k r 0 (omega arith))) ∙ out k r 0 ys (sym q))
      go (inr q) =
          rw (running_children k r 0 q)
          (side_tick k (r - 2 ^ k) ys (omega arith) (omega arith) (e ∙ ap length (positions_children t k r 0 q)))

  -- ---- the split as one equation: the upper P_k takes its values first, and the lower one the rest

  module _ (f : A → A) where
    pub round_split : (k n : ℕ) (ys : List A) → 0 < n
        → round t f (suc k) (2 ^ suc k + n) ys
        ≡ round t f k (2 ^ k + n) (take (length (positions t k (2 ^ k + n) 0)) ys) ++ round t f k n (drop (length (positions t k (2 ^ k + n) 0)) ys)
    unfolding round positions
    round_split k n ys h =
        let m : length (flat_map (holds t) (running k (2 ^ k + n) (0 + 2 ^ k))) ≡ length (flat_map (holds t) (running k (2 ^ k + n) 0)) = positions_length t k (2 ^ k + n) (0 + 2 ^ k) in
        rw (
          running_split k n 0 h,
          in_turn_append (keeps t f) (running k (2 ^ k + n) (0 + 2 ^ k)) (running k n 0) ys,
          m,
          running_shift k (2 ^ k + n) (0 + 2 ^ k),
          in_turn_shift (keeps t f) (keeps_baseless f) (running k (2 ^ k + n) 0) (0 + 2 ^ k),
        ) refl
