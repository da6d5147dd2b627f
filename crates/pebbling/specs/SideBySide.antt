-- The pebblers that run side by side, split in two: the children of P_(k+1) are the children of a P_k over the upper half of its positions, and then
-- P_k over the lower half. Whatever is claimed of all pebblers of a card is shown by induction on k through this. Assumes nothing.
use Rattle.std.specs.Prelude.{◌≡◌, Bool, ◌⊎◌, ℕ, zero, suc, ◌+◌, ◌-◌, ◌^◌, ◌≤◌, ◌<◌, leb, ltb, length}
use Rattle.std.proofs.Math.Path.{refl}
use Rattle.std.proofs.Common.{sym, ap, ◌∙◌, inl, inr, pow_pos}
use Rattle.std.proofs.Math.Bool.{true, false, cond}
use mathlib.Core.List.{List, [], ◌∷◌, ◌++◌, map, map-append, append-nil, append_assoc, flat_map}
use native.Mathlib.Omega.{arith}
use borrow.Author.Tests.{lt-ltb, le-ltb, le-leb, lt-leb}
use Rattle.std.proofs.Math.ListN.{length-append}
use Rattle.std.proofs.Math.Pow.{pow_mono}
use Rattle.pebbling.specs.Len.{lt_or_le}
use Rattle.pebbling.specs.Recursion.{sum, done, place, held, Pebbler, itself_or, children, running, preparing, holds, does, positions, work}

-- ---- lists

pub flat_map_append : {A B : Type 0} (f : A → List B) (s r : List A) → flat_map f (s ++ r) ≡ flat_map f s ++ flat_map f r
unfolding flat_map
flat_map_append f [] r = refl
flat_map_append f (x ∷ s) r = rw (flat_map_append f s r) (sym (append_assoc (f x) (flat_map f s) (flat_map f r)))

sum-append : (s r : List ℕ) → sum (s ++ r) ≡ sum s + sum r
sum-append [] r = omega arith
sum-append (x ∷ s) r = omega (arith, sum-append s r)

-- ---- one pebbler: how many it holds does not hang on its base

pub held_base : (k h a b : ℕ) → length (held k h a) ≡ length (held k h b)
unfolding held
held_base zero h a b = refl
held_base (suc k) zero a b = refl
held_base (suc k) (suc h) a b =
    go (ltb (suc h) (2 ^ k)) (held k (suc h - 2 ^ k) (a + 2 ^ k)) (held k (suc h - 2 ^ k) (b + 2 ^ k)) (held_base k (suc h - 2 ^ k) (a + 2 ^ k) (b + 2 ^ k))
  where
    go : (c : Bool) (r s : List ℕ) → length r ≡ length s
        → length (cond c ((a + suc h) ∷ a ∷ []) (r ++ (a ∷ []))) ≡ length (cond c ((b + suc h) ∷ b ∷ []) (s ++ (b ∷ [])))
    go true r s e = refl
    go false r s e = simp length-append (omega arith)

pub held_some : (k h base : ℕ) → 0 < length (held k h base)
unfolding held
held_some zero h base = omega arith
held_some (suc k) zero base = omega arith
held_some (suc k) (suc h) base = go (ltb (suc h) (2 ^ k)) (held k (suc h - 2 ^ k) (base + 2 ^ k))
  where
    go : (c : Bool) (s : List ℕ) → 0 < length (cond c ((base + suc h) ∷ base ∷ []) (s ++ (base ∷ [])))
    go true s = omega arith
    go false s = simp length-append (omega arith)

-- ---- who runs

-- the children of P_k(x_base), each in its round n
abbrev pub side : ℕ → ℕ → ℕ → List Pebbler
side k n base = children k k n base

abbrev pub pebbler : ℕ → ℕ → ℕ → Pebbler
pebbler k r base = record { level = k; round = r; base = base }

pub running_itself : (k r base : ℕ) → r ≤ 2 ^ k → running k r base ≡ pebbler k r base ∷ []
unfolding running itself_or
running_itself k r base h = rw (le-leb r (2 ^ k) h) refl

pub running_children : (k r base : ℕ) → 2 ^ k < r → running k r base ≡ side k (r - 2 ^ k) base
unfolding running itself_or
running_children k r base h = rw (lt-leb r (2 ^ k) h) refl

upper : (k i n base : ℕ) → i ≤ k → children (suc k) i n base ≡ children k i n (base + 2 ^ k)
unfolding children
upper k zero n base h = refl
upper k (suc i) n base h =
    let e : place (suc k) (suc i) base ≡ place k (suc i) (base + 2 ^ k) = unfold place in omega (arith, pow_mono h) in
    rw (upper k i n base (omega arith), e) refl

-- the split, of the pebblers themselves
pub side_split : (k n base : ℕ) → side (suc k) n base ≡ side k n (base + 2 ^ k) ++ running k n base
unfolding children running
side_split k n base =
    let e : place (suc k) (suc k) base ≡ base = unfold place in omega arith in
    rw (upper k k n base (omega arith), e) refl

-- after 2^k - 1 rounds no child of P_k runs any more
pub side_gone : (k n base : ℕ) → 2 ^ k ≤ n → side k n base ≡ []
unfolding children
side_gone zero n base h = refl
side_gone (suc k) n base h =
    side_split k n base ∙ rw (side_gone k n (base + 2 ^ k) (omega arith), running_children k n base (omega (arith, pow_pos k)), side_gone k (n - 2 ^ k) base (omega arith)) refl

-- one of three ways: while P_k prepares, in its round 2^k, and after it
pub side_both : (k n base : ℕ) → n ≤ 2 ^ k → side (suc k) n base ≡ side k n (base + 2 ^ k) ++ (pebbler k n base ∷ [])
side_both k n base h = side_split k n base ∙ rw (running_itself k n base h) refl

pub side_last : (k n base : ℕ) → n ≡ 2 ^ k → side (suc k) n base ≡ pebbler k n base ∷ []
side_last k n base e = side_both k n base (omega arith) ∙ rw (side_gone k n (base + 2 ^ k) (omega arith)) refl

pub side_late : (k n base : ℕ) → 2 ^ k < n → side (suc k) n base ≡ side k (n - 2 ^ k) base
side_late k n base h = side_split k n base ∙ rw (side_gone k n (base + 2 ^ k) (omega arith), running_children k n base h) refl

-- the split as one equation: P_(k+1) in its round 2^(k+1) + n is two P_k's, over the upper half in round 2^k + n and over the lower half in round n
pub running_split : (k n base : ℕ) → 0 < n → running (suc k) (2 ^ suc k + n) base ≡ running k (2 ^ k + n) (base + 2 ^ k) ++ running k n base
running_split k n base h =
    let e : 2 ^ suc k + n - 2 ^ suc k ≡ n = omega arith in
    let d : 2 ^ k + n - 2 ^ k ≡ n = omega arith in
    rw (running_children (suc k) (2 ^ suc k + n) base (omega arith), e, running_children k (2 ^ k + n) (base + 2 ^ k) (omega arith), d) (side_split k n base)

-- when P_k has run all its rounds nothing runs
pub running_none : (k r base : ℕ) → 2 ^ suc k ≤ r → running k r base ≡ []
running_none k r base h = running_children k r base (omega (arith, pow_pos k)) ∙ side_gone k (r - 2 ^ k) base (omega arith)

-- ---- the base moves positions and nothing else

abbrev pub shift : ℕ → Pebbler → Pebbler
shift b p = record { level = p.level; round = p.round; base = p.base + b }

children_shift : (b k i n base : ℕ) → children k i n (base + b) ≡ map (shift b) (children k i n base)
unfolding children itself_or
children_shift b k zero n base = refl
children_shift b k (suc i) n base =
    let e : place k (suc i) (base + b) ≡ place k (suc i) base + b = unfold place in omega arith in
    rw (map-append, children_shift b k i n base, e, children_shift b i i (n - 2 ^ i) (place k (suc i) base))
    (ap (λ (s : List Pebbler). map (shift b) (children k i n base) ++ s) (moved (leb n (2 ^ i)) (pebbler i n (place k (suc i) base)) (side i (n - 2 ^ i) (place k (suc i) base))))
  where
    moved : (c : Bool) (p : Pebbler) (s : List Pebbler) → cond c (shift b p ∷ []) (map (shift b) s) ≡ map (shift b) (cond c (p ∷ []) s)
    moved true p s = refl
    moved false p s = refl

pub side_shift : (k n base : ℕ) → side k n base ≡ map (shift base) (side k n 0)
side_shift k n base = let e : 0 + base ≡ base = omega arith in rw e at (children_shift base k k n 0)

pub running_shift : (k r base : ℕ) → running k r base ≡ map (shift base) (running k r 0)
running_shift k r base = go (lt_or_le (2 ^ k) r)
  where
    go : (2 ^ k < r) ⊎ (r ≤ 2 ^ k) → running k r base ≡ map (shift base) (running k r 0)
    go (inl h) = rw (running_children k r base h, running_children k r 0 h) (side_shift k (r - 2 ^ k) base)
    go (inr h) =
        let e : 0 + base ≡ base = omega arith in
        rw (running_itself k r base h, running_itself k r 0 h, e) refl

-- ---- what stands side by side: positions

module _ (t : ℕ → ℕ → ℕ) where
  unfoldable pub side_positions : ℕ → ℕ → ℕ → List ℕ
  side_positions k n base = flat_map (holds t) (side k n base)

  pub positions_itself : (k r base : ℕ) → r ≤ 2 ^ k → positions t k r base ≡ held k (done t k r) base
  unfolding positions flat_map holds
  positions_itself k r base h = rw (running_itself k r base h) (append-nil (held k (done t k r) base))

  pub positions_children : (k r base : ℕ) → 2 ^ k < r → positions t k r base ≡ side_positions k (r - 2 ^ k) base
  unfolding positions side_positions
  positions_children k r base h = rw (running_children k r base h) refl

  -- P_0 has no children
  pub side_positions_zero : (n base : ℕ) → side_positions 0 n base ≡ []
  unfolding side_positions flat_map children
  side_positions_zero n base = refl

  pub side_positions_gone : (k n base : ℕ) → 2 ^ k ≤ n → side_positions k n base ≡ []
  unfolding side_positions flat_map
  side_positions_gone k n base h = rw (side_gone k n base h) refl

  pub side_positions_both : (k n base : ℕ) → n ≤ 2 ^ k → side_positions (suc k) n base ≡ side_positions k n (base + 2 ^ k) ++ held k (done t k n) base
  unfolding side_positions flat_map holds
  side_positions_both k n base h =
      rw (side_both k n base h, flat_map_append, append-nil) refl

  pub side_positions_last : (k n base : ℕ) → n ≡ 2 ^ k → side_positions (suc k) n base ≡ held k (done t k n) base
  side_positions_last k n base e = side_positions_both k n base (omega arith) ∙ rw (side_positions_gone k n (base + 2 ^ k) (omega arith)) refl

  pub side_positions_late : (k n base : ℕ) → 2 ^ k < n → side_positions (suc k) n base ≡ side_positions k (n - 2 ^ k) base
  unfolding side_positions
  side_positions_late k n base h = rw (side_late k n base h) refl

  -- how many: the base does not matter
  abbrev pub side_held_count : ℕ → ℕ → ℕ
  side_held_count k n = length (side_positions k n 0)

  pub holds_length : (ps : List Pebbler) (b : ℕ) → length (flat_map (holds t) (map (shift b) ps)) ≡ length (flat_map (holds t) ps)
  unfolding flat_map holds
  holds_length [] b = refl
  holds_length (p ∷ ps) b =
      simp length-append (omega (arith, holds_length ps b, held_base p.level (done t p.level p.round) (p.base + b) p.base))

  -- a pebbler holds one value at least, and so do the children while they run
  pub side_some : (k n : ℕ) → 0 < n → n < 2 ^ k → 0 < side_held_count k n
  side_some zero n p h = omega arith
  side_some (suc k) n p h = go (λ n p h. side_some k n p h) (lt_or_le (2 ^ k) n)
    where
      go : ((n : ℕ) → 0 < n → n < 2 ^ k → 0 < side_held_count k n) → (2 ^ k < n) ⊎ (n ≤ 2 ^ k) → 0 < side_held_count (suc k) n
      go ih (inl g) = rw (side_positions_late k n 0 g) (ih (n - 2 ^ k) (omega arith) (omega arith))
      go ih (inr g) = rw (side_positions_both k n 0 g, length-append) (omega (arith, held_some k (done t k n) 0))

  pub side_length : (k n base : ℕ) → length (side_positions k n base) ≡ side_held_count k n
  unfolding side_positions
  side_length k n base = rw (side_shift k n base) (holds_length (side k n 0) base)

  -- ---- work

  unfoldable pub side_work : ℕ → ℕ → ℕ
  side_work k n = sum (map (does t) (side k n 0))

  does_shift : (ps : List Pebbler) (b : ℕ) → sum (map (does t) (map (shift b) ps)) ≡ sum (map (does t) ps)
  unfolding does preparing
  does_shift [] b = refl
  does_shift (p ∷ ps) b = rw (does_shift ps b) refl

  pub work_prepare : (k r : ℕ) → r < 2 ^ k → work t k r ≡ t k r
  unfolding work does preparing
  work_prepare k r h = rw (running_itself k r 0 (omega arith), lt-ltb r (2 ^ k) h) (omega arith)

  pub work_out : (k r : ℕ) → r ≡ 2 ^ k → work t k r ≡ 0
  unfolding work does preparing
  work_out k r e = rw (running_itself k r 0 (omega arith), le-ltb r (2 ^ k) (omega arith)) refl

  pub work_children : (k r : ℕ) → 2 ^ k < r → work t k r ≡ side_work k (r - 2 ^ k)
  unfolding work side_work
  work_children k r h = rw (running_children k r 0 h) refl

  pub side_work_zero : (n : ℕ) → side_work 0 n ≡ 0
  unfolding side_work children
  side_work_zero n = refl

  -- the split, of the work
  pub side_work_split : (k n : ℕ) → side_work (suc k) n ≡ side_work k n + work t k n
  unfolding work side_work
  side_work_split k n =
      rw (side_split k n 0, map-append, sum-append, side_shift k n (0 + 2 ^ k), does_shift) refl

  pub side_work_gone : (k n : ℕ) → 2 ^ k ≤ n → side_work k n ≡ 0
  unfolding side_work
  side_work_gone k n h = rw (side_gone k n 0 h) refl

  pub side_work_both : (k n : ℕ) → n < 2 ^ k → side_work (suc k) n ≡ side_work k n + t k n
  side_work_both k n h = side_work_split k n ∙ rw (work_prepare k n h) refl

  pub side_work_last : (k n : ℕ) → n ≡ 2 ^ k → side_work (suc k) n ≡ 0
  side_work_last k n e = side_work_split k n ∙ rw (work_out k n e, side_work_gone k n (omega arith)) refl

  pub side_work_late : (k n : ℕ) → 2 ^ k < n → side_work (suc k) n ≡ side_work k (n - 2 ^ k)
  unfolding side_work
  side_work_late k n h = rw (side_late k n 0 h) refl

  -- ---- the split as one equation

  pub positions_split : (k n base : ℕ) → 0 < n → positions t (suc k) (2 ^ suc k + n) base ≡ positions t k (2 ^ k + n) (base + 2 ^ k) ++ positions t k n base
  unfolding positions
  positions_split k n base h = rw (running_split k n base h) (flat_map_append (holds t) (running k (2 ^ k + n) (base + 2 ^ k)) (running k n base))

  -- how many: the base does not matter
  pub positions_length : (k r base : ℕ) → length (positions t k r base) ≡ length (positions t k r 0)
  positions_length k r base = go (lt_or_le (2 ^ k) r)
    where
      go : (2 ^ k < r) ⊎ (r ≤ 2 ^ k) → length (positions t k r base) ≡ length (positions t k r 0)
      go (inl h) = rw (positions_children k r base h, positions_children k r 0 h) (side_length k (r - 2 ^ k) base)
      go (inr h) = rw (positions_itself k r base h, positions_itself k r 0 h) (held_base k (done t k r) base 0)

  pub positions_ended : (k r base : ℕ) → 2 ^ suc k ≤ r → positions t k r base ≡ []
  unfolding positions flat_map
  positions_ended k r base h = rw (running_none k r base h) refl

  pub work_split : (k n : ℕ) → 0 < n → work t (suc k) (2 ^ suc k + n) ≡ work t k (2 ^ k + n) + work t k n
  work_split k n h =
      let e : 2 ^ suc k + n - 2 ^ suc k ≡ n = omega arith in
      let d : 2 ^ k + n - 2 ^ k ≡ n = omega arith in
      work_children (suc k) (2 ^ suc k + n) (omega arith) ∙ rw (e, work_children k (2 ^ k + n) (omega arith), d) (side_work_split k n)

  pub work_ended : (k r : ℕ) → 2 ^ suc k ≤ r → work t k r ≡ 0
  unfolding work
  work_ended k r h = rw (running_none k r 0 h) refl
