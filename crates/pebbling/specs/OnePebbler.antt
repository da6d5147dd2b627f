-- One pebbler P_k(x_base) after h hashes, in closed form: its newest y is at base + h, and behind it stand its finished y's. So a hash takes the chain's
-- values at the positions held to those held one hash later. Assumes nothing.
use Rattle.std.specs.Prelude.{◌≡◌, true, false, ◌⊎◌, eqb, length}
use Rattle.std.proofs.Math.Path.{refl}
use Rattle.std.proofs.Common.{sym, ap, ◌∙◌, true≢false, eq-or-lt_of_le, add-zero, lt-ltb, le-ltb, eq-eqb, ne_eqb, pow_pos}
use Rattle.std.proofs.lemmas.Bool.{false≢true}
use Rattle.std.proofs.Math.Logic.{inl, inr}
use mathlib.Core.List.{List, [], ◌∷◌, ◌++◌, map}
use Prim.Native.Nat.{ℕ, zero, suc, ◌+◌, ◌-◌, ◌^◌, ◌≤◌, ◌<◌}
use Rattle.std.proofs.Math.Nat.{le_dest, add-suc}
use native.Mathlib.Omega.{arith}
use Rattle.std.proofs.Math.Pow.{pow_mono}
use Rattle.pebbling.specs.Len.{exp_lt, lt_or_le, len, len_law, lt_len, len_lt, len_unique}
use Rattle.pebbling.specs.Recursion.{place, held, finished, hash, hashes, chain}

-- ---- finished y's

-- the positions of y_l, y_(l+1), ..: m of them
unfoldable pub places : ℕ → ℕ → ℕ → ℕ → List ℕ
places k l zero base = []
places k l (suc m) base = place k l base ∷ places k (suc l) m base

pub places_snoc : (k l m base : ℕ) → places k l m base ++ (place k (l + m) base ∷ []) ≡ places k l (suc m) base
unfolding places
places_snoc k l zero base = rw (add-zero l) refl
places_snoc k l (suc m) base =
    let e : l + suc m ≡ suc l + m = omega arith in
    rw e (ap (λ (s : List ℕ). place k l base ∷ s) (places_snoc k (suc l) m base))

-- up to y_k, those of P_(k+1) are those of P_k over its upper half
pub places_upper : (k l m base : ℕ) → l + m ≤ suc k → places (suc k) l m base ≡ places k l m (base + 2 ^ k)
unfolding places
places_upper k l zero base h = refl
places_upper k l (suc m) base h =
    let e : place (suc k) l base ≡ place k l (base + 2 ^ k) = unfold place in omega (arith, pow_mono {i = l} {j = k} (omega arith)) in
    rw (e, places_upper k (suc l) m base (omega arith)) refl

pub places_length : (k l m base : ℕ) → length (places k l m base) ≡ m
unfolding places
places_length k l zero base = refl
places_length k l (suc m) base = ap suc (places_length k (suc l) m base)

-- y_k is where the pebbler begins
first_place : (k base : ℕ) → place k k base ≡ base
unfolding place
first_place k base = omega arith

-- ---- which y is the newest

-- y_l is: all but fewer than 2^(l+1) of the 2^k - 1 hashes are done, and 2^l - 1 of them are not
pub record Newest (k h l m : ℕ) : Type 0 where
  pub whole : l + m ≡ k
  pub begun : h + 2 ^ l ≤ 2 ^ k
  pub under : 2 ^ k < h + 2 ^ suc l

pub newest : (k h : ℕ) → h < 2 ^ k → (l : ℕ) × ((m : ℕ) × Newest k h l m)
newest k h b = go (le_dest (lt_len (2 ^ k - h) 0 (omega arith)))
  where
    go : (l : ℕ) × (1 + l ≡ len (2 ^ k - h)) → (l : ℕ) × ((m : ℕ) × Newest k h l m)
    go l =
        let f : len (2 ^ k - h) ≡ suc l.0 = omega arith in
        let c = len_lt (2 ^ k - h) l.0 (omega arith) in
        let d = rw f at (len_law (2 ^ k - h)).below in
        let m = le_dest (exp_lt l.0 (suc k) (omega arith)) in
        (l.0, (m.0, record { whole = omega arith; begun = omega arith; under = omega arith }))

-- no hash is done, and y_k is the newest; fewer than 2^(k-1) are, and it is y_(k-1); else it is one of P_(k-1)'s
module _ (k h l m : ℕ) (n : Newest (suc k) (suc h) l m) where
  newest_first : suc h < 2 ^ k → l ≡ k
  newest_first b = omega (arith, n, exp_lt k (suc l) (omega arith), exp_lt l (suc k) (omega arith))

  newest_later : 2 ^ k ≤ suc h → (m' : ℕ) × ((m ≡ suc m') × Newest k (suc h - 2 ^ k) l m')
  newest_later b =
      let d = le_dest (exp_lt l (suc k) (omega arith)) in
      (d.0, (omega (arith, n), record { whole = omega arith; begun = omega arith; under = omega arith }))

newest_none : (k l m : ℕ) → Newest k 0 l m → l ≡ k
newest_none k l m n = omega (arith, n, exp_lt k (suc l) (omega arith))

-- the newest y, and behind it the finished ones
pub held_form : (k h l m base : ℕ) → Newest k h l m → held k h base ≡ (base + h) ∷ places k (suc l) m base
unfolding held places
held_form zero h l zero base n = let e : base + h ≡ base = omega (arith, n) in rw e refl
held_form zero h l (suc m) base n = absurd (omega (arith, n))
held_form (suc k) zero l zero base n = rw (add-zero base) refl
held_form (suc k) zero l (suc m) base n = absurd (omega (arith, newest_none (suc k) l (suc m) n))
held_form (suc k) (suc h) l m base n = go (λ m n. held_form k (suc h - 2 ^ k) l m (base + 2 ^ k) n) (lt_or_le (suc h) (2 ^ k))
  where
    go : ((m' : ℕ) → Newest k (suc h - 2 ^ k) l m' → held k (suc h - 2 ^ k) (base + 2 ^ k) ≡ (base + 2 ^ k + (suc h - 2 ^ k)) ∷ places k (suc l) m' (base + 2 ^ k))
        → (suc h < 2 ^ k) ⊎ (2 ^ k ≤ suc h) → held (suc k) (suc h) base ≡ (base + suc h) ∷ places (suc k) (suc l) m base
    go ih (inl b) =
        let e : l ≡ k = newest_first k h l m n b in
        let d : m ≡ 1 = omega arith in
        rw (lt-ltb (suc h) (2 ^ k) b, d, e, first_place (suc k) base) refl
    go ih (inr b) = by (newest_later k h l m n b)
      where
        by : (m' : ℕ) × ((m ≡ suc m') × Newest k (suc h - 2 ^ k) l m') → held (suc k) (suc h) base ≡ (base + suc h) ∷ places (suc k) (suc l) m base
        by d =
            let a : base + 2 ^ k + (suc h - 2 ^ k) ≡ base + suc h = omega arith in
            let c : suc l + d.0 ≡ suc k = omega arith in
            rw (le-ltb (suc h) (2 ^ k) b, ih d.0 d.1.1, a, d.1.0, ← places_upper k (suc l) d.0 base (omega arith))
            (ap (λ (x : ℕ). (base + suc h) ∷ (places (suc k) (suc l) d.0 base ++ (x ∷ []))) (sym (first_place (suc k) base) ∙ ap (λ (x : ℕ). place (suc k) x base) (sym c))
            ∙ ap (λ (s : List ℕ). (base + suc h) ∷ s) (places_snoc (suc k) (suc l) d.0 base))

pub newest_len : (k h l m : ℕ) → Newest k h l m → len (2 ^ k - h) ≡ suc l
newest_len k h l m n = len_unique (2 ^ k - h) (suc l) (record { below = omega (arith, n); least = omega (arith, n) })

-- how many are held
pub held_length : (k h base : ℕ) → h < 2 ^ k → length (held k h base) ≡ k + 2 - len (2 ^ k - h)
held_length k h base b = go (newest k h b)
  where
    go : (l : ℕ) × ((m : ℕ) × Newest k h l m) → length (held k h base) ≡ k + 2 - len (2 ^ k - h)
    go n =
        let l : ℕ = n.0 in
        let m : ℕ = n.1.0 in
        rw (held_form k h l m base n.1.1, newest_len k h l m n.1.1) (omega (arith, places_length k (suc l) m base, n.1.1.whole))

-- when all 2^k - 1 hashes are done, y_0 to y_k are held
pub held_all : (k base : ℕ) → held k (2 ^ k - 1) base ≡ places k 0 (suc k) base
unfolding places place
held_all k base =
    let e : base + (2 ^ k - 2 ^ 0) ≡ base + (2 ^ k - 1) = refl in
    held_form k (2 ^ k - 1) 0 k base (record { whole = omega arith; begun = omega (arith, pow_pos k); under = omega (arith, pow_pos k) })

-- and before the first hash y_k alone
pub held_none : (k base : ℕ) → held k 0 base ≡ base ∷ []
unfolding held
held_none zero base = refl
held_none (suc k) base = refl

-- ---- finished or not

-- the newest y is finished where the hashes to come are 2^l - 1 for an l
pub finished_yes : (k h l m : ℕ) → Newest k h l m → h + 2 ^ l ≡ 2 ^ k → finished k h ≡ true
unfolding finished
finished_yes zero h l m n e = refl
finished_yes (suc k) zero l m n e = refl
finished_yes (suc k) (suc h) l m n e = go (λ m n e. finished_yes k (suc h - 2 ^ k) l m n e) (lt_or_le (suc h) (2 ^ k))
  where
    go : ((m' : ℕ) → Newest k (suc h - 2 ^ k) l m' → suc h - 2 ^ k + 2 ^ l ≡ 2 ^ k → finished k (suc h - 2 ^ k) ≡ true)
        → (suc h < 2 ^ k) ⊎ (2 ^ k ≤ suc h) → finished (suc k) (suc h) ≡ true
    go ih (inl b) = absurd (omega (arith, ap (λ (x : ℕ). 2 ^ x) (newest_first k h l m n b)))
    go ih (inr b) = let d = newest_later k h l m n b in rw (le-ltb (suc h) (2 ^ k) b) (ih d.0 d.1.1 (omega arith))

pub finished_no : (k h l m : ℕ) → Newest k h l m → h + 2 ^ l < 2 ^ k → finished k h ≡ false
unfolding finished
finished_no zero h l m n e = absurd (omega (arith, n, pow_pos l))
finished_no (suc k) zero l m n e = absurd (omega (arith, ap (λ (x : ℕ). 2 ^ x) (newest_none (suc k) l m n)))
finished_no (suc k) (suc h) l m n e = go (λ m n e. finished_no k (suc h - 2 ^ k) l m n e) (lt_or_le (suc h) (2 ^ k))
  where
    go : ((m' : ℕ) → Newest k (suc h - 2 ^ k) l m' → suc h - 2 ^ k + 2 ^ l < 2 ^ k → finished k (suc h - 2 ^ k) ≡ false)
        → (suc h < 2 ^ k) ⊎ (2 ^ k ≤ suc h) → finished (suc k) (suc h) ≡ false
    go ih (inl b) = rw (lt-ltb (suc h) (2 ^ k) b) refl
    go ih (inr b) = let d = newest_later k h l m n b in rw (le-ltb (suc h) (2 ^ k) b) (ih d.0 d.1.1 (omega arith))

-- so a test by powers of two tells: what is left of 2^k is one
pub finished_test : (k h : ℕ) → h < 2 ^ k → finished k h ≡ eqb (2 ^ k - h) (2 ^ (len (2 ^ k - h) - 1))
finished_test k h b = go (newest k h b)
  where
    go : (l : ℕ) × ((m : ℕ) × Newest k h l m) → finished k h ≡ eqb (2 ^ k - h) (2 ^ (len (2 ^ k - h) - 1))
    go n =
        let e : len (2 ^ k - h) - 1 ≡ n.0 = omega (arith, newest_len k h n.0 n.1.0 n.1.1) in
        rw e (by (eq-or-lt_of_le n.1.1.begun))
      where
        by : (h + 2 ^ n.0 ≡ 2 ^ k) ⊎ (h + 2 ^ n.0 < 2 ^ k) → finished k h ≡ eqb (2 ^ k - h) (2 ^ n.0)
        by (inl q) = finished_yes k h n.0 n.1.0 n.1.1 q ∙ sym (eq-eqb (2 ^ k - h) (2 ^ n.0) (omega arith))
        by (inr q) = finished_no k h n.0 n.1.0 n.1.1 q ∙ sym (ne_eqb (2 ^ k - h) (2 ^ n.0) (λ (z : 2 ^ k - h ≡ 2 ^ n.0). omega arith))

-- ---- the next hash

-- it goes on with y_l, or finds y_(l+1) finished and begins y_l
record On (k h l m : ℕ) : Type 0 where
  unfinished : finished k h ≡ false
  now : Newest k h l m
  next : Newest k (suc h) l m

record Begin (k h l m : ℕ) : Type 0 where
  closed : finished k h ≡ true
  now : Newest k h (suc l) m
  next : Newest k (suc h) l (suc m)
  at : 2 ^ k - 2 ^ suc l ≡ h

abbrev Step : ℕ → ℕ → Type 0
Step k h = (l : ℕ) × ((m : ℕ) × (On k h l m ⊎ Begin k h l m))

step : (k h : ℕ) → suc h < 2 ^ k → Step k h
step k h b = go (newest k h (omega arith))
  where
    begin : (l m : ℕ) → Newest k h l m → h + 2 ^ l ≡ 2 ^ k → Step k h
    begin zero m n e = absurd (omega arith)
    begin (suc l) m n e =
        let q : Newest k (suc h) l (suc m) = record { whole = omega (arith, n); begun = omega (arith, pow_pos l); under = omega (arith, pow_pos l) } in
        (l, (m, inr (record { closed = finished_yes k h (suc l) m n e; now = n; next = q; at = omega arith })))

    go : (l : ℕ) × ((m : ℕ) × Newest k h l m) → Step k h
    go n = by (eq-or-lt_of_le n.1.1.begun)
      where
        by : (h + 2 ^ n.0 ≡ 2 ^ k) ⊎ (h + 2 ^ n.0 < 2 ^ k) → Step k h
        by (inl e) = begin n.0 n.1.0 n.1.1 e
        by (inr e) =
            let q : Newest k (suc h) n.0 n.1.0 = record { whole = n.1.1.whole; begun = omega arith; under = omega (arith, n.1.1) } in
            (n.0, (n.1.0, inl (record { unfinished = finished_no k h n.0 n.1.0 n.1.1 e; now = n.1.1; next = q })))

-- one value more is held just where the newest was finished
held_at : (k h l m base : ℕ) → Newest k h l m → length (held k h base) ≡ suc m
held_at k h l m base n = rw (held_form k h l m base n) (ap suc (places_length k (suc l) m base))

module _ (k h a b : ℕ) (bound : suc h < 2 ^ k) where
  pub held_begin : finished k h ≡ true → length (held k (suc h) a) ≡ suc (length (held k h b))
  held_begin f = go (step k h bound)
    where
      go : Step k h → length (held k (suc h) a) ≡ suc (length (held k h b))
      go (l, (m, inl s)) = absurd (false≢true (sym s.unfinished ∙ f))
      go (l, (m, inr s)) = omega (arith, held_at k h (suc l) m b s.now, held_at k (suc h) l (suc m) a s.next)

  pub held_on : finished k h ≡ false → length (held k (suc h) a) ≡ length (held k h b)
  held_on f = go (step k h bound)
    where
      go : Step k h → length (held k (suc h) a) ≡ length (held k h b)
      go (l, (m, inl s)) = omega (arith, held_at k h l m b s.now, held_at k (suc h) l m a s.next)
      go (l, (m, inr s)) = absurd (true≢false (sym s.closed ∙ f))

-- ---- hashes move the chain's values on

module _ {A : Type 0} (f : A → A) (seed : A) where
  held_hash : (k h base : ℕ) → suc h < 2 ^ k → hash f k h (map (chain f seed) (held k h base)) ≡ map (chain f seed) (held k (suc h) base)
  unfolding hash chain places place
  held_hash k h base b = go (step k h b)
    where
      go : Step k h → hash f k h (map (chain f seed) (held k h base)) ≡ map (chain f seed) (held k (suc h) base)
      go (l, (m, inl s)) = rw (held_form k h l m base s.now, held_form k (suc h) l m base s.next, s.unfinished, add-suc base h) refl
      go (l, (m, inr s)) =
          rw (held_form k h (suc l) m base s.now, held_form k (suc h) l (suc m) base s.next, s.closed, s.at, add-suc base h) refl

  -- n hashes after h take the chain at the positions held after h to the chain at those held after h + n
  pub held_hashes : (k h n base : ℕ) → h + n < 2 ^ k → hashes f k h n (map (chain f seed) (held k h base)) ≡ map (chain f seed) (held k (h + n) base)
  unfolding hashes
  held_hashes k h zero base b = rw (add-zero h) refl
  held_hashes k h (suc n) base b =
      let e : h + suc n ≡ suc h + n = omega arith in
      rw (held_hash k h base (omega arith), e) (held_hashes k (suc h) n base (omega arith))

-- the last of a round's hashes
pub hashes_last : {A : Type 0} (f : A → A) (k h n : ℕ) (ys : List A) → hashes f k h (suc n) ys ≡ hash f k (h + n) (hashes f k h n ys)
unfolding hashes
hashes_last f k h zero ys = rw (add-zero h) refl
hashes_last f k h (suc n) ys =
    let e : suc h + n ≡ h + suc n = omega arith in
    hashes_last f k (suc h) n (hash f k h ys) ∙ rw e refl
