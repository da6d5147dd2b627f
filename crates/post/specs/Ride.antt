-- A post that is offered the values of one chain, which is what a card of n ticks puts out: x_0 is the seed, x_n is the anchor, and the
-- ticks are x_(n-1) down to x_0. The post counts to 2^k, and n is any number up to that. For every known function, k up to 20 and seed of
-- the function's width. Assumes nothing.
use Rattle.std.specs.Prelude.{◌≡◌, true, false, List, [], ◌∷◌, length}
use Rattle.std.proofs.Math.Path.{refl, ap}
use Rattle.std.proofs.Common.{sym, ◌∙◌, ⊎_elim}
use Prim.Native.Nat.{ℕ, zero, suc, ◌+◌, ◌-◌, ◌^◌, ◌≤◌, ◌<◌}
use native.Mathlib.Omega.{arith}
use borrow.Author.Tests.{le-ltb, eq-eqb, ne_eqb}
use Rattle.records.specs.Chains.{chain_length, chain_add}
use Rattle.oneway.specs.Step.{known, width, step}
use Rattle.oneway.specs.declared.Chain.{Chain}
use Rattle.pebbling.specs.Len.{lt_or_le}
use Rattle.pebbling.specs.Recursion.{chain}
use Rattle.refusals.specs.Numbers.{said_of}
use Rattle.refusals.specs.declared.Refusal.TheVariants.{Spent, NotTaken}
use Rattle.post.specs.declared.Head.{Head}
use Rattle.std.specs.Prelude.{Ok}
use Rattle.post.specs.Record.{size, head_of, anchor_of, held_value}
use Rattle.post.specs.Refused.{numbers, room_for, enrol_judged, inspect_of, gap_strange, ready, offer_judged}
use Rattle.post.specs.Sound.{sound}
use Rattle.post.specs.Kept.{written_anchor, written_held}
use Rattle.post.specs.Promises.{enrol_must_say, enrol_post, credited, offer_must_say, offer_post, settle_must_say}
use Rattle.post.specs.Demands.{credit_is_fewest, credit_leaves, taken_where_some, refused_where_none, spent_says_6, unspent_never_says_6, credit_writable, credit_passes, enrol_done, enrol_writable, enrol_passes, settle_yes, settle_passes}

-- a gap limit from 1 to 64
pub record Allowed (gap : ℕ) : Type 0 where
  pub some : 0 < gap
  pub upto : gap ≤ 64

gap_fine : (gap : ℕ) → Allowed gap → gap_strange gap ≡ false
unfolding gap_strange
gap_fine gap a = rw (ne_eqb gap 0 (λ e. omega (arith, a.some)), le-ltb 64 gap a.upto) refl

-- ---- one offer

abbrev head_at : Chain → ℕ → ℕ → Head
head_at c k paid = record { function = c.function; k = k; paid = paid }

module _ (c : Chain) (k n : ℕ) (seed : List ℕ) where
  abbrev x : ℕ → List ℕ
  x i = chain (step c) seed i

  -- a post of this chain that holds x_i, with all ticks above x_i paid
  record Standing (post : List ℕ) (paid i : ℕ) : Type 0 where
    whole : paid + i ≡ n
    formed : inspect_of post ≡ Ok (head_at c k paid)
    anchored : anchor_of (head_at c k paid) post ≡ x n
    holds : held_value (head_at c k paid) post ≡ x i

  -- d steps from x_i lead to x_(i + d)
  steps_on : (i d : ℕ) → chain (step c) (x i) d ≡ x (i + d)
  steps_on i d = sym (chain_add (step c) seed i d)

  module _ (wide : length seed ≡ width c) (counted : n ≤ 2 ^ k) where
    -- a value of the chain is refused nothing before the search, while ticks are unpaid
    judged : (post : List ℕ) (paid i j gap : ℕ) → Standing post paid i → 0 < i → Allowed gap → offer_judged post (x j) gap ≡ Ok (head_at c k paid)
    unfolding offer_judged ready
    judged post paid i j gap s p a =
        let q : paid ≡ 2 ^ k → ⊥ = λ e. omega (arith, s.whole) in
        rw (s.formed, gap_fine gap a, ne_eqb paid (2 ^ k) q, eq-eqb (length (x j)) (width c) (chain_length c seed wide j)) refl

    module _ (post : List ℕ) (paid i d gap : ℕ) (s : Standing post paid (i + d)) (p : 0 < d) (a : Allowed gap) where
      reaches : offer_judged post (x i) gap ≡ Ok (head_at c k paid)
      reaches = judged post paid (i + d) i gap s (omega arith) a

      -- with d - 1 ticks missed, d at most G, the next tick is taken, and the credit is at most d
      missed_taken : d ≤ gap → (credit : ℕ) × (offer_must_say post (x i) gap ≡ 0 ∷ credit ∷ []) × (credit ≤ d)
      missed_taken h =
          taken_where_some post (x i) gap (head_at c k paid) reaches d p h (omega (arith, s.whole)) (steps_on i d ∙ sym s.holds)

      -- and exactly d where no fewer steps reach the value held
      missed_exactly : d ≤ gap → ((j : ℕ) → 0 < j → j < d → chain (step c) (x i) j ≡ x (i + d) → ⊥) → offer_must_say post (x i) gap ≡ 0 ∷ d ∷ []
      missed_exactly h none =
          let t = missed_taken h in
          let f = credit_is_fewest post (x i) gap (head_at c k paid) reaches t.0 t.1 in
          let no : t.0 < d → ⊥ = λ l. none t.0 f.from l (f.leads ∙ s.holds) in
          let e : t.0 ≡ d = ⊎_elim (λ l. absurd (no l)) (λ l. let q : t.0 ≡ d = omega (arith, t.2) in q) (lt_or_le t.0 d) in
          t.1 ∙ ap (λ (g : ℕ). 0 ∷ g ∷ []) e

      -- where d is credited, the post stands at x_i
      missed_stands : offer_must_say post (x i) gap ≡ 0 ∷ d ∷ [] → Standing (offer_post post (x i) gap) (paid + d) i
      missed_stands e =
          let h = head_at c k paid in
          let f = credit_is_fewest post (x i) gap h reaches d e in
          let w = credit_writable post (x i) gap h reaches d f in
          rw (credit_leaves post (x i) gap h reaches d e)
          (record {
            whole = omega (arith, s.whole);
            formed = credit_passes post (x i) gap h reaches d f;
            anchored = written_anchor (credited d h) (anchor_of h post) (x i) post w ∙ s.anchored;
            holds = written_held (credited d h) (anchor_of h post) (x i) post w;
          })

    -- with one tick missed and G = 1 it is refused, unless one step happens to reach the value held
    missed_refused : (post : List ℕ) (paid i : ℕ) → Standing post paid (i + 2) → (step c (x i) ≡ x (i + 2) → ⊥)
        → (offer_must_say post (x i) 1 ≡ said_of NotTaken) × (offer_post post (x i) 1 ≡ post)
    unfolding chain
    missed_refused post paid i s none =
        refused_where_none post (x i) 1 (head_at c k paid)
        (judged post paid (i + 2) i 1 s (omega arith) (record { some = omega arith; upto = omega arith }))
        (λ g from upto unpaid leads. let e : g ≡ 1 = omega arith in none ((rw e at leads) ∙ s.holds))

    -- the next tick in order is credited exactly 1: no fewer steps than one are tried
    module _ (post : List ℕ) (paid i gap : ℕ) (s : Standing post paid (suc i)) (a : Allowed gap) where
      one_more : Standing post paid (i + 1)
      one_more = let e : suc i ≡ i + 1 = omega arith in rw e at s

      next_credited : offer_must_say post (x i) gap ≡ 0 ∷ 1 ∷ []
      next_credited = missed_exactly post paid i 1 gap one_more (omega arith) a (omega (arith, a.some)) (λ j f l e. omega arith)

      next_stands : Standing (offer_post post (x i) gap) (suc paid) i
      next_stands =
          let e : paid + 1 ≡ suc paid = omega arith in
          rw e at (missed_stands post paid i 1 gap one_more (omega arith) a next_credited)

-- ---- a whole ride: enrolled with the anchor, and offered every tick in order

-- the record that an enrol and m offers leave: `tick m` is offered with the gap limit `gaps m`
unfoldable pub after : (function k : ℕ) (anchor : List ℕ) (tick : ℕ → List ℕ) (gaps : ℕ → ℕ) (post : List ℕ) → ℕ → List ℕ
after function k anchor tick gaps post zero = enrol_post function k anchor post
after function k anchor tick gaps post (suc m) = offer_post (after function k anchor tick gaps post m) (tick m) (gaps m)

-- a ride of n ticks: wherever they come from, the anchor is x_n and the ticks are x_(n-1) down to x_0
pub record Ride (c : Chain) (k n : ℕ) (seed anchor : List ℕ) (tick : ℕ → List ℕ) (gaps : ℕ → ℕ) (post : List ℕ) : Type 0 where
  pub known : known c.function ≡ true
  pub small : k ≤ 20
  pub counted : n ≤ 2 ^ k
  pub seeded : length seed ≡ width c
  pub anchored : anchor ≡ chain (step c) seed n
  pub ticked : (m i : ℕ) → m + suc i ≡ n → tick m ≡ chain (step c) seed i
  pub allowed : (m : ℕ) → Allowed (gaps m)
  pub long : size ≤ length post

module _ {c : Chain} {k n : ℕ} {seed anchor : List ℕ} {tick : ℕ → List ℕ} {gaps : ℕ → ℕ} {post : List ℕ} (ride : Ride c k n seed anchor tick gaps post) where
  abbrev offered : ℕ → List ℕ
  offered = after c.function k anchor tick gaps post

  wide_anchor : length anchor ≡ width c
  wide_anchor = ap length ride.anchored ∙ chain_length c seed ride.seeded n

  -- the post takes the anchor
  pub ride_enrolled : enrol_must_say c.function k anchor post ≡ 0 ∷ []
  unfolding enrol_must_say enrol_judged numbers room_for
  ride_enrolled =
      rw (ride.known, le-ltb 20 k ride.small, eq-eqb (length anchor) (width c) wide_anchor, le-ltb (length post) size ride.long) refl

  -- after m ticks the post holds x_(n-m)
  stands : (m i : ℕ) → m + i ≡ n → Standing c k n seed (offered m) m i
  unfolding after
  stands zero i e =
      let d = enrol_done c.function k anchor post ride_enrolled in
      let w = enrol_writable c.function k anchor post d.0 in
      let h = head_at c k 0 in
      let q : n ≡ i = omega arith in
      rw d.1
      (record {
        whole = e;
        formed = enrol_passes c.function k anchor post d.0;
        anchored = written_anchor h anchor anchor post w ∙ ride.anchored;
        holds = written_held h anchor anchor post w ∙ ride.anchored ∙ ap (chain (step c) seed) q;
      })
  stands (suc m) i e =
      rw (ride.ticked m i (omega arith))
      (next_stands c k n seed ride.seeded ride.counted (offered m) m i (gaps m) (stands m (suc i) (omega arith)) (ride.allowed m))

  -- every tick in order is credited exactly 1
  pub ride_credits : (m : ℕ) → m < n → offer_must_say (offered m) (tick m) (gaps m) ≡ 0 ∷ 1 ∷ []
  ride_credits m h =
      let i = n - suc m in
      rw (ride.ticked m i (omega arith))
      (next_credited c k n seed ride.seeded ride.counted (offered m) m i (gaps m) (stands m (suc i) (omega arith)) (ride.allowed m))

  -- in the end n are paid
  pub ride_paid : (head_of (offered n)).paid ≡ n
  ride_paid = ap (λ (h : Head). h.paid) (sound (offered n) (head_at c k n) (stands n 0 (omega arith)).formed).0

  -- where n is 2^k, the post is spent then, whatever is offered
  pub ride_spent : n ≡ 2 ^ k → (value : List ℕ) (gap : ℕ) → Allowed gap → offer_must_say (offered n) value gap ≡ said_of Spent
  ride_spent e value gap a = spent_says_6 (offered n) value gap (head_at c k n) (stands n 0 (omega arith)).formed (gap_fine gap a) e

  -- while fewer than 2^k are paid, it is not, whatever is offered
  pub ride_unspent : (m : ℕ) → m ≤ n → m < 2 ^ k → (value : List ℕ) (gap : ℕ) → offer_must_say (offered m) value gap ≡ said_of Spent → ⊥
  ride_unspent m h less value gap =
      unspent_never_says_6 (offered m) value gap (head_at c k m) (stands m (n - m) (omega arith)).formed (λ e. omega arith)

  -- settle says yes for the last tick and n
  pub ride_settles : 0 < n → settle_must_say c.function k anchor (tick (n - 1)) n ≡ 0 ∷ 1 ∷ []
  unfolding chain
  ride_settles p =
      let last : tick (n - 1) ≡ seed = ride.ticked (n - 1) 0 (omega arith) in
      rw last
      (settle_yes c.function k anchor seed n
      (settle_passes c.function k anchor seed n (record { known = ride.known; small = ride.small }) wide_anchor ride.seeded ride.counted)
      (sym ride.anchored))

  -- with d - 1 ticks missed after m offered ones, d at most G, the next tick is taken, and the credit is at most d
  module _ (m d gap : ℕ) (p : 0 < d) (h : m + d ≤ n) (l : d ≤ gap) (a : Allowed gap) where
    abbrev i : ℕ
    i = n - (m + d)

    next : tick (m + d - 1) ≡ chain (step c) seed i
    next = ride.ticked (m + d - 1) i (omega arith)

    pub ride_takes_missed : (credit : ℕ) × (offer_must_say (offered m) (tick (m + d - 1)) gap ≡ 0 ∷ credit ∷ []) × (credit ≤ d)
    ride_takes_missed =
        rw next (missed_taken c k n seed ride.seeded ride.counted (offered m) m i d gap (stands m (i + d) (omega arith)) p a l)

    -- and exactly d where no fewer steps from it reach the value held
    pub ride_counts_missed : ((j : ℕ) → 0 < j → j < d → chain (step c) (tick (m + d - 1)) j ≡ chain (step c) seed (n - m) → ⊥)
        → offer_must_say (offered m) (tick (m + d - 1)) gap ≡ 0 ∷ d ∷ []
    ride_counts_missed none =
        let e : n - m ≡ i + d = omega arith in
        rw next
        (missed_exactly c k n seed ride.seeded ride.counted (offered m) m i d gap (stands m (i + d) (omega arith)) p a l (rw (next, e) at none))

  -- with one tick missed and G = 1 it says 9 and changes nothing, unless one step happens to reach the value held
  pub ride_refuses_missed : (m : ℕ) → m + 2 ≤ n → (step c (tick (m + 1)) ≡ chain (step c) seed (n - m) → ⊥)
      → (offer_must_say (offered m) (tick (m + 1)) 1 ≡ said_of NotTaken) × (offer_post (offered m) (tick (m + 1)) 1 ≡ offered m)
  ride_refuses_missed m h none =
      let i = n - (m + 2) in
      let next : tick (m + 1) ≡ chain (step c) seed i = ride.ticked (m + 1) i (omega arith) in
      let e : n - m ≡ i + 2 = omega arith in
      rw next
      (missed_refused c k n seed ride.seeded ride.counted (offered m) m i (stands m (i + 2) (omega arith)) (rw (next, e) at none))
