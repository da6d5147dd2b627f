-- What is known of a head that has passed the tests of Refused. Assumes nothing.
use Rattle.std.specs.Prelude.{◌≡◌, refl, Bool, true, false, cond, not, ◌||◌, List, ℕ, suc, ◌^◌, ◌≤◌, ◌<◌, eqb, ltb, length}
use Rattle.std.proofs.Common.{true≢false, arith}
use borrow.Author.Tests.{ltb-false, eqb-true, eqb-false, not-false, le-ltb, ne_eqb}
use Rattle.oneway.specs.Step.{known}
use Rattle.pebbling.specs.Demands.{never_more_than_slots}
use Rattle.pebbling.specs.Recursion.{slots}
use Rattle.refusals.specs.declared.Refusal.{Refusal}
use Rattle.refusals.specs.declared.Refusal.TheVariants.{UnknownFunction, TooManyTicks, UnknownSchedule, WrongLength, BadRecord, Spent, NoRoom}
use Rattle.card.specs.declared.Head.{Head}
use Rattle.std.specs.Prelude.{Err, Ok, Result}
use Rattle.card.specs.Record.{width_of, held_count, size, head_of, free_slots, all_zero, laid_out}
use Rattle.refusals.specs.Passing.{passing}
use Rattle.card.specs.Refused.{numbers, room_for, in_range, rebuild_judged, later, inspect_slots, inspect_of, ready, round_judged}

-- a test that was passed
passed_by : (b : Bool) (x : Refusal) (rest : Result Head Refusal) (h : Head) → cond b (Err x) rest ≡ Ok h → (b ≡ false) × (rest ≡ Ok h)
passed_by true x rest h e = let z : ◌≡◌ {A = ℕ} 0 1 = cc in absurd (omega arith)
passed_by false x rest h e = (refl, e)

passed_if : (b : Bool) (x : Refusal) (rest : Result Head Refusal) (h : Head) → cond b rest (Err x) ≡ Ok h → (b ≡ true) × (rest ≡ Ok h)
passed_if true x rest h e = (refl, e)
passed_if false x rest h e = let z : ◌≡◌ {A = ℕ} 0 1 = cc in absurd (omega arith)

-- ---- function, k and schedule

pub record Numbered (head : Head) : Type 0 where
  pub known : known head.function ≡ true
  pub small : head.k ≤ 20
  pub schedule : head.schedule ≤ 3

module _ (g h : Head) (e : numbers g ≡ Ok h) where
  pub numbers_same : g ≡ h
  unfolding numbers
  numbers_same =
      let a = passed_by (not (known g.function)) UnknownFunction _ h e in
      let b = passed_by (ltb 20 g.k) TooManyTicks _ h a.1 in
      let c : Ok g ≡ Ok h = (passed_by (ltb 3 g.schedule) UnknownSchedule _ h b.1).1 in
      cc

  pub numbers_known : Numbered h
  unfolding numbers
  numbers_known =
      let a = passed_by (not (known g.function)) UnknownFunction _ h e in
      let b = passed_by (ltb 20 g.k) TooManyTicks _ h a.1 in
      let c = passed_by (ltb 3 g.schedule) UnknownSchedule _ h b.1 in
      rw (← numbers_same)
      (record { known = not-false (known g.function) a.0; small = ltb-false 20 g.k b.0; schedule = ltb-false 3 g.schedule c.0 })

-- they pass, and then the next tests pass the same head
passed_on : (g : Head) (next : Head → Result Head Refusal) (h : Head) → passing (numbers g) next ≡ Ok h → Numbered g × (next g ≡ Ok h)
passed_on g next h e = go (numbers g) refl e
  where
    go : (seen : Result Head Refusal) → numbers g ≡ seen → passing seen next ≡ Ok h → Numbered g × (next g ≡ Ok h)
    go (Err x) q e = let z : ◌≡◌ {A = ℕ} 0 1 = cc in absurd (omega arith)
    go (Ok j) q e = let same : g ≡ j = numbers_same g j q in (rw same (numbers_known g j q), rw same e)

-- the round is in its range, and then the next tests pass the same head
in_range_on : (g : Head) (next : Head → Result Head Refusal) (h : Head) → passing (in_range g) next ≡ Ok h
    → (0 < g.round.0) × (g.round.0 ≤ 2 ^ suc g.k) × (next g ≡ Ok h)
unfolding in_range
in_range_on g next h e = go (eqb g.round.0 0) (ltb (2 ^ suc g.k) g.round.0) refl refl e
  where
    go : (none over : Bool) → eqb g.round.0 0 ≡ none → ltb (2 ^ suc g.k) g.round.0 ≡ over
        → passing (cond none (Err BadRecord) (cond over (Err BadRecord) (Ok g))) next ≡ Ok h
        → (0 < g.round.0) × (g.round.0 ≤ 2 ^ suc g.k) × (next g ≡ Ok h)
    go true over p q e = let z : ◌≡◌ {A = ℕ} 0 1 = cc in absurd (omega arith)
    go false true p q e = let z : ◌≡◌ {A = ℕ} 0 1 = cc in absurd (omega arith)
    go false false p q e =
        let z : g.round.0 ≡ 0 → ⊥ = eqb-false g.round.0 0 p in
        (omega arith, ltb-false (2 ^ suc g.k) g.round.0 q, e)

pub in_range_lem : (head : Head) → 0 < head.round.0 → head.round.0 ≤ 2 ^ suc head.k → in_range head ≡ Ok head
unfolding in_range
in_range_lem head from upto = rw (ne_eqb head.round.0 0 (λ e. omega arith), le-ltb (2 ^ suc head.k) head.round.0 upto) refl

-- ---- start and rebuild

-- a seed of the function's width, and a record that is long enough
pub record Roomy (seed card : List ℕ) (head : Head) : Type 0 where
  pub seeded : length seed ≡ width_of head
  pub long : size head ≤ length card

neither : (a b : Bool) → (not a || b) ≡ false → (a ≡ true) × (b ≡ false)
neither true false e = (refl, refl)
neither true true e = absurd (true≢false e)
neither false b e = absurd (true≢false e)

pub roomy : (g : Head) (seed card : List ℕ) (h : Head) → room_for seed card g ≡ Ok h → (g ≡ h) × Roomy seed card g
unfolding room_for
roomy g seed card h e =
    let b = passed_by (not (eqb (length seed) (width_of g)) || ltb (length card) (size g)) WrongLength (Ok g) h e in
    let c = neither (eqb (length seed) (width_of g)) (ltb (length card) (size g)) b.0 in
    let d : Ok g ≡ Ok h = b.1 in
    (cc, record { seeded = eqb-true (length seed) (width_of g) c.0; long = ltb-false (length card) (size g) c.1 })

-- the tests that come before pass the same head
pub numbers_pass : (head : Head) → Numbered head → numbers head ≡ Ok head
unfolding numbers
numbers_pass head n = rw (n.known, le-ltb 20 head.k n.small, le-ltb 3 head.schedule n.schedule) refl

pub rebuild_judged_lem : (head : Head) (seed card : List ℕ) → Numbered head → 0 < head.round.0 → head.round.0 ≤ 2 ^ suc head.k
    → rebuild_judged head seed card ≡ room_for seed card head
unfolding rebuild_judged
rebuild_judged_lem head seed card n from upto = rw (numbers_pass head n, in_range_lem head from upto) refl

-- ---- a record that passes inspection

pub record Sound (card : List ℕ) (head : Head) : Type 0 where
  pub numbered : Numbered head
  pub from : 0 < head.round.0
  pub upto : head.round.0 ≤ 2 ^ suc head.k
  pub long : size head ≤ length card

pub sound : (card : List ℕ) (h : Head) → inspect_of card ≡ Ok h → Sound card h
unfolding inspect_of inspect_slots
sound card h e =
    let g = head_of card in
    let a = passed_by (ltb (length card) 16) WrongLength _ h e in
    let b = passed_if (laid_out card) BadRecord _ h a.1 in
    let c = passed_on g (inspect_slots card) h b.1 in
    let d = passed_by (ltb (length card) (size g)) WrongLength _ h c.1 in
    let f = in_range_on g _ h d.1 in
    let j : Ok g ≡ Ok h = (passed_if (all_zero (free_slots g card)) BadRecord (Ok g) h f.2).1 in
    let same : g ≡ h = cc in
    rw (← same)
    (record { numbered = c.0; from = f.0; upto = f.1; long = ltb-false (length card) (size g) d.0 })

-- ---- a round that is to be run

-- no more is held after a round than there are slots, so refusal 8 never comes
pub held_later : (head : Head) → Numbered head → head.round.0 < 2 ^ suc head.k → held_count (later head) ≤ slots head.schedule head.k
unfolding held_count
held_later head n before = never_more_than_slots head.schedule n.schedule head.k (suc head.round.0) before

pub ready_passes : (head : Head) (out : List ℕ) → Numbered head → head.round.0 < 2 ^ suc head.k → width_of head ≤ length out → ready out head ≡ Ok head
unfolding ready
ready_passes head out n before wide =
    rw (
      ne_eqb head.round.0 (2 ^ suc head.k) (λ e. omega arith),
      le-ltb (length out) (width_of head) wide,
      le-ltb (slots head.schedule head.k) (held_count (later head)) (held_later head n before),
    ) refl

-- and a round that passes is one of the card's rounds
ready_runs : (out : List ℕ) (g h : Head) → ready out g ≡ Ok h → (g ≡ h) × (g.round.0 ≡ 2 ^ suc g.k → ⊥)
unfolding ready
ready_runs out g h e =
    let a = passed_by (eqb g.round.0 (2 ^ suc g.k)) Spent _ h e in
    let b = passed_by (ltb (length out) (width_of g)) WrongLength _ h a.1 in
    let d : Ok g ≡ Ok h = (passed_by (ltb (slots g.schedule g.k) (held_count (later g))) NoRoom (Ok g) h b.1).1 in
    (cc, eqb-false g.round.0 (2 ^ suc g.k) a.0)

pub runs : (card out : List ℕ) (h : Head) → round_judged card out ≡ Ok h → Sound card h × (h.round.0 < 2 ^ suc h.k)
unfolding round_judged
runs card out h e = go (inspect_of card) refl e
  where
    go : (seen : Result Head Refusal) → inspect_of card ≡ seen → passing seen (ready out) ≡ Ok h → Sound card h × (h.round.0 < 2 ^ suc h.k)
    go (Err x) q e = let z : ◌≡◌ {A = ℕ} 0 1 = cc in absurd (omega arith)
    go (Ok g) q e =
        let ok : Sound card g = sound card g q in
        let r = ready_runs out g h e in
        let less : g.round.0 < 2 ^ suc g.k = omega (arith, ok.upto, r.1) in
        rw (← r.0) (ok, less)
