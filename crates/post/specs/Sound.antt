-- What is known of a head that has passed the tests of Refused. Assumes nothing.
use Rattle.std.specs.Prelude.{◌≡◌, refl, Bool, true, false, cond, not, ◌&&◌, ◌||◌, List, ℕ, ◌^◌, ◌≤◌, T, eqb, ltb, length}
use Rattle.std.proofs.Common.{sym, true≢false, arith, ltb-false, eqb-true}
use Rattle.std.proofs.lemmas.Bool.{not-false}
use Rattle.lists.specs.Same.{same}
use Rattle.oneway.specs.Step.{known, width}
use Rattle.oneway.specs.declared.Chain.{Chain}
use Rattle.refusals.specs.declared.Refusal.{Refusal}
use Rattle.refusals.specs.declared.Refusal.TheVariants.{UnknownFunction, TooManyTicks, WrongLength, BadRecord, Spent, BadGap}
use Rattle.post.specs.declared.Head.{Head}
use Rattle.std.specs.Prelude.{Err, Ok, Result}
use Rattle.post.specs.Record.{size, chain_of, width_of, marked, head_of, anchor_of, held_value}
use Rattle.refusals.specs.Passing.{passing}
use Rattle.post.specs.Refused.{numbers, room_for, enrol_judged, inspect_paid, inspect_of, gap_strange, ready, offer_judged, settle_ready, settle_judged}

-- a test that was passed
passed_by : (b : Bool) (x : Refusal) (rest : Result Head Refusal) (h : Head) → cond b (Err x) rest ≡ Ok h → (b ≡ false) × (rest ≡ Ok h)
passed_by true x rest h e = let z : ◌≡◌ {A = ℕ} 0 1 = cc in absurd (omega arith)
passed_by false x rest h e = (refl, e)

passed_if : (b : Bool) (x : Refusal) (rest : Result Head Refusal) (h : Head) → cond b rest (Err x) ≡ Ok h → (b ≡ true) × (rest ≡ Ok h)
passed_if true x rest h e = (refl, e)
passed_if false x rest h e = let z : ◌≡◌ {A = ℕ} 0 1 = cc in absurd (omega arith)

neither : (a b : Bool) → (a || b) ≡ false → (a ≡ false) × (b ≡ false)
neither false false e = (refl, refl)
neither false true e = absurd (true≢false e)
neither true b e = absurd (true≢false e)

-- ---- function and k

pub record Numbered (head : Head) : Type 0 where
  pub known : known head.function ≡ true
  pub small : head.k ≤ 20

pub numbered : (g h : Head) → numbers g ≡ Ok h → (g ≡ h) × Numbered g
unfolding numbers
numbered g h e =
    let a = passed_by (not (known g.function)) UnknownFunction _ h e in
    let b = passed_by (ltb 20 g.k) TooManyTicks (Ok g) h a.1 in
    let c : Ok g ≡ Ok h = b.1 in
    (cc, record { known = not-false (known g.function) a.0; small = ltb-false 20 g.k b.0 })

pub numbers_small : (g h : Head) → numbers g ≡ Ok h → h.k ≤ 20
numbers_small g h e = let n = numbered g h e in rw n.0 at n.1.small

-- a value that a chain can step on from
pub record Walkable (c : Chain) (value : List ℕ) : Type 0 where
  pub known : T (known c.function)
  pub wide : length value ≡ width c

holds : (b : Bool) → b ≡ true → T b
holds true e = tt
holds false e = absurd (true≢false (sym e))

pub walkable : (head : Head) (value : List ℕ) → Numbered head → length value ≡ width_of head → Walkable (chain_of head) value
walkable head value n l = record { known = holds (known head.function) n.known; wide = l }

-- they pass, and then the next tests pass the same head
passed_on : (g : Head) (next : Head → Result Head Refusal) (h : Head) → passing (numbers g) next ≡ Ok h → Numbered g × (next g ≡ Ok h)
passed_on g next h e = go (numbers g) refl e
  where
    go : (seen : Result Head Refusal) → numbers g ≡ seen → passing seen next ≡ Ok h → Numbered g × (next g ≡ Ok h)
    go (Err x) q e = let z : ◌≡◌ {A = ℕ} 0 1 = cc in absurd (omega arith)
    go (Ok j) q e = let n = numbered g j q in (n.1, rw n.0 e)

-- ---- enrol

pub record Enrollable (anchor post : List ℕ) (head : Head) : Type 0 where
  pub numbered : Numbered head
  pub anchored : length anchor ≡ width_of head
  pub long : size ≤ length post

pub enrollable : (g : Head) (anchor post : List ℕ) (h : Head) → enrol_judged g anchor post ≡ Ok h → (g ≡ h) × Enrollable anchor post h
unfolding enrol_judged room_for
enrollable g anchor post h e =
    let a = passed_on g (room_for anchor post) h e in
    let b = passed_by (not (eqb (length anchor) (width_of g)) || ltb (length post) size) WrongLength (Ok g) h a.1 in
    let c = neither (not (eqb (length anchor) (width_of g))) (ltb (length post) size) b.0 in
    let d : Ok g ≡ Ok h = b.1 in
    let same : g ≡ h = cc in (
      same,
      rw (← same)
          (record {
            numbered = a.0;
            anchored = eqb-true (length anchor) (width_of g) (not-false (eqb (length anchor) (width_of g)) c.0);
            long = ltb-false (length post) size c.1;
          }),
    )

-- ---- a record that passes inspection: its head is the one read, and it is as docs/RULES.md lays it out

pub record Sound (post : List ℕ) (head : Head) : Type 0 where
  pub numbered : Numbered head
  pub long : size ≤ length post
  pub within : head.paid ≤ 2 ^ head.k

pub sound : (post : List ℕ) (h : Head) → inspect_of post ≡ Ok h → (head_of post ≡ h) × Sound post h
unfolding inspect_of inspect_paid
sound post h e =
    let g = head_of post in
    let a = passed_by (ltb (length post) size) WrongLength _ h e in
    let b = passed_if (marked post) BadRecord _ h a.1 in
    let c = passed_on g (inspect_paid post) h b.1 in
    let d = passed_by (ltb (2 ^ g.k) g.paid) BadRecord _ h c.1 in
    let f = passed_by (eqb g.paid 0 && not (same (held_value g post) (anchor_of g post))) BadRecord (Ok g) h d.1 in
    let i : Ok g ≡ Ok h = f.1 in
    let alike : g ≡ h = cc in (
      alike,
      rw (← alike)
          (record { numbered = c.0; long = ltb-false (length post) size a.0; within = ltb-false (2 ^ g.k) g.paid d.0 }),
    )

-- ---- an offer that reaches the search

pub record Searchable (post value : List ℕ) (head : Head) : Type 0 where
  pub sound : Sound post head
  pub wide : length value ≡ width_of head

pub readied : (value : List ℕ) (gap : ℕ) (g h : Head) → ready value gap g ≡ Ok h → (g ≡ h) × (length value ≡ width_of g)
unfolding ready
readied value gap g h e =
    let a = passed_by (gap_strange gap) BadGap _ h e in
    let b = passed_by (eqb g.paid (2 ^ g.k)) Spent _ h a.1 in
    let c = passed_by (not (eqb (length value) (width_of g))) WrongLength (Ok g) h b.1 in
    let d : Ok g ≡ Ok h = c.1 in
    (cc, eqb-true (length value) (width_of g) (not-false (eqb (length value) (width_of g)) c.0))

pub searchable : (post value : List ℕ) (gap : ℕ) (h : Head) → offer_judged post value gap ≡ Ok h → (inspect_of post ≡ Ok h) × Searchable post value h
unfolding offer_judged
searchable post value gap h e = go (inspect_of post) refl e
  where
    go : (seen : Result Head Refusal) → inspect_of post ≡ seen → passing seen (ready value gap) ≡ Ok h → (inspect_of post ≡ Ok h) × Searchable post value h
    go (Err x) q e = let z : ◌≡◌ {A = ℕ} 0 1 = cc in absurd (omega arith)
    go (Ok j) q e =
        let r = readied value gap j h e in
        let i : inspect_of post ≡ Ok h = rw (← r.0) q in
        (i, record { sound = (sound post h i).1; wide = rw (← r.0) r.1 })

-- ---- a settle that reaches the chain

pub settling : (g : Head) (anchor last : List ℕ) (h : Head) → settle_judged g anchor last ≡ Ok h → (g ≡ h) × Walkable (chain_of h) last
unfolding settle_judged settle_ready
settling g anchor last h e =
    let a = passed_on g (settle_ready anchor last) h e in
    let b = passed_by (not (eqb (length anchor) (width_of g)) || not (eqb (length last) (width_of g))) WrongLength _ h a.1 in
    let c = neither (not (eqb (length anchor) (width_of g))) (not (eqb (length last) (width_of g))) b.0 in
    let d = passed_by (ltb (2 ^ g.k) g.paid) BadRecord (Ok g) h b.1 in
    let f : Ok g ≡ Ok h = d.1 in
    let same : g ≡ h = cc in
    (same, rw (← same) (walkable g last a.0 (eqb-true (length last) (width_of g) (not-false (eqb (length last) (width_of g)) c.1))))
