-- What the code of start, rebuild and the start of n ticks comes to, over plain lists and numbers, in the order of the source. Assumes
-- nothing.
use mathlib.Core.Path.{◌≡◌, refl, sym, ap, ◌∙◌}
use mathlib.Core.Bool.{Bool, true, false, cond, ◌||◌, not, true≢false}
use mathlib.Core.Logic.{◌⊎◌, inl, inr}
use mathlib.Core.List.{List, [], ◌∷◌, ◌++◌}
use Prim.Native.Nat.{ℕ, suc, ◌+◌, ◌-◌, ◌*◌, ◌^◌, ◌≤◌, ◌<◌}
use native.Mathlib.Nat.{eq-zero-or-pos, mul-le-mul_left}
use native.Mathlib.Omega.{arith}
use borrow.Author.Tests.{lt-ltb, le-ltb, eq-eqb, ne_eqb}
use lib.Dec.{T, eqb, ltb}
use lib.ListN.{length, take, drop, replicate, length-map, length-replicate, replicate-append-replicate}
use lib.Pow.{pow_pos}
use lib.Seq.{take-add, take_at, drop_at}
use Rattle.records.specs.Chains.{chain_length}
use Rattle.levels.specs.Levels.{allowed, level, first_round, allowed_range, level_small, first_round_pays}
use Rattle.lists.specs.Values.{joined}
use Rattle.lists.specs.Wide.{wide_map, joined_wide}
use Rattle.lists.specs.Writing.{over, over_length, over_taken}
use Rattle.oneway.specs.Step.{known, step}
use Rattle.oneway.specs.declared.Chain.{Chain}
use Rattle.pebbling.specs.Demands.{positions_fall_strictly, never_more_than_slots}
use Rattle.pebbling.specs.Len.{lt_or_le}
use Rattle.pebbling.specs.PositionList.{positions_must_say, positions_list, Positioned}
use Rattle.pebbling.specs.Recursion.{chain, positions, schedule as hashes_of, slots as slots_of, work}
use Rattle.pebbling.specs.Slots.{slots_small}
use Rattle.std.specs.Prelude.{Err, Ok, Result}
use Rattle.refill.specs.Refill.{Fillable, Refilled}
use Rattle.refusals.specs.Numbers.{said_of, said_tells, not_refused}
use Rattle.refusals.specs.declared.Refusal.{Refusal}
use Rattle.refusals.specs.declared.Refusal.TheVariants.{TooManyTicks, UnknownSchedule, WrongLength, BadRecord}
use Rattle.card.specs.declared.Head.{Head}
use Rattle.card.specs.Record.{head_at, chain_of, width_of, slots_size, size, head_bytes, filled, card_bytes}
use Rattle.refusals.specs.Passing.{passing}
use Rattle.card.specs.Refused.{numbers, room_for, start_judged, in_range, rebuild_judged, start_ticks_judged}
use Rattle.card.specs.Promises.{judged_says, judged_card, start_must_say, start_card, Started, elements_held, rebuild_must_say, rebuild_card, Rebuilt, start_ticks_must_say, start_ticks_card, StartedTicks}
use Rattle.card.specs.Sound.{Numbered, rebuild_judged_lem}
use Rattle.card.specs.Steps.{elements_at, Beginning, Layable, Begun}
use Rattle.card.proofs.ReadLaws.{first_slot}

-- ---- slots that were made as zeros

pub known_holds : (b : Bool) → b ≡ true → T b
known_holds true e = tt
known_holds false e = absurd (true≢false (sym e))

zeros_behind : (p n m : ℕ) → p ≤ n → n ≤ m → take (n - p) (drop p (replicate {A = ℕ} m 0)) ≡ replicate (n - p) 0
zeros_behind p n m a b =
    let z : ℕ = 0 in
    let q : n - p + (m - n) ≡ m - p = omega arith in
    let r : p + (m - p) ≡ m = omega arith in
    let s : replicate m z ≡ replicate p z ++ (replicate (n - p) z ++ replicate (m - n) z) =
    sym (rw (replicate-append-replicate (n - p) (m - n) z, q, replicate-append-replicate p (m - p) z, r) refl) in
    rw (s, drop_at (replicate p z) (replicate (n - p) z ++ replicate (m - n) z) p (length-replicate p z))
    (take_at (replicate (n - p) z) (replicate (m - n) z) (n - p) (length-replicate (n - p) z))

-- values at the front of m zeros, of which n bytes are taken: the record's slots
pub slots_filled : (head : Head) (vs : List (List ℕ)) (front slots : List ℕ) (n m : ℕ) → n ≡ slots_size head → joined vs ≡ front → length front ≤ n → n ≤ m
    → take (length front) slots ≡ front → drop (length front) slots ≡ drop (length front) (replicate m 0) → take n slots ≡ filled head vs
unfolding filled
slots_filled head vs front slots n m e j a b t d =
    let p = length front in
    let q : p + (n - p) ≡ n = omega arith in
    let s : take n slots ≡ take p slots ++ take (n - p) (drop p slots) = ap (λ (x : ℕ). take x slots) (sym q) ∙ take-add p (n - p) slots in
    s ∙ rw (t, d, zeros_behind p n m a b, j, ← e) refl

-- ---- lay

module _ (head : Head) (nr : Numbered head) (held seed card : List ℕ) (ok : Layable head held seed card) (n : ℕ) (slotted : (n ≡ slots_size head) × (n ≤ 608)) (c : Chain)
    (own : c ≡ chain_of head) where
  pub refill_asks : Fillable c seed held (replicate 608 0)
  refill_asks =
      let z : ℕ = 0 in
      rw own
      (record {
        known = known_holds (known head.function) nr.known;
        seeded = ok.seeded;
        top = ok.beginning.top;
        falls = ok.beginning.falls;
        room = omega (arith, ok.beginning.few, slotted.0, slotted.1, length-replicate 608 z);
      })

  abbrev vs : List (List ℕ)
  vs = elements_at held seed head

  -- a value for each position
  sized : length (joined vs) ≡ width_of head * length held
  sized =
      let d = chain_of head in
      joined_wide (width_of head) vs (wide_map (width_of head) (chain (step d) seed) (chain_length d seed ok.seeded) held)
      ∙ ap (λ (m : ℕ). width_of head * m) (length-map held (chain (step d) seed))

  fits : length (joined vs) ≤ n
  fits = omega (arith, sized, ok.beginning.few, slotted.0)

  module _ (hashes : ℕ) (slots : List ℕ) (refilled : Refilled c seed held (replicate 608 0) hashes slots) where
    done : Refilled (chain_of head) seed held (replicate 608 0) hashes slots
    done = rw own at refilled

    pub laid : (card' : List ℕ) → card' ≡ over (head_bytes head ++ take n slots) card → card' ≡ over (card_bytes head (elements_at held seed head)) card
    unfolding card_bytes
    laid card' e =
        let z : ℕ = 0 in
        let front = joined vs in
        let s : take n slots ≡ filled head vs =
        slots_filled head vs front slots n 608 slotted.0 refl fits slotted.1
        (over_taken front (replicate 608 z) slots (length front) refl done.leaves)
        (ap (drop (length front)) done.leaves ∙ drop_at front (drop (length front) (replicate 608 z)) (length front) refl) in
        e ∙ rw s refl

-- ---- start: its numbers pass, and the seed alone is held, at position 0

pub started_begun : (function k schedule : ℕ) (seed card : List ℕ) (h : Head) (answer : Result (Unit {0}) Refusal) (card' : List ℕ)
    → numbers (head_at function k schedule 1) ≡ Ok h → Begun h (0 ∷ []) seed card answer card' → Started function k schedule seed card answer card'
unfolding start_must_say start_card start_judged chain
started_begun function k schedule seed card h answer card' q b = record { says = rw q b.says; leaves = rw q b.leaves }

pub seed_begins : (head : Head) → Beginning head (0 ∷ [])
seed_begins head =
    record { top = 1; falls = (omega arith, omega arith); few = omega (arith, first_slot head) }

-- ---- rebuild

module _ (function k s r : ℕ) where
  abbrev head : Head
  head = head_at function k s r

  -- a refusal of the tests up to the round is one of all of them
  early : (seed card : List ℕ) (refusal : Refusal) → passing (numbers head) in_range ≡ Err refusal → rebuild_judged head seed card ≡ Err refusal
  unfolding rebuild_judged
  early seed card refusal e = go (numbers head) e
    where
      go : (seen : Result Head Refusal) → passing seen in_range ≡ Err refusal → passing seen (λ h. passing (in_range h) (room_for seed card)) ≡ Err refusal
      go (Err x) q = q
      go (Ok h) q = rw q refl

  module _ (is_known : known function ≡ true) (list : List ℕ) (long : length list ≡ 38) where
    -- the position list makes the tests of k, schedule and round: it is refused as the rebuild is, or all of them are passed
    module _ (said : List ℕ) (says : said ≡ positions_must_say k s r list) where
      record Tested : Type 0 where
        numbered : Numbered head
        from : 0 < r
        upto : r ≤ 2 ^ suc k
        listed : said ≡ 0 ∷ length (positions (hashes_of s) k r 0) ∷ work (hashes_of s) k r ∷ []

      abbrev RefusedAlike : Type 0
      RefusedAlike = (refusal : Refusal) × (said ≡ said_of refusal) × (passing (numbers head) in_range ≡ Err refusal)

      tested : RefusedAlike ⊎ Tested
      unfolding positions_must_say numbers in_range
      tested = go (lt_or_le 20 k) (lt_or_le 3 s) (eq-zero-or-pos r) (lt_or_le (2 ^ suc k) r)
        where
          go : (20 < k) ⊎ (k ≤ 20) → (3 < s) ⊎ (s ≤ 3) → (r ≡ 0) ⊎ (0 < r) → (2 ^ suc k < r) ⊎ (r ≤ 2 ^ suc k) → RefusedAlike ⊎ Tested
          go (inl a) y z u = inl (TooManyTicks, says ∙ rw (lt-ltb 20 k a) refl, rw (is_known, lt-ltb 20 k a) refl)
          go (inr a) (inl b) z u =
              inl (UnknownSchedule, says ∙ rw (le-ltb 20 k a, lt-ltb 3 s b) refl, rw (is_known, le-ltb 20 k a, lt-ltb 3 s b) refl)
          go (inr a) (inr b) (inl c) u =
              inl (
                BadRecord,
                says ∙ rw (le-ltb 20 k a, le-ltb 3 s b, eq-eqb r 0 c) refl,
                rw (is_known, le-ltb 20 k a, le-ltb 3 s b, eq-eqb r 0 c) refl,
              )
          go (inr a) (inr b) (inr c) (inl d) =
              let p = ne_eqb r 0 (λ e. omega arith) in
              inl (
                BadRecord,
                says ∙ rw (le-ltb 20 k a, le-ltb 3 s b, p, lt-ltb (2 ^ suc k) r d) refl,
                rw (is_known, le-ltb 20 k a, le-ltb 3 s b, p, lt-ltb (2 ^ suc k) r d) refl,
              )
          go (inr a) (inr b) (inr c) (inr d) =
              let n = length (positions (hashes_of s) k r 0) in
              let few : n ≤ length list = omega (arith, never_more_than_slots s b k r d, slots_small s k a, long) in
              inr (record {
                numbered = record { known = is_known; small = a; schedule = b };
                from = c;
                upto = d;
                listed = says ∙ rw (le-ltb 20 k a, le-ltb 3 s b, ne_eqb r 0 (λ e. omega arith), le-ltb (2 ^ suc k) r d, le-ltb (length list) n few) refl;
              })

    pub rebuilt_refused : (seed card : List ℕ) (refusal : Refusal) (list' : List ℕ) → Positioned k s r list (Err refusal) list'
        → Rebuilt function k s r seed card (Err refusal) card
    unfolding rebuild_must_say rebuild_card
    rebuilt_refused seed card refusal list' l = go (tested (said_of refusal) l.says)
      where
        go : RefusedAlike (said_of refusal) l.says ⊎ Tested (said_of refusal) l.says → Rebuilt function k s r seed card (Err refusal) card
        go (inl (other, same, q)) =
            let j = early seed card refusal (q ∙ ap Err (sym (said_tells refusal other same))) in
            record { says = rw j refl; leaves = rw j refl }
        go (inr t) = absurd (not_refused refusal _ t.listed)

    module _ (count hashes : ℕ) (list' : List ℕ) (l : Positioned k s r list (Ok (record { count = count; hashes = hashes })) list') where
      abbrev held : List ℕ
      held = positions (hashes_of s) k r 0

      passed : Tested (0 ∷ count ∷ hashes ∷ []) l.says
      passed = go (tested (0 ∷ count ∷ hashes ∷ []) l.says)
        where
          go : RefusedAlike (0 ∷ count ∷ hashes ∷ []) l.says ⊎ Tested (0 ∷ count ∷ hashes ∷ []) l.says → Tested (0 ∷ count ∷ hashes ∷ []) l.says
          go (inl (refusal, same, q)) = absurd (not_refused refusal _ (sym same))
          go (inr t) = t

      counted : count ≡ length held
      counted = let e = passed.listed in cc

      fits_slots : length held ≤ slots_of s k
      fits_slots = never_more_than_slots s passed.numbered.schedule k r passed.upto

      -- the positions stand at the list's front
      left : list' ≡ over held list
      unfolding positions_list
      left = l.leaves ∙ rw (← l.says) refl

      there : take count list' ≡ held
      there = over_taken held list list' count (sym counted) left

      few : length held ≤ 38
      few = omega (arith, fits_slots, slots_small s k passed.numbered.small)

      pub list_within : count ≤ length list'
      list_within = omega (arith, counted, few, ap length left, over_length held list (omega (arith, few, long)), long)

      pub rebuilt_numbered : Numbered head
      rebuilt_numbered = passed.numbered

      pub rebuilt_begins : (x : ℕ) → Beginning (head_at function k s x) (take count list')
      unfolding slots_size
      rebuilt_begins x =
          rw there
          (record {
            top = 2 ^ k;
            falls = positions_fall_strictly s passed.numbered.schedule k r;
            few = mul-le-mul_left (width_of head) fits_slots;
          })

      pub rebuilt_begun : (seed card : List ℕ) (answer : Result (Unit {0}) Refusal) (card' : List ℕ) → Begun head (take count list') seed card answer card'
          → Rebuilt function k s r seed card answer card'
      unfolding rebuild_must_say rebuild_card room_for
      rebuilt_begun seed card answer card' b =
          let j = rebuild_judged_lem head seed card passed.numbered passed.from passed.upto in
          record {
            says = b.says ∙ sym (ap judged_says j);
            leaves = b.leaves ∙ rw (there, j) (same_laid (not (eqb (length seed) (width_of head)) || ltb (length card) (size head)));
          }
        where
          same_laid : (short : Bool)
              → judged_card (elements_at held seed) card (cond short (Err WrongLength) (Ok head))
              ≡ judged_card (elements_held seed) card (cond short (Err WrongLength) (Ok head))
          same_laid true = refl
          same_laid false = refl

-- ---- start of n ticks

pub ticks_rebuilt : (function n s : ℕ) (seed card : List ℕ) → known function ≡ true → s ≤ 3 → allowed n ≡ true
    → (k r : ℕ) (answer : Result (Unit {0}) Refusal) (card' : List ℕ) → k ≡ level n → r ≡ 2 ^ suc k - n → Rebuilt function k s r seed card answer card'
    → StartedTicks function n s seed card answer card'
unfolding start_ticks_must_say start_ticks_card rebuild_must_say rebuild_card
ticks_rebuilt function n s seed card is_known a u k r answer card' l f b =
    record { says = b.says ∙ ap judged_says same; leaves = b.leaves ∙ ap (judged_card (elements_held seed) card) same }
  where
    round : r ≡ first_round n
    round = f ∙ unfold first_round in rw l refl

    same : rebuild_judged (head_at function k s r) seed card ≡ start_ticks_judged function n s seed card
    same =
        let range = allowed_range n u in
        let first = first_round_pays n range.0 range.1 in
        rw (l, round)
        (rebuild_judged_lem (head_at function (level n) s (first_round n)) seed card
        (record { known = is_known; small = level_small n range.1; schedule = a })
        (omega (arith, first.0, pow_pos (level n)))
        (omega (arith, first.1))
        ∙ unfold start_ticks_judged in rw (is_known, le-ltb 3 s a, u) refl)
