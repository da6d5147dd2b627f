-- Bytes behind a card's record are neither read nor written: by a round or by many rounds, by a start, a rebuild or a start of n ticks. The
-- record that a round is lent may be damaged: all that is asked is that its own bytes are as many as its own head says (`Whole`). Assumes nothing.
use Rattle.std.specs.Prelude.{◌≡◌, Bool, ◌⊎◌, Result, Ok, Err, eqb, ltb, drop, get_or}
use Rattle.std.proofs.Math.Path.{refl, ap}
use Rattle.std.proofs.Common.{sym, ◌∙◌, inl, inr, eq-zero-or-pos, length-append}
use Rattle.std.proofs.Math.Bool.{true, false, cond}
use mathlib.Core.List.{List, [], ◌∷◌, ◌++◌}
use Prim.Native.Nat.{ℕ, suc, ◌+◌, ◌-◌, ◌*◌, ◌^◌, ◌≤◌, ◌<◌}
use Rattle.std.proofs.Math.Nat.{mul-le-mul_left}
use native.Mathlib.Omega.{arith}
use borrow.Author.Tests.{lt-ltb, le-ltb, eq-eqb, ne_eqb}
use Rattle.std.proofs.Math.ListN.{length, take, length-drop, get_or-append}
use Rattle.std.proofs.lemmas.List.{length-replicate, drop-append-le}
use Rattle.std.proofs.Math.Pow.{pow_pos}
use Rattle.levels.specs.Levels.{allowed, level, first_round, allowed_range, level_small, first_round_pays}
use Rattle.lists.specs.Values.{values, joined, values_length, values_front}
use Rattle.lists.specs.Wide.{Wide, wide_values, joined_cut}
use Rattle.lists.specs.Writing.{over, over_length}
use Rattle.oneway.specs.Laws.{step_length}
use Rattle.oneway.specs.Step.{known, width, step}
use Rattle.pebbling.specs.Demands.{never_more_than_slots}
use Rattle.pebbling.specs.HashesDone.{fair}
use Rattle.pebbling.specs.Len.{lt_or_le}
use Rattle.pebbling.specs.OnBytes.{round_wide, round_size}
use Rattle.pebbling.specs.Recursion.{schedule, positions, round}
use Rattle.pebbling.specs.RoundLength.{round_length}
use Rattle.pebbling.specs.Slots.{slots_some}
use Rattle.refusals.specs.declared.Refusal.{Refusal}
use Rattle.refusals.specs.declared.Refusal.TheVariants.{UnknownFunction, UnknownSchedule, BadRecord, BadTicks}
use Rattle.card.specs.declared.Head.{Head}
use Rattle.card.specs.Record.{head_at, chain_of, width_of, held_count, held_size, slots_size, size, head_bytes, filled, card_bytes, head_of, held_values, free_slots, all_zero, laid_out}
use Rattle.refusals.specs.Passing.{passing}
use Rattle.card.specs.Refused.{later, numbers, room_for, start_judged, in_range, rebuild_judged, start_ticks_judged, inspect_slots, inspect_of, ready, round_judged}
use Rattle.card.specs.Promises.{judged_says, judged_card, start_must_say, start_card, elements_held, rebuild_must_say, rebuild_card, start_ticks_must_say, start_ticks_card, judged_round_says, judged_round_card, judged_round_out, round_must_say, round_card, round_out}
use Rattle.card.specs.Sound.{Numbered, numbers_same, numbers_known, numbers_pass, roomy, rebuild_judged_lem, Sound, runs}
use Rattle.card.specs.Kept.{Holding, chain_holding, card_length, headed_back}
use Rattle.demands.specs.Front.{part_front, short_same, over-front}
use Rattle.demands.proofs.Passed.{passing_same}
use Rattle.demands.specs.CardBehind.{Whole, rounds}

-- ---- a round on a sound record: what it reads and what it leaves

module _ (own : List ℕ) (head : Head) (sound : Sound own head) (less : head.round.0 < 2 ^ suc head.k) where
  -- the values held stand within the record
  held_within : width_of head * held_count head ≤ length (drop 16 own)
  unfolding held_count size slots_size
  held_within =
      let fits = mul-le-mul_left (width_of head) (never_more_than_slots head.schedule sound.numbered.schedule head.k head.round.0 sound.upto) in
      simp length-drop (omega (arith, fits, sound.long))

  wide : Wide (width_of head) (held_values head own)
  unfolding held_values
  wide = wide_values (width_of head) (held_count head) (drop 16 own) held_within

  many : length (held_values head own) ≡ length (positions (schedule head.schedule) head.k head.round.0 0)
  unfolding held_values held_count
  many = values_length (width_of head) (held_count head) (drop 16 own)

  abbrev left : List (List ℕ)
  left = round (schedule head.schedule) (step (chain_of head)) head.k head.round.0 (held_values head own)

  -- the values that it leaves fill the record that it writes
  left_holding : Holding (later head) left
  unfolding held_size held_count
  left_holding =
      let c = chain_of head in
      let s = head.schedule in
      let t = schedule s in
      let known = sound.numbered.schedule in
      let count : length left ≡ length (positions t head.k (suc head.round.0) 0) =
      round_length (step c) t (fair s known) head.k head.round.0 (held_values head own) sound.from less many in
      record {
        sized = round_size (width c) (step c) (step_length c) s known head.k head.round.0 (held_values head own) sound.from less wide many;
        cut =
            λ rest. ap (λ (n : ℕ). values (width c) n (joined left ++ rest)) (sym count)
            ∙ joined_cut (width c) left rest (round_wide (width c) (step c) (step_length c) t head.k head.round.0 (held_values head own) wide);
      }

  later_numbered : Numbered (later head)
  later_numbered = let n = sound.numbered in record { known = n.known; small = n.small; schedule = n.schedule }

  left_long : length (card_bytes (later head) left) ≡ size (later head)
  left_long = card_length (later head) left later_numbered (omega arith) less left_holding

  left_within : length (card_bytes (later head) left) ≤ length own
  unfolding size slots_size
  left_within = omega (arith, left_long, sound.long)

  -- which is whole again
  left_whole : Whole (over (card_bytes (later head) left) own)
  unfolding size slots_size
  left_whole =
      let l : length (over (card_bytes (later head) left) own) ≡ length own = over_length (card_bytes (later head) left) own left_within in
      let h : head_of (over (card_bytes (later head) left) own) ≡ later head =
      headed_back (later head) left later_numbered (omega arith) less left_holding own sound.long in
      record { headed = omega (arith, sound.long); slotted = λ n. rw (h, l) (omega (arith, sound.long)) }

  module _ (rest : List ℕ) where
    values_same : held_values head (own ++ rest) ≡ held_values head own
    unfolding held_values size
    values_same =
        ap (values (width_of head) (held_count head)) (drop-append-le 16 own rest (omega (arith, sound.long)))
        ∙ values_front (width_of head) (held_count head) (drop 16 own) rest held_within

-- what holds of a refusal, and of the head of a sound record with rounds left, holds of what a round judges
judged_cases : (own out : List ℕ) (Holds : Result Head Refusal → Type 0) → ((refusal : Refusal) → Holds (Err refusal))
    → ((head : Head) → Sound own head → head.round.0 < 2 ^ suc head.k → Holds (Ok head)) → Holds (round_judged own out)
judged_cases own out Holds refused passed = go (round_judged own out) refl
  where
    go : (seen : Result Head Refusal) → round_judged own out ≡ seen → Holds seen
    go (Err x) q = refused x
    go (Ok head) q = let ok = runs own out head q in passed head ok.0 ok.1

-- ---- any record that is as long as its own head says

-- where it has as many bytes as its head says, whatever that says, it is whole
pub whole_by_its_head : (own : List ℕ) → size (head_of own) ≤ length own → Whole own
unfolding size
whole_by_its_head own long = record { headed = omega arith; slotted = λ n. omega arith }

module _ (own rest : List ℕ) (whole : Whole own) where
  byte : (n : ℕ) → n < 16 → get_or (own ++ rest) n 0 ≡ get_or own n 0
  byte n h = get_or-append own rest 0 n (omega (arith, whole.headed))

  part : (n m : ℕ) → m + n ≤ 16 → take n (drop m (own ++ rest)) ≡ take n (drop m own)
  part n m h = part_front own rest n m (omega (arith, whole.headed))

  head_same : head_of (own ++ rest) ≡ head_of own
  unfolding head_of
  head_same = rw (byte 2 (omega arith), byte 3 (omega arith), byte 4 (omega arith), part 4 8 (omega arith)) refl

  laid_same : laid_out (own ++ rest) ≡ laid_out own
  unfolding laid_out
  laid_same = rw (byte 0 (omega arith), byte 1 (omega arith), part 3 5 (omega arith), part 4 12 (omega arith)) refl

  -- where more is held than there are slots, which no sound record says, no slot is free
  free_same : size (head_of own) ≤ length own → free_slots (head_of own) (own ++ rest) ≡ free_slots (head_of own) own
  unfolding free_slots
  free_same long = go (16 + held_size (head_of own)) (lt_or_le (size (head_of own)) (16 + held_size (head_of own)))
    where
      go : (from : ℕ) → (size (head_of own) < from) ⊎ (from ≤ size (head_of own))
          → take (size (head_of own) - from) (drop from (own ++ rest)) ≡ take (size (head_of own) - from) (drop from own)
      go from (inl none) = let z : size (head_of own) - from ≡ 0 = omega arith in rw z refl
      go from (inr some) = part_front own rest (size (head_of own) - from) from (omega (arith, long))

  slots_same : Numbered (head_of own) → inspect_slots (own ++ rest) (head_of own) ≡ inspect_slots own (head_of own)
  unfolding inspect_slots in_range
  slots_same n =
      let long : size (head_of own) ≤ length own = omega (arith, whole.slotted n) in
      rw (short_same own rest (size (head_of own)) long, le-ltb (length own) (size (head_of own)) long)
      (go (eqb (head_of own).round.0 0) (ltb (2 ^ suc (head_of own).k) (head_of own).round.0) (free_same long))
    where
      judge : List ℕ → Head → Result Head Refusal
      judge card h = cond (all_zero (free_slots h card)) (Ok h) (Err BadRecord)

      go : (none over : Bool) → free_slots (head_of own) (own ++ rest) ≡ free_slots (head_of own) own
          → passing (cond none (Err BadRecord) (cond over (Err BadRecord) (Ok (head_of own)))) (judge (own ++ rest))
          ≡ passing (cond none (Err BadRecord) (cond over (Err BadRecord) (Ok (head_of own)))) (judge own)
      go true over e = refl
      go false true e = refl
      go false false e = rw e refl

  inspected_same : inspect_of (own ++ rest) ≡ inspect_of own
  unfolding inspect_of
  inspected_same =
      rw (
        short_same own rest 16 whole.headed,
        laid_same,
        head_same,
        passing_same (numbers (head_of own)) (inspect_slots (own ++ rest)) (inspect_slots own) on_slots,
      ) refl
    where
      on_slots : (g : Head) → numbers (head_of own) ≡ Ok g → inspect_slots (own ++ rest) g ≡ inspect_slots own g
      on_slots g q =
          let same : head_of own ≡ g = numbers_same (head_of own) g q in
          rw (← same) (slots_same (rw same (numbers_known (head_of own) g q)))

  module _ (out : List ℕ) where
    judged_same : round_judged (own ++ rest) out ≡ round_judged own out
    unfolding round_judged
    judged_same = ap (λ (seen : Result Head Refusal). passing seen (ready out)) inspected_same

    -- the round says the same
    pub round_says_the_same : round_must_say (own ++ rest) out ≡ round_must_say own out
    unfolding round_must_say
    round_says_the_same = ap judged_round_says judged_same

    -- it leaves the record the same, and the bytes behind it as they are
    pub round_leaves_the_same : round_card (own ++ rest) out ≡ round_card own out ++ rest
    unfolding round_card
    round_leaves_the_same =
        rw judged_same
        (judged_cases own out (λ seen. judged_round_card (own ++ rest) seen ≡ judged_round_card own seen ++ rest)
        (λ x. refl)
        (λ head sound less.
        rw (values_same own head sound less rest)
        (over-front own rest (card_bytes (later head) (left own head sound less)) (left_within own head sound less))))

    -- and it writes the same to the out buffer
    pub round_writes_the_same : round_out (own ++ rest) out ≡ round_out own out
    unfolding round_out
    round_writes_the_same =
        rw judged_same
        (judged_cases own out (λ seen. judged_round_out (own ++ rest) out seen ≡ judged_round_out own out seen)
        (λ x. refl)
        (λ head sound less. rw (values_same own head sound less rest) refl))

-- a round leaves a whole record whole
pub round_leaves_it_whole : (own out : List ℕ) → Whole own → Whole (round_card own out)
unfolding round_card
round_leaves_it_whole own out whole = judged_cases own out (λ seen. Whole (judged_round_card own seen)) (λ x. whole) (left_whole own)

-- so any number of rounds leaves the bytes behind it as they are, and the record as if they were not there
pub rounds_leave_the_same : (own rest : List ℕ) (outs : List (List ℕ)) → Whole own → rounds (own ++ rest) outs ≡ rounds own outs ++ rest
unfolding rounds
rounds_leave_the_same own rest [] whole = refl
rounds_leave_the_same own rest (out ∷ outs) whole =
    ap (λ (b : List ℕ). rounds b outs) (round_leaves_the_same own rest whole out)
    ∙ rounds_leave_the_same (round_card own out) rest outs (round_leaves_it_whole own out whole)

-- two buffers that begin with the same record get the same answer and the same tick
pub same_record_same_answer : (own rest₁ rest₂ out : List ℕ) → Whole own
    → (round_must_say (own ++ rest₁) out ≡ round_must_say (own ++ rest₂) out) × (round_out (own ++ rest₁) out ≡ round_out (own ++ rest₂) out)
same_record_same_answer own rest₁ rest₂ out whole = (
  round_says_the_same own rest₁ whole out ∙ sym (round_says_the_same own rest₂ whole out),
  round_writes_the_same own rest₁ whole out ∙ sym (round_writes_the_same own rest₂ whole out),
)

-- ---- start, rebuild and the start of n ticks

-- what the tests of such a call come to, whatever record it is lent: a refusal, or the last test, which is whether there is room for the
-- record of its head; the values that the call lays then have slots
data Tested (head : Head) (seed : List ℕ) (laid : Head → List (List ℕ)) (judged : List ℕ → Result Head Refusal) : Type 0 where
  refused : (refusal : Refusal) → ((card : List ℕ) → judged card ≡ Err refusal) → Tested head seed laid judged
  room_asked : (length seed ≡ width_of head → length (card_bytes head (laid head)) ≤ size head)
      → ((card : List ℕ) → judged card ≡ room_for seed card head) → Tested head seed laid judged

module _ (head : Head) (seed : List ℕ) (laid : Head → List (List ℕ)) (judged : List ℕ → Result Head Refusal) (tested : Tested head seed laid judged)
    (own rest : List ℕ) (long : size head ≤ length own) where
  room_same : room_for seed (own ++ rest) head ≡ room_for seed own head
  unfolding room_for
  room_same = rw (short_same own rest (size head) long) refl

  tests_same : judged (own ++ rest) ≡ judged own
  tests_same = go tested
    where
      go : Tested head seed laid judged → judged (own ++ rest) ≡ judged own
      go (refused x q) = q (own ++ rest) ∙ sym (q own)
      go (room_asked fits q) = q (own ++ rest) ∙ room_same ∙ sym (q own)

  laid_the_same : judged_card laid (own ++ rest) (judged (own ++ rest)) ≡ judged_card laid own (judged own) ++ rest
  laid_the_same = rw tests_same (go tested)
    where
      by : (length seed ≡ width_of head → length (card_bytes head (laid head)) ≤ size head) → (seen : Result Head Refusal) → room_for seed own head ≡ seen
          → judged_card laid (own ++ rest) seen ≡ judged_card laid own seen ++ rest
      by fits (Err x) q = refl
      by fits (Ok g) q =
          let ok = roomy head seed own g q in
          rw (← ok.0) (over-front own rest (card_bytes head (laid head)) (omega (arith, fits ok.1.seeded, long)))

      go : Tested head seed laid judged → judged_card laid (own ++ rest) (judged own) ≡ judged_card laid own (judged own) ++ rest
      go (refused x q) = rw (q own) refl
      go (room_asked fits q) = rw (q own) (by fits (room_for seed own head) refl)

module _ (function k s : ℕ) (seed : List ℕ) where
  abbrev started_head : Head
  started_head = head_at function k s 1

  start_tested : Tested started_head seed (λ h. seed ∷ []) (start_judged started_head seed)
  unfolding start_judged
  start_tested = go (numbers started_head) refl
    where
      -- the seed has a slot
      fits : length seed ≡ width_of started_head → length (card_bytes started_head (seed ∷ [])) ≤ size started_head
      fits e =
          let some = mul-le-mul_left (width_of started_head) (slots_some s k) in
          unfold card_bytes head_bytes filled joined size slots_size in
          simp (length-append, length-replicate) (omega (arith, some, e))

      go : (seen : Result Head Refusal) → numbers started_head ≡ seen → Tested started_head seed (λ h. seed ∷ []) (start_judged started_head seed)
      go (Err x) q = refused x (λ card. rw q refl)
      go (Ok g) q = room_asked fits (λ card. rw (q, ← numbers_same started_head g q) refl)

  module _ (own rest : List ℕ) (long : size (head_at function k s 1) ≤ length own) where
    pub start_says_the_same : start_must_say function k s seed (own ++ rest) ≡ start_must_say function k s seed own
    unfolding start_must_say
    start_says_the_same = ap judged_says (tests_same started_head seed _ _ start_tested own rest long)

    pub start_leaves_the_same : start_card function k s seed (own ++ rest) ≡ start_card function k s seed own ++ rest
    unfolding start_card
    start_leaves_the_same = laid_the_same started_head seed _ _ start_tested own rest long

-- the elements held before a round have slots
held_fit : (head : Head) (seed : List ℕ) → Numbered head → 0 < head.round.0 → head.round.0 ≤ 2 ^ suc head.k
    → length seed ≡ width_of head → length (card_bytes head (elements_held seed head)) ≤ size head
held_fit head seed n from upto e =
    omega (arith, card_length head (elements_held seed head) n from upto (chain_holding head seed n.schedule e))

module _ (function k s r : ℕ) (seed : List ℕ) where
  abbrev rebuilt_head : Head
  rebuilt_head = head_at function k s r

  rebuild_tested : Tested rebuilt_head seed (elements_held seed) (rebuild_judged rebuilt_head seed)
  unfolding rebuild_judged in_range
  rebuild_tested = go (numbers rebuilt_head) refl
    where
      by : Numbered rebuilt_head → (r ≡ 0) ⊎ (0 < r) → (2 ^ suc k < r) ⊎ (r ≤ 2 ^ suc k)
          → Tested rebuilt_head seed (elements_held seed) (rebuild_judged rebuilt_head seed)
      by n (inl none) upto = refused BadRecord (λ card. rw (numbers_pass rebuilt_head n, eq-eqb r 0 none) refl)
      by n (inr from) (inl beyond) =
          refused BadRecord (λ card. rw (numbers_pass rebuilt_head n, ne_eqb r 0 (λ e. omega arith), lt-ltb (2 ^ suc k) r beyond) refl)
      by n (inr from) (inr upto) = room_asked (held_fit rebuilt_head seed n from upto) (λ card. rebuild_judged_lem rebuilt_head seed card n from upto)

      go : (seen : Result Head Refusal) → numbers rebuilt_head ≡ seen → Tested rebuilt_head seed (elements_held seed) (rebuild_judged rebuilt_head seed)
      go (Err x) q = refused x (λ card. rw q refl)
      go (Ok g) q = by (rw (numbers_same rebuilt_head g q) (numbers_known rebuilt_head g q)) (eq-zero-or-pos r) (lt_or_le (2 ^ suc k) r)

  module _ (own rest : List ℕ) (long : size (head_at function k s 1) ≤ length own) where
    pub rebuild_says_the_same : rebuild_must_say function k s r seed (own ++ rest) ≡ rebuild_must_say function k s r seed own
    unfolding rebuild_must_say size slots_size
    rebuild_says_the_same = ap judged_says (tests_same rebuilt_head seed _ _ rebuild_tested own rest long)

    pub rebuild_leaves_the_same : rebuild_card function k s r seed (own ++ rest) ≡ rebuild_card function k s r seed own ++ rest
    unfolding rebuild_card size slots_size
    rebuild_leaves_the_same = laid_the_same rebuilt_head seed _ _ rebuild_tested own rest long

module _ (function n s : ℕ) (seed : List ℕ) where
  abbrev sold_head : Head
  sold_head = head_at function (level n) s (first_round n)

  start_ticks_tested : Tested sold_head seed (elements_held seed) (start_ticks_judged function n s seed)
  unfolding start_ticks_judged
  start_ticks_tested = go (known function) refl (lt_or_le 3 s) (allowed n) refl
    where
      go : (x : Bool) → known function ≡ x → (3 < s) ⊎ (s ≤ 3) → (y : Bool) → allowed n ≡ y
          → Tested sold_head seed (elements_held seed) (start_ticks_judged function n s seed)
      go false p b y q = refused UnknownFunction (λ card. rw p refl)
      go true p (inl b) y q = refused UnknownSchedule (λ card. rw (p, lt-ltb 3 s b) refl)
      go true p (inr b) false q = refused BadTicks (λ card. rw (p, le-ltb 3 s b, q) refl)
      go true p (inr b) true q =
          let range = allowed_range n q in
          let first = first_round_pays n range.0 range.1 in
          room_asked
          (held_fit sold_head seed (record { known = p; small = level_small n range.1; schedule = b }) (omega (arith, first.0, pow_pos (level n))) (omega (arith, first.1)))
          (λ card. rw (p, le-ltb 3 s b, q) refl)

  module _ (own rest : List ℕ) (long : size (head_at function (level n) s 1) ≤ length own) where
    pub start_ticks_says_the_same : start_ticks_must_say function n s seed (own ++ rest) ≡ start_ticks_must_say function n s seed own
    unfolding start_ticks_must_say size slots_size
    start_ticks_says_the_same = ap judged_says (tests_same sold_head seed _ _ start_ticks_tested own rest long)

    pub start_ticks_leaves_the_same : start_ticks_card function n s seed (own ++ rest) ≡ start_ticks_card function n s seed own ++ rest
    unfolding start_ticks_card size slots_size
    start_ticks_leaves_the_same = laid_the_same sold_head seed _ _ start_ticks_tested own rest long
