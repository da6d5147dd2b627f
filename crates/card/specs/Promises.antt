-- What start, rebuild, round, anchor and the two calls for n ticks promise, and that each promise leaves no choice. The right sides are
-- definitions over what was lent; a refusal is a case of them: its number alone is said, and no byte changes. Assumes nothing.
use Rattle.std.specs.Prelude.{◌≡◌, List, [], ◌∷◌, map, ℕ, ◌^◌}
use Rattle.std.proofs.Common.{sym, ◌∙◌, arith}
use Rattle.lists.specs.Values.{joined}
use Rattle.lists.specs.Writing.{over}
use Rattle.oneway.specs.Step.{step}
use Rattle.oneway.specs.declared.Chain.{Chain}
use Rattle.pebbling.specs.Recursion.{schedule, positions, put_out, work, tick, round, chain}
use Rattle.refusals.specs.Answers.{says_by, told_by, done_says, done_told}
use Rattle.refusals.specs.Numbers.{said_of}
use Rattle.card.specs.declared.Head.{Head}
use Rattle.std.specs.Prelude.{Err, Ok, Result}
use Rattle.refusals.specs.declared.Refusal.{Refusal}
use Rattle.card.specs.declared.Outcome.{Outcome}
use Rattle.card.specs.declared.Outcome.TheVariants.{Quiet, Tick}
use Rattle.card.specs.Record.{head_at, chain_of, card_bytes, held_values}
use Rattle.card.specs.Refused.{later, start_judged, rebuild_judged, start_ticks_judged, round_judged, anchor_judged, anchor_ticks_judged}

-- ---- what the counter says: a refusal's number alone, or 0 and what there is to say

abbrev pub answer_says : Result (Unit {0}) Refusal → List ℕ
answer_says = done_says

abbrev pub outcome_says : Outcome → List ℕ
outcome_says (Quiet hashes) = 0 ∷ hashes ∷ []
outcome_says (Tick position hashes) = 1 ∷ position ∷ hashes ∷ []

-- a quiet round: 0, 0 and its hashes; a tick: 0, 1, its position and its hashes
abbrev pub round_answer_says : Result Outcome Refusal → List ℕ
round_answer_says = says_by outcome_says

-- ---- start, rebuild and start of n ticks, once the tests have judged: 0 where they pass, and the record with the values to be laid

abbrev pub judged_says : Result Head Refusal → List ℕ
judged_says (Err refusal) = said_of refusal
judged_says (Ok head) = 0 ∷ []

abbrev pub judged_card : (Head → List (List ℕ)) → List ℕ → Result Head Refusal → List ℕ
judged_card laid card (Err refusal) = card
judged_card laid card (Ok head) = over (card_bytes head (laid head)) card

-- ---- start: the record for round 1, slot 0 the seed

unfoldable pub start_must_say : ℕ → ℕ → ℕ → List ℕ → List ℕ → List ℕ
start_must_say function k schedule seed card = judged_says (start_judged (head_at function k schedule 1) seed card)

unfoldable pub start_card : ℕ → ℕ → ℕ → List ℕ → List ℕ → List ℕ
start_card function k schedule seed card = judged_card (λ head. seed ∷ []) card (start_judged (head_at function k schedule 1) seed card)

pub record Started (function k schedule : ℕ) (seed card : List ℕ) (answer : Result (Unit {0}) Refusal) (card' : List ℕ) : Type 0 where
  pub says : answer_says answer ≡ start_must_say function k schedule seed card
  pub leaves : card' ≡ start_card function k schedule seed card

-- ---- rebuild: the record before round r, the chain's elements at the positions held then

abbrev pub elements_held : List ℕ → Head → List (List ℕ)
elements_held seed head = map (chain (step (chain_of head)) seed) (positions (schedule head.schedule) head.k head.round.0 0)

unfoldable pub rebuild_must_say : ℕ → ℕ → ℕ → ℕ → List ℕ → List ℕ → List ℕ
rebuild_must_say function k schedule r seed card = judged_says (rebuild_judged (head_at function k schedule r) seed card)

unfoldable pub rebuild_card : ℕ → ℕ → ℕ → ℕ → List ℕ → List ℕ → List ℕ
rebuild_card function k schedule r seed card = judged_card (elements_held seed) card (rebuild_judged (head_at function k schedule r) seed card)

pub record Rebuilt (function k schedule r : ℕ) (seed card : List ℕ) (answer : Result (Unit {0}) Refusal) (card' : List ℕ) : Type 0 where
  pub says : answer_says answer ≡ rebuild_must_say function k schedule r seed card
  pub leaves : card' ≡ rebuild_card function k schedule r seed card

-- ---- start of a card of n ticks: the record before round 2^(k+1) - n, k being the least with 2^k at least n

unfoldable pub start_ticks_must_say : ℕ → ℕ → ℕ → List ℕ → List ℕ → List ℕ
start_ticks_must_say function n schedule seed card = judged_says (start_ticks_judged function n schedule seed card)

unfoldable pub start_ticks_card : ℕ → ℕ → ℕ → List ℕ → List ℕ → List ℕ
start_ticks_card function n schedule seed card = judged_card (elements_held seed) card (start_ticks_judged function n schedule seed card)

pub record StartedTicks (function n schedule : ℕ) (seed card : List ℕ) (answer : Result (Unit {0}) Refusal) (card' : List ℕ) : Type 0 where
  pub says : answer_says answer ≡ start_ticks_must_say function n schedule seed card
  pub leaves : card' ≡ start_ticks_card function n schedule seed card

-- ---- round: the recursion's round on the values that are held, whatever they are

-- the positions put out, none or one, and the hashes
abbrev pub tick_or_quiet : List ℕ → ℕ → List ℕ
tick_or_quiet [] hashes = 0 ∷ 0 ∷ hashes ∷ []
tick_or_quiet (position ∷ none) hashes = 0 ∷ 1 ∷ position ∷ hashes ∷ []

module _ (head : Head) where
  abbrev t : ℕ → ℕ → ℕ
  t = schedule head.schedule

  abbrev r : ℕ
  r = head.round.0

  abbrev pub passed_round_says : List ℕ
  passed_round_says = tick_or_quiet (put_out head.k r 0) (work t head.k r)

  -- the values after the round, from slot 0 on
  abbrev pub passed_round_card : List ℕ → List ℕ
  passed_round_card card = over (card_bytes (later head) (round t (step (chain_of head)) head.k r (held_values head card))) card

  -- the value put out, at the front of the out buffer; a quiet round puts out none and writes nothing
  abbrev pub passed_round_out : List ℕ → List ℕ → List ℕ
  passed_round_out card out = over (joined (tick t head.k r (held_values head card))) out

abbrev pub judged_round_says : Result Head Refusal → List ℕ
judged_round_says (Err refusal) = said_of refusal
judged_round_says (Ok head) = passed_round_says head

abbrev pub judged_round_card : List ℕ → Result Head Refusal → List ℕ
judged_round_card card (Err refusal) = card
judged_round_card card (Ok head) = passed_round_card head card

abbrev pub judged_round_out : List ℕ → List ℕ → Result Head Refusal → List ℕ
judged_round_out card out (Err refusal) = out
judged_round_out card out (Ok head) = passed_round_out head card out

unfoldable pub round_must_say : List ℕ → List ℕ → List ℕ
round_must_say card out = judged_round_says (round_judged card out)

unfoldable pub round_card : List ℕ → List ℕ → List ℕ
round_card card out = judged_round_card card (round_judged card out)

unfoldable pub round_out : List ℕ → List ℕ → List ℕ
round_out card out = judged_round_out card out (round_judged card out)

pub record Rounded (card out : List ℕ) (answer : Result Outcome Refusal) (card' out' : List ℕ) : Type 0 where
  pub says : round_answer_says answer ≡ round_must_say card out
  pub leaves : card' ≡ round_card card out
  pub writes : out' ≡ round_out card out

-- ---- anchor: the chain's element 2^k, at the front of the out buffer; of a card of n ticks: element n

-- once the tests have judged: element n
abbrev pub judged_element : Chain → ℕ → List ℕ → List ℕ → Result (Unit {0}) Refusal → List ℕ
judged_element c n seed out (Ok u) = over (chain (step c) seed n) out
judged_element c n seed out (Err refusal) = out

unfoldable pub anchor_must_say : Chain → ℕ → List ℕ → List ℕ → List ℕ
anchor_must_say c k seed out = answer_says (anchor_judged c k seed out)

unfoldable pub anchor_out : Chain → ℕ → List ℕ → List ℕ → List ℕ
anchor_out c k seed out = judged_element c (2 ^ k) seed out (anchor_judged c k seed out)

pub record Anchored (c : Chain) (k : ℕ) (seed out : List ℕ) (answer : Result (Unit {0}) Refusal) (out' : List ℕ) : Type 0 where
  pub says : answer_says answer ≡ anchor_must_say c k seed out
  pub writes : out' ≡ anchor_out c k seed out

unfoldable pub anchor_ticks_must_say : Chain → ℕ → List ℕ → List ℕ → List ℕ
anchor_ticks_must_say c n seed out = answer_says (anchor_ticks_judged c n seed out)

unfoldable pub anchor_ticks_out : Chain → ℕ → List ℕ → List ℕ → List ℕ
anchor_ticks_out c n seed out = judged_element c n seed out (anchor_ticks_judged c n seed out)

pub record AnchoredTicks (c : Chain) (n : ℕ) (seed out : List ℕ) (answer : Result (Unit {0}) Refusal) (out' : List ℕ) : Type 0 where
  pub says : answer_says answer ≡ anchor_ticks_must_say c n seed out
  pub writes : out' ≡ anchor_ticks_out c n seed out

-- ---- no two answers say the same, so that from what is said one can tell the answer; and so each promise is kept by one answer and one
-- content of each lent buffer

pub answer_told : (a b : Result (Unit {0}) Refusal) → answer_says a ≡ answer_says b → a ≡ b
answer_told = done_told

outcome_told : (a b : Outcome) → outcome_says a ≡ outcome_says b → a ≡ b
outcome_told (Quiet h) (Quiet i) e = cc
outcome_told (Quiet h) (Tick p i) e = let z : ◌≡◌ {A = ℕ} 0 1 = cc in absurd (omega arith)
outcome_told (Tick p h) (Quiet i) e = let z : ◌≡◌ {A = ℕ} 0 1 = cc in absurd (omega arith)
outcome_told (Tick p h) (Tick q i) e = cc

pub round_answer_told : (a b : Result Outcome Refusal) → round_answer_says a ≡ round_answer_says b → a ≡ b
round_answer_told = told_by outcome_says outcome_told

pub start_leaves_no_choice : (function k schedule : ℕ) (seed card : List ℕ) (a b : Result (Unit {0}) Refusal) (card₁ card₂ : List ℕ)
    → Started function k schedule seed card a card₁ → Started function k schedule seed card b card₂ → (a ≡ b) × (card₁ ≡ card₂)
start_leaves_no_choice function k schedule seed card a b card₁ card₂ p q =
    (answer_told a b (p.says ∙ sym q.says), p.leaves ∙ sym q.leaves)

pub round_leaves_no_choice : (card out : List ℕ) (a b : Result Outcome Refusal) (card₁ card₂ out₁ out₂ : List ℕ)
    → Rounded card out a card₁ out₁ → Rounded card out b card₂ out₂ → (a ≡ b) × (card₁ ≡ card₂) × (out₁ ≡ out₂)
round_leaves_no_choice card out a b card₁ card₂ out₁ out₂ p q =
    (round_answer_told a b (p.says ∙ sym q.says), p.leaves ∙ sym q.leaves, p.writes ∙ sym q.writes)

pub anchor_leaves_no_choice : (c : Chain) (k : ℕ) (seed out : List ℕ) (a b : Result (Unit {0}) Refusal) (out₁ out₂ : List ℕ)
    → Anchored c k seed out a out₁ → Anchored c k seed out b out₂ → (a ≡ b) × (out₁ ≡ out₂)
anchor_leaves_no_choice c k seed out a b out₁ out₂ p q =
    (answer_told a b (p.says ∙ sym q.says), p.writes ∙ sym q.writes)

pub rebuild_leaves_no_choice : (function k schedule r : ℕ) (seed card : List ℕ) (a b : Result (Unit {0}) Refusal) (card₁ card₂ : List ℕ)
    → Rebuilt function k schedule r seed card a card₁ → Rebuilt function k schedule r seed card b card₂ → (a ≡ b) × (card₁ ≡ card₂)
rebuild_leaves_no_choice function k schedule r seed card a b card₁ card₂ p q =
    (answer_told a b (p.says ∙ sym q.says), p.leaves ∙ sym q.leaves)

pub start_ticks_leaves_no_choice : (function n schedule : ℕ) (seed card : List ℕ) (a b : Result (Unit {0}) Refusal) (card₁ card₂ : List ℕ)
    → StartedTicks function n schedule seed card a card₁ → StartedTicks function n schedule seed card b card₂ → (a ≡ b) × (card₁ ≡ card₂)
start_ticks_leaves_no_choice function n schedule seed card a b card₁ card₂ p q =
    (answer_told a b (p.says ∙ sym q.says), p.leaves ∙ sym q.leaves)

pub anchor_ticks_leaves_no_choice : (c : Chain) (n : ℕ) (seed out : List ℕ) (a b : Result (Unit {0}) Refusal) (out₁ out₂ : List ℕ)
    → AnchoredTicks c n seed out a out₁ → AnchoredTicks c n seed out b out₂ → (a ≡ b) × (out₁ ≡ out₂)
anchor_ticks_leaves_no_choice c n seed out a b out₁ out₂ p q =
    (answer_told a b (p.says ∙ sym q.says), p.writes ∙ sym q.writes)
