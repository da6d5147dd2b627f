-- What enrol, offer and settle promise, and that each promise leaves no choice. The right sides are definitions over what was lent;
-- a refusal is a case of them: its number alone is said, and no byte changes. Assumes nothing.
use Rattle.std.specs.Prelude.{◌≡◌, refl, Bool, true, false, List, [], ◌∷◌, ℕ, ◌+◌, ◌-◌, ◌^◌, min}
use Rattle.std.proofs.Common.{sym, ◌∙◌, arith}
use Rattle.lists.specs.Same.{same}
use Rattle.lists.specs.Writing.{over}
use Rattle.oneway.specs.Step.{step}
use Rattle.oneway.specs.declared.Chain.{Chain}
use Rattle.pebbling.specs.Recursion.{chain}
use Rattle.refusals.specs.Answers.{says_by, told_by, done_says, done_told}
use Rattle.refusals.specs.Numbers.{said_of}
use Rattle.refusals.specs.declared.Refusal.TheVariants.{NotTaken}
use Rattle.post.specs.declared.Head.{Head}
use Rattle.std.specs.Prelude.{Err, None, Ok, Option, Result, Some}
use Rattle.refusals.specs.declared.Refusal.{Refusal}
use Rattle.post.specs.Record.{chain_of, post_bytes, anchor_of, held_value}
use Rattle.post.specs.Refused.{enrol_judged, offer_judged, settle_judged}
use Rattle.post.specs.Search.{fewest}

-- ---- what the counter says: a refusal's number alone, or 0 and what there is to say

abbrev pub answer_says : Result (Unit {0}) Refusal → List ℕ
answer_says = done_says

-- a credit: 0 and the ticks credited
abbrev pub offer_answer_says : Result ℕ Refusal → List ℕ
offer_answer_says = says_by (λ ticks. ticks ∷ [])

abbrev pub settled_says : Bool → List ℕ
settled_says true = 1 ∷ []
settled_says false = 0 ∷ []

-- yes: 0 and 1; no: 0 and 0
abbrev pub settle_answer_says : Result Bool Refusal → List ℕ
settle_answer_says = says_by settled_says

-- ---- enrol: a record with 0 paid, whose value held is the anchor

abbrev pub unpaid : ℕ → ℕ → Head
unpaid function k = record { function = function; k = k; paid = 0 }

abbrev pub judged_enrol_says : Result Head Refusal → List ℕ
judged_enrol_says (Err refusal) = said_of refusal
judged_enrol_says (Ok head) = 0 ∷ []

abbrev pub judged_enrol_post : List ℕ → List ℕ → Result Head Refusal → List ℕ
judged_enrol_post anchor post (Err refusal) = post
judged_enrol_post anchor post (Ok head) = over (post_bytes head anchor anchor) post

unfoldable pub enrol_must_say : ℕ → ℕ → List ℕ → List ℕ → List ℕ
enrol_must_say function k anchor post = judged_enrol_says (enrol_judged (unpaid function k) anchor post)

unfoldable pub enrol_post : ℕ → ℕ → List ℕ → List ℕ → List ℕ
enrol_post function k anchor post = judged_enrol_post anchor post (enrol_judged (unpaid function k) anchor post)

pub record Enrolled (function k : ℕ) (anchor post : List ℕ) (answer : Result (Unit {0}) Refusal) (post' : List ℕ) : Type 0 where
  pub says : answer_says answer ≡ enrol_must_say function k anchor post
  pub leaves : post' ≡ enrol_post function k anchor post

-- ---- offer: the fewest steps are credited, and the value becomes the value held

-- the smaller of G and the unpaid ticks
abbrev pub limit_of : ℕ → Head → ℕ
limit_of gap head = min gap (2 ^ head.k - head.paid)

unfoldable pub search_finds : List ℕ → List ℕ → ℕ → Head → Option ℕ
search_finds post value gap head = fewest (step (chain_of head)) (limit_of gap head) (held_value head post) value

-- the head with g more ticks paid
abbrev pub credited : ℕ → Head → Head
credited g head = record { function = head.function; k = head.k; paid = head.paid + g }

abbrev pub found_says : Option ℕ → List ℕ
found_says (Some g) = 0 ∷ g ∷ []
found_says None = said_of NotTaken

abbrev pub found_post : Head → List ℕ → List ℕ → Option ℕ → List ℕ
found_post head post value (Some g) = over (post_bytes (credited g head) (anchor_of head post) value) post
found_post head post value None = post

abbrev pub judged_offer_says : List ℕ → List ℕ → ℕ → Result Head Refusal → List ℕ
judged_offer_says post value gap (Err refusal) = said_of refusal
judged_offer_says post value gap (Ok head) = found_says (search_finds post value gap head)

abbrev pub judged_offer_post : List ℕ → List ℕ → ℕ → Result Head Refusal → List ℕ
judged_offer_post post value gap (Err refusal) = post
judged_offer_post post value gap (Ok head) = found_post head post value (search_finds post value gap head)

unfoldable pub offer_must_say : List ℕ → List ℕ → ℕ → List ℕ
offer_must_say post value gap = judged_offer_says post value gap (offer_judged post value gap)

unfoldable pub offer_post : List ℕ → List ℕ → ℕ → List ℕ
offer_post post value gap = judged_offer_post post value gap (offer_judged post value gap)

pub record Offered (post value : List ℕ) (gap : ℕ) (answer : Result ℕ Refusal) (post' : List ℕ) : Type 0 where
  pub says : offer_answer_says answer ≡ offer_must_say post value gap
  pub leaves : post' ≡ offer_post post value gap

-- ---- settle: whether f applied as often as is paid to the last value gives the anchor

unfoldable pub arrives_of : Chain → List ℕ → List ℕ → ℕ → Bool
arrives_of c anchor last paid = same (chain (step c) last paid) anchor

abbrev pub verdict : Bool → List ℕ
verdict true = 0 ∷ 1 ∷ []
verdict false = 0 ∷ 0 ∷ []

abbrev pub judged_settle_says : List ℕ → List ℕ → Result Head Refusal → List ℕ
judged_settle_says anchor last (Err refusal) = said_of refusal
judged_settle_says anchor last (Ok head) = verdict (arrives_of (chain_of head) anchor last head.paid)

unfoldable pub settle_must_say : ℕ → ℕ → List ℕ → List ℕ → ℕ → List ℕ
settle_must_say function k anchor last paid =
    judged_settle_says anchor last (settle_judged (record { function = function; k = k; paid = paid }) anchor last)

pub record Settled (function k : ℕ) (anchor last : List ℕ) (paid : ℕ) (answer : Result Bool Refusal) : Type 0 where
  pub says : settle_answer_says answer ≡ settle_must_say function k anchor last paid

-- ---- no two answers say the same, so that from what is said one can tell the answer; and so each promise is kept by one answer and one
-- content of the lent record

pub answer_told : (a b : Result (Unit {0}) Refusal) → answer_says a ≡ answer_says b → a ≡ b
answer_told = done_told

pub offer_answer_told : (a b : Result ℕ Refusal) → offer_answer_says a ≡ offer_answer_says b → a ≡ b
offer_answer_told = told_by (λ ticks. ticks ∷ []) (λ a b e. cc)

settled_told : (a b : Bool) → settled_says a ≡ settled_says b → a ≡ b
settled_told true true e = refl
settled_told true false e = let z : ◌≡◌ {A = ℕ} 0 1 = cc in absurd (omega arith)
settled_told false true e = let z : ◌≡◌ {A = ℕ} 0 1 = cc in absurd (omega arith)
settled_told false false e = refl

pub settle_answer_told : (a b : Result Bool Refusal) → settle_answer_says a ≡ settle_answer_says b → a ≡ b
settle_answer_told = told_by settled_says settled_told

pub enrol_leaves_no_choice : (function k : ℕ) (anchor post : List ℕ) (a b : Result (Unit {0}) Refusal) (post₁ post₂ : List ℕ)
    → Enrolled function k anchor post a post₁ → Enrolled function k anchor post b post₂ → (a ≡ b) × (post₁ ≡ post₂)
enrol_leaves_no_choice function k anchor post a b post₁ post₂ p q =
    (answer_told a b (p.says ∙ sym q.says), p.leaves ∙ sym q.leaves)

pub offer_leaves_no_choice : (post value : List ℕ) (gap : ℕ) (a b : Result ℕ Refusal) (post₁ post₂ : List ℕ)
    → Offered post value gap a post₁ → Offered post value gap b post₂ → (a ≡ b) × (post₁ ≡ post₂)
offer_leaves_no_choice post value gap a b post₁ post₂ p q =
    (offer_answer_told a b (p.says ∙ sym q.says), p.leaves ∙ sym q.leaves)

pub settle_leaves_no_choice : (function k : ℕ) (anchor last : List ℕ) (paid : ℕ) (a b : Result Bool Refusal)
    → Settled function k anchor last paid a → Settled function k anchor last paid b → a ≡ b
settle_leaves_no_choice function k anchor last paid a b p q = settle_answer_told a b (p.says ∙ sym q.says)
