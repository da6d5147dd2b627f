-- A refusal, whichever, leaves every lent buffer as it was: for each call the promise that its contract names, and for each exported
-- function the promise of its word. Settle is not listed: it is lent nothing that it could write, and so its promise `Settled` speaks of
-- the answer alone; the same goes for seeds, anchors and values that are only read. Assumes nothing.
use Rattle.std.specs.Prelude.{◌≡◌, ◌⊎◌, Option, Some, None, Result, Ok, Err, List, [], ◌∷◌, ℕ, ◌^◌}
use Rattle.std.proofs.Math.Path.{refl}
use Rattle.std.proofs.Common.{sym, ap, ◌∙◌, inl, inr, arith}
use Rattle.oneway.specs.declared.Chain.{Chain}
use Rattle.pebbling.specs.PositionList.{positions_list, Positioned}
use Rattle.pebbling.specs.Recursion.{schedule, put_out, work}
use Rattle.card.specs.declared.Outcome.{Outcome}
use Rattle.card.specs.declared.Outcome.TheVariants.{Quiet, Tick}
use Rattle.pebbling.specs.declared.Listed.{Listed}
use Rattle.post.specs.declared.Head.{Head as PostHead}
use Rattle.refusals.specs.Numbers.{said_of, not_refused, number_not_0}
use Rattle.refusals.specs.declared.Refusal.{Refusal}
use Rattle.card.specs.Promises.{tick_or_quiet, judged_says, judged_card, start_must_say, start_card, Started, rebuild_must_say, rebuild_card, Rebuilt, start_ticks_must_say, start_ticks_card, StartedTicks, judged_round_says, judged_round_card, judged_round_out, round_must_say, round_card, round_out, Rounded, answer_says, judged_element, anchor_must_say, anchor_out, Anchored, anchor_ticks_must_say, anchor_ticks_out, AnchoredTicks}
use Rattle.card.specs.Record.{head_at}
use Rattle.card.specs.Refused.{start_judged, rebuild_judged, start_ticks_judged, round_judged, anchor_judged, anchor_ticks_judged}
use Rattle.card.specs.declared.Head.{Head}
use Rattle.post.specs.Promises.{unpaid, judged_enrol_says, judged_enrol_post, enrol_must_say, enrol_post, Enrolled, search_finds, found_says, found_post, judged_offer_says, judged_offer_post, offer_must_say, offer_post, Offered}
use Rattle.post.specs.Refused.{enrol_judged, offer_judged}
use Rattle.perchmellow.specs.Word.{word_by, done_word, outcome_word, round_word, positions_word, enrol_word, offer_word, Exported}
use Rattle.demands.specs.Unchanged.{number_in}

-- ---- the calls

-- what a round that was run says is no refusal's number
not_a_round : (refusal : Refusal) (ps : List ℕ) (hashes : ℕ) → said_of refusal ≡ tick_or_quiet ps hashes → ⊥
not_a_round refusal [] hashes e = not_refused refusal _ e
not_a_round refusal (p ∷ ps) hashes e = not_refused refusal _ e

module _ (refusal : Refusal) where
  -- where only a refusal is said so, that is what was judged, and so what is left is what it leaves
  verdict_refused : {T A : Type 0} (says : Result T Refusal → List ℕ) (leaves : Result T Refusal → A) (as_it_was : A)
      → ((value : T) → said_of refusal ≡ says (Ok value) → leaves (Ok value) ≡ as_it_was)
      → ((x : Refusal) → leaves (Err x) ≡ as_it_was)
      → (seen : Result T Refusal) → said_of refusal ≡ says seen → leaves seen ≡ as_it_was
  verdict_refused says leaves as_it_was passed refused (Err x) e = refused x
  verdict_refused says leaves as_it_was passed refused (Ok value) e = passed value e

  -- start, rebuild and the start of n ticks, whatever values each would lay
  judged_refused : (laid : Head → List (List ℕ)) (card card' : List ℕ) (seen : Result Head Refusal)
      → said_of refusal ≡ judged_says seen → card' ≡ judged_card laid card seen → card' ≡ card
  judged_refused laid card card' seen says leaves =
      leaves
      ∙ verdict_refused judged_says (judged_card laid card) card (λ head e. absurd (not_refused refusal _ e)) (λ x. refl) seen says

  pub start_refused_changes_nothing : (function k schedule : ℕ) (seed card card' : List ℕ)
      → Started function k schedule seed card (Err refusal) card' → card' ≡ card
  unfolding start_must_say start_card
  start_refused_changes_nothing function k schedule seed card card' kept =
      judged_refused _ card card' (start_judged (head_at function k schedule 1) seed card) kept.says kept.leaves

  pub rebuild_refused_changes_nothing : (function k schedule r : ℕ) (seed card card' : List ℕ)
      → Rebuilt function k schedule r seed card (Err refusal) card' → card' ≡ card
  unfolding rebuild_must_say rebuild_card
  rebuild_refused_changes_nothing function k schedule r seed card card' kept =
      judged_refused _ card card' (rebuild_judged (head_at function k schedule r) seed card) kept.says kept.leaves

  pub start_ticks_refused_changes_nothing : (function n schedule : ℕ) (seed card card' : List ℕ)
      → StartedTicks function n schedule seed card (Err refusal) card' → card' ≡ card
  unfolding start_ticks_must_say start_ticks_card
  start_ticks_refused_changes_nothing function n schedule seed card card' kept =
      judged_refused _ card card' (start_ticks_judged function n schedule seed card) kept.says kept.leaves

  -- of a round by what it must say, and so by its answer
  pub round_says_refused_changes_nothing : (card out : List ℕ) → round_must_say card out ≡ said_of refusal → (round_card card out ≡ card) × (round_out card out ≡ out)
  unfolding round_must_say round_card round_out
  round_says_refused_changes_nothing card out says = go (round_judged card out) says
    where
      go : (seen : Result Head Refusal) → judged_round_says seen ≡ said_of refusal → (judged_round_card card seen ≡ card) × (judged_round_out card out seen ≡ out)
      go (Err x) e = (refl, refl)
      go (Ok head) e =
          absurd (not_a_round refusal (put_out head.k head.round.0 0) (work (schedule head.schedule) head.k head.round.0) (sym e))

  pub round_refused_changes_nothing : (card out card' out' : List ℕ) → Rounded card out (Err refusal) card' out' → (card' ≡ card) × (out' ≡ out)
  round_refused_changes_nothing card out card' out' kept =
      let same = round_says_refused_changes_nothing card out (sym kept.says) in
      (kept.leaves ∙ same.0, kept.writes ∙ same.1)

  -- both anchors, whichever element each would write
  element_refused : (c : Chain) (n : ℕ) (seed out out' : List ℕ) (answer : Result (Unit {0}) Refusal)
      → said_of refusal ≡ answer_says answer → out' ≡ judged_element c n seed out answer → out' ≡ out
  element_refused c n seed out out' answer says writes =
      writes
      ∙ verdict_refused answer_says (judged_element c n seed out) out (λ done e. absurd (not_refused refusal _ e)) (λ x. refl) answer says

  pub anchor_refused_changes_nothing : (c : Chain) (k : ℕ) (seed out out' : List ℕ) → Anchored c k seed out (Err refusal) out' → out' ≡ out
  unfolding anchor_must_say anchor_out
  anchor_refused_changes_nothing c k seed out out' kept =
      element_refused c (2 ^ k) seed out out' (anchor_judged c k seed out) kept.says kept.writes

  pub anchor_ticks_refused_changes_nothing : (c : Chain) (n : ℕ) (seed out out' : List ℕ) → AnchoredTicks c n seed out (Err refusal) out' → out' ≡ out
  unfolding anchor_ticks_must_say anchor_ticks_out
  anchor_ticks_refused_changes_nothing c n seed out out' kept =
      element_refused c n seed out out' (anchor_ticks_judged c n seed out) kept.says kept.writes

  pub positions_refused_changes_nothing : (k schedule round : ℕ) (list list' : List ℕ) → Positioned k schedule round list (Err refusal) list' → list' ≡ list
  unfolding positions_list
  positions_refused_changes_nothing k schedule round list list' kept = kept.leaves ∙ rw (← kept.says, number_not_0 refusal) refl

  pub enrol_refused_changes_nothing : (function k : ℕ) (anchor post post' : List ℕ) → Enrolled function k anchor post (Err refusal) post' → post' ≡ post
  unfolding enrol_must_say enrol_post
  enrol_refused_changes_nothing function k anchor post post' kept =
      kept.leaves
      ∙ verdict_refused judged_enrol_says (judged_enrol_post anchor post) post (λ head e. absurd (not_refused refusal _ e)) (λ x. refl)
      (enrol_judged (unpaid function k) anchor post)
      kept.says

  pub offer_refused_changes_nothing : (post value : List ℕ) (gap : ℕ) (post' : List ℕ) → Offered post value gap (Err refusal) post' → post' ≡ post
  unfolding offer_must_say offer_post
  offer_refused_changes_nothing post value gap post' kept =
      kept.leaves
      ∙ verdict_refused (judged_offer_says post value gap) (judged_offer_post post value gap) post
      (λ head e. searched head (search_finds post value gap head) e)
      (λ x. refl)
      (offer_judged post value gap)
      kept.says
    where
      searched : (head : PostHead) (found : Option ℕ) → said_of refusal ≡ found_says found → found_post head post value found ≡ post
      searched head (Some g) e = absurd (not_refused refusal _ e)
      searched head None e = refl

-- an answer's word has 0 there, or the answer is a refusal
abbrev ZeroOrRefused : {A : Type 0} → (A → ℕ) → (Refusal → A) → A → Type 0
ZeroOrRefused worded refused answer = (number_in (worded answer) ≡ 0) ⊎ ((refusal : Refusal) × (answer ≡ refused refusal))

-- what holds where the call's own answer is a refusal holds where its word is a refusal's
through_the_word : {A : Type 0} (worded : A → ℕ) (refused : Refusal → A) → ((answer : A) → ZeroOrRefused worded refused answer)
    → (Keeps : A → Type 0) (Same : Type 0) → ((refusal : Refusal) → Keeps (refused refusal) → Same)
    → (word : ℕ) → Exported worded Keeps word → (number_in word ≡ 0 → ⊥) → Same
through_the_word worded refused kinds Keeps Same law word call not_0 = go (kinds call.answer)
  where
    go : ZeroOrRefused worded refused call.answer → Same
    go (inl zero) = absurd (not_0 (ap number_in call.is ∙ zero))
    go (inr (refusal, is)) = law refusal (rw is at call.kept)

kinds_by : {T : Type 0} (value_word : T → ℕ) → ((value : T) → number_in (value_word value) ≡ 0)
    → (answer : Result T Refusal) → ZeroOrRefused (word_by value_word) Err answer
kinds_by value_word zero (Ok value) = inl (zero value)
kinds_by value_word zero (Err refusal) = inr (refusal, refl)

done_kinds : (answer : Result (Unit {0}) Refusal) → ZeroOrRefused done_word Err answer
done_kinds = kinds_by _ (λ none. refl)

outcome_has_0 : (outcome : Outcome) → number_in (outcome_word outcome) ≡ 0
outcome_has_0 (Quiet hashes) = omega arith
outcome_has_0 (Tick position hashes) = omega arith

round_kinds : (answer : Result Outcome Refusal) → ZeroOrRefused round_word Err answer
round_kinds = kinds_by outcome_word outcome_has_0

positions_kinds : (answer : Result Listed Refusal) → ZeroOrRefused positions_word Err answer
positions_kinds = kinds_by _ (λ listed. omega arith)

enrol_kinds : (answer : Result (Unit {0}) Refusal) → ZeroOrRefused enrol_word Err answer
enrol_kinds = done_kinds

offer_kinds : (answer : Result ℕ Refusal) → ZeroOrRefused offer_word Err answer
offer_kinds = kinds_by _ (λ ticks. omega arith)

module _ (word : ℕ) (refused : number_in word ≡ 0 → ⊥) where
  -- start, rebuild, anchor, start and anchor of n ticks, and enrol
  done_refused : (Keeps : Result (Unit {0}) Refusal → Type 0) (Same : Type 0) → ((x : Refusal) → Keeps (Err x) → Same) → Exported done_word Keeps word → Same
  done_refused Keeps Same law call = through_the_word done_word Err done_kinds Keeps Same law word call refused

  pub start_word_refused_changes_nothing : (function k schedule : ℕ) (seed card card' : List ℕ)
      → Exported done_word (λ a. Started function k schedule seed card a card') word → card' ≡ card
  start_word_refused_changes_nothing function k schedule seed card card' =
      done_refused _ _ (λ x. start_refused_changes_nothing x function k schedule seed card card')

  pub rebuild_word_refused_changes_nothing : (function k schedule r : ℕ) (seed card card' : List ℕ)
      → Exported done_word (λ a. Rebuilt function k schedule r seed card a card') word → card' ≡ card
  rebuild_word_refused_changes_nothing function k schedule r seed card card' =
      done_refused _ _ (λ x. rebuild_refused_changes_nothing x function k schedule r seed card card')

  pub start_ticks_word_refused_changes_nothing : (function n schedule : ℕ) (seed card card' : List ℕ)
      → Exported done_word (λ a. StartedTicks function n schedule seed card a card') word → card' ≡ card
  start_ticks_word_refused_changes_nothing function n schedule seed card card' =
      done_refused _ _ (λ x. start_ticks_refused_changes_nothing x function n schedule seed card card')

  pub round_word_refused_changes_nothing : (card out card' out' : List ℕ)
      → Exported round_word (λ a. Rounded card out a card' out') word → (card' ≡ card) × (out' ≡ out)
  round_word_refused_changes_nothing card out card' out' call =
      through_the_word round_word Err round_kinds _ _ (λ x. round_refused_changes_nothing x card out card' out') word call refused

  pub anchor_word_refused_changes_nothing : (c : Chain) (k : ℕ) (seed out out' : List ℕ)
      → Exported done_word (λ a. Anchored c k seed out a out') word → out' ≡ out
  anchor_word_refused_changes_nothing c k seed out out' =
      done_refused _ _ (λ x. anchor_refused_changes_nothing x c k seed out out')

  pub anchor_ticks_word_refused_changes_nothing : (c : Chain) (n : ℕ) (seed out out' : List ℕ)
      → Exported done_word (λ a. AnchoredTicks c n seed out a out') word → out' ≡ out
  anchor_ticks_word_refused_changes_nothing c n seed out out' =
      done_refused _ _ (λ x. anchor_ticks_refused_changes_nothing x c n seed out out')

  pub positions_word_refused_changes_nothing : (k schedule round : ℕ) (list list' : List ℕ)
      → Exported positions_word (λ a. Positioned k schedule round list a list') word → list' ≡ list
  positions_word_refused_changes_nothing k schedule round list list' call =
      through_the_word positions_word Err positions_kinds _ _ (λ x. positions_refused_changes_nothing x k schedule round list list') word call refused

  pub enrol_word_refused_changes_nothing : (function k : ℕ) (anchor post post' : List ℕ)
      → Exported enrol_word (λ a. Enrolled function k anchor post a post') word → post' ≡ post
  enrol_word_refused_changes_nothing function k anchor post post' =
      done_refused _ _ (λ x. enrol_refused_changes_nothing x function k anchor post post')

  pub offer_word_refused_changes_nothing : (post value : List ℕ) (gap : ℕ) (post' : List ℕ)
      → Exported offer_word (λ a. Offered post value gap a post') word → post' ≡ post
  offer_word_refused_changes_nothing post value gap post' call =
      through_the_word offer_word Err offer_kinds _ _ (λ x. offer_refused_changes_nothing x post value gap post') word call refused
