-- The numbers of every answer fit in their 24 bits of the word: positions and hashes are below 2^20, since k is at most 20, and so are
-- a credit and the number of positions. Assumes nothing.
use Rattle.std.specs.Prelude.{◌≡◌, refl, Bool, true, false, cond, ◌⊎◌, Result, Ok, Err, List, [], ◌∷◌, ℕ, suc, ◌+◌, ◌-◌, ◌*◌, ◌^◌, ◌≤◌, ◌<◌, max, eqb, ltb, length}
use Rattle.std.proofs.Common.{sym, ◌∙◌, inl, inr, arith, ltb-false, pow_mono}
use Rattle.std.proofs.lemmas.Bool.{eqb-false}
use Rattle.pebbling.specs.Demands.{preparing_rounds_are_quiet, paying_rounds_pay, never_more_than_slots}
use Rattle.pebbling.specs.HashesDone.{fair}
use Rattle.pebbling.specs.Len.{lt_or_le}
use Rattle.pebbling.specs.PositionList.{positions_must_say, Positioned}
use Rattle.pebbling.specs.Recursion.{schedule, positions, put_out, work, slots}
use Rattle.pebbling.specs.Totals.{work_lt}
use Rattle.refusals.specs.declared.Refusal.{Refusal}
use Rattle.card.specs.declared.Outcome.{Outcome}
use Rattle.card.specs.declared.Outcome.TheVariants.{Quiet, Tick}
use Rattle.pebbling.specs.declared.Listed.{Listed}
use Rattle.card.specs.declared.Head.{Head}
use Rattle.card.specs.Promises.{tick_or_quiet, round_answer_says, judged_round_says, round_must_say, Rounded}
use Rattle.card.specs.Refused.{round_judged}
use Rattle.card.specs.Sound.{runs}
use Rattle.post.specs.Demands.{credit_reached, credit_is_fewest}
use Rattle.post.specs.Promises.{Offered}
use Rattle.post.specs.Record.{head_of}
use Rattle.post.specs.Sound.{searchable}

-- ---- which numbers of an answer the word has

pub record Fits (first second : ℕ) : Type 0 where
  pub first_fits : first < 2 ^ 24
  pub second_fits : second < 2 ^ 24

abbrev pub RoundFits : Result Outcome Refusal → Type 0
RoundFits (Ok (Quiet hashes)) = Fits 0 hashes
RoundFits (Ok (Tick position hashes)) = Fits position hashes
RoundFits (Err refusal) = Fits 0 0

abbrev pub PositionsFit : Result Listed Refusal → Type 0
PositionsFit (Ok listed) = Fits listed.count listed.hashes
PositionsFit (Err refusal) = Fits 0 0

abbrev pub OfferFits : Result ℕ Refusal → Type 0
OfferFits (Ok ticks) = Fits ticks 0
OfferFits (Err refusal) = Fits 0 0

nothing_fits : Fits 0 0
nothing_fits = record { first_fits = omega arith; second_fits = omega arith }

hashes_fit : (s k r : ℕ) → s ≤ 3 → k ≤ 20 → 0 < r → work (schedule s) k r < 2 ^ 24
hashes_fit s k r a b p = omega (arith, work_lt (schedule s) (fair s a) k r p, pow_mono {i = k} {j = 20} b)

-- ---- a round

put_out_fits : (k r p : ℕ) (rest : List ℕ) → k ≤ 20 → r < 2 ^ suc k → put_out k r 0 ≡ p ∷ rest → p < 2 ^ 24
put_out_fits k r p rest small upto e = go (lt_or_le r (2 ^ k))
  where
    go : (r < 2 ^ k) ⊎ (2 ^ k ≤ r) → p < 2 ^ 24
    go (inl h) = let z : [] ≡ p ∷ rest = sym (preparing_rounds_are_quiet k r h) ∙ e in let y : ◌≡◌ {A = ℕ} 0 1 = cc in absurd (omega arith)
    go (inr h) =
        let c = 2 ^ suc k - suc r in
        let one : c ∷ [] ≡ p ∷ rest = sym (paying_rounds_pay k r c h (omega arith)) ∙ e in
        let same : c ≡ p = cc in
        omega (arith, same, pow_mono {i = suc k} {j = 21} (omega arith))

ran_fits : (k r hashes : ℕ) (out : List ℕ) (a : Result Outcome Refusal) → k ≤ 20 → r < 2 ^ suc k → hashes < 2 ^ 24 → put_out k r 0 ≡ out
    → round_answer_says a ≡ tick_or_quiet out hashes → RoundFits a
ran_fits k r hashes [] (Ok (Quiet h)) small upto f q e = let same : h ≡ hashes = cc in record { first_fits = omega arith; second_fits = omega (arith, same, f) }
ran_fits k r hashes (p ∷ ps) (Ok (Quiet h)) small upto f q e = let z : ◌≡◌ {A = ℕ} 0 1 = cc in absurd (omega arith)
ran_fits k r hashes [] (Ok (Tick n h)) small upto f q e = let z : ◌≡◌ {A = ℕ} 0 1 = cc in absurd (omega arith)
ran_fits k r hashes (p ∷ ps) (Ok (Tick n h)) small upto f q e =
    let here : n ≡ p = cc in
    let same : h ≡ hashes = cc in
    record { first_fits = omega (arith, here, put_out_fits k r p ps small upto q); second_fits = omega (arith, same, f) }
ran_fits k r hashes out (Err x) small upto f q e = nothing_fits

turned_down_fits : (n : ℕ) (a : Result Outcome Refusal) → round_answer_says a ≡ n ∷ [] → RoundFits a
turned_down_fits n (Ok (Quiet h)) e = let z : ◌≡◌ {A = ℕ} 0 1 = cc in absurd (omega arith)
turned_down_fits n (Ok (Tick p h)) e = let z : ◌≡◌ {A = ℕ} 0 1 = cc in absurd (omega arith)
turned_down_fits n (Err x) e = nothing_fits

pub round-fits : (card out : List ℕ) (a : Result Outcome Refusal) (card' out' : List ℕ) → Rounded card out a card' out' → RoundFits a
unfolding round_must_say
round-fits card out a card' out' kept = go (round_judged card out) refl kept.says
  where
    go : (seen : Result Head Refusal) → round_judged card out ≡ seen → round_answer_says a ≡ judged_round_says seen → RoundFits a
    go (Err x) q e = turned_down_fits _ a e
    go (Ok h) q e =
        let ok = runs card out h q in
        let n = ok.0.numbered in
        ran_fits h.k h.round.0 _ _ a n.small ok.1 (hashes_fit h.schedule h.k h.round.0 n.schedule n.small ok.0.from) refl e

-- ---- a position list

slots_few : (s k : ℕ) → k ≤ 20 → slots s k < 2 ^ 24
unfolding slots
slots_few s k h = go (eqb s 1)
  where
    go : (b : Bool) → cond b (max (k + 1) (2 * k - 2)) (k + 1) < 2 ^ 24
    go true = omega arith
    go false = omega arith

-- an answer with numbers is not a test that refused
not_said : (b : Bool) (n count hashes : ℕ) (rest : List ℕ) → 0 ∷ count ∷ hashes ∷ [] ≡ cond b (n ∷ []) rest → (b ≡ false) × (0 ∷ count ∷ hashes ∷ [] ≡ rest)
not_said true n count hashes rest e = let z : ◌≡◌ {A = ℕ} 0 1 = cc in absurd (omega arith)
not_said false n count hashes rest e = (refl, e)

listed_fits : (k s r : ℕ) (list : List ℕ) (count hashes : ℕ) → 0 ∷ count ∷ hashes ∷ [] ≡ positions_must_say k s r list → Fits count hashes
unfolding positions_must_say
listed_fits k s r list count hashes e =
    let a = not_said (ltb 20 k) 2 count hashes _ e in
    let b = not_said (ltb 3 s) 3 count hashes _ a.1 in
    let c = not_said (eqb r 0) 5 count hashes _ b.1 in
    let d = not_said (ltb (2 ^ suc k) r) 5 count hashes _ c.1 in
    let f = (not_said (ltb (length list) (length (positions (schedule s) k r 0))) 4 count hashes _ d.1).1 in
    let small : k ≤ 20 = ltb-false 20 k a.0 in
    let known : s ≤ 3 = ltb-false 3 s b.0 in
    let nonzero : r ≡ 0 → ⊥ = eqb-false r 0 c.0 in
    let many : count ≡ length (positions (schedule s) k r 0) = cc in
    let work_is : hashes ≡ work (schedule s) k r = cc in
    record {
      first_fits = omega (arith, many, never_more_than_slots s known k r (ltb-false (2 ^ suc k) r d.0), slots_few s k small);
      second_fits = omega (arith, work_is, hashes_fit s k r known small (omega (arith, nonzero)));
    }

pub positions_fit : (k s r : ℕ) (list : List ℕ) (a : Result Listed Refusal) (list' : List ℕ) → Positioned k s r list a list' → PositionsFit a
positions_fit k s r list (Ok listed) list' kept = listed_fits k s r list listed.count listed.hashes kept.says
positions_fit k s r list (Err x) list' kept = nothing_fits

-- ---- an offer

pub offer_fits : (post value : List ℕ) (gap : ℕ) (a : Result ℕ Refusal) (post' : List ℕ) → Offered post value gap a post' → OfferFits a
offer_fits post value gap (Ok g) post' kept =
    let reached = credit_reached post value gap g (sym kept.says) in
    let credit = credit_is_fewest post value gap (head_of post) reached g (sym kept.says) in
    let small : (head_of post).k ≤ 20 = (searchable post value gap (head_of post) reached).1.sound.numbered.small in
    record { first_fits = omega (arith, credit.within_unpaid, pow_mono {i = (head_of post).k} {j = 20} small); second_fits = omega arith }
offer_fits post value gap (Err x) post' kept = nothing_fits
