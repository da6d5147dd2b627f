-- A round of the card that is listed: the position list answers the recursion's positions, and the card's round says the recursion's
-- hashes and what it puts out, so that the line written is the recursion's. Assumes nothing.
use mathlib.Core.Path.{◌≡◌, refl, sym, ap, ◌∙◌}
use mathlib.Core.List.{List, [], ◌∷◌}
use Prim.Native.Nat.{ℕ, suc, ◌+◌, ◌^◌, ◌≤◌}
use native.Mathlib.Omega.{arith}
use borrow.Author.Tests.{ne_eqb, le-ltb}
use lib.ListN.{length, take, drop, replicate}
use lib.Seq.{take-append_seam}
use Rattle.card.specs.Promises.{answer_says, Started, start_must_say, Rounded, tick_or_quiet, round_must_say, round_card}
use Rattle.card.specs.Record.{slots_size, size}
use Rattle.card.specs.Run.{Given, start_passes, start_leaves, round_passes, round_leaves}
use Rattle.std.specs.Prelude.{Err, Ok, Result, IsOk}
use Rattle.card.specs.declared.Outcome.{Outcome}
use Rattle.pebbling.specs.declared.Listed.{Listed}
use Rattle.lists.specs.Writing.{over, over_length}
use Rattle.oneway.specs.Step.{known, width}
use Rattle.pebbling.specs.PositionList.{positions_answer_says, positions_must_say, positions_list, Positioned}
use Rattle.pebbling.specs.Recursion.{schedule, positions, work, put_out}
use Rattle.refusals.specs.declared.Refusal.{Refusal}
use Rattle.refusals.specs.Numbers.{not_refused}
use Rattle.listing.specs.declared.text.Page.{Page}
use Rattle.listing.specs.Listing.{round_line}
use Rattle.listing.specs.Steps.{Put, answer_line, answer_hashes, Round, card_before}
use Rattle.listing.proofs.AnswerLaws.{line_told}
use Rattle.listing.proofs.SizeLaws.{slots_few, held_few}

-- ---- the card

abbrev seed : List ℕ
seed = replicate 16 0

abbrev lent : List ℕ
lent = replicate 304 0

abbrev out : List ℕ
out = replicate 16 0

given : (s k : ℕ) → s ≤ 3 → k ≤ 10 → Given 0 k s seed lent
unfolding known width size slots_size
given s k a b =
    record {
      known = refl;
      small = omega arith;
      scheduled = a;
      seeded = refl;
      long = omega (arith, slots_few s k b);
    }

wide : width (record { function = 0 }) ≤ length out
unfolding width
wide = omega arith

-- start refuses nothing
pub is_started : (s k : ℕ) → s ≤ 3 → k ≤ 10 → (a : Result (Unit {0}) Refusal) (card : List ℕ) → Started 0 k s seed lent a card → IsOk a
unfolding start_must_say
is_started s k p q a card st = go a (st.says ∙ rw (start_passes 0 k s seed lent (given s k p q)) refl)
  where
    go : (b : Result (Unit {0}) Refusal) → answer_says b ≡ 0 ∷ [] → IsOk b
    go (Err x) h = absurd (not_refused x [] h)
    go (Ok u) h = refl

pub card_started : (s k : ℕ) → s ≤ 3 → k ≤ 10 → (a : Result (Unit {0}) Refusal) (card : List ℕ) → Started 0 k s seed lent a card → card ≡ card_before s k 1
card_started s k p q a card st = st.leaves ∙ start_leaves 0 k s seed lent (given s k p q)

module _ (s k r : ℕ) (ok : Round s k r) where
  g : Given 0 k s seed lent
  g = given s k ok.scheduled ok.small

  round_said : round_must_say (card_before s k r) out ≡ tick_or_quiet (put_out k r 0) (work (schedule s) k r)
  unfolding round_must_say
  round_said = rw (round_passes 0 k s seed lent g r out ok.from ok.upto wide) refl

  round_left : round_card (card_before s k r) out ≡ card_before s k (suc r)
  round_left = round_leaves 0 k s seed lent g r out ok.from ok.upto wide

  -- ---- the position list

  abbrev ps : List ℕ
  ps = positions (schedule s) k r 0

  abbrev zeros : List ℕ
  zeros = replicate 18 0

  says : positions_must_say k s r zeros ≡ 0 ∷ length ps ∷ work (schedule s) k r ∷ []
  unfolding positions_must_say
  says =
      rw (
        le-ltb 20 k (omega (arith, ok.small)),
        le-ltb 3 s ok.scheduled,
        ne_eqb r 0 (λ e. omega (arith, ok.from)),
        le-ltb (2 ^ suc k) r (omega (arith, ok.upto)),
        le-ltb 18 (length ps) (held_few s k r ok),
      ) refl

  module _ (answer : Result Listed Refusal) (list : List ℕ) (p : Positioned k s r zeros answer list) where
    -- it refuses nothing
    pub is_listed : IsOk answer
    is_listed = go answer (p.says ∙ says)
      where
        go : (a : Result Listed Refusal) → positions_answer_says a ≡ 0 ∷ length ps ∷ work (schedule s) k r ∷ [] → IsOk a
        go (Err x) h = let z : ◌≡◌ {A = ℕ} 0 1 = cc in absurd (omega arith)
        go (Ok l) h = refl

    module _ (l : Listed) (e : answer ≡ Ok l) where
      pub count-is : l.count ≡ length ps
      count-is =
          let h : 0 ∷ l.count ∷ l.hashes ∷ [] ≡ 0 ∷ length ps ∷ work (schedule s) k r ∷ [] = sym (ap positions_answer_says e) ∙ p.says ∙ says in
          cc

      pub count_fits : l.count ≤ length list
      unfolding positions_list
      count_fits =
          let l : list ≡ over ps zeros = p.leaves ∙ rw says refl in
          omega (arith, count-is, held_few s k r ok, ap length l, over_length ps zeros (held_few s k r ok))

      pub list_is : take l.count list ≡ ps
      unfolding positions_list
      list_is = rw (count-is, p.leaves, says) (take-append_seam ps (drop (length ps) zeros))

      -- ---- the round

      module _ (a : Result Outcome Refusal) (card card' out' : List ℕ) (before : card ≡ card_before s k r) (t : Rounded card out a card' out') where
        pub line-is : (answer_line r (take l.count list) a ≡ round_line s k r) × (answer_hashes a ≡ work (schedule s) k r)
        unfolding round_line
        line-is = rw list_is (line_told r ps a (put_out k r 0) (work (schedule s) k r) (t.says ∙ ap (λ (b : List ℕ). round_must_say b out) before ∙ round_said))

        pub answer_fits : (page : Page) → page.at + length (round_line s k r) ≤ length page.text.now
            → (length (take l.count list) ≤ 18) × (page.at + length (answer_line r (take l.count list) a) ≤ length page.text.now)
        answer_fits page room = (rw list_is (held_few s k r ok), rw line-is.0 room)

        pub line_says : (page page' : Page) → Put (answer_line r (take l.count list) a) page page' → Put (round_line s k r) page page'
        line_says page page' w = rw (← line-is.0) w

        pub card_moves : card' ≡ card_before s k (suc r)
        card_moves = t.leaves ∙ ap (λ (b : List ℕ). round_card b out) before ∙ round_left
