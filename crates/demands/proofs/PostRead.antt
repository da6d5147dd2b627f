-- What is read of a post's record, damaged or not, does not depend on the bytes behind it. Assumes nothing.
use Rattle.std.specs.Prelude.{◌≡◌, Result, ℕ, ◌+◌, ◌≤◌, ◌<◌, get_or}
use Rattle.std.proofs.Math.Path.{refl, ap}
use Rattle.std.proofs.Common.{arith, length-take}
use mathlib.Core.List.{List, ◌++◌}
use Rattle.std.proofs.Math.ListN.{length, get_or-append, length-append}
use Rattle.oneway.specs.Laws.{width_small}
use Rattle.post.specs.declared.Head.{Head}
use Rattle.post.specs.Record.{size, chain_of, width_of, marked, head_of, anchor_of, held_value, head_bytes, post_bytes}
use Rattle.demands.specs.Front.{part_front, short_same}
use Rattle.demands.proofs.Passed.{passing_same}
use Rattle.oneway.specs.Step.{step}
use Rattle.refusals.specs.declared.Refusal.{Refusal}
use Rattle.refusals.specs.Passing.{passing}
use Rattle.post.specs.Refused.{numbers, inspect_paid, inspect_of, ready, offer_judged}
use Rattle.post.specs.Promises.{limit_of, search_finds, credited}
use Rattle.post.specs.Search.{fewest}

module _ (own rest : List ℕ) (whole : size ≤ length own) where
  pub byte : (n : ℕ) → n < 8 → get_or (own ++ rest) n 0 ≡ get_or own n 0
  byte n h = get_or-append own rest 0 n (omega (arith, whole))

  pub head_same : head_of (own ++ rest) ≡ head_of own
  unfolding head_of
  head_same = rw (byte 2 (omega arith), byte 3 (omega arith), part_front own rest 4 4 (omega (arith, whole))) refl

  pub marked_same : marked (own ++ rest) ≡ marked own
  unfolding marked
  marked_same = rw (byte 0 (omega arith), byte 1 (omega arith)) refl

  pub anchor_same : (head : Head) → anchor_of head (own ++ rest) ≡ anchor_of head own
  unfolding anchor_of
  anchor_same head = part_front own rest (width_of head) 8 (omega (arith, whole, width_small (chain_of head)))

  pub held_same : (head : Head) → held_value head (own ++ rest) ≡ held_value head own
  unfolding held_value
  held_same head = part_front own rest (width_of head) (8 + width_of head) (omega (arith, whole, width_small (chain_of head)))

  pub paid_same : (head : Head) → inspect_paid (own ++ rest) head ≡ inspect_paid own head
  unfolding inspect_paid
  paid_same head = rw (held_same head, anchor_same head) refl

  pub inspected_same : inspect_of (own ++ rest) ≡ inspect_of own
  unfolding inspect_of
  inspected_same =
      rw (
        short_same own rest size whole,
        marked_same,
        head_same,
        passing_same (numbers (head_of own)) (inspect_paid (own ++ rest)) (inspect_paid own) (λ head passed. paid_same head),
      ) refl

  -- ---- what an offer reads

  module _ (value : List ℕ) (gap : ℕ) where
    pub judged_same : offer_judged (own ++ rest) value gap ≡ offer_judged own value gap
    unfolding offer_judged
    judged_same = ap (λ (seen : Result Head Refusal). passing seen (ready value gap)) inspected_same

    pub found_same : (head : Head) → search_finds (own ++ rest) value gap head ≡ search_finds own value gap head
    unfolding search_finds
    found_same head = ap (λ (held : List ℕ). fewest (step (chain_of head)) (limit_of gap head) held value) (held_same head)

    -- the record that a credit writes has a record's bytes
    pub credit_within : (head : Head) (g : ℕ) → length value ≡ width_of head → length (post_bytes (credited g head) (anchor_of head own) value) ≤ length own
    unfolding post_bytes head_bytes anchor_of
    credit_within head g wide =
        let w = width_small (chain_of head) in
        simp (length-append, length-take) (omega (arith, whole, w, wide))
