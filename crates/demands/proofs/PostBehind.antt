-- Bytes behind a post's record are neither read nor written, by an enrol or by an offer; proofs/PostOffers.antt has many offers. The record may
-- be damaged: all that is asked is that it has a record's bytes. Assumes nothing.
use Rattle.std.specs.Prelude.{◌≡◌, Option, Some, None, Result, Ok, Err, ℕ, ◌≤◌}
use Rattle.std.proofs.Math.Path.{refl, ap}
use Rattle.std.proofs.Common.{arith}
use mathlib.Core.List.{List, ◌++◌}
use Rattle.std.proofs.Math.ListN.{length, length-append}
use Rattle.lists.specs.Writing.{over_length}
use Rattle.oneway.specs.Laws.{width_small}
use Rattle.refusals.specs.declared.Refusal.{Refusal}
use Rattle.post.specs.declared.Head.{Head}
use Rattle.post.specs.Record.{size, chain_of, width_of, head_bytes, post_bytes, anchor_of}
use Rattle.post.specs.Refused.{numbers, room_for, enrol_judged, offer_judged}
use Rattle.post.specs.Promises.{unpaid, judged_enrol_says, judged_enrol_post, enrol_must_say, enrol_post, search_finds, credited, found_says, found_post, judged_offer_says, judged_offer_post, offer_must_say, offer_post}
use Rattle.post.specs.Sound.{enrollable, searchable}
use Rattle.demands.specs.Front.{short_same, over-front}
use Rattle.demands.proofs.Passed.{passing_same}
use Rattle.demands.proofs.PostRead.{anchor_same, judged_same, found_same, credit_within}

-- ---- what an offer says and leaves

module _ (own rest : List ℕ) (whole : size ≤ length own) where
  module _ (value : List ℕ) (gap : ℕ) where
    -- the offer says the same
    pub offer_says_the_same : offer_must_say (own ++ rest) value gap ≡ offer_must_say own value gap
    unfolding offer_must_say
    offer_says_the_same = rw (judged_same own rest whole value gap) (go (offer_judged own value gap))
      where
        go : (seen : Result Head Refusal) → judged_offer_says (own ++ rest) value gap seen ≡ judged_offer_says own value gap seen
        go (Err x) = refl
        go (Ok head) = ap found_says (found_same own rest whole value gap head)

    -- it leaves the record the same, and the bytes behind it as they are
    pub offer_leaves_the_same : offer_post (own ++ rest) value gap ≡ offer_post own value gap ++ rest
    unfolding offer_post
    offer_leaves_the_same = rw (judged_same own rest whole value gap) (go (offer_judged own value gap) refl)
      where
        by : (head : Head) → length value ≡ width_of head → (found : Option ℕ) → found_post head (own ++ rest) value found ≡ found_post head own value found ++ rest
        by head wide (Some g) =
            rw (anchor_same own rest whole head) (over-front own rest (post_bytes (credited g head) (anchor_of head own) value) (credit_within own rest whole value gap head g wide))
        by head wide None = refl

        go : (seen : Result Head Refusal) → offer_judged own value gap ≡ seen → judged_offer_post (own ++ rest) value gap seen ≡ judged_offer_post own value gap seen ++ rest
        go (Err x) q = refl
        go (Ok head) q = rw (found_same own rest whole value gap head) (by head (searchable own value gap head q).1.wide (search_finds own value gap head))

    -- which is as long as it was
    pub offer_keeps_the_length : length (offer_post own value gap) ≡ length own
    unfolding offer_post
    offer_keeps_the_length = go (offer_judged own value gap) refl
      where
        by : (head : Head) → length value ≡ width_of head → (found : Option ℕ) → length (found_post head own value found) ≡ length own
        by head wide (Some g) = over_length (post_bytes (credited g head) (anchor_of head own) value) own (credit_within own rest whole value gap head g wide)
        by head wide None = refl

        go : (seen : Result Head Refusal) → offer_judged own value gap ≡ seen → length (judged_offer_post own value gap seen) ≡ length own
        go (Err x) q = refl
        go (Ok head) q = by head (searchable own value gap head q).1.wide (search_finds own value gap head)

-- ---- enrol

module _ (function k : ℕ) (anchor own rest : List ℕ) (whole : size ≤ length own) where
  enrol_judged_same : enrol_judged (unpaid function k) anchor (own ++ rest) ≡ enrol_judged (unpaid function k) anchor own
  unfolding enrol_judged room_for
  enrol_judged_same =
      passing_same (numbers (unpaid function k)) (room_for anchor (own ++ rest)) (room_for anchor own)
      (λ head passed. rw (short_same own rest size whole) refl)

  pub enrol_says_the_same : enrol_must_say function k anchor (own ++ rest) ≡ enrol_must_say function k anchor own
  unfolding enrol_must_say
  enrol_says_the_same = ap judged_enrol_says enrol_judged_same

  pub enrol_leaves_the_same : enrol_post function k anchor (own ++ rest) ≡ enrol_post function k anchor own ++ rest
  unfolding enrol_post
  enrol_leaves_the_same = rw enrol_judged_same (go (enrol_judged (unpaid function k) anchor own) refl)
    where
      within : (head : Head) → length anchor ≡ width_of head → length (post_bytes head anchor anchor) ≤ length own
      within head wide = unfold post_bytes head_bytes in simp length-append (omega (arith, whole, width_small (chain_of head), wide))

      go : (seen : Result Head Refusal) → enrol_judged (unpaid function k) anchor own ≡ seen
          → judged_enrol_post anchor (own ++ rest) seen ≡ judged_enrol_post anchor own seen ++ rest
      go (Err x) q = refl
      go (Ok head) q = over-front own rest (post_bytes head anchor anchor) (within head (enrollable (unpaid function k) anchor own head q).1.anchored)
