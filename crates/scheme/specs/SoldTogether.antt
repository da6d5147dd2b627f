-- A card of n ticks that pays a post. The post is enrolled with the card's own anchor, x_n, and its level k, the least with 2^k at least n,
-- and is offered what the card's rounds put out: for every known function, every n from 1 to 1,048,576, every schedule and every seed of
-- the function's width. Assumes nothing.
use Rattle.std.specs.Prelude.{◌≡◌, List, [], ◌∷◌, ℕ, suc, ◌+◌, ◌-◌, ◌^◌, ◌≤◌, ◌<◌, length, take}
use Rattle.std.proofs.Common.{arith}
use Rattle.levels.specs.Levels.{level, level_is_the_least, level_small}
use Rattle.oneway.specs.declared.Chain.{Chain}
use Rattle.oneway.specs.Step.{width, step}
use Rattle.pebbling.specs.Recursion.{chain}
use Rattle.card.specs.Promises.{round_out, anchor_ticks_out}
use Rattle.rebuilds.specs.Ticks.{Sold, sold_card, sold_round_pays, anchor_of_n_ticks}
use Rattle.post.specs.Record.{size, head_of}
use Rattle.post.specs.Promises.{enrol_must_say, offer_must_say, offer_post, settle_must_say}
use Rattle.post.specs.Ride.{Allowed, Ride, ride_enrolled, ride_credits, ride_paid, ride_spent, ride_unspent, ride_settles, ride_takes_missed, ride_counts_missed, ride_refuses_missed, after as offered}
use Rattle.scheme.specs.Together.{element_in_front}

-- the card: started with n ticks and run, its round m, from 0 on, with the out buffer `outs m`
module _ (function n s : ℕ) (seed lent : List ℕ) (sold : Sold function n s seed lent)
    (outs : ℕ → List ℕ) (wide : (m : ℕ) → width (record { function = function }) ≤ length (outs m)) where
  abbrev c : Chain
  c = record { function = function }

  abbrev x : ℕ → List ℕ
  x i = chain (step c) seed i

  -- the tick that round m puts out: the front of its out buffer
  pub sold_tick : ℕ → List ℕ
  sold_tick m = take (width c) (round_out (sold_card function n s seed lent outs m) (outs m))

  -- it is the chain's element of the tick's number
  pub sold_tick_is : (m i : ℕ) → m + suc i ≡ n → sold_tick m ≡ x i
  unfolding sold_tick
  sold_tick_is m i e = element_in_front c seed sold.seeded i _ _ (sold_round_pays function n s seed lent sold outs wide m i e)

  -- the anchor that the card's maker writes to the front of `buffer`
  module _ (buffer : List ℕ) (room : width c ≤ length buffer) where
    pub sold_anchor : List ℕ
    sold_anchor = take (width c) (anchor_ticks_out c n seed buffer)

    pub sold_anchor_is : sold_anchor ≡ x n
    unfolding sold_anchor
    sold_anchor_is =
        element_in_front c seed sold.seeded n _ _ (anchor_of_n_ticks function n seed sold.known sold.some sold.few sold.seeded buffer room)

    -- the post: enrolled with that anchor and the card's level, and then offered the ticks in order, each with a gap limit of its own
    module _ (post : List ℕ) (long : size ≤ length post) (gaps : ℕ → ℕ) (allowed : (m : ℕ) → Allowed (gaps m)) where
      abbrev pub sold_paid : ℕ → List ℕ
      sold_paid = offered function (level n) sold_anchor sold_tick gaps post

      ride : Ride c (level n) n seed sold_anchor sold_tick gaps post
      ride =
          record {
            known = sold.known;
            small = level_small n sold.few;
            counted = (level_is_the_least n sold.few).enough;
            seeded = sold.seeded;
            anchored = sold_anchor_is;
            ticked = sold_tick_is;
            allowed = allowed;
            long = long;
          }

      -- the post takes the anchor
      pub sold_anchor_enrols : enrol_must_say function (level n) sold_anchor post ≡ 0 ∷ []
      sold_anchor_enrols = ride_enrolled ride

      -- every tick in order is credited exactly 1
      pub every_sold_tick_is_credited : (m : ℕ) → m < n → offer_must_say (sold_paid m) (sold_tick m) (gaps m) ≡ 0 ∷ 1 ∷ []
      every_sold_tick_is_credited m h = ride_credits ride m h

      -- in the end n are paid
      pub all_sold_is_paid : (head_of (sold_paid n)).paid ≡ n
      all_sold_is_paid = ride_paid ride

      -- and settle says yes for the last tick
      pub then_settle_says_yes_to_n : settle_must_say function (level n) sold_anchor (sold_tick (n - 1)) n ≡ 0 ∷ 1 ∷ []
      then_settle_says_yes_to_n = ride_settles ride sold.some

      -- where n is less than 2^k, the post never says 6, whatever is offered and with whatever gap limit: not after the last tick, and not
      -- before it
      pub fewer_never_say_6 : n < 2 ^ level n → (m : ℕ) → m ≤ n → (value : List ℕ) (gap : ℕ) → offer_must_say (sold_paid m) value gap ≡ 6 ∷ [] → ⊥
      fewer_never_say_6 less m h value gap = ride_unspent ride m h (omega arith) value gap

      -- where n is 2^k, it says 6 after the last tick
      pub full_card_says_6_then : n ≡ 2 ^ level n → (value : List ℕ) (gap : ℕ) → Allowed gap → offer_must_say (sold_paid n) value gap ≡ 6 ∷ []
      full_card_says_6_then full value gap a = ride_spent ride full value gap a

      -- with d - 1 ticks missed after m offered ones, d at most G, the next tick is taken, and the credit is at most d
      pub missed_sold_tick_is_taken : (m d gap : ℕ) → 0 < d → m + d ≤ n → d ≤ gap → Allowed gap
          → (credit : ℕ) × (offer_must_say (sold_paid m) (sold_tick (m + d - 1)) gap ≡ 0 ∷ credit ∷ []) × (credit ≤ d)
      missed_sold_tick_is_taken m d gap p h l a = ride_takes_missed ride m d gap p h l a

      -- and exactly d where no fewer steps from it reach the value held
      pub missed_sold_tick_counts_all : (m d gap : ℕ) → 0 < d → m + d ≤ n → d ≤ gap → Allowed gap
          → ((j : ℕ) → 0 < j → j < d → chain (step c) (sold_tick (m + d - 1)) j ≡ x (n - m) → ⊥)
          → offer_must_say (sold_paid m) (sold_tick (m + d - 1)) gap ≡ 0 ∷ d ∷ []
      missed_sold_tick_counts_all m d gap p h l a none = ride_counts_missed ride m d gap p h l a none

      -- with one tick missed and G = 1 it says 9 and changes nothing, unless one step happens to reach the value held
      pub one_missed_sold_is_refused : (m : ℕ) → m + 2 ≤ n → (step c (sold_tick (m + 1)) ≡ x (n - m) → ⊥)
          → (offer_must_say (sold_paid m) (sold_tick (m + 1)) 1 ≡ 9 ∷ []) × (offer_post (sold_paid m) (sold_tick (m + 1)) 1 ≡ sold_paid m)
      one_missed_sold_is_refused m h none = ride_refuses_missed ride m h none
