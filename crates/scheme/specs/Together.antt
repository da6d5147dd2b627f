-- A card that pays a post. The post is enrolled with the card's own anchor and offered what the card's rounds put out, for every known function,
-- every k up to 20, every schedule and every seed of the function's width. Assumes nothing.
use Rattle.std.specs.Prelude.{◌≡◌, refl, List, [], ◌∷◌, ℕ, suc, ◌+◌, ◌-◌, ◌^◌, ◌≤◌, ◌<◌, length, take}
use Rattle.std.proofs.Math.Path.{ap}
use Rattle.std.proofs.Common.{◌∙◌, arith, pow_pos}
use Rattle.lists.specs.Writing.{over}
use Rattle.std.proofs.Math.Nat.{pow-succ'}
use Rattle.std.proofs.Math.Seq.{take_at}
use Rattle.records.specs.Chains.{chain_length}
use Rattle.oneway.specs.declared.Chain.{Chain}
use Rattle.oneway.specs.Step.{width, step}
use Rattle.pebbling.specs.Recursion.{chain}
use Rattle.card.specs.Promises.{round_out, anchor_out}
use Rattle.card.specs.Run.{Given, after}
use Rattle.card.specs.Demands.{paying_round_pays, anchor_is_the_last}
use Rattle.post.specs.Record.{size, head_of}
use Rattle.post.specs.Promises.{enrol_must_say, offer_must_say, offer_post, settle_must_say}
use Rattle.post.specs.Ride.{Allowed, Ride, ride_enrolled, ride_credits, ride_paid, ride_spent, ride_settles, ride_takes_missed, ride_counts_missed, ride_refuses_missed, after as offered}

-- an element of the chain that stands at the front of a buffer is read back from there
pub element_in_front : (c : Chain) (seed : List ℕ) → length seed ≡ width c → (n : ℕ) (buffer out : List ℕ)
    → buffer ≡ over (chain (step c) seed n) out → take (width c) buffer ≡ chain (step c) seed n
element_in_front c seed seeded n buffer out e =
    ap (take (width c)) e ∙ take_at (chain (step c) seed n) _ (width c) (chain_length c seed seeded n)

-- the card: started with the seed and run, round r with the out buffer `outs r`
module _ (function k s : ℕ) (seed lent : List ℕ) (given : Given function k s seed lent)
    (outs : ℕ → List ℕ) (wide : (r : ℕ) → width (record { function = function }) ≤ length (outs r)) where
  abbrev c : Chain
  c = record { function = function }

  abbrev x : ℕ → List ℕ
  x n = chain (step c) seed n

  -- the tick that paying round 2^k + m puts out: the front of its out buffer
  pub tick : ℕ → List ℕ
  tick m = take (width c) (round_out (after function k s seed lent outs (2 ^ k + m - 1)) (outs (2 ^ k + m)))

  -- it is the chain's element of the tick's number
  pub tick_is : (m n : ℕ) → m + suc n ≡ 2 ^ k → tick m ≡ x n
  unfolding tick
  tick_is m n e =
      let r = 2 ^ k + m in
      let two = pow-succ' 2 k in
      element_in_front c seed given.seeded n _ _ (paying_round_pays function k s seed lent given outs wide r n (omega arith) (omega arith))

  -- the anchor that the card's maker writes to the front of `buffer`
  module _ (buffer : List ℕ) (room : width c ≤ length buffer) where
    pub anchor : List ℕ
    anchor = take (width c) (anchor_out c k seed buffer)

    pub anchor_is : anchor ≡ x (2 ^ k)
    unfolding anchor
    anchor_is = element_in_front c seed given.seeded (2 ^ k) _ _ (anchor_is_the_last function k s seed lent given buffer room)

    -- the post: enrolled with that anchor, and then offered the ticks in order, each with a gap limit of its own
    module _ (post : List ℕ) (long : size ≤ length post) (gaps : ℕ → ℕ) (allowed : (m : ℕ) → Allowed (gaps m)) where
      abbrev pub paid : ℕ → List ℕ
      paid = offered function k anchor tick gaps post

      ride : Ride c k (2 ^ k) seed anchor tick gaps post
      ride =
          record {
            known = given.known;
            small = given.small;
            counted = omega arith;
            seeded = given.seeded;
            anchored = anchor_is;
            ticked = tick_is;
            allowed = allowed;
            long = long;
          }

      -- the post takes the anchor
      pub post_enrols : enrol_must_say function k anchor post ≡ 0 ∷ []
      post_enrols = ride_enrolled ride

      -- every tick in order is credited exactly 1
      pub every_tick_is_credited : (m : ℕ) → m < 2 ^ k → offer_must_say (paid m) (tick m) (gaps m) ≡ 0 ∷ 1 ∷ []
      every_tick_is_credited m h = ride_credits ride m h

      -- in the end 2^k are paid
      pub all_is_paid : (head_of (paid (2 ^ k))).paid ≡ 2 ^ k
      all_is_paid = ride_paid ride

      -- whatever is offered then, the post says 6
      pub then_it_is_spent : (value : List ℕ) (gap : ℕ) → Allowed gap → offer_must_say (paid (2 ^ k)) value gap ≡ 6 ∷ []
      then_it_is_spent value gap a = ride_spent ride refl value gap a

      -- and settle says yes for the last tick
      pub then_settle_says_yes : settle_must_say function k anchor (tick (2 ^ k - 1)) (2 ^ k) ≡ 0 ∷ 1 ∷ []
      then_settle_says_yes = ride_settles ride (pow_pos k)

      -- with d - 1 ticks missed after m offered ones, d at most G, the next tick is taken, and the credit is at most d
      pub missed_tick_is_taken : (m d gap : ℕ) → 0 < d → m + d ≤ 2 ^ k → d ≤ gap → Allowed gap
          → (credit : ℕ) × (offer_must_say (paid m) (tick (m + d - 1)) gap ≡ 0 ∷ credit ∷ []) × (credit ≤ d)
      missed_tick_is_taken m d gap p h l a = ride_takes_missed ride m d gap p h l a

      -- and exactly d where no fewer steps from it reach the value held
      pub missed_tick_counts_all : (m d gap : ℕ) → 0 < d → m + d ≤ 2 ^ k → d ≤ gap → Allowed gap
          → ((j : ℕ) → 0 < j → j < d → chain (step c) (tick (m + d - 1)) j ≡ x (2 ^ k - m) → ⊥)
          → offer_must_say (paid m) (tick (m + d - 1)) gap ≡ 0 ∷ d ∷ []
      missed_tick_counts_all m d gap p h l a none = ride_counts_missed ride m d gap p h l a none

      -- with one tick missed and G = 1 it says 9 and changes nothing, unless one step happens to reach the value held
      pub one_missed_is_refused : (m : ℕ) → m + 2 ≤ 2 ^ k → (step c (tick (m + 1)) ≡ x (2 ^ k - m) → ⊥)
          → (offer_must_say (paid m) (tick (m + 1)) 1 ≡ 9 ∷ []) × (offer_post (paid m) (tick (m + 1)) 1 ≡ paid m)
      one_missed_is_refused m h none = ride_refuses_missed ride m h none
