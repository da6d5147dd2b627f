-- What docs/RULES.md asks of a card of 2^k ticks, as plain statements about the definitions of Recursion, under each of the four schedules and for every k.
-- Round numbers run from 1 to 2^(k+1) - 1; c stands for the rounds left after the round, so r + c + 1 is 2^(k+1). Assumes nothing.
use Rattle.std.specs.Prelude.{◌≡◌, refl, [], ◌∷◌, map, ℕ, zero, suc, ◌+◌, ◌-◌, ◌*◌, ◌/◌, ◌^◌, ◌≤◌, ◌<◌, length, take}
use Rattle.std.proofs.Common.{sym, ap, ◌∙◌, arith}
use Rattle.std.proofs.Math.Nat.{pow-succ'}
use Rattle.pebbling.specs.Recursion.{row, sum, total, schedule, T, W, put_out, positions, work, tick, round, before, chain, slots}
use Rattle.pebbling.specs.SideBySide.{positions_ended}
use Rattle.pebbling.specs.HashesDone.{fair}
use Rattle.pebbling.specs.PutOut.{put_out_none, put_out_one, positions_first}
use Rattle.pebbling.specs.Falling.{Falling, positions_fall}
use Rattle.pebbling.specs.Turns.{tick_none}
use Rattle.pebbling.specs.ChainRound.{round_chain, before_chain, tick_chain}
use Rattle.pebbling.specs.Slots.{enough_slots}
use Rattle.pebbling.specs.Totals.{sum_total, W_work, run_total}
use Rattle.pebbling.specs.OptimalWork.{work_half}
use Rattle.pebbling.specs.Countdown.{countdown, over_rounds, put_out_all, tick_all}

-- ---- what is put out

-- the rounds before 2^k put out nothing
pub preparing_rounds_are_quiet : (k r : ℕ) → r < 2 ^ k → put_out k r 0 ≡ []
preparing_rounds_are_quiet k r h = put_out_none k r 0 h

-- each later round puts out one position, which is the number of rounds left after it
pub paying_rounds_pay : (k r c : ℕ) → 2 ^ k ≤ r → r + suc c ≡ 2 ^ suc k → put_out k r 0 ≡ c ∷ []
paying_rounds_pay k r c h e = let z : 0 + c ≡ c = omega arith in put_out_one k r c 0 e h ∙ rw z refl

-- so a whole run puts out 2^k - 1 down to 0
pub run_puts_out_all : (k : ℕ) → over_rounds (λ (r : ℕ). put_out k r 0) k ≡ countdown (2 ^ k)
run_puts_out_all = put_out_all

module _ (s : ℕ) (known : s ≤ 3) (k : ℕ) where
  -- ---- what is held

  -- the positions held fall strictly, and are below 2^k
  pub positions_fall_strictly : (r : ℕ) → Falling (2 ^ k) 0 (positions (schedule s) k r 0)
  positions_fall_strictly r = let z : 0 + 2 ^ k ≡ 2 ^ k = omega arith in rw z at (positions_fall (schedule s) (fair s known) k r 0)

  -- in a paying round the first of them is the one put out
  pub first_is_put_out : (r c : ℕ) → 2 ^ k ≤ r → r + suc c ≡ 2 ^ suc k → take 1 (positions (schedule s) k r 0) ≡ put_out k r 0
  first_is_put_out r c h e = positions_first (schedule s) (fair s known) k r c 0 e h ∙ sym (put_out_one k r c 0 e h)

  -- none is held when all rounds are run
  pub none_held_at_the_end : positions (schedule s) k (2 ^ suc k) 0 ≡ []
  none_held_at_the_end = positions_ended (schedule s) k (2 ^ suc k) 0 (omega arith)

  -- never more than k + 1 are held, under speed-1 the larger of k + 1 and 2k - 2
  pub never_more_than_slots : (r : ℕ) → r ≤ 2 ^ suc k → length (positions (schedule s) k r 0) ≤ slots s k
  never_more_than_slots r h = enough_slots s known k r 0 h

  -- ---- the chain of any f and any seed

  module _ {A : Type 0} (f : A → A) (seed : A) where
    -- a round takes the chain at the positions before it to the chain at the positions after it
    pub round_moves_the_chain : (r : ℕ) → 0 < r → r < 2 ^ suc k
        → round (schedule s) f k r (map (chain f seed) (positions (schedule s) k r 0)) ≡ map (chain f seed) (positions (schedule s) k (suc r) 0)
    round_moves_the_chain = round_chain (schedule s) (fair s known) f seed k

    -- so a card that is started and run holds the chain at its positions
    pub card_holds_the_chain : (r : ℕ) → 0 < r → r ≤ 2 ^ suc k → before (schedule s) f k seed r ≡ map (chain f seed) (positions (schedule s) k r 0)
    card_holds_the_chain = before_chain (schedule s) (fair s known) f seed k

    -- it puts out nothing in a preparing round, and x_c in a paying round
    pub card_is_quiet : (r : ℕ) → r < 2 ^ k → tick (schedule s) k r (before (schedule s) f k seed r) ≡ []
    card_is_quiet r h = tick_none (schedule s) k r (before (schedule s) f k seed r) h

    pub card_pays : (r c : ℕ) → 2 ^ k ≤ r → r + suc c ≡ 2 ^ suc k → tick (schedule s) k r (before (schedule s) f k seed r) ≡ chain f seed c ∷ []
    card_pays r c h e = tick_chain (schedule s) (fair s known) f seed k r c e h

    -- and in its whole run x_(2^k - 1) down to x_0
    pub card_pays_all : over_rounds (λ (r : ℕ). tick (schedule s) k r (before (schedule s) f k seed r)) k ≡ map (chain f seed) (countdown (2 ^ k))
    card_pays_all = tick_all (schedule s) (fair s known) f seed k

  -- ---- hashes

  -- T_k adds up to 2^k - 1, so that y_0 is there in round 2^k
  pub preparing_hashes_add_up : sum (T (schedule s) k) ≡ 2 ^ k - 1
  unfolding T
  preparing_hashes_add_up = sum_total (schedule s k) (2 ^ k - 1) ∙ fair s known k

  -- W_k is the work of the last 2^k - 1 rounds
  pub W_is_the_work : W (schedule s) k ≡ row (work (schedule s) k) (2 ^ k + 1) (2 ^ k - 1)
  W_is_the_work = W_work (schedule s) k

  -- all hashes of a run add up to k * 2^(k-1), which is 0 for k = 0
  pub run_hashes_add_up : sum (row (work (schedule s) k) 1 (2 ^ suc k - 1)) ≡ k * 2 ^ (k - 1)
  run_hashes_add_up = sum_total (work (schedule s) k) (2 ^ suc k - 1) ∙ half k (total (work (schedule s) k) (2 ^ suc k - 1)) (run_total (schedule s) (fair s known) k)
    where
      half : (k n : ℕ) → 2 * n ≡ k * 2 ^ k → n ≡ k * 2 ^ (k - 1)
      half zero n e = omega arith
      half (suc k) n e =
          let d : 2 ^ (suc k - 1) ≡ 2 ^ k = ap (λ (x : ℕ). 2 ^ x) (omega arith) in
          rw d (omega (arith, ap (λ (x : ℕ). suc k * x) (pow-succ' 2 k)))

-- under the optimal schedule no paying round does more than half of k, rounded up; of preparing rounds nothing is claimed
pub optimal_paying_rounds_are_short : (k r : ℕ) → 2 ^ k ≤ r → r < 2 ^ suc k → work (schedule 3) k r ≤ (k + 1) / 2
unfolding schedule
optimal_paying_rounds_are_short = work_half
