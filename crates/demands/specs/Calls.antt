-- A card that is begun, and then called in any order: the events, what they leave and which round comes next. What holds of them is
-- in proofs/Calls.antt. Assumes nothing.
use Rattle.std.specs.Prelude.{◌≡◌, cond, leb, take}
use mathlib.Core.List.{List, [], ◌∷◌}
use Prim.Native.Nat.{ℕ, suc, ◌+◌, ◌^◌, ◌≤◌, ◌<◌, min}
use Rattle.std.proofs.Math.ListN.{length}
use Rattle.levels.specs.Levels.{level, first_round}
use Rattle.lists.specs.Writing.{over}
use Rattle.oneway.specs.Step.{width}
use Rattle.oneway.specs.declared.Chain.{Chain}
use Rattle.card.specs.Record.{head_at, size}
use Rattle.card.specs.Promises.{start_card, rebuild_card, start_ticks_card, round_card}

-- ---- definitions

-- the call that wrote the record: a start, a rebuild for a round, or a start of so many ticks
pub data FirstCall : Type 0 where
  started : FirstCall
  rebuilt : ℕ → FirstCall
  sold : ℕ → FirstCall

-- the round that comes next after it
unfoldable pub begins_at : FirstCall → ℕ
begins_at started = 1
begins_at (rebuilt r) = r
begins_at (sold n) = first_round n

-- it is one for a card of 2^k ticks: a rebuild for a round from 1 to 2^(k+1), or a start of n ticks whose level is k
pub data OfLevel (k : ℕ) : FirstCall → Type 0 where
  start : OfLevel k started
  rebuild : {r : ℕ} → 0 < r → r ≤ 2 ^ suc k → OfLevel k (rebuilt r)
  sale : {n : ℕ} → 0 < n → n ≤ 1048576 → level n ≡ k → OfLevel k (sold n)

-- a round is called with this out buffer, which may be too short; or the record's own bytes are copied to the front of this buffer
pub data Event : Type 0 where
  called : List ℕ → Event
  copied : List ℕ → Event

-- the buffer that was lent last, as it was lent
unfoldable pub lent_last : List ℕ → List Event → List ℕ
lent_last lent [] = lent
lent_last lent (called out ∷ events) = lent_last lent events
lent_last lent (copied to ∷ events) = lent_last to events

-- the chain by a function's number
abbrev pub chain_of : ℕ → Chain
chain_of function = record { function = function }

-- what a call counts for: 1 where its out buffer has room for a value of the function, and otherwise 0
unfoldable pub counted : ℕ → List ℕ → ℕ
counted function out = cond (leb (width (chain_of function)) (length out)) 1 0

-- the calls with such an out buffer
unfoldable pub wide_calls : ℕ → List Event → ℕ
wide_calls function [] = 0
wide_calls function (called out ∷ events) = counted function out + wide_calls function events
wide_calls function (copied to ∷ events) = wide_calls function events

-- the round that comes next after the first call and the events: each such call runs one, until round 2^(k+1) comes next, which none runs
unfoldable pub next_round : ℕ → ℕ → FirstCall → List Event → ℕ
next_round function k first events = min (begins_at first + wide_calls function events) (2 ^ suc k)

module _ (function k s : ℕ) where
  -- the bytes of the card's record
  abbrev pub record_size : ℕ
  record_size = size (head_at function k s 1)

  -- what the first call leaves
  unfoldable pub first_card : List ℕ → List ℕ → FirstCall → List ℕ
  first_card seed lent started = start_card function k s seed lent
  first_card seed lent (rebuilt r) = rebuild_card function k s r seed lent
  first_card seed lent (sold n) = start_ticks_card function n s seed lent

  -- what the events leave of the record `card`
  unfoldable pub card_after : List ℕ → List Event → List ℕ
  card_after card [] = card
  card_after card (called out ∷ events) = card_after (round_card card out) events
  card_after card (copied to ∷ events) = card_after (over (take record_size card) to) events

  -- every buffer that the record is copied to is long enough for it
  pub data LongEnough : List Event → Type 0 where
    none : LongEnough []
    call : {out : List ℕ} {events : List Event} → LongEnough events → LongEnough (called out ∷ events)
    copy : {to : List ℕ} {events : List Event} → record_size ≤ length to → LongEnough events → LongEnough (copied to ∷ events)
