-- A card's record with bytes behind it: what is asked of the record's own bytes, and what rounds leave. What holds is in
-- proofs/CardBehind.antt. Assumes nothing.
use mathlib.Core.List.{List, [], ◌∷◌}
use Prim.Native.Nat.{ℕ, ◌≤◌}
use Rattle.std.proofs.Math.ListN.{length}
use Rattle.card.specs.Record.{size, head_of}
use Rattle.card.specs.Promises.{round_card}
use Rattle.card.specs.Sound.{Numbered}

-- ---- definitions

-- the bytes of a record, as many as its own head says: 16 for the head itself, and its slots where function, k and schedule are such as exist
pub record Whole (own : List ℕ) : Type 0 where
  pub headed : 16 ≤ length own
  pub slotted : Numbered (head_of own) → size (head_of own) ≤ length own

-- what rounds leave, called one after another with these out buffers
unfoldable pub rounds : List ℕ → List (List ℕ) → List ℕ
rounds card [] = card
rounds card (out ∷ outs) = rounds (round_card card out) outs
