-- A card of n ticks and its anchor: the anchor is one step from the card's first tick. It rests on what crates/rebuilds/specs/Ticks.antt says
-- of the two. Assumes nothing.
use Rattle.std.specs.Prelude.{◌≡◌}
use Rattle.std.proofs.Math.Path.{refl, sym, ap}
use Rattle.std.proofs.Common.{◌∙◌, arith}
use mathlib.Core.List.{List}
use Prim.Native.Nat.{ℕ, zero, suc, ◌≤◌}
use Rattle.std.proofs.Math.ListN.{take}
use Rattle.std.specs.Prelude.{length}
use Rattle.std.proofs.Math.Seq.{take_at}
use Rattle.lists.specs.Writing.{over}
use Rattle.oneway.specs.Step.{width, step}
use Rattle.oneway.specs.declared.Chain.{Chain}
use Rattle.pebbling.specs.Recursion.{chain}
use Rattle.records.specs.Chains.{chain_length}
use Rattle.card.specs.Promises.{round_out, anchor_ticks_out}
use Rattle.rebuilds.specs.Ticks.{Sold, sold_card, anchor_of_n_ticks, sold_round_pays}

module _ (function n s : ℕ) (seed lent : List ℕ) (is : Sold function n s seed lent) where
  abbrev c : Chain
  c = record { function = function }

  pub first_of_n_ticks_leads_to_the_anchor : (outs : ℕ → List ℕ) → ((m : ℕ) → width c ≤ length (outs m)) → (out : List ℕ) → width c ≤ length out
      → step c (take (width c) (round_out (sold_card function n s seed lent outs 0) (outs 0))) ≡ take (width c) (anchor_ticks_out c n seed out)
  unfolding chain
  first_of_n_ticks_leads_to_the_anchor outs wide out w = go n refl
    where
      go : (m : ℕ) → m ≡ n → step c (take (width c) (round_out (sold_card function n s seed lent outs 0) (outs 0))) ≡ take (width c) (anchor_ticks_out c n seed out)
      go zero e = absurd (omega (arith, is.some))
      go (suc i) e =
          ap (λ (b : List ℕ). step c (take (width c) b)) (sold_round_pays function n s seed lent is outs wide 0 i (omega arith))
          ∙ ap (step c) (take_at (chain (step c) seed i) _ (width c) (chain_length c seed is.seeded i))
          ∙ sym (ap (take (width c)) (anchor_of_n_ticks function n seed is.known is.some is.few is.seeded out w ∙ ap (λ (m : ℕ). over (chain (step c) seed m) out) (sym e))
          ∙ take_at (chain (step c) seed (suc i)) _ (width c) (chain_length c seed is.seeded (suc i)))
