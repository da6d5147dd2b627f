-- `aes::key_expansion` meets its contract. The invariant: the round keys up to number `round` are there, and `rcon` is x to the power
-- `round`, which the next one adds. Assumes nothing.
use mathlib.Core.Path.{◌≡◌, refl, ap, ◌∙◌}
use Prim.Native.Nat.{◌+◌, ◌<◌}
use native.Mathlib.Omega.{arith}
use borrow.Author.Rules.{rules}
use lib.ListN.{length-set}
use Rattle.aes.specs.Aes.{xtimes, ◌•◌, power_of}
use Rattle.aes.proofs.Expansion.{power-next, first_key, more_keys}
use Rattle.aes.proofs.key_expansion.Goals as goal

pub loop-round-init : goal.loop-round-init
unfolding xtimes ◌•◌ power_of
loop-round-init c = (search rules, refl, refl, first_key _ _)

pub loop-round-preserved : goal.loop-round-preserved
loop-round-preserved c =
    let next = c.next_round_key-next in
    let keys = c.loop-round.keys in
    let n = c.loop-round.round in
    let x = c.loop-round.rcon in
    let inv = c.loop-round.invariant in
    let h : n < 10 = omega arith in (
      search rules,
      simp length-set inv.1,
      c.xtimes-rcon.ensures ∙ ap xtimes inv.2 ∙ power-next n h,
      more_keys c.args.key keys n x next.result h (omega arith) inv.2 next.ensures inv.3,
    )

pub returns : goal.returns
returns c =
    let n = c.loop-round.round in
    let e : n + 1 ≡ 11 = omega arith in
    rw e at c.loop-round.invariant.3
