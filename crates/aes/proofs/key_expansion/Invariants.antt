-- `aes::key_expansion` meets its contract. The invariant: the round keys up to number `round` are there, and `rcon` is x to the power
-- `round`, which the next one adds. Assumes nothing.
use mathlib.Core.Path.{◌≡◌}
use mathlib.Core.List.{[]}
use Prim.Native.Nat.{◌+◌, ◌-◌, ◌≤◌}
use lib.ListN.{length, get_or}
use Rattle.aes.specs.Aes.{power_of}
use Rattle.aes.specs.Schedule.{RoundKeys}
use Rattle.aes.proofs.key_expansion.Given as goal

abbrev pub invariant-loop-round : goal.invariant-loop-round
invariant-loop-round l =
    (l.round ≤ 10) × (length l.keys ≡ 11) × (l.rcon ≡ power_of 4 2 l.round) × RoundKeys (l.round + 1) (get_or l.initial.keys 0 []) l.keys

abbrev pub decreases-loop-round : goal.decreases-loop-round
decreases-loop-round l = 10 - l.round
