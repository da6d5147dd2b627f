-- `aes::rounds` meets its contract. Before the key at index n of the nine, the state is that after n rounds. Assumes nothing.
use mathlib.Core.Path.{◌≡◌}
use Prim.Native.Nat.{◌≤◌}
use Rattle.aes.specs.Aes.{rounds}
use Rattle.aes.specs.Schedule.{key_of}
use Rattle.aes.proofs.rounds.Given as goal

abbrev pub invariant-loop-key : goal.invariant-loop-key
invariant-loop-key l = (l.key-index ≤ 9) × (l.s ≡ rounds (key_of l.fn.keys) l.fn.first l.key-index)
