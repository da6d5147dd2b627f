-- `aes::encrypt` meets its contract: its steps are the cipher's, with round keys that are those of the key expansion. Assumes nothing.
use mathlib.Core.Path.{ap, ap₂, ◌∙◌}
use mathlib.Core.List.{List}
use Prim.Native.Nat.{ℕ}
use native.Mathlib.Omega.{arith}
use Rattle.aes.specs.Aes.{bytes, sub_bytes, shift_rows, add_round_key, round_key, key_expansion, rounds, cipher}
use Rattle.aes.specs.Schedule.{key_of}
use Rattle.aes.proofs.Laws.{rounds_same}
use Rattle.aes.proofs.encrypt.Goals as goal

pub returns : goal.returns
unfolding cipher
returns c =
    let keys = c.key_expansion-keys.result in
    let k = round_key (key_expansion c.args.key) in
    let same = c.key_expansion-keys.ensures.at in
    let first = c.add_round_key-first.ensures ∙ ap₂ add_round_key c.columns.ensures (same 0 (omega arith)) in
    let nine = c.rounds-s.ensures ∙ rounds_same (key_of keys) k _ 9 (λ j l. same j (omega arith)) ∙ ap (λ (x : List (List ℕ)). rounds k x 9) first in
    let shifted = c.shift_rows.ensures ∙ ap shift_rows (c.sub_bytes.ensures ∙ ap sub_bytes nine) in
    c.bytes.ensures ∙ ap bytes (c.add_round_key-t.ensures ∙ ap₂ add_round_key shifted (same 10 (omega arith)))
