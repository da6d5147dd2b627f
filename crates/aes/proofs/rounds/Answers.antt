-- `aes::rounds` meets its contract. Before the key at index n of the nine, the state is that after n rounds. Assumes nothing.
use Rattle.std.proofs.Common.{◌≡◌, refl, ap, ◌∙◌, ℕ, ◌+◌, List, [], get_or, drop, arith, rules}
use Rattle.std.proofs.lemmas.List.{get_or-take, get_or-drop}
use Rattle.aes.specs.Aes.{columns, sub_bytes, shift_rows, mix_columns, add_round_key, rounds}
use Rattle.aes.specs.Schedule.{key_of}
use Rattle.aes.proofs.Laws.{rounds_next}
use Rattle.aes.proofs.rounds.Goals as goal

pub loop-key-init : goal.loop-key-init
unfolding rounds
loop-key-init c = (omega arith, refl)

pub loop-key-preserved : goal.loop-key-preserved
loop-key-preserved c =
    let l = c.loop-key in
    let i = l.key-index in
    let keys = c.args.keys.now in
    let p : 1 + i ≡ i + 1 = omega arith in
    let e = get_or-take 9 (drop 1 keys) i [] (omega arith) ∙ get_or-drop 1 keys i [] ∙ ap (λ (j : ℕ). get_or keys j []) p in
    let f = ap (λ (k : List ℕ). add_round_key (mix_columns (shift_rows (sub_bytes l.s))) (columns k)) e in
    (search rules, rounds_next (key_of keys) c.args.first l.s _ i l.invariant.1 (c.one_round-t.ensures ∙ f))
