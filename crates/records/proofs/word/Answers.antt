-- `records::word` meets its contract: the bytes as an array are those that were lent. Assumes nothing.
use native.Mathlib.Omega.{arith}
use mathlib.Core.Path.{◌≡◌}
use Rattle.records.proofs.Laws.{word_number}
use Rattle.records.proofs.word.Goals as goal

pub returns : goal.returns
returns c =
    let m = rw c.unwrap.ensures at c.as_array.ensures.cases in
    let e : c.unwrap.result.now ≡ c.args.bytes.now = m.same in
    let n = word_number c.args.bytes.now c.requires in
    let k = rw (← e) at n in
    omega (arith, k)
