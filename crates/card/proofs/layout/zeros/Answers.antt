-- `card::layout::zeros` meets its contract. Assumes nothing.
use Rattle.std.proofs.Common.{◌≡◌, bit_or, rules, tests}
use Rattle.std.specs.List.{fold}
use Rattle.std.proofs.lemmas.Iterator.{YieldsList-from_slice}
use Rattle.std.proofs.lemmas.Iterator.Consumers.{fold_from_yields_List}
use Rattle.card.proofs.ReadLaws.{all_seen}
use Rattle.card.proofs.layout.zeros.Goals as goal

pub returns : goal.returns
returns c =
    let e : c.fold.result ≡ fold bit_or 0 c.args.bytes.now =
    fold_from_yields_List _ bit_or 0 _ c.fold.ensures.ran (YieldsList-from_slice c.args.bytes.now cc) (λ a x b q k. search (rules, tests)) in
    rw e (all_seen 0 c.args.bytes.now)
