-- `records::put` meets its contract: a copy to the front of the text's rest is the piece written from `at` on. Assumes nothing.
use Rattle.lists.specs.Written.{written_part}
use Rattle.records.proofs.put.Goals as goal

pub returns : goal.returns
returns c =
    written_part c.args.piece.now c.args.text.now _ c.args.at c.requires c.copy.ensures
