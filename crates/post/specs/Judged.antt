-- What a test of the code answers, seen as the definitions of Refused see it: by the head alone. Assumes nothing.
use Rattle.std.specs.Prelude.{Err, Ok, Result}
use Rattle.refusals.specs.declared.Refusal.{Refusal}
use Rattle.post.specs.declared.Head.{Head}
use Rattle.post.specs.declared.checked.Checked.{Checked}

abbrev pub judged : Result Checked Refusal → Result Head Refusal
judged (Ok checked) = Ok checked.head
judged (Err refusal) = Err refusal
