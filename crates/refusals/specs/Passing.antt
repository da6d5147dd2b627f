-- Tests one behind the other: what the first lets pass goes on to the next, and the first refusal stands. Assumes nothing.
use Rattle.std.specs.Prelude.{Result, Ok, Err}

-- what has passed goes on to the next tests
abbrev pub passing : {T U E : Type 0} → Result T E → (T → Result U E) → Result U E
passing (Err refusal) next = Err refusal
passing (Ok value) next = next value
