-- Lists of bytes. Assumes nothing.
use Rattle.std.specs.Prelude.{List, [], ◌∷◌, ◌++◌, ℕ, zero, suc, ◌<◌, get_or}
use Rattle.std.proofs.Common.{arith}

-- each entry is below 256
abbrev pub Bytes : List ℕ → Type 0
Bytes l = (k : ℕ) → get_or l k 0 < 256

pub bytes_none : Bytes []
bytes_none k = omega arith

pub bytes_cons : (x : ℕ) (l : List ℕ) → x < 256 → Bytes l → Bytes (x ∷ l)
bytes_cons x l h b zero = h
bytes_cons x l h b (suc k) = b k

pub bytes_append : (l m : List ℕ) → Bytes l → Bytes m → Bytes (l ++ m)
bytes_append [] m a b = b
bytes_append (x ∷ l) m a b = bytes_cons x (l ++ m) (a zero) (bytes_append l m (λ k. a (suc k)) b)
