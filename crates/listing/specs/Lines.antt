-- Numbers in decimal, the lines that can be read, and how much of the input decides. Assumes nothing.
use Rattle.std.specs.Prelude.{◌≡◌, refl, Bool, true, false, ◌&&◌, ◌||◌, List, [], ◌∷◌, ◌++◌, ◌⊎◌, ℕ, zero, suc, ◌/◌, ◌%◌, ◌^◌, ◌≤◌, ◌<◌, eqb, leb, length, take, drop}
use Rattle.std.proofs.Common.{sym, ap, ◌∙◌, inl, inr, arith, lt-ltb, le-ltb, le-leb, eqb-true, ne_eqb, length-append, take-append-drop}
use Rattle.std.proofs.Math.Bool.{or-true}
use Rattle.std.proofs.lemmas.Bool.{lt-leb}
use Rattle.std.proofs.lemmas.List.{take-append-le}
use Rattle.pebbling.specs.Len.{lt_or_le}
use Rattle.printing.specs.Names.{bytes, name_of}
use Rattle.listing.specs.Text.{digit, decimal_in, decimal}
use Rattle.listing.specs.Listing.{line_feed, space, line_for, reads, ended, decides, listed_by, listed}

-- ---- the rule

small_in : (f n : ℕ) → n < 10 → decimal_in f n ≡ digit n ∷ []
unfolding decimal_in
small_in zero n h = let e : n % 10 ≡ n = omega arith in rw e refl
small_in (suc f) n h = rw (lt-ltb n 10 h) refl

-- with room for all digits, how much room does not matter
same_in : (f g n : ℕ) → n ≤ f → n ≤ g → decimal_in f n ≡ decimal_in g n
unfolding decimal_in
same_in zero g n a b = small_in 0 n (omega arith) ∙ sym (small_in g n (omega arith))
same_in (suc f) zero n a b = small_in (suc f) n (omega arith) ∙ sym (small_in 0 n (omega arith))
same_in (suc f) (suc g) n a b = go (λ p q. same_in f g (n / 10) p q) (lt_or_le n 10)
  where
    go : (n / 10 ≤ f → n / 10 ≤ g → decimal_in f (n / 10) ≡ decimal_in g (n / 10)) → (n < 10) ⊎ (10 ≤ n) → decimal_in (suc f) n ≡ decimal_in (suc g) n
    go ih (inl h) = rw (lt-ltb n 10 h) refl
    go ih (inr h) = rw (le-ltb n 10 h, ih (omega arith) (omega arith)) refl

pub decimal_small : (n : ℕ) → n < 10 → decimal n ≡ digit n ∷ []
unfolding decimal
decimal_small n h = small_in n n h

pub decimal_more : (n : ℕ) → 10 ≤ n → decimal n ≡ decimal (n / 10) ++ (digit (n % 10) ∷ [])
unfolding decimal decimal_in
decimal_more zero h = absurd (omega arith)
decimal_more (suc n) h = rw (le-ltb (suc n) 10 h, same_in n (suc n / 10) (suc n / 10) (omega arith) (omega arith)) refl

-- ---- how many digits

short_in : (f n d : ℕ) → n < 10 ^ suc d → length (decimal_in f n) ≤ suc d
unfolding decimal_in
short_in zero n d h = omega arith
short_in (suc f) n zero h = rw (lt-ltb n 10 h) (omega arith)
short_in (suc f) n (suc d) h = go (short_in f (n / 10) d) (lt_or_le n 10)
  where
    go : (n / 10 < 10 ^ suc d → length (decimal_in f (n / 10)) ≤ suc d) → (n < 10) ⊎ (10 ≤ n) → length (decimal_in (suc f) n) ≤ suc (suc d)
    go ih (inl l) = rw (lt-ltb n 10 l) (omega arith)
    go ih (inr l) = rw (le-ltb n 10 l) (omega (arith, length-append (decimal_in f (n / 10)) (digit (n % 10) ∷ []), ih (omega arith)))

pub decimal_short : (n d : ℕ) → n < 10 ^ suc d → length (decimal n) ≤ suc d
unfolding decimal
decimal_short n d h = short_in n n d h

-- ---- the lines

pub name_length : (s : ℕ) → length (name_of s) ≡ 7
unfolding name_of bytes
name_length zero = refl
name_length (suc zero) = refl
name_length (suc (suc zero)) = refl
name_length (suc (suc (suc s))) = refl

-- the name, a space, and two digits at most
pub asked_short : (s k : ℕ) → k ≤ 10 → length (line_for s k) ≤ 10
unfolding line_for
asked_short s k h = omega (arith, length-append (name_of s) (space ∷ decimal k), name_length s, decimal_short k 1 (omega arith))

-- ---- 11 bytes of the input decide

reads_front : (n : ℕ) (line input : List ℕ) → length line < n → reads line (take n input) ≡ reads line input
unfolding reads
reads_front zero line input h = absurd (omega arith)
reads_front (suc n) [] [] h = refl
reads_front (suc n) [] (b ∷ bs) h = refl
reads_front (suc n) (c ∷ cs) [] h = refl
reads_front (suc n) (c ∷ cs) (b ∷ bs) h = ap (λ x. eqb c b && x) (reads_front n cs bs (omega arith))

front_by : (i n : ℕ) (input : List ℕ) → 11 ≤ n → listed_by i (take n input) ≡ listed_by i input
unfolding listed_by
front_by zero n input h = refl
front_by (suc i) n input h =
    let few : length (line_for (i / 11) (i % 11)) ≤ 10 = asked_short (i / 11) (i % 11) (omega arith) in
    rw (reads_front n (line_for (i / 11) (i % 11)) input (omega arith), front_by i n input h) refl

-- whatever is behind them changes nothing
pub front_decides : (n : ℕ) (input : List ℕ) → 11 ≤ n → listed (take n input) ≡ listed input
unfolding listed
front_decides n input h = front_by 44 n input h

-- ---- a line that has ended decides

ended_append : (a b : List ℕ) → ended (a ++ b) ≡ (ended a || ended b)
unfolding ended
ended_append [] b = refl
ended_append (x ∷ xs) b = go (eqb x line_feed) (ended_append xs b)
  where
    go : (e : Bool) → ended (xs ++ b) ≡ (ended xs || ended b) → (e || ended (xs ++ b)) ≡ (e || ended xs || ended b)
    go true h = refl
    go false h = h

-- no digit is LF
digit_goes_on : (d : ℕ) → ended (digit d ∷ []) ≡ false
unfolding ended
digit_goes_on d = rw (ne_eqb (digit d) line_feed (λ e. omega arith)) refl

decimal_goes_on : (f n : ℕ) → ended (decimal_in f n) ≡ false
unfolding decimal_in
decimal_goes_on zero n = digit_goes_on (n % 10)
decimal_goes_on (suc f) n = go (decimal_goes_on f (n / 10)) (lt_or_le n 10)
  where
    go : ended (decimal_in f (n / 10)) ≡ false → (n < 10) ⊎ (10 ≤ n) → ended (decimal_in (suc f) n) ≡ false
    go ih (inl h) = rw (lt-ltb n 10 h) (digit_goes_on n)
    go ih (inr h) = rw (le-ltb n 10 h, ended_append (decimal_in f (n / 10)) (digit (n % 10) ∷ []), ih) (digit_goes_on (n % 10))

name_goes_on : (s : ℕ) → ended (name_of s) ≡ false
unfolding ended name_of bytes
name_goes_on zero = refl
name_goes_on (suc zero) = refl
name_goes_on (suc (suc zero)) = refl
name_goes_on (suc (suc (suc s))) = refl

-- so there is none in a line that can be read
asked_goes_on : (s k : ℕ) → ended (line_for s k) ≡ false
unfolding line_for decimal
asked_goes_on s k =
    rw (ended_append (name_of s) (space ∷ decimal_in k k), name_goes_on s, ended_append (space ∷ []) (decimal_in k k)) (unfold ended in decimal_goes_on k k)

neither : (a b : Bool) → (a || b) ≡ false → (a ≡ false) × (b ≡ false)
neither true b e = let z : ◌≡◌ {A = ℕ} 0 1 = cc in absurd (omega arith)
neither false b e = (refl, e)

reads_ended : (line input more : List ℕ) → ended line ≡ false → ended input ≡ true → reads line (input ++ more) ≡ reads line input
unfolding reads ended
reads_ended line [] more n e = let z : ◌≡◌ {A = ℕ} 0 1 = cc in absurd (omega arith)
reads_ended [] (b ∷ bs) more n e = refl
reads_ended (c ∷ cs) (b ∷ bs) more n e = go (eqb c b) refl (reads_ended cs bs more)
  where
    no : (eqb c line_feed ≡ false) × (ended cs ≡ false)
    no = neither (eqb c line_feed) (ended cs) n

    go : (t : Bool) → eqb c b ≡ t → (ended cs ≡ false → ended bs ≡ true → reads cs (bs ++ more) ≡ reads cs bs) → (t && reads cs (bs ++ more)) ≡ (t && reads cs bs)
    go false q ih = refl
    go true q ih =
        let same : eqb b line_feed ≡ false = ap (λ (x : ℕ). eqb x line_feed) (sym (eqb-true c b q)) ∙ no.0 in
        ih no.1 (rw same at e)

ended_by : (i : ℕ) (input more : List ℕ) → ended input ≡ true → listed_by i (input ++ more) ≡ listed_by i input
unfolding listed_by
ended_by zero input more e = refl
ended_by (suc i) input more e =
    rw (reads_ended (line_for (i / 11) (i % 11)) input more (asked_goes_on (i / 11) (i % 11)) e, ended_by i input more e) refl

-- ---- once the bytes decide, whatever comes behind them changes nothing

pub rest_changes_nothing : (input more : List ℕ) → decides input ≡ true → listed (input ++ more) ≡ listed input
unfolding decides listed
rest_changes_nothing input more e = go (lt_or_le (length input) 11)
  where
    go : (length input < 11) ⊎ (11 ≤ length input) → listed (input ++ more) ≡ listed input
    go (inl h) = ended_by 44 input more (rw (lt-leb 11 (length input) h) at e)
    go (inr h) =
        sym (front_decides 11 (input ++ more) (omega arith)) ∙ ap listed (take-append-le 11 input more h) ∙ front_decides 11 input (omega arith)

-- so the bytes read so far get the listing of the whole input
pub read_enough : (n : ℕ) (input : List ℕ) → decides (take n input) ≡ true → listed (take n input) ≡ listed input
read_enough n input e = sym (rest_changes_nothing (take n input) (drop n input) e) ∙ ap listed (take-append-drop n input)

-- LF decides, wherever it stands, and so do eleven bytes, whatever they are: nobody waits for more
pub decides_at_line_feed : (front rest : List ℕ) → decides (front ++ (line_feed ∷ rest)) ≡ true
unfolding decides ended
decides_at_line_feed front rest = rw (ended_append front (line_feed ∷ rest), or-true (ended front)) (or-true (leb 11 (length (front ++ (line_feed ∷ rest)))))

pub decides_at_eleven : (input : List ℕ) → 11 ≤ length input → decides input ≡ true
unfolding decides
decides_at_eleven input h = rw (le-leb 11 (length input) h) refl
