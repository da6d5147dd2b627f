-- The published recursion: docs/RULES.md, section of that name, sentence by sentence, and the article's figures 1 and 4.
-- Everything that is claimed of pebbling is claimed of these definitions. Assumes nothing.
use Rattle.std.specs.Prelude.{Bool, true, false, cond, ℕ, zero, suc, ◌+◌, ◌-◌, ◌*◌, ◌/◌, ◌%◌, ◌^◌, max, ltb, leb, eqb, length, take, drop}
use mathlib.Core.List.{List, [], ◌∷◌, ◌++◌, map, flat_map, foldr, zip_with}
use Rattle.pebbling.specs.Len.{len}

-- ---- rows of numbers

-- f 1 + .. + f n
unfoldable pub total : (ℕ → ℕ) → ℕ → ℕ
total f zero = 0
total f (suc n) = total f n + f (suc n)

-- f from, f (from + 1), ..: n numbers
unfoldable pub row : (ℕ → ℕ) → ℕ → ℕ → List ℕ
row f from zero = []
row f from (suc n) = f from ∷ row f (suc from) n

abbrev pub sum : List ℕ → ℕ
sum = foldr ◌+◌ 0

-- ---- schedules: t k r is the number of hashes of P_k in its preparing round r, from 1 to 2^k - 1

-- all of them in the last preparing round
unfoldable pub rushing : ℕ → ℕ → ℕ
rushing k r = cond (eqb r (2 ^ k - 1)) (2 ^ k - 1) 0

-- one throughout
unfoldable pub speed1 : ℕ → ℕ → ℕ
speed1 k r = 1

-- none in the first half, then two, and one at the end
unfoldable pub speed2 : ℕ → ℕ → ℕ
speed2 k r = cond (ltb r (2 ^ (k - 1))) 0 (cond (ltb r (2 ^ k - 1)) 2 1)

-- none in the first half, then the article's formula
unfoldable pub optimal : ℕ → ℕ → ℕ
optimal k r = cond (ltb r (2 ^ (k - 1))) 0 (((k + r) % 2 + (k + 1) - len (2 * r % 2 ^ len (2 ^ k - r))) / 2)

-- the schedule of each number from 0 to 3; a greater number names none, and nothing is hashed
unfoldable pub schedule : ℕ → ℕ → ℕ → ℕ
schedule zero = rushing
schedule (suc zero) = speed1
schedule (suc (suc zero)) = speed2
schedule (suc (suc (suc zero))) = optimal
schedule (suc (suc (suc (suc s)))) = λ k r. 0

-- T_k: the hashes of the preparing rounds
unfoldable pub T : (ℕ → ℕ → ℕ) → ℕ → List ℕ
T t k = row (t k) 1 (2 ^ k - 1)

-- W_0 is empty; W_k is T_(k-1) + W_(k-1), entry by entry, then 0, then W_(k-1)
unfoldable pub W : (ℕ → ℕ → ℕ) → ℕ → List ℕ
W t zero = []
W t (suc k) = zip_with ◌+◌ (T t k) (W t k) ++ (0 ∷ W t k)

-- the hashes of P_k before its round r
unfoldable pub done : (ℕ → ℕ → ℕ) → ℕ → ℕ → ℕ
done t k r = total (t k) (r - 1)

-- ---- the y's of one pebbler P_k(x_base)

-- the position of y_i
unfoldable pub place : ℕ → ℕ → ℕ → ℕ
place k i base = base + (2 ^ k - 2 ^ i)

-- the positions held after h hashes, the newest y first. It begins with y_k alone. The first 2^(k-1) hashes work out y_(k-1), which counts as held
-- from its first hash, and the others work out the rest from y_(k-1) as P_(k-1) does
unfoldable pub held : ℕ → ℕ → ℕ → List ℕ
held zero h base = base ∷ []
held (suc k) zero base = base ∷ []
held (suc k) (suc h) base =
    let newer = held k (suc h - 2 ^ k) (base + 2 ^ k) in
    cond (ltb (suc h) (2 ^ k)) ((base + suc h) ∷ base ∷ []) (newer ++ (base ∷ []))

-- whether the newest of them is finished
unfoldable pub finished : ℕ → ℕ → Bool
finished zero h = true
finished (suc k) zero = true
finished (suc k) (suc h) =
    let newer = finished k (suc h - 2 ^ k) in
    cond (ltb (suc h) (2 ^ k)) false newer

module _ {A : Type 0} (f : A → A) where
  -- one hash, after h others: of the newest y. It begins the next y where that one is finished, and otherwise goes on with it
  unfoldable pub hash : ℕ → ℕ → List A → List A
  hash k h [] = []
  hash k h (y ∷ ys) = cond (finished k h) (f y ∷ y ∷ ys) (f y ∷ ys)

  -- n hashes, after h others
  unfoldable pub hashes : ℕ → ℕ → ℕ → List A → List A
  hashes k h zero ys = ys
  hashes k h (suc n) ys = hashes k (suc h) n (hash k h ys)

-- ---- the pebblers that run

-- P_level(x_base) in its round
pub record Pebbler : Type 0 where
  pub level : ℕ
  pub round : ℕ
  pub base : ℕ

-- up to round 2^level it runs itself, and from the next round its children run
unfoldable pub itself_or : Pebbler → List Pebbler → List Pebbler
itself_or p children = cond (leb p.round (2 ^ p.level)) (p ∷ []) children

-- P_0(y_1) to P_(i-1)(y_i) side by side, each in its round r, for the y's of P_k(x_base); each of them is followed into its own children
unfoldable pub children : ℕ → ℕ → ℕ → ℕ → List Pebbler
children k zero r base = []
children k (suc i) r base =
    let own = children i i (r - 2 ^ i) (place k (suc i) base) in
    children k i r base ++ itself_or (record { level = i; round = r; base = place k (suc i) base }) own

-- the pebblers that run when P_k(x_base) is in its round r
unfoldable pub running : ℕ → ℕ → ℕ → List Pebbler
running k r base =
    let own = children k k (r - 2 ^ k) base in
    itself_or (record { level = k; round = r; base = base }) own

-- ---- what each of them holds and does in its round

-- it is in a preparing round; otherwise it is in its round 2^level
unfoldable pub preparing : Pebbler → Bool
preparing p = ltb p.round (2 ^ p.level)

-- round 2^level puts out y_0: its position, and the first of the values that the pebbler holds
unfoldable pub puts_out : Pebbler → List ℕ
puts_out p = cond (preparing p) [] (place p.level 0 p.base ∷ [])

unfoldable pub gives : {A : Type 0} → Pebbler → List A → List A
gives p ys = cond (preparing p) [] (take 1 ys)

module _ (t : ℕ → ℕ → ℕ) where
  -- the positions held before its round
  unfoldable pub holds : Pebbler → List ℕ
  holds p = held p.level (done t p.level p.round) p.base

  -- round 2^level does no hash
  unfoldable pub does : Pebbler → ℕ
  does p = cond (preparing p) (t p.level p.round) 0

  module _ {A : Type 0} where
    -- what is left of its values after its round: a preparing round hashes; after round 2^level the y's but y_0 go to the children
    unfoldable pub keeps : (A → A) → Pebbler → List A → List A
    keeps f p ys = cond (preparing p) (hashes f p.level (done t p.level p.round) (t p.level p.round) ys) (drop 1 ys)

    -- the pebblers one after another, each on as many values as it holds
    unfoldable pub in_turn : (Pebbler → List A → List A) → List Pebbler → List A → List A
    in_turn g [] ys = []
    in_turn g (p ∷ ps) ys = let n = length (holds p) in g p (take n ys) ++ in_turn g ps (drop n ys)

-- ---- all that run when P_k(x_base) is in its round r; a card is P_k(x_0)

-- the positions put out, one or none
unfoldable pub put_out : ℕ → ℕ → ℕ → List ℕ
put_out k r base = flat_map puts_out (running k r base)

module _ (t : ℕ → ℕ → ℕ) where
  -- the positions held before the round, in falling order
  unfoldable pub positions : ℕ → ℕ → ℕ → List ℕ
  positions k r base = flat_map (holds t) (running k r base)

  -- the hashes of the round
  unfoldable pub work : ℕ → ℕ → ℕ
  work k r = sum (map (does t) (running k r 0))

  module _ {A : Type 0} where
    -- the round on the values held before it, whatever they are: the values put out, one or none, and the values held after it
    unfoldable pub tick : ℕ → ℕ → List A → List A
    tick k r ys = in_turn t gives (running k r 0) ys

    unfoldable pub round : (A → A) → ℕ → ℕ → List A → List A
    round f k r ys = in_turn t (keeps t f) (running k r 0) ys

    -- the values held before round r of a card that is started with the seed; there is no round 0
    unfoldable pub before : (A → A) → ℕ → A → ℕ → List A
    before f k seed zero = []
    before f k seed (suc zero) = seed ∷ []
    before f k seed (suc (suc r)) = round f k (suc r) (before f k seed (suc r))

-- x_n of the chain: x_0 is the seed, and x_(n+1) = f(x_n)
unfoldable pub chain : {A : Type 0} → (A → A) → A → ℕ → A
chain f seed zero = seed
chain f seed (suc n) = f (chain f seed n)

-- ---- room

-- how many values a card's record has slots for (docs/RULES.md, "Records"), by the schedule's number
unfoldable pub slots : ℕ → ℕ → ℕ
slots s k = cond (eqb s 1) (max (k + 1) (2 * k - 2)) (k + 1)
