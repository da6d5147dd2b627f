-- The loop over the rounds, and the whole listing. Before a round the lines of the rounds before it are written, their hashes are summed,
-- and the card is the one that the round runs on. Assumes nothing.
use mathlib.Core.Path.{◌≡◌, refl, sym, ap, ◌∙◌}
use mathlib.Core.Bool.{true, false, cond}
use mathlib.Core.List.{List, ◌++◌}
use Prim.Native.Nat.{ℕ, suc, ◌+◌, ◌-◌, ◌*◌, ◌/◌, ◌%◌, ◌^◌, ◌≤◌, ◌<◌}
use native.Mathlib.Numerals.{add-one}
use native.Mathlib.Omega.{arith}
use lib.ListN.{length, length-append}
use lib.Pow.{pow_mono, pow_pos}
use Rattle.lists.specs.Written.{Written, written_length, written_front}
use Rattle.pebbling.specs.Promises.{Power}
use Rattle.pebbling.specs.Recursion.{total, schedule, work}
use Rattle.printing.specs.Names.{bytes}
use Rattle.listing.specs.declared.text.Page.{Page}
use Rattle.listing.specs.Listing.{reads, round_line, round_lines, line_for, head_line, total_line, listing_of, listed_by, listed, Listing}
use Rattle.listing.specs.Steps.{Put, Round, card_before}
use Rattle.listing.proofs.PageLaws.{put_none, put_length, put_both, put_three}
use Rattle.listing.proofs.SizeLaws.{line_short, lines_short, total_small, head_short, total_short}

abbrev hashes : ℕ → ℕ → ℕ → ℕ
hashes s k n = total (work (schedule s) k) n

-- before a round: n rounds are written
pub record Ran (s k : ℕ) (page₀ : Page) (card : List ℕ) (page : Page) (round sum : ℕ) : Type 0 where
  pub from : 0 < round
  pub upto : round ≤ 2 ^ suc k
  pub wrote : Put (round_lines s k (round - 1)) page₀ page
  pub counts : sum ≡ total (work (schedule s) k) (round - 1)
  pub holds : card ≡ card_before s k round

module _ (s k : ℕ) (page₀ : Page) (scheduled : s ≤ 3) (small : k ≤ 10) where
  pub ran_none : (card : List ℕ) → card ≡ card_before s k 1 → Ran s k page₀ card page₀ 1 0
  unfolding round_lines total
  ran_none card e = record { from = omega arith; upto = omega (arith, pow_pos k); wrote = put_none page₀; counts = refl; holds = e }

  module _ (early : page₀.at ≤ 1000) (long : length page₀.text.now ≡ 262144) (stop : ℕ) (p : Power (k + 1) stop) where
    last : stop ≡ 2 ^ suc k
    last = p.is ∙ ap (λ (x : ℕ). 2 ^ x) (add-one k)

    most : 2 ^ suc k ≤ 2048
    most = pow_mono {i = suc k} {j = 11} (omega arith)

    module _ (card : List ℕ) (page : Page) (round sum : ℕ) (ran : Ran s k page₀ card page round sum) where
      pub ran_end : page.at + 110 ≤ 262144
      ran_end = omega (arith, ran.wrote.wrote.ends, lines_short s k scheduled small (round - 1) (omega (arith, ran.from, ran.upto)), ran.upto, ran.from, most)

      module _ (less : round < stop) where
        pub is_round : Round s k round
        is_round = record { scheduled = scheduled; small = small; from = ran.from; upto = omega (arith, last) }

        pub round-fits : page.at + length (round_line s k round) ≤ length page.text.now
        round-fits = omega (arith, ran_end, put_length (round_lines s k (round - 1)) page₀ page ran.wrote, line_short s k round is_round)

        module _ (page' : Page) (hashes' : ℕ) (card' : List ℕ) (w : Put (round_line s k round) page page') (h : hashes' ≡ work (schedule s) k round) (e : card' ≡ card_before s k (suc round)) where
          next : suc (round - 1) ≡ round
          next = omega (arith, ran.from)

          sums : sum + hashes' ≡ hashes s k round
          unfolding total
          sums = omega (arith, ran.counts, h, ap (hashes s k) (sym next), ap (work (schedule s) k) next)

          pub sum_fits : sum + hashes' ≤ 5120
          sum_fits = omega (arith, sums, total_small s k scheduled small round (omega (arith, last)))

          pub ran_next : Ran s k page₀ card' page' (round + 1) (sum + hashes')
          unfolding round_lines
          ran_next =
              let z : round + 1 - 1 ≡ round = omega arith in
              let l : round_lines s k (round - 1) ++ round_line s k round ≡ round_lines s k round =
              ap (λ (n : ℕ). round_lines s k (round - 1) ++ round_line s k n) (sym next) ∙ ap (round_lines s k) next in
              record {
                from = omega arith;
                upto = omega (arith, last);
                wrote = rw (z, ← l) (put_both (round_lines s k (round - 1)) (round_line s k round) page₀ page ran.wrote page' w);
                counts = rw z sums;
                holds = e ∙ ap (card_before s k) (sym (add-one round));
              }

-- ---- the whole listing

module _ (s k : ℕ) (page : Page) (scheduled : s ≤ 3) (small : k ≤ 10) (front : page.at ≡ 0) (long : length page.text.now ≡ 262144) where
  pub head_fits : page.at + length (head_line s k) ≤ length page.text.now
  head_fits = omega (arith, head_short s k small)

  module _ (page₁ : Page) (w : Put (head_line s k) page page₁) where
    pub rounds_fit : (page₁.at ≤ 1000) × (length page₁.text.now ≡ 262144)
    rounds_fit = (omega (arith, w.wrote.ends, head_short s k small), put_length (head_line s k) page page₁ w ∙ long)

    module _ (page₂ : Page) (run : ℕ) (v : Put (round_lines s k (2 ^ suc k - 1)) page₁ page₂) (h : run ≡ total (work (schedule s) k) (2 ^ suc k - 1)) where
      less : 2 ^ suc k - 1 < 2 ^ suc k
      less = omega (arith, pow_pos k)

      pub total_fits : page₂.at + length (total_line run) ≤ length page₂.text.now
      total_fits =
          omega (
            arith,
            rounds_fit,
            v.wrote.ends,
            put_length (round_lines s k (2 ^ suc k - 1)) page₁ page₂ v,
            lines_short s k scheduled small (2 ^ suc k - 1) less,
            pow_mono {i = suc k} {j = 11} (omega arith),
            total_short run (omega (arith, h, total_small s k scheduled small (2 ^ suc k - 1) less)),
          )

      pub listing_says : (page₃ : Page) → Put (total_line run) page₂ page₃ → Put (listing_of s k) page page₃
      unfolding listing_of
      listing_says page₃ u =
          let t : List ℕ = total_line (hashes s k (2 ^ suc k - 1)) in
          let lines : List ℕ = round_lines s k (2 ^ suc k - 1) in
          put_three (head_line s k) lines t page page₁ w page₂ v page₃ (rw h at u)

pub listing_short : (s k : ℕ) → s ≤ 3 → k ≤ 10 → length (listing_of s k) ≤ 262144
unfolding listing_of
listing_short s k a b =
    let lines : List ℕ = round_lines s k (2 ^ suc k - 1) in
    let t : List ℕ = total_line (hashes s k (2 ^ suc k - 1)) in
    let l : 2 ^ suc k - 1 < 2 ^ suc k = omega (arith, pow_pos k) in
    omega (
      arith,
      length-append (head_line s k) (lines ++ t),
      length-append lines t,
      head_short s k b,
      lines_short s k a b (2 ^ suc k - 1) l,
      pow_mono {i = suc k} {j = 11} (omega arith),
      total_short (hashes s k (2 ^ suc k - 1)) (total_small s k a b (2 ^ suc k - 1) l),
    )

-- ---- the lines that are tried in turn

module _ (input : List ℕ) where
  promised : (piece : List ℕ) → listed input ≡ piece → (text text' : List ℕ) (end : ℕ) → length piece ≤ length text → Written piece 0 text end text' → Listing input text end text'
  promised piece q text text' end fits w =
      record {
        says = omega (arith, w.ends, ap length q);
        leaves = rw q (written_front piece text text' end fits w);
        within = omega (arith, w.ends, written_length piece text text' 0 end w);
      }

  -- the line of schedule s and k - 1
  module _ (s k : ℕ) (rest : listed input ≡ listed_by (11 * s + k) input) (some : 0 < k) (few : k ≤ 11) where
    one : listed_by (11 * s + k) input ≡ cond (reads (line_for s (k - 1)) input) (listing_of s (k - 1)) (listed_by (11 * s + (k - 1)) input)
    unfolding listed_by
    one =
        let e : 11 * s + k ≡ suc (11 * s + (k - 1)) = omega arith in
        let d : (11 * s + (k - 1)) / 11 ≡ s = omega arith in
        let m : (11 * s + (k - 1)) % 11 ≡ k - 1 = omega arith in
        rw (e, d, m) refl

    pub tried : false ≡ reads (line_for s (k - 1)) input → listed input ≡ listed_by (11 * s + (k - 1)) input
    tried e = rest ∙ one ∙ rw (← e) refl

    pub found : s ≤ 3 → true ≡ reads (line_for s (k - 1)) input → (text text' : List ℕ) (end : ℕ) → length text ≡ 262144
        → Written (listing_of s (k - 1)) 0 text end text' → Listing input text end text'
    found h e text text' end long w =
        let q : listed input ≡ listing_of s (k - 1) = rest ∙ one ∙ rw (← e) refl in
        promised (listing_of s (k - 1)) q text text' end (omega (arith, listing_short s (k - 1) h (omega arith))) w

  pub refused : (s : ℕ) → listed input ≡ listed_by (11 * s) input → s ≤ 0 → (text text' : List ℕ) (end : ℕ) → length text ≡ 262144 → Written (bytes "refused\n") 0 text end text' → Listing input text end text'
  unfolding listed_by
  refused s rest h text text' end long w =
      let z : 11 * s ≡ 0 = omega arith in
      promised (bytes "refused\n") (rest ∙ rw z refl) text text' end (unfold bytes in omega arith) w
