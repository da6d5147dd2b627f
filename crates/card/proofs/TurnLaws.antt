-- What the code of a round comes to, over plain lists and numbers, in the order of the source. Assumes nothing.
use mathlib.Core.Path.{◌≡◌, refl, sym, ap, ◌∙◌}
use mathlib.Core.List.{List, [], ◌∷◌, ◌++◌, append-nil}
use Prim.Native.Nat.{ℕ, zero, suc, ◌+◌, ◌-◌, ◌^◌, ◌≤◌, ◌<◌}
use native.Mathlib.Nat.{mul-le-mul_left}
use native.Mathlib.Omega.{arith}
use lib.ListN.{length, take, drop, replicate}
use lib.Seq.{length-take-le}
use Rattle.lists.specs.Parts.{part_length}
use Rattle.lists.specs.Values.{values, values_length, values_take, joined, joined_values}
use Rattle.lists.specs.Writing.{over}
use Rattle.oneway.specs.Step.{known, step}
use Rattle.oneway.specs.declared.Chain.{Chain}
use Rattle.pebbling.specs.Demands.{preparing_rounds_are_quiet, paying_rounds_pay, first_is_put_out, never_more_than_slots}
use Rattle.pebbling.specs.Promises.{Power, Left}
use Rattle.pebbling.specs.Recursion.{schedule, positions, tick, round, slots}
use Rattle.pebbling.specs.Turns.{tick_none, tick_first}
use Rattle.slots.specs.Moves.{Advancing, Advanced}
use Rattle.card.specs.declared.Head.{Head}
use Rattle.std.specs.Prelude.{Ok}
use Rattle.card.specs.declared.Outcome.{Outcome}
use Rattle.card.specs.declared.Outcome.TheVariants.{Quiet, Tick}
use Rattle.card.specs.Record.{chain_of, width_of, held_count, held_size, slots_size, size, head_bytes, filled, card_bytes, held_values}
use Rattle.card.specs.Refused.{later, ready}
use Rattle.card.specs.Sound.{Numbered, held_later, ready_passes}
use Rattle.card.specs.Steps.{Running, Turned, Payable, Paid}
use Rattle.card.proofs.ReadLaws.{first_slot}
use Rattle.card.proofs.StartLaws.{known_holds, slots_filled}

-- ---- pay

some : (ps : List ℕ) (p : ℕ) → take 1 ps ≡ p ∷ [] → 0 < length ps
some [] p e = omega (arith, ap length e)
some (x ∷ ps) p e = omega arith

first_value : (w n : ℕ) (slots : List ℕ) → 0 < n → joined (take 1 (values w n slots)) ≡ take w slots
unfolding values joined
first_value w zero slots h = absurd (omega arith)
first_value w (suc n) slots h = append-nil (take w slots)

module _ (head : Head) (nr : Numbered head) (hashes : ℕ) (slots out : List ℕ) (ok : Payable head slots out) where
  abbrev k : ℕ
  k = head.k

  abbrev r : ℕ
  r = head.round.0

  abbrev t : ℕ → ℕ → ℕ
  t = schedule head.schedule

  pub paid_quiet : (p : ℕ) → Power head.k p → head.round.0 < p → Paid head hashes slots out (Quiet hashes) out
  unfolding joined
  paid_quiet p q l =
      let h : r < 2 ^ k = omega (arith, q.is) in
      record {
        says = rw (preparing_rounds_are_quiet k r h) refl;
        writes = rw (tick_none t k r (values (width_of head) (held_count head) slots) h) refl;
      }

  module _ (p : ℕ) (q : Power head.k p) (l : p ≤ head.round.0) where
    paying : 2 ^ k ≤ r
    paying = omega (arith, q.is)

    -- the value in slot 0 is the one put out
    put_out_lem : (w : ℕ) → w ≡ width_of head → joined (tick t k r (values (width_of head) (held_count head) slots)) ≡ take w slots
    unfolding held_count
    put_out_lem w e =
        let c : ℕ = 2 ^ suc k - r - 1 in
        let s : r + suc c ≡ 2 ^ suc k = omega (arith, ok.before) in
        let n : 0 < held_count head =
        some (positions t k r 0) c (first_is_put_out head.schedule nr.schedule k r c paying s ∙ paying_rounds_pay k r c paying s) in
        rw (tick_first t k r (values (width_of head) (held_count head) slots) paying ok.before (values_length (width_of head) (held_count head) slots))
        (first_value (width_of head) (held_count head) slots n ∙ rw e refl)

    pub paid_tick : (w c : ℕ) (out' : List ℕ) → w ≡ width_of head → Left head.k head.round.0 c → out' ≡ over (take w slots) out
        → Paid head hashes slots out (Tick (c - 1) hashes) out'
    paid_tick w c out' e f o =
        let s : r + suc (c - 1) ≡ 2 ^ suc k = omega (arith, f.whole, ok.before) in
        record {
          says = rw (paying_rounds_pay k r (c - 1) paying s) refl;
          writes = rw (put_out_lem w e) o;
        }

-- ---- run

module _ (head : Head) (card out : List ℕ) (ok : Running head card out) where
  abbrev nr : Numbered head
  nr = ok.sound.numbered

  later_fits : held_size (later head) ≤ slots_size head
  unfolding held_size slots_size
  later_fits = mul-le-mul_left (width_of head) (held_later head ok.sound.numbered ok.before)

  held_fits : held_size head ≤ slots_size head
  unfolding held_size slots_size held_count
  held_fits = mul-le-mul_left (width_of head) (never_more_than_slots head.schedule nr.schedule head.k head.round.0 ok.sound.upto)

  judged : ready out head ≡ Ok head
  judged = ready_passes head out ok.sound.numbered ok.before ok.wide

  module _ (n : ℕ) (slotted : (n ≡ slots_size head) × (n ≤ 608)) where
    pub end_in : 16 + n ≤ length card
    unfolding size
    end_in = omega (arith, slotted.0, ok.sound.long)

    abbrev old : List ℕ
    old = take (16 + n - 16) (drop 16 card)

    old_length : length old ≡ n
    old_length = part_length 16 (16 + n) card (omega arith) end_in ∙ omega arith

    pub advance_asks : (c : Chain) → c ≡ chain_of head → (scratch : List ℕ) → length scratch ≡ 608
        → Advancing c head.schedule head.k head.round.0 (take (16 + n - 16) (drop 16 card)) scratch
    unfolding held_size held_count
    advance_asks c own scratch e =
        rw own
        (record {
          known = known_holds (known head.function) nr.known;
          schedule = nr.schedule;
          small = nr.small;
          from = ok.sound.from;
          before = ok.before;
          enough = omega (arith, held_fits, slotted.0, old_length);
          room = omega (arith, later_fits, slotted.0, slotted.1);
        })

    pub pay_asks : Payable head (take (16 + n - 16) (drop 16 card)) out
    pay_asks =
        record {
          before = ok.before;
          first = omega (arith, first_slot head, slotted.0, old_length);
          wide = ok.wide;
        }

    module _ (c : Chain) (own : c ≡ chain_of head) (scratch next : List ℕ) (rd wr hs : ℕ) (kept : length next ≡ 608)
        (advanced : Advanced c head.schedule head.k head.round.0 (take (16 + n - 16) (drop 16 card)) scratch rd wr hs next) where
      moved : Advanced (chain_of head) head.schedule head.k head.round.0 (take (16 + n - 16) (drop 16 card)) scratch rd wr hs next
      moved = rw own at advanced

      written : wr ≡ held_size (later head)
      unfolding held_size held_count
      written = moved.writes

      pub never_full : n < wr → ⊥
      never_full l = omega (arith, written, later_fits, slotted.0)

      values_before : values (width_of head) (held_count head) old ≡ held_values head card
      unfolding held_values held_size
      values_before = values_take (width_of head) (held_count head) (16 + n - 16) (drop 16 card) (omega (arith, held_fits, slotted.0))

      abbrev vs : List (List ℕ)
      vs = round (schedule head.schedule) (step (chain_of head)) head.k head.round.0 (held_values head card)

      front : joined vs ≡ take (held_size (later head)) next
      unfolding held_size held_count
      front =
          ap (λ (x : List (List ℕ)). joined (round (schedule head.schedule) (step (chain_of head)) head.k head.round.0 x)) (sym values_before)
          ∙ ap joined (sym moved.holds)
          ∙ joined_values (width_of head) (held_count (later head)) next

      -- the slots behind the values are free, since the scratch was made as zeros
      slots_after : scratch ≡ replicate 608 0 → take n next ≡ filled (later head) vs
      unfolding slots_size held_size held_count
      slots_after z =
          let m = held_size (later head) in
          let l : length (take m next) ≡ m = length-take-le m next (omega (arith, later_fits, slotted.0, slotted.1)) in
          slots_filled (later head) vs (take m next) next n 608 slotted.0 front (omega (arith, l, later_fits, slotted.0)) slotted.1
          (ap (λ (x : ℕ). take x next) l)
          (ap (λ (x : ℕ). drop x next) l ∙ moved.stays ∙ rw (l, z) refl)

      pub ran : scratch ≡ replicate 608 0 → (outcome : Outcome) (h : Head) (card' out' : List ℕ) → Paid head hs (take (16 + n - 16) (drop 16 card)) out outcome out'
          → h ≡ later head → card' ≡ over (head_bytes h ++ take n next) card → Turned head card out (Ok outcome) card' out'
      unfolding card_bytes
      ran z outcome h card' out' p e q =
          record {
            says = p.says ∙ rw (judged, moved.works) refl;
            leaves = q ∙ rw (e, slots_after z, judged) refl;
            writes = p.writes ∙ rw (values_before, judged) refl;
          }
