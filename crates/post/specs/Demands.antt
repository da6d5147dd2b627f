-- What is asked of a post, as theorems about what enrol, offer and settle say and leave. Assumes nothing.
use Rattle.std.proofs.Math.Path.{◌≡◌, refl, ap}
use Rattle.std.proofs.Common.{sym, ◌∙◌, true≢false, length-drop, length-take-le}
use Rattle.std.specs.Prelude.{Bool, true, false, cond, not, ℕ, ◌+◌, ◌^◌, ◌≤◌, ◌<◌, eqb, length, drop}
use mathlib.Core.List.{List, [], ◌∷◌}
use native.Mathlib.Omega.{arith}
use borrow.Author.Tests.{le-ltb, eq-eqb, ne_eqb}
use Rattle.lists.specs.Same.{same, same_eq, eq-same}
use Rattle.records.specs.Chains.{chain_add}
use Rattle.lists.specs.Writing.{over}
use Rattle.oneway.specs.Laws.{width_small}
use Rattle.oneway.specs.Step.{step}
use Rattle.pebbling.specs.Recursion.{chain}
use Rattle.refusals.specs.Numbers.{said_of, not_refused}
use Rattle.refusals.specs.declared.Refusal.{Refusal}
use Rattle.refusals.specs.declared.Refusal.TheVariants.{WrongLength, Spent, BadGap, NotTaken}
use Rattle.post.specs.declared.Head.{Head}
use Rattle.std.specs.Prelude.{Err, None, Ok, Option, Result, Some}
use Rattle.post.specs.Record.{size, chain_of, width_of, post_bytes, head_of, anchor_of, held_value}
use Rattle.post.specs.Refused.{numbers, enrol_judged, inspect_of, gap_strange, ready, offer_judged, settle_ready, settle_judged}
use Rattle.post.specs.Search.{fewest, least}
use Rattle.post.specs.Fewest.{First, least_found, least_some}
use Rattle.post.specs.Sound.{Numbered, sound, Searchable, searchable, Enrollable, enrollable}
use Rattle.post.specs.Kept.{paid_fits, Writable, written_head, written_anchor, written_held, written_passes}
use Rattle.post.specs.Promises.{unpaid, judged_enrol_says, judged_enrol_post, enrol_must_say, enrol_post, limit_of, search_finds, credited, found_says, found_post, judged_offer_says, judged_offer_post, offer_must_say, offer_post, arrives_of, verdict, settle_must_say}

-- ---- an offer that reaches the search

-- g steps from the value lead to the one held, g is from 1 to the smaller of G and the unpaid ticks, and no fewer steps lead there
pub record Credit (head : Head) (post value : List ℕ) (gap g : ℕ) : Type 0 where
  pub from : 0 < g
  pub within_gap : g ≤ gap
  pub within_unpaid : head.paid + g ≤ 2 ^ head.k
  pub leads : chain (step (chain_of head)) value g ≡ held_value head post
  pub none_fewer : (j : ℕ) → 0 < j → j < g → chain (step (chain_of head)) value j ≡ held_value head post → ⊥

module _ (post value : List ℕ) (gap : ℕ) (head : Head) (reaches : offer_judged post value gap ≡ Ok head) where
  abbrev x : ℕ → List ℕ
  x g = chain (step (chain_of head)) value g

  abbrev fits : ℕ → Bool
  fits g = same (x g) (held_value head post)

  within : head.paid ≤ 2 ^ head.k
  within = (searchable post value gap head reaches).1.sound.within

  says : offer_must_say post value gap ≡ found_says (search_finds post value gap head)
  unfolding offer_must_say
  says = rw reaches refl

  leaves : offer_post post value gap ≡ found_post head post value (search_finds post value gap head)
  unfolding offer_post
  leaves = rw reaches refl

  search : search_finds post value gap head ≡ least (limit_of gap head) fits
  unfolding search_finds fewest
  search = refl

  credit_first : (g : ℕ) → First fits (limit_of gap head) g → Credit head post value gap g
  credit_first g f =
      record {
        from = f.from;
        within_gap = omega (arith, f.upto);
        within_unpaid = omega (arith, f.upto, within);
        leads = same_eq (x g) (held_value head post) f.fits;
        none_fewer = λ j a b e. true≢false (sym (eq-same (x j) (held_value head post) e) ∙ f.none_fewer j a b);
      }

  found_credit : (g : ℕ) → search_finds post value gap head ≡ Some g → Credit head post value gap g
  found_credit g q = credit_first g (least_found fits (limit_of gap head) g (sym search ∙ q))

  credited_found : (g : ℕ) → offer_must_say post value gap ≡ 0 ∷ g ∷ [] → search_finds post value gap head ≡ Some g
  credited_found g e = go (search_finds post value gap head) refl (sym says ∙ e)
    where
      go : (seen : Option ℕ) → search_finds post value gap head ≡ seen → found_says seen ≡ 0 ∷ g ∷ [] → search_finds post value gap head ≡ Some g
      go None q r = absurd (not_refused NotTaken (g ∷ []) r)
      go (Some h) q r = let d : h ≡ g = cc in q ∙ ap Some d

  -- the credit is the fewest steps that lead to the value held
  pub credit_is_fewest : (g : ℕ) → offer_must_say post value gap ≡ 0 ∷ g ∷ [] → Credit head post value gap g
  credit_is_fewest g e = found_credit g (credited_found g e)

  -- the record after a credit
  pub credit_leaves : (g : ℕ) → offer_must_say post value gap ≡ 0 ∷ g ∷ []
      → offer_post post value gap ≡ over (post_bytes (credited g head) (anchor_of head post) value) post
  credit_leaves g e = leaves ∙ ap (found_post head post value) (credited_found g e)

  -- where some g from 1 to the smaller of G and the unpaid ticks leads there, the offer is taken, and the credit is no more
  pub taken_where_some : (g : ℕ) → 0 < g → g ≤ gap → head.paid + g ≤ 2 ^ head.k → chain (step (chain_of head)) value g ≡ held_value head post
      → (credit : ℕ) × (offer_must_say post value gap ≡ 0 ∷ credit ∷ []) × (credit ≤ g)
  taken_where_some g a b d e =
      let s = least_some fits (limit_of gap head) g a (omega arith) (eq-same (x g) (held_value head post) e) in
      (s.0, says ∙ ap found_says (search ∙ s.1), s.2)

  -- where none does, it is refused, and nothing is written
  pub refused_where_none : ((g : ℕ) → 0 < g → g ≤ gap → head.paid + g ≤ 2 ^ head.k → chain (step (chain_of head)) value g ≡ held_value head post → ⊥)
      → (offer_must_say post value gap ≡ said_of NotTaken) × (offer_post post value gap ≡ post)
  refused_where_none n = go (search_finds post value gap head) refl
    where
      go : (seen : Option ℕ) → search_finds post value gap head ≡ seen → (offer_must_say post value gap ≡ said_of NotTaken) × (offer_post post value gap ≡ post)
      go None q = (says ∙ ap found_says q, leaves ∙ ap (found_post head post value) q)
      go (Some h) q =
          let f = found_credit h q in
          absurd (n h f.from f.within_gap f.within_unpaid f.leads)

-- a credit is said only by an offer that reaches the search, on a record whose head is the one read
pub credit_reached : (post value : List ℕ) (gap g : ℕ) → offer_must_say post value gap ≡ 0 ∷ g ∷ [] → offer_judged post value gap ≡ Ok (head_of post)
unfolding offer_must_say
credit_reached post value gap g e = go (offer_judged post value gap) refl e
  where
    go : (seen : Result Head Refusal) → offer_judged post value gap ≡ seen → judged_offer_says post value gap seen ≡ 0 ∷ g ∷ [] → offer_judged post value gap ≡ Ok (head_of post)
    go (Err r) q s = absurd (not_refused r (g ∷ []) s)
    go (Ok h) q s = q ∙ ap Ok (sym (sound post h (searchable post value gap h q).0).0)

-- ---- 6 is said where 2^k are paid, and nowhere else

module _ (post value : List ℕ) (gap : ℕ) (head : Head) (formed : inspect_of post ≡ Ok head) where
  -- with a gap limit from 1 to 64, whatever is offered
  pub spent_says_6 : gap_strange gap ≡ false → head.paid ≡ 2 ^ head.k → offer_must_say post value gap ≡ said_of Spent
  unfolding offer_must_say offer_judged ready
  spent_says_6 fine all = rw (formed, fine, eq-eqb head.paid (2 ^ head.k) all) refl

  -- with any gap limit
  pub unspent_never_says_6 : (head.paid ≡ 2 ^ head.k → ⊥) → offer_must_say post value gap ≡ said_of Spent → ⊥
  unfolding offer_must_say offer_judged ready
  unspent_never_says_6 some e =
      go (gap_strange gap) (not (eqb (length value) (width_of head))) (rw (formed, ne_eqb head.paid (2 ^ head.k) some) at e)
    where
      found : (seen : Option ℕ) → found_says seen ≡ said_of Spent → ⊥
      found (Some g) q = not_refused Spent (g ∷ []) (sym q)
      found None q = let z : ◌≡◌ {A = ℕ} 9 6 = cc in omega arith

      go : (strange wrong : Bool) → judged_offer_says post value gap (cond strange (Err BadGap) (cond wrong (Err WrongLength) (Ok head))) ≡ said_of Spent → ⊥
      go true wrong q = let z : ◌≡◌ {A = ℕ} 7 6 = cc in omega arith
      go false true q = let z : ◌≡◌ {A = ℕ} 4 6 = cc in omega arith
      go false false q = found (search_finds post value gap head) q

-- ---- a refusal changes nothing

pub refused_leaves : (post value : List ℕ) (gap : ℕ) (refusal : Refusal) → offer_must_say post value gap ≡ said_of refusal → offer_post post value gap ≡ post
unfolding offer_must_say offer_post
refused_leaves post value gap refusal e = go (offer_judged post value gap) e
  where
    found : (head : Head) (seen : Option ℕ) → found_says seen ≡ said_of refusal → found_post head post value seen ≡ post
    found head None s = refl
    found head (Some g) s = absurd (not_refused refusal (g ∷ []) (sym s))

    go : (seen : Result Head Refusal) → judged_offer_says post value gap seen ≡ said_of refusal → judged_offer_post post value gap seen ≡ post
    go (Err r) s = refl
    go (Ok h) s = found h (search_finds post value gap h) s

-- ---- the fields of a record have the chain's width

anchor_width : (head : Head) (post : List ℕ) → size ≤ length post → length (anchor_of head post) ≡ width_of head
unfolding anchor_of
anchor_width head post l =
    length-take-le (width_of head) (drop 8 post) (omega (arith, length-drop 8 post, width_small (chain_of head)))

held_width : (head : Head) (post : List ℕ) → size ≤ length post → length (held_value head post) ≡ width_of head
unfolding held_value
held_width head post l =
    let w = width_of head in
    length-take-le w (drop (8 + w) post) (omega (arith, length-drop (8 + w) post, width_small (chain_of head)))

-- ---- a record after a credit

-- what a credit writes is as docs/RULES.md lays it out, with g more paid and no more than 2^k
module _ (post value : List ℕ) (gap : ℕ) (head : Head) (reaches : offer_judged post value gap ≡ Ok head) (g : ℕ) (credit : Credit head post value gap g) where
  asked : Searchable post value head
  asked = (searchable post value gap head reaches).1

  pub credit_numbered : Numbered (credited g head)
  credit_numbered = record { known = asked.sound.numbered.known; small = asked.sound.numbered.small }

  pub credit_writable : Writable (credited g head) (anchor_of head post) value post
  credit_writable =
      record {
        small = paid_fits head.k (head.paid + g) asked.sound.numbered.small credit.within_unpaid;
        anchored = anchor_width head post asked.sound.long;
        wide = asked.wide;
        long = asked.sound.long;
      }

  pub credit_passes : inspect_of (over (post_bytes (credited g head) (anchor_of head post) value) post) ≡ Ok (credited g head)
  credit_passes =
      written_passes (credited g head) (anchor_of head post) value post credit_writable credit_numbered credit.within_unpaid
      (λ z. absurd (omega (arith, credit.from)))

-- ---- paid never passes 2^k, and never wraps: what is read after a credit of g is g more than before

pub paid_adds_up : (post value : List ℕ) (gap g : ℕ) → offer_must_say post value gap ≡ 0 ∷ g ∷ []
    → (head_of (offer_post post value gap) ≡ credited g (head_of post)) × ((head_of post).paid + g ≤ 2 ^ (head_of post).k)
paid_adds_up post value gap g e =
    let head = head_of post in
    let r = credit_reached post value gap g e in
    let c = credit_is_fewest post value gap head r g e in (
      ap head_of (credit_leaves post value gap head r g e)
          ∙ written_head (credited g head) (anchor_of head post) value post (credit_writable post value gap head r g c),
      c.within_unpaid,
    )

-- ---- what a post believes is right

-- a record as docs/RULES.md lays it out, in which as many steps as are paid lead from the value held to the anchor
pub record Right (post : List ℕ) : Type 0 where
  pub formed : inspect_of post ≡ Ok (head_of post)
  pub holds : chain (step (chain_of (head_of post))) (held_value (head_of post) post) (head_of post).paid ≡ anchor_of (head_of post) post

module _ (head : Head) (anchor held post : List ℕ) (w : Writable head anchor held post) (passes : inspect_of (over (post_bytes head anchor held) post) ≡ Ok head) where
  right_written : chain (step (chain_of head)) held head.paid ≡ anchor → Right (over (post_bytes head anchor held) post)
  right_written e =
      let h = written_head head anchor held post w in
      record {
        formed = passes ∙ ap Ok (sym h);
        holds = rw (h, written_held head anchor held post w, written_anchor head anchor held post w) e;
      }

-- enrol makes it so
module _ (function k : ℕ) (anchor post : List ℕ) where
  abbrev begun : List ℕ
  begun = over (post_bytes (unpaid function k) anchor anchor) post

  -- an enrol that says 0 has refused nothing, and has written the record
  pub enrol_done : enrol_must_say function k anchor post ≡ 0 ∷ [] → Enrollable anchor post (unpaid function k) × (enrol_post function k anchor post ≡ begun)
  unfolding enrol_must_say enrol_post
  enrol_done e = go (enrol_judged (unpaid function k) anchor post) refl e
    where
      go : (seen : Result Head Refusal) → enrol_judged (unpaid function k) anchor post ≡ seen → judged_enrol_says seen ≡ 0 ∷ []
          → Enrollable anchor post (unpaid function k) × (judged_enrol_post anchor post seen ≡ begun)
      go (Err r) q s = absurd (not_refused r [] s)
      go (Ok h) q s =
          let d = enrollable (unpaid function k) anchor post h q in
          (rw d.0 d.1, ap (λ (u : Head). over (post_bytes u anchor anchor) post) (sym d.0))

  module _ (ok : Enrollable anchor post (unpaid function k)) where
    pub enrol_writable : Writable (unpaid function k) anchor anchor post
    enrol_writable = record { small = omega arith; anchored = ok.anchored; wide = ok.anchored; long = ok.long }

    pub enrol_passes : inspect_of begun ≡ Ok (unpaid function k)
    enrol_passes = written_passes (unpaid function k) anchor anchor post enrol_writable ok.numbered (omega arith) (λ z. refl)

  pub enrol_right : enrol_must_say function k anchor post ≡ 0 ∷ [] → Right (enrol_post function k anchor post)
  unfolding chain
  enrol_right e =
      let d = enrol_done e in
      rw d.1 (right_written (unpaid function k) anchor anchor post (enrol_writable d.0) (enrol_passes d.0) refl)

-- every offer keeps it, credited or refused
pub offer_right : (post value : List ℕ) (gap : ℕ) → Right post → Right (offer_post post value gap)
unfolding offer_post
offer_right post value gap r = go (offer_judged post value gap) refl
  where
    found : (h : Head) → offer_judged post value gap ≡ Ok h → (seen : Option ℕ) → search_finds post value gap h ≡ seen → Right (found_post h post value seen)
    found h q None f = r
    found h q (Some g) f =
        let c = found_credit post value gap h q g f in
        let same : head_of post ≡ h = (sound post h (searchable post value gap h q).0).0 in
        let held : chain (step (chain_of h)) (held_value h post) h.paid ≡ anchor_of h post = rw same at r.holds in
        let sum : h.paid + g ≡ g + h.paid = omega arith in
        let e : chain (step (chain_of h)) value (h.paid + g) ≡ anchor_of h post =
        rw sum (chain_add (step (chain_of h)) value g h.paid ∙ rw c.leads held) in
        right_written (credited g h) (anchor_of h post) value post (credit_writable post value gap h q g c) (credit_passes post value gap h q g c) e

    go : (seen : Result Head Refusal) → offer_judged post value gap ≡ seen → Right (judged_offer_post post value gap seen)
    go (Err x) q = r
    go (Ok h) q = found h q (search_finds post value gap h) refl

-- ---- settle says yes exactly when f applied as often as is paid to the last value gives the anchor

module _ (function k : ℕ) (anchor last : List ℕ) (paid : ℕ) where
  abbrev account : Head
  account = record { function = function; k = k; paid = paid }

  abbrev reached : List ℕ
  reached = chain (step (chain_of account)) last paid

  module _ (passes : settle_judged account anchor last ≡ Ok account) where
    verdict_said : settle_must_say function k anchor last paid ≡ verdict (same reached anchor)
    unfolding settle_must_say arrives_of
    verdict_said = rw passes refl

    pub settle_yes : reached ≡ anchor → settle_must_say function k anchor last paid ≡ 0 ∷ 1 ∷ []
    settle_yes e = verdict_said ∙ ap verdict (eq-same reached anchor e)

    pub settle_no : (reached ≡ anchor → ⊥) → settle_must_say function k anchor last paid ≡ 0 ∷ 0 ∷ []
    settle_no n = verdict_said ∙ go (same reached anchor) refl
      where
        go : (b : Bool) → same reached anchor ≡ b → verdict b ≡ 0 ∷ 0 ∷ []
        go true q = absurd (n (same_eq reached anchor q))
        go false q = refl

  -- it refuses nothing where the numbers and lengths are in range
  pub settle_passes : Numbered account → length anchor ≡ width_of account → length last ≡ width_of account → paid ≤ 2 ^ k
      → settle_judged account anchor last ≡ Ok account
  unfolding settle_judged settle_ready numbers
  settle_passes n a l h =
      rw (n.known, le-ltb 20 k n.small, eq-eqb (length anchor) (width_of account) a, eq-eqb (length last) (width_of account) l, le-ltb (2 ^ k) paid h) refl

-- so settle says yes for the value that a post holds and what it has paid
pub settle_right : (post : List ℕ) → Right post
    → settle_must_say (head_of post).function (head_of post).k (anchor_of (head_of post) post) (held_value (head_of post) post) (head_of post).paid ≡ 0 ∷ 1 ∷ []
settle_right post r =
    let h = head_of post in
    let s = (sound post h r.formed).1 in
    settle_yes h.function h.k (anchor_of h post) (held_value h post) h.paid
    (settle_passes h.function h.k (anchor_of h post) (held_value h post) h.paid s.numbered (anchor_width h post s.long) (held_width h post s.long) s.within)
    r.holds
