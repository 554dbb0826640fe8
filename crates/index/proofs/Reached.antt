-- The literals with a word, reached from the first by links: they are those that a scan for the word meets, in order.
use mathlib.Core.Path.{◌≡◌, refl, sym, ap, ◌∙◌}
use mathlib.Core.List.{List, [], ◌∷◌}
use mathlib.Core.Option.{some}
use Prim.Native.Nat.{ℕ, zero, suc, ◌+◌, ◌-◌, ◌%◌, ◌≤◌, ◌<◌}
use native.Mathlib.Omega.{arith}
use lib.Dec.{eqb}
use lib.ListN.{length, take, drop, get_or, get_elem?, drop_of_length-le}
use lib.Seq.{get_or-take}
use borrow.Author.Tests.{eq-eqb, ne_eqb, eqb-true, eqb-false}
use Rattle.words.specs.Fields.{kind_of}
use Rattle.table.proofs.Terms.{from_place}
use Rattle.rules.proofs.Unify.Tests.{decide}
use Rattle.unification.specs.Places.{work_words}
use Rattle.index.specs.Places.{most_noted}
use Rattle.index.specs.declared.entries.Scan.{Scan}
use Rattle.index.specs.Scanning.{begun, past_word, entries_from, Standing}
use Rattle.index.specs.Noting.{keys_of, scans_from, keys_in, scans_in, link_at, first_from, Unpacks, unpacked, Linked, picked, ahead}
use Rattle.index.proofs.Scans.{body_length}
use Rattle.index.proofs.Listed.{FirstAt, first_found, first_is, first_on}
use Rattle.index.proofs.Scanned.{elem_some, same_count, Scanned, scan_at}
use Rattle.index.proofs.Recorded.{unpacks, unpacked_is}
use Rattle.index.proofs.Linking.{literal_low, first_most}

-- a scan for a literal's word meets the literals with that word
pub scan_picks : (word : ℕ) → kind_of word ≡ 2 → (ws : List ℕ) (s : Scan) → entries_from word s ws ≡ picked word (keys_of ws) (scans_from s ws)
unfolding entries_from keys_of scans_from picked
scan_picks word kind [] s = refl
scan_picks word kind (w ∷ ws) s =
    let on = scan_picks word kind ws (past_word s w) in
    decide (eqb (kind_of w) 2)
    (λ b. decide (eqb w word) (λ e. rw (b, e) (ap (λ (l : List Scan). s ∷ l) on)) (λ e. rw (b, e) on))
    (λ b.
    let other = ne_eqb w word (λ e. eqb-false (kind_of w) 2 b (ap (λ (v : ℕ). kind_of v) e ∙ kind)) in
    rw (b, other) on)

-- the literals from a number on, by both lists
module _ (ks : List ℕ) (ss : List Scan) (same : length ss ≡ length ks) where
  split : (i : ℕ) → i < length ks → (s : Scan) × (get_elem? ss i ≡ some s) × (drop i ss ≡ s ∷ drop (i + 1) ss)
  split i h = go ss i (omega arith)
    where
      go : (xs : List Scan) (i : ℕ) → i < length xs → (s : Scan) × (get_elem? xs i ≡ some s) × (drop i xs ≡ s ∷ drop (i + 1) xs)
      go [] i h = absurd (omega arith)
      go (x ∷ xs) zero h = (x, refl, refl)
      go (x ∷ xs) (suc i) h =
          let on = go xs i (omega arith) in
          let one : suc i + 1 ≡ suc (i + 1) = omega arith in
          (on.0, on.1, rw one on.2)

  picks_first : (word left i : ℕ) → i + left ≡ length ks → picked word (drop i ks) (drop i ss) ≡ ahead ks ss word (first_from word i (drop i ks))
  unfolding picked first_from ahead
  picks_first word zero i e = rw (drop_of_length-le ks {i = i} (omega arith))
  picks_first word (suc left) i e =
      let h : i < length ks = omega arith in
      let at = split i h in
      let on = picks_first word left (i + 1) (omega arith) in
      decide (eqb (get_or ks i 0) word)
      (λ b.
      let here = first_is ks h word (eqb-true _ word b) in
      let one : i + 1 ≡ suc i = omega arith in
      rw (here, one))
      (λ b.
      let skip = first_on ks h word (eqb-false _ word b) in
      let gone : picked word (drop i ks) (drop i ss) ≡ picked word (drop (i + 1) ks) (drop (i + 1) ss) = rw (from_place ks i h, at.2, b) in
      gone ∙ on ∙ ap (ahead ks ss word) (sym skip))

  pub picks_from : (word i : ℕ) → i ≤ length ks → picked word (drop i ks) (drop i ss) ≡ ahead ks ss word (first_from word i (drop i ks))
  picks_from word i h = picks_first word (length ks - i) i (omega arith)

  pub ahead_next : (word j : ℕ) → j < length ks → get_or ks j 0 ≡ word → {s : Scan} → get_elem? ss j ≡ some s
      → ahead ks ss word (j + 1) ≡ s ∷ ahead ks ss word (first_from word (j + 1) (drop (j + 1) ks))
  unfolding ahead picked
  ahead_next word j h e {s} es =
      let at = split j h in
      let it : at.0 ≡ s = the_same (sym at.1 ∙ es) in
      let one : j + 1 ≡ suc j = omega arith in
      let here : picked word (drop j ks) (drop j ss) ≡ s ∷ picked word (drop (j + 1) ks) (drop (j + 1) ss) =
      rw (from_place ks j h, at.2, eq-eqb (get_or ks j 0) word e, it) in
      ap (ahead ks ss word) one ∙ here ∙ ap (λ (l : List Scan). s ∷ l) (picks_from word (j + 1) (omega arith))
    where
      the_same : {a b : Scan} → some a ≡ some b → a ≡ b
      the_same e = cc

-- a link to the next literal with a word
pub record Leads (f : List ℕ) (body word link : ℕ) : Type 0 where
  pub within : link ≤ length (keys_in f body)
  pub here : (link ≡ 0 → ⊥) → get_or (keys_in f body) (link - 1) 0 ≡ word

module _ {f m : List ℕ} {body : ℕ} (g : Linked f body m 0) where
  abbrev ks : List ℕ
  ks = keys_in f body

  abbrev ss : List Scan
  ss = scans_in f body

  same : length ss ≡ length ks
  same = same_count (take body f) begun

  leads-from : (word i : ℕ) → i ≤ length (keys_in f body) → Leads f body word (first_from word i (drop i (keys_in f body)))
  leads-from word i h =
      record {
        within = first_most ks word i h;
        here = λ n.
            let one : first_from word i (drop i ks) ≡ first_from word i (drop i ks) - 1 + 1 = omega arith in
            (first_found ks h one).here;
      }

  -- the first
  module _ (word : ℕ) {link : ℕ} (el : link ≡ first_from word 0 (keys_in f body)) where
    pub leads_first : Leads f body word link
    leads_first = rw el (leads-from word 0 (omega arith))

    pub all_ahead : kind_of word ≡ 2 → entries_from word begun (take body f) ≡ ahead (keys_in f body) (scans_in f body) word link
    all_ahead kind = scan_picks word kind (take body f) begun ∙ picks_from ks ss same word 0 (omega arith) ∙ ap (ahead ks ss word) (sym el)

  -- the next
  module _ (word : ℕ) {link : ℕ} (leads : Leads f body word link) (n : link ≡ 0 → ⊥) where
    inside : link - 1 < length (keys_in f body)
    inside = omega (arith, leads.within)

    entry : (s : Scan) × (get_elem? (scans_in f body) (link - 1) ≡ some s)
    entry = elem_some ss (link - 1) (omega (arith, inside, same))

    at : Scanned (take body f) (keys_in f body) (scans_in f body) begun (link - 1) entry.0
    at = scan_at (take body f) (link - 1) entry.1

    pub lead_low : (length m ≡ work_words) × (link - 1 < most_noted)
    lead_low = (g.indexed.size, literal_low g.indexed (link - 1) inside)

    pub lead_unpacks : Unpacks m (link - 1)
    lead_unpacks = unpacks g.indexed (link - 1) entry.1

    next_is : link_at m (link - 1) ≡ first_from word (link - 1 + 1) (drop (link - 1 + 1) (keys_in f body))
    next_is = g.links (link - 1) (omega arith) inside ∙ ap (λ (w : ℕ). first_from w (link - 1 + 1) (drop (link - 1 + 1) ks)) (leads.here n)

    module _ {next : ℕ} (en : next ≡ link_at m (link - 1)) where
      pub leads_next : Leads f body word next
      leads_next = rw (en, next_is) (leads-from word (link - 1 + 1) (omega (arith, inside)))

      pub lead_less : (4096 - next) % 4096 < (4096 - link) % 4096
      lead_less =
          let low = lead_low in
          decide (eqb next 0)
          (λ b. let z : next ≡ 0 = eqb-true next 0 b in rw z (omega arith))
          (λ b.
          let z : next ≡ 0 → ⊥ = eqb-false next 0 b in
          let found : FirstAt ks word (link - 1 + 1) (next - 1) = first_found ks (omega (arith, inside)) (sym next_is ∙ sym en ∙ omega arith) in
          let bounded = literal_low g.indexed (next - 1) found.inside in
          omega (arith, found.from))

      module _ {s : Scan} (es : s ≡ unpacked m (link - 1)) where
        is : s ≡ entry.0
        is = es ∙ unpacked_is g.indexed (link - 1) entry.1

        pub lead_ahead : ahead (keys_in f body) (scans_in f body) word link ≡ s ∷ ahead (keys_in f body) (scans_in f body) word next
        lead_ahead =
            let one : link ≡ link - 1 + 1 = omega arith in
            ap (ahead ks ss word) one
            ∙ ahead_next ks ss same word (link - 1) inside (leads.here n) (entry.1 ∙ ap some (sym is))
            ∙ ap (λ (k : ℕ). s ∷ ahead ks ss word k) (sym (en ∙ next_is))

        pub lead_stands : Standing (take body f) s
        lead_stands = rw is at.standing

        pub lead_inside : s.at < body
        lead_inside = rw is (omega (arith, at.inside, body_length f body g.indexed.fits))

        pub lead_word : get_or f s.at 0 ≡ word
        lead_word = sym (get_or-take body f s.at 0 lead_inside) ∙ rw is (sym at.key) ∙ leads.here n

pub ahead_none : (ks : List ℕ) (ss : List Scan) (word : ℕ) {link : ℕ} → link ≡ 0 → ahead ks ss word link ≡ []
unfolding ahead
ahead_none ks ss word z = rw z
