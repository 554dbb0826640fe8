-- The words of a copy, one after the other: each stands for what it says, and together they stand for the copy's literals.
use lib.ListN.{length, take, drop, get_or}
use lib.Seq.{drop-cons, length-take-le}
use borrow.Author.Tests.{leb-true}
use mathlib.Core.Bool.{Bool, true, false, cond}
use mathlib.Core.List.{List, [], ◌∷◌, ◌++◌, map, append_assoc}
use mathlib.Core.Option.{none, some}
use mathlib.Core.Path.{◌≡◌, refl, sym, ◌∙◌, ap, ap₂}
use native.Mathlib.Nat.{zero-add, add-zero}
use native.Mathlib.Numerals.{add-one}
use native.Mathlib.Omega.{arith}
use Prim.Native.Nat.{ℕ, zero, suc, ◌+◌, ◌*◌, ◌-◌, ◌/◌, ◌%◌, ◌^◌, ◌≤◌, ◌<◌}
use Rattle.words.specs.Fields.{kind_of, number_of, symbol_of, arity_of, sign_of, literals_of, variables_of, following_of, variable_shaped, function_shaped, literal_shaped, clause_shaped, function_word, literal_word}
use Rattle.words.proofs.Packed.{bits_small, plain_kind, literal_plain, literal_word_lem, sign_bit_lem}
use Rattle.table.specs.Syntax.{Terms, nil, ◌then◌, arity, under, unders, Literal, literal_under}
use Rattle.table.specs.Reading.{variable_fits, term_arity, after_term, after_literal, after, stops_short, onward, fault, clause_fits, clause_fault}
use Rattle.table.specs.Decode.{first, rest, terms_from, literal_of, literals_from, clause_of}
use Rattle.table.proofs.Bools.{and_left, and_right}
use Rattle.table.proofs.Decoding.{from_literal, literals_literal, literals_other}
use Rattle.rules.specs.Substitution.{Variable, Substitution}
use Rattle.rules.specs.Tableau.{fresh, copy_of}
use Rattle.rules.specs.Answer.{positive, disjunct}
use Rattle.unification.specs.Places.{most_references}
use Rattle.unification.specs.State.{start_at, copies_of, own_words, ClauseAt, words_at, literal_at_reference, Points}
use Rattle.unification.specs.Good.{word_at, Inside, LiteralStands, Good}
use Rattle.answers.specs.Writing.{Item, fixed, items_of, items_among, items_of_all, items_by_kind, word_items, words_items, unsigned, standing, WordStands}
use Rattle.tableaux.proofs.Hanging.{own_small, own_inside, own_word}
use Rattle.unification.proofs.TermLists.{arity_first, arity_rest, arity_under}
use Rattle.unification.proofs.Words.{function_kind, from_variable, from_function}
use Rattle.answers.proofs.Resolved.{function_stands}

-- a word that was owed, and what is owed after it
pub data Owes (w : ℕ) : ℕ → ℕ → ℕ → ℕ → Type 0 where
  a_variable : {l t : ℕ} → kind_of w ≡ 0 → Owes w l (suc t) l t
  a_function : {l t : ℕ} → function_shaped w ≡ true → Owes w l (suc t) l (arity_of w + t)
  a_literal : {l : ℕ} → literal_shaped w ≡ true → Owes w (suc l) 0 l (arity_of w)

pub record Goes (v l t at w : ℕ) (ws : List ℕ) : Type 0 where
  pub literals : ℕ
  pub terms : ℕ
  pub word : Owes w l t literals terms
  pub sound : fault v literals terms (at + 1) ws ≡ none

some_none : {A : Type 0} {n : ℕ} → some n ≡ none → A
some_none e = let z : ◌≡◌ {A = ℕ} 0 1 = cc in absurd (let b : ⊥ = omega arith in b)

module _ {v w : ℕ} {ws : List ℕ} where
  goes-term : (l t at : ℕ) (b c : Bool) → variable_fits v w ≡ b → function_shaped w ≡ c → fault v l (suc t) at (w ∷ ws) ≡ none → Goes v l (suc t) at w ws
  unfolding fault onward after after_term term_arity
  goes-term l t at true c eb ec e =
      record { literals = l; terms = t; word = a_variable (plain_kind 0 10 w (and_left (variable_shaped w) _ eb)); sound = rw (eb, zero-add t) at e }
  goes-term l t at false true eb ec e =
      record { literals = l; terms = arity_of w + t; word = a_function ec; sound = rw (eb, ec) at e }
  goes-term l t at false false eb ec e = some_none (rw (eb, ec) at e)

  goes_literal : (l at : ℕ) (b : Bool) → literal_shaped w ≡ b → fault v (suc l) 0 at (w ∷ ws) ≡ none → Goes v (suc l) 0 at w ws
  unfolding fault onward after after_literal
  goes_literal l at true eb e = record { literals = l; terms = arity_of w; word = a_literal eb; sound = rw eb at e }
  goes_literal l at false eb e = some_none (rw eb at e)

  pub goes : (l t at : ℕ) → fault v l t at (w ∷ ws) ≡ none → Goes v l t at w ws
  unfolding fault onward after
  goes l (suc t) at e = goes-term l t at (variable_fits v w) (function_shaped w) refl refl e
  goes (suc l) zero at e = goes_literal l at (literal_shaped w) refl e
  goes zero zero at e = some_none e

literal_kind : (w : ℕ) → literal_shaped w ≡ true → kind_of w ≡ 2
literal_kind w s = plain_kind 2 16 w (literal_plain w s)

literal_stands : (w : ℕ) → literal_shaped w ≡ true → w < 2 ^ 32 → unsigned w ≡ standing (kind_of w) w
literal_stands w s l =
    rw (literal_kind w s) (omega (arith, rw (sign_bit_lem (sign_of w) (bits_small 15 1 w)) at (literal_word_lem w s l)))

-- what the words stand for: the terms up to the next literal, then the literals
module _ (σ : Substitution) (copy : ℕ) where
  abbrev terms_here : List ℕ → List Item
  terms_here ws = items_among (unders σ (unders (fresh copy) (terms_from ws)))

  abbrev literals_here : List (Literal ℕ) → List Item
  literals_here ls = items_of_all (map (λ l. literal_under σ (positive l)) (map (literal_under (fresh copy)) ls))

  record Flat (t : ℕ) (ws : List ℕ) : Type 0 where
    arities : arity (terms_from ws) ≡ t
    items : terms_here ws ++ literals_here (literals_from ws) ≡ words_items σ copy ws

  split_here : (a : ℕ) (ts : Terms ℕ)
      → items_among (unders σ (unders (fresh copy) (first a ts))) ++ items_among (unders σ (unders (fresh copy) (rest a ts))) ≡ items_among (unders σ (unders (fresh copy) ts))
  unfolding first rest under items_of
  split_here zero ts = refl
  split_here (suc a) nil = refl
  split_here (suc a) (t then ts) =
      append_assoc (items_of (under σ (under (fresh copy) t))) _ _ ∙ ap (items_of (under σ (under (fresh copy) t)) ++◌) (split_here a ts)

  arity_here : (ts : Terms ℕ) → arity (unders σ (unders (fresh copy) ts)) ≡ arity ts
  arity_here ts = arity_under σ (unders (fresh copy) ts) ∙ arity_under (fresh copy) ts

  flat_word : (w : ℕ) (ws : List ℕ) {l t l' t' : ℕ} → Owes w l t l' t' → Flat t' ws → Flat t (w ∷ ws)
  unfolding words_items items_by_kind items_of items_of_all under fresh arity literal_under positive
  flat_word w ws (a_variable k) d =
      let ts = from_variable w ws k in
      let ls = literals_other w ws (λ e. omega (arith, e, k)) in
      let x : Variable = record { copy = copy; number = number_of w } in
      record {
        arities = rw ts (ap suc d.arities);
        items = rw (ts, ls, k) (append_assoc (items_of (σ x)) (terms_here ws) (literals_here (literals_from ws)) ∙ ap (items_of (σ x) ++◌) d.items);
      }
  flat_word w ws (a_function s) d =
      let k = function_kind w s in
      let ts = from_function w ws k in
      let ls = literals_other w ws (λ e. omega (arith, e, k)) in
      record {
        arities = rw ts (omega (arith, arity_rest (arity_of w) (terms_from ws), d.arities));
        items =
            rw (ts, ls, k)
            (ap₂ (λ (a : ℕ) (is : List Item). fixed (function_word (symbol_of w) a) ∷ is)
            (arity_here (first (arity_of w) (terms_from ws)) ∙ arity_first (arity_of w) (terms_from ws) (omega (arith, d.arities)))
            (ap (◌++ literals_here (literals_from ws)) (split_here (arity_of w) (terms_from ws)) ∙ d.items));
      }
  flat_word w ws (a_literal s) d =
      let k = literal_kind w s in
      let ts = from_literal w ws k in
      let ls = literals_literal w ws k in
      record {
        arities = rw ts refl;
        items =
            rw (ts, ls, k)
            (ap₂ (λ (a : ℕ) (is : List Item). fixed (literal_word false (symbol_of w) a) ∷ is) (arity_here (terms_from ws) ∙ d.arities) d.items);
      }

  flat_none : (v l t at : ℕ) → fault v l t at [] ≡ none → Flat t []
  unfolding fault stops_short terms_from literals_from words_items items_of items_of_all under arity
  flat_none v l (suc t) at e = some_none e
  flat_none v (suc l) zero at e = some_none e
  flat_none v zero zero at e = record { arities = refl; items = refl }

  flat : (v : ℕ) (ws : List ℕ) (l t at : ℕ) → fault v l t at ws ≡ none → Flat t ws
  flat v [] l t at e = flat_none v l t at e
  flat v (w ∷ ws) l t at e =
      let g = goes l t at e in flat_word w ws g.word (flat v ws g.literals g.terms (at + 1) g.sound)

  -- a clause's words stand for its literals
  pub flat_literals : (v l at : ℕ) (ws : List ℕ) → fault v l 0 at ws ≡ none → literals_here (literals_from ws) ≡ words_items σ copy ws
  unfolding items_of under arity
  flat_literals v l at ws e = let d = flat v ws l 0 at e in ap (λ (ts : Terms ℕ). items_among (unders σ (unders (fresh copy) ts)) ++ literals_here (literals_from ws)) (sym (none_there (terms_from ws) d.arities)) ∙ d.items
    where
      none_there : (ts : Terms ℕ) → arity ts ≡ 0 → ts ≡ nil
      none_there nil e = refl
      none_there (t then ts) e = absurd (omega arith)

-- the words of a clause that is well formed
module _ {f : List ℕ} {p : ℕ} (c : ClauseAt f p) where
  clause_fits_lem : clause_fits (get_or f p 0) (drop (suc p) f) ≡ true
  unfolding clause_fault
  clause_fits_lem = go (clause_fits (get_or f p 0) (drop (suc p) f)) refl c.sound
    where
      go : (b : Bool) → clause_fits (get_or f p 0) (drop (suc p) f) ≡ b
          → cond b (fault (variables_of (get_or f p 0)) (literals_of (get_or f p 0)) 0 1 (take (following_of (get_or f p 0)) (drop (suc p) f))) (some 0) ≡ none
          → clause_fits (get_or f p 0) (drop (suc p) f) ≡ true
      go true e s = e
      go false e s = some_none s

  pub own_words_lem : own_words f p ≡ get_or f p 0 ∷ take (following_of (get_or f p 0)) (drop (suc p) f)
  unfolding own_words
  own_words_lem = rw (drop-cons f p 0 c.inside)

  pub own_length : length (own_words f p) ≡ suc (following_of (get_or f p 0))
  own_length =
      ap length own_words_lem
      ∙ ap suc (length-take-le (following_of (get_or f p 0)) (drop (suc p) f) (leb-true _ _ (and_right (clause_shaped (get_or f p 0)) _ clause_fits_lem)))

  pub own_sound : fault (variables_of (get_or f p 0)) (literals_of (get_or f p 0)) 0 1 (drop 1 (own_words f p)) ≡ none
  unfolding clause_fault
  own_sound = rw (own_words_lem) (rw clause_fits_lem at c.sound)

  pub disjunct_items : (σ : Substitution) (copy : ℕ) → items_of_all (disjunct σ (clause_of (own_words f p)) copy) ≡ words_items σ copy (drop 1 (own_words f p))
  unfolding disjunct copy_of clause_of
  disjunct_items σ copy =
      rw own_words_lem
      (flat_literals σ copy (variables_of (get_or f p 0)) (literals_of (get_or f p 0)) 1 (take (following_of (get_or f p 0)) (drop (suc p) f)) (rw own_words_lem at own_sound))

-- a clause's words have been walked over up to an offset
pub record Reached (f : List ℕ) (p i : ℕ) : Type 0 where
  pub literals : ℕ
  pub terms : ℕ
  pub place : ℕ
  pub sound : fault (variables_of (get_or f p 0)) literals terms place (drop i (own_words f p)) ≡ none

pub own_drop : (f : List ℕ) (p i : ℕ) → i < length (own_words f p) → drop i (own_words f p) ≡ get_or f (p + i) 0 ∷ drop (i + 1) (own_words f p)
own_drop f p i h = rw add-one (drop-cons (own_words f p) i 0 h ∙ ap (◌∷ drop (suc i) (own_words f p)) (own_word f p i h))

some_term : {w l t l' t' : ℕ} → Owes w l t l' t' → kind_of w ≡ 0 → 0 < t
some_term (a_variable k) e = omega arith
some_term {w} (a_function s) e = absurd (let k = function_kind w s in omega (arith, k, e))
some_term {w} (a_literal s) e = absurd (let k = literal_kind w s in omega (arith, k, e))

a_literal_owes : {w l t l' t' : ℕ} → Owes w l t l' t' → kind_of w ≡ 2 → (l ≡ suc l') × (t ≡ 0)
a_literal_owes (a_variable k) e = absurd (omega (arith, k, e))
a_literal_owes {w} (a_function s) e = absurd (let k = function_kind w s in omega (arith, k, e))
a_literal_owes (a_literal s) e = (refl, refl)

owed_literal : (v : ℕ) {l t l' : ℕ} (place : ℕ) (ws : List ℕ) → (l ≡ suc l') × (t ≡ 0) → fault v l t place ws ≡ none → fault v (suc l') 0 place ws ≡ none
owed_literal v place ws o s = rw (o.0, o.1) at s

word_shape : {w l t l' t' : ℕ} → Owes w l t l' t' → (kind_of w ≡ 0 → ⊥) → w < 2 ^ 32 → unsigned w ≡ standing (kind_of w) w
word_shape (a_variable k) n l = absurd (n k)
word_shape {w} (a_function s) n l = function_stands w s l
word_shape {w} (a_literal s) n l = literal_stands w s l

module _ {f m : List ℕ} {copy : ℕ} (h : Good f m) (c : copy < copies_of m) where
  clause : ClauseAt f (start_at m copy)
  clause = h.starts copy c

  pub copy_inside : Inside f m (copy * 256)
  copy_inside =
      let d : copy * 256 / 256 ≡ copy = omega arith in
      let e : copy * 256 % 256 ≡ 0 = omega arith in
      record { size = h.size; copy = omega (arith, h.copies); within = rw (d, e) (omega (arith, clause.inside)) }

  pub copy_count : {w : ℕ} → w ≡ word_at f m (copy * 256) → {count : ℕ} → count ≡ following_of w → suc count ≡ length (own_words f (start_at m copy))
  copy_count {w} e {count} k =
      let d : copy * 256 / 256 ≡ copy = omega arith in
      let r : copy * 256 % 256 ≡ 0 = omega arith in
      let z : w ≡ get_or f (start_at m copy) 0 = e ∙ rw (d, r, add-zero (start_at m copy)) in
      ap suc (k ∙ ap following_of z) ∙ sym (own_length clause)

  pub copy_reached : Reached f (start_at m copy) 1
  copy_reached = record { literals = literals_of (get_or f (start_at m copy) 0); terms = 0; place = 1; sound = own_sound clause }

  module _ {i : ℕ} (r : Reached f (start_at m copy) i) (l : i < length (own_words f (start_at m copy))) where
    copy_of_is : (copy * 256 + i) / 256 ≡ copy
    copy_of_is = omega (arith, own_small f (start_at m copy))

    offset_of : (copy * 256 + i) % 256 ≡ i
    offset_of = omega (arith, own_small f (start_at m copy))

    pub offset_inside : Inside f m (copy * 256 + i)
    offset_inside =
        record { size = h.size; copy = rw copy_of_is (omega (arith, h.copies)); within = rw (copy_of_is, offset_of) (own_inside f (start_at m copy) i l) }

    pub offset_small : copy * 256 + i < most_references
    offset_small = omega (arith, own_small f (start_at m copy), h.copies)

    here : Goes (variables_of (get_or f (start_at m copy) 0)) r.literals r.terms r.place (get_or f (start_at m copy + i) 0) (drop (i + 1) (own_words f (start_at m copy)))
    here = goes r.literals r.terms r.place (rw (own_drop f (start_at m copy) i l) at r.sound)

    pub offset_reached : Reached f (start_at m copy) (i + 1)
    offset_reached = record { literals = here.literals; terms = here.terms; place = r.place + 1; sound = here.sound }

    pub offset_word : word_at f m (copy * 256 + i) ≡ get_or f (start_at m copy + i) 0
    offset_word = rw (copy_of_is, offset_of)

    offset_points : kind_of (get_or f (start_at m copy + i) 0) ≡ 0 → Points f m (copy * 256 + i) 1
    unfolding words_at
    offset_points e =
        let z : 1 + (r.terms - 1) ≡ r.terms = omega (arith, some_term here.word e) in
        record {
          made = rw copy_of_is c;
          owing = rw (copy_of_is, offset_of) (record { more = r.terms - 1; literals = r.literals; place = r.place; sound = rw z r.sound });
        }

    pub offset_literal : kind_of (word_at f m (copy * 256 + i)) ≡ 2 → LiteralStands f m (copy * 256 + i)
    unfolding words_at
    offset_literal e =
        let o = a_literal_owes here.word (ap kind_of (sym offset_word) ∙ e) in
        record { made = rw copy_of_is c; literals = here.literals; place = r.place; sound = rw (copy_of_is, offset_of) (owed_literal (variables_of (get_or f (start_at m copy) 0)) r.place (drop i (own_words f (start_at m copy))) o r.sound) }

    -- the literal there, as the copy's
    pub offset_says : literal_at_reference f m (copy * 256 + i)
        ≡ literal_under (fresh copy) (literal_of (get_or f (start_at m copy + i) 0) (terms_from (drop (i + 1) (own_words f (start_at m copy)))))
    unfolding literal_at_reference words_at
    offset_says = rw (copy_of_is, offset_of, own_drop f (start_at m copy) i l)

    module _ {w : ℕ} (e : w ≡ word_at f m (copy * 256 + i)) where
      pub offset_stands : WordStands f m (copy * 256 + i) w
      offset_stands =
          let z : w ≡ get_or f (start_at m copy + i) 0 = e ∙ offset_word in
          record { word = e; points = λ k. offset_points (ap kind_of (sym z) ∙ k); shape = rw z (word_shape here.word) }

      pub offset_items : (σ : Substitution) → words_items σ copy (drop i (own_words f (start_at m copy)))
          ≡ word_items σ ((copy * 256 + i) / 256) w ++ words_items σ copy (drop (i + 1) (own_words f (start_at m copy)))
      unfolding words_items
      offset_items σ = rw (own_drop f (start_at m copy) i l, copy_of_is, e ∙ offset_word)
