-- A text with one question: its table's words from those of its clauses in the order of the text, where the question stands, and whether it is denied.
use mathlib.Core.Bool.{Bool, true, false}
use mathlib.Core.List.{List, [], ◌∷◌, ◌++◌, append_assoc}
use mathlib.Core.Path.{◌≡◌, refl, sym, ap, ap₂, subst, ◌∙◌}
use Prim.Native.Nat.{ℕ, zero, suc, ◌+◌, ◌-◌, ◌≤◌, ◌<◌}
use native.Mathlib.Omega.{arith}
use borrow.Author.Tests.{le-leb}
use lib.ListN.{length, take, drop, length-append, length-drop}
use lib.Seq.{take_at, drop_at, drop-append-add}
use Rattle.words.specs.Fingerprint.{fingerprint}
use Rattle.names.specs.Numbers.{Name}
use Rattle.table.specs.Syntax.{all_clauses}
use Rattle.table.specs.Syntax.{Literal as LiteralSaid, Clause as ClauseSaid}
use Rattle.table.specs.Encode.{clause_words, clauses_words, body_words, file_words}
use Rattle.table.specs.Limits.{Each, ClauseWithin, Within}
use Rattle.table.specs.Build.{at_front, sealed}
use Rattle.table.proofs.Building.{clauses_snoc, sealed_file}
use Rattle.clausetext.specs.Syntax.{Term, variable, application, Terms, nil, ◌then◌, Literal, Role, Axiom, Hypothesis, NegatedConjecture, Clause, question}
use Rattle.clausetext.specs.Texts.{questions}
use Rattle.tptp.specs.Said.{predicates, functions, variables, literal_said, literals_said, clause_said, clauses_said, stated, asked, table_said}
use Rattle.tptp.specs.Sketch.{Item, term_items, terms_items, literal_sort, literal_items, literals_items, clause_sort, clause_items, clauses_items}
use Rattle.tptp.specs.Memory.{items_of}
use Rattle.tptp.specs.Body.{bodies, ClauseFits, part, moved_last, ahead}
use Rattle.tptp.specs.Reads.{Denied}
use Rattle.tptp.proofs.Ahead.{item_ahead, ahead_items, Before, ahead_past, ahead_all}
use Rattle.tptp.proofs.Trees.{each_front, each_rest, each_both}
use Rattle.tptp.proofs.Splits.{clause_long, clauses_long, words_append, said_append, said_long, bodies_append, bodies_long, items_append, stated_append, stated_all, asked_append, Split}

-- the sorts of items
mutual
  unfolding term_items terms_items Each

  term-sorts : (t : Term) → Each (Before 2) (term_items t)
  term-sorts (variable x) = (omega arith, tt)
  term-sorts (application f ts) = (omega arith, terms-sorts ts)

  terms-sorts : (ts : Terms) → Each (Before 2) (terms_items ts)
  terms-sorts nil = tt
  terms-sorts (t then ts) = each_both (Before 2) (term_items t) (terms_items ts) (term-sorts t) (terms-sorts ts)

later : (a b : ℕ) → a ≤ b → (is : List Item) → Each (Before a) is → Each (Before b) is
unfolding Each
later a b h [] e = tt
later a b h (i ∷ is) e = (omega (arith, e.0), later a b h is e.1)

literal_low : (b : Bool) → literal_sort b < 4
literal_low true = omega arith
literal_low false = omega arith

pub literals_sorts : (ls : List Literal) → Each (Before 4) (literals_items ls)
unfolding literals_items literal_items Each
literals_sorts [] = tt
literals_sorts (l ∷ ls) =
    each_both (Before 4) (literal_items l) (literals_items ls)
    (literal_low l.negative, later 2 4 (omega arith) (terms_items l.arguments) (terms-sorts l.arguments)) (literals_sorts ls)

clause_low : (r : Role) → question r ≡ 0 → clause_sort r < 5
clause_low Axiom e = omega arith
clause_low Hypothesis e = omega arith
clause_low NegatedConjecture e = absurd (omega arith)

stated_sorts : (cs : List Clause) → questions cs ≡ 0 → Each (Before 5) (clauses_items cs)
unfolding clauses_items clause_items questions Each
stated_sorts [] e = tt
stated_sorts (c ∷ cs) e = (
  clause_low c.role (omega arith),
  each_both (Before 5) (literals_items c.literals) (clauses_items cs) (later 4 5 (omega arith) (literals_items c.literals) (literals_sorts c.literals))
      (stated_sorts cs (omega arith)),
)

clause_high : (r : Role) → 4 ≤ clause_sort r
clause_high Axiom = omega arith
clause_high Hypothesis = omega arith
clause_high NegatedConjecture = omega arith

pub clauses_next : (sort : ℕ) → sort ≤ 4 → (cs : List Clause) → item_ahead sort (clauses_items cs) ≡ 0
unfolding clauses_items clause_items item_ahead
clauses_next sort h [] = refl
clauses_next sort h (c ∷ cs) = rw (le-leb sort (clause_sort c.role) (omega (arith, clause_high c.role)))

-- all literals negative
negative_low : (b : Bool) → b ≡ true → literal_sort b < 3
negative_low true e = omega arith
negative_low false e = let z : ◌≡◌ {A = ℕ} 0 1 = cc in absurd (omega arith)

low_negative : (b : Bool) → literal_sort b < 3 → b ≡ true
low_negative true h = refl
low_negative false h = absurd (omega arith)

module _ (ps fs vs : List Name) where
  denied-sorts : (ls : List Literal) → Each (λ (l : LiteralSaid ℕ). l.negative ≡ true) (literals_said ps fs vs ls) → Each (Before 3) (literals_items ls)
  unfolding literals_items literal_items literals_said literal_said Each
  denied-sorts [] e = tt
  denied-sorts (l ∷ ls) e =
      each_both (Before 3) (literal_items l) (literals_items ls)
      (negative_low l.negative e.0, later 2 3 (omega arith) (terms_items l.arguments) (terms-sorts l.arguments)) (denied-sorts ls e.1)

  sorts-denied : (ls : List Literal) → Each (Before 3) (literals_items ls) → Each (λ (l : LiteralSaid ℕ). l.negative ≡ true) (literals_said ps fs vs ls)
  unfolding literals_items literal_items literals_said literal_said Each
  sorts-denied [] e = tt
  sorts-denied (l ∷ ls) e = (
    low_negative l.negative e.0,
    sorts-denied ls (each_rest (Before 3) (literal_items l) (literals_items ls) e),
  )

pub items_drop : (text : List ℕ) (n : ℕ) (ms ps : List ℕ) → items_of text (drop n ms) (drop n ps) ≡ drop n (items_of text ms ps)
unfolding items_of
items_drop text zero ms ps = refl
items_drop text (suc n) [] ps = refl
items_drop text (suc n) (m ∷ ms) [] = none n ms
  where
    none : (n : ℕ) (ms : List ℕ) → items_of text (drop n ms) [] ≡ []
    none zero [] = refl
    none zero (m ∷ ms) = refl
    none (suc n) [] = refl
    none (suc n) (m ∷ ms) = none n ms
items_drop text (suc n) (m ∷ ms) (p ∷ ps) = items_drop text n ms ps

-- the limits clause by clause, in the order of the text
module _ (cs : List Clause) where
  each-said : (ds : List Clause) → Each (ClauseFits cs) ds → Each ClauseWithin (clauses_said (predicates cs) (functions cs) (bodies ds))
  unfolding clauses_said bodies Each
  each-said [] e = tt
  each-said (d ∷ ds) e = (e.0, each-said ds e.1)

  said_each : (ds : List Clause) → Each ClauseWithin (clauses_said (predicates cs) (functions cs) (bodies ds)) → Each (ClauseFits cs) ds
  unfolding clauses_said bodies Each
  said_each [] e = tt
  said_each (d ∷ ds) e = (e.0, said_each ds e.1)

  module _ (s : Split cs) where
    abbrev ps : List Name
    ps = predicates cs

    abbrev fs : List Name
    fs = functions cs

    stated-is : stated cs ≡ bodies s.front ++ bodies s.back
    unfolding stated
    stated-is =
        ap (λ (l : List Clause). stated l) s.is
        ∙ stated_append s.front (s.this ∷ s.back) s.none_front
        ∙ rw s.asks (ap (λ (l : List (List Literal)). bodies s.front ++ l) (stated_all s.back s.none_back))

    asked_is : asked cs ≡ s.this.literals
    unfolding asked
    asked_is = ap (λ (l : List Clause). asked l) s.is ∙ asked_append s.front (s.this ∷ s.back) s.none_front ∙ rw s.asks

    abbrev front : List ℕ
    front = clauses_words (clauses_said ps fs (bodies s.front))

    abbrev own : List ℕ
    own = clause_words (clause_said ps fs s.this.literals)

    abbrev back : List ℕ
    back = clauses_words (clauses_said ps fs (bodies s.back))

    text-words : clauses_words (clauses_said ps fs (bodies cs)) ≡ front ++ (own ++ back)
    unfolding clauses_said clauses_words bodies
    text-words =
        ap (λ (l : List Clause). clauses_words (clauses_said ps fs (bodies l))) s.is
        ∙ ap (λ (l : List (List Literal)). clauses_words (clauses_said ps fs l)) (bodies_append s.front (s.this ∷ s.back))
        ∙ words_append ps fs (bodies s.front) (bodies (s.this ∷ s.back))

    table-front : clauses_words (table_said cs).clauses ≡ front ++ back
    unfolding table_said
    table-front = ap (λ (l : List (List Literal)). clauses_words (clauses_said ps fs l)) stated-is ∙ words_append ps fs (bodies s.front) (bodies s.back)

    question_words_lem : clause_words (table_said cs).question ≡ own
    unfolding table_said
    question_words_lem = ap (λ (ls : List Literal). clause_words (clause_said ps fs ls)) asked_is

    table-words : body_words (table_said cs) ≡ (front ++ back) ++ own
    unfolding body_words all_clauses
    table-words =
        clauses_snoc (table_said cs).clauses (table_said cs).question ∙ ap₂ (λ (a b : List ℕ). a ++ b) table-front question_words_lem

    all_said : all_clauses (table_said cs) ≡ (clauses_said ps fs (bodies s.front) ++ clauses_said ps fs (bodies s.back)) ++ (clause_said ps fs s.this.literals ∷ [])
    unfolding all_clauses table_said
    all_said =
        ap₂ (λ (a : List ClauseSaid) (b : List Literal). a ++ (clause_said ps fs b ∷ []))
        (ap (λ (l : List (List Literal)). clauses_said ps fs l) stated-is ∙ said_append ps fs (bodies s.front) (bodies s.back))
        asked_is

    pub all-count : length (all_clauses (table_said cs)) ≡ length cs
    all-count =
        ap (λ (l : List ClauseSaid). length l) all_said
        ∙ length-append (clauses_said ps fs (bodies s.front) ++ clauses_said ps fs (bodies s.back)) (clause_said ps fs s.this.literals ∷ [])
        ∙ omega (
          arith,
          length-append (clauses_said ps fs (bodies s.front)) (clauses_said ps fs (bodies s.back)),
          said_long ps fs (bodies s.front),
          said_long ps fs (bodies s.back),
          bodies_long s.front,
          bodies_long s.back,
          ap (λ (l : List Clause). length l) s.is,
          length-append s.front (s.this ∷ s.back),
        )

    pub within-said : Within (table_said cs) → Each (ClauseFits cs) cs
    unfolding Each
    within-said w =
        let e : Each ClauseWithin ((clauses_said ps fs (bodies s.front) ++ clauses_said ps fs (bodies s.back)) ++ (clause_said ps fs s.this.literals ∷ [])) =
        subst (λ (l : List ClauseSaid). Each ClauseWithin l) all_said w.clauses in
        let both : Each ClauseWithin (clauses_said ps fs (bodies s.front) ++ clauses_said ps fs (bodies s.back)) =
        each_front ClauseWithin (clauses_said ps fs (bodies s.front) ++ clauses_said ps fs (bodies s.back)) (clause_said ps fs s.this.literals ∷ []) e in
        let this : Each ClauseWithin (clause_said ps fs s.this.literals ∷ []) =
        each_rest ClauseWithin (clauses_said ps fs (bodies s.front) ++ clauses_said ps fs (bodies s.back)) (clause_said ps fs s.this.literals ∷ []) e in
        subst (λ (l : List Clause). Each (ClauseFits cs) l) (sym s.is)
        (each_both (ClauseFits cs) s.front (s.this ∷ s.back)
        (said_each s.front (each_front ClauseWithin (clauses_said ps fs (bodies s.front)) (clauses_said ps fs (bodies s.back)) both))
        (this.0, said_each s.back (each_rest ClauseWithin (clauses_said ps fs (bodies s.front)) (clauses_said ps fs (bodies s.back)) both)))

    pub said-within : length cs ≤ 512 → Each (ClauseFits cs) cs → Within (table_said cs)
    unfolding Each
    said-within h w =
        let e : Each (ClauseFits cs) (s.front ++ (s.this ∷ s.back)) = subst (λ (l : List Clause). Each (ClauseFits cs) l) s.is w in
        let rest : Each (ClauseFits cs) (s.this ∷ s.back) = each_rest (ClauseFits cs) s.front (s.this ∷ s.back) e in
        record {
          few = omega (arith, all-count);
          clauses = subst (λ (l : List ClauseSaid). Each ClauseWithin l) (sym all_said)
              (each_both ClauseWithin (clauses_said ps fs (bodies s.front) ++ clauses_said ps fs (bodies s.back)) (clause_said ps fs s.this.literals ∷ [])
              (each_both ClauseWithin (clauses_said ps fs (bodies s.front)) (clauses_said ps fs (bodies s.back))
              (each-said s.front (each_front (ClauseFits cs) s.front (s.this ∷ s.back) e)) (each-said s.back rest.1))
              (rest.0, tt));
        }

    -- where the question stands
    abbrev place : ℕ
    place = length (clauses_items s.front)

    abbrev lits : List Item
    lits = literals_items s.this.literals

    items-are : clauses_items cs ≡ clauses_items s.front ++ (clause_items s.this ++ clauses_items s.back)
    unfolding clauses_items
    items-are = ap (λ (l : List Clause). clauses_items l) s.is ∙ items_append s.front (s.this ∷ s.back)

    module _ (text marks places : List ℕ) (even : length marks ≡ length places) (held : items_of text marks places ≡ clauses_items cs) where
      pub question-at : {at : ℕ} → at ≡ 0 + ahead 5 (drop 0 marks) → at ≡ place
      unfolding item_ahead clause_items
      question-at e =
          e ∙ omega (
            arith,
            ahead_items text 5 marks places even,
            ap (λ (l : List Item). item_ahead 5 l) (held ∙ items-are),
            ahead_past 5 (clauses_items s.front) (clause_items s.this ++ clauses_items s.back) (stated_sorts s.front s.none_front),
            none_more,
          )
        where
          none_more : item_ahead 5 (clause_items s.this ++ clauses_items s.back) ≡ 0
          none_more = rw s.asks

      after-question : {at : ℕ} → at ≡ place → (sort : ℕ) → ahead sort (drop (at + 1) marks) ≡ item_ahead sort (lits ++ clauses_items s.back)
      unfolding clause_items
      after-question e sort =
          rw e
          (ahead_items text sort (drop (place + 1) marks) (drop (place + 1) places)
          (omega (arith, length-drop (place + 1) marks, length-drop (place + 1) places))
          ∙ ap (λ (l : List Item). item_ahead sort l)
          (items_drop text (place + 1) marks places ∙ ap (λ (l : List Item). drop (place + 1) l) (held ∙ items-are)
          ∙ drop-append-add (clauses_items s.front) (clause_items s.this ++ clauses_items s.back) 1))

      module _ {at : ℕ} (p : at ≡ place) where
        pub question-end : {end : ℕ} → end ≡ at + 1 + ahead 4 (drop (at + 1) marks) → end ≡ at + 1 + length lits
        question-end e =
            e ∙ omega (arith, after-question p 4, ahead_past 4 lits (clauses_items s.back) (literals_sorts s.this.literals), clauses_next 4 (omega arith) s.back)

        module _ {end third : ℕ} (e : end ≡ at + 1 + ahead 4 (drop (at + 1) marks)) (t : third ≡ at + 1 + ahead 3 (drop (at + 1) marks)) where
          pub denied-found : third ≡ end → Denied (table_said cs)
          unfolding table_said clause_said
          denied-found q =
              subst (λ (ls : List Literal). Each (λ (l : LiteralSaid ℕ). l.negative ≡ true) (literals_said ps fs (variables ls) ls)) (sym asked_is)
              (sorts-denied ps fs (variables s.this.literals) s.this.literals
              (ahead_all 3 lits (clauses_items s.back) (omega (arith, question-end e, after-question p 3))))

          pub denied-not : (third ≡ end → ⊥) → Denied (table_said cs) → ⊥
          unfolding table_said clause_said
          denied-not q d =
              let n : Each (Before 3) lits = denied-sorts ps fs (variables s.this.literals) s.this.literals
              (subst (λ (ls : List Literal). Each (λ (l : LiteralSaid ℕ). l.negative ≡ true) (literals_said ps fs (variables ls) ls)) asked_is d) in
              q (omega (arith, question-end e, after-question p 3, ahead_past 3 lits (clauses_items s.back) n, clauses_next 3 (omega arith) s.back))

    -- the file written
    module _ {words : List ℕ} (w : words ≡ clauses_words (clauses_said ps fs (bodies cs))) {at end : ℕ} (p : at ≡ place) (e : end ≡ at + 1 + length lits) where
      front_long : length front ≡ at
      front_long = clauses_long ps fs s.front ∙ sym p

      own-long : length own ≡ 1 + length lits
      unfolding clause_items
      own-long = clause_long ps fs s.this ∙ omega arith

      both_long : length (front ++ own) ≡ end
      both_long = length-append front own ∙ omega (arith, front_long, own-long, e)

      taken-front : take at words ≡ front
      taken-front = rw (w, text-words) (take_at front (own ++ back) at front_long)

      dropped-back : drop end words ≡ back
      dropped-back = rw (w, text-words, ← append_assoc front own back) (drop_at (front ++ own) back end both_long)

      taken_own : part at end words ≡ own
      taken_own =
          let z : end - at ≡ length own = omega (arith, e, own-long) in
          rw (w, text-words, drop_at front (own ++ back) at front_long, z) (take_at own back (length own) refl)

      pub moved-words : moved_last words at end ≡ body_words (table_said cs)
      moved-words = rw (taken-front, dropped-back, taken_own) (sym table-words)

      words_count : length words ≡ at + length own + length back
      words_count = ap (λ (l : List ℕ). length l) (w ∙ text-words) ∙ omega (arith, length-append front (own ++ back), length-append own back, front_long)

      pub end_inside : end ≤ length words
      end_inside = omega (arith, words_count, e, own-long)

      pub body-count : length words ≡ length (body_words (table_said cs))
      body-count =
          words_count
          ∙ omega (arith, ap (λ (l : List ℕ). length l) table-words, length-append (front ++ back) own, length-append front back, front_long)

      pub question_place : at + (length words - end) ≡ length (clauses_words (table_said cs).clauses)
      question_place =
          omega (arith, words_count, e, own-long, ap (λ (l : List ℕ). length l) table-front, length-append front back, front_long)

      pub file-count : length words + 4 ≡ length (file_words (table_said cs))
      unfolding file_words
      file-count = omega (arith, body-count, length-append (body_words (table_said cs)) (length (clauses_words (table_said cs).clauses) ∷ length (all_clauses (table_said cs)) ∷ fingerprint (body_words (table_said cs)) ∷ length (body_words (table_said cs)) ∷ []))

      pub file_written : {clauses : ℕ} → clauses ≡ length cs → (file : List ℕ)
          → sealed (at_front (moved_last words at end) file) (length words) (at + (length words - end)) clauses ≡ at_front (file_words (table_said cs)) file
      file_written c file =
          rw (moved-words, question_place, body-count, c, ← all-count) (sealed_file (table_said cs) file)
