-- A text with one question: the clauses before it and after it, their words and their items.
use mathlib.Core.List.{List, [], ◌∷◌, ◌++◌, append_assoc}
use mathlib.Core.Path.{◌≡◌, refl, sym, ap, ap₂, ◌∙◌}
use Prim.Native.Nat.{ℕ, suc, ◌+◌}
use native.Mathlib.Omega.{arith}
use lib.ListN.{length, length-append}
use Rattle.names.specs.Numbers.{Name}
use Rattle.table.specs.Syntax.{Clause as ClauseSaid}
use Rattle.table.specs.Encode.{term_words, terms_words, literal_words, literals_words, clause_words, clauses_words}
use Rattle.clausetext.specs.Syntax.{Term, variable, application, Terms, nil, ◌then◌, Literal, Role, Axiom, Hypothesis, NegatedConjecture, Clause, question}
use Rattle.clausetext.specs.Texts.{questions}
use Rattle.tptp.specs.Said.{term_said, terms_said, literal_said, literals_said, clause_said, clauses_said, besides, stated, asking, asked}
use Rattle.tptp.specs.Sketch.{term_items, terms_items, literal_items, literals_items, clause_items, clauses_items}
use Rattle.tptp.specs.Body.{bodies}

-- as many words as items
module _ (ps fs vs : List Name) where
  mutual
    unfolding term_items terms_items term_said terms_said term_words terms_words

    term-long : (t : Term) → length (term_words (term_said fs vs t)) ≡ length (term_items t)
    term-long (variable x) = refl
    term-long (application f ts) = ap suc (terms-long ts)

    terms-long : (ts : Terms) → length (terms_words (terms_said fs vs ts)) ≡ length (terms_items ts)
    terms-long nil = refl
    terms-long (t then ts) =
        length-append (term_words (term_said fs vs t)) (terms_words (terms_said fs vs ts))
        ∙ ap₂ (λ (a b : ℕ). a + b) (term-long t) (terms-long ts)
        ∙ sym (length-append (term_items t) (terms_items ts))

  literals_long : (ls : List Literal) → length (literals_words (literals_said ps fs vs ls)) ≡ length (literals_items ls)
  unfolding literals_items literal_items literals_said literal_said literals_words literal_words
  literals_long [] = refl
  literals_long (l ∷ ls) =
      ap suc
      (length-append (terms_words (terms_said fs vs l.arguments)) (literals_words (literals_said ps fs vs ls))
      ∙ ap₂ (λ (a b : ℕ). a + b) (terms-long l.arguments) (literals_long ls)
      ∙ sym (length-append (terms_items l.arguments) (literals_items ls)))

module _ (ps fs : List Name) where
  pub clause_long : (c : Clause) → length (clause_words (clause_said ps fs c.literals)) ≡ length (clause_items c)
  unfolding clause_words clause_said clause_items
  clause_long c = ap suc (literals_long ps fs _ c.literals)

  pub clauses_long : (cs : List Clause) → length (clauses_words (clauses_said ps fs (bodies cs))) ≡ length (clauses_items cs)
  unfolding clauses_words clauses_said bodies clauses_items
  clauses_long [] = refl
  clauses_long (c ∷ cs) =
      length-append (clause_words (clause_said ps fs c.literals)) (clauses_words (clauses_said ps fs (bodies cs)))
      ∙ ap₂ (λ (a b : ℕ). a + b) (clause_long c) (clauses_long cs)
      ∙ sym (length-append (clause_items c) (clauses_items cs))

  pub words_append : (xs ys : List (List Literal)) → clauses_words (clauses_said ps fs (xs ++ ys)) ≡ clauses_words (clauses_said ps fs xs) ++ clauses_words (clauses_said ps fs ys)
  unfolding clauses_words clauses_said
  words_append [] ys = refl
  words_append (x ∷ xs) ys =
      rw (words_append xs ys) (sym (append_assoc (clause_words (clause_said ps fs x)) (clauses_words (clauses_said ps fs xs)) (clauses_words (clauses_said ps fs ys))))

  pub said_append : (xs ys : List (List Literal)) → clauses_said ps fs (xs ++ ys) ≡ clauses_said ps fs xs ++ clauses_said ps fs ys
  unfolding clauses_said
  said_append [] ys = refl
  said_append (x ∷ xs) ys = ap (λ (l : List ClauseSaid). clause_said ps fs x ∷ l) (said_append xs ys)

  pub said_long : (xs : List (List Literal)) → length (clauses_said ps fs xs) ≡ length xs
  unfolding clauses_said
  said_long [] = refl
  said_long (x ∷ xs) = ap suc (said_long xs)

pub bodies_append : (xs ys : List Clause) → bodies (xs ++ ys) ≡ bodies xs ++ bodies ys
unfolding bodies
bodies_append [] ys = refl
bodies_append (x ∷ xs) ys = ap (λ (l : List (List Literal)). x.literals ∷ l) (bodies_append xs ys)

pub bodies_long : (xs : List Clause) → length (bodies xs) ≡ length xs
unfolding bodies
bodies_long [] = refl
bodies_long (x ∷ xs) = ap suc (bodies_long xs)

pub items_append : (xs ys : List Clause) → clauses_items (xs ++ ys) ≡ clauses_items xs ++ clauses_items ys
unfolding clauses_items
items_append [] ys = refl
items_append (x ∷ xs) ys = rw (items_append xs ys) (sym (append_assoc (clause_items x) (clauses_items xs) (clauses_items ys)))

-- clauses without a question
role_states : (r : Role) → question r ≡ 0 → (ls : List Literal) (more : List (List Literal)) → besides r ls more ≡ ls ∷ more
role_states Axiom e ls more = refl
role_states Hypothesis e ls more = refl
role_states NegatedConjecture e ls more = absurd (omega arith)

role_asks : (r : Role) → question r ≡ 0 → (ls more : List Literal) → asking r ls more ≡ more
role_asks Axiom e ls more = refl
role_asks Hypothesis e ls more = refl
role_asks NegatedConjecture e ls more = absurd (omega arith)

pub stated_append : (xs ys : List Clause) → questions xs ≡ 0 → stated (xs ++ ys) ≡ bodies xs ++ stated ys
unfolding stated bodies questions
stated_append [] ys e = refl
stated_append (x ∷ xs) ys e =
    role_states x.role (omega arith) x.literals (stated (xs ++ ys)) ∙ ap (λ (l : List (List Literal)). x.literals ∷ l) (stated_append xs ys (omega arith))

pub stated_all : (xs : List Clause) → questions xs ≡ 0 → stated xs ≡ bodies xs
unfolding stated bodies questions
stated_all [] e = refl
stated_all (x ∷ xs) e = role_states x.role (omega arith) x.literals (stated xs) ∙ ap (λ (l : List (List Literal)). x.literals ∷ l) (stated_all xs (omega arith))

pub asked_append : (xs ys : List Clause) → questions xs ≡ 0 → asked (xs ++ ys) ≡ asked ys
unfolding asked questions
asked_append [] ys e = refl
asked_append (x ∷ xs) ys e = role_asks x.role (omega arith) x.literals (asked (xs ++ ys)) ∙ asked_append xs ys (omega arith)

-- the one question
pub record Split (cs : List Clause) : Type 0 where
  pub front : List Clause
  pub this : Clause
  pub back : List Clause
  pub is : cs ≡ front ++ (this ∷ back)
  pub asks : this.role ≡ NegatedConjecture
  pub none_front : questions front ≡ 0
  pub none_back : questions back ≡ 0

split_of : (c : Clause) (cs : List Clause) (r : Role) → c.role ≡ r → question r + questions cs ≡ 1 → (questions cs ≡ 1 → Split cs) → Split (c ∷ cs)
unfolding questions
split_of c cs NegatedConjecture e h f =
    record { front = []; this = c; back = cs; is = refl; asks = e; none_front = refl; none_back = omega arith }
split_of c cs Axiom e h f =
    let s = f (omega arith) in
    record {
      front = c ∷ s.front;
      this = s.this;
      back = s.back;
      is = ap (λ (l : List Clause). c ∷ l) s.is;
      asks = s.asks;
      none_front = rw e (omega (arith, s.none_front));
      none_back = s.none_back;
    }
split_of c cs Hypothesis e h f =
    let s = f (omega arith) in
    record {
      front = c ∷ s.front;
      this = s.this;
      back = s.back;
      is = ap (λ (l : List Clause). c ∷ l) s.is;
      asks = s.asks;
      none_front = rw e (omega (arith, s.none_front));
      none_back = s.none_back;
    }

pub split : (cs : List Clause) → questions cs ≡ 1 → Split cs
unfolding questions
split [] h = absurd (omega arith)
split (c ∷ cs) h = split_of c cs c.role refl h (split cs)
