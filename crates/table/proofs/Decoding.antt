-- A list of words that is read without fault is the encoding of what it decodes to, within the limits.
use mathlib.Core.Path.{◌≡◌, refl, sym, ap, ap₂, ◌∙◌}
use mathlib.Core.Bool.{Bool, true, false}
use mathlib.Core.List.{List, [], ◌∷◌, ◌++◌, append_assoc}
use mathlib.Core.Option.{none, some}
use Prim.Native.Nat.{ℕ, zero, suc, ◌+◌}
use native.Mathlib.Omega.{arith}
use lib.Dec.{ltb}
use lib.ListN.{length}
use borrow.Author.Tests.{eq-eqb, ne_eqb, ltb-true}
use Rattle.words.specs.Fields.{kind_of, number_of, symbol_of, arity_of, negative_of, variable_shaped, function_shaped, literal_shaped, function_word, literal_word}
use Rattle.words.proofs.Packed.{bits_small, plain_kind, variable_word_lem, function_plain, function_arity_small, function_word_lem, literal_plain, literal_arity_small, literal_word_lem}
use Rattle.table.specs.Syntax.{var, app, Terms, nil, ◌then◌, arity}
use Rattle.table.specs.Encode.{term_words, terms_words, literal_words, literals_words}
use Rattle.table.specs.Reading.{variable_fits, term_arity, after_term, after_literal, after, stops_short, onward, fault}
use Rattle.table.specs.Decode.{first, rest, before, terms_from, literal_of, before_literals, literals_from}
use Rattle.table.specs.Limits.{TermWithin, TermsWithin, LiteralWithin, Each, Words}
use Rattle.table.proofs.Bools.{and_left, and_right}

-- the first terms and the rest make the whole
words_split : (n : ℕ) (ts : Terms ℕ) → terms_words ts ≡ terms_words (first n ts) ++ terms_words (rest n ts)
unfolding terms_words first rest
words_split zero ts = refl
words_split (suc n) nil = refl
words_split (suc n) (t then ts) = rw (append_assoc, ← words_split n ts)

within_first : (n v : ℕ) (ts : Terms ℕ) → TermsWithin ts v → TermsWithin (first n ts) v
unfolding TermsWithin first
within_first zero v ts h = tt
within_first (suc n) v nil h = tt
within_first (suc n) v (t then ts) h = (h.0, within_first n v ts h.1)

within_rest : (n v : ℕ) (ts : Terms ℕ) → TermsWithin ts v → TermsWithin (rest n ts) v
unfolding TermsWithin rest
within_rest zero v ts h = h
within_rest (suc n) v nil h = tt
within_rest (suc n) v (t then ts) h = within_rest n v ts h.1

arity_first : (n m : ℕ) (ts : Terms ℕ) → arity ts ≡ n + m → arity (first n ts) ≡ n
unfolding arity first
arity_first zero m ts h = refl
arity_first (suc n) m nil h = absurd (omega arith)
arity_first (suc n) m (t then ts) h = ap suc (arity_first n m ts (omega arith))

arity_rest : (n m : ℕ) (ts : Terms ℕ) → arity ts ≡ n + m → arity (rest n ts) ≡ m
unfolding arity rest
arity_rest zero m ts h = omega arith
arity_rest (suc n) m nil h = absurd (omega arith)
arity_rest (suc n) m (t then ts) h = arity_rest n m ts (omega arith)

-- a word before terms and literals, by its kind
module _ (w : ℕ) (ws : List ℕ) where
  pub from_variable : kind_of w ≡ 0 → terms_from (w ∷ ws) ≡ var (number_of w) then terms_from ws
  unfolding terms_from before
  from_variable k = rw k

  pub from_function : kind_of w ≡ 1 → terms_from (w ∷ ws) ≡ app (symbol_of w) (first (arity_of w) (terms_from ws)) then rest (arity_of w) (terms_from ws)
  unfolding terms_from before
  from_function k = rw k

  pub from_literal : kind_of w ≡ 2 → terms_from (w ∷ ws) ≡ nil
  unfolding terms_from before
  from_literal k = rw k

  pub literals_literal : kind_of w ≡ 2 → literals_from (w ∷ ws) ≡ literal_of w (terms_from ws) ∷ literals_from ws
  unfolding literals_from before_literals
  literals_literal k = rw (eq-eqb (kind_of w) 2 k)

  pub literals_other : (kind_of w ≡ 2 → ⊥) → literals_from (w ∷ ws) ≡ literals_from ws
  unfolding literals_from before_literals
  literals_other n = rw (ne_eqb (kind_of w) 2 n)

some_none : (n : ℕ) → some n ≡ none → ⊥
some_none n e = let z : ◌≡◌ {A = ℕ} 0 1 = cc in omega arith

-- words that owe so many literals and terms are as many as those, encoded, and where they have 32 bits they are the same
pub record Decoded (v l t : ℕ) (ws : List ℕ) : Type 0 where
  pub words : Words ws → ws ≡ terms_words (terms_from ws) ++ literals_words (literals_from ws)
  pub size : length ws ≡ length (terms_words (terms_from ws) ++ literals_words (literals_from ws))
  pub arities : arity (terms_from ws) ≡ t
  pub count : length (literals_from ws) ≡ l
  pub terms : TermsWithin (terms_from ws) v
  pub literals : Each (LiteralWithin v) (literals_from ws)

module _ {v w : ℕ} {ws : List ℕ} where
  variable-step : {l t : ℕ} → variable_fits v w ≡ true → Decoded v l t ws → Decoded v l (suc t) (w ∷ ws)
  unfolding term_words terms_words arity TermWithin TermsWithin Each
  variable-step {l} {t} e d =
      let shaped : variable_shaped w ≡ true = and_left _ (ltb (number_of w) v) e in
      let kind : kind_of w ≡ 0 = plain_kind 0 10 w shaped in
      let terms = from_variable w ws kind in
      let others = literals_other w ws (omega arith) in
      record {
        words = λ small. rw (terms, others) (ap₂ (λ (x : ℕ) (xs : List ℕ). x ∷ xs) (variable_word_lem w small.0 shaped) (d.words small.1));
        size = rw (terms, others) (ap suc d.size);
        arities = rw terms (ap suc d.arities);
        count = rw others d.count;
        terms = rw terms (ltb-true _ _ (and_right (variable_shaped w) _ e), d.terms);
        literals = rw others d.literals;
      }

  function_step : {l t : ℕ} → function_shaped w ≡ true → Decoded v l (arity_of w + t) ws → Decoded v l (suc t) (w ∷ ws)
  unfolding term_words terms_words arity TermWithin TermsWithin Each
  function_step {l} {t} e d =
      let kind : kind_of w ≡ 1 = plain_kind 1 15 w (function_plain w e) in
      let terms = from_function w ws kind in
      let others = literals_other w ws (omega arith) in
      let firsts = arity_first (arity_of w) t (terms_from ws) d.arities in
      let split = ap (λ (xs : List ℕ). xs ++ literals_words (literals_from ws)) (words_split (arity_of w) (terms_from ws)) in
      record {
        words = λ small.
            rw (terms, others)
            (ap₂ (λ (x : ℕ) (xs : List ℕ). x ∷ xs)
            (function_word_lem w e small.0 ∙ ap (λ (a : ℕ). function_word (symbol_of w) a) (sym firsts))
            (d.words small.1 ∙ split));
        size = rw (terms, others) (ap suc (d.size ∙ ap (λ (xs : List ℕ). length xs) split));
        arities = rw terms (ap suc (arity_rest (arity_of w) t (terms_from ws) d.arities));
        count = rw others d.count;
        terms = rw terms ((bits_small 0 12 w, omega (arith, firsts, function_arity_small w e), within_first (arity_of w) v (terms_from ws) d.terms), within_rest (arity_of w) v (terms_from ws) d.terms);
        literals = rw others d.literals;
      }

  literal_step : {l : ℕ} → literal_shaped w ≡ true → Decoded v l (arity_of w) ws → Decoded v (suc l) 0 (w ∷ ws)
  unfolding terms_words literal_words literals_words arity TermsWithin Each
  literal_step {l} e d =
      let kind : kind_of w ≡ 2 = plain_kind 2 16 w (literal_plain w e) in
      let terms = from_literal w ws kind in
      let more = literals_literal w ws kind in
      record {
        words = λ small.
            rw (terms, more)
            (ap₂ (λ (x : ℕ) (xs : List ℕ). x ∷ xs)
            (literal_word_lem w e small.0 ∙ ap (λ (a : ℕ). literal_word (negative_of w) (symbol_of w) a) (sym d.arities))
            (d.words small.1));
        size = rw (terms, more) (ap suc d.size);
        arities = rw terms refl;
        count = rw more (ap suc d.count);
        terms = rw terms tt;
        literals = rw more (record { predicate = bits_small 0 12 w; arity = omega (arith, d.arities, literal_arity_small w e); arguments = d.terms }, d.literals);
      }

-- where no fault follows a word, it is one of the three that were owed, and none follows from the next word on
module _ {v w : ℕ} {ws : List ℕ} (further : (l t at : ℕ) → fault v l t at ws ≡ none → Decoded v l t ws) where
  term-owed : (l t at : ℕ) (b c : Bool) → variable_fits v w ≡ b → function_shaped w ≡ c → fault v l (suc t) at (w ∷ ws) ≡ none → Decoded v l (suc t) (w ∷ ws)
  unfolding fault onward after after_term term_arity
  term-owed l t at true c eb ec e =
      let z : 0 + t ≡ t = omega arith in variable-step eb (further l t (at + 1) (rw (eb, z) at e))
  term-owed l t at false true eb ec e = function_step ec (further l (arity_of w + t) (at + 1) (rw (eb, ec) at e))
  term-owed l t at false false eb ec e = absurd (some_none at (rw (eb, ec) at e))

  literal-owed : (l at : ℕ) (b : Bool) → literal_shaped w ≡ b → fault v (suc l) 0 at (w ∷ ws) ≡ none → Decoded v (suc l) 0 (w ∷ ws)
  unfolding fault onward after after_literal
  literal-owed l at true eb e = literal_step eb (further l (arity_of w) (at + 1) (rw eb at e))
  literal-owed l at false eb e = absurd (some_none at (rw eb at e))

  word_owed : (l t at : ℕ) → fault v l t at (w ∷ ws) ≡ none → Decoded v l t (w ∷ ws)
  unfolding fault onward after
  word_owed l (suc t) at e = term-owed l t at (variable_fits v w) (function_shaped w) refl refl e
  word_owed (suc l) zero at e = literal-owed l at (literal_shaped w) refl e
  word_owed zero zero at e = absurd (some_none at e)

nothing_owed : {v : ℕ} (l t at : ℕ) → fault v l t at [] ≡ none → Decoded v l t []
unfolding fault stops_short terms_from literals_from terms_words literals_words TermsWithin Each arity
nothing_owed l (suc t) at e = absurd (some_none at e)
nothing_owed (suc l) zero at e = absurd (some_none at e)
nothing_owed zero zero at e = record { words = λ small. refl; size = refl; arities = refl; count = refl; terms = tt; literals = tt }

pub decoded : {v : ℕ} (ws : List ℕ) (l t at : ℕ) → fault v l t at ws ≡ none → Decoded v l t ws
decoded [] = nothing_owed
decoded (w ∷ ws) = word_owed (decoded ws)
