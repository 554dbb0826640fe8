-- The words of the items of a clause are the words of the clause said, and the limits on items and names are document 01's limits on the clause.
use mathlib.Core.Bool.{Bool, true, false}
use mathlib.Core.List.{List, [], ◌∷◌, ◌++◌, map, map-append}
use mathlib.Core.Path.{◌≡◌, refl, sym, ap, ap₂, ◌∙◌}
use Prim.Native.Nat.{ℕ, suc, ◌≤◌, ◌<◌}
use borrow.Author.Tests.{leb-true, le-leb}
use lib.Dec.{leb}
use Rattle.words.specs.Fields.{function_word, literal_word}
use Rattle.names.specs.Numbers.{Name, number_in}
use Rattle.table.specs.Syntax.{arity}
use Rattle.table.specs.Encode.{term_words, terms_words, literal_words, literals_words}
use Rattle.table.specs.Limits.{Each, TermWithin, TermsWithin, LiteralWithin}
use Rattle.clausetext.specs.Syntax.{Term, variable, application, Terms, nil, ◌then◌, Literal}
use Rattle.tptp.specs.Said.{functions_of, functions_in, predicate_uses, function_uses, term_said, terms_said, literal_said, literals_said}
use Rattle.tptp.specs.Sketch.{Item, many, term_items, terms_items, literal_sort, literal_items, literals_items}
use Rattle.tptp.specs.Shapes.{sort_kind, fits_by}
use Rattle.tptp.specs.Body.{Fit, Under, Below}
use Rattle.tptp.proofs.Stages.{with_variable, variable_word_lem, function_word_lem, literal_word_lem}

pub each_front : {A : Type 0} (P : A → Type 0) (xs ys : List A) → Each P (xs ++ ys) → Each P xs
unfolding Each
each_front P [] ys e = tt
each_front P (x ∷ xs) ys e = (e.0, each_front P xs ys e.1)

pub each_rest : {A : Type 0} (P : A → Type 0) (xs ys : List A) → Each P (xs ++ ys) → Each P ys
unfolding Each
each_rest P [] ys e = e
each_rest P (x ∷ xs) ys e = each_rest P xs ys e.1

pub each_both : {A : Type 0} (P : A → Type 0) (xs ys : List A) → Each P xs → Each P ys → Each P (xs ++ ys)
unfolding Each
each_both P [] ys e f = f
each_both P (x ∷ xs) ys e f = (e.0, each_both P xs ys e.1 f)

literal_fits : (b : Bool) (parts : ℕ) → fits_by (literal_sort b) parts ≡ leb parts 4
unfolding fits_by
literal_fits false parts = refl
literal_fits true parts = refl

module _ (ps fs vs : List Name) where
  arity-many : (ts : Terms) → arity (terms_said fs vs ts) ≡ many ts
  unfolding arity terms_said many
  arity-many nil = refl
  arity-many (t then ts) = ap suc (arity-many ts)

  -- words
  mutual
    unfolding term_items terms_items term_said terms_said term_words terms_words Each fits_by sort_kind

    pub term_words_lem : (t : Term) → Each Fit (term_items t) → Each (Below 1 fs) (term_items t) → map (with_variable ps fs vs) (term_items t) ≡ term_words (term_said fs vs t)
    term_words_lem (variable x) e f = ap (λ (w : ℕ). w ∷ []) (variable_word_lem ps fs vs x)
    term_words_lem (application f ts) e b =
        ap₂ (λ (w : ℕ) (l : List ℕ). w ∷ l)
        (function_word_lem ps fs vs f (many ts) (leb-true (many ts) 4 e.0) (b.0 refl) ∙ ap (λ (a : ℕ). function_word (number_in fs f) a) (sym (arity-many ts)))
        (terms_words_lem ts e.1 b.1)

    pub terms_words_lem : (ts : Terms) → Each Fit (terms_items ts) → Each (Below 1 fs) (terms_items ts) → map (with_variable ps fs vs) (terms_items ts) ≡ terms_words (terms_said fs vs ts)
    terms_words_lem nil e f = refl
    terms_words_lem (t then ts) e f =
        map-append (with_variable ps fs vs) (term_items t) (terms_items ts)
        ∙ ap₂ (λ (a b : List ℕ). a ++ b)
        (term_words_lem t (each_front Fit (term_items t) (terms_items ts) e) (each_front (Below 1 fs) (term_items t) (terms_items ts) f))
        (terms_words_lem ts (each_rest Fit (term_items t) (terms_items ts) e) (each_rest (Below 1 fs) (term_items t) (terms_items ts) f))

  -- what is required of the items of a clause's literals: few parts, and numbers for their names
  pub record Good (is : List Item) : Type 0 where
    pub fit : Each Fit is
    pub functions : Each (Below 1 fs) is
    pub predicates : Each (Below 2 ps) is

  good_front : (xs ys : List Item) → Good (xs ++ ys) → Good xs
  good_front xs ys g = record {
    fit = each_front Fit xs ys g.fit;
    functions = each_front (Below 1 fs) xs ys g.functions;
    predicates = each_front (Below 2 ps) xs ys g.predicates;
  }

  good_rest : (xs ys : List Item) → Good (xs ++ ys) → Good ys
  good_rest xs ys g = record {
    fit = each_rest Fit xs ys g.fit;
    functions = each_rest (Below 1 fs) xs ys g.functions;
    predicates = each_rest (Below 2 ps) xs ys g.predicates;
  }

  literal_kind_is : (b : Bool) → sort_kind (literal_sort b) ≡ 2
  unfolding sort_kind
  literal_kind_is false = refl
  literal_kind_is true = refl

  few_arguments : (b : Bool) (parts : ℕ) → fits_by (literal_sort b) parts ≡ true → parts ≤ 4
  few_arguments b parts e = leb-true parts 4 (sym (literal_fits b parts) ∙ e)

  literal_words_lem : (l : Literal) → Good (literal_items l) → map (with_variable ps fs vs) (literal_items l) ≡ literal_words (literal_said ps fs vs l)
  unfolding literal_items literal_said literal_words Each
  literal_words_lem l g =
      ap₂ (λ (w : ℕ) (ws : List ℕ). w ∷ ws)
      (literal_word_lem ps fs vs l.predicate (many l.arguments) (few_arguments l.negative (many l.arguments) g.fit.0) l.negative
      (g.predicates.0 (literal_kind_is l.negative))
      ∙ ap (λ (a : ℕ). literal_word l.negative (number_in ps l.predicate) a) (sym (arity-many l.arguments)))
      (terms_words_lem l.arguments g.fit.1 g.functions.1)

  pub literals_words_is : (ls : List Literal) → Good (literals_items ls) → map (with_variable ps fs vs) (literals_items ls) ≡ literals_words (literals_said ps fs vs ls)
  unfolding literals_items literals_said literals_words
  literals_words_is [] g = refl
  literals_words_is (l ∷ ls) g =
      map-append (with_variable ps fs vs) (literal_items l) (literals_items ls)
      ∙ ap₂ (λ (a b : List ℕ). a ++ b)
      (literal_words_lem l (good_front (literal_items l) (literals_items ls) g))
      (literals_words_is ls (good_rest (literal_items l) (literals_items ls) g))

  -- document 01's limits hold
  module _ (count : ℕ) where
    mutual
      unfolding term_items terms_items term_said terms_said TermWithin TermsWithin Each fits_by sort_kind

      term_within : (t : Term) → Each Fit (term_items t) → Each (Below 1 fs) (term_items t) → Each (Under 0 vs count) (term_items t) → TermWithin (term_said fs vs t) count
      term_within (variable x) e f v = v.0 refl
      term_within (application f ts) e b v =
          (b.0 refl, rw (arity-many ts) (leb-true (many ts) 4 e.0), terms_within ts e.1 b.1 v.1)

      terms_within : (ts : Terms) → Each Fit (terms_items ts) → Each (Below 1 fs) (terms_items ts) → Each (Under 0 vs count) (terms_items ts) → TermsWithin (terms_said fs vs ts) count
      terms_within nil e f v = tt
      terms_within (t then ts) e f v = (
        term_within t (each_front Fit (term_items t) (terms_items ts) e) (each_front (Below 1 fs) (term_items t) (terms_items ts) f)
            (each_front (Under 0 vs count) (term_items t) (terms_items ts) v),
        terms_within ts (each_rest Fit (term_items t) (terms_items ts) e) (each_rest (Below 1 fs) (term_items t) (terms_items ts) f)
            (each_rest (Under 0 vs count) (term_items t) (terms_items ts) v),
      )

    literal_within : (l : Literal) → Good (literal_items l) → Each (Under 0 vs count) (literal_items l) → LiteralWithin count (literal_said ps fs vs l)
    unfolding literal_items literal_said Each
    literal_within l g v = record {
      predicate = g.predicates.0 (literal_kind_is l.negative);
      arity = rw (arity-many l.arguments) (few_arguments l.negative (many l.arguments) g.fit.0);
      arguments = terms_within l.arguments g.fit.1 g.functions.1 v.1;
    }

    pub literals_within : (ls : List Literal) → Good (literals_items ls) → Each (Under 0 vs count) (literals_items ls) → Each (LiteralWithin count) (literals_said ps fs vs ls)
    unfolding literals_items literals_said Each
    literals_within [] g v = tt
    literals_within (l ∷ ls) g v = (
      literal_within l (good_front (literal_items l) (literals_items ls) g) (each_front (Under 0 vs count) (literal_items l) (literals_items ls) v),
      literals_within ls (good_rest (literal_items l) (literals_items ls) g) (each_rest (Under 0 vs count) (literal_items l) (literals_items ls) v),
    )

    -- and where they hold, the items have few parts, and the names small numbers
    mutual
      unfolding term_items terms_items term_said terms_said TermWithin TermsWithin Each fits_by functions_of functions_in

      within_term_fit : (t : Term) → TermWithin (term_said fs vs t) count → Each Fit (term_items t)
      within_term_fit (variable x) w = (refl, tt)
      within_term_fit (application f ts) w = (le-leb (many ts) 4 (rw (arity-many ts) at w.1), within_terms_fit ts w.2)

      within_terms_fit : (ts : Terms) → TermsWithin (terms_said fs vs ts) count → Each Fit (terms_items ts)
      within_terms_fit nil w = tt
      within_terms_fit (t then ts) w = each_both Fit (term_items t) (terms_items ts) (within_term_fit t w.0) (within_terms_fit ts w.1)

    mutual
      unfolding term_said terms_said TermWithin TermsWithin Each functions_of functions_in

      within_term_functions : (t : Term) → TermWithin (term_said fs vs t) count → Each (λ (n : Name). number_in fs n < 4096) (functions_of t)
      within_term_functions (variable x) w = tt
      within_term_functions (application f ts) w = (w.0, within_terms_functions ts w.2)

      within_terms_functions : (ts : Terms) → TermsWithin (terms_said fs vs ts) count → Each (λ (n : Name). number_in fs n < 4096) (functions_in ts)
      within_terms_functions nil w = tt
      within_terms_functions (t then ts) w =
          each_both (λ (n : Name). number_in fs n < 4096) (functions_of t) (functions_in ts) (within_term_functions t w.0) (within_terms_functions ts w.1)

    pub within_fit : (ls : List Literal) → Each (LiteralWithin count) (literals_said ps fs vs ls) → Each Fit (literals_items ls)
    unfolding literals_items literal_items literals_said literal_said Each
    within_fit [] w = tt
    within_fit (l ∷ ls) w =
        each_both Fit (literal_items l) (literals_items ls) (
          literal_fits l.negative (many l.arguments) ∙ le-leb (many l.arguments) 4 (rw (arity-many l.arguments) at w.0.arity),
          within_terms_fit l.arguments w.0.arguments,
        )
        (within_fit ls w.1)

    pub within_functions : (ls : List Literal) → Each (LiteralWithin count) (literals_said ps fs vs ls) → Each (λ (n : Name). number_in fs n < 4096) (function_uses ls)
    unfolding literals_said literal_said function_uses Each
    within_functions [] w = tt
    within_functions (l ∷ ls) w =
        each_both (λ (n : Name). number_in fs n < 4096) (functions_in l.arguments) (function_uses ls)
        (within_terms_functions l.arguments w.0.arguments) (within_functions ls w.1)

    pub within_predicates : (ls : List Literal) → Each (LiteralWithin count) (literals_said ps fs vs ls) → Each (λ (n : Name). number_in ps n < 4096) (predicate_uses ls)
    unfolding literals_said literal_said predicate_uses Each
    within_predicates [] w = tt
    within_predicates (l ∷ ls) w = (w.0.predicate, within_predicates ls w.1)
