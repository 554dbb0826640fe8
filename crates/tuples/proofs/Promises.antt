-- The tuples of a disjunct tell what the substitution has for the question's variables.
use mathlib.Core.Bool.{Bool, true, false, cond}
use mathlib.Core.List.{List, [], ◌∷◌, ◌++◌, map, map-append, append_assoc, append-nil}
use mathlib.Core.Path.{◌≡◌, refl, sym, ap, ap₂, ◌∙◌}
use Prim.Native.Nat.{ℕ, suc, ◌+◌, ◌<◌}
use native.Mathlib.Numerals.{add-one}
use native.Mathlib.Omega.{arith}
use borrow.Author.Tests.{ne_eqb}
use lib.Dec.{eqb}
use lib.ListN.{length, drop, length-append}
use lib.Seq.{take-append_seam, drop-append_seam}
use Rattle.words.specs.Fields.{kind_of, arity_of, variable_word, function_word, literal_word}
use Rattle.words.proofs.Packed.{variable_kind, variable_number, function_kind, function_arity, literal_kind}
use Rattle.table.specs.Syntax.{Term, var, app, Terms, nil, ◌then◌, arity, Literal, under, unders}
use Rattle.table.specs.Encode.{term_words, terms_words, literal_words, literals_words}
use Rattle.table.specs.Limits.{TermWithin, TermsWithin, LiteralWithin, Each}
use Rattle.tuples.specs.Tuples.{span_of, width, is_next, values_in, after_in}
use Rattle.tuples.specs.Promises.{uses_of, uses_in, uses_all, first_ones, disjunct_of, TuplesTell, NextBegins}

-- a term's words are as many as they are
variable_bare : (x : ℕ) → x < 1024 → arity_of (variable_word x) ≡ 0
variable_bare x h = omega arith

span_none : (ws : List ℕ) → span_of ws 0 ≡ 0
unfolding span_of
span_none [] = refl
span_none (w ∷ ws) = refl

mutual
  unfolding term_words terms_words TermWithin TermsWithin arity span_of

  span_term : (t : Term ℕ) → TermWithin t 1024 → (n : ℕ) (ws : List ℕ) → span_of (term_words t ++ ws) (suc n) ≡ length (term_words t) + span_of ws n
  span_term (var x) h n ws = let z : n + arity_of (variable_word x) ≡ n = omega (arith, variable_bare x h) in rw z (omega arith)
  span_term (app f ts) h n ws =
      let z : n + arity_of (function_word f (arity ts)) ≡ arity ts + n = omega (arith, function_arity f (arity ts) h.0 (omega (arith, h.1))) in
      rw (z, span_terms ts h.2 n ws) (omega arith)

  span_terms : (ts : Terms ℕ) → TermsWithin ts 1024 → (n : ℕ) (ws : List ℕ) → span_of (terms_words ts ++ ws) (arity ts + n) ≡ length (terms_words ts) + span_of ws n
  span_terms nil h n ws = let z : 0 + n ≡ n = omega arith in rw z (omega arith)
  span_terms (t then ts) h n ws =
      let z : suc (arity ts) + n ≡ suc (arity ts + n) = omega arith in
      rw (z, append_assoc (term_words t) (terms_words ts) ws)
      (span_term t h.0 (arity ts + n) (terms_words ts ++ ws) ∙ omega (arith, span_terms ts h.1 n ws, length-append (term_words t) (terms_words ts)))

width_variable : (x : ℕ) → x < 1024 → (t : Term ℕ) → TermWithin t 1024 → (ws : List ℕ) → width (variable_word x) (term_words t ++ ws) ≡ length (term_words t)
unfolding width
width_variable x h t w ws = rw (variable_kind x h) (span_term t w 0 ws ∙ omega (arith, span_none ws))

width_symbol : (q : ℕ) → (k : ℕ) → kind_of q ≡ suc k → (own : List ℕ) → width q own ≡ 1
unfolding width
width_symbol q k e own = rw (ne_eqb (kind_of q) 0 (λ z. omega (arith, e, z)))

symbol_other : (q : ℕ) → (k : ℕ) → kind_of q ≡ suc k → (count : ℕ) → is_next q count ≡ false
unfolding is_next
symbol_other q k e count = rw (ne_eqb (kind_of q) 0 (λ z. omega (arith, e, z)))

first_more : (count : ℕ) (xs ys : List ℕ) → first_ones count (xs ++ ys) ≡ first_ones count xs ++ first_ones (count + length (first_ones count xs)) ys
unfolding first_ones
first_more count [] ys = let z : count + 0 ≡ count = omega arith in rw z
first_more count (x ∷ xs) ys = go (eqb x count) (first_more count xs ys) (first_more (suc count) xs ys)
  where
    go : (b : Bool) → first_ones count (xs ++ ys) ≡ first_ones count xs ++ first_ones (count + length (first_ones count xs)) ys
        → first_ones (suc count) (xs ++ ys) ≡ first_ones (suc count) xs ++ first_ones (suc count + length (first_ones (suc count) xs)) ys
        → cond b (x ∷ first_ones (suc count) (xs ++ ys)) (first_ones count (xs ++ ys))
        ≡ cond b (x ∷ first_ones (suc count) xs) (first_ones count xs) ++ first_ones (count + length (cond b (x ∷ first_ones (suc count) xs) (first_ones count xs))) ys
    go true a b =
        let z : count + suc (length (first_ones (suc count) xs)) ≡ suc count + length (first_ones (suc count) xs) = omega arith in
        rw z (ap (λ (l : List ℕ). x ∷ l) b)
    go false a b = a

module _ (σ : ℕ → Term ℕ) where
  abbrev told : List ℕ → List (List ℕ)
  told xs = map (λ (x : ℕ). term_words (σ x)) xs

  -- a symbol in the question
  past-symbol : (q k : ℕ) → kind_of q ≡ suc k → (qs : List ℕ) (count w : ℕ) (ws : List ℕ) → values_in (q ∷ qs) count (w ∷ ws) ≡ values_in qs count ws
  unfolding values_in
  past-symbol q k e qs count w ws = rw (symbol_other q k e count, width_symbol q k e (w ∷ ws))

  after-symbol : (q k : ℕ) → kind_of q ≡ suc k → (qs : List ℕ) (w : ℕ) (ws : List ℕ) → after_in (q ∷ qs) (w ∷ ws) ≡ after_in qs ws
  unfolding after_in
  after-symbol q k e qs w ws = rw (width_symbol q k e (w ∷ ws))

  -- terms side by side, after so many first uses
  abbrev Side : List ℕ → List ℕ → List ℕ → Type 0
  Side own other uses = (count : ℕ) (qs ws : List ℕ) → values_in (own ++ qs) count (other ++ ws) ≡ told (first_ones count uses) ++ values_in qs (count + length (first_ones count uses)) ws

  side-variable : (x : ℕ) → x < 1024 → TermWithin (σ x) 1024 → Side (variable_word x ∷ []) (term_words (σ x)) (x ∷ [])
  unfolding values_in is_next first_ones
  side-variable x h w count qs ws =
      rw (width_variable x h (σ x) w ws, take-append_seam (term_words (σ x)) ws, drop-append_seam (term_words (σ x)) ws, variable_kind x h, variable_number x h) (go (eqb x count))
    where
      go : (b : Bool) → cond b (term_words (σ x) ∷ values_in qs (suc count) ws) (values_in qs count ws)
          ≡ told (cond b (x ∷ []) []) ++ values_in qs (count + length (cond b (x ∷ []) [])) ws
      go true = rw (add-one count)
      go false = let z : count + 0 ≡ count = omega arith in rw z

  side-both : (a b c d us vs : List ℕ) → Side a b us → Side c d vs → Side (a ++ c) (b ++ d) (us ++ vs)
  side-both a b c d us vs s t count qs ws =
      let z : count + length (first_ones count us) + length (first_ones (count + length (first_ones count us)) vs) ≡ count + length (first_ones count (us ++ vs))
      = omega (arith, ap (λ (l : List ℕ). length l) (first_more count us vs), length-append (first_ones count us) (first_ones (count + length (first_ones count us)) vs)) in
      rw (append_assoc a c qs, append_assoc b d ws)
      (s count (c ++ qs) (d ++ ws)
      ∙ ap (λ (l : List (List ℕ)). told (first_ones count us) ++ l) (t (count + length (first_ones count us)) qs ws)
      ∙ sym (append_assoc (told (first_ones count us)) (told (first_ones (count + length (first_ones count us)) vs)) (values_in qs (count + length (first_ones count us) + length (first_ones (count + length (first_ones count us)) vs)) ws))
      ∙ ap₂ (λ (l : List (List ℕ)) (n : ℕ). l ++ values_in qs n ws)
      (sym (map-append (λ (x : ℕ). term_words (σ x)) (first_ones count us) (first_ones (count + length (first_ones count us)) vs)) ∙ ap (λ (l : List ℕ). told l) (sym (first_more count us vs))) z)

  side-symbol : (q k : ℕ) → kind_of q ≡ suc k → (w : ℕ) (a b us : List ℕ) → Side a b us → Side (q ∷ a) (w ∷ b) us
  side-symbol q k e w a b us s count qs ws = past-symbol q k e (a ++ qs) count w (b ++ ws) ∙ s count qs ws

  side-none : Side [] [] []
  unfolding first_ones
  side-none count qs ws = let z : count + 0 ≡ count = omega arith in rw z

  mutual
    unfolding term_words terms_words TermWithin TermsWithin arity under unders uses_of uses_in

    side-term : (t : Term ℕ) → TermWithin t 1024 → TermWithin (under σ t) 1024 → Side (term_words t) (term_words (under σ t)) (uses_of t)
    side-term (var x) h w = side-variable x h w
    side-term (app f ts) h w =
        side-symbol (function_word f (arity ts)) 0 (function_kind f (arity ts) h.0 (omega (arith, h.1))) (function_word f (arity (unders σ ts))) (terms_words ts) (terms_words (unders σ ts)) (uses_in ts) (side-terms ts h.2 w.2)

    side-terms : (ts : Terms ℕ) → TermsWithin ts 1024 → TermsWithin (unders σ ts) 1024 → Side (terms_words ts) (terms_words (unders σ ts)) (uses_in ts)
    side-terms nil h w = side-none
    side-terms (t then ts) h w = side-both (term_words t) (term_words (under σ t)) (terms_words ts) (terms_words (unders σ ts)) (uses_of t) (uses_in ts) (side-term t h.0 w.0) (side-terms ts h.1 w.1)

  side-literals : (ls : List (Literal ℕ)) → Each (LiteralWithin 1024) ls → Each (LiteralWithin 1024) (disjunct_of σ ls) → Side (literals_words ls) (literals_words (disjunct_of σ ls)) (uses_all ls)
  unfolding literals_words literal_words uses_all disjunct_of Each
  side-literals [] h w = side-none
  side-literals (l ∷ ls) h w =
      side-both (literal_word l.negative l.predicate (arity l.arguments) ∷ terms_words l.arguments) (literal_word false l.predicate (arity (unders σ l.arguments)) ∷ terms_words (unders σ l.arguments))
      (literals_words ls) (literals_words (disjunct_of σ ls)) (uses_in l.arguments) (uses_all ls)
      (side-symbol (literal_word l.negative l.predicate (arity l.arguments)) 1 (literal_kind l.predicate (arity l.arguments) h.0.predicate (omega (arith, h.0.arity)) l.negative)
      (literal_word false l.predicate (arity (unders σ l.arguments))) (terms_words l.arguments) (terms_words (unders σ l.arguments)) (uses_in l.arguments)
      (side-terms l.arguments h.0.arguments w.0.arguments))
      (side-literals ls h.1 w.1)

  -- the same for what comes after
  abbrev Past : List ℕ → List ℕ → Type 0
  Past own other = (qs ws : List ℕ) → after_in (own ++ qs) (other ++ ws) ≡ after_in qs ws

  past-variable : (x : ℕ) → x < 1024 → TermWithin (σ x) 1024 → Past (variable_word x ∷ []) (term_words (σ x))
  unfolding after_in
  past-variable x h w qs ws =
      ap (λ (l : List ℕ). after_in qs l) (ap (λ (n : ℕ). drop n (term_words (σ x) ++ ws)) (width_variable x h (σ x) w ws) ∙ drop-append_seam (term_words (σ x)) ws)

  past-both : (a b c d : List ℕ) → Past a b → Past c d → Past (a ++ c) (b ++ d)
  past-both a b c d s t qs ws = rw (append_assoc a c qs, append_assoc b d ws) (s (c ++ qs) (d ++ ws) ∙ t qs ws)

  mutual
    unfolding term_words terms_words TermWithin TermsWithin arity under unders

    past-term : (t : Term ℕ) → TermWithin t 1024 → TermWithin (under σ t) 1024 → Past (term_words t) (term_words (under σ t))
    past-term (var x) h w = past-variable x h w
    past-term (app f ts) h w = λ qs ws.
        after-symbol (function_word f (arity ts)) 0 (function_kind f (arity ts) h.0 (omega (arith, h.1))) (terms_words ts ++ qs) (function_word f (arity (unders σ ts))) (terms_words (unders σ ts) ++ ws)
        ∙ past-terms ts h.2 w.2 qs ws

    past-terms : (ts : Terms ℕ) → TermsWithin ts 1024 → TermsWithin (unders σ ts) 1024 → Past (terms_words ts) (terms_words (unders σ ts))
    past-terms nil h w = λ qs ws. refl
    past-terms (t then ts) h w = past-both (term_words t) (term_words (under σ t)) (terms_words ts) (terms_words (unders σ ts)) (past-term t h.0 w.0) (past-terms ts h.1 w.1)

  past-literals : (ls : List (Literal ℕ)) → Each (LiteralWithin 1024) ls → Each (LiteralWithin 1024) (disjunct_of σ ls) → Past (literals_words ls) (literals_words (disjunct_of σ ls))
  unfolding literals_words literal_words disjunct_of Each
  past-literals [] h w = λ qs ws. refl
  past-literals (l ∷ ls) h w = past-both (literal_word l.negative l.predicate (arity l.arguments) ∷ terms_words l.arguments) (literal_word false l.predicate (arity (unders σ l.arguments)) ∷ terms_words (unders σ l.arguments)) (literals_words ls) (literals_words (disjunct_of σ ls)) one (past-literals ls h.1 w.1)
    where
      one : Past (literal_word l.negative l.predicate (arity l.arguments) ∷ terms_words l.arguments) (literal_word false l.predicate (arity (unders σ l.arguments)) ∷ terms_words (unders σ l.arguments))
      one qs ws =
          after-symbol (literal_word l.negative l.predicate (arity l.arguments)) 1 (literal_kind l.predicate (arity l.arguments) h.0.predicate (omega (arith, h.0.arity)) l.negative)
          (terms_words l.arguments ++ qs) (literal_word false l.predicate (arity (unders σ l.arguments))) (terms_words (unders σ l.arguments) ++ ws)
          ∙ past-terms l.arguments h.0.arguments w.0.arguments qs ws

pub tuples_tell : TuplesTell
unfolding TuplesTell values_in
tuples_tell ls σ rest h w =
    ap (λ (l : List ℕ). values_in l 0 (literals_words (disjunct_of σ ls) ++ rest)) (sym (append-nil (literals_words ls)))
    ∙ side-literals σ ls h w 0 [] rest ∙ append-nil (map (λ (x : ℕ). term_words (σ x)) (first_ones 0 (uses_all ls)))

pub next_begins : NextBegins
unfolding NextBegins after_in
next_begins ls σ rest h w =
    ap (λ (l : List ℕ). after_in l (literals_words (disjunct_of σ ls) ++ rest)) (sym (append-nil (literals_words ls))) ∙ past-literals σ ls h w [] rest
