-- An answer's words, numbered as they are met, are the rules' answer: as many as its items, whatever the numbering.
use lib.ListN.{length}
use mathlib.Core.Bool.{Bool, true, false, cond}
use mathlib.Core.List.{List, [], ◌∷◌, ◌++◌, map, append_assoc, map-append}
use mathlib.Core.Path.{◌≡◌, refl, sym, ◌∙◌, ap, ap₂}
use native.Mathlib.Nat.{zero-add, suc-add}
use native.Mathlib.Omega.{arith}
use Prim.Native.Nat.{ℕ, zero, suc, ◌+◌, ◌<◌}
use Rattle.words.specs.Fields.{variable_word, function_word, literal_word}
use Rattle.table.specs.Syntax.{Term, Terms, var, app, nil, ◌then◌, under, unders, Literal, literal_under}
use Rattle.table.specs.Encode.{term_words, terms_words, literal_words, literals_words}
use Rattle.table.specs.Decode.{first, rest}
use Rattle.rules.specs.Substitution.{Variable, same_variable}
use Rattle.rules.specs.Answer.{occurring, occurring_in, occurring_all, firsts_after_by, firsts_by, seen, firsts_after, place_of, numbered}
use Rattle.rules.proofs.FirstPlaces as FirstPlaces
use Rattle.rules.proofs.Firsts as Firsts
use Rattle.rules.proofs.Sameness.{variables_told}
use Rattle.answers.specs.Writing.{Item, fixed, free, items_of, items_among, items_of_all, also, words_from, seen_after}
use Rattle.unification.proofs.TermLists.{arity_under, first_nil}

-- the word of an item under a numbering, and the variables of items
unfoldable pub word_by : (Variable → ℕ) → Item → ℕ
word_by number (fixed w) = w
word_by number (free x) = variable_word (number x)

variables_in : List Item → List Variable
variables_in [] = []
variables_in (fixed w ∷ is) = variables_in is
variables_in (free x ∷ is) = x ∷ variables_in is

variables_append : (is js : List Item) → variables_in (is ++ js) ≡ variables_in is ++ variables_in js
unfolding variables_in
variables_append [] js = refl
variables_append (fixed w ∷ is) js = variables_append is js
variables_append (free x ∷ is) js = ap (x ∷◌) (variables_append is js)

module _ (number : Variable → ℕ) where
  mutual
    unfolding under items_of term_words word_by

    term_words_lem : (t : Term Variable) → term_words (under (λ x. var (number x)) t) ≡ map (word_by number) (items_of t)
    term_words_lem (var x) = refl
    term_words_lem (app f ts) = ap₂ ◌∷◌ (ap (function_word f) (arity_under (λ x. var (number x)) ts)) (terms_words_lem ts)

    pub terms_words_lem : (ts : Terms Variable) → terms_words (unders (λ x. var (number x)) ts) ≡ map (word_by number) (items_among ts)
    terms_words_lem nil = refl
    terms_words_lem (t then ts) = ap₂ ◌++◌ (term_words_lem t) (terms_words_lem ts) ∙ sym (map-append (word_by number) (items_of t) (items_among ts))

  literals_words_is : (ls : List (Literal Variable)) → literals_words (map (literal_under (λ x. var (number x))) ls) ≡ map (word_by number) (items_of_all ls)
  unfolding literals_words literal_words literal_under items_of_all word_by
  literals_words_is [] = refl
  literals_words_is (l ∷ ls) =
      ap₂ ◌∷◌ (ap (literal_word l.negative l.predicate) (arity_under (λ x. var (number x)) l.arguments))
      (ap₂ ◌++◌ (terms_words_lem l.arguments) (literals_words_is ls) ∙ sym (map-append (word_by number) (items_among l.arguments) (items_of_all ls)))

mutual
  unfolding items_of occurring variables_in

  term_occurring : (t : Term Variable) → occurring t ≡ variables_in (items_of t)
  term_occurring (var x) = refl
  term_occurring (app f ts) = terms_occurring ts

  terms_occurring : (ts : Terms Variable) → occurring_in ts ≡ variables_in (items_among ts)
  terms_occurring nil = refl
  terms_occurring (t then ts) = ap₂ ◌++◌ (term_occurring t) (terms_occurring ts) ∙ sym (variables_append (items_of t) (items_among ts))

literals_occurring : (ls : List (Literal Variable)) → occurring_all ls ≡ variables_in (items_of_all ls)
unfolding occurring_all items_of_all variables_in
literals_occurring [] = refl
literals_occurring (l ∷ ls) =
    ap₂ ◌++◌ (terms_occurring l.arguments) (literals_occurring ls) ∙ sym (variables_append (items_among l.arguments) (items_of_all ls))

-- a variable's place stays once it is seen
pub place_left : (x : Variable) (ys zs : List Variable) → seen x ys ≡ true → place_of x (ys ++ zs) ≡ place_of x ys
place_left = FirstPlaces.place_left variables_told

-- a variable not yet seen takes the place after the others
pub seen_last : (x : Variable) (ys : List Variable) → seen x (ys ++ (x ∷ [])) ≡ true
seen_last = Firsts.seen_last variables_told

pub place_last : (x : Variable) (ys : List Variable) → seen x ys ≡ false → place_of x (ys ++ (x ∷ [])) ≡ length ys
place_last = FirstPlaces.place_last variables_told

-- and the others keep theirs, seen or not
pub seen_other : (x y : Variable) (ys : List Variable) → same_variable x y ≡ false → seen x (ys ++ (y ∷ [])) ≡ seen x ys
seen_other = Firsts.seen_other variables_told

module _ (before : List Variable) (x : Variable) where
  pub also_known : seen x before ≡ true → also before x ≡ before
  unfolding also
  also_known e = rw e

  pub also_new : seen x before ≡ false → also before x ≡ before ++ (x ∷ [])
  unfolding also
  also_new e = rw e

  also-seen : seen x (also before x) ≡ true
  unfolding also
  also-seen = go (seen x before) refl
    where
      go : (b : Bool) → seen x before ≡ b → seen x (cond b before (before ++ (x ∷ []))) ≡ true
      go true e = e
      go false e = seen_last x before

  firsts-also : (xs : List Variable) → firsts_after before (x ∷ xs) ≡ firsts_after (also before x) xs
  unfolding firsts_after_by also
  firsts-also xs = go (seen x before)
    where
      go : (b : Bool) → cond b (firsts_after before xs) (firsts_after (before ++ (x ∷ [])) xs) ≡ firsts_after (cond b before (before ++ (x ∷ []))) xs
      go true = refl
      go false = refl

place_kept : (x : Variable) (before xs : List Variable) → seen x before ≡ true → place_of x (firsts_after before xs) ≡ place_of x before
unfolding firsts_after_by
place_kept x before [] e = refl
place_kept x before (y ∷ xs) e =
    go (seen y before) (place_kept x before xs e) (place_kept x (before ++ (y ∷ [])) xs (Firsts.seen_left variables_told x before (y ∷ []) e) ∙ place_left x before (y ∷ []) e)
  where
    go : (b : Bool) → place_of x (firsts_after before xs) ≡ place_of x before → place_of x (firsts_after (before ++ (y ∷ [])) xs) ≡ place_of x before
        → place_of x (cond b (firsts_after before xs) (firsts_after (before ++ (y ∷ [])) xs)) ≡ place_of x before
    go true f g = f
    go false f g = g

-- numbered as they are met, or all at once by first occurrence: the same words
numbered_from : (is : List Item) (before : List Variable) → map (word_by (λ x. place_of x (firsts_after before (variables_in is)))) is ≡ words_from before is
unfolding words_from word_by variables_in
numbered_from [] before = refl
numbered_from (fixed w ∷ is) before = ap (w ∷◌) (numbered_from is before)
numbered_from (free x ∷ is) before =
    ap (λ (vs : List Variable). map (word_by (λ y. place_of y vs)) (free x ∷ is)) (firsts-also before x (variables_in is))
    ∙ ap₂ ◌∷◌ (place_kept x (also before x) (variables_in is) (also-seen before x)) (numbered_from is (also before x))

pub answer_items : (ls : List (Literal Variable)) → literals_words (numbered ls) ≡ words_from [] (items_of_all ls)
unfolding numbered firsts_by
answer_items ls =
    literals_words_is (λ x. place_of x (firsts_after [] (occurring_all ls))) ls
    ∙ ap (λ (xs : List Variable). map (word_by (λ x. place_of x (firsts_after [] xs))) (items_of_all ls)) (literals_occurring ls)
    ∙ numbered_from (items_of_all ls) []

-- as many words as items
pub words_length : (is : List Item) (before : List Variable) → length (words_from before is) ≡ length is
unfolding words_from
words_length [] before = refl
words_length (fixed w ∷ is) before = ap suc (words_length is before)
words_length (free x ∷ is) before = ap suc (words_length is (also before x))

-- one part after another
pub words_append : (is js : List Item) (before : List Variable) → words_from before (is ++ js) ≡ words_from before is ++ words_from (seen_after before is) js
unfolding words_from seen_after
words_append [] js before = refl
words_append (fixed w ∷ is) js before = ap (w ∷◌) (words_append is js before)
words_append (free x ∷ is) js before = ap (variable_word (place_of x (also before x)) ∷◌) (words_append is js (also before x))

pub seen_append : (is js : List Item) (before : List Variable) → seen_after before (is ++ js) ≡ seen_after (seen_after before is) js
unfolding seen_after
seen_append [] js before = refl
seen_append (fixed w ∷ is) js before = seen_append is js before
seen_append (free x ∷ is) js before = seen_append is js (also before x)

-- the items of the first terms
pub items_first : (a k : ℕ) (ts : Terms Variable) → items_among (first (a + k) ts) ≡ items_among (first a ts) ++ items_among (first k (rest a ts))
unfolding first rest items_of
items_first zero k ts = rw zero-add
items_first (suc a) k nil = rw (suc-add, first_nil {X = Variable} k)
items_first (suc a) k (t then ts) = rw suc-add (ap (items_of t ++◌) (items_first a k ts) ∙ sym (append_assoc (items_of t) _ _))

-- no term is without words
pub items_some : (t : Term Variable) → 0 < length (items_of t)
unfolding items_of
items_some (var x) = omega arith
items_some (app f ts) = omega arith
