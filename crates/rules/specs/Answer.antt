-- The answer (document 01, "Tableau rules", and order 3): a disjunct for each copy of the question, the start first, then in step order, and each
-- disjunct once, at its first place.
use Rattle.std.specs.Prelude.{eqb, length, take, Bool, true, false, cond, ◌&&◌, ◌≢◌, ◌≡◌, ℕ, zero, suc, pred, ◌^◌, ◌<◌}
use Rattle.std.specs.Bool.{beq}
use mathlib.Core.List.{List, [], ◌∷◌, ◌++◌, map, flatten}
use Rattle.table.specs.Syntax.{Term, var, app, Terms, nil, ◌then◌, Literal, literal_under, Clause, Table}
use Rattle.table.specs.Encode.{literals_words}
use Rattle.table.specs.Decode.{literals_from}
use Rattle.table.specs.Limits.{LiteralWithin, Each}
use Rattle.rules.specs.Substitution.{Variable, same_variable, Substitution}
use Rattle.rules.specs.Tableau.{copy_of, Tableau}

unfoldable pub positive : Literal Variable → Literal Variable
positive l = record { negative = false; predicate = l.predicate; arguments = l.arguments }

-- a disjunct is G1 … Gn as positive literals under the substitution
unfoldable pub disjunct : Substitution → Clause → ℕ → List (Literal Variable)
disjunct σ question copy = map (λ l. literal_under σ (positive l)) (copy_of copy question)

-- what each copy of the question says
unfoldable pub per_copy : Substitution → Table → Tableau → List (List (Literal Variable))
per_copy σ t x = map (disjunct σ t.question) x.questions

-- Equal in every word: the same symbols and the same variables. Variables of other names are not the same.
unfoldable mutual
  pub same_term : Term Variable → Term Variable → Bool
  same_term (var x) (var y) = same_variable x y
  same_term (var x) (app g ts) = false
  same_term (app f ss) (var y) = false
  same_term (app f ss) (app g ts) = eqb f g && same_terms ss ts

  pub same_terms : Terms Variable → Terms Variable → Bool
  same_terms nil nil = true
  same_terms nil (t then ts) = false
  same_terms (s then ss) nil = false
  same_terms (s then ss) (t then ts) = same_term s t && same_terms ss ts

unfoldable pub same_literal : Literal Variable → Literal Variable → Bool
same_literal l m = beq l.negative m.negative && eqb l.predicate m.predicate && same_terms l.arguments m.arguments

unfoldable pub same_disjunct : List (Literal Variable) → List (Literal Variable) → Bool
same_disjunct [] [] = true
same_disjunct [] (m ∷ ms) = false
same_disjunct (l ∷ ls) [] = false
same_disjunct (l ∷ ls) (m ∷ ms) = same_literal l m && same_disjunct ls ms

-- each at its first place: what is the same as something seen before is left out
module _ {A : Type 0} (same : A → A → Bool) where
  unfoldable pub seen_by : A → List A → Bool
  seen_by x [] = false
  seen_by x (y ∷ ys) = cond (same x y) true (seen_by x ys)

  unfoldable pub firsts_after_by : List A → List A → List A
  firsts_after_by before [] = before
  firsts_after_by before (x ∷ xs) = cond (seen_by x before) (firsts_after_by before xs) (firsts_after_by (before ++ (x ∷ [])) xs)

  unfoldable pub firsts_by : List A → List A
  firsts_by xs = firsts_after_by [] xs

  -- where something stands first
  unfoldable pub place_by : A → List A → ℕ
  place_by x [] = zero
  place_by x (y ∷ ys) = cond (same x y) zero (suc (place_by x ys))

-- disjuncts equal in every word under the same substitution appear once, at the first place
unfoldable pub disjuncts : Substitution → Table → Tableau → List (List (Literal Variable))
disjuncts σ t x = firsts_by same_disjunct (per_copy σ t x)

-- the variables of an answer, as they occur from left to right
unfoldable mutual
  pub occurring : Term Variable → List Variable
  occurring (var x) = x ∷ []
  occurring (app f ts) = occurring_in ts

  pub occurring_in : Terms Variable → List Variable
  occurring_in nil = []
  occurring_in (t then ts) = occurring t ++ occurring_in ts

unfoldable pub occurring_all : List (Literal Variable) → List Variable
occurring_all [] = []
occurring_all (l ∷ ls) = occurring_in l.arguments ++ occurring_all ls

-- each variable at its first occurrence, and its place among them
abbrev pub seen : Variable → List Variable → Bool
seen x ys = seen_by same_variable x ys

abbrev pub firsts_after : List Variable → List Variable → List Variable
firsts_after before xs = firsts_after_by same_variable before xs

abbrev pub firsts : List Variable → List Variable
firsts xs = firsts_by same_variable xs

abbrev pub place_of : Variable → List Variable → ℕ
place_of x ys = place_by same_variable x ys

-- variables are numbered from 0 by first occurrence over the whole answer
unfoldable pub numbered : List (Literal Variable) → List (Literal ℕ)
numbered ls = map (literal_under (λ x. var (place_of x (firsts (occurring_all ls))))) ls

unfoldable pub joined : List (List (Literal Variable)) → List (Literal Variable)
joined [] = []
joined (d ∷ ds) = d ++ joined ds

-- the words of the answer under a substitution
unfoldable pub answer_words : Substitution → Table → Tableau → List ℕ
answer_words σ t x = literals_words (numbered (joined (disjuncts σ t x)))

-- An answer is definite when one disjunct remains.
abbrev pub Definite : Substitution → Table → Tableau → Type 0
Definite σ t x = length (disjuncts σ t x) ≡ 1

-- each differs from all that follow it; each number is below all that follow it
unfoldable pub AllDifferent : {A : Type 0} → List A → Type 0
AllDifferent [] = Unit {0}
AllDifferent (x ∷ xs) = Each (λ y. x ≢ y) xs × AllDifferent xs

unfoldable pub Ascending : List ℕ → Type 0
Ascending [] = Unit {0}
Ascending (m ∷ ns) = Each (λ n. m < n) ns × Ascending ns

-- What an answer's words say. The literals that stand in them are taken in groups, each of as many literals as the question has, from the
-- first literal on: a group begins where the one before it ends. The second number counts the literals still to pass of the present group.
unfoldable pub groups_from : {A : Type 0} → ℕ → ℕ → List A → List (List A)
groups_from more passing [] = []
groups_from more (suc passing) (l ∷ ls) = groups_from more passing ls
groups_from more zero (l ∷ ls) = (l ∷ take more ls) ∷ groups_from more more ls

-- the disjuncts that are read in words: in a group, after its first literal, so many more
unfoldable pub disjuncts_in : Clause → List ℕ → List (List (Literal ℕ))
disjuncts_in question words = groups_from (pred (length question.literals)) 0 (literals_from words)

-- The words are those of so many disjuncts, each with as many literals as the question, all positive, one after another, and hold nothing
-- else; each number is one that its field in a word holds. No two lists of disjuncts are read so in the same words: Witnesses.OneReading.
pub record Reads (question : Clause) (words : List ℕ) (count : ℕ) (ds : List (List (Literal ℕ))) : Type 0 where
  pub counted : length ds ≡ count
  pub alike : Each (λ d. length d ≡ length question.literals) ds
  pub positive : Each (λ l. l.negative ≡ false) (flatten ds)
  pub whole : words ≡ literals_words (flatten ds)
  pub within : Each (LiteralWithin (2 ^ 10)) (flatten ds)
