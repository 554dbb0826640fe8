-- The answers as tuples (the answers line of the SZS ontology): what the question's variables stand for in each disjunct, in the order of their first
-- use. A disjunct is the question's literals under a substitution, so the words of the two are read side by side: where the question has a variable,
-- the disjunct has the term that it stands for.
use Rattle.std.specs.Prelude.{Bool, cond, ◌&&◌, List, [], ◌∷◌, ◌++◌, ◌≡◌, ℕ, zero, suc, ◌+◌, ◌≤◌, eqb, length, take, drop}
use Rattle.words.specs.Fields.{kind_of, number_of, arity_of, variables_of}
use Rattle.text.specs.Put.{Put}
use Rattle.text.specs.Quoted.{bytes}
use Rattle.naming.specs.Shown.{Names, shown}
use Rattle.tuples.specs.declared.Told.{Told}

-- how many words the terms at the front have, so many terms
unfoldable pub span_of : List ℕ → ℕ → ℕ
span_of [] terms = 0
span_of (w ∷ ws) zero = 0
span_of (w ∷ ws) (suc terms) = suc (span_of ws (terms + arity_of w))

-- how many words of the disjunct stand where the question has this word: a variable's term, or the same symbol
unfoldable pub width : ℕ → List ℕ → ℕ
width q own = cond (eqb (kind_of q) 0) (span_of own 1) 1

-- a variable's first use: a question's variables are numbered so
unfoldable pub is_next : ℕ → ℕ → Bool
is_next q count = eqb (kind_of q) 0 && eqb (number_of q) count

-- the words of each variable's term, the first uses of so many being passed
unfoldable pub values_in : List ℕ → ℕ → List ℕ → List (List ℕ)
values_in [] count own = []
values_in (q ∷ qs) count own =
    cond (is_next q count) (take (width q own) own ∷ values_in qs (suc count) (drop (width q own) own))
    (values_in qs count (drop (width q own) own))

-- what comes after the disjunct
unfoldable pub after_in : List ℕ → List ℕ → List ℕ
after_in [] own = own
after_in (q ∷ qs) own = after_in qs (drop (width q own) own)

-- of so many disjuncts, one after the other
unfoldable pub tuples_in : ℕ → List ℕ → List ℕ → List (List (List ℕ))
tuples_in zero question own = []
tuples_in (suc more) question own = values_in question 0 own ∷ tuples_in more question (after_in question own)

-- AS TEXT
-- a comma before each term but the first
abbrev pub comma_text : ℕ → List ℕ
comma_text zero = []
comma_text (suc before) = bytes ","

unfoldable pub terms_text : Names → ℕ → List (List ℕ) → List ℕ
terms_text names before [] = []
terms_text names before (v ∷ vs) = (comma_text before ++ shown names 0 0 [] v) ++ terms_text names (suc before) vs

-- a tuple in brackets, a bar before each but the first
abbrev pub open_text : ℕ → List ℕ
open_text zero = bytes "["
open_text (suc before) = bytes "|["

unfoldable pub each_text : Names → ℕ → List (List (List ℕ)) → List ℕ
each_text names before [] = []
each_text names before (t ∷ ts) = ((open_text before ++ terms_text names 0 t) ++ bytes "]") ++ each_text names (suc before) ts

-- several alternatives stand in parentheses
unfoldable pub tuples_text : Names → ℕ → List ℕ → List ℕ → List ℕ
tuples_text names disjuncts question own =
    cond (eqb disjuncts 1) (each_text names 0 (tuples_in disjuncts question own))
    ((bytes "(" ++ each_text names 0 (tuples_in disjuncts question own)) ++ bytes ")")

unfoldable pub line_text : List ℕ → Names → ℕ → List ℕ → List ℕ → List ℕ
line_text name names disjuncts question own =
    (bytes "% SZS answers Tuple [" ++ tuples_text names disjuncts question own) ++ ((bytes "|_] for " ++ name) ++ bytes "\n")

-- a question that has variables has a line; no other has one
unfoldable pub answers_text : List ℕ → Names → ℕ → List ℕ → List ℕ → List ℕ
answers_text name names disjuncts [] own = []
answers_text name names disjuncts (c ∷ question) own =
    cond (eqb (variables_of c) 0) [] (line_text name names disjuncts question own)

-- what was written of one disjunct, and where the next begins
pub record Walked (names : Names) (question own : List ℕ) (from : ℕ) (out : List ℕ) (start : ℕ) (out' : List ℕ) (r : Told) : Type 0 where
  pub put : Put out start (terms_text names 0 (values_in question 0 (drop from own))) out' r.byte
  pub rest : drop r.own own ≡ after_in question (drop from own)
  pub inside : r.own ≤ length own
