-- A printed text says one answer.
use mathlib.Core.List.{List, [], ◌∷◌, ◌++◌}
use mathlib.Core.Path.{◌≡◌, refl, sym, ap, ap₂, subst, ◌∙◌}
use Prim.Native.Nat.{ℕ}
use Rattle.table.specs.Syntax.{Literal as LiteralSaid}
use Rattle.clausetext.specs.declared.kind.Mark.TheVariants.{Open, Close, Comma, Dot}
use Rattle.clausetext.specs.Syntax.{Term, Terms, Literal, Axiom, Clause, role_name}
use Rattle.clausetext.specs.Tokens.{Token, word, mark}
use Rattle.clausetext.specs.Grammar.{Applied, bare, applied, TermRule, Arguments, LiteralRule, positive, negated, Disjunction, plain, cnf, clause, Clauses}
use Rattle.clausetext.proofs.OneReading.{spelt_once, clauses_once}
use Rattle.naming.specs.Texts.{ReadAs}
use Rattle.printed.specs.Reading.{Conjuncts, FurtherLines, Lines, lines, answer_said, PrintedSays}

-- a literal's tokens with others after them
module _ (more : List Token) where
  mutual
    applied-on : {f : List ℕ} {ts : Terms} {from rest : List Token} → Applied f ts from rest → Applied f ts (from ++ more) (rest ++ more)
    applied-on bare = bare
    applied-on (applied a) = applied (arguments-on a)

    term-on : {t : Term} {from rest : List Token} → TermRule t from rest → TermRule t (from ++ more) (rest ++ more)
    term-on TermRule.upper = TermRule.upper
    term-on (TermRule.lower a) = TermRule.lower (applied-on a)

    arguments-on : {ts : Terms} {from rest : List Token} → Arguments ts from rest → Arguments ts (from ++ more) (rest ++ more)
    arguments-on (Arguments.last t) = Arguments.last (term-on t)
    arguments-on (Arguments.more t a) = Arguments.more (term-on t) (arguments-on a)

  literal-on : {l : Literal} {from rest : List Token} → LiteralRule l from rest → LiteralRule l (from ++ more) (rest ++ more)
  literal-on (positive a) = positive (applied-on a)
  literal-on (negated a) = negated (applied-on a)

-- so it is a clause of one literal, which says one thing
abbrev ending : List Token
ending = mark Close ∷ mark Dot ∷ []

abbrev alone : Literal → List Clause
alone l = record { name = cnf; role = Axiom; literals = l ∷ [] } ∷ []

abbrev first_said : List Clause → List Literal
first_said [] = []
first_said (c ∷ cs) = c.literals

clause_alone : {l : Literal} {ts : List Token} → LiteralRule l ts []
    → Clauses (alone l) (word cnf ∷ mark Open ∷ word cnf ∷ mark Comma ∷ word (role_name Axiom) ∷ mark Comma ∷ (ts ++ ending))
clause_alone rule = Clauses.more (clause (plain (Disjunction.last (literal-on ending rule)))) Clauses.none

read_once : {text : List ℕ} {k l : Literal} → ReadAs text k → ReadAs text l → k ≡ l
read_once {k = k} {l = l} x y =
    let tokens : x.tokens ≡ y.tokens = spelt_once x.spelt y.spelt in
    let same : alone k ≡ alone l = clauses_once (clause_alone x.rule) (clause_alone (subst (λ (ts : List Token). LiteralRule l ts []) (sym tokens) y.rule)) in
    let one : ◌≡◌ {A = List Literal} (k ∷ []) (l ∷ []) = ap (λ (cs : List Clause). first_said cs) same in
    cc one

conjuncts_once : {parts : List (List ℕ)} {ks ls : List Literal} → Conjuncts parts ks → Conjuncts parts ls → ks ≡ ls
conjuncts_once Conjuncts.none Conjuncts.none = refl
conjuncts_once (Conjuncts.more x xs) (Conjuncts.more y ys) = ap₂ ◌∷◌ (read_once x y) (conjuncts_once xs ys)

further_once : {rest : List (List ℕ)} {ds es : List (List Literal)} → FurtherLines rest ds → FurtherLines rest es → ds ≡ es
further_once FurtherLines.none FurtherLines.none = refl
further_once (FurtherLines.more x xs) (FurtherLines.more y ys) = ap₂ ◌∷◌ (conjuncts_once x y) (further_once xs ys)

lines_once : {parts : List (List ℕ)} {ds es : List (List Literal)} → Lines parts ds → Lines parts es → ds ≡ es
lines_once (lines x xs) (lines y ys) = ap₂ ◌∷◌ (conjuncts_once x y) (further_once xs ys)

pub said_once : (cs : List Clause) (text : List ℕ) (ds es : List (List (LiteralSaid ℕ))) → PrintedSays cs text ds → PrintedSays cs text es → ds ≡ es
said_once cs text ds es x y =
    x.said ∙ ap (λ (spoken : List (List Literal)). answer_said cs spoken) (lines_once x.says y.says) ∙ sym y.said
