-- The names of symbols that a text says are tokens: they begin lower-case and go on as names do.
use mathlib.Core.Bool.{true}
use mathlib.Core.List.{List}
use mathlib.Core.Path.{◌≡◌, refl}
use Prim.Native.Nat.{ℕ}
use Rattle.clausetext.specs.declared.kind.Kind.TheVariants.{Lower}
use Rattle.clausetext.specs.Syntax.{Term, Terms, Literal, Clause}
use Rattle.clausetext.specs.Tokens.{Token, word, capital, mark, Word, ends, goes, Spelt, nothing, blank, comment, sign, lower, upper, Remark, stops, closes, further}
use Rattle.clausetext.specs.Grammar.{Applied, bare, applied, TermRule, Arguments, LiteralRule, positive, negated, Disjunction, Formula, plain, bracketed, ClauseRule, clause, Clauses, none}
use Rattle.clausetext.specs.Texts.{Says}
use Rattle.names.specs.Numbers.{Name}
use Rattle.tptp.specs.Said.{functions_of, functions_in, predicate_uses, function_uses, of_all}
use Rattle.naming.specs.Texts.{going_on, Begins, begins}
use Rattle.rules.proofs.Every.{All, end, ◌also◌, all_first, all_rest, all_append}

abbrev pub Lowers : List Name → Type 0
Lowers names = All (λ (name : Name). Begins Lower name) names

abbrev Good : Token → Type 0
Good (word w) = Begins Lower w
Good (capital x) = Unit {0}
Good (mark m) = Unit {0}

word_goes : {w text rest : List ℕ} → Word w text rest → going_on w ≡ true
unfolding going_on
word_goes (ends e) = refl
word_goes (goes k x) = rw (k, word_goes x)

mutual
  spelt_good : {ts : List Token} {text : List ℕ} → Spelt ts text → All Good ts
  spelt_good nothing = end
  spelt_good (blank k s) = spelt_good s
  spelt_good (comment k r) = remark_good r
  spelt_good (sign k s) = tt also spelt_good s
  spelt_good (lower k w s) = begins k (word_goes w) also spelt_good s
  spelt_good (upper k w s) = tt also spelt_good s

  remark_good : {ts : List Token} {text : List ℕ} → Remark ts text → All Good ts
  remark_good stops = end
  remark_good (closes e s) = spelt_good s
  remark_good (further n r) = remark_good r

mutual
  unfolding functions_of functions_in

  applied_good : {f : List ℕ} {ts : Terms} {from rest : List Token} → Applied f ts from rest → All Good from → Begins Lower f × Lowers (functions_in ts) × All Good rest
  applied_good bare g = (all_first g, end, all_rest g)
  applied_good (applied a) g = let r = arguments_good a (all_rest (all_rest g)) in (all_first g, r.0, r.1)

  term_good : {t : Term} {from rest : List Token} → TermRule t from rest → All Good from → Lowers (functions_of t) × All Good rest
  term_good TermRule.upper g = (end, all_rest g)
  term_good (TermRule.lower a) g = let r = applied_good a g in (r.0 also r.1, r.2)

  arguments_good : {ts : Terms} {from rest : List Token} → Arguments ts from rest → All Good from → Lowers (functions_in ts) × All Good rest
  arguments_good (Arguments.last t) g = let r = term_good t g in (all_append r.0 end, all_rest r.1)
  arguments_good (Arguments.more t a) g =
      let r = term_good t g in
      let s = arguments_good a (all_rest r.1) in
      (all_append r.0 s.0, s.1)

literal_good : {l : Literal} {from rest : List Token} → LiteralRule l from rest → All Good from → Begins Lower l.predicate × Lowers (functions_in l.arguments) × All Good rest
literal_good (positive a) g = applied_good a g
literal_good (negated a) g = applied_good a (all_rest g)

abbrev Literals : List Literal → List Token → Type 0
Literals ls rest = Lowers (predicate_uses ls) × Lowers (function_uses ls) × All Good rest

disjunction_good : {ls : List Literal} {from rest : List Token} → Disjunction ls from rest → All Good from → Literals ls rest
unfolding predicate_uses function_uses
disjunction_good (Disjunction.last l) g = let r = literal_good l g in (r.0 also end, all_append r.1 end, r.2)
disjunction_good (Disjunction.more l d) g =
    let r = literal_good l g in
    let s = disjunction_good d (all_rest r.2) in
    (r.0 also s.0, all_append r.1 s.1, s.2)

formula_good : {ls : List Literal} {from rest : List Token} → Formula ls from rest → All Good from → Literals ls rest
formula_good (plain d) g = disjunction_good d g
formula_good (bracketed d) g = let r = disjunction_good d (all_rest g) in (r.0, r.1, all_rest r.2)

clause_good : {c : Clause} {from rest : List Token} → ClauseRule c from rest → All Good from → Literals c.literals rest
clause_good (clause f) g =
    let r = formula_good f (all_rest (all_rest (all_rest (all_rest (all_rest (all_rest g)))))) in
    (r.0, r.1, all_rest (all_rest r.2))

clauses_good : {cs : List Clause} {ts : List Token} → Clauses cs ts → All Good ts → Lowers (of_all predicate_uses cs) × Lowers (of_all function_uses cs)
unfolding of_all
clauses_good none g = (end, end)
clauses_good (Clauses.more c x) g =
    let r = clause_good c g in
    let s = clauses_good x r.2 in
    (all_append r.0 s.0, all_append r.1 s.1)

pub names_lower : {text : List ℕ} {cs : List Clause} → Says text cs → Lowers (of_all predicate_uses cs) × Lowers (of_all function_uses cs)
names_lower s = clauses_good s.clauses (spelt_good s.spelt)
