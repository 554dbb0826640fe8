-- Literals as text in names: what is promised of words shown. Proved in proofs/Texts.
use Rattle.std.specs.Prelude.{Bool, true, ◌&&◌, List, [], ◌∷◌, ◌++◌, ◌≡◌, ℕ, suc, ◌<◌, length, get_or}
use Rattle.clausetext.specs.declared.kind.Kind.{Kind}
use Rattle.clausetext.specs.declared.kind.Kind.TheVariants.{Lower, Upper}
use Rattle.clausetext.specs.Kinds.{kind_of, goes_on}
use Rattle.clausetext.specs.Syntax as Spoken
use Rattle.clausetext.specs.Tokens.{Token, Spelt}
use Rattle.clausetext.specs.Grammar.{LiteralRule}
use Rattle.names.specs.Numbers.{Name, first_uses, number_in}
use Rattle.tptp.specs.Said.{literal_said}
use Rattle.table.specs.Syntax.{Term, var, app, Terms, nil, ◌then◌, Literal}
use Rattle.table.specs.Encode.{literals_words}
use Rattle.table.specs.Limits.{LiteralWithin, Each}
use Rattle.text.specs.Quoted.{bytes}
use Rattle.naming.specs.Shown.{Names, or_numbered, joint_text, sign_text, shown}

-- a term is its name and then its arguments, in parentheses and with commas between them
unfoldable mutual
  pub term_text : Names → Term ℕ → List ℕ
  term_text names (var x) = or_numbered x (get_or names.variables x [])
  term_text names (app f ts) = get_or names.functions f [] ++ arguments_text names ts

  pub arguments_text : Names → Terms ℕ → List ℕ
  arguments_text names nil = []
  arguments_text names (t then ts) = bytes "(" ++ (term_text names t ++ further_text names ts)

  pub further_text : Names → Terms ℕ → List ℕ
  further_text names nil = bytes ")"
  further_text names (t then ts) = bytes "," ++ (term_text names t ++ further_text names ts)

unfoldable pub literal_text : Names → Literal ℕ → List ℕ
literal_text names l = sign_text l.negative ++ get_or names.predicates l.predicate [] ++ arguments_text names l.arguments

-- literals after so many others, each after what joins it to them
unfoldable pub literals_text : Names → ℕ → ℕ → List (Literal ℕ) → List ℕ
literals_text names atoms before [] = []
literals_text names atoms before (l ∷ ls) = joint_text atoms before ++ literal_text names l ++ literals_text names atoms (suc before) ls

-- The words of literals, each number one that its field in a word holds, are shown as the text of the literals.
unfoldable pub WordsShown : Type 0
WordsShown =
    (names : Names) (atoms : ℕ) (ls : List (Literal ℕ)) → Each (LiteralWithin 1024) ls
    → shown names atoms 0 [] (literals_words ls) ≡ literals_text names atoms 0 ls

-- Read as clause text, what is shown is the literal with its names put in: a name that begins lower-case for each symbol, one that begins
-- upper-case for each variable.
unfoldable pub going_on : List ℕ → Bool
going_on [] = true
going_on (c ∷ w) = goes_on (kind_of c) && going_on w

pub data Begins (kind : Kind) : List ℕ → Type 0 where
  begins : {c : ℕ} {w : List ℕ} → kind_of c ≡ kind → going_on w ≡ true → Begins kind (c ∷ w)

abbrev pub variable_name : Names → ℕ → List ℕ
variable_name names x = or_numbered x (get_or names.variables x [])

unfoldable mutual
  pub TermNamed : Names → Term ℕ → Type 0
  TermNamed names (var x) = Begins Upper (variable_name names x)
  TermNamed names (app f ts) = Begins Lower (get_or names.functions f []) × TermsNamed names ts

  pub TermsNamed : Names → Terms ℕ → Type 0
  TermsNamed names nil = Unit {0}
  TermsNamed names (t then ts) = TermNamed names t × TermsNamed names ts

unfoldable mutual
  pub term_naming : Names → Term ℕ → Spoken.Term
  term_naming names (var x) = Spoken.variable (variable_name names x)
  term_naming names (app f ts) = Spoken.application (get_or names.functions f []) (terms_naming names ts)

  pub terms_naming : Names → Terms ℕ → Spoken.Terms
  terms_naming names nil = Spoken.nil
  terms_naming names (t then ts) = Spoken.◌then◌ (term_naming names t) (terms_naming names ts)

abbrev pub literal_naming : Names → Literal ℕ → Spoken.Literal
literal_naming names l =
    record { negative = l.negative; predicate = get_or names.predicates l.predicate []; arguments = terms_naming names l.arguments }

-- a text is a literal, and nothing else
pub record ReadAs (text : List ℕ) (l : Spoken.Literal) : Type 0 where
  pub tokens : List Token
  pub spelt : Spelt tokens text
  pub rule : LiteralRule l tokens []

unfoldable pub ReadsAsShown : Type 0
ReadsAsShown =
    (names : Names) (l : Literal ℕ) → Begins Lower (get_or names.predicates l.predicate []) → TermsNamed names l.arguments
    → ReadAs (literal_text names l) (literal_naming names l)

-- With the names numbered again, the literal read is the literal shown: where each name that it is shown in has its own number back.
unfoldable mutual
  pub TermKnown : Names → List Name → Term ℕ → Type 0
  TermKnown names vs (var x) = number_in vs (variable_name names x) ≡ x
  TermKnown names vs (app f ts) = (number_in names.functions (get_or names.functions f []) ≡ f) × TermsKnown names vs ts

  pub TermsKnown : Names → List Name → Terms ℕ → Type 0
  TermsKnown names vs nil = Unit {0}
  TermsKnown names vs (t then ts) = TermKnown names vs t × TermsKnown names vs ts

unfoldable pub SaidAgain : Type 0
SaidAgain =
    (names : Names) (vs : List Name) (l : Literal ℕ)
    → number_in names.predicates (get_or names.predicates l.predicate []) ≡ l.predicate → TermsKnown names vs l.arguments
    → literal_said names.predicates names.functions vs (literal_naming names l) ≡ l

-- and names numbered by first use have their own numbers back
unfoldable pub OwnNumbers : Type 0
OwnNumbers = (uses : List Name) (n : ℕ) → n < length (first_uses uses) → number_in (first_uses uses) (get_or (first_uses uses) n []) ≡ n
