-- The words of a table: terms in prefix order, a literal before its arguments, a clause before its literals, the clauses back to back.
use Rattle.std.specs.Prelude.{List, [], ◌∷◌, ◌++◌, ℕ, length}
use Rattle.words.specs.Fields.{variable_word, function_word, literal_word, clause_word}
use Rattle.words.specs.Fingerprint.{fingerprint}
use Rattle.table.specs.Syntax.{Term, var, app, Terms, nil, ◌then◌, arity, Literal, Clause, Table, all_clauses}

-- a term is its word and then its arguments, each of them a term
unfoldable mutual
  pub term_words : Term ℕ → List ℕ
  term_words (var x) = variable_word x ∷ []
  term_words (app f ts) = function_word f (arity ts) ∷ terms_words ts

  pub terms_words : Terms ℕ → List ℕ
  terms_words nil = []
  terms_words (t then ts) = term_words t ++ terms_words ts

unfoldable pub literal_words : Literal ℕ → List ℕ
literal_words l = literal_word l.negative l.predicate (arity l.arguments) ∷ terms_words l.arguments

unfoldable pub literals_words : List (Literal ℕ) → List ℕ
literals_words [] = []
literals_words (l ∷ ls) = literal_words l ++ literals_words ls

unfoldable pub clause_words : Clause → List ℕ
clause_words c =
    clause_word c.restricted (length c.literals) c.variables (length (literals_words c.literals)) ∷ literals_words c.literals

unfoldable pub clauses_words : List Clause → List ℕ
clauses_words [] = []
clauses_words (c ∷ cs) = clause_words c ++ clauses_words cs

unfoldable pub body_words : Table → List ℕ
body_words t = clauses_words (all_clauses t)

-- the file of a table: the body, then the trailer: position of the question's clause word, number of clauses, fingerprint, body length
unfoldable pub file_words : Table → List ℕ
file_words t =
    body_words t ++ (length (clauses_words t.clauses) ∷ length (all_clauses t) ∷ fingerprint (body_words t) ∷ length (body_words t) ∷ [])
