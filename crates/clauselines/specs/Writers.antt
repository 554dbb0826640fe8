-- Machinery: what the inner writers promise one another. The public contracts rest on none of this.
use Rattle.std.specs.Prelude.{List, ◌++◌, ◌≡◌, ℕ, ◌+◌, length, drop}
use Rattle.table.specs.Syntax.{Term, Terms, arity, Literal}
use Rattle.table.specs.Encode.{term_words, terms_words, literal_words, literals_words, clause_words}
use Rattle.table.specs.Decode.{clause_of}
use Rattle.table.specs.Limits.{TermWithin, TermsWithin, LiteralWithin, Each, ClauseWithin, Words}
use Rattle.table.specs.File.{judge}
use Rattle.text.specs.Put.{Put}
use Rattle.clauselines.specs.Lines.{term_text, literal_text}
use Rattle.clauselines.specs.declared.line.Reached.{Reached}

-- words that stand from a place on
pub record StandAt (own : List ℕ) (at : ℕ) (words : List ℕ) : Type 0 where
  pub rest : List ℕ
  pub begin : drop at own ≡ words ++ rest

-- such words have been passed, and their text is written
pub record Wrote (at : ℕ) (words out : List ℕ) (from : ℕ) (text left : List ℕ) (r : Reached) : Type 0 where
  pub passed : r.word ≡ at + length words
  pub written : Put out from text left r.byte

-- a term stands at a place; and it has been written, whichever it is
pub record TermHere (own : List ℕ) (at : ℕ) : Type 0 where
  pub term : Term ℕ
  pub within : TermWithin term 1024
  pub stands : StandAt own at (term_words term)

pub record TermWritten (own : List ℕ) (at : ℕ) (out : List ℕ) (from : ℕ) (left : List ℕ) (r : Reached) : Type 0 where
  pub told : (t : Term ℕ) → TermWithin t 1024 → StandAt own at (term_words t) → Wrote at (term_words t) out from (term_text t) left r

-- so many terms; and their text, as arguments or as further arguments
pub record TermsHere (own : List ℕ) (at many : ℕ) : Type 0 where
  pub terms : Terms ℕ
  pub within : TermsWithin terms 1024
  pub count : arity terms ≡ many
  pub stands : StandAt own at (terms_words terms)

pub record TermsWritten (text : Terms ℕ → List ℕ) (own : List ℕ) (at many : ℕ) (out : List ℕ) (from : ℕ) (left : List ℕ) (r : Reached) : Type 0 where
  pub told : (ts : Terms ℕ) → TermsWithin ts 1024 → arity ts ≡ many → StandAt own at (terms_words ts) → Wrote at (terms_words ts) out from (text ts) left r

-- a literal
pub record LiteralHere (own : List ℕ) (at : ℕ) : Type 0 where
  pub literal : Literal ℕ
  pub within : LiteralWithin 1024 literal
  pub stands : StandAt own at (literal_words literal)

pub record LiteralWritten (own : List ℕ) (at : ℕ) (out : List ℕ) (from : ℕ) (left : List ℕ) (r : Reached) : Type 0 where
  pub told : (l : Literal ℕ) → LiteralWithin 1024 l → StandAt own at (literal_words l) → Wrote at (literal_words l) out from (literal_text l) left r

-- so many literals stand from a place on, up to the last word
pub record LiteralsHere (own : List ℕ) (at many : ℕ) : Type 0 where
  pub literals : List (Literal ℕ)
  pub within : Each (LiteralWithin 1024) literals
  pub count : length literals ≡ many
  pub words : drop at own ≡ literals_words literals

-- the words of a clause within document 01's limits
pub record IsClause (own : List ℕ) : Type 0 where
  pub within : ClauseWithin (clause_of own)
  pub words : own ≡ clause_words (clause_of own)

-- an accepted file, and where its question begins
pub record Ready (file : List ℕ) (question : ℕ) : Type 0 where
  pub accepted : (judge file).status ≡ 0
  pub small : Words file
  pub asks : question ≡ (judge file).question
