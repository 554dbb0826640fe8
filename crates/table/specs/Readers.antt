-- What the inner readers promise one another. The public contracts rest on none of this: a reader of them need not believe it.
use Rattle.std.specs.Prelude.{List, ◌≡◌, ℕ, suc, ◌+◌, ◌≤◌, length, drop, get_or, Result, Ok, Err}
use Rattle.std.proofs.Math.Option.{Option, none, some}
use Rattle.words.specs.Fields.{literals_of, variables_of, following_of}
use Rattle.words.specs.Fingerprint.{mixed, bytes_of}
use Rattle.table.specs.Reading.{fault, clause_fault}
use Rattle.table.specs.Body.{starts, last_of}
use Rattle.table.specs.File.{refused}
use Rattle.table.specs.declared.Judgement.{Judgement}
use Rattle.table.specs.declared.read.Reached.{Reached}

-- the first fault where so much is still owed after what was read
abbrev pub goes_on : ℕ → List ℕ → ℕ → ℕ → Result Reached ℕ → Option ℕ
goes_on variables own l t (Ok reached) = fault variables l t reached.at (drop reached.at own)
goes_on variables own l t (Err place) = some place

-- reading goes on within the words, at the least place or after it
abbrev pub Lies : ℕ → ℕ → Result Reached ℕ → Type 0
Lies least most (Ok reached) = (least ≤ reached.at) × (reached.at ≤ most)
Lies least most (Err place) = place ≤ most

-- the fingerprint has been taken up to the place where reading goes on: the words from there on bring both to the same
abbrev pub Mixes : List ℕ → ℕ → ℕ → Result Reached ℕ → Type 0
Mixes own at hash (Ok reached) = mixed hash (bytes_of (drop at own)) ≡ mixed reached.hash (bytes_of (drop reached.at own))
Mixes own at hash (Err place) = Unit {0}

-- so many terms have been read from a place on
pub record TermsRead (variables : ℕ) (own : List ℕ) (at many hash : ℕ) (r : Result Reached ℕ) : Type 0 where
  pub faults : (l t : ℕ) → fault variables l (many + t) at (drop at own) ≡ goes_on variables own l t r
  pub lies : Lies at (length own) r
  pub mixes : Mixes own at hash r

-- one term has been read
pub record TermRead (variables : ℕ) (own : List ℕ) (at hash : ℕ) (r : Result Reached ℕ) : Type 0 where
  pub faults : (l t : ℕ) → fault variables l (suc t) at (drop at own) ≡ goes_on variables own l t r
  pub lies : Lies (suc at) (length own) r
  pub mixes : Mixes own at hash r

-- a literal has been read; all of so many literals have been read
pub record LiteralRead (variables : ℕ) (own : List ℕ) (at hash : ℕ) (r : Result Reached ℕ) : Type 0 where
  pub faults : (l : ℕ) → fault variables (suc l) 0 at (drop at own) ≡ goes_on variables own l 0 r
  pub lies : Lies at (length own) r
  pub mixes : Mixes own at hash r

pub record LiteralsRead (variables : ℕ) (own : List ℕ) (many hash : ℕ) (r : Result Reached ℕ) : Type 0 where
  pub faults : fault variables many 0 1 (drop 1 own) ≡ goes_on variables own 0 0 r
  pub lies : Lies 1 (length own) r
  pub mixes : Mixes own 1 hash r

-- all the words of a clause have been judged, its own word the first: whole up to the last, or the place of the first fault
pub record WholeWords (own : List ℕ) (hash words h : ℕ) : Type 0 where
  pub sound : fault (variables_of (get_or own 0 0)) (literals_of (get_or own 0 0)) 0 1 (drop 1 own) ≡ none
  pub counts : words ≡ length own
  pub mixes : h ≡ mixed hash (bytes_of own)

pub record FaultyWords (own : List ℕ) (place : ℕ) : Type 0 where
  pub faulty : fault (variables_of (get_or own 0 0)) (literals_of (get_or own 0 0)) 0 1 (drop 1 own) ≡ some place
  pub fits : place ≤ length own

abbrev pub WordsJudged : List ℕ → ℕ → Result Reached ℕ → Type 0
WordsJudged own hash (Ok reached) = WholeWords own hash reached.at reached.hash
WordsJudged own hash (Err place) = FaultyWords own place

-- a clause has been judged from a part that begins at its own word: it is whole and has so many words, or its first fault has this place
pub record IsWhole (part : List ℕ) (hash words h : ℕ) : Type 0 where
  pub sound : clause_fault (get_or part 0 0) (drop 1 part) ≡ none
  pub counts : words ≡ following_of (get_or part 0 0) + 1
  pub fits : words ≤ length part
  pub mixes : mixed hash (bytes_of part) ≡ mixed h (bytes_of (drop words part))

pub record IsMalformed (part : List ℕ) (place : ℕ) : Type 0 where
  pub faulty : clause_fault (get_or part 0 0) (drop 1 part) ≡ some place
  pub fits : place ≤ length part

abbrev pub Judged : List ℕ → ℕ → Result Reached ℕ → Type 0
Judged part hash (Ok reached) = IsWhole part hash reached.at reached.hash
Judged part hash (Err place) = IsMalformed part place

abbrev pub place_of : Result Reached ℕ → ℕ
place_of (Ok reached) = reached.at
place_of (Err place) = place

-- a body has been read: status 7 with the place of the first fault; else the number of clauses read, and where the last begins
abbrev pub body_read : List ℕ → Option ℕ → Judgement
body_read body (some place) = refused 7 place
body_read body none =
    record { status = 0; place = 0; clauses = length (starts 0 0 body); question = last_of 0 (starts 0 0 body) }

-- a clause of a body that was read without fault begins here, and the body holds all its words
pub record BeginsAt (body : List ℕ) (number at : ℕ) : Type 0 where
  pub place : at ≡ get_or (starts 0 0 body) number 0
  pub fits : at + (following_of (get_or body at 0) + 1) ≤ length body
