-- Machinery: the literals of a body as a scan of its words meets them, and what stands where the scan is. No public contract speaks of it.
use Rattle.std.specs.Prelude.{Option, Some, None, Bool, true, false, cond, ◌&&◌, List, [], ◌∷◌, ◌≡◌, ℕ, ◌+◌, ◌-◌, ◌^◌, ◌≤◌, ◌<◌, eqb, length, take, drop, get_or}
use Rattle.words.specs.Fields.{kind_of, negative_of}
use Rattle.index.specs.declared.entries.Scan.{Scan}

abbrev pub begun : Scan
begun = record { at = 0; clauses = 0; start = 0; literals = 0 }

-- past a word that is a clause's own, a literal's, or neither
unfoldable pub past_by : Bool → Bool → Scan → Scan
past_by true literal s = record { at = s.at + 1; clauses = s.clauses + 1; start = s.at; literals = 0 }
past_by false true s = record { at = s.at + 1; clauses = s.clauses; start = s.start; literals = s.literals + 1 }
past_by false false s = record { at = s.at + 1; clauses = s.clauses; start = s.start; literals = s.literals }

unfoldable pub past_word : Scan → ℕ → Scan
past_word s w = past_by (eqb (kind_of w) 3) (eqb (kind_of w) 2) s

unfoldable pub past_words : Scan → List ℕ → Scan
past_words s [] = s
past_words s (w ∷ ws) = past_words (past_word s w) ws

-- the scans that stand at a wanted word, in order
unfoldable pub entries_from : ℕ → Scan → List ℕ → List Scan
entries_from wanted s [] = []
entries_from wanted s (w ∷ ws) =
    cond (eqb w wanted) (s ∷ entries_from wanted (past_word s w) ws) (entries_from wanted (past_word s w) ws)

-- a scan stands where it has passed the words before it
pub record Standing (words : List ℕ) (s : Scan) : Type 0 where
  pub within : s.at ≤ length words
  pub clauses : s.clauses ≤ s.at
  pub literals : s.literals ≤ s.at
  pub passed : s ≡ past_words begun (take s.at words)

-- The first of the scans that are left stands here, and the others come after it.
pub record NextEntry (words : List ℕ) (wanted : ℕ) (from s : Scan) : Type 0 where
  pub standing : Standing words s
  pub later : from.at ≤ s.at
  pub inside : s.at < length words
  pub here : get_or words s.at 0 ≡ wanted
  pub first : entries_from wanted from (drop from.at words) ≡ s ∷ entries_from wanted (past_word s wanted) (drop (s.at + 1) words)

abbrev pub IsNext : List ℕ → ℕ → Scan → Option Scan → Type 0
IsNext words wanted from (Some s) = NextEntry words wanted from s
IsNext words wanted from None = entries_from wanted from (drop from.at words) ≡ []

-- a literal of this number, in a clause of this number
unfoldable pub is_entry : ℕ → ℕ → Scan → ℕ → Bool
is_entry clause literal s w = eqb (kind_of w) 2 && eqb s.clauses (clause + 1) && eqb s.literals literal

unfoldable pub entry_from : ℕ → ℕ → Scan → List ℕ → Option Scan
entry_from clause literal s [] = None
entry_from clause literal s (w ∷ ws) =
    cond (is_entry clause literal s w) (Some s) (entry_from clause literal (past_word s w) ws)

-- the scan that stands at a literal
pub record EntryAt (words : List ℕ) (clause literal : ℕ) (s : Scan) : Type 0 where
  pub standing : Standing words s
  pub inside : s.at < length words
  pub kind : kind_of (get_or words s.at 0) ≡ 2
  pub clauses : s.clauses ≡ clause + 1
  pub literals : s.literals ≡ literal

abbrev pub IsEntry : List ℕ → ℕ → ℕ → Option Scan → Type 0
IsEntry words clause literal (Some s) = EntryAt words clause literal s
IsEntry words clause literal None = entry_from clause literal begun words ≡ None

-- the literal word of the other sign: bit 15 is the sign
unfoldable pub other_sign : ℕ → ℕ
other_sign w = cond (negative_of w) (w - 2 ^ 15) (w + 2 ^ 15)
