-- The judgement of a text, byte by byte: machinery. What it says is in proofs/Judgement, in the words of Texts.
use Rattle.std.specs.Prelude.{Option, Some, None, Err, Bool, true, false, cond, List, [], ◌∷◌, ℕ, zero, suc, ◌+◌, ◌^◌, ◌<◌, eqb, ltb, length, get_or}
use Rattle.clausetext.specs.declared.kind.Mark.{Mark}
use Rattle.clausetext.specs.declared.kind.Mark.TheVariants.{Open, Close, Comma, Bar, Tilde, Dot}
use Rattle.clausetext.specs.declared.kind.Kind.{Kind}
use Rattle.clausetext.specs.declared.kind.Kind.TheVariants.{Blank, Percent, Lower, Upper, Further, Sign, Other}
use Rattle.clausetext.specs.declared.judge.Want.{Want}
use Rattle.clausetext.specs.declared.judge.Want.TheVariants.{Clause, Opening, Name, AfterName, Role, AfterRole, Formula, Literal, Atom, Symbol, Term, Ended, Closing, Stop}
use Rattle.clausetext.specs.declared.judge.Mode.{Mode}
use Rattle.clausetext.specs.declared.judge.Mode.TheVariants.{Between, Comment, Word, Owed}
use Rattle.clausetext.specs.declared.judge.State.{State}
use Rattle.clausetext.specs.Kinds.{kind_of, goes_on}
use Rattle.clausetext.specs.Syntax.{ascii}
use Rattle.clausetext.specs.Texts.{counts, Verdict}

abbrev pub words : List ℕ
words = ascii "cnf.axiom.hypothesis.negated_conjecture."

-- the byte owed at a place; `.` where a word is whole
unfoldable pub owed_at : ℕ → ℕ
owed_at i = get_or words i 46

-- a state's row of the table: where each sign leads
unfoldable pub row : Mark → Option Want → Option Want → Option Want → Option Want → Option Want → Option Want → Option Want
row Open o c k b t d = o
row Close o c k b t d = c
row Comma o c k b t d = k
row Bar o c k b t d = b
row Tilde o c k b t d = t
row Dot o c k b t d = d

abbrev pub outside : Bool → Want
outside true = Closing
outside false = Stop

unfoldable pub on_ended : ℕ → Bool → Mark → Option Want
on_ended zero p m = row m None (Some (outside p)) None (Some (Literal p)) None None
on_ended (suc d) p m = row m None (Some (Ended d p)) (Some (Term d p)) None None None

unfoldable pub on_sign : Want → Mark → Option Want
on_sign Clause m = None
on_sign Opening m = row m (Some Name) None None None None None
on_sign Name m = None
on_sign AfterName m = row m None None (Some Role) None None None
on_sign Role m = None
on_sign AfterRole m = row m None None (Some Formula) None None None
on_sign Formula m = row m (Some (Literal true)) None None None (Some (Atom false)) None
on_sign (Literal p) m = row m None None None None (Some (Atom p)) None
on_sign (Atom p) m = None
on_sign (Symbol d p) m =
    row m (Some (Term d p)) (on_ended d p m) (on_ended d p m) (on_ended d p m) (on_ended d p m) (on_ended d p m)
on_sign (Term d p) m = None
on_sign (Ended d p) m = on_ended d p m
on_sign Closing m = row m None (Some Stop) None None None None
on_sign Stop m = row m None None None None None (Some Clause)

-- numbers that can grow by one
abbrev pub depth_of : Want → ℕ
depth_of Clause = 0
depth_of Opening = 0
depth_of Name = 0
depth_of AfterName = 0
depth_of Role = 0
depth_of AfterRole = 0
depth_of Formula = 0
depth_of (Literal p) = 0
depth_of (Atom p) = 0
depth_of (Symbol d p) = d
depth_of (Term d p) = d
depth_of (Ended d p) = d
depth_of Closing = 0
depth_of Stop = 0

pub record Room (s : State) : Type 0 where
  pub deep : depth_of s.want < 2 ^ 63
  pub many : s.clauses < 2 ^ 63
  pub asking : s.questions < 2 ^ 63

-- a state with another want and mode
abbrev pub moved : State → Want → Mode → Option State
moved s v m = Some (record { want = v; mode = m; clauses = s.clauses; questions = s.questions })

unfoldable pub signed : State → Option Want → Option State
signed s (Some v) = moved s v Between
signed s None = None

-- a role is known by its first byte
unfoldable pub on_role : State → ℕ → Option State
on_role s c =
    cond (eqb c 97)
    (Some (record { want = AfterRole; mode = Owed 5; clauses = s.clauses + 1; questions = s.questions }))
    (cond (eqb c 104)
    (Some (record { want = AfterRole; mode = Owed 11; clauses = s.clauses + 1; questions = s.questions }))
    (cond (eqb c 110)
    (Some (record { want = AfterRole; mode = Owed 22; clauses = s.clauses + 1; questions = s.questions + 1 }))
    None))

-- a lower-case letter between tokens
unfoldable pub on_lower : State → Want → ℕ → Option State
on_lower s Clause c = cond (eqb c 99) (moved s Opening (Owed 1)) None
on_lower s Opening c = None
on_lower s Name c = moved s AfterName Word
on_lower s AfterName c = None
on_lower s Role c = on_role s c
on_lower s AfterRole c = None
on_lower s Formula c = moved s (Symbol 0 false) Word
on_lower s (Literal p) c = moved s (Symbol 0 p) Word
on_lower s (Atom p) c = moved s (Symbol 0 p) Word
on_lower s (Symbol d p) c = None
on_lower s (Term d p) c = moved s (Symbol (suc d) p) Word
on_lower s (Ended d p) c = None
on_lower s Closing c = None
on_lower s Stop c = None

-- an upper-case letter between tokens
unfoldable pub on_upper : State → Want → Option State
on_upper s Clause = None
on_upper s Opening = None
on_upper s Name = None
on_upper s AfterName = None
on_upper s Role = None
on_upper s AfterRole = None
on_upper s Formula = None
on_upper s (Literal p) = None
on_upper s (Atom p) = None
on_upper s (Symbol d p) = None
on_upper s (Term d p) = moved s (Ended (suc d) p) Word
on_upper s (Ended d p) = None
on_upper s Closing = None
on_upper s Stop = None

-- a byte between tokens
unfoldable pub on_kind : State → ℕ → Kind → Option State
on_kind s c Blank = moved s s.want Between
on_kind s c Percent = moved s s.want Comment
on_kind s c Lower = on_lower s s.want c
on_kind s c Upper = on_upper s s.want
on_kind s c Further = None
on_kind s c (Sign m) = signed s (on_sign s.want m)
on_kind s c Other = None

-- a byte in a mode
unfoldable pub on_byte : State → ℕ → Mode → Option State
on_byte s c Between = on_kind s c (kind_of c)
on_byte s c Comment = moved s s.want (cond (eqb c 10) Between Comment)
on_byte s c Word = cond (goes_on (kind_of c)) (moved s s.want Word) (on_kind s c (kind_of c))
on_byte s c (Owed i) =
    cond (goes_on (kind_of c))
    (cond (eqb c (owed_at i)) (moved s s.want (Owed (i + 1))) None)
    (cond (eqb (owed_at i) 46) (on_kind s c (kind_of c)) None)

unfoldable pub step_of : State → ℕ → Option State
step_of s c = on_byte s c s.mode

-- the text may end here
unfoldable pub settled : Mode → Bool
settled Between = true
settled Comment = true
settled Word = true
settled (Owed i) = eqb (owed_at i) 46

unfoldable pub may_end : Want → Mode → Bool
may_end Clause m = settled m
may_end Opening m = false
may_end Name m = false
may_end AfterName m = false
may_end Role m = false
may_end AfterRole m = false
may_end Formula m = false
may_end (Literal p) m = false
may_end (Atom p) m = false
may_end (Symbol d p) m = false
may_end (Term d p) m = false
may_end (Ended d p) m = false
may_end Closing m = false
may_end Stop m = false

unfoldable pub finished : State → ℕ → Verdict
finished s at = cond (may_end s.want s.mode) (counts s.clauses s.questions) (Err at)

abbrev pub onward : Option State → ℕ → (State → Verdict) → Verdict
onward (Some s) at rest = rest s
onward None at rest = Err at

-- the bytes from a place on, read in a state
unfoldable pub run : State → ℕ → List ℕ → Verdict
run s at [] = finished s at
run s at (c ∷ text) = onward (step_of s c) at (λ t. run t (at + 1) text)

abbrev pub start : State
start = record { want = Clause; mode = Between; clauses = 0; questions = 0 }

-- a text over 65,536 bytes is wrong at 65,536; that is looked at first
unfoldable pub judged : List ℕ → Verdict
judged text = cond (ltb 65536 (length text)) (Err 65536) (run start 0 text)
