-- A text judged byte by byte, one law for each outcome, with premises as the code has them.
use Rattle.std.specs.Prelude.{Option, Some, None, Result, Ok, Err, ok_or}
use Rattle.clausetext.specs.Texts.{Verdict}
use mathlib.Core.Path.{◌≡◌, refl, sym, ◌∙◌}
use mathlib.Core.Bool.{Bool, true, false, cond}
use mathlib.Core.List.{List}
use Prim.Native.Nat.{ℕ, zero, suc, ◌+◌, ◌^◌, ◌≤◌, ◌<◌}
use native.Mathlib.Omega.{arith}
use native.Mathlib.Numerals.{add-one}
use lib.Dec.{eqb}
use lib.ListN.{length, drop, get_or, drop_of_length-le}
use borrow.Author.Tests.{le-ltb, lt-ltb}
use Rattle.clausetext.specs.declared.kind.Mark.{Mark}
use Rattle.clausetext.specs.declared.kind.Kind.{Kind}
use Rattle.clausetext.specs.declared.kind.Kind.TheVariants.{Blank, Percent, Lower, Upper, Further, Sign, Other}
use Rattle.clausetext.specs.declared.judge.Want.{Want}
use Rattle.clausetext.specs.declared.judge.Want.TheVariants.{Clause, Opening, Name, AfterName, Role, AfterRole, Formula, Literal, Atom, Symbol, Term, Ended, Closing, Stop}
use Rattle.clausetext.specs.declared.judge.Mode.{Mode}
use Rattle.clausetext.specs.declared.judge.Mode.TheVariants.{Between, Comment, Word, Owed}
use Rattle.clausetext.specs.declared.judge.State.{State}
use Rattle.clausetext.specs.Kinds.{kind_of, goes_on}
use Rattle.clausetext.specs.Judging.{owed_at, depth_of, Room, outside, on_ended, on_sign, signed, on_role, on_lower, on_upper, on_kind, on_byte, step_of, finished, run, start, judged}
use Rattle.clausetext.proofs.Following.{in_row}
use Rattle.clausetext.proofs.Lexing.{from_place}

-- a state's numbers are at most the number of bytes read
pub record Small (n : ℕ) (s : State) : Type 0 where
  pub deep : depth_of s.want ≤ n
  pub many : s.clauses ≤ n
  pub asking : s.questions ≤ n

abbrev Grown : ℕ → Option State → Type 0
Grown n (Some s) = Small (suc n) s
Grown n None = Unit {0}

abbrev Shallow : ℕ → Option Want → Type 0
Shallow n (Some v) = depth_of v ≤ n
Shallow n None = Unit {0}

outside_shallow : (n : ℕ) (p : Bool) → depth_of (outside p) ≤ n
outside_shallow n true = omega arith
outside_shallow n false = omega arith

ended_shallow : (n d : ℕ) (p : Bool) (m : Mark) → d ≤ n → Shallow n (on_ended d p m)
unfolding on_ended
ended_shallow n zero p m h = in_row (λ _ w. Shallow n w) m tt (outside_shallow n p) tt (omega arith) tt tt
ended_shallow n (suc d) p m h = in_row (λ _ w. Shallow n w) m tt (omega arith) (omega arith) tt tt tt

sign_shallow : (n : ℕ) (v : Want) (m : Mark) → depth_of v ≤ n → Shallow n (on_sign v m)
unfolding on_sign
sign_shallow n Clause m h = tt
sign_shallow n Opening m h = in_row (λ _ w. Shallow n w) m (omega arith) tt tt tt tt tt
sign_shallow n Name m h = tt
sign_shallow n AfterName m h = in_row (λ _ w. Shallow n w) m tt tt (omega arith) tt tt tt
sign_shallow n Role m h = tt
sign_shallow n AfterRole m h = in_row (λ _ w. Shallow n w) m tt tt (omega arith) tt tt tt
sign_shallow n Formula m h = in_row (λ _ w. Shallow n w) m (omega arith) tt tt tt (omega arith) tt
sign_shallow n (Literal p) m h = in_row (λ _ w. Shallow n w) m tt tt tt tt (omega arith) tt
sign_shallow n (Atom p) m h = tt
sign_shallow n (Symbol d p) m h =
    let e = ended_shallow n d p m h in in_row (λ _ w. Shallow n w) m h e e e e e
sign_shallow n (Term d p) m h = tt
sign_shallow n (Ended d p) m h = ended_shallow n d p m h
sign_shallow n Closing m h = in_row (λ _ w. Shallow n w) m tt (omega arith) tt tt tt tt
sign_shallow n Stop m h = in_row (λ _ w. Shallow n w) m tt tt tt tt tt (omega arith)

module _ {n : ℕ} {s : State} (g : Small n s) where
  moved-grown : (v : Want) (m : Mode) → depth_of v ≤ suc n → Small (suc n) (record { want = v; mode = m; clauses = s.clauses; questions = s.questions })
  moved-grown v m h = record { deep = h; many = omega (arith, g.many); asking = omega (arith, g.asking) }

  signed-grown : (w : Option Want) → Shallow n w → Grown n (signed s w)
  unfolding signed
  signed-grown (Some v) h = moved-grown v Between (omega arith)
  signed-grown None h = tt

  grown-cond : (b : Bool) (x y : Option State) → Grown n x → Grown n y → Grown n (cond b x y)
  grown-cond true x y f h = f
  grown-cond false x y f h = h

  role-grown : (c : ℕ) → Grown n (on_role s c)
  unfolding on_role
  role-grown c =
      let m = g.many in
      let q = g.asking in
      grown-cond (eqb c 97) _ _ (record { deep = omega arith; many = omega arith; asking = omega arith })
      (grown-cond (eqb c 104) _ _ (record { deep = omega arith; many = omega arith; asking = omega arith })
      (grown-cond (eqb c 110) _ _ (record { deep = omega arith; many = omega arith; asking = omega arith }) tt))

  lower-grown : (v : Want) (c : ℕ) → depth_of v ≤ n → Grown n (on_lower s v c)
  unfolding on_lower
  lower-grown Clause c h = grown-cond (eqb c 99) _ _ (moved-grown Opening (Owed 1) (omega arith)) tt
  lower-grown Opening c h = tt
  lower-grown Name c h = moved-grown AfterName Word (omega arith)
  lower-grown AfterName c h = tt
  lower-grown Role c h = role-grown c
  lower-grown AfterRole c h = tt
  lower-grown Formula c h = moved-grown (Symbol 0 false) Word (omega arith)
  lower-grown (Literal p) c h = moved-grown (Symbol 0 p) Word (omega arith)
  lower-grown (Atom p) c h = moved-grown (Symbol 0 p) Word (omega arith)
  lower-grown (Symbol d p) c h = tt
  lower-grown (Term d p) c h = moved-grown (Symbol (suc d) p) Word (omega arith)
  lower-grown (Ended d p) c h = tt
  lower-grown Closing c h = tt
  lower-grown Stop c h = tt

  upper-grown : (v : Want) → depth_of v ≤ n → Grown n (on_upper s v)
  unfolding on_upper
  upper-grown Clause h = tt
  upper-grown Opening h = tt
  upper-grown Name h = tt
  upper-grown AfterName h = tt
  upper-grown Role h = tt
  upper-grown AfterRole h = tt
  upper-grown Formula h = tt
  upper-grown (Literal p) h = tt
  upper-grown (Atom p) h = tt
  upper-grown (Symbol d p) h = tt
  upper-grown (Term d p) h = moved-grown (Ended (suc d) p) Word (omega arith)
  upper-grown (Ended d p) h = tt
  upper-grown Closing h = tt
  upper-grown Stop h = tt

  stays : (m : Mode) → Small (suc n) (record { want = s.want; mode = m; clauses = s.clauses; questions = s.questions })
  stays m = moved-grown s.want m (omega (arith, g.deep))

  kind-grown : (c : ℕ) (k : Kind) → Grown n (on_kind s c k)
  unfolding on_kind
  kind-grown c Blank = stays Between
  kind-grown c Percent = stays Comment
  kind-grown c Lower = lower-grown s.want c g.deep
  kind-grown c Upper = upper-grown s.want g.deep
  kind-grown c Further = tt
  kind-grown c (Sign m) = signed-grown (on_sign s.want m) (sign_shallow n s.want m g.deep)
  kind-grown c Other = tt

  byte-grown : (c : ℕ) (m : Mode) → Grown n (on_byte s c m)
  unfolding on_byte
  byte-grown c Between = kind-grown c (kind_of c)
  byte-grown c Comment = stays (cond (eqb c 10) Between Comment)
  byte-grown c Word = grown-cond (goes_on (kind_of c)) _ _ (stays Word) (kind-grown c (kind_of c))
  byte-grown c (Owed i) =
      grown-cond (goes_on (kind_of c)) _ _
      (grown-cond (eqb c (owed_at i)) _ _ (stays (Owed (i + 1))) tt)
      (grown-cond (eqb (owed_at i) 46) _ _ (kind-grown c (kind_of c)) tt)

  pub step_grown : (c : ℕ) {t : State} → Some t ≡ step_of s c → Small (suc n) t
  unfolding step_of
  step_grown c e = let h = byte-grown c s.mode in rw (sym e) at h

-- how far a text is judged
pub record Judging (text : List ℕ) (s : State) (at : ℕ) : Type 0 where
  pub same : run start 0 text ≡ run s at (drop at text)
  pub small : Small at s

pub judge_long : (text : List ℕ) → 65536 < length text → Err 65536 ≡ judged text
unfolding judged
judge_long text h = rw (lt-ltb 65536 (length text) h)

pub judge_begin : (text : List ℕ) → Judging text start 0
judge_begin text = record { same = refl; small = record { deep = omega arith; many = omega arith; asking = omega arith } }

module _ {text : List ℕ} {s : State} {at : ℕ} (g : Judging text s at) where
  pub judge_room : length text < 2 ^ 63 → at < length text → Room s
  judge_room l h =
      let m = g.small in
      record { deep = omega (arith, m.deep); many = omega (arith, m.many); asking = omega (arith, m.asking) }

  module _ (short : length text ≤ 65536) where
    whole_run : judged text ≡ run s at (drop at text)
    unfolding judged
    whole_run = rw (le-ltb 65536 (length text) short) g.same

    pub judge_over : length text ≤ at → {r : Verdict} → r ≡ finished s at → r ≡ judged text
    unfolding run
    judge_over h e = e ∙ sym (whole_run ∙ rw (drop_of_length-le text h))

    pub judge_stuck : at < length text → {t : Option State} → t ≡ step_of s (get_or text at 0) → t ≡ None → Err at ≡ judged text
    unfolding run
    judge_stuck h e f = sym (whole_run ∙ rw (from_place text at h, sym e ∙ f))

  pub judge_next : at < length text → {t : Option State} → t ≡ step_of s (get_or text at 0) → {u : State} → t ≡ Some u → Judging text u (at + 1)
  unfolding run
  judge_next h e f =
      let k = step_grown g.small (get_or text at 0) (sym f ∙ e) in
      record { same = g.same ∙ rw (from_place text at h, sym e ∙ f); small = rw add-one k }

pub ruleset judge_laws = (judge_long, judge_begin, judge_room, judge_over, judge_stuck, judge_next)

-- what `?` takes out of a step is its state
pub next_of : (at : ℕ) {r : Result State ℕ} {u : State} (t : Option State) → r ≡ ok_or t at → r ≡ Ok u → t ≡ Some u
next_of at {u = u} (Some v) e f = let g : ◌≡◌ {A = Result State ℕ} (Ok v) (Ok u) = sym e ∙ f in cc
next_of at {u = u} None e f = let g : ◌≡◌ {A = Result State ℕ} (Err at) (Ok u) = sym e ∙ f in cc
