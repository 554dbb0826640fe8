-- The judgement in the words of Texts: it is the verdict on the text, and the only one.
use Rattle.std.specs.Prelude.{Ok, Err}
use mathlib.Core.Path.{◌≡◌, refl, sym, ap, ap₂, ◌∙◌}
use mathlib.Core.Bool.{Bool, true, false, cond}
use mathlib.Core.List.{List, [], ◌∷◌, ◌++◌, append_assoc, append-nil}
use Prim.Native.Nat.{ℕ, ◌+◌, ◌-◌, ◌≤◌, ◌<◌}
use native.Mathlib.Omega.{arith}
use native.Mathlib.Numerals.{add-one}
use lib.Dec.{ltb}
use lib.ListN.{length, take, drop}
use lib.Seq.{take-add, take-length}
use borrow.Author.Tests.{ltb-true, ltb-false, lt-ltb, le-ltb}
use Rattle.clausetext.specs.declared.judge.Want.TheVariants.{Clause as NextClause}
use Rattle.clausetext.specs.declared.judge.Mode.TheVariants.{Between}
use Rattle.clausetext.specs.Syntax.{Role, Axiom, Hypothesis, NegatedConjecture, Clause, question}
use Rattle.clausetext.specs.Texts.{counts, Verdict, Says, Permitted, CanGoOn, all_bytes, WrongAt, questions, Verdicts, long, wrong, fine}
use Rattle.clausetext.specs.Judging.{run, start, judged}
use Rattle.clausetext.proofs.Following.{roles, clauses}
use Rattle.clausetext.proofs.Steps.{Along, between, tallied, asked, From}
use Rattle.clausetext.proofs.Runs.{live, run_goes, run_fine, run_wrong, FailsAt, reached}

-- clauses and questions are counted as the text has them
asked_is : (r : Role) (q : ℕ) → asked r q ≡ q + question r
asked_is Axiom q = omega arith
asked_is Hypothesis q = omega arith
asked_is NegatedConjecture q = refl

counted : (cs : List Clause) (n q : ℕ) → tallied n q (roles cs) ≡ counts (n + length cs) (q + questions cs)
unfolding tallied roles questions
counted [] n q = ap₂ counts (omega arith) (omega arith)
counted (c ∷ cs) n q =
    counted cs (n + 1) (asked c.role q) ∙ ap₂ counts (omega arith) (omega (arith, asked_is c.role q))

says_from : {text : List ℕ} {cs : List Clause} → Says text cs → From start text (counts (length cs) (questions cs))
says_from {cs = cs} y =
    record { roles = roles cs; along = between (clauses y.clauses) y.spelt; tally = counted cs 0 0 ∙ ap₂ counts (omega arith) (omega arith) }

along_permitted : {text : List ℕ} {rs : List Role} → Along NextClause Between text rs → Permitted text
along_permitted (between {ts = ts} (clauses {cs = cs} r) sp) = record { said = cs; says = record { tokens = ts; spelt = sp; clauses = r } }

from_permitted : {text : List ℕ} {total : Verdict} → From start text total → Permitted text
from_permitted f = along_permitted f.along

permitted_from : {text : List ℕ} (p : Permitted text) → From start text (counts (length p.said) (questions p.said))
permitted_from p = says_from p.says

-- a permitted text is read to its end, and no other
pub read_permitted : {text : List ℕ} {cs : List Clause} → Says text cs → run start 0 text ≡ counts (length cs) (questions cs)
read_permitted {text = text} y = run_goes text start 0 (counts _ _) (says_from y)

pub permitted_read : {text : List ℕ} {n q : ℕ} → run start 0 text ≡ counts n q → Permitted text
permitted_read {text} {n} {q} e = from_permitted (run_fine text start 0 n q e)

-- a wrong text is read up to its place
wrong_at : {text : List ℕ} {place : ℕ} → FailsAt start text 0 place → WrongAt text place
wrong_at {text} {place} f =
    let w = f.there in
    let e : place ≡ f.passed = omega (arith, f.place_is) in
    rw e (record {
      within = w.within;
      begun = record { further = w.further; permitted = from_permitted w.goes_on_lem };
      first = λ h g. w.fails h g.further _ (permitted_from (rw add-one at g.permitted));
      short = λ h p. w.short h _ (permitted_from p);
    })

pub read_wrong : {text : List ℕ} {place : ℕ} → run start 0 text ≡ Err place → WrongAt text place
read_wrong {text} {place} e = wrong_at (run_wrong text start 0 place e)

-- what can go on to a permitted text can do so in bytes
pub goes_on_in_bytes : {begun : List ℕ} → CanGoOn begun → (further : List ℕ) × (all_bytes further ≡ true) × Permitted (begun ++ further)
goes_on_in_bytes {begun} g =
    let r = reached begun g.further start _ (permitted_from g.permitted) in
    let l = live r.state_there in
    (l.further, l.bytes, from_permitted (r.back l.further l.total l.from))

-- there is one place
begun_less : (xs ys : List ℕ) → CanGoOn (xs ++ ys) → CanGoOn xs
begun_less xs ys g = record { further = ys ++ g.further; permitted = rw append_assoc at g.permitted }

begun_front : (text : List ℕ) (j k : ℕ) → j ≤ k → CanGoOn (take k text) → CanGoOn (take j text)
begun_front text j k h g =
    let e : k ≡ j + (k - j) = omega arith in
    begun_less (take j text) (take (k - j) (drop j text)) (rw (e, take-add j (k - j) text) at g)

whole_begun : {text : List ℕ} → Permitted text → CanGoOn text
whole_begun {text} p = record { further = []; permitted = rw append-nil p }

not_before : {text : List ℕ} {j k : ℕ} → WrongAt text j → WrongAt text k → j < k → ⊥
not_before {text} {j} {k} a b h =
    a.first (omega (arith, b.within)) (begun_front text (j + 1) k (omega arith) b.begun)

pub one_place : {text : List ℕ} {j k : ℕ} → WrongAt text j → WrongAt text k → j ≡ k
one_place a b = omega (arith, not_before a b, not_before b a)

wrong_or_short : (text : List ℕ) (place : ℕ) (b : Bool) → ltb place (length text) ≡ b → WrongAt text place → Permitted text → ⊥
wrong_or_short text place true e w p =
    let h = ltb-true place (length text) e in
    w.first h (begun_front text (place + 1) (length text) (omega arith) (rw take-length (whole_begun p)))
wrong_or_short text place false e w p = w.short (omega (arith, ltb-false place (length text) e, w.within)) p

pub wrong_not_permitted : {text : List ℕ} {place : ℕ} → WrongAt text place → Permitted text → ⊥
wrong_not_permitted {text} {place} = wrong_or_short text place (ltb place (length text)) refl

wrong_read_as : (text : List ℕ) (place : ℕ) (v : Verdict) → run start 0 text ≡ v → WrongAt text place → v ≡ Err place
wrong_read_as text place (Err k) e w = ap Err (one_place (read_wrong e) w)
wrong_read_as text place (Ok _) e w = absurd (wrong_not_permitted w (permitted_read e))

pub wrong_read : {text : List ℕ} {place : ℕ} → WrongAt text place → run start 0 text ≡ Err place
wrong_read {text} {place} w = wrong_read_as text place (run start 0 text) refl w

-- the judgement is the verdict
pub short_judged : (text : List ℕ) → length text ≤ 65536 → judged text ≡ run start 0 text
unfolding judged
short_judged text h = rw (le-ltb 65536 (length text) h)

pub only_verdict : {text : List ℕ} {v : Verdict} → Verdicts text v → judged text ≡ v
unfolding judged
only_verdict {text} (long h) = rw (lt-ltb 65536 (length text) h)
only_verdict {text} (wrong h w) = short_judged text h ∙ wrong_read w
only_verdict {text} (fine h y) = short_judged text h ∙ read_permitted y

read_verdict : (text : List ℕ) (v : Verdict) → length text ≤ 65536 → run start 0 text ≡ v → Verdicts text v
read_verdict text (Err place) h e = wrong h (read_wrong e)
read_verdict text (Ok c) h e =
    let p = permitted_read e in
    let f : counts (length p.said) (questions p.said) ≡ Ok c = sym (read_permitted p.says) ∙ e in
    rw f at (fine h p.says)

limited_verdict : (text : List ℕ) (b : Bool) → ltb 65536 (length text) ≡ b → Verdicts text (cond b (Err 65536) (run start 0 text))
limited_verdict text true e = long (ltb-true 65536 (length text) e)
limited_verdict text false e = read_verdict text (run start 0 text) (ltb-false 65536 (length text) e) refl

pub judged_verdict : (text : List ℕ) → Verdicts text (judged text)
unfolding judged
judged_verdict text = limited_verdict text (ltb 65536 (length text)) refl
