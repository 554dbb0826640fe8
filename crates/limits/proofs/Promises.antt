-- Where no limit is passed the table fits.
use mathlib.Core.Bool.{Bool, true, false, cond}
use mathlib.Core.List.{List, [], ◌∷◌, ◌++◌, append_assoc, append-nil}
use mathlib.Core.Path.{◌≡◌, refl}
use Prim.Native.Nat.{ℕ, zero, suc, ◌+◌, ◌≤◌, ◌<◌}
use native.Mathlib.Omega.{arith}
use borrow.Author.Tests.{ltb-false, le-leb}
use lib.Dec.{ltb}
use lib.ListN.{length}
use Rattle.clausetext.specs.Syntax.{Literal, Clause}
use Rattle.names.specs.Numbers.{Name, known_after, first_uses, number_in}
use Rattle.table.specs.Encode.{clauses_words, file_words}
use Rattle.table.specs.Limits.{Each, ClauseWithin}
use Rattle.tptp.specs.Said.{predicate_uses, function_uses, of_all, predicates, functions, variables, clause_said, clauses_said, table_said}
use Rattle.tptp.specs.Sketch.{Item, literals_items, clauses_items}
use Rattle.tptp.specs.Shapes.{fits_by}
use Rattle.tptp.specs.Body.{Fit, bodies, ClauseFits}
use Rattle.tptp.proofs.Ahead.{Before}
use Rattle.tptp.proofs.Answers.{literals_sorts, said-within, file-count}
use Rattle.tptp.proofs.Clauses.{each_there}
use Rattle.tptp.proofs.Final.{each_mapped, used_below}
use Rattle.tptp.proofs.Items.{literals_functions, literals_predicates}
use Rattle.tptp.proofs.OneClause.{clause_within}
use Rattle.tptp.proofs.Splits.{clauses_long, split}
use Rattle.tptp.proofs.Stages.{under_each}
use Rattle.tptp.proofs.Trees.{Good, each_front, each_rest}
use Rattle.std.specs.Prelude.{Option, Some, None}
use Rattle.limits.specs.declared.find.Limit.{Limit}
use Rattle.limits.specs.declared.find.Limit.TheVariants.{Literals, Arguments, Variables, Words, Clauses, Predicates, Functions, Total}
use Rattle.limits.specs.Over.{most_parts, own_limit, shared_limit, or_else, is_nothing, Over, or_next, limit_with, first_over}
use Rattle.limits.specs.Promises.{NothingPassed, OverIsTold}

abbrev Passes : Option Limit → Type 0
Passes l = is_nothing l ≡ true

-- a row of four tests, none of which holds
record Under (a b c d : Bool) : Type 0 where
  pub first : a ≡ false
  pub second : b ≡ false
  pub third : c ≡ false
  pub fourth : d ≡ false

never : {A : Type 0} → ◌≡◌ {A = Bool} false true → A
never e = let z : ◌≡◌ {A = ℕ} 0 1 = cc in absurd (omega arith)

under : (a b c d : Bool) (k l m n : Limit) → Passes (cond a (Some k) (cond b (Some l) (cond c (Some m) (cond d (Some n) None)))) → Under a b c d
under true b c d k l m n e = never e
under false true c d k l m n e = never e
under false false true d k l m n e = never e
under false false false true k l m n e = never e
under false false false false k l m n e = record { first = refl; second = refl; third = refl; fourth = refl }

record Own (ls : List Literal) : Type 0 where
  pub few : length ls ≤ 7
  pub narrow : most_parts (literals_items ls) ≤ 4
  pub named : length (variables ls) ≤ 16
  pub short : length (literals_items ls) ≤ 255

own_within : (ls : List Literal) → Passes (own_limit ls) → Own ls
unfolding own_limit
own_within ls e =
    let u = under (ltb 7 (length ls)) (ltb 4 (most_parts (literals_items ls))) (ltb 16 (length (variables ls))) (ltb 255 (length (literals_items ls))) Literals Arguments Variables Words e in
    record {
      few = ltb-false 7 (length ls) u.first;
      narrow = ltb-false 4 (most_parts (literals_items ls)) u.second;
      named = ltb-false 16 (length (variables ls)) u.third;
      short = ltb-false 255 (length (literals_items ls)) u.fourth;
    }

record Shared (cs : List Clause) : Type 0 where
  pub few : length cs ≤ 512
  pub predicates : length (predicates cs) ≤ 4096
  pub functions : length (functions cs) ≤ 4096
  pub short : length (clauses_items cs) ≤ 15996

shared_within : (cs : List Clause) → Passes (shared_limit cs) → Shared cs
unfolding shared_limit
shared_within cs e =
    let u = under (ltb 512 (length cs)) (ltb 4096 (length (predicates cs))) (ltb 4096 (length (functions cs))) (ltb 15996 (length (clauses_items cs))) Clauses Predicates Functions Total e in
    record {
      few = ltb-false 512 (length cs) u.first;
      predicates = ltb-false 4096 (length (predicates cs)) u.second;
      functions = ltb-false 4096 (length (functions cs)) u.third;
      short = ltb-false 15996 (length (clauses_items cs)) u.fourth;
    }

-- clause by clause
both_pass : (a b : Option Limit) → Passes (or_else a b) → Passes a × Passes b
both_pass None b e = (refl, e)
both_pass (Some l) b e = never e

next_pass : (l : Option Limit) (name : Name) (rest : Over) → Passes (or_next l name rest).limit → Passes l × Passes rest.limit
next_pass None name rest e = (refl, e)
next_pass (Some l) name rest e = never e

abbrev OwnPasses : Clause → Type 0
OwnPasses c = Passes (own_limit c.literals)

all_pass : (before rest : List Clause) → Passes (shared_limit before) → Passes (first_over before rest).limit → Each OwnPasses rest × Passes (shared_limit (before ++ rest))
unfolding first_over Each
all_pass before [] s e = (tt, rw (append-nil before) s)
all_pass before (c ∷ cs) s e =
    let n = next_pass (limit_with before c) c.name (first_over (before ++ (c ∷ [])) cs) e in
    let b = both_pass (own_limit c.literals) (shared_limit (before ++ (c ∷ []))) n.0 in
    let r = all_pass (before ++ (c ∷ [])) cs b.1 n.1 in
    ((b.0, r.0), rw (append_assoc before (c ∷ []) cs) at r.1)

none_pass : Passes (shared_limit [])
unfolding shared_limit clauses_items of_all known_after
none_pass = refl

-- items that fit
parts_fit : (is : List Item) → Each (Before 4) is → most_parts is ≤ 4 → Each Fit is
unfolding Each most_parts fits_by
parts_fit [] e h = tt
parts_fit (i ∷ is) e h = (go i.sort e.0, parts_fit is e.1 (omega arith))
  where
    go : (s : ℕ) → s < 4 → fits_by s i.parts ≡ true
    go zero k = le-leb i.parts 4 (omega arith)
    go (suc zero) k = le-leb i.parts 4 (omega arith)
    go (suc (suc zero)) k = le-leb i.parts 4 (omega arith)
    go (suc (suc (suc zero))) k = le-leb i.parts 4 (omega arith)
    go (suc (suc (suc (suc n)))) k = absurd (omega arith)

low_numbers : (uses : List Name) → length (first_uses uses) ≤ 4096 → Each (λ (n : Name). number_in (first_uses uses) n < 4096) uses
low_numbers uses h =
    each_mapped (λ (n : Name). number_in (first_uses uses) n < length (first_uses uses)) (λ (n : Name). number_in (first_uses uses) n < 4096) (λ n k. omega arith) uses (used_below [] uses)

abbrev SomeLiteral : Clause → Type 0
SomeLiteral c = 1 ≤ length c.literals

module _ (ps fs : List Name) where
  each_within : (ds : List Clause) → Each OwnPasses ds → Each SomeLiteral ds → Each (λ (n : Name). number_in ps n < 4096) (of_all predicate_uses ds) → Each (λ (n : Name). number_in fs n < 4096) (of_all function_uses ds)
      → Each (λ (c : Clause). ClauseWithin (clause_said ps fs c.literals)) ds
  unfolding Each of_all
  each_within [] o s p f = tt
  each_within (d ∷ ds) o s p f =
      let w = own_within d.literals o.0 in
      let mine = each_front (λ (n : Name). number_in ps n < 4096) (predicate_uses d.literals) (of_all predicate_uses ds) p in
      let own = each_front (λ (n : Name). number_in fs n < 4096) (function_uses d.literals) (of_all function_uses ds) f in
      let good : Good ps fs (variables d.literals) (literals_items d.literals) = record {
        fit = parts_fit (literals_items d.literals) (literals_sorts d.literals) w.narrow;
        functions = under_each 1 fs 4096 (literals_items d.literals) (rw (literals_functions d.literals) own);
        predicates = under_each 2 ps 4096 (literals_items d.literals) (rw (literals_predicates d.literals) mine);
      } in (
        clause_within ps fs d.literals good s.0 w.few w.named w.short,
        each_within ds o.1 s.1
            (each_rest (λ (n : Name). number_in ps n < 4096) (predicate_uses d.literals) (of_all predicate_uses ds) p)
            (each_rest (λ (n : Name). number_in fs n < 4096) (function_uses d.literals) (of_all function_uses ds) f),
      )

pub nothing_passed : NothingPassed
unfolding NothingPassed
nothing_passed text cs room y one h e =
    let all = all_pass [] cs none_pass e in
    let w = shared_within cs all.1 in
    let s = split cs one in
    let fits : Each (ClauseFits cs) cs = each_within (predicates cs) (functions cs) cs all.0 (each_there y.clauses) (low_numbers (of_all predicate_uses cs) w.predicates) (low_numbers (of_all function_uses cs) w.functions) in
    let long : length (clauses_words (clauses_said (predicates cs) (functions cs) (bodies cs))) + 4 ≡ length (file_words (table_said cs)) = file-count cs s refl refl refl in
    let words : length (clauses_words (clauses_said (predicates cs) (functions cs) (bodies cs))) ≡ length (clauses_items cs) = clauses_long (predicates cs) (functions cs) cs in
    record {
      within = said-within cs s w.few fits;
      short = omega (arith, long, words, w.short);
      room = omega (arith, long, words, w.short);
    }

pub over_is_told : OverIsTold
unfolding OverIsTold NothingPassed
over_is_told text cs room y one h n = go (is_nothing (first_over [] cs).limit) refl
  where
    go : (b : Bool) → is_nothing (first_over [] cs).limit ≡ b → b ≡ false
    go true e = absurd (n (nothing_passed text cs room y one h e))
    go false e = refl
