-- What is said of a text that passes a limit, with premises as the code has them.
use mathlib.Core.Bool.{Bool}
use mathlib.Core.List.{List, [], ◌∷◌}
use mathlib.Core.Path.{◌≡◌, refl, sym, ap, ◌∙◌}
use Prim.Native.Nat.{ℕ, zero, suc, ◌≤◌, ◌<◌}
use native.Mathlib.Omega.{arith}
use denote.Ref.{Bor}
use lib.ListN.{length, get_or, length-map}
use Rattle.std.specs.Prelude.{Option, Some, None, Err}
use Rattle.clausetext.specs.Judging.{judged}
use Rattle.clausetext.specs.Syntax.{Clause}
use Rattle.clausetext.specs.Texts.{Verdict, Says, Permitted, Verdicts, fine}
use Rattle.clausetext.proofs.Judgement.{only_verdict}
use Rattle.clausetext.proofs.OneReading.{one_reading}
use Rattle.names.specs.Numbers.{Name}
use Rattle.names.specs.Noting.{name_at, names_at}
use Rattle.naming.specs.Index.{name_of, IsNamed}
use Rattle.naming.specs.Clauses.{names_of, NamesPut}
use Rattle.naming.proofs.Lookups.{named_at}
use Rattle.text.specs.Put.{put, Put}
use Rattle.text.specs.Quoted.{bytes}
use Rattle.text.proofs.Putting.{begin, finish, then, same_size}
use Rattle.limits.specs.declared.find.Limit.{Limit}
use Rattle.limits.specs.declared.find.Limit.TheVariants.{Literals, Arguments, Variables, Words, Clauses, Predicates, Functions, Total}
use Rattle.limits.specs.declared.find.Passed.{Passed}
use Rattle.limits.specs.Counting.{Found, Finds}
use Rattle.limits.specs.Told.{limit_text, over_text, Told, NamePut, ClauseTold}

module _ {l : Limit} {o o' : List ℕ} {n n' : ℕ} where
  pub say_literals : l ≡ Literals → Put o n (bytes " has more than 7 literals, the most that a clause may have\n") o' n' → Put o n (limit_text (Some l)) o' n'
  unfolding limit_text
  say_literals e p = rw e p

  pub say_arguments : l ≡ Arguments → Put o n (bytes " has a predicate or a function with more than 4 arguments, the most that one may have\n") o' n' → Put o n (limit_text (Some l)) o' n'
  unfolding limit_text
  say_arguments e p = rw e p

  pub say_variables : l ≡ Variables → Put o n (bytes " has more than 16 variables, the most that a clause may have\n") o' n' → Put o n (limit_text (Some l)) o' n'
  unfolding limit_text
  say_variables e p = rw e p

  pub say_words : l ≡ Words
      → Put o n (bytes " has more than 255 predicates, functions, constants and variables, each counted as often as it stands there\n") o' n' → Put o n (limit_text (Some l)) o' n'
  unfolding limit_text
  say_words e p = rw e p

  pub say_clauses : l ≡ Clauses → Put o n (bytes " is one clause too many: a table may have 512, with the question\n") o' n' → Put o n (limit_text (Some l)) o' n'
  unfolding limit_text
  say_clauses e p = rw e p

  pub say_predicates : l ≡ Predicates → Put o n (bytes " has a predicate too many: a table may have 4096\n") o' n' → Put o n (limit_text (Some l)) o' n'
  unfolding limit_text
  say_predicates e p = rw e p

  pub say_functions : l ≡ Functions → Put o n (bytes " has a function or constant too many: a table may have 4096\n") o' n' → Put o n (limit_text (Some l)) o' n'
  unfolding limit_text
  say_functions e p = rw e p

  pub say_total : l ≡ Total
      → Put o n (bytes " makes the table too long: it may have 15996 words, one for each clause, predicate, function, constant and variable that stands there\n") o' n'
      → Put o n (limit_text (Some l)) o' n'
  unfolding limit_text
  say_total e p = rw e p

pub ruleset say_laws =
    (say_literals, say_arguments, say_variables, say_words, say_clauses, say_predicates, say_functions, say_total)

-- the name of a clause
put_at : (out text : List ℕ) (n : ℕ) → n < length text → n < length out → get_or (put out 0 text) n 0 ≡ get_or text n 0
unfolding put
put_at [] text n h k = absurd (omega arith)
put_at (o ∷ out) [] n h k = absurd (omega arith)
put_at (o ∷ out) (t ∷ text) zero h k = refl
put_at (o ∷ out) (t ∷ text) (suc n) h k = put_at out text n (omega arith) (omega arith)

module _ (text : Bor (List ℕ)) {asked : Bool} {names names' : List ℕ} {n : ℕ} (w : NamesPut text.now asked names 0 names' n) where
  name-is : (cs : List Clause) → Says text.now cs → (number : ℕ) → number < length (names_of asked cs) → number < length names
      → name_of text.now names' number ≡ get_or (names_of asked cs) number []
  name-is cs y number h k =
      let so : names_at text.now w.places ≡ names_of asked cs = w.names ∙ ap (λ (ds : List Clause). names_of asked ds) (one_reading w.says y) in
      let inside : number < length w.places = omega (arith, h, ap (λ (l : List Name). length l) so, length-map w.places (λ (at : ℕ). name_at text.now at)) in
      let kept : number < length names' = omega (arith, k, same_size w.written) in
      named_at text.now names' number kept
      ∙ ap (λ (at : ℕ). name_at text.now at) (ap (λ (l : List ℕ). get_or l number 0) w.written.written ∙ put_at names w.places number inside k)
      ∙ sym (named_at text.now w.places number inside)
      ∙ ap (λ (l : List Name). get_or l number []) so

  pub name_told : {number : ℕ} → number < length names → {r : Bor (List ℕ)} → IsNamed text names' number r
      → {out out' : List ℕ} {at end : ℕ} → Put out at r.now out' end → NamePut text.now asked number out at out' end
  name_told {number} k i p = record { put = λ cs y h. rw (i.bytes, name-is cs y number h k) at p }

-- the line
pub clause_told : (file text : List ℕ) {p : Passed} {o₀ o₁ o₂ o₃ o₄ : List ℕ} {n₀ n₁ n₂ n₃ n₄ : ℕ} → Put o₀ n₀ file o₁ n₁ → Put o₁ n₁ (bytes ": the clause ") o₂ n₂
    → NamePut text p.asked p.number o₂ n₂ o₃ n₃ → Put o₃ n₃ (limit_text (Some p.limit)) o₄ n₄ → ClauseTold file text p o₀ n₀ o₄ n₄
clause_told file text a b q r = record { put = λ cs y h. then (then (then a b) (q.put cs y h)) r }

-- a permitted text is not wrong
module _ {text : List ℕ} (short : length text ≤ 65536) (g : Permitted text) where
  not-wrong : {A : Type 0} {place : ℕ} → Verdicts text (Err place) → A
  not-wrong w = let a = only_verdict w in let b = only_verdict (fine short g.says) in let z : ◌≡◌ {A = ℕ} 0 1 = cc in absurd (omega arith)

  module _ (file : List ℕ) {r : Option Passed} (f : Finds text r) {o o' : List ℕ} {at end : ℕ} where
    pub over_told : {p : Passed} → r ≡ Some p → ClauseTold file text p o at o' end → Told file text o at o' end
    unfolding over_text
    over_told {p} e t = record {
      over = λ _ cs y. let g : Found text p = rw e at f in rw (g.limit cs y, ← g.name cs y) (t.put cs y (g.there cs y));
      wrong = λ w. not-wrong w;
    }

    pub none_told : r ≡ None → {mid : List ℕ} {next : ℕ} → Put o at file mid next → Put mid next (bytes ": the table passes no limit\n") o' end → Told file text o at o' end
    unfolding over_text
    none_told e a c = record {
      over = λ _ cs y. let g : Finds text None = rw e at f in rw (g cs y) (then a c);
      wrong = λ w. not-wrong w;
    }

pub ruleset over_laws = (over_told, none_told)

pub wrong_untold : (file text : List ℕ) {v : Verdict} → v ≡ judged text → {place : ℕ} → v ≡ Err place → {out : List ℕ} {at : ℕ} → Told file text out at out at
wrong_untold file text is e {out} {at} = record {
  over = λ short cs y. let o = only_verdict (fine short y) in let z : ◌≡◌ {A = ℕ} 0 1 = cc in absurd (omega arith);
  wrong = λ _. finish (begin out at []);
}
