-- What is written depends only on the name that each number has.
use mathlib.Core.Bool.{Bool, true, false, cond}
use mathlib.Core.List.{List, [], ◌∷◌, map}
use mathlib.Core.Path.{◌≡◌, refl, sym, ap, ◌∙◌}
use Prim.Native.Nat.{ℕ, zero, suc}
use native.Mathlib.Omega.{arith}
use lib.Dec.{eqb}
use lib.ListN.{length, get_or}
use Rattle.std.specs.Prelude.{Some, None}
use Rattle.std.specs.Option.{option_eq}
use Rattle.words.specs.Fields.{kind_of, number_of, symbol_of, arity_of}
use Rattle.words.specs.Steps.{step_of}
use Rattle.words.specs.declared.Step.{Step}
use Rattle.words.specs.declared.Step.TheVariants.{Reduction, Extension, Restart, Malformed}
use Rattle.table.specs.Syntax.{Table}
use Rattle.table.specs.Encode.{clause_words}
use Rattle.tuples.specs.Tuples.{answers_text}
use Rattle.tuples.proofs.Wordings.{answers_same}
use Rattle.table.specs.File.{table_in}
use Rattle.clausetext.specs.Syntax.{Clause}
use Rattle.names.specs.Numbers.{Name}
use Rattle.tptp.specs.Said.{table_said}
use Rattle.requests.specs.Pieces.{same_bytes}
use Rattle.naming.specs.Noting.{Admissible, Indexed}
use Rattle.naming.specs.Shown.{Names, closed, opened, shown_by, shown}
use Rattle.listing.specs.Behind.{Listed, listed}
use Rattle.written_proofs.specs.Steps.{begins, stands, only_from, tells, clause_text, text_of, step_text, steps_text}
use Rattle.answering.specs.Results.{Wording, said_in, answer_text, behind_lines, clauses_text, proof_text, grounds_text, tuples_line, lines_text, found_text}
use Rattle.answering.specs.Telling.{words_in}

-- lists with the same names at the same numbers; past its end a list has empty ones
abbrev pub Alike : List Name → List Name → Type 0
Alike ns ms = (n : ℕ) → get_or ns n [] ≡ get_or ms n []

pub record SameNames (a b : Names) : Type 0 where
  pub functions : Alike a.functions b.functions
  pub predicates : Alike a.predicates b.predicates
  pub variables : Alike a.variables b.variables

-- the words of an answer
module _ (a b : Names) (s : SameNames a b) (atoms : ℕ) where
  by_kind : (before : ℕ) (lists : List ℕ) (w kind : ℕ) (f g : ℕ → List ℕ → List ℕ) → ((n : ℕ) (o : List ℕ) → f n o ≡ g n o)
      → shown_by a atoms before lists w kind f ≡ shown_by b atoms before lists w kind g
  unfolding shown_by
  by_kind before lists w zero f g h = rw (s.variables (number_of w), h before (closed lists))
  by_kind before lists w (suc zero) f g h = rw (s.functions (symbol_of w), h before (opened (arity_of w) lists))
  by_kind before lists w (suc (suc kind)) f g h = rw (s.predicates (symbol_of w), h (suc before) (opened (arity_of w) []))

  pub shown_same : (before : ℕ) (lists ws : List ℕ) → shown a atoms before lists ws ≡ shown b atoms before lists ws
  unfolding shown
  shown_same before lists [] = refl
  shown_same before lists (w ∷ ws) =
      by_kind before lists w (kind_of w) (λ n o. shown a atoms n o ws) (λ n o. shown b atoms n o ws) (λ n o. shown_same n o ws)

-- a name that begins with a letter is none of the empty ones
no_blank : (name : Name) → begins name ≡ true → same_bytes [] name ≡ false
unfolding begins same_bytes
no_blank [] e = let z : ◌≡◌ {A = ℕ} 0 1 = cc in absurd (omega (arith, z))
no_blank (c ∷ cs) e = refl

module _ (name : Name) (e : begins name ≡ true) where
  blank-head : (n : Name) → n ≡ [] → same_bytes n name ≡ false
  blank-head n z = rw z (no_blank name e)

  none_stands : (ns : List Name) → Alike ns [] → stands name ns ≡ false
  unfolding stands
  none_stands [] h = refl
  none_stands (n ∷ ns) h = rw (blank-head n (h 0)) (none_stands ns (λ k. h (suc k)))

  stands_same : (ns ms : List Name) → Alike ns ms → stands name ns ≡ stands name ms
  unfolding stands
  stands_same [] ms h = sym (none_stands ms (λ k. sym (h k)))
  stands_same (n ∷ ns) [] h = none_stands (n ∷ ns) h
  stands_same (n ∷ ns) (m ∷ ms) h = rw (h 0, stands_same ns ms (λ k. h (suc k)))

  none_only : (i : ℕ) (ns : List Name) → Alike ns [] → only_from i name ns ≡ None
  unfolding only_from
  none_only i [] h = refl
  none_only i (n ∷ ns) h = rw (blank-head n (h 0)) (none_only (suc i) ns (λ k. h (suc k)))

  only_same : (i : ℕ) (ns ms : List Name) → Alike ns ms → only_from i name ns ≡ only_from i name ms
  unfolding only_from
  only_same i [] ms h = sym (none_only i ms (λ k. sym (h k)))
  only_same i (n ∷ ns) [] h = none_only i (n ∷ ns) h
  only_same i (n ∷ ns) (m ∷ ms) h = rw (h 0, stands_same ns ms (λ k. h (suc k)), only_same (suc i) ns ms (λ k. h (suc k)))

-- the steps of a proof
module _ (ns ms : List Name) (h : Alike ns ms) where
  tells_same : (name : Name) (i : ℕ) → tells ns name i ≡ tells ms name i
  unfolding tells
  tells_same name i = go (begins name) refl
    where
      go : (b : Bool) → begins name ≡ b → cond b (option_eq eqb (only_from 0 name ns) (Some i)) false ≡ cond b (option_eq eqb (only_from 0 name ms) (Some i)) false
      go true e = rw (only_same name e 0 ns ms h)
      go false e = refl

  clause_same : (i : ℕ) → clause_text ns i ≡ clause_text ms i
  unfolding clause_text
  clause_same i = rw (h i, tells_same (get_or ms i []) i)

  text_same : (w : ℕ) (s : Step) → text_of ns w s ≡ text_of ms w s
  text_same w (Reduction height) = refl
  text_same w (Extension i j) = rw (clause_same i)
  text_same w Restart = refl
  text_same w Malformed = refl

  pub steps_same : (ws : List ℕ) → steps_text ns ws ≡ steps_text ms ws
  unfolding steps_text step_text
  steps_same [] = refl
  steps_same (w ∷ ws) = rw (text_same w (step_of w), steps_same ws)

  pub lines_same : (ls : List Listed) → behind_lines ns ls ≡ behind_lines ms ls
  unfolding behind_lines
  lines_same [] = refl
  lines_same (l ∷ ls) = rw (h l.number, lines_same ls)

  proof-same : (wanted : Bool) (steps : List ℕ) → proof_text wanted ns steps ≡ proof_text wanted ms steps
  unfolding proof_text
  proof-same true steps = rw (steps_same steps)
  proof-same false steps = refl

-- the answers as tuples
line_same : (w v : Wording) → w.table ≡ v.table → SameNames w.names v.names → (name : List ℕ) (disjuncts : ℕ) (words : List ℕ)
    → tuples_line name w disjuncts words ≡ tuples_line name v disjuncts words
unfolding tuples_line
line_same w v t s name disjuncts words =
    ap (λ (x : Table). answers_text name w.names disjuncts (clause_words x.question) words) t
    ∙ answers_same w.names v.names (λ ws. shown_same w.names v.names s 0 0 [] ws) name disjuncts (clause_words v.table.question) words

-- all that is written of what was found
pub found_same : (w v : Wording) → w.table ≡ v.table → SameNames w.names v.names → Alike w.clauses v.clauses
    → (wanted : Bool) (name : List ℕ) (bound tries disjuncts : ℕ) (steps words : List ℕ)
    → found_text wanted name w bound tries disjuncts steps words ≡ found_text wanted name v bound tries disjuncts steps words
unfolding found_text grounds_text answer_text clauses_text lines_text
found_same w v t s c wanted name bound tries disjuncts steps words =
    rw (line_same w v t s name disjuncts words, t, shown_same w.names v.names s (length v.table.question.literals) 0 [] words, lines_same w.clauses v.clauses c (listed v.table (map step_of steps)), proof-same w.clauses v.clauses c wanted steps)

-- an index of an admissible text gives the names that its clauses say
pub indexed_same : {text index : List ℕ} (file : List ℕ) {r : Bool} → Indexed text index r → (cs : List Clause) → Admissible text cs → table_in file ≡ table_said cs
    → (wanted : Bool) (name : List ℕ) (bound tries disjuncts : ℕ) (steps words : List ℕ)
    → found_text wanted name (words_in text index file) bound tries disjuncts steps words ≡ found_text wanted name (said_in cs) bound tries disjuncts steps words
indexed_same {text} {index} file i cs a e =
    let made = i.made cs a in
    let told = i.told made cs a.says in
    found_same (words_in text index file) (said_in cs) e
    (record { functions = told.functions; predicates = told.predicates; variables = λ n. refl })
    (i.clauses made cs a.says)
