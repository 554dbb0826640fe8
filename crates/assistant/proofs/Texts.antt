-- Texts put together of parts, one law for each outcome, with premises as the code has them.
use mathlib.Core.Path.{◌≡◌, refl}
use mathlib.Core.Bool.{Bool}
use mathlib.Core.List.{List, ◌++◌}
use Prim.Native.Nat.{ℕ, zero, suc, ◌-◌, ◌≤◌, ◌<◌}
use lib.ListN.{length, take, drop, replicate}
use borrow.Author.Tests.{eq-eqb, ne_eqb, lt-ltb, le-ltb}
use Rattle.text.specs.Put.{Put}
use Rattle.text.specs.Quoted.{bytes}
use Rattle.text.specs.Digits.{decimal_text}
use Rattle.text.proofs.Putting.{then}
use Rattle.clausetext.specs.Judging.{start}
use Rattle.clausetext.specs.Stuck.{stuck_in, question_from}
use Rattle.clausetext.specs.declared.judge.State.{State}
use Rattle.clausetext.specs.declared.judge.Want.{Want}
use Rattle.clausetext.specs.declared.judge.Want.TheVariants.{Clause, Opening, Name, AfterName, Role, AfterRole, Formula, Literal, Atom, Symbol, Term, Ended, Closing, Stop}
use Rattle.clausetext.specs.declared.judge.Mode.{Mode}
use Rattle.clausetext.specs.declared.judge.Mode.TheVariants.{Between, Comment, Word, Owed}
use Rattle.names.specs.Noting.{name_at}
use Rattle.assistant.specs.declared.place.Position.{Position}
use Rattle.assistant.specs.Place.{position_of, figure_text, shown_line, shown_before, around_text, mark_text, excerpt_text}
use Rattle.assistant.specs.Expected.{symbol_text, ended_text, wanted_text, owed_text, expected_text}
use Rattle.assistant.specs.Refusals.{head_text, hope_text, long_text, located_text, wrong_in_text, wrong_text, question_name, twice_text, unasked_text, positive_text, over_text}
use Rattle.assistant.specs.Results.{cost_text, found_text, too_long_text, larger_text, none_text, ran_out_text, szs_text, behind_text}

module _ {o₀ o₁ : List ℕ} {n₀ n₁ : ℕ} where
  -- what was expected
  pub symbol_first : {d : ℕ} → d ≡ 0 → Put o₀ n₀ (bytes "arguments in parentheses, `|` or `)`") o₁ n₁ → Put o₀ n₀ (symbol_text d) o₁ n₁
  unfolding symbol_text
  symbol_first e p = rw e p

  pub symbol_inner : (d : ℕ) → (d ≡ 0 → ⊥) → Put o₀ n₀ (bytes "arguments in parentheses, `,` or `)`") o₁ n₁ → Put o₀ n₀ (symbol_text d) o₁ n₁
  unfolding symbol_text
  symbol_inner zero n p = absurd (n refl)
  symbol_inner (suc d) n p = p

  pub ended_first : {d : ℕ} → d ≡ 0 → Put o₀ n₀ (bytes "`|` or `)`") o₁ n₁ → Put o₀ n₀ (ended_text d) o₁ n₁
  unfolding ended_text
  ended_first e p = rw e p

  pub ended_inner : (d : ℕ) → (d ≡ 0 → ⊥) → Put o₀ n₀ (bytes "`,` or `)`") o₁ n₁ → Put o₀ n₀ (ended_text d) o₁ n₁
  unfolding ended_text
  ended_inner zero n p = absurd (n refl)
  ended_inner (suc d) n p = p

  module _ {i : ℕ} where
    pub owed_cnf : i < 4 → Put o₀ n₀ (bytes "`cnf` and then `(`") o₁ n₁ → Put o₀ n₀ (owed_text i) o₁ n₁
    unfolding owed_text
    owed_cnf h p = rw (lt-ltb i 4 h) p

    pub owed_axiom : 4 ≤ i → i < 10 → Put o₀ n₀ (bytes "`axiom` and then `,`") o₁ n₁ → Put o₀ n₀ (owed_text i) o₁ n₁
    unfolding owed_text
    owed_axiom g h p = rw (le-ltb i 4 g, lt-ltb i 10 h) p

    pub owed_hypothesis : 4 ≤ i → 10 ≤ i → i < 21 → Put o₀ n₀ (bytes "`hypothesis` and then `,`") o₁ n₁ → Put o₀ n₀ (owed_text i) o₁ n₁
    unfolding owed_text
    owed_hypothesis f g h p = rw (le-ltb i 4 f, le-ltb i 10 g, lt-ltb i 21 h) p

    pub owed_conjecture : 4 ≤ i → 10 ≤ i → 21 ≤ i → Put o₀ n₀ (bytes "`negated_conjecture` and then `,`") o₁ n₁ → Put o₀ n₀ (owed_text i) o₁ n₁
    unfolding owed_text
    owed_conjecture f g h p = rw (le-ltb i 4 f, le-ltb i 10 g, le-ltb i 21 h) p

  module _ {w : Want} where
    pub want_clause : w ≡ Clause → Put o₀ n₀ (bytes "`cnf`, or the end of the text") o₁ n₁ → Put o₀ n₀ (wanted_text w) o₁ n₁
    unfolding wanted_text
    want_clause e p = rw e p

    pub want_opening : w ≡ Opening → Put o₀ n₀ (bytes "`(`") o₁ n₁ → Put o₀ n₀ (wanted_text w) o₁ n₁
    unfolding wanted_text
    want_opening e p = rw e p

    pub want_name : w ≡ Name → Put o₀ n₀ (bytes "the clause's name, which begins with a small letter") o₁ n₁ → Put o₀ n₀ (wanted_text w) o₁ n₁
    unfolding wanted_text
    want_name e p = rw e p

    pub want_after_name : w ≡ AfterName → Put o₀ n₀ (bytes "`,` after the clause's name") o₁ n₁ → Put o₀ n₀ (wanted_text w) o₁ n₁
    unfolding wanted_text
    want_after_name e p = rw e p

    pub want_role : w ≡ Role → Put o₀ n₀ (bytes "a role: axiom, hypothesis or negated_conjecture") o₁ n₁ → Put o₀ n₀ (wanted_text w) o₁ n₁
    unfolding wanted_text
    want_role e p = rw e p

    pub want_after_role : w ≡ AfterRole → Put o₀ n₀ (bytes "`,` after the role") o₁ n₁ → Put o₀ n₀ (wanted_text w) o₁ n₁
    unfolding wanted_text
    want_after_role e p = rw e p

    pub want_formula : w ≡ Formula → Put o₀ n₀ (bytes "`(`, `~` or a predicate, which begins with a small letter") o₁ n₁ → Put o₀ n₀ (wanted_text w) o₁ n₁
    unfolding wanted_text
    want_formula e p = rw e p

    pub want_literal : {b : Bool} → w ≡ (Literal b) → Put o₀ n₀ (bytes "`~` or a predicate, which begins with a small letter") o₁ n₁ → Put o₀ n₀ (wanted_text w) o₁ n₁
    unfolding wanted_text
    want_literal e p = rw e p

    pub want_atom : {b : Bool} → w ≡ (Atom b) → Put o₀ n₀ (bytes "a predicate, which begins with a small letter") o₁ n₁ → Put o₀ n₀ (wanted_text w) o₁ n₁
    unfolding wanted_text
    want_atom e p = rw e p

    pub want_symbol : {d : ℕ} {b : Bool} → w ≡ (Symbol d b) → Put o₀ n₀ (symbol_text d) o₁ n₁ → Put o₀ n₀ (wanted_text w) o₁ n₁
    unfolding wanted_text
    want_symbol e p = rw e p

    pub want_term : {d : ℕ} {b : Bool} → w ≡ (Term d b) → Put o₀ n₀ (bytes "a term: a variable with a capital letter, or a function or constant with a small one") o₁ n₁ → Put o₀ n₀ (wanted_text w) o₁ n₁
    unfolding wanted_text
    want_term e p = rw e p

    pub want_ended : {d : ℕ} {b : Bool} → w ≡ (Ended d b) → Put o₀ n₀ (ended_text d) o₁ n₁ → Put o₀ n₀ (wanted_text w) o₁ n₁
    unfolding wanted_text
    want_ended e p = rw e p

    pub want_closing : w ≡ Closing → Put o₀ n₀ (bytes "`)`") o₁ n₁ → Put o₀ n₀ (wanted_text w) o₁ n₁
    unfolding wanted_text
    want_closing e p = rw e p

    pub want_stop : w ≡ Stop → Put o₀ n₀ (bytes "`.`") o₁ n₁ → Put o₀ n₀ (wanted_text w) o₁ n₁
    unfolding wanted_text
    want_stop e p = rw e p

  module _ (w : Want) {m : Mode} where
    pub mode_between : m ≡ Between → Put o₀ n₀ (wanted_text w) o₁ n₁ → Put o₀ n₀ (expected_text w m) o₁ n₁
    unfolding expected_text
    mode_between e p = rw e p

    pub mode_comment : m ≡ Comment → Put o₀ n₀ (wanted_text w) o₁ n₁ → Put o₀ n₀ (expected_text w m) o₁ n₁
    unfolding expected_text
    mode_comment e p = rw e p

    pub mode_word : m ≡ Word → Put o₀ n₀ (wanted_text w) o₁ n₁ → Put o₀ n₀ (expected_text w m) o₁ n₁
    unfolding expected_text
    mode_word e p = rw e p

    pub mode_owed : {i : ℕ} → m ≡ (Owed i) → Put o₀ n₀ (owed_text i) o₁ n₁ → Put o₀ n₀ (expected_text w m) o₁ n₁
    unfolding expected_text
    mode_owed e p = rw e p

  pub question_is : (text : List ℕ) (many : ℕ) {place : ℕ} → place ≡ question_from many start 0 0 text → Put o₀ n₀ (name_at text place) o₁ n₁
      → Put o₀ n₀ (question_name text many) o₁ n₁
  question_is text many e p = rw e at p

  pub more_asked : (name text : List ℕ) {q : ℕ} → (q ≡ 0 → ⊥) → Put o₀ n₀ (twice_text name text) o₁ n₁ → Put o₀ n₀ (unasked_text name text q) o₁ n₁
  unfolding unasked_text
  more_asked name text {q} n p = rw (ne_eqb q 0 n) p

  pub wrong_long : (name text : List ℕ) (place : ℕ) → 65536 < length text → Put o₀ n₀ (long_text name) o₁ n₁ → Put o₀ n₀ (wrong_text name text place) o₁ n₁
  unfolding wrong_text
  wrong_long name text place h p = rw (lt-ltb 65536 (length text) h) p

  pub wrong_short : (name text : List ℕ) (place : ℕ) → length text ≤ 65536 → Put o₀ n₀ (wrong_in_text name text 0 place) o₁ n₁ → Put o₀ n₀ (wrong_text name text place) o₁ n₁
  unfolding wrong_text
  wrong_short name text place h p = rw (le-ltb 65536 (length text) h) p

  pub larger_low : {limit : ℕ} → limit < 32 → Put o₀ n₀ (bytes "Try a larger limit (--limit, up to 32), or add the clause that is missing.\n") o₁ n₁ → Put o₀ n₀ (larger_text limit) o₁ n₁
  unfolding larger_text
  larger_low {limit} h p = rw (lt-ltb limit 32 h) p

  pub larger_high : {limit : ℕ} → 32 ≤ limit → Put o₀ n₀ (bytes "32 is the largest limit. Add the clause that is missing, or ask for less.\n") o₁ n₁ → Put o₀ n₀ (larger_text limit) o₁ n₁
  unfolding larger_text
  larger_high {limit} h p = rw (le-ltb limit 32 h) p

  -- two parts
  module _ {o₂ : List ℕ} {n₂ : ℕ} where
    pub long_is : (name : List ℕ) → Put o₀ n₀ name o₁ n₁ → Put o₁ n₁ (bytes ": the text is longer than 65536 bytes\n") o₂ n₂ → Put o₀ n₀ (long_text name) o₂ n₂
    unfolding long_text
    long_is name p q = then p q

    pub definite_is : {d : ℕ} (bound tries : ℕ) → d ≡ 1 → Put o₀ n₀ (bytes "Found: a definite answer") o₁ n₁ → Put o₁ n₁ (cost_text bound tries) o₂ n₂ → Put o₀ n₀ (found_text d bound tries) o₂ n₂
    unfolding found_text
    definite_is {d} bound tries e p q = rw (eq-eqb d 1 e) (then p q)

    pub too_long_is : (bound tries : ℕ) → Put o₀ n₀ (bytes "Found: an answer too long to be shown, over 4096 words") o₁ n₁ → Put o₁ n₁ (cost_text bound tries) o₂ n₂
        → Put o₀ n₀ (too_long_text bound tries) o₂ n₂
    unfolding too_long_text
    too_long_is bound tries p q = then p q

    pub none_asked : (name text : List ℕ) {q : ℕ} → q ≡ 0 → Put o₀ n₀ name o₁ n₁
        → Put o₁ n₁ (bytes ": there is no question: no clause has the role negated_conjecture\n") o₂ n₂ → Put o₀ n₀ (unasked_text name text q) o₂ n₂
    unfolding unasked_text
    none_asked name text {q} e p r = rw (eq-eqb q 0 e) (then p r)

    pub excerpt_is : (before rest : List ℕ) (column : ℕ) {back : ℕ} → back ≡ shown_before column → Put o₀ n₀ (around_text before rest back) o₁ n₁
        → Put o₁ n₁ (mark_text back) o₂ n₂ → Put o₀ n₀ (excerpt_text before rest column) o₂ n₂
    unfolding excerpt_text
    excerpt_is before rest column e p q = then (rw e at p) (rw e at q)

    pub located_is : (name text : List ℕ) (place : ℕ) {before rest : List ℕ} → before ≡ take place text → rest ≡ drop place text
        → {p : Position} → p ≡ position_of before → Put o₀ n₀ (head_text name p) o₁ n₁ → Put o₁ n₁ (excerpt_text before rest p.column) o₂ n₂
        → Put o₀ n₀ (located_text name text place) o₂ n₂
    unfolding located_text
    located_is name text place eb er ep p q = then (rw (ep, eb) at p) (rw (ep, eb, er) at q)

    pub wrong_in_is : (name text : List ℕ) (from place : ℕ) {own : List ℕ} → own ≡ drop from text → {s : State} → s ≡ stuck_in start own
        → Put o₀ n₀ (located_text name text place) o₁ n₁ → Put o₁ n₁ (hope_text s) o₂ n₂ → Put o₀ n₀ (wrong_in_text name text from place) o₂ n₂
    unfolding wrong_in_text
    wrong_in_is name text from place eo es p q = then p (rw (es, eo) at q)

    pub over_is : (name : List ℕ) → Put o₀ n₀ name o₁ n₁
        → Put o₁ n₁ (bytes ": the table is over a limit: 512 clauses, 16000 words in all, 4096 predicates, 4096 functions; a clause 7 literals, 16 variables, 255 words; 4 arguments\n") o₂ n₂
        → Put o₀ n₀ (over_text name) o₂ n₂
    unfolding over_text
    over_is name p q = then p q

    -- three
    module _ {o₃ : List ℕ} {n₃ : ℕ} where
      pub hope_is : (s : State) → Put o₀ n₀ (bytes "expected ") o₁ n₁ → Put o₁ n₁ (expected_text s.want s.mode) o₂ n₂ → Put o₂ n₂ (bytes "\n") o₃ n₃
          → Put o₀ n₀ (hope_text s) o₃ n₃
      unfolding hope_text
      hope_is s p q r = then p (then q r)

      pub cost_is : (bound tries : ℕ) → Put o₀ n₀ (bytes " (bound " ++ decimal_text bound) o₁ n₁ → Put o₁ n₁ (bytes ", tries " ++ decimal_text tries) o₂ n₂
          → Put o₂ n₂ (bytes ")\n") o₃ n₃ → Put o₀ n₀ (cost_text bound tries) o₃ n₃
      unfolding cost_text
      cost_is bound tries p q r = then p (then q r)

      pub open_is : {d : ℕ} (bound tries : ℕ) → (d ≡ 1 → ⊥) → Put o₀ n₀ (bytes "Found: an answer with " ++ decimal_text d) o₁ n₁
          → Put o₁ n₁ (bytes " alternatives, not definite") o₂ n₂ → Put o₂ n₂ (cost_text bound tries) o₃ n₃ → Put o₀ n₀ (found_text d bound tries) o₃ n₃
      unfolding found_text
      open_is {d} bound tries n p q r = rw (ne_eqb d 1 n) (then p (then q r))

      pub ran_out_is : (bound tries : ℕ) → Put o₀ n₀ (bytes "Ran out at " ++ decimal_text bound) o₁ n₁ → Put o₁ n₁ (bytes " after " ++ decimal_text tries) o₂ n₂
          → Put o₂ n₂ (bytes " tries: nothing is known yet.\nTry a larger budget (--budget, up to 4294967295), or a slimmer table (hukolearu slim).\n") o₃ n₃
          → Put o₀ n₀ (ran_out_text bound tries) o₃ n₃
      unfolding ran_out_text
      ran_out_is bound tries p q r = then p (then q r)

      pub positive_is : (name text : List ℕ) → Put o₀ n₀ name o₁ n₁ → Put o₁ n₁ (bytes ": the question " ++ question_name text 1) o₂ n₂
          → Put o₂ n₂ (bytes " has a literal without `~`: all its literals must be denied\n") o₃ n₃ → Put o₀ n₀ (positive_text name text) o₃ n₃
      unfolding positive_text
      positive_is name text a b c = then a (then b c)

      pub szs_is : (status name : List ℕ) → Put o₀ n₀ (bytes "% SZS status " ++ status) o₁ n₁ → Put o₁ n₁ (bytes " for " ++ name) o₂ n₂
          → Put o₂ n₂ (bytes "\n") o₃ n₃ → Put o₀ n₀ (szs_text status name) o₃ n₃
      unfolding szs_text
      szs_is status name a b c = then a (then b c)

      pub behind_is : (name : List ℕ) (copies : ℕ) → Put o₀ n₀ (bytes "  " ++ name) o₁ n₁ → Put o₁ n₁ (bytes " " ++ decimal_text copies) o₂ n₂
          → Put o₂ n₂ (bytes "\n") o₃ n₃ → Put o₀ n₀ (behind_text name copies) o₃ n₃
      unfolding behind_text
      behind_is name copies a b c = then a (then b c)

      pub around_is : (before rest : List ℕ) (back : ℕ) {near far : List ℕ} → near ≡ drop (length before - back) before → far ≡ take 40 rest
          → Put o₀ n₀ (bytes "  ") o₁ n₁ → Put o₁ n₁ (shown_line near) o₂ n₂ → Put o₂ n₂ (shown_line far) o₃ n₃
          → Put o₀ n₀ (around_text before rest back) o₃ n₃
      unfolding around_text
      around_is before rest back en ef a b c = then a (then (rw en at b) (rw ef at c))

      pub mark_is : (back : ℕ) → Put o₀ n₀ (bytes "\n  ") o₁ n₁ → Put o₁ n₁ (replicate back 32) o₂ n₂ → Put o₂ n₂ (bytes "^\n") o₃ n₃
          → Put o₀ n₀ (mark_text back) o₃ n₃
      unfolding mark_text
      mark_is back a b c = then a (then b c)

      -- four
      module _ {o₄ : List ℕ} {n₄ : ℕ} where
        pub none_is : (limit tries : ℕ) → Put o₀ n₀ (bytes "None up to " ++ decimal_text limit) o₁ n₁
            → Put o₁ n₁ (bytes ": no proof uses so few clauses; it looked everywhere, in " ++ decimal_text tries) o₂ n₂ → Put o₂ n₂ (bytes " tries.\n") o₃ n₃
            → Put o₃ n₃ (larger_text limit) o₄ n₄ → Put o₀ n₀ (none_text limit tries) o₄ n₄
        unfolding none_text
        none_is limit tries p q r s = then p (then q (then r s))

        pub head_is : (name : List ℕ) (p : Position) → Put o₀ n₀ name o₁ n₁ → Put o₁ n₁ (bytes ":" ++ figure_text p.line) o₂ n₂
            → Put o₂ n₂ (bytes ":" ++ figure_text p.column) o₃ n₃ → Put o₃ n₃ (bytes ": the text goes wrong here\n") o₄ n₄ → Put o₀ n₀ (head_text name p) o₄ n₄
        unfolding head_text
        head_is name p a b c d = then a (then b (then c d))

        pub twice_is : (name text : List ℕ) → Put o₀ n₀ name o₁ n₁
            → Put o₁ n₁ (bytes ": there is more than one question (role negated_conjecture): " ++ question_name text 1) o₂ n₂
            → Put o₂ n₂ (bytes " and " ++ question_name text 2) o₃ n₃ → Put o₃ n₃ (bytes "\n") o₄ n₄ → Put o₀ n₀ (twice_text name text) o₄ n₄
        unfolding twice_text
        twice_is name text a b c d = then a (then b (then c d))

pub ruleset symbol_laws = (symbol_first, symbol_inner)

pub ruleset ended_laws = (ended_first, ended_inner)

pub ruleset owed_laws = (owed_cnf, owed_axiom, owed_hypothesis, owed_conjecture)

pub ruleset want_laws = (want_clause, want_opening, want_name, want_after_name, want_role, want_after_role, want_formula, want_literal, want_atom, want_symbol, want_term, want_ended, want_closing, want_stop)

pub ruleset mode_laws = (mode_between, mode_comment, mode_word, mode_owed)

pub ruleset unasked_laws = (none_asked, more_asked)

pub ruleset wrong_laws = (wrong_long, wrong_short)

pub ruleset found_laws = (definite_is, open_is)

pub ruleset larger_laws = (larger_low, larger_high)
