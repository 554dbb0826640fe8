-- The lines after `or` are the answer's disjuncts: in an answer's words only its literals begin with a literal's word, so the words are cut
-- where the disjuncts begin.
use mathlib.Core.Bool.{true, false}
use mathlib.Core.List.{List, [], ◌∷◌, ◌++◌, map, flatten, append_assoc}
use mathlib.Core.Logic.{◌⊎◌, inl, inr}
use mathlib.Core.Path.{◌≡◌, refl, sym, ap, ◌∙◌}
use Prim.Native.Nat.{ℕ, suc, ◌+◌, ◌*◌, ◌/◌, ◌^◌, ◌≤◌, ◌<◌}
use native.Mathlib.Nat.{mul-div_cancel_left, suc-mul}
use native.Mathlib.Omega.{arith}
use borrow.Author.Tests.{eq-eqb, ne_eqb}
use lib.ListN.{length, length-append}
use lib.Seq.{take_at, drop_at}
use Rattle.words.specs.Fields.{kind_of, variable_word, function_word, literal_word}
use Rattle.words.proofs.Packed.{variable_kind, function_kind, literal_kind}
use Rattle.table.specs.Encode.{term_words, terms_words, literal_words, literals_words}
use Rattle.table.specs.File.{table_in}
use Rattle.table.specs.Limits.{TermWithin, TermsWithin, LiteralWithin, Each, Within}
use Rattle.table.specs.Syntax.{Term, var, app, Terms, nil, ◌then◌, arity, Literal, Clause}
use Rattle.table.proofs.AcceptedTable.{accepted_within}
use Rattle.rules.specs.Answer.{disjuncts, joined, numbered, disjuncts_in, Reads}
use Rattle.rules.specs.Setting.{Setting, base}
use Rattle.rules.proofs.Reading.{answer_within, answer_read, answer_reads}
use Rattle.rules.proofs.Truth.{flat_numbered}
use Rattle.hukolearu.specs.Calls.{Given}
use Rattle.hukolearu.specs.Says.{SearchSays, ran_out, none_found, found_fitting, found_too_long}
use Rattle.asking.specs.Report.{is_literal, literals_in, disjunct_length, cut_into, disjuncts_text, answer_text, report_text}
use Rattle.asking.specs.Program.{asked, given_text}
use Rattle.asking.specs.Promises.{LinesAreDisjuncts, AsManyLines}
use Rattle.asking.proofs.Given.{Refused, refusal, Says, asked_says}

-- words none of which is a literal's
abbrev Plain : List ℕ → Type 0
Plain ws = Each (λ w. is_literal w ≡ false) ws

plain_append : (us ws : List ℕ) → Plain us → Plain ws → Plain (us ++ ws)
unfolding Each
plain_append [] ws a b = b
plain_append (u ∷ us) ws a b = (a.0, plain_append us ws a.1 b)

mutual
  unfolding term_words TermWithin Each

  term_plain : (x : Term ℕ) {v : ℕ} → v ≤ 2 ^ 10 → TermWithin x v → Plain (term_words x)
  term_plain (var x) few h = (ne_eqb (kind_of (variable_word x)) 2 (λ e. omega (arith, variable_kind x (omega arith))), tt)
  term_plain (app f ts) few h =
      let small : arity ts < 2 ^ 3 = omega (arith, h.1) in
      (ne_eqb (kind_of (function_word f (arity ts))) 2 (λ e. omega (arith, function_kind f (arity ts) h.0 small)), terms_plain ts few h.2)

  terms_plain : (ts : Terms ℕ) {v : ℕ} → v ≤ 2 ^ 10 → TermsWithin ts v → Plain (terms_words ts)
  terms_plain nil few h = tt
  terms_plain (x then ts) few h = plain_append (term_words x) (terms_words ts) (term_plain x few h.0) (terms_plain ts few h.1)

plain_count : (us ws : List ℕ) → Plain us → literals_in (us ++ ws) ≡ literals_in ws
unfolding literals_in Each
plain_count [] ws a = refl
plain_count (u ∷ us) ws a = rw a.0 (plain_count us ws a.1)

plain_length : (us ws : List ℕ) (n : ℕ) → Plain us → disjunct_length (us ++ ws) n ≡ length us + disjunct_length ws n
unfolding disjunct_length Each
plain_length [] ws n a = omega arith
plain_length (u ∷ us) ws n a = rw a.0 (omega (arith, plain_length us ws n a.1))

-- a literal
module _ {v : ℕ} (few : v ≤ 2 ^ 10) (l : Literal ℕ) (h : LiteralWithin v l) where
  abbrev first : ℕ
  first = literal_word l.negative l.predicate (arity l.arguments)

  is-literal : is_literal first ≡ true
  is-literal =
      eq-eqb (kind_of first) 2 (literal_kind l.predicate (arity l.arguments) h.predicate (omega (arith, h.arity)) l.negative)

  literal-count : (ws : List ℕ) → literals_in (literal_words l ++ ws) ≡ suc (literals_in ws)
  unfolding literals_in literal_words
  literal-count ws = rw is-literal (ap suc (plain_count (terms_words l.arguments) ws (terms_plain l.arguments few h.arguments)))

  literal-length : (ws : List ℕ) (n : ℕ) → disjunct_length (literal_words l ++ ws) (suc n) ≡ length (literal_words l) + disjunct_length ws n
  unfolding disjunct_length literal_words
  literal-length ws n =
      rw is-literal (omega (arith, plain_length (terms_words l.arguments) ws n (terms_plain l.arguments few h.arguments)))

  stops-before : (ws : List ℕ) → disjunct_length (literal_words l ++ ws) 0 ≡ 0
  unfolding disjunct_length literal_words
  stops-before ws = rw is-literal

-- literals
literals_append : (ks ls : List (Literal ℕ)) → literals_words (ks ++ ls) ≡ literals_words ks ++ literals_words ls
unfolding literals_words
literals_append [] ls = refl
literals_append (k ∷ ks) ls = rw (literals_append ks ls) (sym (append_assoc (literal_words k) (literals_words ks) (literals_words ls)))

module _ (v : ℕ) where
  front-within : (ks ls : List (Literal ℕ)) → Each (LiteralWithin v) (ks ++ ls) → Each (LiteralWithin v) ks
  unfolding Each
  front-within [] ls a = tt
  front-within (k ∷ ks) ls a = (a.0, front-within ks ls a.1)

  rest-within : (ks ls : List (Literal ℕ)) → Each (LiteralWithin v) (ks ++ ls) → Each (LiteralWithin v) ls
  unfolding Each
  rest-within [] ls a = a
  rest-within (k ∷ ks) ls a = rest-within ks ls a.1

module _ {v : ℕ} (few : v ≤ 2 ^ 10) where
  literals_count : (ls : List (Literal ℕ)) → Each (LiteralWithin v) ls → literals_in (literals_words ls) ≡ length ls
  unfolding literals_words Each literals_in
  literals_count [] a = refl
  literals_count (l ∷ ls) a = literal-count few l a.0 (literals_words ls) ∙ ap suc (literals_count ls a.1)

  literals-length : (ls : List (Literal ℕ)) (ws : List ℕ) → Each (LiteralWithin v) ls → disjunct_length ws 0 ≡ 0
      → disjunct_length (literals_words ls ++ ws) (length ls) ≡ length (literals_words ls)
  unfolding literals_words Each
  literals-length [] ws a z = z
  literals-length (l ∷ ls) ws a z =
      ap (λ (us : List ℕ). disjunct_length us (suc (length ls))) (append_assoc (literal_words l) (literals_words ls) ws)
      ∙ literal-length few l a.0 (literals_words ls ++ ws) (length ls)
      ∙ omega (arith, literals-length ls ws a.1 z, length-append (literal_words l) (literals_words ls))

  -- what comes after a disjunct begins with a literal, or there is nothing
  begins : (ls : List (Literal ℕ)) → Each (LiteralWithin v) ls → disjunct_length (literals_words ls) 0 ≡ 0
  unfolding literals_words Each disjunct_length
  begins [] a = refl
  begins (l ∷ ls) a = stops-before few l a.0 (literals_words ls)

  cut-disjuncts : (m : ℕ) (ds : List (List (Literal ℕ))) → Each (λ d. length d ≡ m) ds → Each (LiteralWithin v) (flatten ds)
      → cut_into (length ds) m (literals_words (flatten ds)) ≡ map literals_words ds
  unfolding cut_into Each flatten
  cut-disjuncts m [] alike within = refl
  cut-disjuncts m (d ∷ ds) alike within =
      let rest : List ℕ = literals_words (flatten ds) in
      let all : literals_words (d ++ flatten ds) ≡ literals_words d ++ rest = literals_append d (flatten ds) in
      let after : disjunct_length rest 0 ≡ 0 = begins (flatten ds) (rest-within v d (flatten ds) within) in
      let long : disjunct_length (literals_words d ++ rest) m ≡ length (literals_words d) =
      rw (← alike.0) (literals-length d rest (front-within v d (flatten ds) within) after) in
      rw (all, long, take_at (literals_words d) rest (length (literals_words d)) refl, drop_at (literals_words d) rest (length (literals_words d)) refl)
      (ap (λ (parts : List (List ℕ)). literals_words d ∷ parts) (cut-disjuncts m ds alike.1 (rest-within v d (flatten ds) within)))

  flat-length : (m : ℕ) (ds : List (List (Literal ℕ))) → Each (λ d. length d ≡ m) ds → length (flatten ds) ≡ length ds * m
  unfolding Each flatten
  flat-length m [] alike = omega arith
  flat-length m (d ∷ ds) alike = rw (suc-mul (length ds) m) (omega (arith, length-append d (flatten ds), alike.0, flat-length m ds alike.1))

  -- the cut that the program makes: as many literals each as there are in all, by the number of disjuncts
  pub cut_reads : (m : ℕ) (ds : List (List (Literal ℕ))) → Each (λ d. length d ≡ m) ds → Each (LiteralWithin v) (flatten ds)
      → cut_into (length ds) (literals_in (literals_words (flatten ds)) / length ds) (literals_words (flatten ds)) ≡ map literals_words ds
  unfolding cut_into
  cut_reads m [] alike within = refl
  cut_reads m (d ∷ ds) alike within =
      let each : literals_in (literals_words (flatten (d ∷ ds))) / length (d ∷ ds) ≡ m =
      rw (literals_count (flatten (d ∷ ds)) within, flat-length m (d ∷ ds) alike) (mul-div_cancel_left m (omega arith)) in
      rw each (cut-disjuncts m (d ∷ ds) alike within)

-- what an accepted search with an answer says
pub record Told (question : Clause) (g : Given) : Type 0 where
  pub first : g.outcome.place ≡ 0
  pub lines : cut_into g.outcome.disjuncts (literals_in g.answer / g.outcome.disjuncts) g.answer ≡ map literals_words (disjuncts_in question g.answer)
  pub many : length (disjuncts_in question g.answer) ≡ g.outcome.disjuncts

cut_read : {question : Clause} {ws : List ℕ} {count : ℕ} (ds : List (List (Literal ℕ))) → Reads question ws count ds → Each (LiteralWithin (2 ^ 10)) (flatten ds)
    → cut_into count (literals_in ws / count) ws ≡ map literals_words ds
cut_read {question} ds r within = rw (r.whole, ← r.counted) (cut_reads (omega arith) (length question.literals) ds r.alike within)

says_told : (S : Setting) → Within S.table → S.bound ≤ 32 → {budget : ℕ} {g : Given} → SearchSays S budget 4096 g → g.outcome.status ≡ 0
    → Told S.table.question g
says_told S w b (ran_out d l) e = absurd (omega arith)
says_told S w b (none_found d l) e = absurd (omega arith)
says_told S w b (found_too_long d l c a r) e = absurd (omega arith)
says_told S w b (found_fitting {count = count} {words = words} d l c a r) e =
    let question : Clause = S.table.question in
    let reads : Reads question words count (disjuncts_in question words) =
    rw (a.written, a.counted) (answer_reads S w b c a.by a.general) in
    let flat : flatten (disjuncts_in question words) ≡ numbered (joined (disjuncts a.by S.table c.tableau)) =
    rw a.written (ap (λ (ds : List (List (Literal ℕ))). flatten ds) (answer_read S w b c a.by a.general) ∙ sym (flat_numbered (disjuncts a.by S.table c.tableau))) in
    record {
      first = refl;
      lines = cut_read (disjuncts_in question words) reads (rw flat (answer_within S w b c a.by a.general));
      many = reads.counted;
    }

refused_not : {g : Given} → Refused g → g.outcome.status ≡ 0 → ⊥
refused_not (refusal status place tries n) e = n e

asked_told : (file : List ℕ) (bound budget : ℕ) → (asked file bound budget).outcome.status ≡ 0 → Told (table_in file).question (asked file bound budget)
asked_told file bound budget e = go (asked_says file bound budget)
  where
    go : Refused (asked file bound budget) ⊎ Says file bound budget → Told (table_in file).question (asked file bound budget)
    go (inl r) = absurd (refused_not r e)
    go (inr s) = says_told (base (table_in file) bound) (accepted_within file s.0.good_file) s.0.low_bound s.1 e

pub as_many_lines : AsManyLines
as_many_lines file bound budget e = (asked_told file bound budget e).many

pub lines_are_disjuncts : LinesAreDisjuncts
unfolding given_text report_text answer_text disjuncts_text
lines_are_disjuncts file bound budget e =
    let t = asked_told file bound budget e in
    rw (e, t.first, t.lines)
