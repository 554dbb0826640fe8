-- The question of an accepted file, with premises as the code has them.
use mathlib.Core.List.{List, [], ◌∷◌, ◌++◌}
use mathlib.Core.Path.{◌≡◌, refl, sym, ap, ◌∙◌}
use mir.Syntax.{w32, w64}
use mir.Val.{Fits}
use Prim.Native.Nat.{ℕ, suc, ◌+◌, ◌-◌, ◌*◌, ◌≤◌, ◌<◌}
use native.Mathlib.Nat.{add-zero}
use native.Mathlib.Omega.{arith}
use lib.ListN.{length, take, drop, get_or, length-append}
use lib.Seq.{get_or-take, get_or-drop}
use Rattle.words.specs.Fields.{literals_of, following_of, clause_word}
use Rattle.words.proofs.Packed.{clause_literals}
use Rattle.table.specs.Syntax.{Clause, all_clauses}
use Rattle.table.specs.Encode.{literals_words, clause_words}
use Rattle.table.specs.File.{judge, table_in, trailer}
use Rattle.table.proofs.Accepted.{accepted}
use Rattle.table.proofs.AcceptedTable.{words_each, accepted_within, accepted_count}
use Rattle.slim.specs.Walking.{Ready}
use Rattle.slim.proofs.Walks.{question_in, question_words_lem, question_within}

module _ (file : List ℕ) (ok : (judge file).status ≡ 0) where
  pub file_long : 6 ≤ length file
  file_long = (accepted file ok).least

  pub clauses_few : length (table_in file).clauses < 512
  unfolding all_clauses
  clauses_few = omega (arith, (accepted_within file ok).few, length-append (table_in file).clauses ((table_in file).question ∷ []))

  pub number_few : {q : ℕ} → q ≡ length (table_in file).clauses → q < 512
  number_few e = omega (arith, e, clauses_few)

  pub three_back : 3 ≤ length file
  three_back = omega (arith, file_long)

  pub four_back : 4 ≤ length file
  four_back = omega (arith, file_long)

  pub count_there : length file - 3 < length file
  count_there = omega (arith, file_long)

  pub place_there : length file - 4 < length file
  place_there = omega (arith, file_long)

  count-is : get_or file (length file - 3) 0 ≡ suc (length (table_in file).clauses)
  unfolding all_clauses
  count-is =
      let place : length file - 3 ≡ length file - 4 + 1 = omega (arith, file_long) in
      let count : length ((table_in file).clauses ++ ((table_in file).question ∷ [])) ≡ trailer file 1 = accepted_count file ok ∙ (accepted file ok).clauses in
      rw place (omega (arith, count, length-append (table_in file).clauses ((table_in file).question ∷ [])))

  pub number_some : {w : ℕ} → w ≡ get_or file (length file - 3) 0 → 1 ≤ w
  number_some e = omega (arith, e, count-is)

  pub number_is : {w : ℕ} → w ≡ get_or file (length file - 3) 0 → w - 1 ≡ length (table_in file).clauses
  number_is e = omega (arith, e, count-is)

  module _ (small : (i : ℕ) → Fits w32 (get_or file i 0)) {at : ℕ} (e : at ≡ get_or file (length file - 4) 0) where
    ready : Ready file at
    ready =
        let place : length file - 4 ≡ length file - 4 + 0 = omega arith in
        record {
          accepted = ok;
          small = words_each file (λ i. (small i).fits);
          asks = e ∙ ap (λ (i : ℕ). get_or file i 0) place ∙ sym (accepted file ok).question;
        }

    pub place_fits : Fits w64 (at * 4)
    place_fits = record { fits = omega (arith, e, (small (length file - 4)).fits) }

    pub question_there : at < length file
    question_there = question_in file at ready

    abbrev q : Clause
    q = (table_in file).question

    word_is : get_or file at 0 ≡ clause_word q.restricted (length q.literals) q.variables (length (literals_words q.literals))
    unfolding clause_words
    word_is =
        let end = at + (following_of (get_or file at 0) + 1) in
        let first : get_or (take (end - at) (drop at file)) 0 0 ≡ get_or file (at + 0) 0 = get_or-take (end - at) (drop at file) 0 0 (omega arith) ∙ get_or-drop at file 0 0 in
        ap (λ (i : ℕ). get_or file i 0) (sym (add-zero at)) ∙ sym first ∙ ap (λ (ws : List ℕ). get_or ws 0 0) (question_words_lem file at ready end refl)

    pub size_fits : {f v : ℕ} → f ≡ following_of (get_or file at 0) → v ≡ f → Fits w64 (v + 1)
    size_fits ef ev = record { fits = omega (arith, ef, ev) }

    pub words_are : {f v : ℕ} → f ≡ following_of (get_or file at 0) → v ≡ f → {rest front : List ℕ} → rest ≡ drop at file → front ≡ take (v + 1) rest
        → front ≡ clause_words (table_in file).question
    words_are {f} {v} ef ev er et =
        let end = at + (following_of (get_or file at 0) + 1) in
        let n : v + 1 ≡ end - at = omega (arith, ef, ev) in
        et ∙ rw (er, n) (question_words_lem file at ready end refl)

    pub literals_are : {v w : ℕ} → v ≡ w → w ≡ literals_of (get_or file at 0) → v ≡ length q.literals
    literals_are o l =
        let h = question_within file at ready in
        o ∙ l ∙ ap (λ (w : ℕ). literals_of w) word_is
        ∙ clause_literals (length q.literals) q.variables (length (literals_words q.literals)) (omega (arith, h.few)) (omega (arith, h.variables)) (omega (arith, h.follow)) q.restricted

pub ruleset number_laws = (three_back, count_there, number_some, number_is)

pub ruleset word_laws = (four_back, place_there, place_fits, question_there, size_fits, words_are)

pub ruleset literal_laws = (four_back, place_there, place_fits, question_there, literals_are)
