-- The season report in plain words (document 02, order 13). Each question is put as a season of its own, and the reports are added up.
use Rattle.std.specs.Prelude.{Bool, cond, ◌||◌, List, [], ◌∷◌, ◌++◌, ◌≡◌, ℕ, ◌+◌, ◌≤◌, min, eqb}
use Rattle.text.specs.Quoted.{bytes}
use Rattle.text.specs.Digits.{decimal_text, long_decimal_text}
use Rattle.hukolearu.specs.declared.Outcome.{Outcome}
use Rattle.season.specs.Season.{Run, result_of, counted}
use Rattle.season.specs.declared.Report.{Report}

-- one question alone, by what its search came to
unfoldable pub alone_report : Outcome → Report
alone_report o = counted (record { result = result_of o; tries = o.tries; proof = []; answer = [] } ∷ [])

abbrev pub one_report : ℕ → ℕ → ℕ → ℕ → ℕ → ℕ → ℕ → Report
one_report definite indefinite none ranout toolong refused tries =
    record {
      status = 0;
      place = 0;
      definite = definite;
      indefinite = indefinite;
      none = none;
      ranout = ranout;
      toolong = toolong;
      refused = refused;
      tries = tries;
    }

-- counts go up to the largest that a word holds, tries to the largest of 64 bits
abbrev pub sum_of : ℕ → ℕ → ℕ
sum_of a b = min (a + b) 4294967295

abbrev pub long_sum_of : ℕ → ℕ → ℕ
long_sum_of a b = min (a + b) 18446744073709551615

abbrev pub added_report : Report → Report → Report
added_report a b =
    record {
      status = a.status;
      place = a.place;
      definite = sum_of a.definite b.definite;
      indefinite = sum_of a.indefinite b.indefinite;
      none = sum_of a.none b.none;
      ranout = sum_of a.ranout b.ranout;
      toolong = sum_of a.toolong b.toolong;
      refused = sum_of a.refused b.refused;
      tries = long_sum_of a.tries b.tries;
    }

-- Two seasons' reports added up are the report of both together, where its numbers can be told.
pub record Told (r : Report) : Type 0 where
  pub definite : r.definite ≤ 4294967295
  pub indefinite : r.indefinite ≤ 4294967295
  pub none : r.none ≤ 4294967295
  pub ranout : r.ranout ≤ 4294967295
  pub toolong : r.toolong ≤ 4294967295
  pub refused : r.refused ≤ 4294967295
  pub tries : r.tries ≤ 18446744073709551615

unfoldable pub AddedUp : Type 0
AddedUp = (runs others : List Run) → Told (counted (runs ++ others)) → added_report (counted runs) (counted others) ≡ counted (runs ++ others)

-- what a question came to, by the count that is 1 in the report of it alone
unfoldable pub ended_text : Report → List ℕ
ended_text r =
    cond (eqb r.definite 1) (bytes "found, a definite answer")
    (cond (eqb r.indefinite 1) (bytes "found, not definite")
    (cond (eqb r.none 1) (bytes "none within the limit")
    (cond (eqb r.ranout 1) (bytes "ran out, nothing is known yet")
    (cond (eqb r.toolong 1) (bytes "found, an answer too long to be shown") (bytes "refused")))))

-- a refutation was found
unfoldable pub is_found : Report → Bool
is_found r = eqb r.definite 1 || (eqb r.indefinite 1 || eqb r.toolong 1)

-- found, none within the bound, ran out, and whatever else is refused: in the words of the SZS ontology
unfoldable pub status_text : Report → List ℕ
status_text r =
    cond (is_found r) (bytes "Unsatisfiable")
    (cond (eqb r.none 1) (bytes "GaveUp") (cond (eqb r.ranout 1) (bytes "ResourceOut") (bytes "InputError")))

unfoldable pub spent_text : ℕ → List ℕ
spent_text tries = (bytes " (tries " ++ long_decimal_text tries) ++ bytes ")\n"

-- file and line, the question's name, what it came to
unfoldable pub asked_text : List ℕ → List ℕ → Report → List ℕ
asked_text label name r = (label ++ bytes ": ") ++ ((name ++ bytes ": ") ++ (ended_text r ++ spent_text r.tries))

unfoldable pub szs_question_text : List ℕ → Report → List ℕ
szs_question_text name r = bytes "% SZS status " ++ (status_text r ++ ((bytes " for " ++ name) ++ bytes "\n"))

-- a clause among the questions that is none
unfoldable pub no_question_text : List ℕ → List ℕ
no_question_text label = label ++ bytes ": this clause is no question: its role is not negated_conjecture\n"

unfoldable pub title_text : List ℕ → ℕ → ℕ → List ℕ
title_text table limit budget =
    (bytes "Season report of " ++ table)
    ++ ((bytes ", a question may use " ++ decimal_text limit) ++ ((bytes " clauses and " ++ decimal_text budget) ++ bytes " tries:\n"))

-- the six results and the tries
unfoldable pub found_counts_text : Report → List ℕ
found_counts_text r = (bytes "  found, a definite answer: " ++ decimal_text r.definite) ++ (bytes "\n  found, not definite: " ++ decimal_text r.indefinite)

unfoldable pub other_counts_text : Report → List ℕ
other_counts_text r =
    (bytes "\n  none within the limit: " ++ decimal_text r.none)
    ++ ((bytes "\n  ran out: " ++ decimal_text r.ranout) ++ (bytes "\n  answer too long to be shown: " ++ decimal_text r.toolong))

unfoldable pub last_counts_text : Report → List ℕ
last_counts_text r = (bytes "\n  refused: " ++ decimal_text r.refused) ++ ((bytes "\n  tries in all: " ++ long_decimal_text r.tries) ++ bytes "\n")

unfoldable pub season_text : List ℕ → ℕ → ℕ → Report → List ℕ
season_text table limit budget r = title_text table limit budget ++ (found_counts_text r ++ (other_counts_text r ++ last_counts_text r))
