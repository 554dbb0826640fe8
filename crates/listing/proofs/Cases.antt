-- The cases, by computation.
use lib.Dec.{eqb}
use mathlib.Core.Bool.{Bool, false, true≢false}
use mathlib.Core.Path.{refl, sym}
use native.Mathlib.Omega.{arith}
use Prim.Native.Nat.{ℕ}
use Rattle.table.specs.Encode.{term_words, terms_words, literal_words, literals_words, clause_words, clauses_words, body_words, file_words}
use Rattle.table.specs.Limits.{Each}
use Rattle.rules.specs.Answer.{groups_from, disjuncts_in}
use Rattle.rules.specs.Locality.{renumbered}
use Rattle.rules.specs.Truth.{Interpretation, Assignment, value, values, atom_true, literal_true, some_true, all_true, some_all_true, Holds, AllHold, AnswerHolds}
use Rattle.text.specs.Digits.{digits_of, significant}
use Rattle.clauselines.specs.Lines.{term_text, arguments_text, further_text, sign_text, literal_text, alternatives_text, literals_text, role_text, clause_text}
use Rattle.clauselines.specs.Call.{if_it_fits}
use Rattle.hukolearu.proofs.CallCases.{called}
use Rattle.listing.specs.Behind.{copied_by, if_copied, copied_from, copied, asked, listed, listed_table, listed_number}
use Rattle.listing.specs.Lines.{line_text, lines_text, listing_text}
use Rattle.listing.specs.Call.{after_check, listing_call}
use Rattle.listing.specs.ListingCases as Cases
use Rattle.listing.proofs.Promises.{true_by_the_listed}

unfoldable told : Unit {0}
unfolding called copied_by if_copied copied_from copied asked line_text lines_text listing_text after_check listing_call if_it_fits digits_of significant term_text arguments_text further_text sign_text literal_text alternatives_text literals_text role_text clause_text
told = tt

pub listing_cases : Cases.ListingCases
unfolding told
listing_cases = refl

-- the spare clause
unfoldable over : Unit {0}
unfolding told listed listed_table listed_number renumbered
over = tt

pub spare_listed : Cases.SpareListed
unfolding over Each file_words body_words clauses_words clause_words literals_words literal_words terms_words term_words
spare_listed = record {
  small = (omega arith, (omega arith, (omega arith, (omega arith, (omega arith, (omega arith, (omega arith, (omega arith, (omega arith, (omega arith, (omega arith, (omega arith, (omega arith, (omega arith, tt))))))))))))));
  accepted = refl;
  listing = refl;
  copies = refl;
  clauses = refl;
  moved = refl;
  over = refl;
}

-- one element; in one world p is true of it and nothing else, in the other nothing is true
world : (ℕ → Bool) → Interpretation
world p = record { size = 1; function = λ f values. 0; predicate = λ q values. p q; not_empty = omega arith; within = λ f values. omega arith }

anyone : (p : ℕ → Bool) → Assignment (world p) ℕ
unfolding world
anyone p = record { element = λ x. 0; within = λ x. omega arith }

pub spare_worlds : Cases.SpareWorlds
unfolding over world value values atom_true literal_true some_true all_true some_all_true Holds AllHold AnswerHolds disjuncts_in groups_from
spare_worlds =
    let only : Interpretation = world (λ q. eqb q 1) in
    record {
      without_spare = only;
      listed_hold = (λ a. refl, tt);
      spare_fails = λ h. true≢false (sym (h (anyone (λ q. eqb q 1))));
      answer_true = true_by_the_listed only Cases.spare_check refl (λ a. refl, tt);
      empty = world (λ q. false);
      not_all_hold = λ h. true≢false (sym (h.0 (anyone (λ q. false))));
      not_true = λ h. true≢false (sym (h.holds (anyone (λ q. false))));
    }
