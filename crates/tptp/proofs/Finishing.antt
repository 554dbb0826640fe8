-- The file of a text with one question, with premises as the code has them.
use mathlib.Core.Bool.{Bool, true, false}
use mathlib.Core.List.{List}
use mathlib.Core.Path.{◌≡◌, sym, ap, subst, ◌∙◌}
use Prim.Native.Nat.{ℕ, ◌+◌, ◌-◌}
use native.Mathlib.Omega.{arith}
use borrow.Author.Tests.{not-true, not-false}
use lib.ListN.{length, drop}
use mir.Syntax.{w64}
use mir.Val.{Fits}
use Rattle.table.specs.Build.{at_front, sealed}
use Rattle.table.specs.Encode.{clauses_words, file_words}
use Rattle.table.specs.Limits.{Each}
use Rattle.clausetext.specs.Syntax.{Clause}
use Rattle.clausetext.proofs.OneReading.{one_reading}
use Rattle.tptp.specs.Said.{predicates, functions, clauses_said, table_said}
use Rattle.tptp.specs.Sketch.{literals_items, clauses_items}
use Rattle.tptp.specs.Body.{bodies, ClauseFits, Completed, ahead, moved_last, Parted}
use Rattle.tptp.specs.declared.TextRead.{TextRead}
use Rattle.tptp.specs.Reads.{refused, over, positive, read, Reads, fine}
use Rattle.tptp.specs.Inside.{Askable}
use Rattle.tptp.specs.Reads.{Fits as FitsFile}
use Rattle.tptp.proofs.Splits.{Split, split}
use Rattle.tptp.proofs.Answers.{within-said, said-within, question-at, question-end, denied-found, denied-not, end_inside, file-count, file_written}
use Rattle.tptp.proofs.Ahead.{ahead_within}

module _ {text marks places words : List ℕ} {clauses : ℕ} {file : List ℕ} (a : Askable text marks places words file clauses) where
  abbrev cs : List Clause
  cs = a.held.said

  one : Split cs
  one = split cs a.one

  even : length marks ≡ length places
  even = a.marks_even ∙ sym a.places_even

  module _ {words₁ : List ℕ} {r : Bool} (c : Completed text words₁ r) where
    same-said : c.said ≡ cs
    same-said = one_reading c.says a.held.says

    pub not_made : r ≡ false → {s : TextRead} → s ≡ refused 19 0 → Reads text file s file
    not_made e q =
        rw q (fine a.limited a.held.says (over a.one (λ f.
        c.over e (subst (λ (l : List Clause). Each (ClauseFits l) l) (sym same-said) (within-said cs one f.within)))))

    module _ (e : r ≡ true) where
      said-words : words₁ ≡ clauses_words (clauses_said (predicates cs) (functions cs) (bodies cs))
      said-words = c.written e ∙ ap (λ (l : List Clause). clauses_words (clauses_said (predicates l) (functions l) (bodies l))) same-said

      said_fits : Each (ClauseFits cs) cs
      said_fits = subst (λ (l : List Clause). Each (ClauseFits l) l) same-said (c.within e)

      module _ (k : length words₁ ≡ length words) {at : ℕ} (p : at ≡ 0 + ahead 5 (drop 0 marks)) where
        place_is : at ≡ length (clauses_items one.front)
        place_is = question-at cs one text marks places even a.held.items p

        module _ {end : ℕ} (q : end ≡ at + 1 + ahead 4 (drop (at + 1) marks)) where
          end_is : end ≡ at + 1 + length (literals_items one.this.literals)
          end_is = question-end cs one text marks places even a.held.items place_is q

          file_long : length words₁ + 4 ≡ length (file_words (table_said cs))
          file_long = file-count cs one said-words place_is end_is

          fits : FitsFile (table_said cs) (length file)
          fits = record {
            within = said-within cs one (omega (arith, a.few, a.count)) said_fits;
            short = omega (arith, a.short, k, file_long);
            room = omega (arith, a.room, k, file_long);
          }

          module _ {third : ℕ} (t : third ≡ at + 1 + ahead 3 (drop (at + 1) marks)) where
            pub not_denied : (third ≡ end → ⊥) → {s : TextRead} → s ≡ refused 9 0 → Reads text file s file
            not_denied d e' =
                rw e' (fine a.limited a.held.says (positive a.one fits (denied-not cs one text marks places even a.held.items place_is q t d)))

            pub all_written : third ≡ end → {file' : List ℕ} → file' ≡ sealed (at_front (moved_last words₁ at end) file) (length words₁) (at + (length words₁ - end)) clauses
                → Reads text file (record { status = 0; place = 0; words = length words₁ + 4 }) file'
            all_written d f =
                rw (f, file_written cs one said-words place_is end_is a.count file, file_long)
                (fine a.limited a.held.says (read a.one fits (denied-found cs one text marks places even a.held.items place_is q t d)))

          pub parted : Parted words₁ at end clauses file
          parted = record {
            ordered = omega (arith, end_is);
            inside = end_inside cs one said-words place_is end_is;
            room = omega (arith, a.room, k);
            short = omega (arith, a.short, k);
            few = a.few;
          }

  pub seek_fits : {at : ℕ} → at ≡ 0 + ahead 5 (drop 0 marks) → Fits w64 (at + 1)
  seek_fits e = record { fits = omega (arith, e, ahead_within 5 marks, a.marks_even, a.short) }

pub ruleset finish_laws = (not_made, not_denied, all_written, parted, seek_fits, not-true, not-false)
