-- The public call, with premises as the code has them.
use Rattle.std.specs.Prelude.{Ok, Err}
use Rattle.clausetext.specs.declared.judge.Counts.{Counts}
use mathlib.Core.Bool.{Bool, true, false}
use mathlib.Core.List.{List}
use mathlib.Core.Path.{◌≡◌, refl, sym, ap, ◌∙◌}
use Prim.Native.Nat.{ℕ, ◌+◌, ◌-◌, ◌*◌, ◌≤◌, ◌<◌}
use native.Mathlib.Omega.{arith}
use lib.ListN.{length, take, drop, replicate, get_or, length-replicate, get_or-replicate, get_or-eq_default}
use lib.Seq.{length-take-le}
use borrow.Author.Tests.{leb-true, leb-false}
use lib.Dec.{leb}
use mir.Syntax.{w32}
use mir.Val.{Fits}
use Rattle.table.specs.Encode.{clauses_words, file_words}
use Rattle.clausetext.specs.Syntax.{Clause}
use Rattle.clausetext.specs.Judging.{judged}
use Rattle.clausetext.specs.Texts.{Verdict, Says, Permitted, questions, Verdicts, long, wrong, fine}
use Rattle.clausetext.proofs.Judgement.{judged_verdict}
use Rattle.clausetext.proofs.OneReading.{one_reading}
use Rattle.tptp.specs.Said.{predicates, functions, clauses_said, table_said}
use Rattle.tptp.specs.Sketch.{Item, clauses_items}
use Rattle.tptp.specs.Memory.{Empty, Gathered}
use Rattle.tptp.specs.Body.{bodies}
use Rattle.tptp.specs.declared.TextRead.{TextRead}
use Rattle.tptp.specs.Reads.{refused, unasked, over, Reads}
use Rattle.tptp.specs.Inside.{Askable, Asked, Gatherable}
use Rattle.tptp.specs.Reads.{Fits as FitsFile}
use Rattle.tptp.proofs.Adding.{items_long}
use Rattle.tptp.proofs.Splits.{Split, split, clauses_long}
use Rattle.tptp.proofs.Answers.{all-count, file-count}

module _ {text marks places : List ℕ} {clauses : ℕ} (g : Gatherable text marks places clauses) where
  abbrev cs : List Clause
  cs = g.asked.said

  one : Split cs
  one = split cs g.asked.one

  -- as many words as marks
  pub file_size : length (file_words (table_said cs)) ≡ length marks + 4
  file_size =
      sym (file-count cs one {words = clauses_words (clauses_said (predicates cs) (functions cs) (bodies cs))} refl refl refl)
      ∙ omega (arith, clauses_long (predicates cs) (functions cs) cs, ap (λ (l : List Item). length l) g.items, items_long text marks places g.even)

  module _ {file : List ℕ} {s : TextRead} (q : s ≡ refused 19 0) where
    refuse : (FitsFile (table_said cs) (length file) → ⊥) → Reads text file s file
    refuse f = rw q (Reads.fine g.asked.limited g.asked.says (over g.asked.one f))

    pub over_words : 15996 < length marks → Reads text file s file
    over_words h = refuse (λ f. omega (arith, f.short, file_size))

    pub over_room : length file < length marks + 4 → Reads text file s file
    over_room h = refuse (λ f. omega (arith, f.room, file_size))

    pub over_clauses : 512 < clauses → Reads text file s file
    over_clauses h = refuse (λ f. omega (arith, f.within.few, all-count cs one, g.asked.count))

  pub askable : {file : List ℕ} → length marks ≤ 15996 → length marks + 4 ≤ length file → clauses ≤ 512
      → Askable text marks places (take (length marks - 0) (drop 0 (replicate 15996 0))) file clauses
  askable h k f =
      let z : length marks - 0 ≡ length marks = omega arith in
      let l : length {A = ℕ} (take (length marks) (replicate 15996 0)) ≡ length marks =
      length-take-le {A = ℕ} (length marks) (replicate 15996 0) (omega (arith, length-replicate {A = ℕ} 15996 0)) in
      rw z (record {
        limited = g.asked.limited;
        held = record { said = g.asked.said; says = g.asked.says; items = g.items };
        one = g.asked.one;
        count = g.asked.count;
        few = f;
        marks_even = sym l;
        places_even = sym g.even ∙ sym l;
        short = omega (arith, l);
        room = omega (arith, l);
      })

pub ruleset items_laws = (over_words, over_room, over_clauses, askable)

-- memory that holds nothing yet
zeros_small : (k : ℕ) (b : Bool) → leb 65536 k ≡ b → get_or {A = ℕ} (replicate 65536 0) k 0 ≤ 8 * 0 + 7
zeros_small k true e = rw (get_or-eq_default {A = ℕ} (replicate 65536 0) 0 (leb-true (length (replicate {A = ℕ} 65536 0)) k (rw (length-replicate {A = ℕ} 65536 0) e))) (omega arith)
zeros_small k false e = rw (get_or-replicate {A = ℕ} 65536 k 0 0 (leb-false 65536 k e)) (omega arith)

pub empty_memory : Empty (replicate 65536 0) (replicate 65536 0) (replicate 65536 0)
empty_memory = record {
  marks_long = length-replicate {A = ℕ} 65536 0;
  places_long = length-replicate {A = ℕ} 65536 0;
  inner_long = length-replicate {A = ℕ} 65536 0;
  small = record { each = λ k. zeros_small k (leb 65536 k) refl };
}

module _ {text : List ℕ} {clauses : ℕ} (a : Asked text clauses) where
  pub asked_limited : length text ≤ 65536
  asked_limited = a.limited

  pub asked_permitted : Permitted text
  asked_permitted = record { said = a.said; says = a.says }

  pub gatherable : {marks places : List ℕ} {count : ℕ} → Gathered text marks places count
      → Gatherable text (take (count - 0) (drop 0 marks)) (take (count - 0) (drop 0 places)) clauses
  gatherable {marks} {places} {count} g =
      let z : count - 0 ≡ count = omega arith in
      rw z (record {
        asked = a;
        items = g.items ∙ ap (λ (cs : List Clause). clauses_items cs) (one_reading g.says a.says);
        even = length-take-le count marks (omega (arith, g.few, g.marks_long)) ∙ sym (length-take-le count places (omega (arith, g.few, g.places_long)));
      })

pub gathered_marks : {text marks places : List ℕ} {count : ℕ} → Gathered text marks places count → count ≤ length marks
gathered_marks g = omega (arith, g.few, g.marks_long)

pub gathered_places : {text marks places : List ℕ} {count : ℕ} → Gathered text marks places count → count ≤ length places
gathered_places g = omega (arith, g.few, g.places_long)

pub ruleset asked_laws = (empty_memory, asked_limited, asked_permitted, gatherable, gathered_marks, gathered_places)

-- the verdict
same_place : {a b : ℕ} → ◌≡◌ {A = Verdict} (Err a) (Err b) → a ≡ b
same_place q = cc

wrong_place : {text : List ℕ} {v : Verdict} {place : ℕ} → Verdicts text v → v ≡ Err place → place ≤ 65536
wrong_place (long h) e = omega (arith, same_place e)
wrong_place (wrong h w) e = omega (arith, same_place e, w.within)
wrong_place (fine h y) e = let z : ◌≡◌ {A = ℕ} 0 1 = cc in absurd (omega arith)

fine_asked : {text : List ℕ} {v : Verdict} {c : Counts} → Verdicts text v → v ≡ Ok c → (cs : List Clause) × (length text ≤ 65536) × Says text cs × (c.clauses ≡ length cs) × (c.questions ≡ questions cs)
fine_asked (long h) e = let z : ◌≡◌ {A = ℕ} 0 1 = cc in absurd (omega arith)
fine_asked (wrong h w) e = let z : ◌≡◌ {A = ℕ} 0 1 = cc in absurd (omega arith)
fine_asked (fine {cs = cs} h y) e = (cs, h, y, cc, cc)

module _ (text : List ℕ) {v : Verdict} (is : v ≡ judged text) where
  verdict : Verdicts text v
  verdict = rw is (judged_verdict text)

  pub wrong_fits : {place : ℕ} → v ≡ Err place → Fits w32 place
  wrong_fits e = record { fits = omega (arith, wrong_place verdict e) }

  pub wrong_read : {place : ℕ} → v ≡ Err place → {file : List ℕ} {s : TextRead} → s ≡ refused 17 place → Reads text file s file
  wrong_read e q = rw q (Reads.wrong (rw e at verdict))

  module _ {c : Counts} (e : v ≡ Ok c) where
    pub not_asked : (c.questions ≡ 1 → ⊥) → {file : List ℕ} {s : TextRead} → s ≡ refused 18 0 → Reads text file s file
    not_asked d q =
        let f = fine_asked verdict e in rw q (Reads.fine f.1 f.2 (unasked (λ z. d (f.4 ∙ z))))

    pub asked : c.questions ≡ 1 → Asked text c.clauses
    asked z = let f = fine_asked verdict e in record { limited = f.1; said = f.0; says = f.2; one = sym f.4 ∙ z; count = f.3 }

pub ruleset read_laws = (wrong_fits, wrong_read, not_asked, asked)
