-- A question is answered: the file that was written is accepted and says the desk's table, and the search's status tells what is heard.
use lib.ListN.{length, take}
use lib.Seq.{length-take-le}
use mathlib.Core.List.{List}
use mathlib.Core.Path.{◌≡◌, sym, ◌∙◌, ap}
use native.Mathlib.Omega.{arith}
use Prim.Native.Nat.{ℕ, ◌≤◌}
use Rattle.table.specs.Build.{at_front}
use Rattle.table.specs.Encode.{file_words}
use Rattle.table.specs.File.{judge, table_in}
use Rattle.table.specs.declared.Judgement.{Judgement}
use Rattle.table.specs.Syntax.{Table}
use Rattle.table.proofs.Building.{SaysTable, says_table, front_long}
use Rattle.desk.specs.Records.{records_of}
use Rattle.desk.specs.declared.Slot.{Slot}
use Rattle.desk.specs.Desk.{tries_for}
use Rattle.desk.specs.Clauses.{desk_table}
use Rattle.desk.specs.Asking.{Intake, Asked, Fronts, settled_by, status_for, heard}
use Rattle.desk.specs.declared.ask.Answer.{Answer}
use Rattle.desk.specs.declared.ask.Answer.TheVariants.{BudgetEnded, Found, NoneFound}
use Rattle.desk.proofs.Words.{records_short, body_length, file_within}
use Rattle.desk.proofs.Heard.{hears_ended, hears_none, hears_found}

module _ {words : List ℕ} {day house : ℕ} (slot : Slot) (intake : Intake words) (asked : Asked day house) where
  abbrev table : Table
  table = desk_table (records_of words) day house slot

  says : (buffer : List ℕ) → SaysTable table (at_front (file_words table) buffer)
  says buffer = says_table table (file_within words day house slot intake asked.day_few asked.house_few) buffer

  module _ {buffer file : List ℕ} {n : ℕ} (f : Fronts buffer (file_words (desk_table (records_of words) day house slot)) n file) where
    front-is : take n file ≡ file_words table
    front-is = rw (f.counted, f.stands) (says buffer).front

    file_short : n ≤ 4509
    file_short = omega (arith, f.counted, (says buffer).long, body_length words day house slot, records_short words, intake.few)

    pub file_room : length buffer ≡ 4509 → n ≤ length file
    file_room l =
        let long : length file ≡ length buffer = ap length f.stands ∙ front_long (file_words table) buffer (omega (arith, f.counted, file_short)) in
        omega (arith, file_short)

    pub part_long : length buffer ≡ 4509 → n ≡ length (take n file)
    part_long l = sym (length-take-le n file (file_room l))

    accepted : (judge (take n file)).status ≡ 0
    accepted = rw front-is (ap (λ (j : Judgement). j.status) (says buffer).judged)

    says-that : table_in (take n file) ≡ table
    says-that = ap (λ (ws : List ℕ). table_in ws) front-is ∙ (says buffer).table

    module _ (budget : ℕ) {said : ℕ} (s : said ≡ status_for (take n file) budget) where
      abbrev hears : Answer → Type 0
      hears a = a ≡ heard budget (tries_for day house slot (records_of words)) (settled_by day house slot (records_of words))

      pub answer_ended : said ≡ 11 → hears BudgetEnded
      answer_ended e = hears_ended (records_of words) day house slot (take n file) budget accepted says-that (sym s ∙ e)

      module _ (m : said ≡ 11 → ⊥) where
        pub answer_none : said ≡ 10 → hears NoneFound
        answer_none e = hears_none (records_of words) day house slot (take n file) budget accepted says-that (λ h. m (s ∙ h)) (sym s ∙ e)

        pub answer_found : (said ≡ 10 → ⊥) → hears Found
        answer_found k = hears_found (records_of words) day house slot (take n file) budget accepted says-that (λ h. m (s ∙ h)) (λ h. k (s ∙ h))
