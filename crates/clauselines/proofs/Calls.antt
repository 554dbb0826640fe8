-- The public call: one law for each outcome, with premises as the code has them.
use mathlib.Core.Path.{◌≡◌, refl, ◌∙◌}
use mathlib.Core.List.{List}
use Prim.Native.Nat.{ℕ, ◌^◌, ◌≤◌, ◌<◌}
use native.Mathlib.Omega.{arith}
use mir.Syntax.{w32}
use mir.Val.{Fits}
use lib.ListN.{length, get_or}
use borrow.Author.Tests.{eq-eqb, ne_eqb, le-leb, lt-leb}
use Rattle.table.specs.Build.{at_front}
use Rattle.table.specs.File.{judge, table_in}
use Rattle.table.specs.declared.Judgement.{Judgement}
use Rattle.table.proofs.AcceptedTable.{words_each}
use Rattle.table.proofs.FileEncoding.{file_within}
use Rattle.text.specs.Put.{after, Put}
use Rattle.text.proofs.Fitting.{left_whole}
use Rattle.clauselines.specs.Lines.{table_text}
use Rattle.clauselines.specs.Call.{Given, refused, granted, if_it_fits, write_call}
use Rattle.clauselines.specs.Writers.{Ready}
use Rattle.clauselines.specs.declared.TextWritten.{TextWritten}
use Rattle.clauselines.proofs.Short.{table_short}

-- a text that is not too long is counted whole, whatever the room
pub counted : {buffer text left : List ℕ} {bytes : ℕ} → Put buffer 0 text left bytes → length text < 2 ^ 32 → bytes ≡ length text
unfolding after
counted p h = omega (arith, p.ends, h)

-- whether a text fits
pub fits : (text : List ℕ) (room : ℕ) → length text ≤ room → if_it_fits text room ≡ granted text
unfolding if_it_fits
fits text room h = rw (le-leb (length text) room h)

pub fits_not : (text : List ℕ) (room : ℕ) → room < length text → if_it_fits text room ≡ refused 16 0
unfolding if_it_fits
fits_not text room h = rw (lt-leb (length text) room h)

-- a call gives what its definition says
module _ {given : Given} {buffer : List ℕ} where
  pub none_written : {status place : ℕ} → given ≡ refused status place → {q : TextWritten} → q ≡ (refused status place).outcome
      → (q ≡ given.outcome) × (buffer ≡ at_front given.text buffer)
  none_written e {q} f = rw e (f, refl)

  pub all_written : (text : List ℕ) → given ≡ granted text → length text ≤ length buffer → {left : List ℕ} {bytes end : ℕ} → bytes ≡ length text → Put buffer 0 text left end
      → (record { status = 0; place = 0; bytes = bytes } ≡ given.outcome) × (left ≡ at_front given.text buffer)
  all_written text e h f p = rw (e, f) (refl, left_whole p h)

module _ (file : List ℕ) {j : Judgement} (e : j ≡ judge file) where
  pub file_refused : (room : ℕ) → (j.status ≡ 0 → ⊥) → write_call file room ≡ refused j.status j.place
  unfolding write_call
  file_refused room n = rw (← e, ne_eqb j.status 0 n)

  module _ (z : j.status ≡ 0) where
    pub file_granted : (room : ℕ) → write_call file room ≡ if_it_fits (table_text (table_in file)) room
    unfolding write_call
    file_granted room = rw (← e, eq-eqb j.status 0 z)

    module _ (small : (i : ℕ) → Fits w32 (get_or file i 0)) where
      pub file_ready : Ready file j.question
      file_ready = record { accepted = rw e at z; small = words_each file (λ i. (small i).fits); asks = rw e }

      text-short : length (table_text (table_in file)) < 2 ^ 32
      text-short = let r = file_ready in omega (arith, table_short (table_in file) (file_within file r.small r.accepted).table)

      module _ {nowhere left : List ℕ} {bytes : ℕ} (p : Put nowhere 0 (table_text (table_in file)) left bytes) where
        bytes_are : bytes ≡ length (table_text (table_in file))
        bytes_are = counted p text-short

        pub bytes_fit : Fits w32 bytes
        bytes_fit = record { fits = omega (arith, bytes_are, text-short) }

        pub too_long : {text : List ℕ} → length text < bytes → {q : TextWritten} → q ≡ (refused 16 0).outcome
            → (q ≡ (write_call file (length text)).outcome) × (text ≡ at_front (write_call file (length text)).text text)
        too_long {text} h f =
            none_written (file_granted (length text) ∙ fits_not (table_text (table_in file)) (length text) (omega (arith, h, bytes_are))) f

        pub written : {text later : List ℕ} {end : ℕ} → bytes ≤ length text → Put text 0 (table_text (table_in file)) later end
            → (record { status = 0; place = 0; bytes = bytes } ≡ (write_call file (length text)).outcome) × (later ≡ at_front (write_call file (length text)).text text)
        written {text} h put =
            let k : length (table_text (table_in file)) ≤ length text = omega (arith, h, bytes_are) in
            all_written (table_text (table_in file)) (file_granted (length text) ∙ fits (table_text (table_in file)) (length text) k) k bytes_are put
