-- The call's own memory: the fingerprint goes on, a question stands alone, and a question's file stands behind the table's own part.
use mathlib.Core.List.{List, [], ◌∷◌, ◌++◌, append_assoc}
use mathlib.Core.Path.{◌≡◌, sym, ap, ◌∙◌}
use Prim.Native.Nat.{ℕ, ◌+◌, ◌≤◌, ◌<◌}
use native.Mathlib.Omega.{arith}
use mir.Syntax.{w32}
use mir.Val.{Fits}
use lib.ListN.{length, take, drop, get_or, length-append, take-append-drop}
use lib.Seq.{take-append_seam, drop-append_seam, length-take-le}
use Rattle.words.specs.Fingerprint.{mixed, fnv, word_bytes, bytes_of, fingerprint}
use Rattle.table.specs.Build.{at_front, behind, trailer_words, sealed}
use Rattle.table.specs.File.{judge, trailer}
use Rattle.table.specs.Limits.{Words}
use Rattle.table.specs.declared.Judgement.{Judgement}
use Rattle.table.proofs.Accepted.{accepted}
use Rattle.table.proofs.AcceptedTable.{words_each}
use Rattle.table.proofs.Building.{more_behind, front_long}
use Rattle.table.proofs.Mixing.{mixed_step, mixed_end, mixed_part}
use Rattle.season.specs.Season.{own_part, body_with, file_with}
use Rattle.season.specs.Asking.{alone, Tabled, Put}
use Rattle.season.proofs.Questions.{own_length, with_long}

-- a slice's words have 32 bits
pub words_of : (ws : List ℕ) → ((i : ℕ) → Fits w32 (get_or ws i 0)) → Words ws
words_of ws h = words_each ws (λ i. (h i).fits)

-- the fingerprint of more words: what is left, from here, gives the whole
module _ (ws : List ℕ) (h i : ℕ) {whole : ℕ} (so_far : whole ≡ mixed h (bytes_of (drop i ws))) where
  pub mix_turn : i < length ws → {r : ℕ} → r ≡ mixed h (word_bytes (get_or ws i 0)) → whole ≡ mixed r (bytes_of (drop (i + 1) ws))
  mix_turn l e = so_far ∙ mixed_step ws i l h e

  pub mix_done : length ws ≤ i → h ≡ whole
  mix_done l = sym (so_far ∙ mixed_end ws i l h)

pub goes_on : (own question : List ℕ) {begun r : ℕ} → begun ≡ fingerprint own → r ≡ mixed begun (bytes_of question) → r ≡ fingerprint (own ++ question)
unfolding fnv
goes_on own question {begun} e m =
    let first : mixed 0x811C9DC5 (bytes_of (take (length own) (own ++ question))) ≡ begun = rw (take-append_seam own question) (sym e) in
    m ∙ sym (mixed_part (length own) (own ++ question) 0x811C9DC5 ∙ rw (first, drop-append_seam own question))

-- words at the front of a buffer that stand there first, or behind others
pub front_begins : (words buffer : List ℕ) → behind buffer 0 words ≡ at_front words buffer
front_begins words buffer = more_behind [] words buffer

-- a question alone
module _ (question buffer : List ℕ) {copied sealed' : List ℕ} (few : length question ≤ 256) (long : length buffer ≡ 260)
    (copies : copied ≡ behind buffer 0 question) (seals : sealed' ≡ sealed copied (length question) 0 1) where
  alone-long : length (alone question) ≡ length question + 4
  alone-long = length-append question (trailer_words question 0 1)

  alone-stands : sealed' ≡ at_front (alone question) buffer
  alone-stands =
      seals ∙ ap (λ (f : List ℕ). sealed f (length question) 0 1) (copies ∙ front_begins question buffer)
      ∙ ap (λ (ws : List ℕ). behind (at_front question buffer) (length question) (trailer_words ws 0 1)) (take-append_seam question (drop (length question) buffer))
      ∙ more_behind question (trailer_words question 0 1) buffer

  pub alone_room : length question + 4 ≡ length (take (length question + 4) sealed')
  alone_room =
      sym (length-take-le (length question + 4) sealed'
      (omega (arith, ap length alone-stands, front_long (alone question) buffer (omega (arith, alone-long)))))

  pub alone_judged : {j : Judgement} → j ≡ judge (take (length question + 4) sealed') → j ≡ judge (alone question)
  alone_judged e =
      e ∙ ap (λ (f : List ℕ). judge (take (length question + 4) f)) alone-stands
      ∙ ap (λ (n : ℕ). judge (take n (at_front (alone question) buffer))) (sym alone-long)
      ∙ ap judge (take-append_seam (alone question) (drop (length (alone question)) buffer))

-- a question's file behind the table's own part
pub table_long : (table : List ℕ) → (judge table).status ≡ 0 → 4 ≤ length table
table_long table z = omega (arith, (accepted table z).least)

-- the table's own part stands first
module _ (table : List ℕ) (z : (judge table).status ≡ 0) {n : ℕ} (e : n ≡ trailer table 0) where
  pub own_in : n ≤ length table
  own_in = omega (arith, (accepted table z).right.below, (accepted table z).right.whole)

  own_size : length (take n table) ≡ n
  own_size = length-take-le n table own_in

  pub own_counts : n ≡ length (take n table)
  own_counts = sym own_size

  module _ (file : List ℕ) (long : length file ≡ 16000) where
    pub own_fits : 0 + length (take n table) ≤ length file
    own_fits = omega (arith, own_size, own_in, (accepted table z).most)

    pub own_begins : Words table → {file' : List ℕ} → file' ≡ behind file 0 (take n table) → {begun : ℕ} → begun ≡ fingerprint (take n table)
        → Tabled table file' begun
    own_begins small f b =
        let front = f ∙ front_begins (take n table) file in
        record {
          judged = z;
          long = ap length front ∙ front_long (take n table) file (omega (arith, own_fits)) ∙ long;
          stands = (λ i. take (sym (e) i) (front i)) ∙ ap (λ (k : ℕ). take k (at_front (take n table) file)) (sym own_size)
              ∙ take-append_seam (take n table) (drop (length (take n table)) file) ∙ ap (λ (k : ℕ). take k table) e;
          mixed = b ∙ ap (λ (k : ℕ). fingerprint (take k table)) e;
        }

module _ (table file : List ℕ) (small : Words table) {begun : ℕ} (t : Tabled table file begun) where
  own-stands : file ≡ at_front (own_part table) file
  own-stands =
      sym (take-append-drop (trailer table 0) file) ∙ ap (λ (ws : List ℕ). ws ++ drop (trailer table 0) file) t.stands
      ∙ ap (λ (n : ℕ). own_part table ++ drop n file) (sym (own_length table small t.judged))

  module _ (question : List ℕ) (short : trailer table 0 + length question + 4 ≤ 16000) where
    pub question_room : {at : ℕ} → at ≡ trailer table 0 → at + length question ≤ length file
    question_room e = omega (arith, t.long)

    pub body_fits : {at : ℕ} → at ≡ trailer table 0 → at + length question < 4294967296
    body_fits e = omega arith

    module _ {at first second mix : ℕ} (is_at : at ≡ trailer table 0) (is-first : first ≡ trailer table 0) (is-second : second ≡ trailer table 1)
        (mixes : mix ≡ mixed begun (bytes_of question)) {once : List ℕ} (copies : once ≡ behind file at question) where
      body-stands : once ≡ at_front (body_with table question) file
      body-stands =
          copies ∙ (λ i. behind (own-stands i) ((is_at ∙ sym (own_length table small t.judged)) i) question)
          ∙ more_behind (own_part table) question file

      body-long : at + length question ≡ length (body_with table question)
      body-long = omega (arith, length-append (own_part table) question, own_length table small t.judged)

      pub trailer_room : at + length question + 4 ≤ length once
      trailer_room =
          omega (arith, t.long, ap length body-stands, front_long (body_with table question) file (omega (arith, body-long, t.long)))

      module _ {twice : List ℕ} (seals : twice ≡ behind once (at + length question) (first ∷ second ∷ mix ∷ (at + length question) ∷ [])) where
        file-stands : twice ≡ at_front (file_with table question) file
        unfolding file_with
        file-stands =
            let print = goes_on (own_part table) question t.mixed mixes in
            seals ∙ (λ i. behind (body-stands i) (body-long i) (is-first i ∷ is-second i ∷ print i ∷ body-long i ∷ []))
            ∙ more_behind (body_with table question) (trailer_words (body_with table question) (trailer table 0) (trailer table 1)) file

        pub question_put : Put table question begun (at + length question + 4) twice
        unfolding file_with
        question_put =
            let whole = with_long table small t.judged question in
            let size : at + length question + 4 ≡ length (file_with table question) = omega (arith, whole) in
            let rest = question ++ (trailer_words (body_with table question) (trailer table 0) (trailer table 1) ++ drop (length (file_with table question)) file) in
            record {
              tabled = record {
                judged = t.judged;
                long = ap length file-stands ∙ front_long (file_with table question) file (omega (arith, whole, t.long)) ∙ t.long;
                stands =
                    ap (λ (ws : List ℕ). take (trailer table 0) ws)
                    (file-stands ∙ append_assoc (body_with table question) _ _ ∙ append_assoc (own_part table) question _)
                    ∙ ap (λ (n : ℕ). take n (own_part table ++ rest)) (sym (own_length table small t.judged))
                    ∙ take-append_seam (own_part table) rest;
                mixed = t.mixed;
              };
              within = omega arith;
              front =
                  (λ i. take (size i) (file-stands i)) ∙ take-append_seam (file_with table question) (drop (length (file_with table question)) file);
            }
