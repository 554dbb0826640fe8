-- A question in the place of a table's own: the file is accepted exactly where the question, alone in a file, is, and the whole is not too long.
-- So the table's own part is judged once.
use mathlib.Core.Bool.{Bool, true, false}
use mathlib.Core.List.{List, [], ◌∷◌, ◌++◌}
use mathlib.Core.Path.{◌≡◌, sym, ap, ◌∙◌}
use Prim.Native.Nat.{ℕ, ◌+◌, ◌-◌, ◌^◌, ◌≤◌, ◌<◌}
use native.Mathlib.Decide.{ℕ_discrete}
use native.Mathlib.Omega.{arith}
use borrow.Author.Tests.{eq-eqb, ne_eqb, le-leb, lt-leb}
use lib.Dec.{eqb}
use lib.Bits.{bit_xor}
use lib.ListN.{length, take, drop, length-append}
use lib.Seq.{take-append_seam, drop-append_seam, get_or-append-add}
use Rattle.words.specs.Fingerprint.{product, mixed, fnv, bytes_of, fingerprint}
use Rattle.table.specs.Build.{trailer_words}
use Rattle.table.specs.Encode.{clause_words, clauses_words, body_words, file_words}
use Rattle.table.specs.File.{body_of, table_in, trailer, judge}
use Rattle.table.specs.Limits.{Each, ClauseWithin, FileWithin, Words}
use Rattle.table.specs.Syntax.{Clause, Table, all_clauses}
use Rattle.table.specs.declared.Judgement.{Judgement}
use Rattle.table.proofs.Accepted.{accepted}
use Rattle.table.proofs.AcceptedTable.{accepted_count}
use Rattle.table.proofs.BodyDecoding.{each_take}
use Rattle.table.proofs.Building.{clauses_snoc, question_place, words_before_question, words_of_question}
use Rattle.table.proofs.Encoding.{each_append}
use Rattle.table.proofs.FileEncoding.{file_accepted, file_decoded, file_within}
use Rattle.season.specs.Season.{own_part, body_with, file_with}
use Rattle.season.specs.Asking.{alone, admits}

-- a clause that can be a question
pub record Asks (question : List ℕ) : Type 0 where
  pub clause : Clause
  pub words : question ≡ clause_words clause
  pub within : ClauseWithin clause
  pub negative : Each (λ l. l.negative ≡ true) clause.literals
  pub unmarked : clause.restricted ≡ false

pub asks_short : {question : List ℕ} → Asks question → length question ≤ 256
unfolding clause_words
asks_short q = omega (arith, ap length q.words, q.within.follow)

-- the clauses before the question, and the question
abbrev table_with : List Clause → Clause → Table
table_with cs q = record { clauses = cs; question = q }

each_last : {A : Type 0} (P : A → Type 0) (xs : List A) (y : A) → Each P (xs ++ (y ∷ [])) → P y
unfolding Each
each_last P [] y h = h.0
each_last P (x ∷ xs) y h = each_last P xs y h.1

module _ (cs : List Clause) (q : Clause) where
  body_split : body_words (table_with cs q) ≡ clauses_words cs ++ clause_words q
  unfolding body_words all_clauses
  body_split = clauses_snoc cs q

  file_split : file_words (table_with cs q)
      ≡ (clauses_words cs ++ clause_words q) ++ trailer_words (clauses_words cs ++ clause_words q) (length (clauses_words cs)) (length (all_clauses (table_with cs q)))
  unfolding file_words
  file_split =
      ap (λ (ws : List ℕ). ws ++ trailer_words ws (length (clauses_words cs)) (length (all_clauses (table_with cs q)))) body_split

  together : Each ClauseWithin cs → length cs ≤ 511 → ClauseWithin q → Each (λ l. l.negative ≡ true) q.literals → q.restricted ≡ false
      → length (clauses_words cs) + length (clause_words q) + 4 ≤ 16000 → FileWithin (table_with cs q)
  unfolding all_clauses Each
  together each few one negative unmarked short =
      record {
        table = record {
          few = omega (arith, length-append cs (q ∷ []));
          clauses = each_append ClauseWithin cs (q ∷ []) each (one, tt);
        };
        question = negative;
        unmarked = unmarked;
        short = omega (arith, ap length body_split, length-append (clauses_words cs) (clause_words q));
      }

-- an accepted file's question
module _ (file : List ℕ) (small : Words file) (z : (judge file).status ≡ 0) where
  question-asks : {question : List ℕ} → drop (trailer file 0) (body_of file) ≡ question → Asks question
  unfolding all_clauses
  question-asks e =
      record {
        clause = (table_in file).question;
        words = sym e ∙ ap (λ (n : ℕ). drop n (body_of file)) (sym (accepted file z).question) ∙ words_of_question file small z;
        within = each_last ClauseWithin (table_in file).clauses (table_in file).question (file_within file small z).table.clauses;
        negative = (file_within file small z).question;
        unmarked = (file_within file small z).unmarked;
      }

-- the fingerprint is a word
mixed_small : (h : ℕ) (bs : List ℕ) → h < 2 ^ 32 → mixed h bs < 2 ^ 32
unfolding mixed product
mixed_small h [] l = l
mixed_small h (b ∷ bs) l = mixed_small (product (bit_xor h b)) bs (omega arith)

fingerprint_small : (ws : List ℕ) → fingerprint ws < 2 ^ 32
unfolding fnv
fingerprint_small ws = mixed_small 0x811C9DC5 (bytes_of ws) (omega arith)

-- a body and four words behind it
module _ (body : List ℕ) (question clauses : ℕ) where
  made : List ℕ
  made = body ++ trailer_words body question clauses

  made-long : length made ≡ length body + 4
  unfolding made
  made-long = length-append body (trailer_words body question clauses)

  made-body : body_of made ≡ body
  unfolding made
  made-body =
      let z : length made - 4 ≡ length body = omega (arith, made-long) in rw z (take-append_seam body (trailer_words body question clauses))

  made-first : trailer made 0 ≡ question
  unfolding made
  made-first =
      let z : length made - 4 ≡ length body = omega (arith, made-long) in
      rw z (get_or-append-add body (trailer_words body question clauses) 0 0)

  made-words : Words body → length body < 2 ^ 32 → question < 2 ^ 32 → clauses < 2 ^ 32 → Words made
  unfolding made Each
  made-words b l q c =
      each_append (λ (w : ℕ). w < 2 ^ 32) body (trailer_words body question clauses) b (q, (c, (fingerprint_small body, (l, tt))))

-- alone in a file
module _ (question : List ℕ) where
  pub alone_accepted : Asks question → (judge (alone question)).status ≡ 0
  unfolding all_clauses clauses_words Each
  alone_accepted q =
      let c = q.clause in
      let fits = together [] c tt (omega arith) q.within q.negative q.unmarked (omega (arith, asks_short q, ap length q.words)) in
      ap (λ (ws : List ℕ). (judge (alone ws)).status) q.words
      ∙ ap (λ (ws : List ℕ). (judge ws).status) (sym (file_split [] c))
      ∙ ap (λ (j : Judgement). j.status) (file_accepted (table_with [] c) fits)

  pub alone_asks : Words question → length question ≤ 256 → (judge (alone question)).status ≡ 0 → Asks question
  unfolding made
  alone_asks small few z =
      question-asks (alone question) (made-words question 0 1 small (omega arith) (omega arith) (omega arith)) z
      (ap (λ (n : ℕ). drop n (body_of (alone question))) (made-first question 0 1) ∙ made-body question 0 1)

-- in the place of a table's own question
module _ (table : List ℕ) (small : Words table) (z : (judge table).status ≡ 0) where
  pub own_words_lem : own_part table ≡ clauses_words (table_in table).clauses
  own_words_lem = ap (λ (n : ℕ). take n table) (sym (accepted table z).question) ∙ words_before_question table small z

  pub own_length : length (own_part table) ≡ trailer table 0
  own_length = ap length own_words_lem ∙ sym (question_place table small z) ∙ (accepted table z).question

  clauses-number : trailer table 1 ≡ length (table_in table).clauses + 1
  unfolding all_clauses
  clauses-number =
      sym (accepted table z).clauses ∙ sym (accepted_count table z) ∙ length-append (table_in table).clauses ((table_in table).question ∷ [])

  clauses_within : Each ClauseWithin (table_in table).clauses
  unfolding all_clauses
  clauses_within =
      let all = (file_within table small z).table.clauses in
      rw (take-append_seam (table_in table).clauses ((table_in table).question ∷ [])) at
      (each_take ClauseWithin (length (table_in table).clauses) ((table_in table).clauses ++ ((table_in table).question ∷ [])) all)

  pub question_low : trailer table 0 ≤ 16000
  question_low = omega (arith, (accepted table z).right.below, (accepted table z).right.whole, (accepted table z).most)

  pub clauses_low : trailer table 1 ≤ 512
  clauses_low = (accepted table z).right.few

  module _ (question : List ℕ) where
    module _ (q : Asks question) (short : trailer table 0 + length question + 4 ≤ 16000) where
      with-file : file_with table question ≡ file_words (table_with (table_in table).clauses q.clause)
      unfolding file_with all_clauses
      with-file =
          let cs = (table_in table).clauses in
          let body : body_with table question ≡ clauses_words (table_in table).clauses ++ clause_words q.clause =
          ap (λ (ws : List ℕ). ws ++ question) own_words_lem ∙ ap (λ (ws : List ℕ). clauses_words cs ++ ws) q.words in
          let first : trailer table 0 ≡ length (clauses_words (table_in table).clauses) = sym own_length ∙ ap length own_words_lem in
          let second : trailer table 1 ≡ length ((table_in table).clauses ++ (q.clause ∷ [])) =
          clauses-number ∙ sym (length-append (table_in table).clauses (q.clause ∷ [])) in
          (λ i. body i ++ trailer_words (body i) (first i) (second i)) ∙ sym (file_split cs q.clause)

      with-within : FileWithin (table_with (table_in table).clauses q.clause)
      with-within =
          together (table_in table).clauses q.clause clauses_within (omega (arith, clauses-number, clauses_low)) q.within q.negative q.unmarked
          (omega (arith, short, ap length q.words, ap length own_words_lem, own_length))

      pub with_accepted : (judge (file_with table question)).status ≡ 0
      with_accepted =
          ap (λ (ws : List ℕ). (judge ws).status) with-file ∙ ap (λ (j : Judgement). j.status) (file_accepted _ with-within)

      pub with_question_lem : (judge (file_with table question)).question ≡ trailer table 0
      with_question_lem =
          ap (λ (ws : List ℕ). (judge ws).question) with-file ∙ ap (λ (j : Judgement). j.question) (file_accepted _ with-within)
          ∙ sym (ap length own_words_lem) ∙ own_length

      pub with_table_lem : table_in (file_with table question) ≡ table_with (table_in table).clauses q.clause
      with_table_lem = ap (λ (ws : List ℕ). table_in ws) with-file ∙ file_decoded _ with-within.table

    pub with_long : length (file_with table question) ≡ trailer table 0 + length question + 4
    unfolding file_with made
    with_long =
        omega (arith, made-long (body_with table question) (trailer table 0) (trailer table 1), length-append (own_part table) question, own_length)

    module _ (few : Words question) (accepts : (judge (file_with table question)).status ≡ 0) where
      pub with_short : trailer table 0 + length question + 4 ≤ 16000
      with_short = omega (arith, (accepted (file_with table question) accepts).most, with_long)

      pub with_asks : Asks question
      unfolding file_with made
      with_asks =
          let body = body_with table question in
          let q = trailer table 0 in
          let n = trailer table 1 in
          let words = each_append (λ (w : ℕ). w < 2 ^ 32) (own_part table) question (each_take (λ (w : ℕ). w < 2 ^ 32) (trailer table 0) table small) few in
          let l : length (body_with table question) < 2 ^ 32 = omega (arith, with_short, length-append (own_part table) question, own_length) in
          question-asks (made body q n) (made-words body q n words l (omega (arith, question_low)) (omega (arith, clauses_low))) accepts
          (ap (λ (k : ℕ). drop k (body_of (made body q n))) (made-first body q n) ∙ ap (λ (ws : List ℕ). drop q ws) (made-body body q n)
          ∙ ap (λ (k : ℕ). drop k body) (sym own_length) ∙ drop-append_seam (own_part table) question)

  -- what `admits` finds
  module _ (question : List ℕ) (bound : ℕ) where
    pub high_bound : 32 < bound → false ≡ admits table question bound
    unfolding admits
    high_bound h = rw (lt-leb bound 32 h)

    refuses : bound ≤ 32 → ((judge (file_with table question)).status ≡ 0 → ⊥) → false ≡ admits table question bound
    unfolding admits
    refuses l n = rw (le-leb bound 32 l, ne_eqb (judge (file_with table question)).status 0 n)

    accepts-it : bound ≤ 32 → (judge (file_with table question)).status ≡ 0 → true ≡ admits table question bound
    unfolding admits
    accepts-it l e = rw (le-leb bound 32 l, eq-eqb (judge (file_with table question)).status 0 e)

    module _ (few : Words question) (low : bound ≤ 32) where
      pub long_question : 256 < length question → false ≡ admits table question bound
      long_question h = refuses low (λ e. omega (arith, asks_short (with_asks question few e)))

      pub long_file : 16000 < trailer table 0 + length question + 4 → false ≡ admits table question bound
      long_file h = refuses low (λ e. omega (arith, with_short question few e))

      pub as_alone : length question ≤ 256 → trailer table 0 + length question + 4 ≤ 16000 → {r : Bool}
          → r ≡ eqb (judge (alone question)).status 0 → r ≡ admits table question bound
      as_alone l short e = e ∙ go (ℕ_discrete (judge (alone question)).status 0)
        where
          go : Dec ((judge (alone question)).status ≡ 0) → eqb (judge (alone question)).status 0 ≡ admits table question bound
          go (yes a) = eq-eqb (judge (alone question)).status 0 a ∙ accepts-it low (with_accepted question (alone_asks question few l a) short)
          go (no n) = ne_eqb (judge (alone question)).status 0 n ∙ refuses low (λ a. n (alone_accepted question (with_asks question few a)))
