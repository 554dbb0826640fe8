-- The file of a table that a file can hold is accepted, and an accepted file is the file of its table.
use mathlib.Core.Path.{◌≡◌, refl, sym, ap, ◌∙◌}
use mathlib.Core.Bool.{true, false}
use mathlib.Core.List.{List, [], ◌∷◌, ◌++◌, append_assoc, append-nil}
use mathlib.Core.Option.{none}
use Prim.Native.Nat.{ℕ, ◌+◌, ◌-◌, ◌^◌, ◌≤◌, ◌<◌}
use native.Mathlib.Nat.{add-zero, zero-add}
use native.Mathlib.Omega.{arith}
use lib.ListN.{length, drop, get_or, length-append, length-drop, take-append-drop, get_or-append}
use lib.Seq.{take-append_seam, drop-append_seam, get_or-append_seam, get_or-append-add, get_or-drop}
use borrow.Author.Tests.{eq-eqb, ne_eqb, le-leb, lt-ltb}
use Rattle.words.specs.Fields.{kind_of, restricted_of, variable_word, function_word, literal_word, clause_word}
use Rattle.words.specs.Fingerprint.{fingerprint}
use Rattle.words.proofs.Packed.{variable_kind, function_kind, literal_kind, literal_negative, clause_kind, clause_restricted}
use Rattle.table.specs.Syntax.{Term, var, app, Terms, nil, ◌then◌, arity, Literal, Clause, Table, all_clauses}
use Rattle.table.specs.Encode.{term_words, terms_words, literal_words, literals_words, clause_words, clauses_words, body_words, file_words}
use Rattle.table.specs.Body.{body_fault, starts, last_of, positive, any_positive}
use Rattle.table.specs.File.{body_of, trailer, size_fits, trailer_fits, fingerprint_fits, clauses_fit, question_words, question_restricted, judge_read, judge_body, judge}
use Rattle.table.specs.Decode.{table_of}
use Rattle.table.specs.Limits.{TermWithin, TermsWithin, LiteralWithin, Each, ClauseWithin, Within, FileWithin, Words}
use Rattle.table.proofs.Encoding.{clause_starts, words_some, table_count, table_some, table_readable, table_decoded}
use Rattle.table.proofs.Files.{body_length}
use Rattle.table.proofs.Accepted.{accepted}
use Rattle.table.proofs.BodyDecoding.{table_encoded}
use Rattle.table.proofs.AcceptedTable.{body_readable, body_words_lem, accepted_within, accepted_count, question_negative, question_unmarked}

-- a word that is no literal is not positive, and neither is a negative literal
other_positive : (w : ℕ) → (kind_of w ≡ 2 → ⊥) → positive w ≡ false
other_positive w n = rw (ne_eqb (kind_of w) 2 n)

mutual
  unfolding term_words TermWithin any_positive

  term_negative : (x : Term ℕ) (v : ℕ) (ws : List ℕ) → v ≤ 16 → TermWithin x v → any_positive (term_words x ++ ws) ≡ any_positive ws
  term_negative (var x) v ws few h =
      let small : x < 2 ^ 10 = omega arith in
      rw (other_positive (variable_word x) (λ e. omega (arith, variable_kind x small)))
  term_negative (app f ts) v ws few h =
      let small : arity ts < 2 ^ 3 = omega (arith, h.1) in
      rw (other_positive (function_word f (arity ts)) (λ e. omega (arith, function_kind f (arity ts) h.0 small))) (terms_negative ts v ws few h.2)

  terms_negative : (ts : Terms ℕ) (v : ℕ) (ws : List ℕ) → v ≤ 16 → TermsWithin ts v → any_positive (terms_words ts ++ ws) ≡ any_positive ws
  terms_negative nil v ws few h = refl
  terms_negative (x then ts) v ws few h =
      ap (λ (us : List ℕ). any_positive us) (append_assoc (term_words x) (terms_words ts) ws)
      ∙ term_negative x v (terms_words ts ++ ws) few h.0
      ∙ terms_negative ts v ws few h.1

literals_not_positive : (v : ℕ) (ls : List (Literal ℕ)) → v ≤ 16 → Each (LiteralWithin v) ls → Each (λ l. l.negative ≡ true) ls → any_positive (literals_words ls) ≡ false
unfolding literals_words literal_words any_positive Each
literals_not_positive v [] few h n = refl
literals_not_positive v (l ∷ ls) few h n =
    let a = arity l.arguments in
    let small : arity l.arguments < 2 ^ 3 = omega (arith, h.0.arity) in
    let negative = literal_negative l.predicate a h.0.predicate small l.negative ∙ n.0 in
    let kind = literal_kind l.predicate a h.0.predicate small l.negative in
    rw (eq-eqb (kind_of (literal_word l.negative l.predicate a)) 2 kind, negative, terms_negative l.arguments v (literals_words ls) few h.0.arguments) (literals_not_positive v ls few h.1 n.1)

clause_not_positive : (c : Clause) → ClauseWithin c → Each (λ l. l.negative ≡ true) c.literals → any_positive (clause_words c) ≡ false
unfolding clause_words any_positive
clause_not_positive c h n =
    let word = clause_word c.restricted (length c.literals) c.variables (length (literals_words c.literals)) in
    let kind : kind_of word ≡ 3 =
    clause_kind (length c.literals) c.variables (length (literals_words c.literals)) (omega (arith, h.few)) (omega (arith, h.variables)) (omega (arith, h.follow)) c.restricted
    in
    rw (other_positive word (λ e. omega arith)) (literals_not_positive c.variables c.literals h.variables h.literals n)

-- the last clause begins after the words of the others, and its words are the last
pub clauses_append : (cs ds : List Clause) → clauses_words (cs ++ ds) ≡ clauses_words cs ++ clauses_words ds
unfolding clauses_words
clauses_append [] ds = refl
clauses_append (c ∷ cs) ds = rw (append_assoc (clause_words c) (clauses_words cs) (clauses_words ds), ← clauses_append cs ds)

last_start : (cs : List Clause) (q : Clause) (at other : ℕ) → Each ClauseWithin (cs ++ (q ∷ [])) → last_of other (starts at 0 (clauses_words (cs ++ (q ∷ [])))) ≡ at + length (clauses_words cs)
unfolding clauses_words Each last_of starts
last_start [] q at other h = rw (clause_starts q h.0 at [], add-zero)
last_start (c ∷ cs) q at other h =
    let z : at + length (clause_words c) + length (clauses_words cs) ≡ at + length (clause_words c ++ clauses_words cs) =
    omega (arith, length-append (clause_words c) (clauses_words cs))
    in
    rw (clause_starts c h.0 at (clauses_words (cs ++ (q ∷ [])))) (last_start cs q (at + length (clause_words c)) at h.1 ∙ z)

each_last : {A : Type 0} (P : A → Type 0) (xs : List A) (y : A) → Each P (xs ++ (y ∷ [])) → P y
unfolding Each
each_last P [] y h = h.0
each_last P (x ∷ xs) y h = each_last P xs y h.1

-- a file made of a body and four words
module _ (body : List ℕ) (a b c d : ℕ) where
  made : List ℕ
  made = body ++ (a ∷ b ∷ c ∷ d ∷ [])

  made-length : length made ≡ length body + 4
  unfolding made
  made-length = length-append body (a ∷ b ∷ c ∷ d ∷ [])

  made-body : body_of made ≡ body
  unfolding made
  made-body =
      let z : length made - 4 ≡ length body = omega (arith, made-length) in
      rw z (take-append_seam body (a ∷ b ∷ c ∷ d ∷ []))

  made-trailer : (k : ℕ) → trailer made k ≡ get_or (a ∷ b ∷ c ∷ d ∷ []) k 0
  unfolding made
  made-trailer k =
      let z : length made - 4 ≡ length body = omega (arith, made-length) in
      rw z (get_or-append-add body (a ∷ b ∷ c ∷ d ∷ []) k 0)

  module _ (least : 6 ≤ length body + 4) (most : length body + 4 ≤ 16000) (whole : d ≡ length body) (some : 1 ≤ b) (few : b ≤ 512) (below : a < d) (print : fingerprint body ≡ c) (sound : body_fault 0 0 body ≡ none) (count : length (starts 0 0 body) ≡ b) (last : last_of 0 (starts 0 0 body) ≡ a) (negative : any_positive (drop a body) ≡ false) (unmarked : restricted_of (get_or body a 0) ≡ false) where
    made-sized : size_fits made ≡ true
    unfolding size_fits
    made-sized =
        rw (le-leb 6 (length made) (omega (arith, made-length)), le-leb (length made) 16000 (omega (arith, made-length)))

    made-trailed : trailer_fits made ≡ true
    unfolding trailer_fits
    made-trailed =
        let z : d ≡ length made - 4 = omega (arith, made-length) in
        rw (made-trailer 3, made-trailer 1, made-trailer 0, eq-eqb d (length made - 4) z, le-leb 1 b some, le-leb b 512 few, lt-ltb a d below)

    made-printed : fingerprint_fits made ≡ true
    unfolding fingerprint_fits
    made-printed = rw (made-body, made-trailer 2, eq-eqb (fingerprint body) c print)

    made_counted : clauses_fit made ≡ true
    unfolding clauses_fit
    made_counted =
        rw (made-body, made-trailer 1, made-trailer 0, eq-eqb (length (starts 0 0 body)) b count, eq-eqb (last_of 0 (starts 0 0 body)) a last)

    made-asked : any_positive (question_words made) ≡ false
    made-asked = rw (made-trailer 0, made-body) negative

    made-unmarked : question_restricted made ≡ false
    unfolding made
    made-unmarked =
        rw (made-trailer 0, get_or-append body (a ∷ b ∷ c ∷ d ∷ []) 0 a (omega arith)) unmarked

    made-judged : judge made ≡ record { status = 0; place = 0; clauses = b; question = a }
    unfolding judge judge_body judge_read
    made-judged =
        let faultless : body_fault 0 0 (body_of made) ≡ none = rw made-body sound in
        rw (made-sized, made-trailed, made-printed, faultless, made_counted, made-asked, made-unmarked, made-trailer 1, made-trailer 0)

-- the file of a table
module _ (t : Table) (h : FileWithin t) where
  begins : last_of 0 (starts 0 0 (body_words t)) ≡ length (clauses_words t.clauses)
  unfolding body_words all_clauses
  begins = last_start t.clauses t.question 0 0 h.table.clauses ∙ zero-add _

  asks : ClauseWithin t.question
  unfolding all_clauses
  asks = each_last ClauseWithin t.clauses t.question h.table.clauses

  pub body_split : body_words t ≡ clauses_words t.clauses ++ clause_words t.question
  unfolding body_words all_clauses clauses_words
  body_split =
      clauses_append t.clauses (t.question ∷ [])
      ∙ ap (λ (us : List ℕ). clauses_words t.clauses ++ us) (append-nil (clause_words t.question))

  question-long : 2 ≤ length (clause_words t.question)
  unfolding clause_words
  question-long = omega (arith, words_some t.question.literals asks.some)

  body-long : length (body_words t) ≡ length (clauses_words t.clauses) + length (clause_words t.question)
  body-long =
      ap (λ (us : List ℕ). length us) body_split ∙ length-append (clauses_words t.clauses) (clause_words t.question)

  question_mark : restricted_of (get_or (body_words t) (length (clauses_words t.clauses)) 0) ≡ false
  unfolding clause_words
  question_mark =
      let q = t.question in
      rw (body_split, get_or-append_seam (clauses_words t.clauses) _ _ 0)
      (clause_restricted (length q.literals) q.variables (length (literals_words q.literals)) (omega (arith, asks.few)) (omega (arith, asks.variables)) (omega (arith, asks.follow)) q.restricted ∙ h.unmarked)

  pub file_accepted : judge (file_words t) ≡ record { status = 0; place = 0; clauses = length (all_clauses t); question = length (clauses_words t.clauses) }
  unfolding file_words made
  file_accepted =
      made-judged (body_words t) (length (clauses_words t.clauses)) (length (all_clauses t)) (fingerprint (body_words t)) (length (body_words t))
      (omega (arith, body-long, question-long))
      h.short
      refl
      (table_some t h.table)
      h.table.few
      (omega (arith, body-long, question-long))
      refl
      (table_readable t h.table).sound
      (table_count t h.table)
      begins
      (rw (body_split, drop-append_seam (clauses_words t.clauses) (clause_words t.question)) (clause_not_positive t.question asks h.question))
      question_mark

-- an accepted file is the file of its table
four : (xs : List ℕ) → length xs ≡ 4 → xs ≡ get_or xs 0 0 ∷ get_or xs 1 0 ∷ get_or xs 2 0 ∷ get_or xs 3 0 ∷ []
four [] e = absurd (omega arith)
four (a ∷ []) e = absurd (omega arith)
four (a ∷ b ∷ []) e = absurd (omega arith)
four (a ∷ b ∷ c ∷ []) e = absurd (omega arith)
four (a ∷ b ∷ c ∷ d ∷ []) e = refl
four (a ∷ b ∷ c ∷ d ∷ x ∷ xs) e = absurd (omega arith)

file_parts : (file : List ℕ) → 4 ≤ length file → file ≡ body_of file ++ (trailer file 0 ∷ trailer file 1 ∷ trailer file 2 ∷ trailer file 3 ∷ [])
file_parts file h =
    let n = length file - 4 in
    let last : length (drop (length file - 4) file) ≡ 4 = rw length-drop (omega arith) in
    sym (take-append-drop (length file - 4) file)
    ∙ ap (λ (us : List ℕ). body_of file ++ us) (four (drop (length file - 4) file) last ∙ rw (get_or-drop n file 0 0, get_or-drop n file 1 0, get_or-drop n file 2 0, get_or-drop n file 3 0))

module _ (file : List ℕ) (small : Words file) (z : (judge file).status ≡ 0) where
  encoded : body_words (table_of (body_of file)) ≡ body_of file
  encoded = table_encoded (body_of file) (body_readable file z) (body_words_lem file z small)

  pub file_within : FileWithin (table_of (body_of file))
  file_within = record {
    table = accepted_within file z;
    question = question_negative file z;
    unmarked = question_unmarked file z;
    short = omega (arith, ap (λ (us : List ℕ). length us) encoded, body_length file, (accepted file z).least, (accepted file z).most);
  }

  pub file_encoded : file ≡ file_words (table_of (body_of file))
  unfolding file_words
  file_encoded =
      let a = accepted file z in
      let first = sym a.last ∙ ap (λ (us : List ℕ). last_of 0 (starts 0 0 us)) (sym encoded) ∙ begins (table_of (body_of file)) file_within in
      let second = sym a.clauses ∙ sym (accepted_count file z) in
      let third = sym a.fingerprints ∙ ap (λ (us : List ℕ). fingerprint us) (sym encoded) in
      let fourth = a.right.whole ∙ body_length file ∙ ap (λ (us : List ℕ). length us) (sym encoded) in
      file_parts file (omega (arith, a.least))
      ∙ (λ i. sym encoded i ++ (first i ∷ second i ∷ third i ∷ fourth i ∷ []))

-- the table of a table's file is that table
pub file_decoded : (t : Table) → Within t → table_of (body_of (file_words t)) ≡ t
unfolding file_words made
file_decoded t h = ap (λ (us : List ℕ). table_of us) (made-body (body_words t) _ _ _ _) ∙ table_decoded t h
