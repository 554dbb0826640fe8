-- The clauses of an accepted file written one after the other: one law for each outcome, with premises as the code has them.
use mathlib.Core.Path.{◌≡◌, refl, sym, ap, subst, ◌∙◌}
use mathlib.Core.Bool.{true, false}
use mathlib.Core.List.{List, [], ◌∷◌, ◌++◌, append_assoc, append-nil}
use Prim.Native.Nat.{ℕ, suc, ◌+◌, ◌-◌, ◌*◌, ◌≤◌, ◌<◌}
use native.Mathlib.Numerals.{add-one}
use native.Mathlib.Omega.{arith}
use mir.Syntax.{w32, w64}
use mir.Val.{Fits}
use lib.ListN.{length, take, drop, get_or, length-append, length-drop}
use lib.Seq.{take-append_seam}
use Rattle.words.specs.Fields.{following_of}
use Rattle.words.specs.Fingerprint.{fingerprint}
use Rattle.words.proofs.Packed.{clause_following}
use Rattle.table.specs.Syntax.{Clause, Table, all_clauses}
use Rattle.table.specs.Encode.{literals_words, clause_words, clauses_words, body_words, file_words}
use Rattle.table.specs.Decode.{clause_of}
use Rattle.table.specs.File.{table_in}
use Rattle.table.specs.Limits.{Each, ClauseWithin, FileWithin}
use Rattle.table.proofs.Accepted.{accepted}
use Rattle.table.proofs.Encoding.{clause_decoded}
use Rattle.table.proofs.FileEncoding.{body_split, file_encoded, file_within}
use Rattle.table.proofs.Building.{question_place}
use Rattle.text.specs.Put.{Put}
use Rattle.text.proofs.Putting.{Left, begin, finish, further}
use Rattle.clauselines.specs.Lines.{clause_text, axioms_text, table_text}
use Rattle.clauselines.specs.Writers.{StandAt, IsClause, Ready}
use Rattle.clauselines.proofs.Terms.{stand_front, stand_on, stand_word, stand_in}
use Rattle.clauselines.proofs.Short.{table_parts}

-- words that are a clause's
module _ (c : Clause) (h : ClauseWithin c) {own : List ℕ} (e : own ≡ clause_words c) where
  pub says_clause : clause_of own ≡ c
  says_clause = ap (λ (ws : List ℕ). clause_of ws) e ∙ clause_decoded c h

  pub is_clause : IsClause own
  is_clause = record { within = rw says_clause h; words = rw says_clause e }

-- a clause that stands at a place: its own word tells where it ends
module _ {file : List ℕ} {at : ℕ} (c : Clause) (h : ClauseWithin c) (s : StandAt file at (clause_words c)) where
  clause_in : at < length file
  unfolding clause_words
  clause_in = stand_in s

  own_length : following_of (get_or file at 0) + 1 ≡ length (clause_words c)
  unfolding clause_words
  own_length =
      let e = clause_following (length c.literals) c.variables (length (literals_words c.literals)) (omega (arith, h.few)) (omega (arith, h.variables)) (omega (arith, h.follow)) c.restricted in
      rw (stand_word s, e) (add-one (length (literals_words c.literals)))

  clause_within : at + length (clause_words c) ≤ length file
  clause_within =
      let l = ap (λ (ws : List ℕ). length ws) s.begin in
      omega (arith, clause_in, l, length-drop at file, length-append (clause_words c) s.rest)

  clause_part : (n : ℕ) → n ≡ length (clause_words c) → take n (drop at file) ≡ clause_words c
  clause_part n e = rw (e, s.begin) (take-append_seam (clause_words c) s.rest)

clause_some : (c : Clause) → 1 ≤ length (clause_words c)
unfolding clause_words
clause_some c = omega arith

-- so many clauses have been written; these are still to come before the question
pub record Walking (file : List ℕ) (question at number : ℕ) (first out : List ℕ) (end : ℕ) : Type 0 where
  pub clauses : List Clause
  pub stands : StandAt file at (clauses_words clauses ++ clause_words (table_in file).question)
  pub place : at + length (clauses_words clauses) ≡ question
  pub count : number + length clauses ≡ length (table_in file).clauses
  pub within : Each ClauseWithin clauses
  pub left : Left first 0 (table_text (table_in file)) out end (axioms_text number clauses ++ clause_text (length (table_in file).clauses) true (table_in file).question)

module _ {file : List ℕ} {question : ℕ} (r : Ready file question) where
  table_within : FileWithin (table_in file)
  table_within = file_within file r.small r.accepted

  pub file_short : length file ≤ 16000
  file_short = (accepted file r.accepted).most

  clauses_few : length (table_in file).clauses < 512
  unfolding all_clauses
  clauses_few = omega (arith, table_within.table.few, length-append (table_in file).clauses ((table_in file).question ∷ []))

  question_within : ClauseWithin (table_in file).question
  question_within = (table_parts (table_in file) table_within.table).1

  abbrev trailing : Table → List ℕ
  trailing t = length (clauses_words t.clauses) ∷ length (all_clauses t) ∷ fingerprint (body_words t) ∷ length (body_words t) ∷ []

  file_split : file ≡ clauses_words (table_in file).clauses ++ clause_words (table_in file).question ++ trailing (table_in file)
  unfolding file_words
  file_split =
      file_encoded file r.small r.accepted ∙ ap (λ (ws : List ℕ). ws ++ trailing (table_in file)) (body_split (table_in file) table_within)

  pub walk_begin : (out : List ℕ) → Walking file question 0 0 out out 0
  unfolding table_text
  walk_begin out = record {
    clauses = (table_in file).clauses;
    stands = record { rest = trailing (table_in file); begin = file_split };
    place = let z = r.asks ∙ question_place file r.small r.accepted in omega (arith, z);
    count = omega arith;
    within = (table_parts (table_in file) table_within.table).0;
    left = begin out 0 _;
  }

  module _ {at number : ℕ} {first out : List ℕ} {end : ℕ} (w : Walking file question at number first out end) where
    pub walk_size : length out ≡ length first
    walk_size = w.left.size

    -- a clause before the question
    module _ (h : at < question) where
      head : (c : Clause) × (cs : List Clause) × (w.clauses ≡ c ∷ cs) × ClauseWithin c × Each ClauseWithin cs
      unfolding clauses_words Each
      head = parts w.clauses w.place w.within
        where
          parts : (ds : List Clause) → at + length (clauses_words ds) ≡ question → Each ClauseWithin ds → (c : Clause) × (cs : List Clause) × (ds ≡ c ∷ cs) × ClauseWithin c × Each ClauseWithin cs
          parts [] e k = absurd (omega (arith, e, h))
          parts (c ∷ cs) e k = (c, cs, refl, k.0, k.1)

      both-stand : StandAt file at (clause_words head.0 ++ (clauses_words head.1 ++ clause_words (table_in file).question))
      unfolding clauses_words
      both-stand =
          let e = ap (λ (ds : List Clause). clauses_words ds ++ clause_words (table_in file).question) head.2 ∙ append_assoc (clause_words head.0) (clauses_words head.1) (clause_words (table_in file).question) in
          rw e at w.stands

      stands_here : StandAt file at (clause_words head.0)
      stands_here = stand_front (clause_words head.0) (clauses_words head.1 ++ clause_words (table_in file).question) both-stand

      pub walk_in : at < length file
      walk_in = clause_in head.0 head.3 stands_here

      walk-number : number < 512
      walk-number = let l = ap (λ (ds : List Clause). length ds) head.2 in omega (arith, l, w.count, clauses_few)

      pub walk_number_fits : Fits w32 (number + 1)
      walk_number_fits = record { fits = omega (arith, walk-number) }

      module _ {p q : ℕ} (ep : p ≡ following_of (get_or file at 0)) (eq : q ≡ p) where
        stop_is : at + (q + 1) ≡ at + length (clause_words head.0)
        stop_is = rw (eq, ep) (ap (λ (n : ℕ). at + n) (own_length head.0 head.3 stands_here))

        pub walk_stop_fits : Fits w64 (at + (q + 1))
        walk_stop_fits = record { fits = omega (arith, stop_is, file_short, clause_within head.0 head.3 stands_here) }

        pub walk_stop : at + (q + 1) ≤ length file
        walk_stop = omega (arith, stop_is, clause_within head.0 head.3 stands_here)

        part-is : take (at + (q + 1) - at) (drop at file) ≡ clause_words head.0
        part-is = clause_part head.0 head.3 stands_here (at + (q + 1) - at) (omega (arith, stop_is))

        pub walk_clause : IsClause (take (at + (q + 1) - at) (drop at file))
        walk_clause = is_clause head.0 head.3 part-is

        on : {later : List ℕ} {next : ℕ} → Put out end (clause_text number false head.0) later next
            → Left first 0 (table_text (table_in file)) later next (axioms_text (number + 1) head.1 ++ clause_text (length (table_in file).clauses) true (table_in file).question)
        unfolding axioms_text
        on put =
            let last = clause_text (length (table_in file).clauses) true (table_in file).question in
            let e = ap (λ (ds : List Clause). axioms_text number ds ++ clause_text (length (table_in file).clauses) true (table_in file).question) head.2 ∙ append_assoc (clause_text number false head.0) (axioms_text (suc number) head.1) last in
            rw add-one (further (clause_text number false head.0) (axioms_text (suc number) head.1 ++ last) (rw e at w.left) put)

        pub walk_next : {later : List ℕ} {next : ℕ} → Put out end (clause_text number false (clause_of (take (at + (q + 1) - at) (drop at file)))) later next
            → Walking file question (at + (q + 1)) (number + 1) first later next
        unfolding clauses_words
        walk_next put = record {
          clauses = head.1;
          stands = rw stop_is (stand_on (clause_words head.0) (clauses_words head.1 ++ clause_words (table_in file).question) both-stand);
          place =
              let l = ap (λ (ds : List Clause). length (clauses_words ds)) head.2 in
              omega (arith, l, stop_is, w.place, length-append (clause_words head.0) (clauses_words head.1));
          count = let l = ap (λ (ds : List Clause). length ds) head.2 in omega (arith, l, w.count);
          within = head.4;
          left = on (rw (says_clause head.0 head.3 part-is) at put);
        }

        pub walk_nearer : question - (at + (q + 1)) < question - at
        walk_nearer = omega (arith, stop_is, clause_some head.0, h)

    -- the question
    module _ (h : question ≤ at) where
      none_left : (w.clauses ≡ []) × (at ≡ question)
      unfolding clauses_words
      none_left = parts w.clauses w.place
        where
          parts : (ds : List Clause) → at + length (clauses_words ds) ≡ question → (ds ≡ []) × (at ≡ question)
          parts [] e = (refl, omega (arith, e))
          parts (c ∷ cs) e = absurd (omega (arith, e, h, clause_some c, length-append (clause_words c) (clauses_words cs)))

      question_stands : StandAt file question (clause_words (table_in file).question)
      unfolding clauses_words
      question_stands =
          let e = ap (λ (ds : List Clause). clauses_words ds ++ clause_words (table_in file).question) none_left.0 in
          subst (λ (n : ℕ). StandAt file n (clause_words (table_in file).question)) none_left.1 (rw e at w.stands)

      question-ends : question + length (clause_words (table_in file).question) + 4 ≡ length file
      question-ends =
          let t = table_in file in
          let l = ap (λ (ws : List ℕ). length ws) file_split in
          let z = r.asks ∙ question_place file r.small r.accepted in
          omega (
            arith,
            l,
            z,
            length-append (clauses_words t.clauses ++ clause_words t.question) (trailing t),
            length-append (clauses_words t.clauses) (clause_words t.question),
          )

      pub last_trailer : 4 ≤ length file
      last_trailer = omega (arith, question-ends)

      pub last_scaled : Fits w64 (question * 4)
      last_scaled = record { fits = omega (arith, question-ends, file_short) }

      pub last_begin : question ≤ length file - 4
      last_begin = omega (arith, question-ends)

      last-part : take (length file - 4 - question) (drop question file) ≡ clause_words (table_in file).question
      last-part = clause_part (table_in file).question question_within question_stands (length file - 4 - question) (omega (arith, question-ends))

      pub last_clause : IsClause (take (length file - 4 - question) (drop question file))
      last_clause = is_clause (table_in file).question question_within last-part

      pub last_written : {later : List ℕ} {next : ℕ} → Put out end (clause_text number true (clause_of (take (length file - 4 - question) (drop question file)))) later next
          → Put first 0 (table_text (table_in file)) later next
      unfolding axioms_text
      last_written p =
          let said = says_clause (table_in file).question question_within last-part in
          let many : number ≡ length (table_in file).clauses =
          let l = ap (λ (ds : List Clause). length ds) none_left.0 in omega (arith, l, w.count) in
          let q = clause_text (length (table_in file).clauses) true (table_in file).question in
          let o : Left first 0 (table_text (table_in file)) out end (clause_text (length (table_in file).clauses) true (table_in file).question ++ []) =
          rw (none_left.0, sym (append-nil q)) at w.left in
          finish (further q [] o (rw (many, said) at p))

pub ruleset walk_laws = (file_short, walk_begin, walk_size, walk_in, walk_stop_fits, walk_number_fits, walk_stop, walk_clause, walk_next, walk_nearer, last_trailer, last_scaled, last_begin, last_clause, last_written)
