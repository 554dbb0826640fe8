-- The clauses that steps copy, listed: their numbers and clauses, each at its place in the table of the listed.
use borrow.Author.Tests.{eqb-true, eq-eqb}
use lib.Dec.{eqb}
use lib.ListN.{length, take, get_elem?, length-append, length-map}
use lib.Seq.{take_all}
use mathlib.Core.Bool.{Bool, true, false, cond}
use mathlib.Core.List.{List, [], ◌∷◌, ◌++◌, map, append-nil}
use mathlib.Core.Option.{some}
use mathlib.Core.Path.{◌≡◌, refl, sym, ap, ◌∙◌, subst}
use native.Mathlib.Decide.{dec_lt}
use native.Mathlib.Omega.{arith}
use Prim.Native.Nat.{ℕ, zero, suc, ◌+◌, ◌≤◌, ◌<◌}
use Rattle.words.specs.declared.Step.{Step}
use Rattle.words.specs.declared.Step.TheVariants.{Reduction, Extension, Restart, Malformed}
use Rattle.table.specs.Encode.{clause_words, clauses_words, body_words}
use Rattle.table.specs.Limits.{Each, ClauseWithin, Within, FileWithin}
use Rattle.table.specs.Syntax.{Clause, Table, all_clauses}
use Rattle.table.proofs.Encoding.{each_append}
use Rattle.table.proofs.FileEncoding.{clauses_append}
use Rattle.rules.specs.Locality.{SameClauseAt, SameCopied}
use Rattle.rules.specs.System.{◌∈◌, first, later}
use Rattle.rules.proofs.Lists.{some_last}
use Rattle.listing.specs.Behind.{copied_by, Listed, if_copied, copied_from, copied, listed_table, listed_number}

each_left : (xs ys : List Clause) → Each ClauseWithin (xs ++ ys) → Each ClauseWithin xs
unfolding Each
each_left [] ys h = tt
each_left (x ∷ xs) ys h = (h.0, each_left xs ys h.1)

each_right : (xs ys : List Clause) → Each ClauseWithin (xs ++ ys) → Each ClauseWithin ys
unfolding Each
each_right [] ys h = h
each_right (x ∷ xs) ys h = each_right xs ys h.1

body_many : (t : Table) → length (body_words t) ≡ length (clauses_words t.clauses) + length (clause_words t.question)
unfolding body_words all_clauses clauses_words
body_many t =
    ap (λ (ws : List ℕ). length ws) (clauses_append t.clauses (t.question ∷ []) ∙ ap (λ (ws : List ℕ). clauses_words t.clauses ++ ws) (append-nil (clause_words t.question)))
    ∙ length-append (clauses_words t.clauses) (clause_words t.question)

-- a step that copies a clause counts
pub copied_some : (number literal : ℕ) (steps : List Step) → Extension number literal ∈ steps → 1 ≤ copied_by steps number
unfolding copied_by
copied_some number literal (Extension clause other ∷ steps) first = rw (eq-eqb number number refl) (omega arith)
copied_some number literal (Extension clause other ∷ steps) (later m) = go (eqb clause number) (copied_some number literal steps m)
  where
    go : (b : Bool) → 1 ≤ copied_by steps number → 1 ≤ cond b (suc (copied_by steps number)) (copied_by steps number)
    go true h = omega arith
    go false h = h
copied_some number literal (Reduction height ∷ steps) (later m) = copied_some number literal steps m
copied_some number literal (Restart ∷ steps) (later m) = copied_some number literal steps m
copied_some number literal (Malformed ∷ steps) (later m) = copied_some number literal steps m
copied_some number literal [] m = elim m [ ]

-- and where the count is not zero there is one
pub some_copied : (number : ℕ) (steps : List Step) → 1 ≤ copied_by steps number → (literal : ℕ) × (Extension number literal ∈ steps)
unfolding copied_by
some_copied number [] h = absurd (omega arith)
some_copied number (Extension clause literal ∷ steps) h = go (eqb clause number) refl (λ k. some_copied number steps k) h
  where
    go : (b : Bool) → eqb clause number ≡ b → (1 ≤ copied_by steps number → (other : ℕ) × (Extension number other ∈ steps))
        → 1 ≤ cond b (suc (copied_by steps number)) (copied_by steps number)
        → (other : ℕ) × (Extension number other ∈ (Extension clause literal ∷ steps))
    go true e f k = (literal, subst (λ (n : ℕ). Extension n literal ∈ (Extension clause literal ∷ steps)) (eqb-true clause number e) first)
    go false e f k = let r = f k in (r.0, later r.1)
some_copied number (Reduction height ∷ steps) h = let r = some_copied number steps h in (r.0, later r.1)
some_copied number (Restart ∷ steps) h = let r = some_copied number steps h in (r.0, later r.1)
some_copied number (Malformed ∷ steps) h = let r = some_copied number steps h in (r.0, later r.1)

abbrev clauses_in : List Listed → List Clause
clauses_in ls = map (λ l. l.clause) ls

module _ (copies : ℕ → ℕ) where
  -- a clause with copies stands where so many are listed before it
  placed : (number i : ℕ) (cs : List Clause) (last : Clause) → i < length cs → 1 ≤ copies (number + i)
      → get_elem? (cs ++ (last ∷ [])) i ≡ get_elem? (clauses_in (copied_from copies number cs) ++ (last ∷ [])) (length (copied_from copies number (take i cs)))
  unfolding copied_from if_copied
  placed number i [] last h k = absurd (omega arith)
  placed number zero (c ∷ cs) last h k = here (copies number) (subst (λ (n : ℕ). 1 ≤ copies n) (omega arith) k)
    where
      here : (n : ℕ) → 1 ≤ n → some c ≡ get_elem? (clauses_in (if_copied number n c (copied_from copies (suc number) cs)) ++ (last ∷ [])) 0
      here zero l = absurd (omega arith)
      here (suc n) l = refl
  placed number (suc i) (c ∷ cs) last h k = there (copies number) (placed (suc number) i cs last (omega arith) (subst (λ (n : ℕ). 1 ≤ copies n) (omega arith) k))
    where
      there : (n : ℕ) → get_elem? (cs ++ (last ∷ [])) i ≡ get_elem? (clauses_in (copied_from copies (suc number) cs) ++ (last ∷ [])) (length (copied_from copies (suc number) (take i cs)))
          → get_elem? (cs ++ (last ∷ [])) i
          ≡ get_elem? (clauses_in (if_copied number n c (copied_from copies (suc number) cs)) ++ (last ∷ [])) (length (if_copied number n c (copied_from copies (suc number) (take i cs))))
      there zero e = e
      there (suc n) e = e

  -- fewer than all
  placed_below : (number i : ℕ) (cs : List Clause) → i < length cs → 1 ≤ copies (number + i)
      → length (copied_from copies number (take i cs)) < length (copied_from copies number cs)
  unfolding copied_from if_copied
  placed_below number i [] h k = absurd (omega arith)
  placed_below number zero (c ∷ cs) h k = here (copies number) (subst (λ (n : ℕ). 1 ≤ copies n) (omega arith) k)
    where
      here : (n : ℕ) → 1 ≤ n → 0 < length (if_copied number n c (copied_from copies (suc number) cs))
      here zero l = absurd (omega arith)
      here (suc n) l = omega arith
  placed_below number (suc i) (c ∷ cs) h k = there (copies number) (placed_below (suc number) i cs (omega arith) (subst (λ (n : ℕ). 1 ≤ copies n) (omega arith) k))
    where
      there : (n : ℕ) → length (copied_from copies (suc number) (take i cs)) < length (copied_from copies (suc number) cs)
          → length (if_copied number n c (copied_from copies (suc number) (take i cs))) < length (if_copied number n c (copied_from copies (suc number) cs))
      there zero e = e
      there (suc n) e = omega arith

  pub front_fewer : (number i : ℕ) (cs : List Clause) → length (copied_from copies number (take i cs)) ≤ i
  unfolding copied_from if_copied
  front_fewer number zero cs = omega arith
  front_fewer number (suc i) [] = omega arith
  front_fewer number (suc i) (c ∷ cs) = more (copies number) (front_fewer (suc number) i cs)
    where
      more : (n : ℕ) → length (copied_from copies (suc number) (take i cs)) ≤ i → length (if_copied number n c (copied_from copies (suc number) (take i cs))) ≤ suc i
      more zero e = omega arith
      more (suc n) e = omega arith

  -- what holds of every clause holds of the listed
  pub each_copied : (P : Clause → Type 0) (number : ℕ) (cs : List Clause) → Each P cs → Each P (clauses_in (copied_from copies number cs))
  unfolding copied_from if_copied Each
  each_copied P number [] h = tt
  each_copied P number (c ∷ cs) h = more (copies number) (each_copied P (suc number) cs h.1)
    where
      more : (n : ℕ) → Each P (clauses_in (copied_from copies (suc number) cs)) → Each P (clauses_in (if_copied number n c (copied_from copies (suc number) cs)))
      more zero e = e
      more (suc n) e = (h.0, e)

  pub copied_shorter : (number : ℕ) (cs : List Clause) → length (clauses_words (clauses_in (copied_from copies number cs))) ≤ length (clauses_words cs)
  unfolding copied_from if_copied clauses_words
  copied_shorter number [] = omega arith
  copied_shorter number (c ∷ cs) = more (copies number) (copied_shorter (suc number) cs)
    where
      more : (n : ℕ) → length (clauses_words (clauses_in (copied_from copies (suc number) cs))) ≤ length (clauses_words cs)
          → length (clauses_words (clauses_in (if_copied number n c (copied_from copies (suc number) cs)))) ≤ length (clause_words c ++ clauses_words cs)
      more zero e = omega (arith, length-append (clause_words c) (clauses_words cs))
      more (suc n) e =
          omega (
            arith,
            length-append (clause_words c) (clauses_words cs),
            length-append (clause_words c) (clauses_words (clauses_in (copied_from copies (suc number) cs))),
          )

-- The table of the listed has the question and every clause that the steps copy.
module _ (t : Table) (steps : List Step) where
  placed-in : (i : ℕ) → 1 ≤ copied_by steps i → i < length t.clauses → SameClauseAt t (listed_table t steps) i (listed_number t steps i)
  unfolding listed_table listed_number copied all_clauses
  placed-in i k h =
      let cs = t.clauses in
      let k' : 1 ≤ copied_by steps (0 + i) = subst (λ (n : ℕ). 1 ≤ copied_by steps n) (omega arith) k in
      let below = placed_below (copied_by steps) 0 i cs h k' in
      let many = length-map (copied_from (copied_by steps) 0 cs) (λ l. l.clause) in
      record {
        clause = placed (copied_by steps) 0 i cs t.question h k';
        question = (λ e. absurd (omega arith), λ e. absurd (omega arith));
      }

  pub listed_question : listed_number t steps (length t.clauses) ≡ length (listed_table t steps).clauses
  unfolding listed_table listed_number copied
  listed_question =
      ap (λ (cs : List Clause). length (copied_from (copied_by steps) 0 cs)) (take_all (length t.clauses) t.clauses (omega arith))
      ∙ sym (length-map (copied_from (copied_by steps) 0 t.clauses) (λ l. l.clause))

  question_in : SameClauseAt t (listed_table t steps) (length t.clauses) (listed_number t steps (length t.clauses))
  unfolding all_clauses listed_table
  question_in =
      record {
        clause =
            some_last t.clauses t.question ∙ sym (some_last (listed_table t steps).clauses (listed_table t steps).question)
            ∙ ap (λ (n : ℕ). get_elem? ((listed_table t steps).clauses ++ ((listed_table t steps).question ∷ [])) n) (sym listed_question);
        question = (λ e. listed_question, λ e. refl);
      }

  -- where the steps' clause numbers are the table's
  pub same_copied : ((clause literal : ℕ) → Extension clause literal ∈ steps → clause < length (all_clauses t))
      → SameCopied t (listed_table t steps) (listed_number t steps) steps
  unfolding all_clauses listed_table
  same_copied range = record { question = refl; copied = λ clause literal m. at clause (copied_some clause literal steps m) (range clause literal m) (dec_lt clause (length t.clauses)) }
    where
      at : (i : ℕ) → 1 ≤ copied_by steps i → i < length (t.clauses ++ (t.question ∷ [])) → Dec (i < length t.clauses)
          → SameClauseAt t (listed_table t steps) i (listed_number t steps i)
      at i k h (yes l) = placed-in i k l
      at i k h (no n) =
          let last : length t.clauses ≡ i = omega (arith, length-append t.clauses (t.question ∷ [])) in
          subst (λ (j : ℕ). SameClauseAt t (listed_table t steps) j (listed_number t steps j)) last question_in

  -- The table of the listed is within the limits that the table is within.
  pub fewer : length (listed_table t steps).clauses ≤ length t.clauses
  unfolding listed_number
  fewer = omega (arith, listed_question, front_fewer (copied_by steps) 0 (length t.clauses) t.clauses)

  pub listed_within : Within t → Within (listed_table t steps)
  unfolding all_clauses listed_table copied Each
  listed_within h =
      record {
        few = omega (arith, h.few, fewer, length-append t.clauses (t.question ∷ []), length-append (listed_table t steps).clauses (t.question ∷ []));
        clauses =
            each_append ClauseWithin (listed_table t steps).clauses (t.question ∷ [])
            (each_copied (copied_by steps) ClauseWithin 0 t.clauses (each_left t.clauses (t.question ∷ []) h.clauses))
            (each_right t.clauses (t.question ∷ []) h.clauses);
      }

  pub listed_file_within : FileWithin t → FileWithin (listed_table t steps)
  unfolding listed_table copied
  listed_file_within h =
      record {
        table = listed_within h.table;
        question = h.question;
        unmarked = h.unmarked;
        short = omega (
          arith,
          h.short,
          body_many t,
          body_many (listed_table t steps),
          copied_shorter (copied_by steps) 0 t.clauses,
        );
      }
