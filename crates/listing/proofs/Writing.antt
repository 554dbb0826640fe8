-- The lines written clause by clause, one law for each outcome, with premises as the code has them.
use lib.ListN.{length, take, drop, get_or, drop_of_length-le}
use lib.Seq.{drop-cons}
use mathlib.Core.Bool.{Bool, true, false}
use mathlib.Core.List.{List, [], ◌∷◌, ◌++◌, append_assoc, append-nil}
use mathlib.Core.Path.{◌≡◌, refl, sym, ap, ◌∙◌, subst}
use mir.Syntax.{w32, w64}
use mir.Val.{Fits}
use native.Mathlib.Numerals.{add-one}
use native.Mathlib.Omega.{arith}
use Prim.Native.Nat.{ℕ, zero, suc, ◌+◌, ◌-◌, ◌≤◌, ◌<◌}
use Rattle.words.specs.Fields.{following_of}
use Rattle.table.specs.Decode.{clause_of}
use Rattle.table.specs.Encode.{clause_words}
use Rattle.table.specs.File.{table_in}
use Rattle.table.specs.Limits.{ClauseWithin}
use Rattle.table.specs.Syntax.{Clause, Table}
use Rattle.text.specs.Digits.{decimal_text}
use Rattle.text.specs.Put.{Put}
use Rattle.text.specs.Quoted.{bytes}
use Rattle.text.proofs.Putting.{Left, begin, finish, further, then}
use Rattle.slim.specs.Dropping.{clause_no}
use Rattle.slim.specs.Walking.{Ready, Passed}
use Rattle.slim.proofs.Walks.{each_at, file_short, clauses_few, clauses_within, question_within, walk_begin, walk_below, walk_done, walk_in, walk_words, walk_within, walk_next, question_in, question_words_lem, question_inside}
use Rattle.clauselines.specs.Lines.{clause_text}
use Rattle.clauselines.specs.Writers.{IsClause}
use Rattle.clauselines.proofs.Walks.{is_clause, says_clause}
use Rattle.listing.specs.Behind.{Listed, if_copied, copied_from}
use Rattle.listing.specs.Lines.{line_text, lines_text}
use Rattle.listing.specs.Counting.{Counters, counted_text}

-- a line is put together of its parts
module _ {out : List ℕ} {from : ℕ} (number copies : ℕ) (question : Bool) (clause : Clause) where
  pub line_is : {a : List ℕ} {k : ℕ} → Put out from (decimal_text number) a k
      → {b : List ℕ} {l : ℕ} → Put a k (bytes " " ++ decimal_text copies) b l
      → {c : List ℕ} {m : ℕ} → Put b l (bytes " ") c m
      → {d : List ℕ} {n : ℕ} → Put c m (clause_text number question clause) d n
      → Put out from (line_text question (record { number = number; copies = copies; clause = clause })) d n
  unfolding line_text
  line_is p q r s =
      rw (append_assoc (decimal_text number) (bytes " ") (decimal_text copies)) (then (then (then p q) r) s)

-- what is still to be written when so many clauses are passed
abbrev question_line : List ℕ → Table → List ℕ
question_line copies t =
    line_text true (record { number = length t.clauses; copies = suc (get_or copies (length t.clauses) 0); clause = t.question })

abbrev rest_text : List ℕ → Table → ℕ → List ℕ
rest_text copies t number = lines_text (copied_from (λ n. get_or copies n 0) number (drop number t.clauses)) ++ question_line copies t

module _ (copies : List ℕ) (t : Table) (number : ℕ) (h : number < length t.clauses) where
  abbrev afterwards : List Listed
  afterwards = copied_from (λ n. get_or copies n 0) (number + 1) (drop (number + 1) t.clauses)

  next-clause : copied_from (λ n. get_or copies n 0) number (drop number t.clauses) ≡ if_copied number (get_or copies number 0) (clause_no t number) afterwards
  unfolding copied_from
  next-clause = rw (drop-cons t.clauses number t.question h, add-one number) refl

  rest-past : get_or copies number 0 ≡ 0 → rest_text copies t number ≡ rest_text copies t (number + 1)
  unfolding if_copied
  rest-past z = ap (λ (ls : List Listed). lines_text ls ++ question_line copies t) (next-clause ∙ rw z refl)

  rest_more : (get_or copies number 0 ≡ 0 → ⊥)
      → rest_text copies t number ≡ line_text false (record { number = number; copies = get_or copies number 0; clause = clause_no t number }) ++ rest_text copies t (number + 1)
  unfolding if_copied lines_text
  rest_more z =
      ap (λ (ls : List Listed). lines_text ls ++ question_line copies t) (next-clause ∙ listed-some (get_or copies number 0) z)
      ∙ first-line (record { number = number; copies = get_or copies number 0; clause = clause_no t number })
    where
      listed-some : (n : ℕ) → (n ≡ 0 → ⊥) → if_copied number n (clause_no t number) afterwards ≡ record { number = number; copies = n; clause = clause_no t number } ∷ afterwards
      listed-some zero z = absurd (z refl)
      listed-some (suc n) z = refl

      first-line : (l : Listed) → lines_text (l ∷ afterwards) ++ question_line copies t ≡ line_text false l ++ rest_text copies t (number + 1)
      first-line l = append_assoc (line_text false l) (lines_text afterwards) (question_line copies t)

no_more : (copies : List ℕ) (t : Table) (number : ℕ) → number ≡ length t.clauses → rest_text copies t number ≡ question_line copies t ++ []
unfolding copied_from lines_text
no_more copies t number e =
    let all : length t.clauses ≤ number = omega arith in
    ap (λ (cs : List Clause). lines_text (copied_from (λ n. get_or copies n 0) number cs) ++ question_line copies t) (drop_of_length-le t.clauses all)
    ∙ sym (append-nil (question_line copies t))

-- so many clauses are passed, and their lines written
pub record Writing (file copies first : List ℕ) (number next end : ℕ) (out : List ℕ) : Type 0 where
  pub passed : Passed (table_in file) number next
  pub left : Left first 0 (counted_text copies (table_in file)) out end (rest_text copies (table_in file) number)

module _ (file copies first : List ℕ) (question : ℕ) (r : Ready file question) (k : Counters copies) where
  pub write_begin : Writing file copies first 0 0 0 first
  write_begin = record { passed = walk_begin file question r; left = begin first 0 (counted_text copies (table_in file)) }

  pub write_short : length file ≤ 16000
  write_short = file_short file question r

  module _ (number at end : ℕ) (out : List ℕ) (g : Writing file copies first number at end out) where
    pub write_size : length out ≡ length first
    write_size = g.left.size

    module _ (h : at < question) where
      below : number < length (table_in file).clauses
      below = walk_below file question r number at g.passed h

      pub write_in : at < length file
      write_in = walk_in file question r number at g.passed h

      pub write_number_fits : Fits w64 (number + 1)
      write_number_fits = record { fits = omega (arith, below, clauses_few file question r) }

      pub write_number_word : Fits w32 number
      write_number_word = record { fits = omega (arith, below, clauses_few file question r) }

      pub write_counter : number < length copies
      write_counter = omega (arith, k.long, below, clauses_few file question r)

      module _ (next : ℕ) (e : next ≡ at + (following_of (get_or file at 0) + 1)) where
        pub write_within : next ≤ length file
        write_within = walk_within file question r number at g.passed next e h

        clause_in : ClauseWithin (clause_no (table_in file) number)
        clause_in = each_at ClauseWithin (table_in file).clauses number (table_in file).question below (clauses_within file question r)

        words-there : take (next - at) (drop at file) ≡ clause_words (clause_no (table_in file) number)
        words-there = walk_words file question r number at g.passed next e h

        pub write_clause : IsClause (take (next - at) (drop at file))
        write_clause = is_clause (clause_no (table_in file) number) clause_in words-there

        pub write_past : get_or copies number 0 ≡ 0 → Writing file copies first (number + 1) next end out
        write_past z =
            record {
              passed = walk_next file question r number at g.passed next e h;
              left = rw (rest-past copies (table_in file) number below z) at g.left;
            }

        pub write_more : (get_or copies number 0 ≡ 0 → ⊥) → {out' : List ℕ} {end' : ℕ}
            → Put out end (line_text false (record { number = number; copies = get_or copies number 0; clause = clause_of (take (next - at) (drop at file)) })) out' end'
            → Writing file copies first (number + 1) next end' out'
        write_more z p =
            record {
              passed = walk_next file question r number at g.passed next e h;
              left =
                  further (line_text false (record { number = number; copies = get_or copies number 0; clause = clause_no (table_in file) number })) (rest_text copies (table_in file) (number + 1))
                  (rw (rest_more copies (table_in file) number below z) at g.left)
                  (rw (says_clause (clause_no (table_in file) number) clause_in words-there) at p);
            }

    -- the question's line
    module _ (h : question ≤ at) where
      last : number ≡ length (table_in file).clauses
      last = walk_done file question r number at g.passed h

      pub write_last_word : Fits w32 number
      write_last_word = record { fits = omega (arith, last, clauses_few file question r) }

      pub write_last_counter : number < length copies
      write_last_counter = omega (arith, k.long, last, clauses_few file question r)

      pub write_start_fits : {more : ℕ} → more ≤ 1 → Fits w32 (get_or copies number 0 + more)
      write_start_fits h = record { fits = omega (arith, k.low number) }

      module _ (stop : ℕ) (e : stop ≡ question + (following_of (get_or file question 0) + 1)) where
        pub write_stop : stop ≤ length file
        write_stop = question_inside file question r stop e

        pub write_question : IsClause (take (stop - question) (drop question file))
        write_question = is_clause (table_in file).question (question_within file question r) (question_words_lem file question r stop e)

        pub write_done : {out' : List ℕ} {end' : ℕ}
            → Put out end (line_text true (record { number = number; copies = get_or copies number 0 + 1; clause = clause_of (take (stop - question) (drop question file)) })) out' end'
            → Put first 0 (counted_text copies (table_in file)) out' end'
        write_done {out'} {end'} p =
            finish
            (further (question_line copies (table_in file)) []
            (rw (no_more copies (table_in file) number last) at g.left)
            (subst (λ (l : Listed). Put out end (line_text true l) out' end') line_told p))
          where
            line_told : ◌≡◌ {A = Listed} (record { number = number; copies = get_or copies number 0 + 1; clause = clause_of (take (stop - question) (drop question file)) })
                (record { number = length (table_in file).clauses; copies = suc (get_or copies (length (table_in file).clauses) 0); clause = (table_in file).question })
            line_told =
                rw (last, add-one (get_or copies (length (table_in file).clauses) 0), says_clause (table_in file).question (question_within file question r) (question_words_lem file question r stop e)) refl

pub ruleset write_laws = (write_begin, write_short, write_size, write_in, write_number_fits, write_number_word, write_counter, write_within, write_clause, write_past, write_more, write_last_word, write_last_counter, write_start_fits, write_stop, write_question, write_done, question_in)
