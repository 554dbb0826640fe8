-- The encoding of a table within the limits is read without fault, and decodes to that table.
use mathlib.Core.Path.{◌≡◌, refl, sym, ap, ap₂, ◌∙◌}
use mathlib.Core.Bool.{Bool, true, false}
use mathlib.Core.List.{List, [], ◌∷◌, ◌++◌, map, append_assoc}
use mathlib.Core.Option.{none}
use Prim.Native.Nat.{ℕ, zero, suc, ◌+◌, ◌^◌, ◌≤◌, ◌<◌}
use native.Mathlib.Nat.{add-zero}
use native.Mathlib.Omega.{arith}
use lib.ListN.{length, take, drop, length-append}
use lib.Seq.{take-append_seam, drop-append_seam}
use borrow.Author.Tests.{lt-ltb, le-leb}
use Rattle.words.specs.Fields.{number_of, literals_of, variables_of, following_of, restricted_of, clause_shaped, variable_word, function_word, literal_word, clause_word}
use Rattle.words.proofs.Packed.{variable_kind, variable_number, variable_shaped_lem, function_kind, function_symbol, function_arity, function_shaped_lem, function_not_variable, literal_kind, literal_predicate, literal_arity, literal_negative, literal_shaped_lem, clause_literals, clause_variables, clause_following, clause_restricted, clause_shaped_lem, clause_fits_lem}
use Rattle.table.specs.Syntax.{Term, var, app, Terms, nil, ◌then◌, arity, Literal, Clause, Table, all_clauses}
use Rattle.table.specs.Encode.{term_words, terms_words, literal_words, literals_words, clause_words, clauses_words, body_words}
use Rattle.table.specs.Reading.{term_arity, after_term, after_literal, after, stops_short, onward, fault, clause_fault}
use Rattle.table.specs.Body.{reading, body_fault, starts}
use Rattle.table.specs.Decode.{first, rest, terms_from, literals_from, clause_of, parts_from, clauses_of, with_question, as_table, table_of}
use Rattle.table.specs.Limits.{TermWithin, TermsWithin, LiteralWithin, Each, ClauseWithin, Within, Words, Readable}
use Rattle.table.proofs.Bodies.{pass_faults, pass_starts}
use Rattle.table.proofs.Decoding.{from_variable, from_function, from_literal, literals_literal, literals_other}
use Rattle.table.proofs.BodyDecoding.{clauses_count}

-- passing over words of a clause
pass_parts : (passing : ℕ) (ws : List ℕ) → parts_from passing ws ≡ parts_from 0 (drop passing ws)
unfolding parts_from
pass_parts zero [] = refl
pass_parts (suc passing) [] = refl
pass_parts zero (w ∷ ws) = refl
pass_parts (suc passing) (w ∷ ws) = pass_parts passing ws

-- words that owe so many literals and terms have no fault, wherever they stand
record Sound (v l t : ℕ) (ws : List ℕ) : Type 0 where
  holds : (at : ℕ) → fault v l t at ws ≡ none

same_terms : {v l t u : ℕ} {ws : List ℕ} → t ≡ u → Sound v l t ws → Sound v l u ws
same_terms e s = record { holds = λ at. rw e at (s.holds at) }

same_words_lem : {v l t : ℕ} {us ws : List ℕ} → us ≡ ws → Sound v l t us → Sound v l t ws
same_words_lem e s = record { holds = λ at. rw e at (s.holds at) }

sound_variable : {v l t : ℕ} {ws : List ℕ} (x : ℕ) → v ≤ 16 → x < v → Sound v l t ws → Sound v l (suc t) (variable_word x ∷ ws)
unfolding fault onward after after_term term_arity
sound_variable {v} {l} {t} {ws} x few h s =
    let small : x < 2 ^ 10 = omega arith in
    let below : number_of (variable_word x) < v = rw (variable_number x small) h in
    let z : 0 + t ≡ t = omega arith in
    record {
      holds = λ at. rw (variable_shaped_lem x small, lt-ltb (number_of (variable_word x)) v below, z) (s.holds (at + 1));
    }

sound_function : {v l t : ℕ} {ws : List ℕ} (f a : ℕ) → f < 2 ^ 12 → a ≤ 4 → Sound v l (a + t) ws → Sound v l (suc t) (function_word f a ∷ ws)
unfolding fault onward after after_term term_arity
sound_function {v} {l} {t} {ws} f a hf ha s =
    let shaped = function_shaped_lem f a hf (omega arith) ha in
    record {
      holds = λ at. rw (function_not_variable (function_word f a) shaped, shaped, function_arity f a hf (omega arith)) (s.holds (at + 1));
    }

mutual
  unfolding term_words TermWithin arity

  sound_term : (x : Term ℕ) {v l t : ℕ} {ws : List ℕ} → v ≤ 16 → TermWithin x v → Sound v l t ws → Sound v l (suc t) (term_words x ++ ws)
  sound_term (var x) few h s = sound_variable x few h s
  sound_term (app f ts) few h s = sound_function f (arity ts) h.0 h.1 (sound_terms ts few h.2 s)

  sound_terms : (ts : Terms ℕ) {v l t : ℕ} {ws : List ℕ} → v ≤ 16 → TermsWithin ts v → Sound v l t ws → Sound v l (arity ts + t) (terms_words ts ++ ws)
  sound_terms nil few h s = same_terms (omega arith) s
  sound_terms (x then ts) few h s =
      same_terms (omega arith) (same_words_lem (sym (append_assoc (term_words x) (terms_words ts) _)) (sound_term x few h.0 (sound_terms ts few h.1 s)))

sound_literal : {v l : ℕ} {ws : List ℕ} (b : Bool) (p a : ℕ) → p < 2 ^ 12 → a ≤ 4 → Sound v l a ws → Sound v (suc l) 0 (literal_word b p a ∷ ws)
unfolding fault onward after after_literal
sound_literal b p a hp ha s = record {
  holds = λ at. rw (literal_shaped_lem p a hp (omega arith) b ha, literal_arity p a hp (omega arith) b) (s.holds (at + 1));
}

sound_literals : {v : ℕ} (ls : List (Literal ℕ)) → v ≤ 16 → Each (LiteralWithin v) ls → Sound v (length ls) 0 (literals_words ls)
unfolding fault stops_short literals_words literal_words Each
sound_literals [] few h = record { holds = λ at. refl }
sound_literals (l ∷ ls) few h =
    sound_literal l.negative l.predicate (arity l.arguments) h.0.predicate h.0.arity
    (same_terms (add-zero _) (sound_terms l.arguments few h.0.arguments (sound_literals ls few h.1)))

-- at least a word for each literal
pub words_some : (ls : List (Literal ℕ)) → 1 ≤ length ls → 1 ≤ length (literals_words ls)
unfolding literals_words literal_words
words_some [] h = absurd (omega arith)
words_some (l ∷ ls) h = omega arith

-- a clause within the limits: its word has its counts, its words have no fault, and it decodes to itself
module _ (c : Clause) (h : ClauseWithin c) where
  own : List ℕ
  own = literals_words c.literals

  word : ℕ
  word = clause_word c.restricted (length c.literals) c.variables (length (literals_words c.literals))

  clause-counts : following_of word ≡ length own
  unfolding word own
  clause-counts =
      clause_following (length c.literals) c.variables (length (literals_words c.literals)) (omega (arith, h.few)) (omega (arith, h.variables)) (omega (arith, h.follow)) c.restricted

  clause-has-variables : variables_of word ≡ c.variables
  unfolding word
  clause-has-variables =
      clause_variables (length c.literals) c.variables (length (literals_words c.literals)) (omega (arith, h.few)) (omega (arith, h.variables)) (omega (arith, h.follow)) c.restricted

  clause-has-literals : literals_of word ≡ length c.literals
  unfolding word
  clause-has-literals =
      clause_literals (length c.literals) c.variables (length (literals_words c.literals)) (omega (arith, h.few)) (omega (arith, h.variables)) (omega (arith, h.follow)) c.restricted

  clause-has-mark : restricted_of word ≡ c.restricted
  unfolding word
  clause-has-mark =
      clause_restricted (length c.literals) c.variables (length (literals_words c.literals)) (omega (arith, h.few)) (omega (arith, h.variables)) (omega (arith, h.follow)) c.restricted

  clause-is-shaped : clause_shaped word ≡ true
  unfolding word
  clause-is-shaped =
      clause_shaped_lem (length c.literals) c.variables (length (literals_words c.literals)) (omega (arith, h.few)) (omega (arith, h.variables)) (omega (arith, h.follow)) c.restricted h.some h.variables (words_some c.literals h.some)

  take_own : (ws : List ℕ) → take (following_of word) (own ++ ws) ≡ own
  take_own ws = rw (clause-counts, take-append_seam own ws)

  drop_own : (ws : List ℕ) → drop (following_of word) (own ++ ws) ≡ ws
  drop_own ws = rw (clause-counts, drop-append_seam own ws)

  clause-faultless : (ws : List ℕ) → clause_fault word (own ++ ws) ≡ none
  unfolding clause_fault own
  clause-faultless ws =
      let fits : following_of word ≤ length (own ++ ws) = omega (arith, clause-counts, length-append own ws) in
      rw (clause-is-shaped, le-leb _ _ fits, take_own ws, clause-has-variables, clause-has-literals) ((sound_literals c.literals h.variables h.literals).holds 1)

  pub body_faultless : (ws : List ℕ) → ((at : ℕ) → body_fault at 0 ws ≡ none) → (at : ℕ) → body_fault at 0 (clause_words c ++ ws) ≡ none
  unfolding body_fault reading clause_words word own
  body_faultless ws s at =
      rw (clause-faultless ws, pass_faults (at + 1) (following_of word) (own ++ ws), drop_own ws) (s _)

-- one list of terms after another
joined : Terms ℕ → Terms ℕ → Terms ℕ
joined nil us = us
joined (t then ts) us = t then joined ts us

joined_nil : (ts : Terms ℕ) → joined ts nil ≡ ts
unfolding joined
joined_nil nil = refl
joined_nil (t then ts) = ap (λ (us : Terms ℕ). t then us) (joined_nil ts)

first_joined : (ts us : Terms ℕ) → first (arity ts) (joined ts us) ≡ ts
unfolding joined first arity
first_joined nil us = refl
first_joined (t then ts) us = ap (λ (vs : Terms ℕ). t then vs) (first_joined ts us)

rest_joined : (ts us : Terms ℕ) → rest (arity ts) (joined ts us) ≡ us
unfolding joined rest arity
rest_joined nil us = refl
rest_joined (t then ts) us = rest_joined ts us

function_decoded : (f : ℕ) (ts us : Terms ℕ) (ws : List ℕ) → f < 2 ^ 12 → arity ts ≤ 4 → terms_from ws ≡ joined ts us → terms_from (function_word f (arity ts) ∷ ws) ≡ app f ts then us
function_decoded f ts us ws hf ha e =
    let small : arity ts < 2 ^ 3 = omega arith in
    from_function (function_word f (arity ts)) ws (function_kind f (arity ts) hf small)
    ∙ rw (function_symbol f (arity ts) hf small, function_arity f (arity ts) hf small, e, first_joined, rest_joined)

mutual
  unfolding term_words TermWithin joined

  term_decoded : (x : Term ℕ) (v : ℕ) (ws : List ℕ) → v ≤ 2 ^ 10 → TermWithin x v → terms_from (term_words x ++ ws) ≡ x then terms_from ws
  term_decoded (var x) v ws few h =
      let small : x < 2 ^ 10 = omega arith in
      from_variable (variable_word x) ws (variable_kind x small) ∙ rw (variable_number x small)
  term_decoded (app f ts) v ws few h =
      function_decoded f ts (terms_from ws) (terms_words ts ++ ws) h.0 h.1 (terms_decoded ts v ws few h.2)

  terms_decoded : (ts : Terms ℕ) (v : ℕ) (ws : List ℕ) → v ≤ 2 ^ 10 → TermsWithin ts v → terms_from (terms_words ts ++ ws) ≡ joined ts (terms_from ws)
  terms_decoded nil v ws few h = refl
  terms_decoded (x then ts) v ws few h =
      ap (λ (us : List ℕ). terms_from us) (append_assoc (term_words x) (terms_words ts) ws)
      ∙ term_decoded x v (terms_words ts ++ ws) few h.0
      ∙ ap (λ (us : Terms ℕ). x then us) (terms_decoded ts v ws few h.1)

mutual
  unfolding term_words TermWithin

  term_passed : (x : Term ℕ) (v : ℕ) (ws : List ℕ) → v ≤ 2 ^ 10 → TermWithin x v → literals_from (term_words x ++ ws) ≡ literals_from ws
  term_passed (var x) v ws few h =
      let small : x < 2 ^ 10 = omega arith in
      literals_other (variable_word x) ws (λ e. omega (arith, variable_kind x small))
  term_passed (app f ts) v ws few h =
      let small : arity ts < 2 ^ 3 = omega (arith, h.1) in
      literals_other (function_word f (arity ts)) (terms_words ts ++ ws) (λ e. omega (arith, function_kind f (arity ts) h.0 small))
      ∙ terms_passed ts v ws few h.2

  terms_passed : (ts : Terms ℕ) (v : ℕ) (ws : List ℕ) → v ≤ 2 ^ 10 → TermsWithin ts v → literals_from (terms_words ts ++ ws) ≡ literals_from ws
  terms_passed nil v ws few h = refl
  terms_passed (x then ts) v ws few h =
      ap (λ (us : List ℕ). literals_from us) (append_assoc (term_words x) (terms_words ts) ws)
      ∙ term_passed x v (terms_words ts ++ ws) few h.0
      ∙ terms_passed ts v ws few h.1

-- no term stands before a literal
literals_terms : (v : ℕ) (ls : List (Literal ℕ)) → Each (LiteralWithin v) ls → terms_from (literals_words ls) ≡ nil
unfolding literals_words literal_words terms_from Each
literals_terms v [] h = refl
literals_terms v (l ∷ ls) h =
    from_literal _ (terms_words l.arguments ++ literals_words ls) (literal_kind l.predicate (arity l.arguments) h.0.predicate (omega (arith, h.0.arity)) l.negative)

literal_decoded : (l : Literal ℕ) (ws : List ℕ) → l.predicate < 2 ^ 12 → arity l.arguments ≤ 4 → terms_from ws ≡ l.arguments → literals_from (literal_word l.negative l.predicate (arity l.arguments) ∷ ws) ≡ l ∷ literals_from ws
literal_decoded l ws hp ha e =
    let p = l.predicate in
    let a = arity l.arguments in
    let small : arity l.arguments < 2 ^ 3 = omega arith in
    literals_literal _ ws (literal_kind p a hp small l.negative)
    ∙ (λ i. record { negative = literal_negative p a hp small l.negative i; predicate = literal_predicate p a hp small l.negative i; arguments = e i } ∷ literals_from ws)

pub literals_decoded : {v : ℕ} (ls : List (Literal ℕ)) → v ≤ 2 ^ 10 → Each (LiteralWithin v) ls → literals_from (literals_words ls) ≡ ls
unfolding literals_words literal_words literals_from Each
literals_decoded [] few h = refl
literals_decoded {v} (l ∷ ls) few h =
    let arguments = terms_decoded l.arguments v (literals_words ls) few h.0.arguments ∙ ap (λ (us : Terms ℕ). joined l.arguments us) (literals_terms v ls h.1) ∙ joined_nil l.arguments in
    literal_decoded l (terms_words l.arguments ++ literals_words ls) h.0.predicate h.0.arity arguments
    ∙ ap (λ (ks : List (Literal ℕ)). l ∷ ks) (terms_passed l.arguments v (literals_words ls) few h.0.arguments ∙ literals_decoded ls few h.1)

module _ (c : Clause) (h : ClauseWithin c) where
  pub clause_decoded : clause_of (clause_words c) ≡ c
  unfolding clause_of clause_words word
  clause_decoded i =
      record { restricted = clause-has-mark c h i; variables = clause-has-variables c h i; literals = literals_decoded c.literals (omega (arith, h.variables)) h.literals i }

  clause_parts : (ws : List ℕ) → parts_from 0 (clause_words c ++ ws) ≡ clause_words c ∷ parts_from 0 ws
  unfolding parts_from clause_words word own
  clause_parts ws =
      ap₂ (λ (xs : List ℕ) (ps : List (List ℕ)). (word c h ∷ xs) ∷ ps) (take_own c h ws)
      (pass_parts (following_of (word c h)) (own c h ++ ws) ∙ ap (λ (xs : List ℕ). parts_from 0 xs) (drop_own c h ws))

  pub clause_starts : (at : ℕ) (ws : List ℕ) → starts at 0 (clause_words c ++ ws) ≡ at ∷ starts (at + length (clause_words c)) 0 ws
  unfolding starts clause_words word own
  clause_starts at ws =
      let z : at + 1 + following_of (word c h) ≡ at + length (clause_words c) = omega (arith, clause-counts c h) in
      ap (λ (ns : List ℕ). at ∷ ns)
      (pass_starts (at + 1) (following_of (word c h)) (own c h ++ ws) ∙ ap₂ (λ (n : ℕ) (us : List ℕ). starts n 0 us) z (drop_own c h ws))

pub clauses_faultless : (cs : List Clause) → Each ClauseWithin cs → (at : ℕ) → body_fault at 0 (clauses_words cs) ≡ none
unfolding body_fault clauses_words Each
clauses_faultless [] h at = refl
clauses_faultless (c ∷ cs) h at = body_faultless c h.0 (clauses_words cs) (clauses_faultless cs h.1) at

pub clauses_decoded : (cs : List Clause) → Each ClauseWithin cs → clauses_of (clauses_words cs) ≡ cs
unfolding clauses_of clauses_words parts_from Each
clauses_decoded [] h = refl
clauses_decoded (c ∷ cs) h =
    ap (λ (ps : List (List ℕ)). map clause_of ps) (clause_parts c h.0 (clauses_words cs))
    ∙ ap₂ (λ (d : Clause) (ds : List Clause). d ∷ ds) (clause_decoded c h.0) (clauses_decoded cs h.1)

-- the table of all clauses of a table is that table
with_last : (c : Clause) (cs : List Clause) (q : Clause) → with_question c (cs ++ (q ∷ [])) ≡ record { clauses = c ∷ cs; question = q }
unfolding with_question
with_last c [] q = refl
with_last c (d ∷ ds) q =
    let e = with_last d ds q in λ i. record { clauses = c ∷ (e i).clauses; question = (e i).question }

pub table_of_all : (cs : List Clause) (q : Clause) → as_table (cs ++ (q ∷ [])) ≡ record { clauses = cs; question = q }
unfolding as_table with_question
table_of_all [] q = refl
table_of_all (c ∷ cs) q = with_last c cs q

module _ (t : Table) (h : Within t) where
  pub table_decoded : table_of (body_words t) ≡ t
  unfolding table_of body_words all_clauses
  table_decoded =
      ap (λ (cs : List Clause). as_table cs) (clauses_decoded (all_clauses t) h.clauses) ∙ table_of_all t.clauses t.question

  pub table_count : length (starts 0 0 (body_words t)) ≡ length (all_clauses t)
  unfolding body_words
  table_count =
      sym (clauses_count (clauses_words (all_clauses t)))
      ∙ ap (λ (cs : List Clause). length cs) (clauses_decoded (all_clauses t) h.clauses)

  pub table_some : 1 ≤ length (all_clauses t)
  unfolding all_clauses
  table_some = omega (arith, length-append t.clauses (t.question ∷ []))

  pub table_readable : Readable (body_words t)
  unfolding body_words
  table_readable = record {
    sound = clauses_faultless (all_clauses t) h.clauses 0;
    some = omega (arith, table_count, table_some);
    few = omega (arith, table_count, h.few);
  }

-- the words of a table within the limits have 32 bits
pub each_append : {A : Type 0} (P : A → Type 0) (xs ys : List A) → Each P xs → Each P ys → Each P (xs ++ ys)
unfolding Each
each_append P [] ys h k = k
each_append P (x ∷ xs) ys h k = (h.0, each_append P xs ys h.1 k)

literal_fits : (b : Bool) (p a : ℕ) → p < 2 ^ 12 → a ≤ 4 → literal_word b p a < 2 ^ 32
literal_fits true p a hp ha = omega arith
literal_fits false p a hp ha = omega arith

mutual
  unfolding term_words TermWithin Each

  term_fits : (x : Term ℕ) (v : ℕ) → v ≤ 16 → TermWithin x v → Words (term_words x)
  term_fits (var x) v few h = (omega arith, tt)
  term_fits (app f ts) v few h = (omega (arith, h.0, h.1), terms_fit ts v few h.2)

  terms_fit : (ts : Terms ℕ) (v : ℕ) → v ≤ 16 → TermsWithin ts v → Words (terms_words ts)
  terms_fit nil v few h = tt
  terms_fit (x then ts) v few h =
      each_append (λ (w : ℕ). w < 2 ^ 32) (term_words x) (terms_words ts) (term_fits x v few h.0) (terms_fit ts v few h.1)

literals_fit : (v : ℕ) (ls : List (Literal ℕ)) → v ≤ 16 → Each (LiteralWithin v) ls → Words (literals_words ls)
unfolding literals_words literal_words Each
literals_fit v [] few h = tt
literals_fit v (l ∷ ls) few h = (
  literal_fits l.negative l.predicate (arity l.arguments) h.0.predicate h.0.arity,
  each_append (λ (w : ℕ). w < 2 ^ 32) (terms_words l.arguments) (literals_words ls) (terms_fit l.arguments v few h.0.arguments) (literals_fit v ls few h.1),
)

pub clauses_fit : (cs : List Clause) → Each ClauseWithin cs → Words (clauses_words cs)
unfolding clauses_words clause_words Each
clauses_fit [] h = tt
clauses_fit (c ∷ cs) h = (
  clause_fits_lem (length c.literals) c.variables (length (literals_words c.literals)) (omega (arith, h.0.few)) (omega (arith, h.0.variables)) (omega (arith, h.0.follow)) c.restricted,
  each_append (λ (w : ℕ). w < 2 ^ 32) (literals_words c.literals) (clauses_words cs) (literals_fit c.variables c.literals h.0.variables h.0.literals) (clauses_fit cs h.1),
)
