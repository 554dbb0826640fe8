-- The promises of order 12, proved.
use lib.Dec.{eqb, leb}
use lib.ListN.{length, take, get_or, get_elem?, replicate, length-append, length-replicate, get_or-append}
use lib.Seq.{get_or_at, get_or-take, length-take-le}
use mathlib.Core.Bool.{Bool, true, false, cond, not, ◌&&◌, ◌||◌}
use mathlib.Core.List.{List, [], ◌∷◌, ◌++◌, map}
use mathlib.Core.Logic.{◌⊎◌, inl, inr}
use mathlib.Core.Option.{some}
use mathlib.Core.Path.{◌≡◌, refl, sym, ap, ap₂, ◌∙◌, subst}
use native.Mathlib.Decide.{dec_lt}
use native.Mathlib.Numerals.{add-one}
use native.Mathlib.Omega.{arith}
use borrow.Author.Tests.{eq-eqb, le-leb, eqb-true}
use Prim.Native.Nat.{ℕ, zero, suc, ◌+◌, ◌≤◌, ◌<◌}
use Rattle.words.specs.Steps.{encoded, step_of}
use Rattle.words.specs.declared.Step.{Step}
use Rattle.words.specs.declared.Step.TheVariants.{Extension}
use Rattle.table.specs.Syntax.{Clause, Table, all_clauses}
use Rattle.table.specs.Encode.{clause_words, clauses_words, body_words, file_words}
use Rattle.table.specs.Decode.{clause_of}
use Rattle.table.specs.File.{judge, table_in}
use Rattle.table.specs.Limits.{Each, ClauseWithin, FileWithin}
use Rattle.table.specs.declared.Judgement.{Judgement}
use Rattle.table.proofs.Encoding.{clause_decoded}
use Rattle.table.proofs.FileEncoding.{file_accepted, file_decoded, file_within}
use Rattle.rules.specs.Setting.{every_leaf, base}
use Rattle.rules.specs.System.{◌∈◌, first, later}
use Rattle.rules.specs.Tableau.{Closed}
use Rattle.rules.specs.Locality.{renumbered, SameClauseAt, SameCopied}
use Rattle.rules.specs.Machinery.Play.{Play, passed, check, answer_of}
use Rattle.rules.proofs.Demands.{passed_closed, proof_has_words}
use Rattle.rules.proofs.Lengths.{InRange, steps_in_range}
use Rattle.rules.proofs.Lists.{All, some_append, some_last, last_or_before, none_some}
use Rattle.rules.proofs.Locality.{local_check, same_words_lem}
use Rattle.rules.proofs.Reordered.{Found, Covered, covered_closed, unchanged}
use Rattle.slim.specs.Dropping.{some_of, with_flag, chosen, remaining, clause_no, same_words, dead, repeats, droppable, as_it_is, Slim}
use Rattle.slim.specs.Rounds.{unrepeated, round, rounds, kept_flags}
use Rattle.slim.specs.Call.{slim_table, numbers_up_to, old_numbers, Given, refused, granted, if_it_fits, slim_call}
use Rattle.slim.specs.Promises.{LeftWhenNothingDrops, OneOutcome, Slims, SlimmerFileAccepted, SameProofsExist, put_back, ProofsMoveBack, put_back_word, ProofWordsMoveBack, SlimAgain}
use Rattle.slim.proofs.Flags.{chosen_length, numbers_length, number_at}
use Rattle.slim.proofs.Comparing.{same_true}
use Rattle.slim.proofs.Walks.{each_at, each_left, each_right}
use Rattle.slim.proofs.Sweeping.{remaining_within}
use Rattle.slim.proofs.Copying.{body_words_lem}
use Rattle.slim.proofs.Telling.{chosen_few}
use Rattle.slim.proofs.Settled.{one_slim, kept_slim, flag_below, unrepeated_at, round_at}
use Rattle.slim.proofs.Alive.{Spares, spared_closed}

pub left_when_nothing_drops : LeftWhenNothingDrops
left_when_nothing_drops = kept_slim

pub one_outcome : OneOutcome
one_outcome = one_slim

-- where the flag stands that is the i-th to be set
place_of : List Bool → ℕ → ℕ
place_of [] i = 0
place_of (true ∷ p) zero = 0
place_of (true ∷ p) (suc i) = suc (place_of p i)
place_of (false ∷ p) i = suc (place_of p i)

nonsense : {A : Type 0} → false ≡ true → A
nonsense {A} e = let z : ◌≡◌ {A = ℕ} 0 1 = cc in let n : ⊥ = omega arith in absurd n

module _ {A : Type 0} where
  place_below : (p : List Bool) (xs : List A) (i : ℕ) → i < length (chosen p xs) → place_of p i < length xs
  unfolding chosen with_flag place_of
  place_below [] xs i h = absurd (omega arith)
  place_below (f ∷ p) [] i h = absurd (omega arith)
  place_below (true ∷ p) (x ∷ xs) zero h = omega arith
  place_below (true ∷ p) (x ∷ xs) (suc i) h = let k = place_below p xs i (omega arith) in omega arith
  place_below (false ∷ p) (x ∷ xs) i h = let k = place_below p xs i h in omega arith

  place-flag : (p : List Bool) (xs : List A) (i : ℕ) → i < length (chosen p xs) → get_or p (place_of p i) false ≡ true
  unfolding chosen with_flag place_of
  place-flag [] xs i h = absurd (omega arith)
  place-flag (f ∷ p) [] i h = absurd (omega arith)
  place-flag (true ∷ p) (x ∷ xs) zero h = refl
  place-flag (true ∷ p) (x ∷ xs) (suc i) h = place-flag p xs i (omega arith)
  place-flag (false ∷ p) (x ∷ xs) i h = place-flag p xs i h

  place_is : (p : List Bool) (xs : List A) (i : ℕ) (other : A) → i < length (chosen p xs) → get_or (chosen p xs) i other ≡ get_or xs (place_of p i) other
  unfolding chosen with_flag place_of
  place_is [] xs i other h = absurd (omega arith)
  place_is (f ∷ p) [] i other h = absurd (omega arith)
  place_is (true ∷ p) (x ∷ xs) zero other h = refl
  place_is (true ∷ p) (x ∷ xs) (suc i) other h = place_is p xs i other (omega arith)
  place_is (false ∷ p) (x ∷ xs) i other h = place_is p xs i other h

  place-front : (p : List Bool) (xs : List A) (i : ℕ) → i < length (chosen p xs) → take i (chosen p xs) ≡ chosen (take (place_of p i) p) (take (place_of p i) xs)
  unfolding chosen with_flag place_of
  place-front [] xs i h = absurd (omega arith)
  place-front (f ∷ p) [] i h = absurd (omega arith)
  place-front (true ∷ p) (x ∷ xs) zero h = refl
  place-front (true ∷ p) (x ∷ xs) (suc i) h = ap (λ (ys : List A). x ∷ ys) (place-front p xs i (omega arith))
  place-front (false ∷ p) (x ∷ xs) i h = place-front p xs i h

  -- and where an element went whose flag is set
  went : (p : List Bool) (xs : List A) (n : ℕ) (other : A) → n < length xs → get_or p n false ≡ true → (k : ℕ) × (get_elem? (chosen p xs) k ≡ some (get_or xs n other))
  unfolding chosen with_flag
  went [] xs n other h e = nonsense e
  went (f ∷ p) [] n other h e = absurd (omega arith)
  went (true ∷ p) (x ∷ xs) zero other h e = (0, refl)
  went (false ∷ p) (x ∷ xs) zero other h e = nonsense e
  went (true ∷ p) (x ∷ xs) (suc n) other h e = let k = went p xs n other (omega arith) e in (suc k.0, k.1)
  went (false ∷ p) (x ∷ xs) (suc n) other h e = went p xs n other (omega arith) e

  there : (xs : List A) (i : ℕ) (other : A) → i < length xs → get_elem? xs i ≡ some (get_or xs i other)
  there [] i other h = absurd (omega arith)
  there (x ∷ xs) zero other h = refl
  there (x ∷ xs) (suc i) other h = there xs i other (omega arith)

  found-there : (xs : List A) (i : ℕ) (other : A) {x : A} → get_elem? xs i ≡ some x → get_or xs i other ≡ x
  found-there [] i other e = absurd (none_some e)
  found-there (x ∷ xs) zero other e = cc
  found-there (x ∷ xs) (suc i) other e = found-there xs i other e

  some-place : (test : A → Bool) (xs : List A) (other : A) → some_of test xs ≡ true → (i : ℕ) × (i < length xs) × (test (get_or xs i other) ≡ true)
  unfolding some_of
  some-place test [] other e = nonsense e
  some-place test (x ∷ xs) other e = here (test x) refl e (λ k. some-place test xs other k)
    where
      here : (b : Bool) → test x ≡ b → (b || some_of test xs) ≡ true → (some_of test xs ≡ true → (i : ℕ) × (i < length xs) × (test (get_or xs i other) ≡ true))
          → (i : ℕ) × (i < length (x ∷ xs)) × (test (get_or (x ∷ xs) i other) ≡ true)
      here true q h k = (0, omega arith, q)
      here false q h k = let r = k h in (suc r.0, omega (arith, r.1), r.2)

  pub some_of_chosen : (test : A → Bool) (p : List Bool) (xs : List A) → some_of test (chosen p xs) ≡ true → some_of test xs ≡ true
  unfolding some_of chosen with_flag
  some_of_chosen test [] xs e = nonsense e
  some_of_chosen test (f ∷ p) [] e = e
  some_of_chosen test (true ∷ p) (x ∷ xs) e = or_same (test x) (some_of test (chosen p xs)) (some_of test xs) (some_of_chosen test p xs) e
    where
      or_same : (a b c : Bool) → (b ≡ true → c ≡ true) → (a || b) ≡ true → (a || c) ≡ true
      or_same true b c f e = refl
      or_same false b c f e = f e
  some_of_chosen test (false ∷ p) (x ∷ xs) e = rw (some_of_chosen test p xs e) (or_true (test x))
    where
      or_true : (b : Bool) → (b || true) ≡ true
      or_true true = refl
      or_true false = refl

  chosen-full : (xs : List A) → chosen (replicate (length xs) true) xs ≡ xs
  unfolding chosen with_flag
  chosen-full [] = refl
  chosen-full (x ∷ xs) = ap (λ (ys : List A). x ∷ ys) (chosen-full xs)

-- a table that a file can hold
module _ (t : Table) (h : FileWithin t) where
  clauses-in : Each ClauseWithin t.clauses
  unfolding all_clauses
  clauses-in = each_left ClauseWithin t.clauses (t.question ∷ []) h.table.clauses

  question_in : ClauseWithin t.question
  unfolding all_clauses Each
  question_in = (each_right ClauseWithin t.clauses (t.question ∷ []) h.table.clauses).0

  -- clauses with the same words are the same
  same_clause : (m n : ℕ) → m < length t.clauses → n < length t.clauses → same_words (clause_words (clause_no t m)) (clause_words (clause_no t n)) ≡ true → clause_no t m ≡ clause_no t n
  same_clause m n a b e =
      sym (clause_decoded (clause_no t m) (each_at ClauseWithin t.clauses m t.question a clauses-in))
      ∙ ap (λ (ws : List ℕ). clause_of ws) (same_true (clause_words (clause_no t m)) (clause_words (clause_no t n)) e)
      ∙ clause_decoded (clause_no t n) (each_at ClauseWithin t.clauses n t.question b clauses-in)

  -- a repeat has an earlier clause, and the first of them repeats none
  repeat-of : (n : ℕ) → n < length t.clauses → repeats t n ≡ true → (m : ℕ) × (m < n) × (clause_no t m ≡ clause_no t n)
  unfolding repeats
  repeat-of n b e =
      let test : Clause → Bool = λ c. same_words (clause_words c) (clause_words (clause_no t n)) in
      let q = some-place test (take n t.clauses) t.question e in
      let short : length (take n t.clauses) ≡ n = length-take-le n t.clauses (omega arith) in
      let early : q.0 < n = omega (arith, q.1) in
      let there = get_or-take n t.clauses q.0 t.question early in
      (q.0, early, same_clause q.0 n (omega arith) b (ap test (sym there) ∙ q.2))

pub record Earliest (t : Table) (n : ℕ) : Type 0 where
  pub number : ℕ
  pub below : number < length t.clauses
  pub before : number ≤ n
  pub fresh : repeats t number ≡ false
  pub same : clause_no t number ≡ clause_no t n

pub earliest : (t : Table) → FileWithin t → (k n : ℕ) → n < k → n < length t.clauses → Earliest t n
earliest t h zero n a b = absurd (omega arith)
earliest t h (suc k) n a b = choose (repeats t n) refl (λ m l. earliest t h k m (omega arith) (omega arith))
  where
    choose : (r : Bool) → repeats t n ≡ r → ((m : ℕ) → m < n → Earliest t m) → Earliest t n
    choose false e further = record { number = n; below = b; before = omega arith; fresh = e; same = refl }
    choose true e further =
        let r = repeat-of t h n b e in
        let s = further r.0 r.1 in
        record { number = s.number; below = s.below; before = omega (arith, s.before, r.1); fresh = s.fresh; same = s.same ∙ r.2 }

-- at every bound a closed tableau exists in one exactly when one exists in the other
abbrev Exists : Table → ℕ → Type 0
Exists t bound = (ss : List Step) × Closed (base t bound) ss

-- a clause before the question, or the question, found among the clauses still present
found_chosen : (t : Table) (p : List Bool) (n : ℕ) → n < length t.clauses → get_or p n false ≡ true → (k : ℕ) × (get_elem? (all_clauses (remaining t p)) k ≡ some (clause_no t n))
unfolding remaining all_clauses
found_chosen t p n b f =
    let k = went p t.clauses n t.question b f in
    (k.0, some_append (chosen p t.clauses) (t.question ∷ []) k.0 k.1)

found_question : (t : Table) (p : List Bool) → (k : ℕ) × (get_elem? (all_clauses (remaining t p)) k ≡ some t.question)
unfolding remaining all_clauses
found_question t p = (length (chosen p t.clauses), some_last (chosen p t.clauses) t.question)

plain : {cs : List Clause} {c : Clause} → (k : ℕ) × (get_elem? cs k ≡ some c) → Found cs c
plain {cs} {c} k = record { place = k.0; clause = c; there = k.1; literals = unchanged c.literals }

module _ (t : Table) (h : FileWithin t) where
  -- repeats
  unrepeated-covers : Covered t (remaining t (unrepeated t))
  unfolding all_clauses
  unrepeated-covers = record { finds = λ i c e. plain (finds i c (last_or_before t.clauses t.question i e)) }
    where
      finds : (i : ℕ) (c : Clause) → ((i ≡ length t.clauses) × (c ≡ t.question)) ⊎ ((i < length t.clauses) × (get_elem? t.clauses i ≡ some c))
          → (k : ℕ) × (get_elem? (all_clauses (remaining t (unrepeated t))) k ≡ some c)
      finds i c (inl q) = let k = found_question t (unrepeated t) in (k.0, k.1 ∙ ap some (sym q.1))
      finds i c (inr q) =
          let m = earliest t h (suc i) i (omega arith) q.0 in
          let k = found_chosen t (unrepeated t) m.number m.below (unrepeated_at t m.number m.below ∙ ap (λ (b : Bool). not b) m.fresh) in
          (k.0, k.1 ∙ ap some (m.same ∙ found-there t.clauses i t.question q.1))

  same-question : (p : List Bool) → (remaining t p).question ≡ t.question
  unfolding remaining
  same-question p = refl

  -- a round
  round-spares : (p : List Bool) → Spares (remaining t p) (remaining t (round t p))
  unfolding all_clauses remaining
  round-spares p = record { question = refl; finds = λ i c e d. finds i c d (last_or_before (chosen p t.clauses) t.question i e) }
    where
      finds : (i : ℕ) (c : Clause) → dead (remaining t p) c ≡ false
          → ((i ≡ length (chosen p t.clauses)) × (c ≡ t.question)) ⊎ ((i < length (chosen p t.clauses)) × (get_elem? (chosen p t.clauses) i ≡ some c))
          → (k : ℕ) × (get_elem? (all_clauses (remaining t (round t p))) k ≡ some c)
      finds i c d (inl q) = let k = found_question t (round t p) in (k.0, k.1 ∙ ap some (sym q.1))
      finds i c d (inr q) =
          let n = place_of p i in
          let below = place_below p t.clauses i q.0 in
          let is : clause_no t (place_of p i) ≡ c = sym (place_is p t.clauses i t.question q.0) ∙ found-there (chosen p t.clauses) i t.question q.1 in
          let lives : dead (remaining t p) (clause_no t (place_of p i)) ≡ false = ap (λ (x : Clause). dead (remaining t p) x) is ∙ d in
          let flag : get_or (round t p) (place_of p i) false ≡ true = round_at t p n below ∙ rw (place-flag p t.clauses i q.0, lives) in
          let k = found_chosen t (round t p) n below flag in
          (k.0, k.1 ∙ ap some is)

  rounds-closed : (left : ℕ) (p : List Bool) (bound : ℕ) → Exists (remaining t p) bound → Exists (remaining t (rounds t left p)) bound
  unfolding rounds
  rounds-closed zero p bound c = c
  rounds-closed (suc left) p bound c = rounds-closed left (round t p) bound (spared_closed (round-spares p) bound c)

  slim-closed : (bound : ℕ) → Exists t bound → Exists (slim_table t) bound
  unfolding slim_table kept_flags remaining
  slim-closed bound c =
      rounds-closed (length t.clauses) (unrepeated t) bound (covered_closed unrepeated-covers (unchanged t.question.literals) bound c)

  -- back again
  slim-covered : Covered (slim_table t) t
  unfolding slim_table all_clauses remaining
  slim-covered = record { finds = λ i c e. plain (finds i c (last_or_before (chosen (kept_flags t) t.clauses) t.question i e)) }
    where
      finds : (i : ℕ) (c : Clause)
          → ((i ≡ length (chosen (kept_flags t) t.clauses)) × (c ≡ t.question)) ⊎ ((i < length (chosen (kept_flags t) t.clauses)) × (get_elem? (chosen (kept_flags t) t.clauses) i ≡ some c))
          → (k : ℕ) × (get_elem? (t.clauses ++ (t.question ∷ [])) k ≡ some c)
      finds i c (inl q) = (length t.clauses, some_last t.clauses t.question ∙ ap some (sym q.1))
      finds i c (inr q) =
          let p = kept_flags t in
          let n = place_of p i in
          let below = place_below p t.clauses i q.0 in
          let is : clause_no t (place_of p i) ≡ c = sym (place_is p t.clauses i t.question q.0) ∙ found-there (chosen p t.clauses) i t.question q.1 in
          (n, some_append t.clauses (t.question ∷ []) n (there t.clauses n t.question below ∙ ap some is))

  back-closed : (bound : ℕ) → Exists (slim_table t) bound → Exists t bound
  unfolding slim_table remaining
  back-closed bound c = covered_closed slim-covered (unchanged t.question.literals) bound c

-- what is left can be held by a file
fewer_words : (p : List Bool) (cs : List Clause) → length (clauses_words (chosen p cs)) ≤ length (clauses_words cs)
unfolding chosen with_flag clauses_words
fewer_words [] cs = omega arith
fewer_words (f ∷ p) [] = omega arith
fewer_words (true ∷ p) (c ∷ cs) =
    let k = fewer_words p cs in
    omega (arith, length-append (clause_words c) (clauses_words (chosen p cs)), length-append (clause_words c) (clauses_words cs))
fewer_words (false ∷ p) (c ∷ cs) = let k = fewer_words p cs in omega (arith, length-append (clause_words c) (clauses_words cs))

counts : (t : Table) → length (all_clauses t) ≡ length t.clauses + 1
unfolding all_clauses
counts t = length-append t.clauses (t.question ∷ [])

long_body : (t : Table) → length (body_words t) ≡ length (clauses_words t.clauses) + length (clause_words t.question)
long_body t = ap (λ (ws : List ℕ). length ws) (body_words_lem t) ∙ length-append (clauses_words t.clauses) (clause_words t.question)

module _ (t : Table) (p : List Bool) where
  fewer-clauses : length (all_clauses (remaining t p)) ≤ length (all_clauses t)
  unfolding remaining
  fewer-clauses = omega (arith, counts t, counts (remaining t p), chosen_few p t.clauses)

  shorter_body : length (body_words (remaining t p)) ≤ length (body_words t)
  unfolding remaining
  shorter_body = omega (arith, long_body t, long_body (remaining t p), fewer_words p t.clauses)

module _ (t : Table) (h : FileWithin t) where
  pub slim_within : FileWithin (slim_table t)
  unfolding slim_table
  slim_within =
      let p = kept_flags t in
      record {
        table = record { few = omega (arith, fewer-clauses t p, h.table.few); clauses = remaining_within t p (clauses-in t h) (question_in t h) };
        question = subst (λ (c : Clause). Each (λ l. l.negative ≡ true) c.literals) (sym (same-question t h p)) h.question;
        unmarked = subst (λ (c : Clause). c.restricted ≡ false) (sym (same-question t h p)) h.unmarked;
        short = omega (arith, shorter_body t p, h.short);
      }

  -- the numbers told
  numbers_many : length (old_numbers t) ≡ length (all_clauses (slim_table t))
  unfolding old_numbers slim_table remaining
  numbers_many =
      let p = kept_flags t in
      length-append (chosen p (numbers_up_to (length t.clauses))) (length t.clauses ∷ [])
      ∙ omega (arith, chosen_length p (numbers_up_to (length t.clauses)) t.clauses (numbers_length (length t.clauses)), counts (remaining t p))

  same_at : (i : ℕ) → i < length (all_clauses (slim_table t)) → SameClauseAt (slim_table t) t i (get_or (old_numbers t) i 0)
  unfolding old_numbers slim_table remaining all_clauses
  same_at i b = by_cases (dec_lt i (length (chosen (kept_flags t) t.clauses)))
    where
      alike : length (chosen (kept_flags t) (numbers_up_to (length t.clauses))) ≡ length (chosen (kept_flags t) t.clauses)
      alike = chosen_length (kept_flags t) (numbers_up_to (length t.clauses)) t.clauses (numbers_length (length t.clauses))

      by_cases : Dec (i < length (chosen (kept_flags t) t.clauses)) → SameClauseAt (remaining t (kept_flags t)) t i (get_or (chosen (kept_flags t) (numbers_up_to (length t.clauses)) ++ (length t.clauses ∷ [])) i 0)
      by_cases (yes k) =
          let p = kept_flags t in
          let n = place_of p i in
          let k' : i < length (chosen (kept_flags t) (numbers_up_to (length t.clauses))) = omega (arith, alike) in
          let below = place_below p t.clauses i k in
          let number : get_or (chosen (kept_flags t) (numbers_up_to (length t.clauses)) ++ (length t.clauses ∷ [])) i 0 ≡ place_of (kept_flags t) i =
          get_or-append (chosen p (numbers_up_to (length t.clauses))) (length t.clauses ∷ []) 0 i k'
          ∙ place_is p (numbers_up_to (length t.clauses)) i 0 k' ∙ number_at (length t.clauses) n below
          in
          let there-new = some_append (chosen p t.clauses) (t.question ∷ []) i (there (chosen p t.clauses) i t.question k) in
          let there-old = some_append t.clauses (t.question ∷ []) n (there t.clauses n t.question below) in
          rw number
          (record {
            clause = there-new ∙ ap some (place_is p t.clauses i t.question k) ∙ sym there-old;
            question = (λ e. absurd (omega arith), λ e. absurd (omega arith));
          })
      by_cases (no k) =
          let p = kept_flags t in
          let last : i ≡ length (chosen (kept_flags t) t.clauses) = omega (arith, length-append (chosen p t.clauses) (t.question ∷ [])) in
          let number : get_or (chosen (kept_flags t) (numbers_up_to (length t.clauses)) ++ (length t.clauses ∷ [])) i 0 ≡ length t.clauses =
          get_or_at (chosen p (numbers_up_to (length t.clauses))) (length t.clauses) [] 0 i (alike ∙ sym last)
          in
          rw number
          (record {
            clause = ap (λ (m : ℕ). get_elem? (chosen p t.clauses ++ (t.question ∷ [])) m) last ∙ some_last (chosen p t.clauses) t.question ∙ sym (some_last t.clauses t.question);
            question = (λ e. refl, λ e. last);
          })

  same_copied : (steps : List Step) → ((clause literal : ℕ) → Extension clause literal ∈ steps → clause < length (all_clauses (slim_table t))) → SameCopied (slim_table t) t (λ n. get_or (old_numbers t) n 0) steps
  unfolding slim_table
  same_copied steps in_range =
      record { question = same-question t h (kept_flags t); copied = λ clause literal m. same_at clause (in_range clause literal m) }

-- a proof accepted for what is left, put back
all_in : {A : Type 0} (P : A → Type 0) {x : A} {xs : List A} → x ∈ xs → All P xs → P x
unfolding All
all_in P first h = h.0
all_in P (later m) h = all_in P m h.1

short_clauses : (cs : List Clause) → Each ClauseWithin cs → All (λ c. length c.literals ≤ 7) cs
unfolding Each All
short_clauses [] h = tt
short_clauses (c ∷ cs) h = (h.0.few, short_clauses cs h.1)

module _ (t : Table) (h : FileWithin t) (bound : ℕ) (steps : List Step) (p : Play) (e : check (base (slim_table t) bound) steps ≡ passed p) where
  copied : SameCopied (slim_table t) t (λ n. get_or (old_numbers t) n 0) steps
  copied =
      let S = base (slim_table t) bound in
      let c = (passed_closed S steps p e).0 in
      let range = steps_in_range S (short_clauses (all_clauses (slim_table t)) (slim_within t h).table.clauses) c in
      same_copied t h steps (λ clause literal m. (all_in (InRange S) m range).0)

  moved_back : check (base t bound) (map (put_back (old_numbers t)) steps) ≡ passed p
  moved_back = local_check copied every_leaf bound ∙ e

  same_answer : answer_of t p ≡ answer_of (slim_table t) p
  unfolding answer_of
  same_answer = same_words_lem _ (slim_table t) t p.tableau copied.question

-- slimming again
pub or_neither : (a b : Bool) → (a || b) ≡ false → (a ≡ false) × (b ≡ false)
or_neither true b e = nonsense (sym e)
or_neither false b e = (refl, e)

pub not_so : (b : Bool) → (b ≡ true → false ≡ true) → b ≡ false
not_so true f = sym (f refl)
not_so false f = refl

remaining_all : (u : Table) → remaining u (replicate (length u.clauses) true) ≡ u
unfolding remaining
remaining_all u = ap (λ (cs : List Clause). record { clauses = cs; question = u.question }) (chosen-full u.clauses)

left_of : (u : Table) → slim_table u ≡ remaining u (kept_flags u)
unfolding slim_table
left_of u = refl

numbers_by : List Bool → Table → List ℕ
numbers_by p u = chosen p (numbers_up_to (length u.clauses)) ++ (length u.clauses ∷ [])

all_numbers : (u : Table) → numbers_by (replicate (length u.clauses) true) u ≡ numbers_up_to (length (all_clauses u))
unfolding numbers_by numbers_up_to
all_numbers u =
    let n = length u.clauses in
    let full : chosen (replicate (length u.clauses) true) (numbers_up_to (length u.clauses)) ≡ numbers_up_to (length u.clauses) =
    subst (λ (k : ℕ). chosen (replicate k true) (numbers_up_to (length u.clauses)) ≡ numbers_up_to (length u.clauses)) (numbers_length n) (chosen-full (numbers_up_to n))
    in
    ap (λ (ns : List ℕ). ns ++ (length u.clauses ∷ [])) full ∙ ap (λ (k : ℕ). numbers_up_to k) (sym (counts u ∙ add-one n))

old_by : (u : Table) → old_numbers u ≡ numbers_by (kept_flags u) u
unfolding old_numbers numbers_by
old_by u = refl

module _ (t : Table) where
  kept-clause : (n : ℕ) → n < length (slim_table t).clauses → clause_no (slim_table t) n ≡ clause_no t (place_of (kept_flags t) n)
  unfolding slim_table remaining
  kept-clause n b = place_is (kept_flags t) t.clauses n t.question b

  still_kept : (n : ℕ) → n < length (slim_table t).clauses → (repeats t (place_of (kept_flags t) n) ≡ false) × (dead (slim_table t) (clause_no t (place_of (kept_flags t) n)) ≡ false)
  unfolding slim_table remaining droppable
  still_kept n b =
      or_neither (repeats t (place_of (kept_flags t) n)) (dead (remaining t (kept_flags t)) (clause_no t (place_of (kept_flags t) n)))
      ((kept_slim t).settled (place_of (kept_flags t) n) (place-flag (kept_flags t) t.clauses n b))

  no_repeat : (n : ℕ) → n < length (slim_table t).clauses → repeats (slim_table t) n ≡ false
  unfolding repeats slim_table remaining
  no_repeat n b =
      let p = kept_flags t in
      let m = place_of (kept_flags t) n in
      let test : Clause → Bool = λ c. same_words (clause_words c) (clause_words (clause_no t (place_of (kept_flags t) n))) in
      not_so (repeats (slim_table t) n)
      (λ e. sym (still_kept n b).0
      ∙ some_of_chosen test (take m p) (take m t.clauses)
      (ap (λ (cs : List Clause). some_of test cs) (sym (place-front p t.clauses n b))
      ∙ ap (λ (c : Clause). some_of (λ d. same_words (clause_words d) (clause_words c)) (take n (chosen (kept_flags t) t.clauses))) (sym (kept-clause n b))
      ∙ e))

  pub slim_slim : Slim (slim_table t) (replicate (length (slim_table t).clauses) true)
  unfolding droppable
  slim_slim =
      record {
        reached = as_it_is;
        settled = λ n e. settled n (omega (arith, flag_below (replicate (length (slim_table t).clauses) true) n e, length-replicate (length (slim_table t).clauses) true));
      }
    where
      settled : (n : ℕ) → n < length (slim_table t).clauses
          → (repeats (slim_table t) n || dead (remaining (slim_table t) (replicate (length (slim_table t).clauses) true)) (clause_no (slim_table t) n)) ≡ false
      settled n b = rw (no_repeat n b, remaining_all (slim_table t), kept-clause n b) (still_kept n b).1

  kept_all : kept_flags (slim_table t) ≡ replicate (length (slim_table t).clauses) true
  kept_all = one_slim (slim_table t) (kept_flags (slim_table t)) (replicate (length (slim_table t).clauses) true) (kept_slim (slim_table t)) slim_slim

  pub again : slim_table (slim_table t) ≡ slim_table t
  again = left_of (slim_table t) ∙ ap (λ (p : List Bool). remaining (slim_table t) p) kept_all ∙ remaining_all (slim_table t)

  pub same_numbers : old_numbers (slim_table t) ≡ numbers_up_to (length (all_clauses (slim_table t)))
  same_numbers = old_by (slim_table t) ∙ ap (λ (p : List Bool). numbers_by p (slim_table t)) kept_all ∙ all_numbers (slim_table t)

-- what a call that slims gives
taken : (b : Bool) (g : Given) (status place : ℕ) → (status ≡ 0 → ⊥) → (cond b g (refused status place)).outcome.status ≡ 0 → b ≡ true
taken true g status place n e = refl
taken false g status place n e = absurd (n e)

accepted_judged : (b : Bool) (g : Given) (status place : ℕ) → (cond b g (refused status place)).outcome.status ≡ 0 → eqb status 0 ≡ b → status ≡ 0
accepted_judged true g status place e f = eqb-true status 0 f
accepted_judged false g status place e f = e

pub record Granted (file : List ℕ) (given : Given) : Type 0 where
  pub accepted : (judge file).status ≡ 0
  pub gives : given ≡ granted (file_words (slim_table (table_in file))) (old_numbers (table_in file))

pub slims_granted : (file : List ℕ) (given : Given) → Slims file given → Granted file given
unfolding slim_call if_it_fits
slims_granted file given s =
    let room = s.room in
    let number_room = s.number_room in
    let t = table_in file in
    let zero-status : (slim_call file s.room s.number_room).outcome.status ≡ 0 = ap (λ (g : Given). g.outcome.status) (sym s.call) ∙ s.status in
    let z : (judge file).status ≡ 0 = accepted_judged (eqb (judge file).status 0) (if_it_fits t room number_room) (judge file).status (judge file).place zero-status refl in
    let inner : slim_call file s.room s.number_room ≡ if_it_fits (table_in file) s.room s.number_room = rw (eq-eqb (judge file).status 0 z) in
    let fits = taken (leb (length (file_words (slim_table t))) room && leb (length (old_numbers t)) number_room) (granted (file_words (slim_table t)) (old_numbers t)) 16 0 (λ e. omega arith) (ap (λ (g : Given). g.outcome.status) (sym inner) ∙ zero-status) in
    record { accepted = z; gives = s.call ∙ inner ∙ rw fits }

module _ (file : List ℕ) (given : Given) (s : Slims file given) where
  granted-so : Granted file given
  granted-so = slims_granted file given s

  holds : FileWithin (table_in file)
  holds = file_within file s.words granted-so.accepted

  new-file : given.file ≡ file_words (slim_table (table_in file))
  new-file = ap (λ (g : Given). g.file) granted-so.gives

  new-numbers : given.numbers ≡ old_numbers (table_in file)
  new-numbers = ap (λ (g : Given). g.numbers) granted-so.gives

  new-table : table_in given.file ≡ slim_table (table_in file)
  new-table = ap (λ (ws : List ℕ). table_in ws) new-file ∙ file_decoded (slim_table (table_in file)) (slim_within (table_in file) holds).table

  new-judged : judge given.file ≡ record { status = 0; place = 0; clauses = length (all_clauses (slim_table (table_in file))); question = length (clauses_words (slim_table (table_in file)).clauses) }
  new-judged = ap (λ (ws : List ℕ). judge ws) new-file ∙ file_accepted (slim_table (table_in file)) (slim_within (table_in file) holds)

  told-words : length given.file ≡ given.outcome.words
  told-words = rw granted-so.gives

  told-clauses : length given.numbers ≡ given.outcome.clauses
  told-clauses = rw granted-so.gives

  clauses-many : length (all_clauses (slim_table (table_in file))) ≡ given.outcome.clauses
  clauses-many = sym (numbers_many (table_in file) holds) ∙ ap length (sym new-numbers) ∙ told-clauses

pub slimmer_file_accepted : SlimmerFileAccepted
slimmer_file_accepted file given s = (
  ap (λ (j : Judgement). j.status) (new-judged file given s),
  new-table file given s,
  told-words file given s,
  ap (λ (j : Judgement). j.clauses) (new-judged file given s) ∙ clauses-many file given s,
  told-clauses file given s,
)

pub same_proofs_exist : SameProofsExist
same_proofs_exist file given s bound =
    rw (new-table file given s) (back-closed (table_in file) (holds file given s) bound, slim-closed (table_in file) (holds file given s) bound)

pub proofs_move_back : ProofsMoveBack
proofs_move_back file given s bound steps p e =
    let e' = rw (new-table file given s) at e in
    rw (new-table file given s, new-numbers file given s) (moved_back (table_in file) (holds file given s) bound steps p e', same_answer (table_in file) (holds file given s) bound steps p e')

-- the words of a proof
encoded_all : (number : ℕ → ℕ) (proof : List ℕ) → map encoded (map (renumbered number) (map step_of proof)) ≡ map (λ w. encoded (renumbered number (step_of w))) proof
encoded_all number [] = refl
encoded_all number (w ∷ ws) = ap (λ (vs : List ℕ). encoded (renumbered number (step_of w)) ∷ vs) (encoded_all number ws)

words_moved : (t : Table) → FileWithin t → (bound : ℕ) → bound ≤ 32 → (proof : List ℕ) (p : Play) → check (base (slim_table t) bound) (map step_of proof) ≡ passed p
    → check (base t bound) (map step_of (map (put_back_word (old_numbers t)) proof)) ≡ passed p
words_moved t h bound low proof p e =
    let back = moved_back t h bound (map step_of proof) p e in
    let S = base t bound in
    let steps = map (put_back (old_numbers t)) (map step_of proof) in
    let whole = proof_has_words S h.table low steps (passed_closed S steps p back).0 in
    ap (λ (ws : List ℕ). check (base t bound) (map step_of ws)) (sym (encoded_all (λ n. get_or (old_numbers t) n 0) proof))
    ∙ ap (λ (ss : List Step). check (base t bound) ss) whole
    ∙ back

pub proof_words_move_back : ProofWordsMoveBack
proof_words_move_back file given s bound low proof p e =
    rw (new-numbers file given s) (words_moved (table_in file) (holds file given s) bound low proof p (rw (new-table file given s) at e))

accepted_call : (file : List ℕ) (room number_room : ℕ) → (judge file).status ≡ 0 → slim_call file room number_room ≡ if_it_fits (table_in file) room number_room
unfolding slim_call
accepted_call file room number_room z = rw (eq-eqb (judge file).status 0 z)

fitting : (u : Table) (room number_room : ℕ) → length (file_words (slim_table u)) ≤ room → length (old_numbers u) ≤ number_room
    → if_it_fits u room number_room ≡ granted (file_words (slim_table u)) (old_numbers u)
unfolding if_it_fits
fitting u room number_room a b = rw (le-leb (length (file_words (slim_table u))) room a, le-leb (length (old_numbers u)) number_room b)

pub slim_again : SlimAgain
slim_again file given s room number_room h k =
    let t = table_in file in
    let u = slim_table (table_in file) in
    let words : file_words (slim_table (slim_table (table_in file))) ≡ given.file = ap (λ (v : Table). file_words v) (again t) ∙ sym (new-file file given s) in
    let numbers : old_numbers (slim_table (table_in file)) ≡ numbers_up_to given.outcome.clauses = same_numbers t ∙ ap (λ (n : ℕ). numbers_up_to n) (clauses-many file given s) in
    let many : length (old_numbers (slim_table (table_in file))) ≡ length given.numbers = ap length numbers ∙ numbers_length given.outcome.clauses ∙ sym (told-clauses file given s) in
    accepted_call given.file room number_room (ap (λ (j : Judgement). j.status) (new-judged file given s))
    ∙ ap (λ (v : Table). if_it_fits v room number_room) (new-table file given s)
    ∙ fitting u room number_room (omega (arith, ap length words)) (omega (arith, many))
    ∙ ap₂ (λ (ws ns : List ℕ). granted ws ns) words numbers
