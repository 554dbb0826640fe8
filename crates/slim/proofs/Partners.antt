-- A test of literals' words, over the words of clauses, is a test of their literals; and a marked kind is a partner.
use lib.Dec.{eqb}
use lib.ListN.{length, get_or}
use mathlib.Core.Bool.{Bool, true, false, beq, not, ◌&&◌, ◌||◌}
use mathlib.Core.List.{List, [], ◌∷◌, ◌++◌, append_assoc}
use mathlib.Core.Path.{◌≡◌, refl, ap, ap₂, ◌∙◌}
use native.Mathlib.Nat.{zero-add}
use native.Mathlib.Omega.{arith}
use borrow.Author.Tests.{eq-eqb, ne_eqb, eqb-true, eqb-false}
use Prim.Native.Nat.{ℕ, ◌+◌, ◌*◌, ◌^◌, ◌≤◌, ◌<◌}
use Rattle.words.specs.Fields.{kind_of, variable_word, function_word, literal_word, clause_word, sign_bit}
use Rattle.words.proofs.Packed.{variable_kind, function_kind, literal_kind, clause_kind}
use Rattle.table.specs.Syntax.{Term, var, app, Terms, nil, ◌then◌, arity, Literal, Clause, Table, all_clauses}
use Rattle.table.specs.Encode.{term_words, terms_words, literal_words, literals_words, clause_words, clauses_words, body_words}
use Rattle.table.specs.Limits.{TermWithin, TermsWithin, LiteralWithin, Each, ClauseWithin}
use Rattle.slim.specs.Dropping.{some_of, opposed, partnered, dead}
use Rattle.slim.specs.Walking.{kind_index, opposite_index, marking, Marks, lonely}
use Rattle.slim.proofs.Flags.{some_append}

abbrev pub head_word : Literal ℕ → ℕ
head_word l = literal_word l.negative l.predicate (arity l.arguments)

-- a test that no other word passes
module _ (test : ℕ → Bool) (of-literals : (w : ℕ) → (kind_of w ≡ 2 → ⊥) → test w ≡ false) where
  mutual
    unfolding term_words TermWithin some_of

    term-fails : (x : Term ℕ) (v : ℕ) (ws : List ℕ) → v ≤ 16 → TermWithin x v → some_of test (term_words x ++ ws) ≡ some_of test ws
    term-fails (var x) v ws few h =
        let small : x < 2 ^ 10 = omega arith in
        rw (of-literals (variable_word x) (λ e. omega (arith, variable_kind x small)))
    term-fails (app f ts) v ws few h =
        let small : arity ts < 2 ^ 3 = omega (arith, h.1) in
        rw (of-literals (function_word f (arity ts)) (λ e. omega (arith, function_kind f (arity ts) h.0 small))) (terms-fail ts v ws few h.2)

    terms-fail : (ts : Terms ℕ) (v : ℕ) (ws : List ℕ) → v ≤ 16 → TermsWithin ts v → some_of test (terms_words ts ++ ws) ≡ some_of test ws
    terms-fail nil v ws few h = refl
    terms-fail (x then ts) v ws few h =
        ap (λ (us : List ℕ). some_of test us) (append_assoc (term_words x) (terms_words ts) ws)
        ∙ term-fails x v (terms_words ts ++ ws) few h.0
        ∙ terms-fail ts v ws few h.1

  pub some_literal : (v : ℕ) (ls : List (Literal ℕ)) → v ≤ 16 → Each (LiteralWithin v) ls → some_of test (literals_words ls) ≡ some_of (λ l. test (head_word l)) ls
  unfolding literals_words literal_words some_of Each
  some_literal v [] few h = refl
  some_literal v (l ∷ ls) few h =
      ap (λ (b : Bool). test (head_word l) || b) (terms-fail l.arguments v (literals_words ls) few h.0.arguments ∙ some_literal v ls few h.1)

  pub some_in_clause : (c : Clause) → ClauseWithin c → some_of test (clause_words c) ≡ some_of (λ l. test (head_word l)) c.literals
  unfolding clause_words some_of
  some_in_clause c h =
      let word = clause_word c.restricted (length c.literals) c.variables (length (literals_words c.literals)) in
      let kind : kind_of word ≡ 3 =
      clause_kind (length c.literals) c.variables (length (literals_words c.literals)) (omega (arith, h.few)) (omega (arith, h.variables)) (omega (arith, h.follow)) c.restricted
      in
      rw (of-literals word (λ e. omega arith)) (some_literal c.variables c.literals h.variables h.literals)

  pub some_in_clauses : (cs : List Clause) → Each ClauseWithin cs → some_of test (clauses_words cs) ≡ some_of (λ c. some_of (λ l. test (head_word l)) c.literals) cs
  unfolding clauses_words some_of Each
  some_in_clauses [] h = refl
  some_in_clauses (c ∷ cs) h =
      some_append test (clause_words c) (clauses_words cs)
      ∙ ap₂ (λ (a b : Bool). a || b) (some_in_clause c h.0) (some_in_clauses cs h.1)

-- the same test by another name
pub some_same : {A : Type 0} (P : A → Type 0) (f g : A → Bool) → ((x : A) → P x → f x ≡ g x) → (xs : List A) → Each P xs → some_of f xs ≡ some_of g xs
unfolding some_of Each
some_same P f g e [] h = refl
some_same P f g e (x ∷ xs) h = ap₂ (λ (a b : Bool). a || b) (e x h.0) (some_same P f g e xs h.1)

-- literals of one kind and sign have one index
abbrev Small : ℕ → ℕ → Type 0
Small p a = (p < 2 ^ 12) × (a ≤ 4)

pairs : (p a q b : ℕ) → Small p a → Small q b → eqb (b * 4096 + q) (a * 4096 + p) ≡ (eqb p q && eqb a b)
pairs p a q b s r = by_cases (eqb p q) (eqb a b) refl refl
  where
    by_cases : (x y : Bool) → eqb p q ≡ x → eqb a b ≡ y → eqb (b * 4096 + q) (a * 4096 + p) ≡ (x && y)
    by_cases true true e f = eq-eqb (b * 4096 + q) (a * 4096 + p) (omega (arith, eqb-true p q e, eqb-true a b f))
    by_cases true false e f = ne_eqb (b * 4096 + q) (a * 4096 + p) (λ z. eqb-false a b f (omega (arith, eqb-true p q e)))
    by_cases false y e f = ne_eqb (b * 4096 + q) (a * 4096 + p) (λ z. eqb-false p q e (omega arith))

index_of : (n : Bool) (p a : ℕ) → Small p a → kind_index (literal_word n p a) ≡ sign_bit n + (a * 4096 + p)
index_of true p a s = omega (arith, s.0, s.1)
index_of false p a s = omega (arith, s.0, s.1)

opposite_of : (n : Bool) (p a : ℕ) → Small p a → opposite_index (literal_word n p a) ≡ sign_bit (not n) + (a * 4096 + p)
opposite_of true p a s = omega (arith, s.0, s.1)
opposite_of false p a s = omega (arith, s.0, s.1)

shifted : (x y : ℕ) → eqb (32768 + x) (32768 + y) ≡ eqb x y
shifted x y = by_cases (eqb x y) refl
  where
    by_cases : (z : Bool) → eqb x y ≡ z → eqb (32768 + x) (32768 + y) ≡ z
    by_cases true e = eq-eqb (32768 + x) (32768 + y) (omega (arith, eqb-true x y e))
    by_cases false e = ne_eqb (32768 + x) (32768 + y) (λ z. eqb-false x y e (omega arith))

signed : (n m : Bool) (p a q b : ℕ) → Small p a → Small q b → eqb (sign_bit m + (b * 4096 + q)) (sign_bit (not n) + (a * 4096 + p)) ≡ (not (beq n m) && eqb p q && eqb a b)
signed true true p a q b s r = ne_eqb (2 ^ 15 + (b * 4096 + q)) (0 + (a * 4096 + p)) (λ e. omega (arith, s.0, s.1))
signed false false p a q b s r = ne_eqb (0 + (b * 4096 + q)) (2 ^ 15 + (a * 4096 + p)) (λ e. omega (arith, r.0, r.1))
signed true false p a q b s r = rw (zero-add (b * 4096 + q), zero-add (a * 4096 + p)) (pairs p a q b s r)
signed false true p a q b s r = shifted (b * 4096 + q) (a * 4096 + p) ∙ pairs p a q b s r

kinds_meet : (n m : Bool) (p a q b : ℕ) → Small p a → Small q b
    → eqb (kind_index (literal_word m q b)) (opposite_index (literal_word n p a)) ≡ (not (beq n m) && eqb p q && eqb a b)
kinds_meet n m p a q b s r = rw (index_of m q b r, opposite_of n p a s) (signed n m p a q b s r)

meets : (l m : Literal ℕ) (v v' : ℕ) → LiteralWithin v l → LiteralWithin v' m → marking (opposite_index (head_word l)) (head_word m) ≡ opposed l m
unfolding opposed
meets l m v v' wl wm =
    let kind = literal_kind m.predicate (arity m.arguments) wm.predicate (omega (arith, wm.arity)) m.negative in
    rw (eq-eqb (kind_of (head_word m)) 2 kind)
    (kinds_meet l.negative m.negative l.predicate (arity l.arguments) m.predicate (arity m.arguments) (wl.predicate, wl.arity) (wm.predicate, wm.arity))

-- marked kinds
module _ (u : Table) (each : Each ClauseWithin (all_clauses u)) (marks : List Bool) (h : Marks (body_words u) marks) where
  pub partner_marked : (v : ℕ) (l : Literal ℕ) → LiteralWithin v l → get_or marks (opposite_index (head_word l)) false ≡ partnered u l
  unfolding partnered body_words
  partner_marked v l w =
      let k = opposite_index (head_word l) in
      let below : opposite_index (head_word l) < 65536 = omega arith in
      h.shows k below
      ∙ some_in_clauses (marking (opposite_index (head_word l))) (λ x n. rw (ne_eqb (kind_of x) 2 n)) (all_clauses u) each
      ∙ some_same ClauseWithin
      (λ c. some_of (λ m. marking (opposite_index (head_word l)) (head_word m)) c.literals)
      (λ c. some_of (opposed l) c.literals)
      (λ c wc. some_same (LiteralWithin c.variables) (λ m. marking (opposite_index (head_word l)) (head_word m)) (opposed l) (λ m wm. meets l m v c.variables w wm) c.literals wc.literals)
      (all_clauses u) each

  pub dead_marked : (c : Clause) → ClauseWithin c → some_of (lonely marks) (clause_words c) ≡ dead u c
  unfolding dead
  dead_marked c w =
      some_in_clause (lonely marks) (λ x n. rw (ne_eqb (kind_of x) 2 n)) c w
      ∙ some_same (LiteralWithin c.variables) (λ l. lonely marks (head_word l)) (λ l. not (partnered u l)) (λ l wl. alone l wl) c.literals w.literals
    where
      alone : (l : Literal ℕ) → LiteralWithin c.variables l → lonely marks (head_word l) ≡ not (partnered u l)
      alone l wl =
          rw (eq-eqb (kind_of (head_word l)) 2 (literal_kind l.predicate (arity l.arguments) wl.predicate (omega (arith, wl.arity)) l.negative))
          (ap (λ (b : Bool). not b) (partner_marked c.variables l wl))
