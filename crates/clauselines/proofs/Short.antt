-- How long a text can be: a clause's line has at most 4,375 bytes, a table's text at most 2,240,000.
use mathlib.Core.Path.{◌≡◌, refl, ap}
use mathlib.Core.Bool.{Bool, true, false, cond}
use mathlib.Core.List.{List, [], ◌∷◌, ◌++◌}
use Prim.Native.Nat.{ℕ, zero, suc, ◌+◌, ◌*◌, ◌≤◌}
use native.Mathlib.Omega.{arith}
use lib.Dec.{eqb}
use lib.ListN.{length, length-append}
use Rattle.table.specs.Syntax.{Term, var, app, Terms, nil, ◌then◌, Literal, Clause, Table, all_clauses}
use Rattle.table.specs.Encode.{term_words, terms_words, literal_words, literals_words}
use Rattle.table.specs.Limits.{Each, ClauseWithin, Within}
use Rattle.text.specs.Quoted.{bytes}
use Rattle.text.specs.Digits.{digits_of, significant, decimal_text}
use Rattle.clauselines.specs.Lines.{term_text, arguments_text, further_text, sign_text, literal_text, alternatives_text, literals_text, role_text, clause_text, axioms_text, table_text}

-- a number
digits_long : (base count n : ℕ) → length (digits_of base count n) ≡ count
unfolding digits_of
digits_long base zero n = refl
digits_long base (suc count) n = ap suc (digits_long base count n)

shorter_of : (b : Bool) (xs ys : List ℕ) {n : ℕ} → length xs ≤ n → length ys ≤ n → length (cond b xs ys) ≤ n
shorter_of true xs ys h k = h
shorter_of false xs ys h k = k

significant_short : (ds : List ℕ) → length (significant ds) ≤ length ds
unfolding significant
significant_short [] = omega arith
significant_short (d ∷ []) = omega arith
significant_short (d ∷ e ∷ ds) =
    let h = significant_short (e ∷ ds) in shorter_of (eqb d 48) (significant (e ∷ ds)) (d ∷ e ∷ ds) (omega (arith, h)) (omega arith)

pub decimal_short : (n : ℕ) → length (decimal_text n) ≤ 10
decimal_short n = let h = significant_short (digits_of 10 10 n) in omega (arith, h, digits_long 10 10 n)

-- terms
mutual
  unfolding term_text term_words

  term_short : (t : Term ℕ) → length (term_text t) + 1 ≤ 13 * length (term_words t)
  term_short (var x) = let d = decimal_short x in omega (arith, d)
  term_short (app f ts) =
      let d = decimal_short f in
      let a = arguments_short ts in
      omega (arith, d, a, length-append (bytes "f" ++ decimal_text f) (arguments_text ts))

  arguments_short : (ts : Terms ℕ) → length (arguments_text ts) ≤ 13 * length (terms_words ts) + 1
  arguments_short nil = omega arith
  arguments_short (t then ts) =
      let a = term_short t in
      let b = further_short ts in
      omega (arith, a, b, length-append (bytes "(" ++ term_text t) (further_text ts), length-append (term_words t) (terms_words ts))

  further_short : (ts : Terms ℕ) → length (further_text ts) ≤ 13 * length (terms_words ts) + 1
  further_short nil = omega arith
  further_short (t then ts) =
      let a = term_short t in
      let b = further_short ts in
      omega (arith, a, b, length-append (bytes "," ++ term_text t) (further_text ts), length-append (term_words t) (terms_words ts))

-- literals
sign_short : (b : Bool) → length (sign_text b) ≤ 2
unfolding sign_text
sign_short true = omega arith
sign_short false = omega arith

literal_short : (l : Literal ℕ) → length (literal_text l) ≤ 14 * length (literal_words l)
unfolding literal_text literal_words
literal_short l =
    let s = sign_text l.negative in
    let d = decimal_text l.predicate in
    omega (
      arith,
      sign_short l.negative,
      decimal_short l.predicate,
      arguments_short l.arguments,
      length-append (s ++ bytes "p" ++ d) (arguments_text l.arguments),
      length-append (s ++ bytes "p") d,
      length-append s (bytes "p"),
    )

literal_some : (l : Literal ℕ) → 1 ≤ length (literal_words l)
unfolding literal_words
literal_some l = omega arith

alternatives_short : (ls : List (Literal ℕ)) → length (alternatives_text ls) ≤ 17 * length (literals_words ls)
unfolding alternatives_text literals_words
alternatives_short [] = omega arith
alternatives_short (l ∷ ls) =
    omega (
      arith,
      literal_short l,
      literal_some l,
      alternatives_short ls,
      length-append (bytes " | " ++ literal_text l) (alternatives_text ls),
      length-append (literal_words l) (literals_words ls),
    )

literals_short : (ls : List (Literal ℕ)) → length (literals_text ls) ≤ 17 * length (literals_words ls)
unfolding literals_text literals_words
literals_short [] = omega arith
literals_short (l ∷ ls) =
    omega (arith, literal_short l, alternatives_short ls, length-append (literal_text l) (alternatives_text ls), length-append (literal_words l) (literals_words ls))

-- a line
role_short : (b : Bool) → length (role_text b) ≤ 18
unfolding role_text
role_short true = omega arith
role_short false = omega arith

pub clause_short : (number : ℕ) (asked : Bool) (c : Clause) → ClauseWithin c → length (clause_text number asked c) ≤ 4375
unfolding clause_text
clause_short number asked c h =
    let name = bytes "cnf(c" ++ decimal_text number in
    let role = role_text asked in
    let ls = literals_text c.literals in
    omega (
      arith,
      decimal_short number,
      role_short asked,
      literals_short c.literals,
      h.follow,
      length-append (name ++ bytes "," ++ role ++ bytes ",(" ++ ls) (bytes ")).\n"),
      length-append (name ++ bytes "," ++ role ++ bytes ",(") ls,
      length-append (name ++ bytes "," ++ role) (bytes ",("),
      length-append (name ++ bytes ",") role,
      length-append name (bytes ","),
    )

-- a table
axioms_short : (number : ℕ) (cs : List Clause) → Each ClauseWithin cs → length (axioms_text number cs) ≤ 4375 * length cs
unfolding axioms_text Each
axioms_short number [] h = omega arith
axioms_short number (c ∷ cs) h =
    omega (arith, clause_short number false c h.0, axioms_short (suc number) cs h.1, length-append (clause_text number false c) (axioms_text (suc number) cs))

each_parts : (cs : List Clause) (q : Clause) → Each ClauseWithin (cs ++ (q ∷ [])) → Each ClauseWithin cs × ClauseWithin q
unfolding Each
each_parts [] q h = (tt, h.0)
each_parts (c ∷ cs) q h = let k = each_parts cs q h.1 in ((h.0, k.0), k.1)

pub table_parts : (t : Table) → Within t → Each ClauseWithin t.clauses × ClauseWithin t.question
unfolding all_clauses
table_parts t h = each_parts t.clauses t.question h.clauses

pub table_short : (t : Table) → Within t → length (table_text t) ≤ 2240000
unfolding table_text all_clauses
table_short t h =
    let k = table_parts t h in
    omega (
      arith,
      h.few,
      length-append t.clauses (t.question ∷ []),
      axioms_short 0 t.clauses k.0,
      clause_short (length t.clauses) true t.question k.1,
      length-append (axioms_text 0 t.clauses) (clause_text (length t.clauses) true t.question),
    )
