-- What education passes over, and what stays.
use mathlib.Core.Path.{◌≡◌, refl, ap, ◌∙◌}
use mathlib.Core.Bool.{Bool, true, false}
use mathlib.Core.List.{List, [], ◌∷◌, ◌++◌}
use Prim.Native.Nat.{ℕ, ◌≤◌}
use native.Mathlib.Omega.{arith}
use lib.ListN.{length, length-append}
use Rattle.table.specs.Syntax.{Clause, Table, all_clauses}
use Rattle.table.specs.Encode.{clause_words, clauses_words, body_words}
use Rattle.table.specs.Limits.{Each, ClauseWithin, FileWithin}
use Rattle.table.specs.Seen.{unrestricted_of, unrestricted}
use Rattle.table.proofs.Encoding.{each_append}
use Rattle.table.proofs.FileEncoding.{clauses_append}

-- a clause is passed over, or kept in its place
pub passed_over : (c : Clause) (cs : List Clause) → c.restricted ≡ true → unrestricted_of (c ∷ cs) ≡ unrestricted_of cs
unfolding unrestricted_of
passed_over c cs e = rw e

pub kept : (c : Clause) (cs : List Clause) → c.restricted ≡ false → unrestricted_of (c ∷ cs) ≡ c ∷ unrestricted_of cs
unfolding unrestricted_of
kept c cs e = rw e

-- what a step past a restricted clause and a step past another keep holds of all clauses and those that are not restricted
module _ (P : List Clause → List Clause → Type 0) (none : P [] [])
    (over : (c : Clause) (cs ds : List Clause) → c.restricted ≡ true → P cs ds → P (c ∷ cs) ds)
    (stays : (c : Clause) (cs ds : List Clause) → c.restricted ≡ false → P cs ds → P (c ∷ cs) (c ∷ ds)) where
  one_clause : (c : Clause) (cs : List Clause) (b : Bool) → c.restricted ≡ b → P cs (unrestricted_of cs) → P (c ∷ cs) (unrestricted_of (c ∷ cs))
  one_clause c cs true e h = rw (passed_over c cs e) (over c cs (unrestricted_of cs) e h)
  one_clause c cs false e h = rw (kept c cs e) (stays c cs (unrestricted_of cs) e h)

  pub by_marks : (cs : List Clause) → P cs (unrestricted_of cs)
  unfolding unrestricted_of
  by_marks [] = none
  by_marks (c ∷ cs) = one_clause c cs c.restricted refl (by_marks cs)

abbrev Unmarked : Clause → Type 0
Unmarked c = c.restricted ≡ false

-- no restricted clause is left
pub none_left : (cs : List Clause) → Each Unmarked (unrestricted_of cs)
unfolding Each
none_left = by_marks (λ cs ds. Each Unmarked ds) tt (λ c cs ds e h. h) (λ c cs ds e h. (e, h))

-- where nothing is restricted, all is seen
pub nothing_restricted : (cs : List Clause) → Each Unmarked cs → unrestricted_of cs ≡ cs
unfolding unrestricted_of Each
nothing_restricted [] h = refl
nothing_restricted (c ∷ cs) h = kept c cs h.0 ∙ ap (λ (ds : List Clause). c ∷ ds) (nothing_restricted cs h.1)

pub seen_twice : (cs : List Clause) → unrestricted_of (unrestricted_of cs) ≡ unrestricted_of cs
seen_twice cs = nothing_restricted (unrestricted_of cs) (none_left cs)

-- clauses before others
pub seen_append : (cs ds : List Clause) → unrestricted_of (cs ++ ds) ≡ unrestricted_of cs ++ unrestricted_of ds
seen_append cs ds =
    by_marks (λ xs ys. unrestricted_of (xs ++ ds) ≡ ys ++ unrestricted_of ds) refl
    (λ c xs ys e h. passed_over c (xs ++ ds) e ∙ h)
    (λ c xs ys e h. kept c (xs ++ ds) e ∙ ap (λ (zs : List Clause). c ∷ zs) h)
    cs

-- what holds of every clause, and how many clauses and words there are
pub each_seen : (P : Clause → Type 0) (cs : List Clause) → Each P cs → Each P (unrestricted_of cs)
unfolding Each
each_seen P =
    by_marks (λ xs ys. Each P xs → Each P ys) (λ h. h) (λ c xs ys e go h. go h.1) (λ c xs ys e go h. (h.0, go h.1))

pub fewer_seen : (cs : List Clause) → length (unrestricted_of cs) ≤ length cs
fewer_seen = by_marks (λ xs ys. length ys ≤ length xs) (omega arith) (λ c xs ys e h. omega arith) (λ c xs ys e h. omega arith)

pub shorter_seen : (cs : List Clause) → length (clauses_words (unrestricted_of cs)) ≤ length (clauses_words cs)
unfolding clauses_words
shorter_seen =
    by_marks (λ xs ys. length (clauses_words ys) ≤ length (clauses_words xs)) (omega arith)
    (λ c xs ys e h. omega (arith, length-append (clause_words c) (clauses_words xs)))
    (λ c xs ys e h. omega (arith, length-append (clause_words c) (clauses_words xs), length-append (clause_words c) (clauses_words ys)))

-- a file can hold what is seen of the table in a file
each_split : (P : Clause → Type 0) (cs ds : List Clause) → Each P (cs ++ ds) → Each P cs × Each P ds
unfolding Each
each_split P [] ds h = (tt, h)
each_split P (c ∷ cs) ds h = let further = each_split P cs ds h.1 in ((h.0, further.0), further.1)

module _ (t : Table) where
  seen_long : length (body_words (unrestricted t)) ≤ length (body_words t)
  unfolding body_words all_clauses unrestricted
  seen_long =
      let q = t.question ∷ [] in
      omega (
        arith,
        ap (λ (ws : List ℕ). length ws) (clauses_append t.clauses q),
        ap (λ (ws : List ℕ). length ws) (clauses_append (unrestricted_of t.clauses) q),
        length-append (clauses_words t.clauses) (clauses_words q),
        length-append (clauses_words (unrestricted_of t.clauses)) (clauses_words q),
        shorter_seen t.clauses,
      )

  pub seen_within : FileWithin t → FileWithin (unrestricted t)
  unfolding all_clauses unrestricted
  seen_within h =
      let q = t.question ∷ [] in
      let parts = each_split ClauseWithin t.clauses q h.table.clauses in
      record {
        table = record {
          few = omega (arith, h.table.few, fewer_seen t.clauses, length-append t.clauses q, length-append (unrestricted_of t.clauses) q);
          clauses = each_append ClauseWithin (unrestricted_of t.clauses) q (each_seen ClauseWithin t.clauses parts.0) parts.1;
        };
        question = h.question;
        unmarked = h.unmarked;
        short = omega (arith, h.short, seen_long);
      }
