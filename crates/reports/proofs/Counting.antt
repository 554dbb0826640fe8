-- The season report, one law for each outcome, with premises as the code has them.
use mathlib.Core.Path.{◌≡◌, sym, ◌∙◌}
use mathlib.Core.Bool.{Bool, true, false}
use mathlib.Core.List.{List, [], ◌∷◌, ◌++◌}
use Prim.Native.Nat.{ℕ, ◌+◌, ◌-◌, ◌≤◌, ◌<◌}
use native.Mathlib.Omega.{arith}
use lib.Dec.{eqb}
use borrow.Author.Tests.{eq-eqb, ne_eqb}
use Rattle.text.specs.Put.{Put}
use Rattle.text.specs.Quoted.{bytes}
use Rattle.text.specs.Digits.{decimal_text, long_decimal_text}
use Rattle.text.proofs.Putting.{then}
use Rattle.hukolearu.specs.declared.Outcome.{Outcome}
use Rattle.season.specs.Season.{Run, result_of, how_many, tries_of}
use Rattle.season.specs.declared.Report.{Report}
use Rattle.reports.specs.Counts.{sum_of, long_sum_of, AddedUp, ended_text, is_found, status_text, spent_text, asked_text, szs_question_text, title_text, found_counts_text, other_counts_text, last_counts_text, season_text, alone_report, one_report, no_question_text}

-- counts of runs, and of others after them
many_more : (result : ℕ) (runs others : List Run) → how_many result (runs ++ others) ≡ how_many result runs + how_many result others
unfolding how_many
many_more result [] others = omega arith
many_more result (run ∷ runs) others =
    let h = many_more result runs others in omega (arith, h)

tries_more : (runs others : List Run) → tries_of (runs ++ others) ≡ tries_of runs + tries_of others
unfolding tries_of
tries_more [] others = omega arith
tries_more (run ∷ runs) others = let h = tries_more runs others in omega (arith, h)

short : (a b c : ℕ) → c ≡ a + b → c ≤ 4294967295 → sum_of a b ≡ c
short a b c e h = omega arith

long : (a b c : ℕ) → c ≡ a + b → c ≤ 18446744073709551615 → long_sum_of a b ≡ c
long a b c e h = omega arith

pub added_up : AddedUp
unfolding AddedUp
added_up = λ runs others t.
    rw (
      short (how_many 0 runs) (how_many 0 others) _ (many_more 0 runs others) t.definite,
      short (how_many 1 runs) (how_many 1 others) _ (many_more 1 runs others) t.indefinite,
      short (how_many 2 runs) (how_many 2 others) _ (many_more 2 runs others) t.none,
      short (how_many 3 runs) (how_many 3 others) _ (many_more 3 runs others) t.ranout,
      short (how_many 4 runs) (how_many 4 others) _ (many_more 4 runs others) t.toolong,
      short (how_many 5 runs) (how_many 5 others) _ (many_more 5 runs others) t.refused,
      long (tries_of runs) (tries_of others) _ (tries_more runs others) t.tries,
    )

-- what a question came to
module _ {o₀ o₁ : List ℕ} {n₀ n₁ : ℕ} (r : Report) where
  pub ended_definite : r.definite ≡ 1 → Put o₀ n₀ (bytes "found, a definite answer") o₁ n₁ → Put o₀ n₀ (ended_text r) o₁ n₁
  unfolding ended_text
  ended_definite e p = rw (eq-eqb r.definite 1 e) p

  module _ (a : r.definite ≡ 1 → ⊥) where
    pub ended_indefinite : r.indefinite ≡ 1 → Put o₀ n₀ (bytes "found, not definite") o₁ n₁ → Put o₀ n₀ (ended_text r) o₁ n₁
    unfolding ended_text
    ended_indefinite e p = rw (ne_eqb r.definite 1 a, eq-eqb r.indefinite 1 e) p

    module _ (b : r.indefinite ≡ 1 → ⊥) where
      pub ended_none : r.none ≡ 1 → Put o₀ n₀ (bytes "none within the limit") o₁ n₁ → Put o₀ n₀ (ended_text r) o₁ n₁
      unfolding ended_text
      ended_none e p = rw (ne_eqb r.definite 1 a, ne_eqb r.indefinite 1 b, eq-eqb r.none 1 e) p

      module _ (c : r.none ≡ 1 → ⊥) where
        pub ended_ranout : r.ranout ≡ 1 → Put o₀ n₀ (bytes "ran out, nothing is known yet") o₁ n₁ → Put o₀ n₀ (ended_text r) o₁ n₁
        unfolding ended_text
        ended_ranout e p = rw (ne_eqb r.definite 1 a, ne_eqb r.indefinite 1 b, ne_eqb r.none 1 c, eq-eqb r.ranout 1 e) p

        module _ (d : r.ranout ≡ 1 → ⊥) where
          pub ended_toolong : r.toolong ≡ 1 → Put o₀ n₀ (bytes "found, an answer too long to be shown") o₁ n₁ → Put o₀ n₀ (ended_text r) o₁ n₁
          unfolding ended_text
          ended_toolong e p =
              rw (ne_eqb r.definite 1 a, ne_eqb r.indefinite 1 b, ne_eqb r.none 1 c, ne_eqb r.ranout 1 d, eq-eqb r.toolong 1 e) p

          pub ended_refused : (r.toolong ≡ 1 → ⊥) → Put o₀ n₀ (bytes "refused") o₁ n₁ → Put o₀ n₀ (ended_text r) o₁ n₁
          unfolding ended_text
          ended_refused e p =
              rw (ne_eqb r.definite 1 a, ne_eqb r.indefinite 1 b, ne_eqb r.none 1 c, ne_eqb r.ranout 1 d, ne_eqb r.toolong 1 e) p

  module _ {q : Bool} (e : q ≡ is_found r) where
    pub status_found : q ≡ true → Put o₀ n₀ (bytes "Unsatisfiable") o₁ n₁ → Put o₀ n₀ (status_text r) o₁ n₁
    unfolding status_text
    status_found f p = rw (sym e ∙ f) p

    module _ (f : q ≡ false) where
      pub status_none : r.none ≡ 1 → Put o₀ n₀ (bytes "GaveUp") o₁ n₁ → Put o₀ n₀ (status_text r) o₁ n₁
      unfolding status_text
      status_none g p = rw (sym e ∙ f, eq-eqb r.none 1 g) p

      module _ (a : r.none ≡ 1 → ⊥) where
        pub status_ranout : r.ranout ≡ 1 → Put o₀ n₀ (bytes "ResourceOut") o₁ n₁ → Put o₀ n₀ (status_text r) o₁ n₁
        unfolding status_text
        status_ranout g p = rw (sym e ∙ f, ne_eqb r.none 1 a, eq-eqb r.ranout 1 g) p

        pub status_refused : (r.ranout ≡ 1 → ⊥) → Put o₀ n₀ (bytes "InputError") o₁ n₁ → Put o₀ n₀ (status_text r) o₁ n₁
        unfolding status_text
        status_refused g p = rw (sym e ∙ f, ne_eqb r.none 1 a, ne_eqb r.ranout 1 g) p

pub ruleset ended_laws = (ended_definite, ended_indefinite, ended_none, ended_ranout, ended_toolong, ended_refused)

pub ruleset status_laws = (status_found, status_none, status_ranout, status_refused)

-- parts put together
module _ {o₀ o₁ o₂ : List ℕ} {n₀ n₁ n₂ : ℕ} where
  pub found_counts_are : (r : Report) → Put o₀ n₀ (bytes "  found, a definite answer: " ++ decimal_text r.definite) o₁ n₁
      → Put o₁ n₁ (bytes "\n  found, not definite: " ++ decimal_text r.indefinite) o₂ n₂ → Put o₀ n₀ (found_counts_text r) o₂ n₂
  unfolding found_counts_text
  found_counts_are r p q = then p q

  pub spent_is : (tries : ℕ) → Put o₀ n₀ (bytes " (tries " ++ long_decimal_text tries) o₁ n₁ → Put o₁ n₁ (bytes ")\n") o₂ n₂ → Put o₀ n₀ (spent_text tries) o₂ n₂
  unfolding spent_text
  spent_is tries p q = then p q

  module _ {o₃ : List ℕ} {n₃ : ℕ} where
    pub other_counts_are : (r : Report) → Put o₀ n₀ (bytes "\n  none within the limit: " ++ decimal_text r.none) o₁ n₁
        → Put o₁ n₁ (bytes "\n  ran out: " ++ decimal_text r.ranout) o₂ n₂
        → Put o₂ n₂ (bytes "\n  answer too long to be shown: " ++ decimal_text r.toolong) o₃ n₃ → Put o₀ n₀ (other_counts_text r) o₃ n₃
    unfolding other_counts_text
    other_counts_are r p q s = then p (then q s)

    pub last_counts_are : (r : Report) → Put o₀ n₀ (bytes "\n  refused: " ++ decimal_text r.refused) o₁ n₁
        → Put o₁ n₁ (bytes "\n  tries in all: " ++ long_decimal_text r.tries) o₂ n₂ → Put o₂ n₂ (bytes "\n") o₃ n₃
        → Put o₀ n₀ (last_counts_text r) o₃ n₃
    unfolding last_counts_text
    last_counts_are r p q s = then p (then q s)

    module _ {o₄ : List ℕ} {n₄ : ℕ} where
      pub season_is : (table : List ℕ) (limit budget : ℕ) (r : Report) → Put o₀ n₀ (title_text table limit budget) o₁ n₁ → Put o₁ n₁ (found_counts_text r) o₂ n₂
          → Put o₂ n₂ (other_counts_text r) o₃ n₃ → Put o₃ n₃ (last_counts_text r) o₄ n₄ → Put o₀ n₀ (season_text table limit budget r) o₄ n₄
      unfolding season_text
      season_is table limit budget r p q s t = then p (then q (then s t))

      pub title_is : (table : List ℕ) (limit budget : ℕ) → Put o₀ n₀ (bytes "Season report of " ++ table) o₁ n₁
          → Put o₁ n₁ (bytes ", a question may use " ++ decimal_text limit) o₂ n₂ → Put o₂ n₂ (bytes " clauses and " ++ decimal_text budget) o₃ n₃
          → Put o₃ n₃ (bytes " tries:\n") o₄ n₄ → Put o₀ n₀ (title_text table limit budget) o₄ n₄
      unfolding title_text
      title_is table limit budget p q s t = then p (then q (then s t))

      pub szs_question_is : (name : List ℕ) (r : Report) → Put o₀ n₀ (bytes "% SZS status ") o₁ n₁ → Put o₁ n₁ (status_text r) o₂ n₂
          → Put o₂ n₂ (bytes " for " ++ name) o₃ n₃ → Put o₃ n₃ (bytes "\n") o₄ n₄ → Put o₀ n₀ (szs_question_text name r) o₄ n₄
      unfolding szs_question_text
      szs_question_is name r p q s t = then p (then q (then s t))

      pub asked_is : (label name : List ℕ) (r : Report) → Put o₀ n₀ (label ++ bytes ": ") o₁ n₁ → Put o₁ n₁ (name ++ bytes ": ") o₂ n₂
          → Put o₂ n₂ (ended_text r) o₃ n₃ → Put o₃ n₃ (spent_text r.tries) o₄ n₄ → Put o₀ n₀ (asked_text label name r) o₄ n₄
      unfolding asked_text
      asked_is label name r p q s t = then p (then q (then s t))

pub ruleset count_laws = (spent_is, found_counts_are, other_counts_are, last_counts_are, season_is, title_is, szs_question_is, asked_is)

-- one question alone
module _ (o : Outcome) where
  no_more : o.tries + 0 ≡ o.tries
  no_more = omega arith

  module _ (e : o.status ≡ 0) where
    pub alone_definite : o.disjuncts ≡ 1 → {r : Report} → r ≡ one_report 1 0 0 0 0 0 o.tries → r ≡ alone_report o
    unfolding alone_report result_of how_many tries_of
    alone_definite d f = rw (f, eq-eqb o.status 0 e, eq-eqb o.disjuncts 1 d, no_more)

    pub alone_indefinite : (o.disjuncts ≡ 1 → ⊥) → {r : Report} → r ≡ one_report 0 1 0 0 0 0 o.tries → r ≡ alone_report o
    unfolding alone_report result_of how_many tries_of
    alone_indefinite d f = rw (f, eq-eqb o.status 0 e, ne_eqb o.disjuncts 1 d, no_more)

  module _ (n : o.status ≡ 0 → ⊥) where
    pub alone_none : o.status ≡ 10 → {r : Report} → r ≡ one_report 0 0 1 0 0 0 o.tries → r ≡ alone_report o
    unfolding alone_report result_of how_many tries_of
    alone_none e f = rw (f, ne_eqb o.status 0 n, eq-eqb o.status 10 e, no_more)

    module _ (m : o.status ≡ 10 → ⊥) where
      pub alone_ran_out : o.status ≡ 11 → {r : Report} → r ≡ one_report 0 0 0 1 0 0 o.tries → r ≡ alone_report o
      unfolding alone_report result_of how_many tries_of
      alone_ran_out e f = rw (f, ne_eqb o.status 0 n, ne_eqb o.status 10 m, eq-eqb o.status 11 e, no_more)

      module _ (k : o.status ≡ 11 → ⊥) where
        pub alone_too_long : o.status ≡ 16 → {r : Report} → r ≡ one_report 0 0 0 0 1 0 o.tries → r ≡ alone_report o
        unfolding alone_report result_of how_many tries_of
        alone_too_long e f = rw (f, ne_eqb o.status 0 n, ne_eqb o.status 10 m, ne_eqb o.status 11 k, eq-eqb o.status 16 e, no_more)

        pub alone_refused : (o.status ≡ 16 → ⊥) → {r : Report} → r ≡ one_report 0 0 0 0 0 1 o.tries → r ≡ alone_report o
        unfolding alone_report result_of how_many tries_of
        alone_refused j f = rw (f, ne_eqb o.status 0 n, ne_eqb o.status 10 m, ne_eqb o.status 11 k, ne_eqb o.status 16 j, no_more)

pub ruleset alone_laws = (alone_definite, alone_indefinite, alone_none, alone_ran_out, alone_too_long, alone_refused)

pub no_question_is : (label : List ℕ) {o₀ o₁ o₂ : List ℕ} {n₀ n₁ n₂ : ℕ} → Put o₀ n₀ label o₁ n₁
    → Put o₁ n₁ (bytes ": this clause is no question: its role is not negated_conjecture\n") o₂ n₂ → Put o₀ n₀ (no_question_text label) o₂ n₂
unfolding no_question_text
no_question_is label p q = then p q
