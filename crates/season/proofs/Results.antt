-- The result of a run.
use mathlib.Core.Path.{◌≡◌}
use borrow.Author.Tests.{eq-eqb, ne_eqb}
use Rattle.hukolearu.specs.declared.Outcome.{Outcome}
use Rattle.season.specs.Season.{result_of}
use Rattle.season.specs.Asking.{number_of}
use Rattle.season.specs.declared.tally.Kind.TheVariants.{Definite, Indefinite, NoneFound, RanOut, TooLong, Refused}

-- outcome by outcome
module _ (o : Outcome) where
  pub is_definite : o.status ≡ 0 → o.disjuncts ≡ 1 → number_of Definite ≡ result_of o
  unfolding result_of
  is_definite s d = rw (eq-eqb o.status 0 s, eq-eqb o.disjuncts 1 d)

  pub is_indefinite : o.status ≡ 0 → (o.disjuncts ≡ 1 → ⊥) → number_of Indefinite ≡ result_of o
  unfolding result_of
  is_indefinite s d = rw (eq-eqb o.status 0 s, ne_eqb o.disjuncts 1 d)

  module _ (n₀ : o.status ≡ 0 → ⊥) where
    pub is_none : o.status ≡ 10 → number_of NoneFound ≡ result_of o
    unfolding result_of
    is_none s = rw (ne_eqb o.status 0 n₀, eq-eqb o.status 10 s)

    module _ (n₁₀ : o.status ≡ 10 → ⊥) where
      pub is_out : o.status ≡ 11 → number_of RanOut ≡ result_of o
      unfolding result_of
      is_out s = rw (ne_eqb o.status 0 n₀, ne_eqb o.status 10 n₁₀, eq-eqb o.status 11 s)

      module _ (n₁₁ : o.status ≡ 11 → ⊥) where
        pub is_long : o.status ≡ 16 → number_of TooLong ≡ result_of o
        unfolding result_of
        is_long s = rw (ne_eqb o.status 0 n₀, ne_eqb o.status 10 n₁₀, ne_eqb o.status 11 n₁₁, eq-eqb o.status 16 s)

        pub is_refused : (o.status ≡ 16 → ⊥) → number_of Refused ≡ result_of o
        unfolding result_of
        is_refused n = rw (ne_eqb o.status 0 n₀, ne_eqb o.status 10 n₁₀, ne_eqb o.status 11 n₁₁, ne_eqb o.status 16 n)

pub ruleset result_laws = (is_definite, is_indefinite, is_none, is_out, is_long, is_refused)
