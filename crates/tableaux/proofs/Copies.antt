-- Copies of clauses with nothing bound, as at the start.
use lib.ListN.{length}
use mathlib.Core.List.{List}
use mathlib.Core.Path.{◌≡◌, refl, ap}
use native.Mathlib.Omega.{arith}
use Prim.Native.Nat.{ℕ, zero, suc, ◌<◌}
use Rattle.rules.proofs.Unify.Solution as bindings
use Rattle.unification.specs.Places.{most_variables, work_words}
use Rattle.unification.specs.State.{count_of, bound_at, bindings_of}
use Rattle.unification.specs.Good.{is_free, free_below, Held, Good}
use Rattle.unification.proofs.Bound.{Clauses}

-- no variable is bound
all_free : (m : List ℕ) (n : ℕ) → ((v : ℕ) → v < n → bound_at m v ≡ 0) → free_below m n ≡ n
unfolding free_below
all_free m zero h = refl
all_free m (suc n) h = omega (arith, all_free m n (λ v l. h v (omega arith)), ap is_free (h n (omega arith)))

module _ {f m : List ℕ} (size : length m ≡ work_words) (k : Clauses f m) (none : count_of m ≡ 0) (free : (v : ℕ) → v < most_variables → bound_at m v ≡ 0) where
  pub start_good : Good f m
  unfolding bindings.Good bindings_of
  start_good =
      let h : Held f m 0 =
      record {
        size = size;
        copies = k.few;
        starts = k.starts;
        entries = λ i l. absurd (omega arith);
        listed = λ v l s. absurd (omega (arith, free v l));
        room = omega (arith, all_free m most_variables free);
        sound = tt;
      } in
      rw none h
