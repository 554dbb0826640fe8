-- A number that falls at every call of a meeting: room for more bindings, and the height of the left terms under those that there are.
use borrow.Author.Tests.{eqb-true, eqb-false}
use lib.Dec.{eqb}
use lib.ListN.{length}
use mathlib.Core.List.{List}
use mathlib.Core.Path.{◌≡◌, sym, ◌∙◌, ap}
use native.Mathlib.Nat.{mul-le-mul_right, suc-mul}
use native.Mathlib.Omega.{arith}
use Prim.Native.Nat.{ℕ, suc, ◌+◌, ◌*◌, ◌-◌, ◌≤◌, ◌<◌}
use Rattle.words.specs.Fields.{kind_of, arity_of}
use Rattle.table.specs.Syntax.{under, unders}
use Rattle.table.specs.Decode.{first, rest}
use Rattle.rules.specs.Substitution.{Variable}
use Rattle.rules.specs.Machinery.Unify.{solution, height, doubled}
use Rattle.rules.proofs.Unify.Tests.{decide}
use Rattle.rules.proofs.Unify.Heights.{heights_under, solution_height, doubled_mono}
use Rattle.unification.specs.Places.{most_variables}
use Rattle.unification.specs.State.{count_of, Points, term_of, terms_of, bindings_of, bindings_in}
use Rattle.unification.specs.Good.{word_at, Good, Grown}
use Rattle.unification.proofs.TermLists.{peak, peak_height, peak_in_place, height_first}
use Rattle.unification.proofs.References.{tail_of, terms_height, first_terms, function_first, function_further}
use Rattle.unification.proofs.Bound.{bindings_length, bindings_low}

-- no term is higher under what is bound
unfoldable pub tallest : ℕ
tallest = suc (256 + doubled most_variables 256)

abbrev pub peak_under : List ℕ → List ℕ → ℕ → ℕ → ℕ
peak_under f m r n = peak (unders (solution (bindings_in f m)) (first n (terms_of f m r)))

abbrev pub heft : List ℕ → List ℕ → ℕ → ℕ → ℕ
heft f m r n = (most_variables - count_of m) * tallest + peak_under f m r n

abbrev pub heft_of : List ℕ → List ℕ → ℕ → ℕ
heft_of f m r = (most_variables - count_of m) * tallest + height (under (solution (bindings_in f m)) (term_of f m r))

pub lower : {f m : List ℕ} → Good f m → (r n : ℕ) → peak_under f m r n < tallest
unfolding tallest
lower {f} {m} h r n =
    omega (
      arith,
      peak_height (unders (solution (bindings_in f m)) (first n (terms_of f m r))),
      heights_under (first n (terms_of f m r)) (solution (bindings_in f m)) (doubled most_variables 256) low,
      height_first n (terms_of f m r),
      terms_height f m r,
    )
  where
    low : (x : Variable) → height (solution (bindings_in f m) x) ≤ doubled most_variables 256
    low x =
        omega (
          arith,
          solution_height (bindings_in f m) 256 (bindings_low f m (count_of m)) x,
          doubled_mono (length (bindings_in f m)) most_variables 256 (omega (arith, bindings_length f m (count_of m), h.room)),
        )

-- one of the terms, and those after it
pub heft_first : {f m : List ℕ} {r k : ℕ} → Points f m r (suc k) → heft_of f m r < heft f m r (suc k)
unfolding peak under
heft_first {f} {m} {r} {k} p = rw (first_terms p k) (omega arith)

-- the arguments of one of the terms in its place
pub heft_in_place : {f m : List ℕ} {r k : ℕ} → Points f m r (suc k) → (kind_of (word_at f m r) ≡ 0 → ⊥)
    → heft f m (r + 1) (arity_of (word_at f m r) + k) ≤ heft f m r (suc k)
unfolding peak height under
heft_in_place {f} {m} {r} {k} p e =
    rw (function_first p e, ← function_further p e)
    (omega (arith, peak_in_place (solution (bindings_in f m)) (arity_of (word_at f m r)) k (tail_of f m r)))

-- as many bindings as before are the same
pub as_before : {f m m' : List ℕ} → Grown f m m' → count_of m ≡ count_of m' → bindings_in f m' ≡ bindings_in f m
as_before {f} {m} {m'} g e = ap (bindings_of f m') (sym e) ∙ g.older (count_of m) (omega arith)

pub heft_rest : {f m m' : List ℕ} {r k : ℕ} (r' : ℕ) → Grown f m m' → Points f m r (suc k) → terms_of f m' r' ≡ rest 1 (terms_of f m r) → heft f m' r' k ≤ heft f m r (suc k)
unfolding peak under
heft_rest {f} {m} {m'} {r} {k} r' g p e =
    decide
    (eqb (count_of m) (count_of m'))
    (λ q. let z : count_of m ≡ count_of m' = eqb-true _ _ q in rw (as_before g z, e, ← z, first_terms p k) (omega arith))
    (λ q.
    let z : count_of m ≡ count_of m' → ⊥ = eqb-false _ _ q in
    let fewer : suc (most_variables - count_of m') ≤ most_variables - count_of m = omega (arith, g.more, g.good.room) in
    let product = mul-le-mul_right tallest fewer in
    let less = suc-mul (most_variables - count_of m') tallest in
    omega (arith, lower g.good r' k, product, less))
