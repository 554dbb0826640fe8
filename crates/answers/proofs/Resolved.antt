-- What the words from a reference on stand for under what is bound: one word at a time, and a variable followed.
use mathlib.Core.Bool.{true}
use mathlib.Core.List.{List, [], ◌∷◌, ◌++◌}
use mathlib.Core.Path.{◌≡◌, refl, sym, ◌∙◌, ap, ap₂}
use native.Mathlib.Nat.{zero-add, add-zero}
use native.Mathlib.Omega.{arith}
use Prim.Native.Nat.{ℕ, zero, suc, ◌+◌, ◌/◌, ◌%◌, ◌^◌, ◌<◌}
use Rattle.words.specs.Fields.{kind_of, number_of, symbol_of, arity_of, sign_of, function_word, function_shaped}
use Rattle.words.proofs.Packed.{function_word_lem, function_plain, plain_rest}
use Rattle.table.specs.Syntax.{Term, Terms, arity, under, unders}
use Rattle.table.specs.Decode.{first, rest}
use Rattle.rules.specs.Substitution.{Variable, Substitution}
use Rattle.rules.proofs.Unify.Solution.{unbound_solution, follow_solution}
use Rattle.unification.specs.State.{terms_of, term_of, Points, variable_of, bindings_in}
use Rattle.unification.specs.Good.{word_at, variable_at, arguments_of, Ahead, Held, Good, FollowedTo}
use Rattle.answers.specs.Writing.{Item, fixed, free, items_of, items_among, items_by_kind, word_items, standing, unsigned, resolved, term_items, WordStands}
use Rattle.unification.proofs.TermLists.{first_under, rest_under, arity_under}
use Rattle.unification.proofs.Words.{function_kind}
use Rattle.unification.proofs.References.{points_fewer, tail_of, variable_copy, variable_terms, variable_term, function_shape, function_terms, function_term, function_arguments, function_arity, function_next, step_terms}
use Rattle.unification.proofs.Walk.{few_variables}
use Rattle.unification.proofs.Bound.{unbound}
use Rattle.answers.proofs.Items.{items_first}

pub no_items : (f m : List ℕ) (r : ℕ) → term_items f m r 0 ≡ []
unfolding term_items first under items_of
no_items f m r = refl

-- a variable by its copy and number
named : (r w : ℕ) → variable_at r w / 16 ≡ r / 256 → variable_of (variable_at r w) ≡ record { copy = r / 256; number = number_of w }
named r w e =
    let n : variable_at r w % 16 ≡ number_of w = omega arith in
    λ i. record { copy = e i; number = n i }

pub function_stands : (w : ℕ) → function_shaped w ≡ true → w < 2 ^ 32 → unsigned w ≡ standing (kind_of w) w
function_stands w s l =
    rw (function_kind w s) (let e = plain_rest 1 15 w (function_plain w s) in let z : sign_of w ≡ 0 = omega arith in omega (arith, function_word_lem w s l))

module _ {f m : List ℕ} {count : ℕ} (h : Held f m count) {r n : ℕ} (p : Points f m r (suc n)) where
  abbrev args : ℕ
  args = arguments_of (kind_of (word_at f m r)) (word_at f m r)

  tail-first : first (args + n) (tail_of f m r) ≡ first (args + n) (terms_of f m (r + 1))
  unfolding first
  tail-first = go (args + n) (λ s. step_terms p s)
    where
      go : (k : ℕ) → (0 < k → terms_of f m (r + 1) ≡ tail_of f m r) → first k (tail_of f m r) ≡ first k (terms_of f m (r + 1))
      go zero e = refl
      go (suc k) e = rw (e (omega arith))

  module _ (σ : Substitution) where
    variable-items : kind_of (word_at f m r) ≡ 0
        → items_among (unders σ (first (suc n) (terms_of f m r))) ≡ word_items σ (r / 256) (word_at f m r) ++ items_among (unders σ (first n (tail_of f m r)))
    unfolding first under items_of items_by_kind
    variable-items e =
        rw (variable_terms p e (few_variables h p), named r (word_at f m r) (variable_copy p e (few_variables h p)), e)

    function-items : (kind_of (word_at f m r) ≡ 0 → ⊥)
        → items_among (unders σ (first (suc n) (terms_of f m r)))
        ≡ fixed (function_word (symbol_of (word_at f m r)) (arity_of (word_at f m r))) ∷ items_among (unders σ (first (arity_of (word_at f m r) + n) (tail_of f m r)))
    unfolding first under items_of
    function-items e =
        rw (function_terms p e)
        (ap₂ (λ (a : ℕ) (is : List Item). fixed (function_word (symbol_of (word_at f m r)) a) ∷ is) same-arity same-items)
      where
        same-arity : arity (unders σ (first (arity_of (word_at f m r)) (tail_of f m r))) ≡ arity_of (word_at f m r)
        same-arity =
            arity_under σ (first (arity_of (word_at f m r)) (tail_of f m r)) ∙ ap arity (function_arguments p e) ∙ function_arity p e

        same-items : items_among (unders σ (first (arity_of (word_at f m r)) (tail_of f m r))) ++ items_among (unders σ (first n (rest (arity_of (word_at f m r)) (tail_of f m r))))
            ≡ items_among (unders σ (first (arity_of (word_at f m r) + n) (tail_of f m r)))
        same-items =
            rw (
              first_under σ (arity_of (word_at f m r)) (tail_of f m r),
              first_under σ n (rest (arity_of (word_at f m r)) (tail_of f m r)),
              rest_under σ (arity_of (word_at f m r)) (tail_of f m r),
              first_under σ (arity_of (word_at f m r) + n) (tail_of f m r),
            )
            (sym (items_first (arity_of (word_at f m r)) n (unders σ (tail_of f m r))))

  -- one word, and the terms that are owed after it
  pub step_items : term_items f m r (suc n) ≡ word_items (resolved f m) (r / 256) (word_at f m r) ++ term_items f m (r + 1) (args + n)
  unfolding term_items items_by_kind
  step_items =
      go (kind_of (word_at f m r)) refl
      ∙ ap (λ (ts : Terms Variable). word_items (resolved f m) (r / 256) (word_at f m r) ++ items_among (unders (resolved f m) ts)) tail-first
    where
      no_literal : (k : ℕ) → kind_of (word_at f m r) ≡ suc (suc k) → ⊥
      no_literal k e = omega (arith, e, function_kind (word_at f m r) (function_shape p (λ z. omega (arith, e, z))))

      go : (k : ℕ) → kind_of (word_at f m r) ≡ k
          → items_among (unders (resolved f m) (first (suc n) (terms_of f m r)))
          ≡ items_by_kind (resolved f m) (r / 256) k (word_at f m r) ++ items_among (unders (resolved f m) (first (arguments_of k (word_at f m r) + n) (tail_of f m r)))
      go zero e = rw (zero-add n) (rw e at (variable-items (resolved f m) e))
      go (suc zero) e = function-items (resolved f m) (λ z. omega (arith, e, z))
      go (suc (suc k)) e = absurd (no_literal k e)

  -- the word stands there
  pub term_stands : WordStands f m r (word_at f m r)
  term_stands =
      record { word = refl; points = λ e. points_fewer (omega arith) p; shape = λ e s. function_stands (word_at f m r) (function_shape p e) s }

-- a variable's word stands for what it was followed to
module _ {f m : List ℕ} (h : Good f m) {r to : ℕ} (p : Points f m r 1) (e : kind_of (word_at f m r) ≡ 0) (g : FollowedTo f m r to) where
  followed-items : word_items (resolved f m) (r / 256) (word_at f m r) ≡ items_of (under (resolved f m) (term_of f m to))
  unfolding items_by_kind under
  followed-items =
      ap (λ (k : ℕ). items_by_kind (resolved f m) (r / 256) k (word_at f m r)) e
      ∙ ap (λ (x : Variable). items_of (resolved f m x)) (sym (named r (word_at f m r) (variable_copy p e (few_variables h p))))
      ∙ ap (λ (t : Term Variable). items_of (under (resolved f m) t)) (sym (variable_term p e (few_variables h p)))
      ∙ ap items_of (sym (follow_solution (bindings_in f m) (term_of f m r) h.sound))
      ∙ ap (λ (t : Term Variable). items_of (under (resolved f m) t)) (sym g.same)

  pub followed_free : kind_of (word_at f m to) ≡ 0 → word_items (resolved f m) (r / 256) (word_at f m r) ≡ free (variable_of (variable_at to (word_at f m to))) ∷ []
  unfolding items_of under
  followed_free z =
      followed-items
      ∙ ap (λ (t : Term Variable). items_of (under (resolved f m) t)) (variable_term g.points z (few_variables h g.points))
      ∙ ap items_of (unbound_solution (bindings_in f m) (variable_of (variable_at to (word_at f m to))) (unbound h (variable_at to (word_at f m to)) (g.free z)))

  module _ (z : kind_of (word_at f m to) ≡ 0 → ⊥) where
    pub followed_function : word_items (resolved f m) (r / 256) (word_at f m r)
        ≡ fixed (function_word (symbol_of (word_at f m to)) (arity_of (word_at f m to))) ∷ term_items f m (to + 1) (arity_of (word_at f m to))
    unfolding items_of under term_items
    followed_function =
        followed-items
        ∙ ap (λ (t : Term Variable). items_of (under (resolved f m) t)) (function_term g.points z)
        ∙ ap (λ (a : ℕ). fixed (function_word (symbol_of (word_at f m to)) a) ∷ items_among (unders (resolved f m) (first (arity_of (word_at f m to)) (terms_of f m (to + 1)))))
        (arity_under (resolved f m) _ ∙ function_arity g.points z)

    pub followed_ahead : Ahead f m (to + 1) (arity_of (word_at f m to))
    followed_ahead s = rw add-zero at (function_next g.points z (omega arith))

    pub followed_word : word_at f m to < 2 ^ 32 → word_at f m to ≡ function_word (symbol_of (word_at f m to)) (arity_of (word_at f m to))
    followed_word l = function_word_lem (word_at f m to) (function_shape g.points z) l

-- the same, with premises as the code has them
module _ {f m : List ℕ} {at w : ℕ} (h : Good f m) (s : WordStands f m at w) (z : kind_of w ≡ 0) {q : ℕ} (g : FollowedTo f m at q) {met : ℕ} (e : met ≡ word_at f m q) where
  at-word : kind_of (word_at f m at) ≡ 0
  at-word = ap kind_of (sym s.word) ∙ z

  pub stands_free : kind_of met ≡ 0 → word_items (resolved f m) (at / 256) w ≡ free (variable_of (variable_at q met)) ∷ []
  stands_free y = rw (s.word, e) (followed_free h (s.points z) at-word g (ap kind_of (sym e) ∙ y))

  module _ (n : kind_of met ≡ 0 → ⊥) where
    met-function : kind_of (word_at f m q) ≡ 0 → ⊥
    met-function y = n (ap kind_of e ∙ y)

    pub stands_function : word_items (resolved f m) (at / 256) w
        ≡ fixed (function_word (symbol_of met) (arity_of met)) ∷ term_items f m (q + 1) (arity_of met)
    stands_function = rw (s.word, e) (followed_function h (s.points z) at-word g met-function)

    pub stands_ahead : Ahead f m (q + 1) (arity_of met)
    stands_ahead = rw e (followed_ahead h (s.points z) at-word g met-function)

    pub stands_word : met < 2 ^ 32 → met ≡ function_word (symbol_of met) (arity_of met)
    stands_word l = rw e (followed_word h (s.points z) at-word g met-function (rw e at l))
