-- Two terms made equal: the outcomes, one law for each, with premises as the code has them.
use Rattle.std.specs.Prelude.{Result, Ok, Err}
use borrow.Author.Tests.{eqb-true, eqb-false}
use lib.Dec.{eqb}
use mathlib.Core.Bool.{Bool, true, false}
use mathlib.Core.List.{List}
use mathlib.Core.Path.{◌≡◌, refl, sym, ◌∙◌, ap, subst}
use native.Mathlib.Omega.{arith}
use Prim.Native.Nat.{ℕ, zero, suc, ◌+◌, ◌*◌, ◌^◌, ◌<◌}
use Rattle.words.specs.Fields.{kind_of, symbol_of, arity_of, function_word}
use Rattle.words.proofs.Packed.{function_word_lem}
use Rattle.table.specs.Syntax.{Term, Terms, var, app, under, unders}
use Rattle.table.specs.Decode.{first}
use Rattle.rules.specs.Substitution.{Variable}
use Rattle.rules.specs.Machinery.Unify.{Unified, made, solution, follow, bind, unify, unifies, height, height_among}
use Rattle.rules.proofs.Unify.{unify_answers}
use Rattle.rules.proofs.Unify.Tests.{decide, never}
use Rattle.rules.proofs.Unify.Laws.{unify_same, unify_right, unify_left, unify_applied, unify_clash, unify_arity}
use Rattle.rules.proofs.Unify.Solution.{follow_followed, follow_solution, follow_app}
use Rattle.unification.specs.State.{term_of, terms_of, variable_of, bindings_in}
use Rattle.unification.specs.Good.{word_at, variable_at, names_variable, Good, FollowedTo, Binds, Met, Outcome}
use Rattle.unification.specs.Thorough.{Quiet, Other, arguments_met, Applied, Meets}
use Rattle.unification.specs.declared.unify.Unmet.{Unmet}
use Rattle.unification.specs.declared.unify.Unmet.TheVariants.{Clash}
use Rattle.unification.proofs.TermLists.{peak_height}
use Rattle.unification.proofs.References.{variable_term, variable_copy, function_term, function_arity, function_shape, function_next, points_fewer}
use Rattle.unification.proofs.Walk.{few_variables, inside, small}
use Rattle.unification.proofs.Bound.{variable_same}
use Rattle.unification.proofs.Push.{grown_none}
use Rattle.unification.proofs.Heft.{heft, heft_of}
use Rattle.unification.proofs.Thorough.{noting_none}

pub met_as : {f m m' : List ℕ} {q : Result (Unit {0}) Unmet} {u u' : Unified} → u ≡ u' → Met f m m' q u' → Met f m m' q u
met_as {f} {m} {m'} {q} e h = subst (λ (x : Unified). Met f m m' q x) (sym e) h

pub meets_as : {f m m' n n' : List ℕ} {q : Result (Unit {0}) Unmet} {u u' : Unified} → u ≡ u' → Meets f m m' n n' q u' → Meets f m m' n n' q u
meets_as {f} {m} {m'} {n} {n'} {q} e h = subst (λ (x : Unified). Meets f m m' n n' q x) (sym e) h

-- nothing more is bound or noted
pub meets_still : {f m n : List ℕ} {q : Result (Unit {0}) Unmet} {u : Unified} → Good f m → Quiet f m n → Outcome f m q u → Meets f m m n n q u
meets_still h k o = record { grown = grown_none h; noting = noting_none; on = λ _. k; outcome = λ _. o }

not_variable : (f : ℕ) (ts : Terms Variable) (x : Variable) → app f ts ≡ var x → ⊥
not_variable f ts x e = let z : ◌≡◌ {A = ℕ} 0 1 = cc in omega arith

module _ {f m n : List ℕ} {left right l r : ℕ} (h : Good f m) (k : Quiet f m n) (gl : FollowedTo f m left l) (gr : FollowedTo f m right r) where
  abbrev Goal : List ℕ → List ℕ → Result (Unit {0}) Unmet → Type 0
  Goal m' n' q = Meets f m m' n n' q (unify (bindings_in f m) (term_of f m left) (term_of f m right))

  pub met_same : l ≡ r → Goal m n (Ok tt)
  met_same e =
      meets_still
      h
      k
      ((unify_answers (bindings_in f m) h.sound (term_of f m left) (term_of f m right)).unchanged
      (sym (follow_solution (bindings_in f m) (term_of f m left) h.sound)
      ∙ ap (under (solution (bindings_in f m))) (sym gl.same ∙ ap (term_of f m) e ∙ gr.same)
      ∙ follow_solution (bindings_in f m) (term_of f m right) h.sound))

  module _ {v w : ℕ} (ev : v ≡ word_at f m l) (ew : w ≡ word_at f m r) where
    -- the right term is a variable
    module _ {i : ℕ} (ei : i ≡ kind_of w) (z : i ≡ 0) {y : ℕ} (ey : y ≡ variable_at r w) where
      right-kind : kind_of (word_at f m r) ≡ 0
      right-kind = ap kind_of (sym ew) ∙ sym ei ∙ z

      right-name : y ≡ variable_at r (word_at f m r)
      right-name = ey ∙ ap (variable_at r) ew

      right-term : follow (bindings_in f m) (term_of f m right) ≡ var (variable_of y)
      right-term = sym gr.same ∙ rw right-name (variable_term gr.points right-kind (few_variables h gr.points))

      module _ {q : Bool} (eq : q ≡ names_variable (kind_of v) l v y) where
        left-named : (k : ℕ) → kind_of v ≡ k → names_variable k l v y ≡ true → term_of f m l ≡ var (variable_of y)
        left-named zero e t =
            let n : variable_at l (word_at f m l) ≡ y = ap (variable_at l) (sym ev) ∙ eqb-true (variable_at l v) y t in
            rw (← n) (variable_term gl.points (ap kind_of (sym ev) ∙ e) (few_variables h gl.points))
        left-named (suc k) e t = absurd (never t refl)

        left_other : (k : ℕ) → kind_of v ≡ k → names_variable k l v y ≡ false → term_of f m l ≡ var (variable_of y) → ⊥
        left_other zero e t s =
            let x = variable_term gl.points (ap kind_of (sym ev) ∙ e) (few_variables h gl.points) in
            let same : var (variable_of (variable_at l (word_at f m l))) ≡ var (variable_of y) = sym x ∙ s in
            let n : variable_at l (word_at f m l) ≡ y = variable_same _ y (let z : variable_of (variable_at l (word_at f m l)) ≡ variable_of y = cc in z) in
            eqb-false (variable_at l v) y t (ap (variable_at l) ev ∙ n)
        left_other (suc k) e t s =
            not_variable _ _ _ (sym (function_term gl.points (λ d. omega (arith, ap kind_of ev, e, d))) ∙ s)

        pub met_variable : q ≡ true → Goal m n (Ok tt)
        met_variable t =
            meets_still h k (unify_same (bindings_in f m) _ _ (variable_of y) (sym gl.same ∙ left-named (kind_of v) refl (sym eq ∙ t)) right-term)

        module _ (t : q ≡ false) where
          pub right_binds : Binds f m y l
          right_binds =
              record {
                copy = omega (arith, right-name, variable_copy gr.points right-kind (few_variables h gr.points), gr.points.made);
                free = rw right-name (gr.free right-kind);
                points = gl.points;
                followed = rw gl.same (follow_followed (bindings_in f m) h.sound (term_of f m left));
              }

          pub right_apart : Other f m y l
          right_apart = left_other (kind_of v) refl (sym eq ∙ t)

          pub met_right : {m' n' : List ℕ} {o : Result (Unit {0}) Unmet} → Meets f m m' n n' o (bind (bindings_in f m) (variable_of y) (term_of f m l)) → Goal m' n' o
          met_right b =
              meets_as (unify_right (bindings_in f m) _ _ (term_of f m l) (variable_of y) (sym gl.same) right-term right_apart) b

    -- the right term is an application
    module _ {i : ℕ} (ei : i ≡ kind_of w) (no : i ≡ 0 → ⊥) where
      right_other : kind_of (word_at f m r) ≡ 0 → ⊥
      right_other e = no (ei ∙ ap kind_of ew ∙ e)

      right_applied : follow (bindings_in f m) (term_of f m right) ≡ app (symbol_of (word_at f m r)) (first (arity_of (word_at f m r)) (terms_of f m (r + 1)))
      right_applied = sym gr.same ∙ function_term gr.points right_other

      module _ {j : ℕ} (ej : j ≡ kind_of v) where
        -- and the left a variable
        module _ (z : j ≡ 0) {x : ℕ} (ex : x ≡ variable_at l v) where
          left_kind : kind_of (word_at f m l) ≡ 0
          left_kind = ap kind_of (sym ev) ∙ sym ej ∙ z

          left_name : x ≡ variable_at l (word_at f m l)
          left_name = ex ∙ ap (variable_at l) ev

          pub left_binds : Binds f m x r
          left_binds =
              record {
                copy = omega (arith, left_name, variable_copy gl.points left_kind (few_variables h gl.points), gl.points.made);
                free = rw left_name (gl.free left_kind);
                points = gr.points;
                followed = rw gr.same (follow_followed (bindings_in f m) h.sound (term_of f m right));
              }

          pub left_apart : Other f m x r
          left_apart e = not_variable _ _ _ (sym (function_term gr.points right_other) ∙ e)

          pub met_left : {m' n' : List ℕ} {o : Result (Unit {0}) Unmet} → Meets f m m' n n' o (bind (bindings_in f m) (variable_of x) (term_of f m r)) → Goal m' n' o
          met_left {m'} {n'} {o} b =
              meets_as
              (unify_left (bindings_in f m) _ _ (variable_of x) _ _
              (sym gl.same ∙ rw left_name (variable_term gl.points left_kind (few_variables h gl.points))) right_applied)
              (rw (function_term gr.points right_other) at b)

        -- and so is the left
        module _ (d : j ≡ 0 → ⊥) where
          left_kind_other : kind_of (word_at f m l) ≡ 0 → ⊥
          left_kind_other e = d (ej ∙ ap kind_of ev ∙ e)

          left_applied : follow (bindings_in f m) (term_of f m left) ≡ app (symbol_of (word_at f m l)) (first (arity_of (word_at f m l)) (terms_of f m (l + 1)))
          left_applied = sym gl.same ∙ function_term gl.points left_kind_other

          pub met_clash : v < 2 ^ 32 → w < 2 ^ 32 → (v ≡ w → ⊥) → Goal m n (Err Clash)
          met_clash lv lw ne =
              meets_still
              h
              k
              (decide
              (eqb (symbol_of (word_at f m l)) (symbol_of (word_at f m r)))
              (λ e. unify_arity (bindings_in f m) _ _ _ _ _ _ left_applied right_applied (λ a. ne (words (eqb-true _ _ e) (sym (function_arity gl.points left_kind_other) ∙ a ∙ function_arity gr.points right_other))))
              (λ e. unify_clash (bindings_in f m) _ _ _ _ _ _ left_applied right_applied (eqb-false _ _ e)))
            where
              words : symbol_of (word_at f m l) ≡ symbol_of (word_at f m r) → arity_of (word_at f m l) ≡ arity_of (word_at f m r) → v ≡ w
              words s a =
                  let p : word_at f m l ≡ function_word (symbol_of (word_at f m l)) (arity_of (word_at f m l)) = function_word_lem _ (function_shape gl.points left_kind_other) (rw ev at lv) in
                  let q : word_at f m r ≡ function_word (symbol_of (word_at f m r)) (arity_of (word_at f m r)) = function_word_lem _ (function_shape gr.points right_other) (rw ew at lw) in
                  ev ∙ p ∙ rw (s, a) (sym q) ∙ sym ew

          module _ (e : v ≡ w) where
            same_word : word_at f m l ≡ word_at f m r
            same_word = sym ev ∙ e ∙ ew

            met_arguments : (s t : Term Variable) → follow (bindings_in f m) s ≡ app (symbol_of (word_at f m l)) (first (arity_of (word_at f m l)) (terms_of f m (l + 1)))
                → follow (bindings_in f m) t ≡ app (symbol_of (word_at f m r)) (first (arity_of (word_at f m r)) (terms_of f m (r + 1)))
                → unify (bindings_in f m) s t ≡ arguments_met f m l r
            met_arguments s t es et =
                unify_applied (bindings_in f m) _ _ _ _ _ _ es et (ap symbol_of same_word)
                (function_arity gl.points left_kind_other ∙ ap arity_of same_word ∙ sym (function_arity gr.points right_other))
                ∙ ap (λ (u : ℕ). unifies (bindings_in f m) (first (arity_of (word_at f m l)) (terms_of f m (l + 1))) (first (arity_of u) (terms_of f m (r + 1)))) (sym same_word)

            pub both_applied : Applied f m l r
            both_applied =
                record {
                  left = gl.points;
                  right = gr.points;
                  arguments = record {
                    inside = inside h gl.points;
                    small = small h gr.points;
                    lefts = λ s. points_fewer (omega arith) (function_next gl.points left_kind_other (omega arith));
                    rights = rw same_word (λ s. points_fewer (omega arith) (function_next gr.points right_other (omega arith)));
                  };
                  same =
                      met_arguments
                      (term_of f m l)
                      (term_of f m r)
                      (ap (follow (bindings_in f m)) (function_term gl.points left_kind_other) ∙ follow_app (bindings_in f m) _ _)
                      (ap (follow (bindings_in f m)) (function_term gr.points right_other) ∙ follow_app (bindings_in f m) _ _);
                }

            pub met_falls : 3 * heft f m (l + 1) (arity_of (word_at f m l)) + 1 < 3 * heft_of f m left + 2
            unfolding height under
            met_falls =
                let p : height (under (solution (bindings_in f m)) (term_of f m left)) ≡ height_among (unders (solution (bindings_in f m)) (first (arity_of (word_at f m l)) (terms_of f m (l + 1)))) =
                ap height (sym (follow_solution (bindings_in f m) (term_of f m left) h.sound) ∙ ap (under (solution (bindings_in f m))) left_applied) in
                omega (arith, peak_height (unders (solution (bindings_in f m)) (first (arity_of (word_at f m l)) (terms_of f m (l + 1)))))

            pub met_applied : {m' n' : List ℕ} {o : Result (Unit {0}) Unmet} → Meets f m m' n n' o (unify (bindings_in f m) (term_of f m l) (term_of f m r)) → Goal m' n' o
            met_applied b = meets_as (met_arguments (term_of f m left) (term_of f m right) left_applied right_applied ∙ sym both_applied.same) b
