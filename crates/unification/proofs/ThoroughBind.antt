-- A variable bound, and what is noted: the outcomes, one law for each, with premises as the code has them.
use Rattle.std.specs.Prelude.{Ok, Err}
use borrow.Author.Tests.{eqb-true, eqb-false}
use lib.Dec.{eqb}
use mathlib.Core.Bool.{Bool, true, false}
use mathlib.Core.List.{List}
use mathlib.Core.Path.{◌≡◌, refl, sym, ◌∙◌, ap}
use native.Mathlib.Omega.{arith}
use Prim.Native.Nat.{ℕ, ◌+◌, ◌-◌, ◌<◌}
use Rattle.words.specs.Fields.{kind_of, arity_of}
use Rattle.table.specs.Syntax.{var, under}
use Rattle.table.specs.Decode.{first}
use Rattle.rules.specs.Machinery.Unify.{bind, occurs}
use Rattle.rules.proofs.Unify.Tests.{decide, differ}
use Rattle.rules.proofs.Unify.Solution.{is_bound, Followed, unbound_solution}
use Rattle.unification.specs.Places.{most_variables}
use Rattle.unification.specs.State.{bound_at, term_of, variable_of, bindings_in}
use Rattle.unification.specs.Good.{word_at, variable_at, arguments_of, Good, pushed, Binds, Met, occurs_under}
use Rattle.unification.specs.Thorough.{Quiet, Checking, Other, Looked, Meets}
use Rattle.unification.specs.declared.unify.Unmet.TheVariants.{Circle}
use Rattle.unification.proofs.Push.{grown_none, pushed_here, pushed_change, bind_small, bind_room, bind_occurs, bind_pushed}
use Rattle.unification.proofs.Words.{function_kind}
use Rattle.unification.proofs.References.{variable_term, function_term, function_shape}
use Rattle.unification.proofs.Walk.{few_variables}
use Rattle.unification.proofs.Thorough.{equal_grown}
use Rattle.unification.proofs.Occurs.{looked_still}

module _ {f m n : List ℕ} {v r : ℕ} (h : Good f m) (b : Binds f m v r) where
  pub bind_checking : Quiet f m n → Checking f m n v
  bind_checking k =
      record {
        notes = record { down = k.down; links = k.links; marks = λ y u ly lu e z. absurd (k.marks y u ly lu e z); awake = k.awake };
        free = b.free;
        small = bind_small h b;
      }

  module _ {n' : List ℕ} {q : Bool} (l : Looked f m n n' v q (occurs_under f m v (term_of f m r))) where
    pub bind_circle : q ≡ true → Meets f m m n n' (Err Circle) (bind (bindings_in f m) (variable_of v) (term_of f m r))
    bind_circle e =
        record {
          grown = grown_none h;
          noting = l.noting;
          on = λ d. absurd (let z : ◌≡◌ {A = ℕ} 0 1 = cc in omega arith);
          outcome = λ a. (bind_occurs h b (l.outcome a) e).outcome;
        }

    module _ (e : q ≡ false) {m' : List ℕ} (em : m' ≡ pushed m v r) where
      noted : Checking f m n' v
      noted = l.on e

      met : Met f m m' (Ok tt) (bind (bindings_in f m) (variable_of v) (term_of f m r))
      met = bind_pushed h b (l.outcome noted.notes.awake) e em

      still_free : (u : ℕ) → u < most_variables → bound_at m' u ≡ 0 → (u ≡ v → ⊥) × (bound_at m u ≡ 0)
      still_free u lu z =
          let other : u ≡ v → ⊥ = λ d. omega (arith, rw (em, d) at z, pushed_here m v r h.size (bind_room h b) (bind_small h b)) in
          (other, sym ((pushed_change m v r h.size (bind_room h b) (bind_small h b) h.copies).others u lu other) ∙ rw em at z)

      pub bind_made : Meets f m m' n n' (Ok tt) (bind (bindings_in f m) (variable_of v) (term_of f m r))
      bind_made =
          record {
            grown = met.grown;
            noting = l.noting;
            on = λ _. record {
              down = noted.notes.down;
              links = record { equal = λ s k p. equal_grown met.grown k (omega (arith, noted.notes.down.lower s k p)) (noted.notes.links.equal s k p) };
              marks = λ y u ly lu d z. let w = still_free u lu z in w.0 (noted.notes.marks y u ly lu d w.1).0;
              awake = noted.notes.awake;
            };
            outcome = λ _. met.outcome;
          }

-- a single word holds no other variable
module _ {f m : List ℕ} {v r : ℕ} (h : Good f m) (b : Binds f m v r) (other : Other f m v r) {w o : ℕ} (ew : w ≡ word_at f m r) (eo : o ≡ 1 - 1 + arguments_of (kind_of w) w) (z : o ≡ 0) where
  a_variable : kind_of (word_at f m r) ≡ 0 → false ≡ occurs_under f m v (term_of f m r)
  unfolding Followed occurs under
  a_variable k =
      let t : term_of f m r ≡ var (variable_of (variable_at r (word_at f m r))) = variable_term b.points k (few_variables h b.points) in
      let u : is_bound (bindings_in f m) (variable_of (variable_at r (word_at f m r))) ≡ false = rw t at b.followed in
      sym (rw (t, unbound_solution (bindings_in f m) (variable_of (variable_at r (word_at f m r))) u) (differ (variable_of v) (variable_of (variable_at r (word_at f m r))) (λ e. other (t ∙ ap var (sym e)))))

  a-constant : (kind_of (word_at f m r) ≡ 0 → ⊥) → false ≡ occurs_under f m v (term_of f m r)
  unfolding occurs under first
  a-constant n =
      let k : kind_of w ≡ 1 = ap kind_of ew ∙ function_kind (word_at f m r) (function_shape b.points n) in
      let e : o ≡ 1 - 1 + arity_of w = rw k at eo in
      let a : arity_of (word_at f m r) ≡ 0 = sym (ap arity_of ew) ∙ omega arith in
      sym (rw (function_term b.points n, a) refl)

  lone : false ≡ occurs_under f m v (term_of f m r)
  lone = decide (eqb (kind_of (word_at f m r)) 0) (λ e. a_variable (eqb-true _ _ e)) (λ e. a-constant (eqb-false _ _ e))

  pub bind_lone : {n : List ℕ} → Quiet f m n → {m' : List ℕ} → m' ≡ pushed m v r → Meets f m m' n n (Ok tt) (bind (bindings_in f m) (variable_of v) (term_of f m r))
  bind_lone k em = bind_made h b (looked_still (bind_checking h b k) lone) refl em
