-- The newest copy's variables: no older term leads to them, and so they are bound without a look for them. Laws with premises as the code has them.
use Rattle.std.specs.Prelude.{Ok}
use borrow.Author.Tests.{eqb-true}
use lib.Dec.{eqb}
use mathlib.Core.Bool.{true, false}
use mathlib.Core.List.{List, [], ◌∷◌}
use mathlib.Core.Path.{◌≡◌, refl, sym, ◌∙◌, ap}
use native.Mathlib.Omega.{arith}
use Prim.Native.Nat.{ℕ, zero, suc, ◌+◌, ◌-◌, ◌/◌, ◌%◌, ◌≤◌, ◌<◌}
use lib.ListN.{get_or}
use Rattle.words.specs.Fields.{kind_of, arity_of}
use Rattle.table.specs.Syntax.{Term, var, under}
use Rattle.table.specs.Decode.{head_term, terms_from}
use Rattle.rules.specs.Substitution.{Variable, same_variable}
use Rattle.rules.specs.Tableau.{fresh}
use Rattle.rules.specs.Machinery.Unify.{Binding, Bindings, solution, follow, occurs, bind, unify}
use Rattle.rules.proofs.Substitution.{Over, over, over_under, over_map}
use Rattle.rules.proofs.Unify.Tests.{never, same_refl, differ}
use Rattle.rules.proofs.Unify.Run.{Within}
use Rattle.rules.proofs.Unify.Domain.{over_solution, over_absent}
use Rattle.rules.proofs.Unify.Solution.{replace_absent, unbound_solution, follow_solution, follow_followed, follow_unbound}
use Rattle.rules.proofs.Unify.Laws.{unify_right}
use Rattle.unification.specs.Places.{most_variables}
use Rattle.unification.specs.State.{copies_of, count_of, trail_at, bound_at, words_at, Points, term_of, variable_of, bindings_of, bindings_in}
use Rattle.unification.specs.Good.{word_at, variable_at, arguments_of, occurs_under, Good, Held, Alike, Grown, pushed, FollowedTo, Passed, Binds}
use Rattle.unification.specs.Thorough.{Quiet, Other, Older, Apart, pairs_met, Meets, Remaining}
use Rattle.unification.proofs.References.{variable_term, variable_copy, step_copy}
use Rattle.unification.proofs.Walk.{few_variables, passed_variable}
use Rattle.unification.proofs.Bound.{unbound}
use Rattle.unification.proofs.Push.{pushed_bound}
use Rattle.unification.proofs.KeptStarts.{same_start}
use Rattle.unification.proofs.Occurs.{looked_still}
use Rattle.unification.proofs.ThoroughBind.{bind_checking, bind_made}
use Rattle.unification.proofs.Meet.{meets_as}
use Rattle.unification.proofs.Atoms.{literal_next}
use Rattle.unification.proofs.ThoroughAtoms.{literal_arguments, brief_quiet}
use Rattle.unification.proofs.MeetAll.{Going, all_begin, all_in_place, all_left, all_right, left_points, right_points, all_last, still, all_left_still, all_on}

-- a term's variables are its copy's
term_over : (f m : List ℕ) (r : ℕ) → Over (λ y. y.copy ≡ r / 256) (term_of f m r)
unfolding term_of fresh Over
term_over f m r =
    over_under {R = λ n. Unit {0}} (λ y. y.copy ≡ r / 256) (fresh (r / 256)) (head_term (terms_from (words_at f m r))) (λ n u. refl) (over (head_term (terms_from (words_at f m r))) (λ n. tt))

term_below : (f m : List ℕ) (r c : ℕ) → r / 256 < c → Over (λ y. y.copy < c) (term_of f m r)
term_below f m r c l = over_map (term_of f m r) (λ y e. omega (arith, e)) (term_over f m r)

-- a variable of a copy is none of those below
below_absent : (t : Term Variable) (c : ℕ) (x : Variable) → x.copy ≡ c → Over (λ y. y.copy < c) t → occurs x t ≡ false
below_absent t c x e o = over_absent t x (over_map t (λ y l. differ x y (λ d. omega (arith, ap (λ (z : Variable). z.copy) d))) o)

-- before a copy is made, nothing leads to it
held_within : {f m : List ℕ} {count : ℕ} → Held f m count → (n : ℕ) → n ≤ count → Within (Over (λ y. y.copy < copies_of m)) (bindings_of f m n)
unfolding Within bindings_of Over
held_within h zero l = tt
held_within {f} {m} h (suc n) l =
    let e = h.entries n (omega arith) in
    (e.copy, term_below f m (bound_at m (trail_at m n) - 1) (copies_of m) e.points.made, held_within h n (omega arith))

pub good_older : {f m : List ℕ} → Good f m → Older f m (copies_of m)
good_older {f} {m} h x l = over_solution (λ y. y.copy < copies_of m) (bindings_in f m) (held_within h (count_of m) (omega arith)) x l

abbrev pub brief : List ℕ
brief = 1 ∷ []

-- so many pairs are left of a leaf and an entered literal, where none but the newest copy's variables were bound
pub record Joining (f m₀ : List ℕ) (leaf entered : ℕ) (m : List ℕ) (l r more : ℕ) : Type 0 where
  pub going : Going f m₀ brief (leaf + 1) (entered + 1) (arity_of (word_at f m₀ leaf)) m brief l r more
  pub lower : 0 < more → l / 256 < entered / 256
  pub newest : 0 < more → r / 256 ≡ entered / 256
  pub older : Older f m (entered / 256)

pub join_begin : {f m : List ℕ} {leaf entered w a : ℕ} → Good f m → Alike f m leaf entered → Apart f m leaf entered → w ≡ word_at f m leaf → a ≡ arity_of w
    → Joining f m leaf entered m (leaf + 1) (entered + 1) a
join_begin {f} {m} {leaf} {entered} h p q ew ea =
    let e = ea ∙ ap arity_of ew in
    record {
      going = all_begin h (brief_quiet refl (omega arith)) (literal_arguments h p) ew ea;
      lower = λ l. omega (arith, literal_next p.left (rw e at l), q.lower);
      newest = λ l. literal_next p.right (rw (e ∙ p.arity) at l);
      older = q.older;
    }

module _ {f m₀ : List ℕ} {leaf entered : ℕ} {m : List ℕ} {l r more : ℕ} (g : Joining f m₀ leaf entered m l r more) where
  pub join_remaining : Good f m₀ → Alike f m₀ leaf entered → Remaining f m₀ m (count_of m₀) leaf entered l r more
  join_remaining h p =
      record {
        began = record { good = h; alike = p; grown = g.going.grown; count = refl };
        lefts = g.going.lefts;
        rights = g.going.rights;
        same = g.going.same;
      }

  module _ (some : more ≡ 0 → ⊥) where
    good : Good f m
    good = g.going.grown.good

    few : {n : ℕ} → Points f m r n → kind_of (word_at f m r) ≡ 0 → variable_at r (word_at f m r) / 16 ≡ r / 256
    few p k = variable_copy (all_right g.going some) k (few_variables good (all_right g.going some))

    pub join_small : {w : ℕ} → w ≡ word_at f m r → kind_of w ≡ 0 → variable_at r w < most_variables
    join_small ew k =
        let p = all_right g.going some in
        rw ew (omega (arith, few p (ap kind_of (sym ew) ∙ k), p.made, good.copies))

    pub join_in_place : {v w : ℕ} → v ≡ word_at f m l → w ≡ word_at f m r → kind_of v ≡ 1 → v ≡ w → {o : ℕ} → o ≡ more - 1 + arguments_of (kind_of v) v
        → Joining f m₀ leaf entered m (l + 1) (r + 1) o
    join_in_place {v} {w} ev ew k e {o} eo =
        record {
          going = all_in_place g.going some ev ew k e eo;
          lower = λ h. omega (arith, step_copy (left_points g.going some) (rw ev at (owed h)), g.lower (omega arith));
          newest = λ h. step_copy (right_points g.going some) (rw (e ∙ ew) at (owed h)) ∙ g.newest (omega arith);
          older = g.older;
        }
      where
        owed : 0 < o → 0 < arguments_of (kind_of v) v + (more - 1)
        owed h = omega (arith, eo)

    -- a free variable of the newest copy
    module _ {w : ℕ} (ew : w ≡ word_at f m r) (seen : (kind_of w ≡ 0) × (bound_at m (variable_at r w) ≡ 0)) {to : ℕ} (s : FollowedTo f m l to) {y : ℕ} (ey : y ≡ variable_at r w) where
      points : Points f m r 1
      points = all_right g.going some

      kind : kind_of (word_at f m r) ≡ 0
      kind = ap kind_of (sym ew) ∙ seen.0

      name : y ≡ variable_at r (word_at f m r)
      name = ey ∙ ap (variable_at r) ew

      free : bound_at m y ≡ 0
      free = ap (λ (i : ℕ). bound_at m i) ey ∙ seen.1

      copy : y / 16 ≡ entered / 256
      copy = ap (λ (i : ℕ). i / 16) name ∙ few points kind ∙ g.newest (omega arith)

      term : term_of f m r ≡ var (variable_of y)
      term = rw name (variable_term points kind (few_variables good points))

      absent : false ≡ occurs_under f m y (term_of f m to)
      absent =
          sym (ap (occurs (variable_of y)) (ap (under (solution (bindings_in f m))) s.same ∙ follow_solution (bindings_in f m) (term_of f m l) good.sound)
          ∙ below_absent (under (solution (bindings_in f m)) (term_of f m l)) (entered / 256) (variable_of y) copy
          (over_under (λ y. y.copy < entered / 256) (solution (bindings_in f m)) (term_of f m l) g.older (term_below f m l (entered / 256) (g.lower (omega arith)))))

      apart : Other f m y to
      unfolding occurs under
      apart e =
          let σ : solution (bindings_in f m) (variable_of y) ≡ var (variable_of y) = unbound_solution (bindings_in f m) (variable_of y) (unbound good y free) in
          let z : false ≡ occurs (variable_of y) (under (solution (bindings_in f m)) (var (variable_of y))) = rw e at absent in
          never (same_refl (variable_of y)) (sym (rw σ at z))

      pub join_binds : Binds f m y to
      join_binds =
          record {
            copy = omega (arith, ap (λ (i : ℕ). i / 16) name ∙ few points kind, points.made);
            free = free;
            points = s.points;
            followed = rw s.same (follow_followed (bindings_in f m) good.sound (term_of f m l));
          }

      module _ {m' : List ℕ} (em : m' ≡ pushed m y to) where
        met : Meets f m m' brief brief (Ok tt) (unify (bindings_in f m) (term_of f m l) (term_of f m r))
        met =
            meets_as
            (unify_right (bindings_in f m) _ _ (term_of f m to) (variable_of y) (sym s.same)
            (ap (follow (bindings_in f m)) term ∙ follow_unbound (bindings_in f m) (variable_of y) (unbound good y free)) apart)
            (bind_made good join_binds (looked_still (bind_checking good join_binds g.going.quiet) absent) refl em)

        pub join_last : more - 1 ≡ 0 → Meets f m₀ m' brief brief (Ok tt) (pairs_met f m₀ (leaf + 1) (entered + 1) (arity_of (word_at f m₀ leaf)))
        join_last z = all_last g.going some met refl z

        pub join_still : Good f m' × Points f m' l 1
        join_still = (met.grown.good, all_left_still g.going some met refl)

        older : Older f m' (entered / 256)
        unfolding solution
        older x lx =
            let kept : occurs (variable_of y) (solution (bindings_in f m) x) ≡ false = below_absent (solution (bindings_in f m) x) (entered / 256) (variable_of y) copy (g.older x lx) in
            rw (em, pushed_bound good join_binds absent refl, replace_absent (solution (bindings_in f m) x) (variable_of y) (under (solution (bindings_in f m)) (term_of f m to)) kept) (g.older x lx)

        passed : Passed f m' r (r + 1)
        passed =
            let e : word_at f m' r ≡ word_at f m r = ap (λ (p : ℕ). get_or f (p + r % 256) 0) (same_start met.grown.kept.copies (r / 256) (omega (arith, points.made, good.copies))) in
            passed_variable met.grown.good (rw e kind)

        pub join_on : (more - 1 ≡ 0 → ⊥) → {l' : ℕ} → Passed f m' l l' → Joining f m₀ leaf entered m' l' (r + 1) (more - 1)
        join_on others {l'} pl =
            record {
              going = all_on g.going some met refl others pl passed;
              lower = λ h. omega (arith, pl.copy (more - 1 - 1) (two (left_points g.going some)), g.lower (omega arith));
              newest = λ h. passed.copy (more - 1 - 1) (two (right_points g.going some)) ∙ g.newest (omega arith);
              older = older;
            }
          where
            two : {k : ℕ} → Points f m k (suc (more - 1)) → Points f m' k (suc (suc (more - 1 - 1)))
            two {k} p =
                let z : suc (more - 1) ≡ suc (suc (more - 1 - 1)) = omega arith in
                rw z at (still g.going some met refl p).0
