-- Looking for a free variable in a term under what is bound: the outcomes, one law for each, with premises as the code has them.
use borrow.Author.Tests.{eqb-true, eqb-false}
use lib.Dec.{eqb}
use lib.Seq.{get_or-set_other}
use mathlib.Core.Bool.{Bool, true, false, ◌||◌, or-false}
use mathlib.Core.List.{List, ◌++◌, append-nil}
use mathlib.Core.Option.{some}
use mathlib.Core.Path.{◌≡◌, refl, sym, ◌∙◌, ap}
use native.Mathlib.Omega.{arith}
use Prim.Native.Nat.{ℕ, zero, suc, ◌+◌, ◌*◌, ◌-◌, ◌≤◌, ◌<◌}
use lib.ListN.{length, get_or, set}
use Rattle.words.specs.Fields.{kind_of}
use Rattle.table.specs.Syntax.{var, under}
use Rattle.table.specs.Decode.{first}
use Rattle.rules.specs.Substitution.{Variable}
use Rattle.rules.specs.Machinery.Unify.{Bindings, solution, occurs, variables, variables_among}
use Rattle.rules.proofs.Unify.Tests.{decide, never, same_refl}
use Rattle.rules.proofs.Unify.Solution.{unbound_solution, follow_solution, follow_followed}
use Rattle.rules.proofs.Unify.Following.{value_of, solution_value}
use Rattle.unification.specs.Places.{most_variables, most_references, mark_places}
use Rattle.unification.specs.State.{count_of, bound_at, Points, term_of, terms_of, variable_of, bindings_in}
use Rattle.unification.specs.Good.{word_at, variable_at, arguments_of, variables_here, occurs_in, occurs_under, Inside, Ahead, Good, FollowedTo}
use Rattle.unification.proofs.TermLists.{All, all_right, occurs_in_append, occurs_variables}
use Rattle.unification.proofs.References.{few, points_fewer, first_terms, step_points, step_variables, variable_copy}
use Rattle.unification.proofs.Walk.{few_variables, inside, small}
use Rattle.unification.proofs.Bound.{bindings_length, bound_entry, bound_value, unbound, variable_differs}
use Rattle.unification.specs.Thorough.{spare_of, mark_at, Absent, Checking, Valued, Noting, Spent, Looked}
use Rattle.unification.proofs.Ranks.{weight, value_lighter, followed_lighter, variables_lighter}
use Rattle.unification.proofs.Thorough.{set_here, noting_none, noting_then, noting_set, down_same, links_same, notes_same}

-- how heavy the variable at a word is
abbrev pub weight_here : Bindings → ℕ → ℕ → ℕ → ℕ
weight_here bs zero r w = weight bs (var (variable_of (variable_at r w)))
weight_here bs (suc other) r w = 0

-- what is left of a term, from a place on
pub record Looking (f m : List ℕ) (v r at owed : ℕ) : Type 0 where
  pub ahead : Ahead f m at owed
  pub same : occurs_under f m v (term_of f m r) ≡ occurs_in (variable_of v) (solution (bindings_in f m)) (variables_among (first owed (terms_of f m at)))
  pub light : All (λ y. weight (bindings_in f m) (var y) ≤ weight (bindings_in f m) (term_of f m r)) (variables_among (first owed (terms_of f m at)))

-- and what is noted of it
pub record Seeking (f m n₀ : List ℕ) (v r : ℕ) (n : List ℕ) (at owed : ℕ) : Type 0 where
  pub noting : Noting n₀ n
  pub checking : Checking f m n v
  pub looking : Looking f m v r at owed

-- a variable stands at a word
pub record Here (f m : List ℕ) (v at w met : ℕ) : Type 0 where
  pub small : met < most_variables
  pub same : occurs_in (variable_of v) (solution (bindings_in f m)) (variables_here (kind_of w) at w) ≡ occurs (variable_of v) (solution (bindings_in f m) (variable_of met))
  pub heavy : weight_here (bindings_in f m) (kind_of w) at w ≡ weight (bindings_in f m) (var (variable_of met))

module _ {f m : List ℕ} (h : Good f m) where
  few-bindings : length (bindings_in f m) < 1024
  few-bindings = omega (arith, bindings_length f m (count_of m), h.room)

  module _ {r : ℕ} (v : ℕ) (p : Points f m r 1) where
    one-term : variables_among (first 1 (terms_of f m r)) ≡ variables (term_of f m r)
    unfolding first variables
    one-term = rw (first_terms p 0) (append-nil (variables (term_of f m r)))

    pub look_begin : Looking f m v r r 1
    look_begin =
        record {
          ahead = λ _. p;
          same = occurs_variables (term_of f m r) (variable_of v) (solution (bindings_in f m)) ∙ ap (occurs_in (variable_of v) (solution (bindings_in f m))) (sym one-term);
          light = rw one-term (variables_lighter (bindings_in f m) few-bindings (term_of f m r));
        }

  module _ {v r at owed : ℕ} (g : Looking f m v r at owed) where
    pub look_done : owed ≡ 0 → false ≡ occurs_under f m v (term_of f m r)
    unfolding first variables occurs_in
    look_done e = sym (rw e at g.same)

    module _ (some : owed ≡ 0 → ⊥) where
      one_more : owed ≡ suc (owed - 1)
      one_more = omega arith

      standing : Points f m at (suc (owed - 1))
      standing = rw one_more at (g.ahead (omega arith))

      pub look_points : Points f m at 1
      look_points = points_fewer (omega arith) standing

      pub look_inside : Inside f m at
      look_inside = inside h standing

      pub look_few : owed ≤ 256
      look_few = omega (arith, few standing)

      pub look_small : at < most_references
      look_small = small h standing

      module _ {w : ℕ} (ew : w ≡ word_at f m at) where
        left : variables_among (first owed (terms_of f m at)) ≡ variables_here (kind_of w) at w ++ variables_among (first (arguments_of (kind_of w) w + (owed - 1)) (terms_of f m (at + 1)))
        left =
            ap (λ (k : ℕ). variables_among (first k (terms_of f m at))) one_more
            ∙ rw ew (step_variables standing (few_variables h standing))

        heavier : (k : ℕ) (ys : List Variable) → All (λ y. weight (bindings_in f m) (var y) ≤ weight (bindings_in f m) (term_of f m r)) (variables_here k at w ++ ys)
            → weight_here (bindings_in f m) k at w ≤ weight (bindings_in f m) (term_of f m r)
        unfolding All
        heavier zero ys a = a.0
        heavier (suc k) ys a = omega arith

        pub look_falls : 3 * weight_here (bindings_in f m) (kind_of w) at w + 1 < 3 * weight (bindings_in f m) (term_of f m r) + 2
        look_falls = omega (arith, heavier (kind_of w) _ (rw left at g.light))

        module _ {q : Bool} (eq : q ≡ occurs_in (variable_of v) (solution (bindings_in f m)) (variables_here (kind_of w) at w)) where
          split : occurs_under f m v (term_of f m r)
              ≡ q || occurs_in (variable_of v) (solution (bindings_in f m)) (variables_among (first (arguments_of (kind_of w) w + (owed - 1)) (terms_of f m (at + 1))))
          split =
              g.same ∙ ap (occurs_in (variable_of v) (solution (bindings_in f m))) left
              ∙ occurs_in_append (variable_of v) (solution (bindings_in f m)) (variables_here (kind_of w) at w) _
              ∙ ap (◌|| occurs_in (variable_of v) (solution (bindings_in f m)) (variables_among (first (arguments_of (kind_of w) w + (owed - 1)) (terms_of f m (at + 1))))) (sym eq)

          pub look_found : q ≡ true → true ≡ occurs_under f m v (term_of f m r)
          look_found e = sym (rw e at split)

          pub look_on : q ≡ false → {o : ℕ} → o ≡ owed - 1 + arguments_of (kind_of w) w → Looking f m v r (at + 1) o
          look_on e {o} eo =
              let z : arguments_of (kind_of w) w + (owed - 1) ≡ o = omega (arith, eo) in
              record {
                ahead = λ l. rw z at (rw (← ew) at (step_points standing) (omega (arith, z)));
                same = rw (e, z) at split;
                light = rw z at (all_right _ (variables_here (kind_of w) at w) _ (rw left at g.light));
              }

  -- the variable at a word
  module _ (v at w : ℕ) {k : ℕ} (ek : k ≡ kind_of w) where
    pub at_function : (k ≡ 0 → ⊥) → false ≡ occurs_in (variable_of v) (solution (bindings_in f m)) (variables_here (kind_of w) at w)
    unfolding occurs_in
    at_function n = go (kind_of w) (λ e. n (ek ∙ e))
      where
        go : (k : ℕ) → (k ≡ 0 → ⊥) → false ≡ occurs_in (variable_of v) (solution (bindings_in f m)) (variables_here k at w)
        go zero n = absurd (n refl)
        go (suc k) n = refl

    pub at_variable : Points f m at 1 → w ≡ word_at f m at → k ≡ 0 → {met : ℕ} → met ≡ variable_at at w → Here f m v at w met
    unfolding occurs_in
    at_variable p ew z {met} em =
        let e : kind_of (word_at f m at) ≡ 0 = ap kind_of (sym ew) ∙ sym ek ∙ z in
        record {
          small = omega (arith, em, ap (variable_at at) ew, variable_copy p e (few_variables h p), p.made, h.copies);
          same = rw (sym ek ∙ z, ← em) (or-false (occurs (variable_of v) (solution (bindings_in f m) (variable_of met))));
          heavy = rw (sym ek ∙ z, ← em);
        }

  module _ {v at w met : ℕ} (g : Here f m v at w met) where
    pub at_same : bound_at m v ≡ 0 → met ≡ v → true ≡ occurs_in (variable_of v) (solution (bindings_in f m)) (variables_here (kind_of w) at w)
    unfolding occurs
    at_same free e = sym (g.same ∙ rw (e, unbound_solution (bindings_in f m) (variable_of v) (unbound h v free)) (same_refl (variable_of v)))

    module _ {k : ℕ} (ek : k ≡ met) where
      word : bound_at m k ≡ bound_at m met
      word = ap (λ (u : ℕ). bound_at m u) ek

      pub at_free : (met ≡ v → ⊥) → bound_at m k ≡ 0 → false ≡ occurs_in (variable_of v) (solution (bindings_in f m)) (variables_here (kind_of w) at w)
      unfolding occurs
      at_free other y =
          sym (g.same ∙ rw (unbound_solution (bindings_in f m) (variable_of met) (unbound h met (sym word ∙ y))) (variable_differs v met (λ e. other (sym e))))

      module _ (n : bound_at m k ≡ 0 → ⊥) where
        positive : 0 < bound_at m met
        positive = omega (arith, word)

        value : value_of (bindings_in f m) (variable_of met) ≡ some (term_of f m (bound_at m k - 1))
        value = rw word (bound_value h met g.small positive)

        pub at_valued : Valued f m met (bound_at m k - 1)
        at_valued =
            record {
              small = g.small;
              points = rw word (bound_entry h met g.small positive).points;
              same = solution_value (bindings_in f m) (variable_of met) _ h.sound value;
            }

        pub at_falls : 3 * weight (bindings_in f m) (term_of f m (bound_at m k - 1)) + 3 < 3 * weight_here (bindings_in f m) (kind_of w) at w + 1
        at_falls = omega (arith, value_lighter (bindings_in f m) h.sound (variable_of met) _ value, g.heavy)

        pub at_on : occurs_under f m v (term_of f m (bound_at m k - 1)) ≡ occurs_in (variable_of v) (solution (bindings_in f m)) (variables_here (kind_of w) at w)
        at_on = ap (occurs (variable_of v)) (sym at_valued.same) ∙ sym g.same

-- and what is noted on the way
pub looked_still : {f m n : List ℕ} {v : ℕ} {r answer : Bool} → Checking f m n v → r ≡ answer → Looked f m n n v r answer
looked_still c e = record { noting = noting_none; on = λ _. c; outcome = λ _. e }

pub looked_as : {f m n n' : List ℕ} {v : ℕ} {r a b : Bool} → a ≡ b → Looked f m n n' v r a → Looked f m n n' v r b
looked_as e l = record { noting = l.noting; on = l.on; outcome = λ s. l.outcome s ∙ e }

found : {f m n n'' : List ℕ} {v : ℕ} {a : Bool} → Noting n n'' → (0 < spare_of n'' → true ≡ a) → Looked f m n n'' v true a
found t o = record { noting = t; on = λ e. absurd (never refl e); outcome = o }

module _ {f m : List ℕ} (h : Good f m) where
  pub seek_begin : {n : List ℕ} {v r : ℕ} → Checking f m n v → Points f m r 1 → Seeking f m n v r n r 1
  seek_begin {n} {v} c p = record { noting = noting_none; checking = c; looking = look_begin h v p }

  module _ {n₀ n : List ℕ} {v r at owed : ℕ} (g : Seeking f m n₀ v r n at owed) where
    pub seek_done : owed ≡ 0 → Looked f m n₀ n v false (occurs_under f m v (term_of f m r))
    seek_done e = record { noting = g.noting; on = λ _. g.checking; outcome = λ _. look_done h g.looking e }

    module _ (some : owed ≡ 0 → ⊥) {w : ℕ} (ew : w ≡ word_at f m at) {n' : List ℕ} {q : Bool}
        (l : Looked f m n n' v q (occurs_in (variable_of v) (solution (bindings_in f m)) (variables_here (kind_of w) at w))) where
      pub seek_found : q ≡ true → Looked f m n₀ n' v true (occurs_under f m v (term_of f m r))
      seek_found e = found (noting_then g.noting l.noting) (λ a. look_found h g.looking some ew (l.outcome a) e)

      pub seek_on : q ≡ false → {o : ℕ} → o ≡ owed - 1 + arguments_of (kind_of w) w → Seeking f m n₀ v r n' (at + 1) o
      seek_on e eo =
          let c = l.on e in
          record {
            noting = noting_then g.noting l.noting;
            checking = c;
            looking = look_on h g.looking some ew (l.outcome c.notes.awake) e eo;
          }

-- a variable that was looked into in vain is marked
checking_mark : {f m n n' : List ℕ} {v met : ℕ} → Checking f m n v → met < most_variables → occurs (variable_of v) (solution (bindings_in f m) (variable_of met)) ≡ false
    → n' ≡ set n (mark_places + met) (v + 1) → Checking f m n' v
checking_mark {f} {m} {n} {n'} {v} {met} c lm absent en =
    record {
      notes =
          record {
            down = down_same (λ i p l. other i (λ d. omega arith)) c.notes.down;
            links = links_same (λ i p l. other i (λ d. omega arith)) c.notes.links;
            marks = λ y u ly lu e z. decide (eqb y met) (λ d. here y u (eqb-true y met d) e) (λ d. c.notes.marks y u ly lu (sym (other (mark_places + y) (λ k. eqb-false y met d (omega arith))) ∙ e) z);
            awake = let z = other 0 (λ d. omega arith) in omega (arith, c.notes.awake);
          };
      free = c.free;
      small = c.small;
    }
  where
    other : (i : ℕ) → (i ≡ mark_places + met → ⊥) → get_or n' i 0 ≡ get_or n i 0
    other i d = ap (λ (l : List ℕ). get_or l i 0) en ∙ get_or-set_other n (mark_places + met) i (v + 1) 0 d

    here : (y u : ℕ) → y ≡ met → mark_at n' y ≡ u + 1 → Absent f m v u y
    here y u d e =
        let e' : get_or (set n (mark_places + met) (v + 1)) (mark_places + met) 0 ≡ u + 1 = rw (en, d) at e in
        (omega (arith, set_here n (mark_places + met) (v + 1) (omega arith)), rw d absent)

-- what a variable is bound to, followed to its end
module _ {f m : List ℕ} (h : Good f m) {r to : ℕ} (s : FollowedTo f m r to) where
  same_end : under (solution (bindings_in f m)) (term_of f m to) ≡ under (solution (bindings_in f m)) (term_of f m r)
  same_end = ap (under (solution (bindings_in f m))) s.same ∙ follow_solution (bindings_in f m) (term_of f m r) h.sound

  pub end_valued : {met : ℕ} → Valued f m met r → Valued f m met to
  end_valued y = record { small = y.small; points = s.points; same = y.same ∙ sym same_end }

  pub end_as : (v : ℕ) → occurs_under f m v (term_of f m to) ≡ occurs_under f m v (term_of f m r)
  end_as v = ap (occurs (variable_of v)) same_end

  pub end_falls : 3 * weight (bindings_in f m) (term_of f m to) + 2 < 3 * weight (bindings_in f m) (term_of f m r) + 3
  end_falls =
      omega (arith, followed_lighter (bindings_in f m) (term_of f m to) (term_of f m r) (rw s.same (follow_followed (bindings_in f m) h.sound (term_of f m r))) same_end)

module _ {f m n : List ℕ} {v met r : ℕ} (c : Checking f m n v) (y : Valued f m met r) where
  through : occurs (variable_of v) (solution (bindings_in f m) (variable_of met)) ≡ occurs_under f m v (term_of f m r)
  through = ap (occurs (variable_of v)) y.same

  pub through_marked : {q : Bool} → (q ≡ true → mark_at n met ≡ v + 1) → q ≡ true → Looked f m n n v false (occurs_under f m v (term_of f m r))
  through_marked k e = looked_still c (sym (c.notes.marks met v y.small c.small (k e) c.free).1 ∙ through)

  module _ {n₁ : List ℕ} {q₁ : Bool} (s : Spent n n₁ q₁) where
    pub through_tired : q₁ ≡ true → Looked f m n n₁ v true (occurs_under f m v (term_of f m r))
    through_tired e = found s.noting (λ a. absurd (omega (arith, s.tired e)))

    pub through_checking : q₁ ≡ false → Checking f m n₁ v
    through_checking e = record { notes = notes_same c.notes s.others (s.on e); free = c.free; small = c.small }

    module _ {n₂ : List ℕ} {q₂ : Bool} (l : Looked f m n₁ n₂ v q₂ (occurs_under f m v (term_of f m r))) where
      pub through_found : q₂ ≡ true → Looked f m n n₂ v true (occurs_under f m v (term_of f m r))
      through_found e = found (noting_then s.noting l.noting) (λ a. sym e ∙ l.outcome a)

      pub through_absent : q₂ ≡ false → {n₃ : List ℕ} → n₃ ≡ set n₂ (mark_places + met) (v + 1) → Looked f m n n₃ v false (occurs_under f m v (term_of f m r))
      through_absent e en =
          let k = l.on e in
          let z : false ≡ occurs_under f m v (term_of f m r) = sym e ∙ l.outcome k.notes.awake in
          record {
            noting = noting_then (noting_then s.noting l.noting) (noting_set (mark_places + met) (v + 1) (omega arith) en);
            on = λ _. checking_mark k y.small (through ∙ sym z) en;
            outcome = λ _. z;
          }
