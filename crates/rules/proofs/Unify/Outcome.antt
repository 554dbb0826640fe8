-- Every outcome of unification is right, and keeps every property that terms hand down to their arguments.
use mathlib.Core.Bool.{false}
use mathlib.Core.List.{List, [], ◌∷◌, ◌++◌}
use mathlib.Core.Logic.{◌↔◌}
use mathlib.Core.Path.{◌≡◌, refl, sym, ◌∙◌, ap, ap₂}
use Prim.Native.Nat.{ℕ, suc}
use Rattle.table.specs.Syntax.{Term, Terms, var, nil, ◌then◌, under}
use Rattle.rules.specs.Substitution.{Variable, Substitution, Pair, Solves}
use Rattle.rules.specs.Machinery.Unify.{Bindings, solution, occurs, Unified, made, clash, circle, unifies, unify, unify_pairs, enough}
use Rattle.rules.proofs.Unify.Tests.{never, same_refl}
use Rattle.rules.proofs.Unify.Solution.{Satisfies, Good, is_bound, unbound_solution, solution_satisfies}
use Rattle.rules.proofs.Unify.Run.{Property, Within, Each, Hereditary, Fits, Equation, EqualTerms, EqualArguments, Refuted, Grown, Right, right_same, right_after, unchanged, compare_right}
use Rattle.rules.proofs.Unify.Enough.{Problem, problem_parts, problem_bindings, problem_left, problem_right, problem_fits}
use Rattle.rules.proofs.Unify.Laws.{unify_one}

abbrev Both : Property → Property → Property
Both Q R t = Q t × R t

module _ (Q R : Property) where
  within_both : (bs : Bindings) → Within Q bs → Within R bs → Within (Both Q R) bs
  unfolding Within
  within_both [] q r = tt
  within_both (b ∷ bs) q r = ((q.0, r.0), (q.1, r.1), within_both bs q.2 r.2)

  within_first : (bs : Bindings) → Within (Both Q R) bs → Within Q bs
  unfolding Within
  within_first [] w = tt
  within_first (b ∷ bs) w = (w.0.0, w.1.0, within_first bs w.2)

  within-second : (bs : Bindings) → Within (Both Q R) bs → Within R bs
  unfolding Within
  within-second [] w = tt
  within-second (b ∷ bs) w = (w.0.1, w.1.1, within-second bs w.2)

  each_both : (ts : Terms Variable) → Each Q ts → Each R ts → Each (Both Q R) ts
  unfolding Each
  each_both nil q r = tt
  each_both (t then ts) q r = ((q.0, r.0), each_both ts q.1 r.1)

  both-parts : Hereditary Q → Hereditary R → Hereditary (Both Q R)
  both-parts p q f ts h = each_both ts (p f ts h.0) (q f ts h.1)

  both-fits : (n : ℕ) (bs : Bindings) (ss : Terms Variable) → Fits R n bs ss → Fits (Both Q R) n bs ss
  unfolding Fits
  both-fits n bs ss fits = λ bs' g w s. fits bs' g (within-second bs' w) s

  right-first : (bs : Bindings) (E : Equation) (r : Unified) → Right (Both Q R) bs E r → Right Q bs E r
  unfolding Right
  right-first bs E (made bs') g =
      record {
        good = g.good;
        within = within_first bs' g.within;
        older = g.older;
        equal = g.equal;
        solved = g.solved;
        new = g.new;
        longer = g.longer;
      }
  right-first bs E clash h = h
  right-first bs E circle h = h

module _ (Q : Property) (parts : Hereditary Q) (bs : Bindings) where
  pub unifies_outcome : (ss ts : Terms Variable) → Good bs → Within Q bs → Each Q ss → Each Q ts → Right Q bs (EqualArguments ss ts) (unifies bs ss ts)
  unfolding unifies
  unifies_outcome ss ts g w qs qt =
      right-first
      Q
      R
      bs
      (EqualArguments ss ts)
      (unifies bs ss ts)
      (compare_right
      (Both Q R)
      (both-parts Q R parts (problem_parts bs ss ts))
      (suc (enough bs ss ts))
      bs
      ss
      ts
      g
      (within_both Q R bs w (problem_bindings bs ss ts))
      (each_both Q R ss qs (problem_left bs ss ts))
      (each_both Q R ts qt (problem_right bs ss ts))
      (both-fits Q R (suc (enough bs ss ts)) bs ss (problem_fits bs ss ts)))
    where
      R : Property
      R = Problem bs ss ts

  pub unify_outcome : (s t : Term Variable) → Good bs → Within Q bs → Q s → Q t → Right Q bs (EqualTerms s t) (unify bs s t)
  unfolding Each under
  unify_outcome s t g w qs qt =
      right_same
      Q
      bs
      (EqualArguments (s then nil) (t then nil))
      (EqualTerms s t)
      (λ σ h. (λ e. (cc), λ e. ap₂ ◌then◌ e refl))
      (unify bs s t)
      (rw (unify_one bs s t g) at (unifies_outcome (s then nil) (t then nil) g w (qs, tt) (qt, tt)))

-- pairs, one after another
unfoldable pub EachPair : Property → List Pair → Type 0
EachPair Q [] = Unit {0}
EachPair Q (p ∷ ps) = Q p.left × Q p.right × EachPair Q ps

pub pairs_outcome : (Q : Property) → Hereditary Q → (ps : List Pair) (bs : Bindings) → Good bs → Within Q bs → EachPair Q ps
    → Right Q bs (λ σ. Solves σ ps) (unify_pairs bs ps)
unfolding unify_pairs Solves Right EachPair
pairs_outcome Q parts [] bs g w q = unchanged Q bs (λ σ. Solves σ []) g w (λ σ. tt)
pairs_outcome Q parts (p ∷ ps) bs g w q =
    right_after
    Q
    bs
    (EqualTerms p.left p.right)
    (λ σ. Solves σ ps)
    (λ bs'. unify_pairs bs' ps)
    (unify bs p.left p.right)
    (unify_outcome Q parts bs p.left p.right g w q.0 q.1)
    (λ bs' h. pairs_outcome Q parts ps bs' h.good h.within q.2)

nothing_new : (new bs : Bindings) → Good (new ++ bs) → Satisfies (solution bs) (new ++ bs) → new ++ bs ≡ bs
unfolding Good Satisfies occurs
nothing_new [] bs g s = refl
nothing_new (b ∷ new) bs g s = absurd (held (nothing_new new bs g.1 s.1))
  where
    x : Variable
    x = b.variable

    held : new ++ bs ≡ bs → ⊥
    held e =
        let own : solution bs x ≡ var x = unbound_solution bs x (ap (λ (l : Bindings). is_bound l x) (sym e) ∙ g.0.unbound) in
        let apart : occurs x (under (solution bs) b.value) ≡ false = ap (λ (l : Bindings). occurs x (under (solution l) b.value)) (sym e) ∙ g.0.apart in
        never (same_refl x) (ap (occurs x) (sym own ∙ s.0) ∙ apart)

-- What an outcome says of an equation, the substitutions that satisfy the bindings being given.
pub record Answers (bs : Bindings) (E : Equation) (r : Unified) : Type 0 where
  -- what is made is satisfied by exactly those of them that solve the equation
  pub solutions : {bs' : Bindings} → r ≡ made bs' → (σ : Substitution) → Satisfies σ bs' ↔ (Satisfies σ bs × E σ)
  -- a clash or a circle: none of them solves it
  pub clashes : r ≡ clash → (σ : Substitution) → Satisfies σ bs → E σ → ⊥
  pub circles : r ≡ circle → (σ : Substitution) → Satisfies σ bs → E σ → ⊥
  -- where one of them solves it, something is made
  pub complete : (σ : Substitution) → Satisfies σ bs → E σ → (bs' : Bindings) × (r ≡ made bs')
  -- what is made is good, and ends in the old bindings
  pub good : {bs' : Bindings} → r ≡ made bs' → Good bs'
  pub longer : {bs' : Bindings} → r ≡ made bs' → (new : Bindings) × (bs' ≡ new ++ bs)
  -- nothing is added where the bindings solve it already
  pub unchanged : E (solution bs) → r ≡ made bs

module _ (Q : Property) (bs : Bindings) (E : Equation) where
  pub grown : (r : Unified) → Right Q bs E r → {bs' : Bindings} → r ≡ made bs' → Grown Q bs E bs'
  unfolding Right
  grown r right e = rw e at right

  solutions : (r : Unified) → Right Q bs E r → {bs' : Bindings} → r ≡ made bs'
      → (σ : Substitution) → Satisfies σ bs' ↔ (Satisfies σ bs × E σ)
  solutions r right e σ =
      let g = grown r right e in
      (λ s. (g.older σ s, g.equal σ s), λ s. g.solved σ s.0 s.1)

  clashes : (r : Unified) → Right Q bs E r → r ≡ clash → Refuted bs E
  unfolding Right
  clashes r right e = rw e at right

  circles : (r : Unified) → Right Q bs E r → r ≡ circle → Refuted bs E
  unfolding Right
  circles r right e = rw e at right

  complete : (r : Unified) → Right Q bs E r → (σ : Substitution) → Satisfies σ bs → E σ → (bs' : Bindings) × (r ≡ made bs')
  unfolding Right
  complete (made bs') g σ s e = (bs', refl)
  complete clash h σ s e = absurd (h σ s e)
  complete circle h σ s e = absurd (h σ s e)

  solved-already : (r : Unified) → Right Q bs E r → Good bs → E (solution bs) → r ≡ made bs
  unfolding Right
  solved-already (made bs') h g e =
      let s : Satisfies (solution bs) (h.new ++ bs) = rw h.longer at (h.solved (solution bs) (solution_satisfies bs g) e) in
      let g' : Good (h.new ++ bs) = rw h.longer at h.good in
      ap made (h.longer ∙ nothing_new h.new bs g' s)
  solved-already clash h g e = absurd (h (solution bs) (solution_satisfies bs g) e)
  solved-already circle h g e = absurd (h (solution bs) (solution_satisfies bs g) e)

  pub answers : (r : Unified) → Right Q bs E r → Good bs → Answers bs E r
  answers r right g =
      record {
        solutions = solutions r right;
        clashes = clashes r right;
        circles = circles r right;
        complete = complete r right;
        good = λ e. (grown r right e).good;
        longer = λ e. ((grown r right e).new, (grown r right e).longer);
        unchanged = solved-already r right g;
      }
