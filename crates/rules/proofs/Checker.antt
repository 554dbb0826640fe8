-- The checker comes to the one verdict that document 01 gives, and accepts exactly the closed tableaux.
use mathlib.Core.Bool.{Bool, true, false}
use mathlib.Core.List.{List, [], ◌∷◌}
use mathlib.Core.Option.{none, some}
use mathlib.Core.Path.{◌≡◌, refl, ap}
use Prim.Native.Nat.{ℕ, suc}
use Rattle.words.specs.declared.Step.{Step}
use Rattle.words.specs.declared.Step.TheVariants.{Reduction, Extension, Restart, Malformed}
use Rattle.table.specs.Syntax.{var}
use Rattle.rules.specs.Substitution.{Substitution, Pair, Solves, Unifiable}
use Rattle.rules.specs.Setting.{Setting}
use Rattle.rules.specs.Tableau.{Leaf, Tableau, start, stepped, Made, as_it_stands, by_step, Closed}
use Rattle.rules.specs.Comparison.{Reason}
use Rattle.rules.specs.Verdict.{not_unified, CheckVerdict, accepted, refused, Checks, no_leaf, some_leaf, no_step, no_tableau, no_unifier, taken}
use Rattle.rules.specs.Machinery.Play.{Play, begin, Performed, goes_on, not_possible, clashes, circular, closes_pair, perform, Checking, passed, stopped, at_end, refusal, onwards, check_from, check, checked}
use Rattle.rules.proofs.System.Clash.{clash}
use Rattle.rules.proofs.Candidates.{malformed_not_taken}
use Rattle.rules.proofs.Comparison.{one_reason_of_the_newest, newest_not_unifiable}
use Rattle.rules.proofs.Play.{Sound, sound_begin, unifiable, Adds, stepped_adds, Told, told}

module _ (S : Setting) where
  ends : (p : Play) (place : ℕ) (leaves : List Leaf) → p.tableau.leaves ≡ leaves → Checks S p.tableau place [] (checked (at_end p place leaves))
  unfolding at_end checked
  ends p place [] e = no_leaf e
  ends p place (leaf ∷ rest) e = some_leaf e

  refuses : (p : Play) (s : Step) (ss : List Step) (place : ℕ) → stepped S p.tableau s ≡ none → Checks S p.tableau place (s ∷ ss) (refused (refusal s) place)
  unfolding refusal
  refuses p (Reduction h) ss place e = no_tableau (λ (f : Reduction h ≡ Malformed). clash (cc)) e
  refuses p (Extension i j) ss place e = no_tableau (λ (f : Extension i j ≡ Malformed). clash (cc)) e
  refuses p Restart ss place e = no_tableau (λ (f : Restart ≡ Malformed). clash (cc)) e
  refuses p Malformed ss place e = no_step

  goes : (p : Play) (s : Step) (ss : List Step) (place : ℕ) (o : Performed) → Told S p s o
      → ((q : Play) → Sound q → Checks S q.tableau (suc place) ss (checked (check_from S q (suc place) ss)))
      → Checks S p.tableau place (s ∷ ss) (checked (onwards o s place (λ q. check_from S q (suc place) ss)))
  unfolding onwards checked
  goes p s ss place (goes_on q) h rest = taken h.0 (unifiable q h.1) (rest q h.1)
  goes p s ss place not_possible h rest = refuses p s ss place h
  goes p s ss place clashes h rest = no_unifier h.1 h.2
  goes p s ss place circular h rest = no_unifier h.1 h.2

  check-from : (ss : List Step) (p : Play) (place : ℕ) → Sound p → Checks S p.tableau place ss (checked (check_from S p place ss))
  unfolding check_from
  check-from [] p place h = ends p place p.tableau.leaves refl
  check-from (s ∷ ss) p place h = goes p s ss place (perform S p s) (told S p s h) (λ q k. check-from ss q (suc place) k)

  pub checker_says : (ss : List Step) → Checks S (start S.table) 0 ss (checked (check S ss))
  unfolding check begin
  checker_says ss = check-from ss (begin S.table) 0 (sound_begin S.table)

  -- there are no two verdicts
  malformed-nothing : (x : Tableau) {y : Tableau} → stepped S x Malformed ≡ some y → ⊥
  unfolding stepped
  malformed-nothing x e = malformed_not_taken S x x.leaves e

  pub one_verdict : {x : Tableau} {place : ℕ} {ss : List Step} {c d : CheckVerdict} → Checks S x place ss c → Checks S x place ss d → c ≡ d
  one_verdict (no_leaf e) (no_leaf f) = refl
  one_verdict (no_leaf e) (some_leaf f) = clash (cc)
  one_verdict (some_leaf e) (no_leaf f) = clash (cc)
  one_verdict (some_leaf e) (some_leaf f) = refl
  one_verdict no_step no_step = refl
  one_verdict no_step (no_tableau n f) = absurd (n refl)
  one_verdict {x} no_step (no_unifier f v) = absurd (malformed-nothing x f)
  one_verdict {x} no_step (taken f v d) = absurd (malformed-nothing x f)
  one_verdict (no_tableau n e) no_step = absurd (n refl)
  one_verdict (no_tableau n e) (no_tableau m f) = refl
  one_verdict (no_tableau n e) (no_unifier f v) = clash (cc)
  one_verdict (no_tableau n e) (taken f v d) = clash (cc)
  one_verdict {x} (no_unifier e u) no_step = absurd (malformed-nothing x e)
  one_verdict (no_unifier e u) (no_tableau m f) = clash (cc)
  one_verdict {place = place} (no_unifier {y = y} {r = r} e u) (no_unifier {y = z} {r = q} f v) =
      let h : z ≡ y = cc in
      ap (λ (w : Reason). refused (not_unified w) place) (one_reason_of_the_newest y.pairs r q u (rw h at v))
  one_verdict (no_unifier {y = y} e u) (taken {y = z} f v d) = let h : z ≡ y = cc in absurd (newest_not_unifiable u (rw h at v))
  one_verdict {x} (taken e u c) no_step = absurd (malformed-nothing x e)
  one_verdict (taken e u c) (no_tableau m f) = clash (cc)
  one_verdict (taken {y = y} e u c) (no_unifier {y = z} f v) = let h : y ≡ z = cc in absurd (newest_not_unifiable v (rw h at u))
  one_verdict (taken {y = y} e u c) (taken {y = z} f v d) = let h : z ≡ y = cc in one_verdict c (rw h at d)

  added-solved : (σ : Substitution) (b : Bool) (before after : List Pair) → Adds b before after → Solves σ after → Solves σ before
  unfolding Solves
  added-solved σ true before after a u = (rw a.1 at u).1
  added-solved σ false before after a u = rw a at u

  -- a solution of the pairs of a later tableau solves those of an earlier one
  pub earlier_solved : {x z : Tableau} {ss : List Step} (σ : Substitution) → Made S x ss z → Solves σ z.pairs → Solves σ x.pairs
  earlier_solved σ as_it_stands u = u
  earlier_solved {x} σ (by_step {y = y} {s = s} e m) u =
      added-solved σ (closes_pair s) x.pairs y.pairs (stepped_adds S x s e) (earlier_solved σ m u)

  -- the steps of a closed tableau are accepted, and what is accepted is closed
  pub made_accepted : {x z : Tableau} {ss : List Step} (place : ℕ) → Made S x ss z → z.leaves ≡ [] → Unifiable z.pairs
      → Checks S x place ss (accepted z)
  made_accepted place as_it_stands e u = no_leaf e
  made_accepted place (by_step f m) e u =
      taken f (record { by = u.by; solves = earlier_solved u.by m u.solves }) (made_accepted (suc place) m e u)

  Accepted : Tableau → List Step → CheckVerdict → Type 0
  Accepted x ss (accepted z) = Made S x ss z × (z.leaves ≡ []) × Unifiable z.pairs
  Accepted x ss (refused r place) = Unit {0}

  after-step : (x y : Tableau) (s : Step) (ss : List Step) (c : CheckVerdict) → stepped S x s ≡ some y → Accepted y ss c → Accepted x (s ∷ ss) c
  unfolding Accepted
  after-step x y s ss (accepted z) e a = (by_step e a.0, a.1, a.2)
  after-step x y s ss (refused r place) e a = tt

  accepted-made : {x : Tableau} {place : ℕ} {ss : List Step} {c : CheckVerdict} → Checks S x place ss c → Unifiable x.pairs → Accepted x ss c
  unfolding Accepted
  accepted-made (no_leaf e) u = (as_it_stands, e, u)
  accepted-made (some_leaf e) u = tt
  accepted-made no_step u = tt
  accepted-made (no_tableau n e) u = tt
  accepted-made (no_unifier e v) u = tt
  accepted-made {x} (taken {y = y} {s = s} {ss = ss} {c = c} e v d) u = after-step x y s ss c e (accepted-made d v)

  pub accepted_closed : {ss : List Step} {z : Tableau} → Checks S (start S.table) 0 ss (accepted z) → Made S (start S.table) ss z × (z.leaves ≡ []) × Unifiable z.pairs
  unfolding Accepted start Solves
  accepted_closed d = accepted-made d (record { by = var; solves = tt })

  pub closed_accepted : {ss : List Step} (c : Closed S ss) → Checks S (start S.table) 0 ss (accepted c.tableau)
  closed_accepted c = made_accepted 0 c.made c.no_leaf_open c.unifiable

-- a play that was passed is sound
module _ (S : Setting) where
  SoundIf : Checking → Type 0
  SoundIf (passed p) = Sound p
  SoundIf (stopped r place) = Unit {0}

  end-sound : (p : Play) (place : ℕ) (leaves : List Leaf) → Sound p → SoundIf (at_end p place leaves)
  unfolding SoundIf at_end
  end-sound p place [] h = h
  end-sound p place (leaf ∷ rest) h = tt

  onwards-sound : (p : Play) (s : Step) (ss : List Step) (place : ℕ) (o : Performed) → Told S p s o
      → ((q : Play) → Sound q → SoundIf (check_from S q (suc place) ss)) → SoundIf (onwards o s place (λ q. check_from S q (suc place) ss))
  unfolding SoundIf onwards
  onwards-sound p s ss place (goes_on q) h rest = rest q h.1
  onwards-sound p s ss place not_possible h rest = tt
  onwards-sound p s ss place clashes h rest = tt
  onwards-sound p s ss place circular h rest = tt

  from-sound : (ss : List Step) (p : Play) (place : ℕ) → Sound p → SoundIf (check_from S p place ss)
  unfolding check_from
  from-sound [] p place h = end-sound p place p.tableau.leaves h
  from-sound (s ∷ ss) p place h = onwards-sound p s ss place (perform S p s) (told S p s h) (λ q k. from-sound ss q (suc place) k)

  pub passed_sound : (ss : List Step) (p : Play) → check S ss ≡ passed p → Sound p
  unfolding SoundIf check
  passed_sound ss p e = rw e at (from-sound ss (begin S.table) 0 (sound_begin S.table))
