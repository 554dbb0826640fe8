-- How a try ended, as `!=` tells it.
use Rattle.std.proofs.Common.{◌≡◌, ℕ, Bool, true, false, not, eqb, sym, refl, ◌∙◌, true≢false, eq-eqb, ne_eqb}
use Rattle.engine.specs.Searching.{settled_by}
use Rattle.engine.specs.declared.search.Ending.{Ending}
use Rattle.engine.specs.declared.search.Ending.TheVariants.{Found, Nothing, Out}
use Rattle.engine.specs.contracts.search.EndingPartialEq.TheImpl.{eq-value}

pub led_on : {q : Bool} {e : Ending} → q ≡ not (eq-value.it e Nothing) → q ≡ true → e ≡ Nothing → ⊥
led_on n y z = true≢false (sym y ∙ n ∙ rw z refl)

pub led_nowhere : {q : Bool} {e : Ending} → q ≡ not (eq-value.it e Nothing) → q ≡ false → e ≡ Nothing
led_nowhere {q} {e} n y = go e (sym n ∙ y)
  where
    go : (e : Ending) → not (eq-value.it e Nothing) ≡ false → e ≡ Nothing
    go Found h = absurd (true≢false h)
    go Nothing h = refl
    go Out h = absurd (true≢false h)

-- whether a search by scans is settled, by how it ended
module _ {q : Bool} (e : Ending) (n : q ≡ not (eq-value.it e Out)) where
  pub settled_other : (left most budget : ℕ) → q ≡ true → q ≡ settled_by e left most budget
  unfolding settled_by
  settled_other left most budget y = go e n
    where
      go : (e : Ending) → q ≡ not (eq-value.it e Out) → q ≡ settled_by e left most budget
      go Found h = h
      go Nothing h = h
      go Out h = absurd (true≢false (sym y ∙ h))

  out : q ≡ false → e ≡ Out
  out y = go e (sym n ∙ y)
    where
      go : (e : Ending) → not (eq-value.it e Out) ≡ false → e ≡ Out
      go Found h = absurd (true≢false h)
      go Nothing h = absurd (true≢false h)
      go Out h = refl

  pub settled_out : (left most budget : ℕ) → q ≡ false → left ≡ 0 → eqb most budget ≡ settled_by e left most budget
  unfolding settled_by
  settled_out left most budget y z = rw (out y, eq-eqb left 0 z)

  pub settled_left : (left most budget : ℕ) → q ≡ false → (left ≡ 0 → ⊥) → eqb left 0 ≡ settled_by e left most budget
  unfolding settled_by
  settled_left left most budget y z = rw (out y, ne_eqb left 0 z)

pub ruleset settled_laws = (settled_other, settled_out, settled_left)
