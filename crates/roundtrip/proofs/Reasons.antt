-- Why a pair can't be made equal is the same of its image.
use mathlib.Core.List.{List, [], ◌∷◌}
use mathlib.Core.Path.{◌≡◌, refl, sym, ap, ap₂, ◌∙◌}
use Prim.Native.Nat.{ℕ}
use Rattle.table.specs.Syntax.{Term, var, app, Terms, nil, ◌then◌, arity, under, unders}
use Rattle.rules.specs.Substitution.{Variable, Substitution, Pair, Solves, MostGeneral}
use Rattle.rules.specs.Tableau.{atom, closing}
use Rattle.rules.specs.Comparison.{Reason, Holds, itself, in_arguments, HoldsAmong, in_this, in_later, Wrong, symbols, held_by_right, held_by_left, Fails, this_pair, inside, FailsAmong, in_first, in_rest, NewestFails, newest_fails}
use Rattle.roundtrip.specs.Renumbered.{renamed_term, renamed_terms, renamed_literal}
use Rattle.roundtrip.proofs.Limits.{arity_renamed}
use Rattle.roundtrip.proofs.Permutations.{Permutation, kept_apart}
use Rattle.roundtrip.proofs.Images.{turned, turned_back, turned_under, all_turned_under, PairsImage, no_pairs, one_more, forth, unders_forth, general_forth}

module _ (f : Permutation ℕ) where
  abbrev turns : Terms Variable → Terms Variable
  turns ts = renamed_terms f.to (λ x. x) ts

  -- a most general solution of one pair
  abbrev unturned : Substitution → Substitution
  unturned τ x = renamed_term f.from (λ y. y) (τ x)

  mutual
    unfolding renamed_term under

    under-unturned : (τ : Substitution) (t : Term Variable) → under (unturned τ) t ≡ renamed_term f.from (λ y. y) (under τ (turned f t))
    under-unturned τ (var x) = refl
    under-unturned τ (app g ts) = ap₂ app (sym (f.back g)) (unders-unturned τ ts)

    unders-unturned : (τ : Substitution) (ts : Terms Variable) → unders (unturned τ) ts ≡ renamed_terms f.from (λ y. y) (unders τ (turns ts))
    unders-unturned τ nil = refl
    unders-unturned τ (t then ts) = ap₂ ◌then◌ (under-unturned τ t) (unders-unturned τ ts)

  abbrev one : Term Variable → Term Variable → List Pair
  one s t = record { left = s; right = t } ∷ []

  general_turned : (σ : Substitution) (s t : Term Variable) → MostGeneral σ (one s t) → MostGeneral (λ y. turned f (σ y)) (one (turned f s) (turned f t))
  unfolding Solves
  general_turned σ s t g = record {
    solves = (turned_under f σ s ∙ ap (λ (a : Term Variable). turned f a) g.solves.0 ∙ sym (turned_under f σ t), tt);
    general = λ τ e. (
        let h = g.general (unturned τ) (under-unturned τ s ∙ ap (λ (a : Term Variable). renamed_term f.from (λ y. y) a) e.0 ∙ sym (under-unturned τ t), tt) in (
          λ y. turned f (h.0 y),
          λ x. sym (turned_under f h.0 (σ x) ∙ ap (λ (a : Term Variable). turned f a) (sym (h.1 x)) ∙ turned_back f (τ x)),
        )
        );
  }

  mutual
    unfolding renamed_term

    holds-turned : {x : Variable} {t : Term Variable} → Holds x t → Holds x (turned f t)
    holds-turned itself = itself
    holds-turned (in_arguments h) = in_arguments (all-hold-turned h)

    all-hold-turned : {x : Variable} {ts : Terms Variable} → HoldsAmong x ts → HoldsAmong x (turns ts)
    all-hold-turned (in_this h) = in_this (holds-turned h)
    all-hold-turned (in_later h) = in_later (all-hold-turned h)

  -- symbols that differ, or arities, still do
  apart-turned : (p : Permutation ℕ) (m n : ℕ) (ss ts : Terms Variable) → ¬ ((m ≡ n) × (arity ss ≡ arity ts)) → ¬ ((p.to m ≡ p.to n) × (arity (turns ss) ≡ arity (turns ts)))
  apart-turned p m n ss ts d e =
      d (kept_apart p e.0, sym (arity_renamed f.to (λ x. x) ss) ∙ e.1 ∙ arity_renamed f.to (λ x. x) ts)

  same-arity : (ss ts : Terms Variable) → arity ss ≡ arity ts → arity (turns ss) ≡ arity (turns ts)
  same-arity ss ts e = arity_renamed f.to (λ x. x) ss ∙ e ∙ sym (arity_renamed f.to (λ x. x) ts)

  wrong_turned : {s t : Term Variable} {r : Reason} → Wrong s t r → Wrong (turned f s) (turned f t) r
  unfolding renamed_term
  wrong_turned (symbols {f = m} {g = n} {ss = ss} {ts = ts} d) = symbols (apart-turned f m n ss ts d)
  wrong_turned (held_by_right h) = held_by_right (all-hold-turned h)
  wrong_turned (held_by_left h) = held_by_left (all-hold-turned h)

  mutual
    unfolding renamed_term

    fails_turned : {s t : Term Variable} {r : Reason} → Fails s t r → Fails (turned f s) (turned f t) r
    fails_turned (this_pair w) = this_pair (wrong_turned w)
    fails_turned (inside {ss = ss} {ts = ts} e h) = inside (same-arity ss ts e) (among_turned h)

    among_turned : {ss ts : Terms Variable} {r : Reason} → FailsAmong ss ts r → FailsAmong (turns ss) (turns ts) r
    among_turned (in_first h) = in_first (fails_turned h)
    among_turned (in_rest {s = s} {t = t} {ss = ss} {ts = ts} {r = r} {σ = σ} g h) =
        let rest : FailsAmong (unders (λ y. turned f (σ y)) (turns ss)) (unders (λ y. turned f (σ y)) (turns ts)) r =
        rw (all_turned_under f σ ss, all_turned_under f σ ts) (among_turned h) in
        in_rest (general_turned σ s t g) rest

-- of two atoms: the predicate has a numbering of its own
atoms_turned : (p f : Permutation ℕ) (m n : ℕ) (ss ts : Terms Variable) {r : Reason} → Fails (app m ss) (app n ts) r → Fails (app (p.to m) (turns f ss)) (app (p.to n) (turns f ts)) r
atoms_turned p f m n ss ts (this_pair (symbols d)) = this_pair (symbols (apart-turned f p m n ss ts d))
atoms_turned p f m n ss ts (inside e h) = inside (same-arity f ss ts e) (among_turned f h)

module _ (p f : Permutation ℕ) (v : Permutation Variable) where
  pub newest_image : {ps qs : List Pair} {r : Reason} → PairsImage p f v ps qs → NewestFails ps r → NewestFails qs r
  unfolding closing atom under renamed_literal
  newest_image {r = r} no_pairs h = elim h [ ]
  newest_image (one_more l k more) (newest_fails {σ = σ} {r = r} g h) =
      let compared : Fails (app (p.to l.predicate) (unders (forth p f v σ) (renamed_terms f.to v.to l.arguments))) (app (p.to k.predicate) (unders (forth p f v σ) (renamed_terms f.to v.to k.arguments))) r =
      rw (unders_forth p f v σ l.arguments, unders_forth p f v σ k.arguments)
      (atoms_turned p f l.predicate k.predicate (unders σ l.arguments) (unders σ k.arguments) h) in
      newest_fails (general_forth p f v more σ g) compared
