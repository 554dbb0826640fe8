-- Locality: what steps make depends on the clauses that they copy and on the question alone. Over a table that has these under other
-- numbers the renumbered steps make the same tableau, and the checker says the same of them, at the same place.
use borrow.Author.Tests.{eqb-true, eqb-false, eq-eqb, ne_eqb}
use lib.Dec.{eqb}
use lib.ListN.{length, get_elem?}
use mathlib.Core.Bool.{Bool, true, false}
use mathlib.Core.List.{List, [], ◌∷◌, map}
use mathlib.Core.Logic.{◌↔◌}
use mathlib.Core.Option.{Option, none, some}
use mathlib.Core.Path.{◌≡◌, refl, sym, ◌∙◌, ap, subst}
use Prim.Native.Nat.{ℕ, suc}
use Rattle.words.specs.declared.Step.{Step}
use Rattle.words.specs.declared.Step.TheVariants.{Reduction, Extension, Restart, Malformed}
use Rattle.table.specs.Syntax.{Clause, Table, all_clauses}
use Rattle.rules.specs.Substitution.{Substitution}
use Rattle.rules.specs.Setting.{Profile, over}
use Rattle.rules.specs.Tableau.{Leaf, Tableau, start, questions_with, extended, treated, stepped, Made, as_it_stands, by_step, Closed}
use Rattle.rules.specs.Answer.{per_copy, disjuncts, answer_words}
use Rattle.rules.specs.System.{◌∈◌, first, later}
use Rattle.rules.specs.Machinery.Play.{Play, begin, perform, Performed, goes_on, not_possible, clashes, circular, closes_pair, Checking, refusal, onwards, check_from, check}
use Rattle.rules.specs.Locality.{renumbered, SameClauseAt, SameCopied}

-- two tests of numbers agree where the equalities do
same_test : (i m k n : ℕ) → (i ≡ m) ↔ (k ≡ n) → eqb i m ≡ eqb k n
same_test i m k n h = go (eqb i m) refl
  where
    go : (b : Bool) → eqb i m ≡ b → eqb i m ≡ eqb k n
    go true e = e ∙ sym (eq-eqb k n (h.0 (eqb-true i m e)))
    go false e = e ∙ sym (ne_eqb k n (λ f. eqb-false i m e (h.1 f)))

-- the question in common, and clauses with their numbers
module _ (rules : Profile) (t u : Table) (number : ℕ → ℕ) (bound : ℕ) where
  same-extended : (x : Tableau) (leaf : Leaf) (rest : List Leaf) (i j : ℕ) (o : Option Clause) → (i ≡ length t.clauses) ↔ (number i ≡ length u.clauses)
      → extended u x leaf rest (number i) j o ≡ extended t x leaf rest i j o
  unfolding extended questions_with
  same-extended x leaf rest i j none h = refl
  same-extended x leaf rest i j (some clause) h = rw (same_test i (length t.clauses) (number i) (length u.clauses) h)

  same-treated : t.question ≡ u.question → (x : Tableau) (leaves : List Leaf) (s : Step)
      → ((i j : ℕ) → s ≡ Extension i j → SameClauseAt t u i (number i))
      → treated (over rules u bound) x leaves (renumbered number s) ≡ treated (over rules t bound) x leaves s
  unfolding treated renumbered
  same-treated q x [] s h = refl
  same-treated q x (leaf ∷ rest) (Reduction height) h = refl
  same-treated q x (leaf ∷ rest) (Extension i j) h =
      let k = h i j refl in
      rw (k.clause, same-extended x leaf rest i j (get_elem? (all_clauses u) (number i)) k.question)
  same-treated q x (leaf ∷ rest) Restart h = rw q
  same-treated q x (leaf ∷ rest) Malformed h = refl

  same-stepped : t.question ≡ u.question → (x : Tableau) (s : Step) → ((i j : ℕ) → s ≡ Extension i j → SameClauseAt t u i (number i))
      → stepped (over rules u bound) x (renumbered number s) ≡ stepped (over rules t bound) x s
  unfolding stepped
  same-stepped q x s h = same-treated q x x.leaves s h

  -- of the first of the steps, and of the others
  module _ (q : t.question ≡ u.question) {s : Step} {ss : List Step} (same : (i j : ℕ) → Extension i j ∈ (s ∷ ss) → SameClauseAt t u i (number i)) where
    step_same : (x : Tableau) → stepped (over rules u bound) x (renumbered number s) ≡ stepped (over rules t bound) x s
    step_same x = same-stepped q x s (λ i j e. same i j (subst (λ (r : Step). r ∈ (s ∷ ss)) e first))

    rest-same : (i j : ℕ) → Extension i j ∈ ss → SameClauseAt t u i (number i)
    rest-same i j m = same i j (later m)

  -- the steps make the same tableau
  local-made : t.question ≡ u.question → {x z : Tableau} {ss : List Step} → ((i j : ℕ) → Extension i j ∈ ss → SameClauseAt t u i (number i))
      → Made (over rules t bound) x ss z → Made (over rules u bound) x (map (renumbered number) ss) z
  local-made q h as_it_stands = as_it_stands
  local-made q {x} h (by_step e m) = by_step (step_same q h x ∙ e) (local-made q (rest-same q h) m)

  -- the checker says the same of them
  same-refusal : (s : Step) → refusal (renumbered number s) ≡ refusal s
  unfolding refusal renumbered
  same-refusal (Reduction height) = refl
  same-refusal (Extension i j) = refl
  same-refusal Restart = refl
  same-refusal Malformed = refl

  same-closes : (s : Step) → closes_pair (renumbered number s) ≡ closes_pair s
  unfolding renumbered
  same-closes (Reduction height) = refl
  same-closes (Extension i j) = refl
  same-closes Restart = refl
  same-closes Malformed = refl

  same-onwards : (o : Performed) (s : Step) (place : ℕ) (next after : Play → Checking) → ((q : Play) → next q ≡ after q)
      → onwards o (renumbered number s) place next ≡ onwards o s place after
  unfolding onwards
  same-onwards (goes_on q) s place next after h = h q
  same-onwards not_possible s place next after h = rw (same-refusal s)
  same-onwards clashes s place next after h = refl
  same-onwards circular s place next after h = refl

  local-checked : t.question ≡ u.question → (ss : List Step) → ((i j : ℕ) → Extension i j ∈ ss → SameClauseAt t u i (number i)) → (p : Play) (place : ℕ)
      → check_from (over rules u bound) p place (map (renumbered number) ss) ≡ check_from (over rules t bound) p place ss
  unfolding check_from perform
  local-checked q [] h p place = refl
  local-checked q (s ∷ ss) h p place =
      rw (step_same q h p.tableau, same-closes s) (same-onwards _ s place _ _ (λ r. local-checked q ss (rest-same q h) r (suc place)))

same_start : (t u : Table) → t.question ≡ u.question → start t ≡ start u
unfolding start
same_start t u e = rw e

same_begin : (t u : Table) → t.question ≡ u.question → begin t ≡ begin u
unfolding begin
same_begin t u e = rw (same_start t u e)

-- the answer depends on the question and the tableau alone
pub same_disjuncts : (σ : Substitution) (t u : Table) (x : Tableau) → t.question ≡ u.question → disjuncts σ u x ≡ disjuncts σ t x
unfolding disjuncts per_copy
same_disjuncts σ t u x e = rw e

pub same_words_lem : (σ : Substitution) (t u : Table) (x : Tableau) → t.question ≡ u.question → answer_words σ u x ≡ answer_words σ t x
unfolding answer_words
same_words_lem σ t u x e = rw (same_disjuncts σ t u x e)

module _ {t u : Table} {number : ℕ → ℕ} {steps : List Step} (same : SameCopied t u number steps) where
  pub local_check : (rules : Profile) (bound : ℕ) → check (over rules u bound) (map (renumbered number) steps) ≡ check (over rules t bound) steps
  unfolding check
  local_check rules bound =
      ap (λ (p : Play). check_from (over rules u bound) p 0 (map (renumbered number) steps)) (sym (same_begin t u same.question))
      ∙ local-checked rules t u number bound same.question steps same.copied (begin t) 0

  pub local_closed : {rules : Profile} {bound : ℕ} → Closed (over rules t bound) steps → Closed (over rules u bound) (map (renumbered number) steps)
  local_closed {rules} {bound} c =
      record {
        tableau = c.tableau;
        made = rw (same_start t u same.question) at (local-made rules t u number bound same.question same.copied c.made);
        no_leaf_open = c.no_leaf_open;
        unifiable = c.unifiable;
      }

  -- with the same pairs and copies of the question
  pub local_tableau : {rules : Profile} {bound : ℕ} (c : Closed (over rules t bound) steps) → (local_closed c).tableau ≡ c.tableau
  unfolding local_closed
  local_tableau c = refl
