-- A larger bound, or clauses added anywhere before the question, leave a closed tableau closed, with the same answer.
use lib.ListN.{length, get_elem?}
use mathlib.Core.List.{List, [], ◌∷◌, ◌++◌, map}
use mathlib.Core.Option.{Option, none, some}
use mathlib.Core.Path.{◌≡◌, refl, ◌∙◌, ap}
use native.Mathlib.Omega.{arith}
use Prim.Native.Nat.{ℕ, zero, suc, ◌≤◌}
use Rattle.words.specs.declared.Step.{Step}
use Rattle.table.specs.Syntax.{Clause, Table, all_clauses}
use Rattle.rules.specs.Setting.{Profile, over}
use Rattle.rules.specs.Tableau.{Tableau, stepped, Made, as_it_stands, by_step, Closed}
use Rattle.rules.specs.Machinery.Play.{Play, begin, Performed, goes_on, not_possible, clashes, circular, closes_pair, performed, perform, Checking, passed, onwards, check_from, check}
use Rattle.rules.specs.Locality.{SameCopied}
use Rattle.rules.specs.Growing.{Inserted, at_end, kept, added, along, Larger, moved}
use Rattle.rules.proofs.Locality.{local_closed, local_tableau}
use Rattle.rules.proofs.Steps.{Does, reduces, extends, restarts, does, done}
use Rattle.rules.proofs.System.Clash.{clash}

along_same : {cs ds : List Clause} (r : Inserted cs ds) (last : Clause) (i : ℕ)
    → get_elem? (cs ++ (last ∷ [])) i ≡ get_elem? (ds ++ (last ∷ [])) (along r i)
unfolding along
along_same at_end last i = refl
along_same (kept r) last zero = refl
along_same (kept r) last (suc i) = along_same r last i
along_same (added r) last i = along_same r last i

-- the question's number, and no other, becomes the question's
along_question : {cs ds : List Clause} (r : Inserted cs ds) (i : ℕ) → i ≡ length cs → along r i ≡ length ds
unfolding along
along_question at_end i e = e
along_question (kept r) zero e = omega arith
along_question (kept r) (suc i) e = ap suc (along_question r i (omega arith))
along_question (added r) i e = ap suc (along_question r i e)

question_along : {cs ds : List Clause} (r : Inserted cs ds) (i : ℕ) → along r i ≡ length ds → i ≡ length cs
unfolding along
question_along at_end i e = e
question_along (kept r) zero e = omega arith
question_along (kept r) (suc i) e = ap suc (question_along r i (omega arith))
question_along (added r) i e = question_along r i (omega arith)

module _ {rules : Profile} {t : Table} {small large : ℕ} (h : small ≤ large) where
  raised-does : {x y : Tableau} {s : Step} → Does (over rules t small) x s y → Does (over rules t large) x s y
  raised-does (reduces l a f e) = reduces l a f e
  raised-does (extends l b c a f e) = extends l (b.0, omega arith) c a f e
  raised-does (restarts l b e) = restarts l (b.0, omega arith) e

  raised-made : {x z : Tableau} {ss : List Step} → Made (over rules t small) x ss z → Made (over rules t large) x ss z
  raised-made as_it_stands = as_it_stands
  raised-made (by_step {s = s} e m) = by_step (done (raised-does (does s e))) (raised-made m)

  -- a larger bound
  pub raised : {ss : List Step} → Closed (over rules t small) ss → Closed (over rules t large) ss
  raised c =
      record {
        tableau = c.tableau;
        made = raised-made c.made;
        no_leaf_open = c.no_leaf_open;
        unifiable = c.unifiable;
      }

  pub raised_tableau : {ss : List Step} (c : Closed (over rules t small) ss) → (raised c).tableau ≡ c.tableau
  unfolding raised
  raised_tableau c = refl

-- and what is passed is passed as the same play
module _ (rules : Profile) (t : Table) {small large : ℕ} (h : small ≤ large) {q : Play} where
  raised-onwards : (o : Performed) (s : Step) (place : ℕ) (next after : Play → Checking) → ((p : Play) → next p ≡ passed q → after p ≡ passed q)
      → onwards o s place next ≡ passed q → onwards o s place after ≡ passed q
  unfolding onwards
  raised-onwards (goes_on p) s place next after k e = k p e
  raised-onwards not_possible s place next after k e = clash (cc)
  raised-onwards clashes s place next after k e = clash (cc)
  raised-onwards circular s place next after k e = clash (cc)

  raised-performed : (p : Play) (s : Step) (place : ℕ) (next : Play → Checking) (o : Option Tableau) → stepped (over rules t small) p.tableau s ≡ o
      → onwards (performed p.bindings o (closes_pair s)) s place next ≡ passed q
      → perform (over rules t large) p s ≡ performed p.bindings o (closes_pair s)
  unfolding performed perform onwards
  raised-performed p s place next none f e = clash (cc)
  raised-performed p s place next (some y) f e = rw (done (raised-does h (does s f)))

  raised-from : (ss : List Step) (p : Play) (place : ℕ) → check_from (over rules t small) p place ss ≡ passed q
      → check_from (over rules t large) p place ss ≡ passed q
  unfolding check_from perform
  raised-from [] p place e = e
  raised-from (s ∷ ss) p place e =
      rw (raised-performed p s place _ _ refl e)
      (raised-onwards _ s place _ _ (λ r. raised-from ss r (suc place)) e)

  pub raised_check : (ss : List Step) → check (over rules t small) ss ≡ passed q → check (over rules t large) ss ≡ passed q
  unfolding check
  raised_check ss e = raised-from ss (begin t) 0 e

-- in the larger table every clause has its new number
pub larger_copied : {t u : Table} (larger : Larger t u) (steps : List Step) → SameCopied t u (along larger.clauses) steps
unfolding all_clauses
larger_copied {t} {u} larger steps =
    record {
      question = larger.question;
      copied = λ i j m.
          record {
            clause = along_same larger.clauses t.question i ∙ ap (λ (q : Clause). get_elem? (u.clauses ++ (q ∷ [])) (along larger.clauses i)) larger.question;
            question = (along_question larger.clauses i, question_along larger.clauses i);
          };
    }

module _ {rules : Profile} {t u : Table} (larger : Larger t u) {bound : ℕ} where
  -- clauses added anywhere before the question: the steps with their clause numbers moved along are closed
  pub grown : {ss : List Step} → Closed (over rules t bound) ss → Closed (over rules u bound) (map (moved larger) ss)
  unfolding moved
  grown {ss} c = local_closed (larger_copied larger ss) c

  -- with the same pairs and copies of the question
  pub grown_tableau : {ss : List Step} (c : Closed (over rules t bound) ss) → (grown c).tableau ≡ c.tableau
  unfolding grown moved
  grown_tableau {ss} c = local_tableau (larger_copied larger ss) c
