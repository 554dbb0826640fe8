-- Unification: it ends, it fails exactly where no substitution exists, and its result is most general.
pub mod Domain
pub mod Enough
pub mod Examples
pub mod Following
pub mod Heights
pub mod Laws
pub mod Opened
pub mod Outcome
pub mod Room
pub mod Run
pub mod Solution
pub mod Tests
use mathlib.Core.List.{List, [], ◌∷◌}
use mathlib.Core.Logic.{◌↔◌}
use mathlib.Core.Path.{◌≡◌, refl}
use Rattle.table.specs.Syntax.{Term, Terms, nil, ◌then◌, under, unders}
use Rattle.rules.specs.Substitution.{Variable, Substitution, Pair, Solves, Unifiable, MostGeneral}
use Rattle.rules.specs.Machinery.Unify.{Bindings, solution, Unified, made, clash, circle, unify, unifies, unify_pairs}
use Rattle.rules.proofs.Unify.Solution.{Satisfies, Good, general, solution_satisfies}
use Rattle.rules.proofs.Substitution.{Over}
use Rattle.rules.proofs.Unify.Domain.{over_parts}
use Rattle.rules.proofs.Unify.Outcome.{EachPair, unify_outcome, unifies_outcome, pairs_outcome, grown, Answers, answers}
use Rattle.rules.proofs.Unify.Run.{Property, Within, Each, Hereditary, EqualTerms, EqualArguments}

-- Every law asks for good bindings: none are good, and what is made of good ones is good.
pub good_none : Good []
unfolding Good
good_none = tt

-- a property of every term
abbrev Any : Property
Any t = Unit {0}

any_within : (bs : Bindings) → Within Any bs
unfolding Within
any_within [] = tt
any_within (b ∷ bs) = (tt, tt, any_within bs)

any_each : (ts : Terms Variable) → Each Any ts
unfolding Each
any_each nil = tt
any_each (t then ts) = (tt, any_each ts)

any_pair : (ps : List Pair) → EachPair Any ps
unfolding EachPair
any_pair [] = tt
any_pair (p ∷ ps) = (tt, tt, any_pair ps)

module _ (bs : Bindings) (good : Good bs) where
  pub unify_answers : (s t : Term Variable) → Answers bs (λ σ. under σ s ≡ under σ t) (unify bs s t)
  unify_answers s t =
      answers Any bs (EqualTerms s t) (unify bs s t) (unify_outcome Any (λ f ts q. any_each ts) bs s t good (any_within bs) tt tt) good

  pub unifies_answers : (ss ts : Terms Variable) → Answers bs (λ σ. unders σ ss ≡ unders σ ts) (unifies bs ss ts)
  unifies_answers ss ts =
      answers
      Any
      bs
      (EqualArguments ss ts)
      (unifies bs ss ts)
      (unifies_outcome Any (λ f ts q. any_each ts) bs ss ts good (any_within bs) (any_each ss) (any_each ts))
      good

  pub pairs_answers : (ps : List Pair) → Answers bs (λ σ. Solves σ ps) (unify_pairs bs ps)
  pairs_answers ps =
      answers
      Any
      bs
      (λ σ. Solves σ ps)
      (unify_pairs bs ps)
      (pairs_outcome Any (λ f ts q. any_each ts) ps bs good (any_within bs) (any_pair ps))
      good

-- What is made consists of what the old bindings and the two terms consist of.
module _ (Q : Property) (parts : Hereditary Q) (bs : Bindings) (good : Good bs) (within : Within Q bs) where
  pub unify_within : (s t : Term Variable) → Q s → Q t → {bs' : Bindings} → unify bs s t ≡ made bs' → Within Q bs'
  unify_within s t qs qt e =
      (grown Q bs (EqualTerms s t) (unify bs s t) (unify_outcome Q parts bs s t good within qs qt) e).within

  pub unifies_within : (ss ts : Terms Variable) → Each Q ss → Each Q ts → {bs' : Bindings} → unifies bs ss ts ≡ made bs' → Within Q bs'
  unifies_within ss ts qs qt e =
      (grown Q bs (EqualArguments ss ts) (unifies bs ss ts) (unifies_outcome Q parts bs ss ts good within qs qt) e).within

  pub pairs_within : (ps : List Pair) → EachPair Q ps → {bs' : Bindings} → unify_pairs bs ps ≡ made bs' → Within Q bs'
  pairs_within ps q e =
      (grown Q bs (λ σ. Solves σ ps) (unify_pairs bs ps) (pairs_outcome Q parts ps bs good within q) e).within

-- So its variables are variables of the old bindings and of the two terms.
module _ (P : Variable → Type 0) (bs : Bindings) (good : Good bs) (within : Within (Over P) bs) where
  pub unify_over : (s t : Term Variable) → Over P s → Over P t → {bs' : Bindings} → unify bs s t ≡ made bs' → Within (Over P) bs'
  unify_over = unify_within (Over P) (over_parts P) bs good within

-- Bindings stand for pairs: a substitution satisfies the bindings exactly if it makes the pairs equal.
pub record Stands (bs : Bindings) (ps : List Pair) : Type 0 where
  pub good : Good bs
  pub solutions : (σ : Substitution) → Satisfies σ bs ↔ Solves σ ps

-- their solution is then a most general solution of the pairs
pub stands_general : (bs : Bindings) (ps : List Pair) → Stands bs ps → MostGeneral (solution bs) ps
stands_general bs ps h =
    record {
      solves = (h.solutions (solution bs)).0 (solution_satisfies bs h.good);
      general = λ τ s. (τ, general τ bs ((h.solutions τ).1 s));
    }

pub stands_unifiable : (bs : Bindings) (ps : List Pair) → Stands bs ps → Unifiable ps
stands_unifiable bs ps h = record { by = solution bs; solves = (stands_general bs ps h).solves }

pub stands_none : Stands [] []
unfolding Satisfies Solves
stands_none = record { good = good_none; solutions = λ σ. (λ s. tt, λ s. tt) }

-- one pair more
module _ (bs : Bindings) (ps : List Pair) (stands : Stands bs ps) (p : Pair) where
  answer : Answers bs (λ σ. under σ p.left ≡ under σ p.right) (unify bs p.left p.right)
  answer = unify_answers bs stands.good p.left p.right

  pub stands_more : {bs' : Bindings} → unify bs p.left p.right ≡ made bs' → Stands bs' (p ∷ ps)
  unfolding Solves
  stands_more e =
      record {
        good = answer.good e;
        solutions = λ σ. (
          λ s. let h = (answer.solutions e σ).0 s in (h.1, (stands.solutions σ).0 h.0),
          λ s. (answer.solutions e σ).1 ((stands.solutions σ).1 s.1, s.0),
        );
      }

  pub unifiable_made : Unifiable (p ∷ ps) → (bs' : Bindings) × (unify bs p.left p.right ≡ made bs')
  unfolding Solves
  unifiable_made u = answer.complete u.by ((stands.solutions u.by).1 u.solves.1) u.solves.0

-- pairs unified one after another, from no bindings
pub pairs_stand : (ps : List Pair) (bs : Bindings) → unify_pairs [] ps ≡ made bs → Stands bs ps
unfolding Satisfies
pairs_stand ps bs e =
    let a = pairs_answers [] good_none ps in
    record { good = a.good e; solutions = λ σ. (λ s. ((a.solutions e σ).0 s).1, λ s. (a.solutions e σ).1 (tt, s)) }

pub made_general : (ps : List Pair) (bs : Bindings) → unify_pairs [] ps ≡ made bs → MostGeneral (solution bs) ps
made_general ps bs e = stands_general bs ps (pairs_stand ps bs e)

pub made_unifiable : (ps : List Pair) → ((bs : Bindings) × (unify_pairs [] ps ≡ made bs)) ↔ Unifiable ps
unfolding Satisfies
made_unifiable ps = (
  λ m. stands_unifiable m.0 ps (pairs_stand ps m.0 m.1),
  λ u. (pairs_answers [] good_none ps).complete u.by tt u.solves,
)

-- it is decided whether pairs are unifiable
pub unifiable? : (ps : List Pair) → Dec (Unifiable ps)
unfolding Satisfies
unifiable? ps = go (unify_pairs [] ps) refl
  where
    a : Answers [] (λ σ. Solves σ ps) (unify_pairs [] ps)
    a = pairs_answers [] good_none ps

    go : (r : Unified) → unify_pairs [] ps ≡ r → Dec (Unifiable ps)
    go (made bs) e = yes (stands_unifiable bs ps (pairs_stand ps bs e))
    go clash e = no (λ u. a.clashes e u.by tt u.solves)
    go circle e = no (λ u. a.circles e u.by tt u.solves)
