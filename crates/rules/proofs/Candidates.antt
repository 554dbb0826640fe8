-- The candidates of a leaf are exactly the steps that can be taken there, each once, in the stated order;
-- and of two closed tableaux one comes before the other, or they are the same.
use borrow.Author.Tests.{lt-ltb}
use lib.ListN.{get_elem?}
use mathlib.Core.Bool.{Bool, true, false, cond}
use mathlib.Core.List.{List, [], ◌∷◌, ◌++◌, Memᴰ}
use mathlib.Core.Logic.{◌⊎◌, inl, inr}
use mathlib.Core.Option.{some}
use mathlib.Core.Path.{◌≡◌, refl, sym, ◌∙◌, ap}
use native.Mathlib.Decide.{dec_lt}
use native.Mathlib.Omega.{arith}
use Prim.Native.Nat.{ℕ, zero, suc, ◌+◌, ◌<◌}
use Rattle.words.specs.declared.Step.{Step}
use Rattle.words.specs.declared.Step.TheVariants.{Reduction, Extension, Restart, Malformed}
use Rattle.table.specs.Syntax.{Literal, Clause, all_clauses}
use Rattle.rules.specs.Substitution.{Variable}
use Rattle.rules.specs.Setting.{Setting}
use Rattle.rules.specs.Tableau
use Rattle.rules.specs.Tableau.{copy_of, fits, Leaf, Tableau, stepped, may_extend, may_restart, treated, reduced, ancestor, extended, entered, Made, Closed, as_it_stands, by_step}
use Rattle.rules.specs.Order.{Precedes, Before, at_once, later, reductions, entries, extensions, candidates, candidates_at}
use Rattle.rules.proofs.Lists.{none_some}
use Rattle.rules.proofs.Steps.{MayExtend, MayRestart, Does, reduces, extends, restarts, does}
use Rattle.rules.proofs.Every.{All, end, ◌also◌, all_of, all_members, Ordered, done, some_same, ◌ahead◌, ordered_append}

-- The steps that a list of literals offers to a leaf: one for each literal that fits, made from its place.
unfoldable offered : (ℕ → Step) → Literal Variable → ℕ → List (Literal Variable) → List Step
offered made leaf n [] = []
offered made leaf n (m ∷ ms) = cond (fits leaf m) (made n ∷ offered made leaf (suc n) ms) (offered made leaf (suc n) ms)

reductions_offered : (leaf : Literal Variable) (n : ℕ) (ms : List (Literal Variable)) → reductions leaf n ms ≡ offered Reduction leaf n ms
unfolding offered reductions
reductions_offered leaf n [] = refl
reductions_offered leaf n (m ∷ ms) =
    ap (λ (r : List Step). cond (fits leaf m) (Reduction n ∷ r) r) (reductions_offered leaf (suc n) ms)

entries_offered : (leaf : Literal Variable) (i n : ℕ) (ms : List (Literal Variable)) → entries leaf i n ms ≡ offered (Extension i) leaf n ms
unfolding offered entries
entries_offered leaf i n [] = refl
entries_offered leaf i n (m ∷ ms) =
    ap (λ (r : List Step). cond (fits leaf m) (Extension i n ∷ r) r) (entries_offered leaf i (suc n) ms)

-- a step that is offered: the place and the literal from which it was made
record Offer (made : ℕ → Step) (leaf : Literal Variable) (n : ℕ) (ms : List (Literal Variable)) (s : Step) : Type 0 where
  place : ℕ
  partner : Literal Variable
  is : s ≡ made (n + place)
  there : get_elem? ms place ≡ some partner
  fitting : fits leaf partner ≡ true

module _ (made : ℕ → Step) (leaf : Literal Variable) where
  offer-later : (n : ℕ) (m : Literal Variable) (ms : List (Literal Variable)) {s : Step} → Offer made leaf (suc n) ms s → Offer made leaf n (m ∷ ms) s
  offer-later n m ms o = record { place = suc o.place; partner = o.partner; is = o.is ∙ ap made (omega arith); there = o.there; fitting = o.fitting }

  offered-cases :
      (n : ℕ) (m : Literal Variable) (ms : List (Literal Variable)) {s : Step} (b : Bool) → fits leaf m ≡ b
      → Memᴰ s (cond b (made n ∷ offered made leaf (suc n) ms) (offered made leaf (suc n) ms))
      → (Memᴰ s (offered made leaf (suc n) ms) → Offer made leaf (suc n) ms s) → Offer made leaf n (m ∷ ms) s
  offered-cases n m ms {s} true e i rest = go (mathlib.Core.List.Memᴰ.cases_cons i)
    where
      go : (s ≡ made n) ⊎ Memᴰ s (offered made leaf (suc n) ms) → Offer made leaf n (m ∷ ms) s
      go (inl h) = record { place = 0; partner = m; is = h ∙ ap made (omega arith); there = refl; fitting = e }
      go (inr j) = offer-later n m ms (rest j)
  offered-cases n m ms false e i rest = offer-later n m ms (rest i)

  offered-is : (n : ℕ) (ms : List (Literal Variable)) {s : Step} → Memᴰ s (offered made leaf n ms) → Offer made leaf n ms s
  unfolding offered
  offered-is n [] i = absurd (mathlib.Core.List.Memᴰ.not-nil i)
  offered-is n (m ∷ ms) i = offered-cases n m ms (fits leaf m) refl i (offered-is (suc n) ms)

  offered-more :
      (n : ℕ) (ms : List (Literal Variable)) {s : Step} (b : Bool) → Memᴰ s (offered made leaf (suc n) ms)
      → Memᴰ s (cond b (made n ∷ offered made leaf (suc n) ms) (offered made leaf (suc n) ms))
  offered-more n ms true i = mathlib.Core.List.Memᴰ.tail i
  offered-more n ms false i = i

  offered-has :
      (n : ℕ) (ms : List (Literal Variable)) (place : ℕ) {partner : Literal Variable} → get_elem? ms place ≡ some partner
      → fits leaf partner ≡ true → Memᴰ (made (n + place)) (offered made leaf n ms)
  unfolding offered
  offered-has n [] place e f = absurd (none_some e)
  offered-has n (m ∷ ms) zero {partner} e f =
      let g : fits leaf m ≡ true = ap (fits leaf) (some_same e) ∙ f in
      let h : n + 0 ≡ n = omega arith in
      rw (g, h) (mathlib.Core.List.Memᴰ.head refl)
  offered-has n (m ∷ ms) (suc place) e f =
      let h : n + suc place ≡ suc n + place = omega arith in
      rw h (offered-more n ms (fits leaf m) (offered-has (suc n) ms place e f))

  module _ (up : (i j : ℕ) → i < j → Precedes (made i) (made j)) where
    offered-after : (n : ℕ) (ms : List (Literal Variable)) → All (Precedes (made n)) (offered made leaf (suc n) ms)
    offered-after n ms =
        all_members _ λ s i.
        let o : Offer made leaf (suc n) ms s = offered-is (suc n) ms i in
        rw o.is (up n (suc n + o.place) (omega arith))

    offered-ordered : (n : ℕ) (ms : List (Literal Variable)) → Ordered Precedes (offered made leaf n ms)
    unfolding offered
    offered-ordered n [] = done
    offered-ordered n (m ∷ ms) = go (fits leaf m) (offered-ordered (suc n) ms)
      where
        go : (b : Bool) → Ordered Precedes (offered made leaf (suc n) ms)
            → Ordered Precedes (cond b (made n ∷ offered made leaf (suc n) ms) (offered made leaf (suc n) ms))
        go true o = offered-after n ms ahead o
        go false o = o

-- a step that the clauses offer: the clause, its number, and the step's offer in a copy of it
record Entry (leaf : Literal Variable) (copy n : ℕ) (cs : List Clause) (s : Step) : Type 0 where
  number : ℕ
  clause : Clause
  there : get_elem? cs number ≡ some clause
  offer : Offer (Extension (n + number)) leaf 0 (copy_of copy clause) s

module _ (leaf : Literal Variable) (copy : ℕ) where
  entry-later : (n : ℕ) (c : Clause) (cs : List Clause) {s : Step} → Entry leaf copy (suc n) cs s → Entry leaf copy n (c ∷ cs) s
  entry-later n c cs {s} o =
      let h : suc n + o.number ≡ n + suc o.number = omega arith in
      record { number = suc o.number; clause = o.clause; there = o.there; offer = rw h at o.offer }

  extensions_are : (n : ℕ) (cs : List Clause) {s : Step} → Memᴰ s (extensions leaf copy n cs) → Entry leaf copy n cs s
  unfolding extensions
  extensions_are n [] i = absurd (mathlib.Core.List.Memᴰ.not-nil i)
  extensions_are n (c ∷ cs) {s} i = go (mathlib.Core.List.Memᴰ.append_cases (entries leaf n 0 (copy_of copy c)) i) (extensions_are (suc n) cs)
    where
      go : Memᴰ s (entries leaf n 0 (copy_of copy c)) ⊎ Memᴰ s (extensions leaf copy (suc n) cs)
          → (Memᴰ s (extensions leaf copy (suc n) cs) → Entry leaf copy (suc n) cs s) → Entry leaf copy n (c ∷ cs) s
      go (inl j) rest =
          let h : n + 0 ≡ n = omega arith in
          record {
            number = 0;
            clause = c;
            there = refl;
            offer = rw h (offered-is (Extension n) leaf 0 (copy_of copy c) (rw entries_offered at j));
          }
      go (inr j) rest = entry-later n c cs (rest j)

  extensions-have :
      (n : ℕ) (cs : List Clause) (number place : ℕ) {clause : Clause} {partner : Literal Variable} → get_elem? cs number ≡ some clause
      → get_elem? (copy_of copy clause) place ≡ some partner → fits leaf partner ≡ true
      → Memᴰ (Extension (n + number) place) (extensions leaf copy n cs)
  unfolding extensions
  extensions-have n [] number place e f g = absurd (none_some e)
  extensions-have n (c ∷ cs) zero place {clause} e f g =
      let h : n + 0 ≡ n = omega arith in
      let k : 0 + place ≡ place = omega arith in
      let i : Memᴰ (Extension n (0 + place)) (entries leaf n 0 (copy_of copy clause)) = rw entries_offered (offered-has (Extension n) leaf 0 (copy_of copy clause) place f g) in
      rw (h, some_same e) (mathlib.Core.List.Memᴰ.append_left _ (rw k at i))
  extensions-have n (c ∷ cs) (suc number) place e f g =
      let h : n + suc number ≡ suc n + number = omega arith in
      rw h (mathlib.Core.List.Memᴰ.append_right (entries leaf n 0 (copy_of copy c)) (extensions-have (suc n) cs number place e f g))

  extensions_after : (i n : ℕ) (cs : List Clause) → i < n → (j : ℕ) → All (Precedes (Extension i j)) (extensions leaf copy n cs)
  unfolding Precedes
  extensions_after i n cs l j = all_members _ λ s m. let o : Entry leaf copy n cs s = extensions_are n cs m in rw o.offer.is (inl (omega arith))

  extensions_ordered : (n : ℕ) (cs : List Clause) → Ordered Precedes (extensions leaf copy n cs)
  unfolding extensions Precedes
  extensions_ordered n [] = done
  extensions_ordered n (c ∷ cs) =
      let e : entries leaf n 0 (copy_of copy c) ≡ offered (Extension n) leaf 0 (copy_of copy c) = entries_offered leaf n 0 (copy_of copy c) in
      ordered_append {xs = entries leaf n 0 (copy_of copy c)} (rw e (offered-ordered (Extension n) leaf (λ i j l. inr (refl, l)) 0 (copy_of copy c))) (extensions_ordered (suc n) cs)
      (rw e (all_members _ λ s i. let o : Offer (Extension n) leaf 0 (copy_of copy c) s = offered-is (Extension n) leaf 0 (copy_of copy c) i in rw o.is (extensions_after n (suc n) cs (omega arith) (0 + o.place))))

-- the ancestors that a leaf may be reduced against
abbrev reach : Leaf → List (Literal Variable)
reach leaf = leaf.branch

module _ (S : Setting) (x : Tableau) where
  -- a step that is taken is a candidate
  reduction-candidate :
      (leaf : Leaf) (rest : List Leaf) (height : ℕ) {m : Literal Variable} → ancestor height leaf.branch ≡ some m
      → fits leaf.literal m ≡ true → Memᴰ (Reduction height) (candidates_at S x.extensions (leaf ∷ rest))
  unfolding candidates_at ancestor
  reduction-candidate leaf rest zero a f = absurd (none_some a)
  reduction-candidate leaf rest (suc h) a f =
      let k : 1 + h ≡ suc h = omega arith in
      let i = offered-has Reduction leaf.literal 1 (reach leaf) h a f in
      let m : Memᴰ (Reduction (suc h)) (reductions leaf.literal 1 (reach leaf)) = rw reductions_offered (rw k at i) in
      mathlib.Core.List.Memᴰ.append_left _ m

  extension-candidate :
      (leaf : Leaf) (rest : List Leaf) (i j : ℕ) {clause : Clause} {m : Literal Variable} → MayExtend S x leaf
      → get_elem? (all_clauses S.table) i ≡ some clause → get_elem? (copy_of (suc x.extensions) clause) j ≡ some m
      → fits leaf.literal m ≡ true → Memᴰ (Extension i j) (candidates_at S x.extensions (leaf ∷ rest))
  unfolding candidates_at
  extension-candidate leaf rest i j u c a f =
      let k : 0 + i ≡ i = omega arith in
      let m = extensions-have leaf.literal (suc x.extensions) 0 (all_clauses S.table) i j c a f in
      mathlib.Core.List.Memᴰ.append_right (reductions leaf.literal 1 (reach leaf))
      (mathlib.Core.List.Memᴰ.append_right (cond (may_restart S x.extensions leaf) (Restart ∷ []) []) (rw (u.0, lt-ltb _ _ u.1) (rw k at m)))

  restart-candidate : (leaf : Leaf) (rest : List Leaf) → MayRestart S x leaf → Memᴰ Restart (candidates_at S x.extensions (leaf ∷ rest))
  unfolding candidates_at
  restart-candidate leaf rest u =
      let m : Memᴰ Restart (cond (may_restart S x.extensions leaf) (Restart ∷ []) []) = rw (u.0, lt-ltb _ _ u.1) (mathlib.Core.List.Memᴰ.head refl) in
      mathlib.Core.List.Memᴰ.append_right (reductions leaf.literal 1 (reach leaf)) (mathlib.Core.List.Memᴰ.append_left _ m)

  does-candidate : {s : Step} {y : Tableau} → Does S x s y → Memᴰ s (candidates_at S x.extensions x.leaves)
  does-candidate (reduces {leaf = leaf} {rest = rest} {height = height} l a f e) = rw l (reduction-candidate leaf rest height a f)
  does-candidate (extends {leaf = leaf} {rest = rest} {i = i} {j = j} l u k a f e) = rw l (extension-candidate leaf rest i j u k a f)
  does-candidate (restarts {leaf = leaf} {rest = rest} l u e) = rw l (restart-candidate leaf rest u)

  -- a candidate can be taken
  reduction-taken :
      (leaf : Leaf) (rest : List Leaf) {s : Step} → Memᴰ s (reductions leaf.literal 1 (reach leaf))
      → (y : Tableau) × (treated S x (leaf ∷ rest) s ≡ some y)
  unfolding treated ancestor reduced
  reduction-taken leaf rest {s} i =
      let o : Offer Reduction leaf.literal 1 (reach leaf) s = offered-is Reduction leaf.literal 1 (reach leaf) (rw reductions_offered at i) in
      let k : 1 + o.place ≡ suc o.place = omega arith in
      rw (o.is, k, o.there, o.fitting) (_, refl)

  extension-taken :
      (leaf : Leaf) (rest : List Leaf) {s : Step} → may_extend S x.extensions leaf ≡ true
      → Memᴰ s (extensions leaf.literal (suc x.extensions) 0 (all_clauses S.table))
      → (y : Tableau) × (treated S x (leaf ∷ rest) s ≡ some y)
  unfolding treated extended entered
  extension-taken leaf rest {s} g i =
      let o : Entry leaf.literal (suc x.extensions) 0 (all_clauses S.table) s = extensions_are leaf.literal (suc x.extensions) 0 (all_clauses S.table) i in
      let k : 0 + o.number ≡ o.number = omega arith in
      let l : 0 + o.offer.place ≡ o.offer.place = omega arith in
      rw (o.offer.is, k, l, g, o.there, o.offer.there, o.offer.fitting) (_, refl)

  restart-taken : (leaf : Leaf) (rest : List Leaf) {s : Step} → may_restart S x.extensions leaf ≡ true → Memᴰ s (Restart ∷ [])
      → (y : Tableau) × (treated S x (leaf ∷ rest) s ≡ some y)
  unfolding treated
  restart-taken leaf rest {s} g i = go (mathlib.Core.List.Memᴰ.cases_cons i)
    where
      go : (s ≡ Restart) ⊎ Memᴰ s [] → (y : Tableau) × (treated S x (leaf ∷ rest) s ≡ some y)
      go (inl h) = rw (h, g) (_, refl)
      go (inr j) = absurd (mathlib.Core.List.Memᴰ.not-nil j)

  -- what follows the reductions: the restart and the extensions, where the leaf may have them
  abbrev further : Leaf → Bool → Bool → List Step
  further leaf anew entered =
      cond anew (Restart ∷ []) [] ++ cond entered (extensions leaf.literal (suc x.extensions) 0 (all_clauses S.table)) []

  candidate-taken : (leaves : List Leaf) {s : Step} → Memᴰ s (candidates_at S x.extensions leaves) → (y : Tableau) × (treated S x leaves s ≡ some y)
  unfolding candidates_at
  candidate-taken [] i = absurd (mathlib.Core.List.Memᴰ.not-nil i)
  candidate-taken (leaf ∷ rest) {s} i = go (mathlib.Core.List.Memᴰ.append_cases (reductions leaf.literal 1 (reach leaf)) i)
    where
      within : (b : Bool) → may_extend S x.extensions leaf ≡ b
          → Memᴰ s (cond b (extensions leaf.literal (suc x.extensions) 0 (all_clauses S.table)) [])
          → (y : Tableau) × (treated S x (leaf ∷ rest) s ≡ some y)
      within true g j = extension-taken leaf rest g j
      within false g j = absurd (mathlib.Core.List.Memᴰ.not-nil j)

      anew : (b : Bool) → may_restart S x.extensions leaf ≡ b → Memᴰ s (cond b (Restart ∷ []) [])
          → (y : Tableau) × (treated S x (leaf ∷ rest) s ≡ some y)
      anew true g j = restart-taken leaf rest g j
      anew false g j = absurd (mathlib.Core.List.Memᴰ.not-nil j)

      onward : Memᴰ s (cond (may_restart S x.extensions leaf) (Restart ∷ []) []) ⊎ Memᴰ s (cond (may_extend S x.extensions leaf) (extensions leaf.literal (suc x.extensions) 0 (all_clauses S.table)) [])
          → (y : Tableau) × (treated S x (leaf ∷ rest) s ≡ some y)
      onward (inl j) = anew (may_restart S x.extensions leaf) refl j
      onward (inr j) = within (may_extend S x.extensions leaf) refl j

      go : Memᴰ s (reductions leaf.literal 1 (reach leaf)) ⊎ Memᴰ s (further leaf (may_restart S x.extensions leaf) (may_extend S x.extensions leaf))
          → (y : Tableau) × (treated S x (leaf ∷ rest) s ≡ some y)
      go (inl j) = reduction-taken leaf rest j
      go (inr j) = onward (mathlib.Core.List.Memᴰ.append_cases (cond (may_restart S x.extensions leaf) (Restart ∷ []) []) j)

  -- the candidates stand in the stated order, so none is there twice
  before-extensions : (leaf : Leaf) (s : Step) → ((i j : ℕ) → Precedes s (Extension i j)) → (entered : Bool) → All (Precedes s) (further leaf false entered)
  before-extensions leaf s before false = end
  before-extensions leaf s before true =
      all_members _ λ r j.
      let q : Entry leaf.literal (suc x.extensions) 0 (all_clauses S.table) r = extensions_are leaf.literal (suc x.extensions) 0 (all_clauses S.table) j in
      rw q.offer.is (before _ _)

  before-further : (leaf : Leaf) (h : ℕ) (anew entered : Bool) → All (Precedes (Reduction h)) (further leaf anew entered)
  unfolding Precedes
  before-further leaf h false entered = before-extensions leaf (Reduction h) (λ i j. tt) entered
  before-further leaf h true entered = tt also before-extensions leaf (Reduction h) (λ i j. tt) entered

  reductions-first : (leaf : Leaf) (anew entered : Bool) → All (λ s. All (Precedes s) (further leaf anew entered)) (reductions leaf.literal 1 (reach leaf))
  reductions-first leaf anew entered =
      all_members _ λ s i.
      let o : Offer Reduction leaf.literal 1 (reach leaf) s = offered-is Reduction leaf.literal 1 (reach leaf) (rw reductions_offered at i) in
      rw o.is (before-further leaf (1 + o.place) anew entered)

  entered-ordered : (leaf : Leaf) (entered : Bool) → Ordered Precedes (further leaf false entered)
  entered-ordered leaf false = done
  entered-ordered leaf true = extensions_ordered leaf.literal (suc x.extensions) 0 (all_clauses S.table)

  further-ordered : (leaf : Leaf) (anew entered : Bool) → Ordered Precedes (further leaf anew entered)
  unfolding Precedes
  further-ordered leaf false entered = entered-ordered leaf entered
  further-ordered leaf true entered = before-extensions leaf Restart (λ i j. tt) entered ahead entered-ordered leaf entered

  reductions-ordered : (leaf : Leaf) → Ordered Precedes (reductions leaf.literal 1 (reach leaf))
  unfolding Precedes
  reductions-ordered leaf = rw reductions_offered (offered-ordered Reduction leaf.literal (λ i j l. l) 1 (reach leaf))

  candidates-ordered-at : (leaves : List Leaf) → Ordered Precedes (candidates_at S x.extensions leaves)
  unfolding candidates_at
  candidates-ordered-at [] = done
  candidates-ordered-at (leaf ∷ rest) = go (may_restart S x.extensions leaf) (may_extend S x.extensions leaf)
    where
      go : (anew entered : Bool) → Ordered Precedes (reductions leaf.literal 1 (reach leaf) ++ further leaf anew entered)
      go anew entered = ordered_append (reductions-ordered leaf) (further-ordered leaf anew entered) (reductions-first leaf anew entered)

  pub candidate_steps : {s : Step} → Memᴰ s (candidates S x) → (y : Tableau) × (stepped S x s ≡ some y)
  unfolding candidates stepped
  candidate_steps i = candidate-taken x.leaves i

  pub steps_candidate : (s : Step) {y : Tableau} → stepped S x s ≡ some y → Memᴰ s (candidates S x)
  unfolding candidates
  steps_candidate s e = does-candidate (does s e)

  pub candidates_ordered : Ordered Precedes (candidates S x)
  unfolding candidates
  candidates_ordered = candidates-ordered-at x.leaves

-- Precedes is a strict order, and of two steps that are taken somewhere one precedes the other.
pub precedes_not_itself : (s : Step) → Precedes s s → ⊥
unfolding Precedes
precedes_not_itself (Reduction h) p = omega arith
precedes_not_itself (Extension i j) (inl p) = omega arith
precedes_not_itself (Extension i j) (inr p) = omega arith
precedes_not_itself Restart p = p
precedes_not_itself Malformed p = p

pub precedes_through : (r s t : Step) → Precedes r s → Precedes s t → Precedes r t
unfolding Precedes
precedes_through (Reduction h) (Reduction k) (Reduction l) p q = omega arith
precedes_through (Reduction h) (Reduction k) (Extension i j) p q = tt
precedes_through (Reduction h) (Reduction k) Restart p q = tt
precedes_through (Reduction h) (Reduction k) Malformed p q = q
precedes_through (Reduction h) (Extension i j) (Reduction l) p q = absurd q
precedes_through (Reduction h) (Extension i j) (Extension k l) p q = tt
precedes_through (Reduction h) (Extension i j) Restart p q = tt
precedes_through (Reduction h) (Extension i j) Malformed p q = q
precedes_through (Reduction h) Restart (Reduction l) p q = absurd q
precedes_through (Reduction h) Restart (Extension k l) p q = tt
precedes_through (Reduction h) Restart Restart p q = tt
precedes_through (Reduction h) Restart Malformed p q = q
precedes_through (Reduction h) Malformed t p q = absurd p
precedes_through (Extension i j) (Reduction h) t p q = absurd p
precedes_through (Extension i j) (Extension k l) (Reduction h) p q = q
precedes_through (Extension i j) (Extension k l) (Extension m n) (inl p) (inl q) = inl (omega arith)
precedes_through (Extension i j) (Extension k l) (Extension m n) (inl p) (inr q) = inl (omega arith)
precedes_through (Extension i j) (Extension k l) (Extension m n) (inr p) (inl q) = inl (omega arith)
precedes_through (Extension i j) (Extension k l) (Extension m n) (inr p) (inr q) = inr (omega arith, omega arith)
precedes_through (Extension i j) (Extension k l) Restart p q = q
precedes_through (Extension i j) (Extension k l) Malformed p q = q
precedes_through (Extension i j) Restart t p q = absurd p
precedes_through (Extension i j) Malformed t p q = absurd p
precedes_through Restart (Reduction h) t p q = absurd p
precedes_through Restart (Extension i j) (Reduction h) p q = q
precedes_through Restart (Extension i j) (Extension k l) p q = tt
precedes_through Restart (Extension i j) Restart p q = q
precedes_through Restart (Extension i j) Malformed p q = q
precedes_through Restart Restart t p q = absurd p
precedes_through Restart Malformed t p q = absurd p
precedes_through Malformed s t p q = absurd p

pub data Compared {A : Type 0} (R : A → A → Type 0) (a b : A) : Type 0 where
  less : R a b → Compared R a b
  same : a ≡ b → Compared R a b
  more : R b a → Compared R a b

numbers_compared : (m n : ℕ) → Compared (λ i j. i < j) m n
numbers_compared m n = go (dec_lt m n) (dec_lt n m)
  where
    go : Dec (m < n) → Dec (n < m) → Compared (λ i j. i < j) m n
    go (yes p) q = less p
    go (no p) (yes q) = more q
    go (no p) (no q) = same (omega arith)

pub malformed_not_taken : (S : Setting) (x : Tableau) (leaves : List Leaf) {y : Tableau} → treated S x leaves Malformed ≡ some y → ⊥
unfolding treated
malformed_not_taken S x [] e = none_some e
malformed_not_taken S x (leaf ∷ rest) e = none_some e

steps_compared :
    (S : Setting) (x : Tableau) (r s : Step) {y z : Tableau} → stepped S x r ≡ some y → stepped S x s ≡ some z
    → Compared Precedes r s
unfolding Precedes stepped
steps_compared S x (Reduction h) (Reduction k) e f = go (numbers_compared h k)
  where
    go : Compared (λ i j. i < j) h k → Compared Precedes (Reduction h) (Reduction k)
    go (less p) = less p
    go (same p) = same (ap Reduction p)
    go (more p) = more p
steps_compared S x (Reduction h) (Extension i j) e f = less tt
steps_compared S x (Extension i j) (Reduction k) e f = more tt
steps_compared S x (Extension i j) (Extension k l) e f = go (numbers_compared i k) (numbers_compared j l)
  where
    go : Compared (λ i j. i < j) i k → Compared (λ i j. i < j) j l → Compared Precedes (Extension i j) (Extension k l)
    go (less p) q = less (inl p)
    go (same p) (less q) = less (inr (p, q))
    go (same p) (same q) = same (rw (p, q))
    go (same p) (more q) = more (inr (sym p, q))
    go (more p) q = more (inl p)
steps_compared S x (Reduction h) Restart e f = less tt
steps_compared S x (Extension i j) Restart e f = more tt
steps_compared S x Restart (Reduction h) e f = more tt
steps_compared S x Restart (Extension i j) e f = less tt
steps_compared S x Restart Restart e f = same refl
steps_compared S x Restart Malformed e f = absurd (malformed_not_taken S x x.leaves f)
steps_compared S x (Reduction h) Malformed e f = absurd (malformed_not_taken S x x.leaves f)
steps_compared S x (Extension i j) Malformed e f = absurd (malformed_not_taken S x x.leaves f)
steps_compared S x Malformed s e f = absurd (malformed_not_taken S x x.leaves e)

neither_before : {ss rs ps qs : List Step} → Before ss rs → Before qs ps → ss ≡ ps → rs ≡ qs → ⊥
neither_before (at_once {s = s} {t = r} p) (at_once {s = u} {t = v} q) e f =
    let a : s ≡ v = cc in
    let b : r ≡ u = cc in
    let q' : Precedes r s = rw (a, b) q in precedes_not_itself s (precedes_through s r s p q')
neither_before (at_once {s = s} {t = r} p) (later c) e f =
    let b : r ≡ s = cc in
    let p' : Precedes s s = rw b at p in precedes_not_itself s p'
neither_before (later b) (at_once {s = u} {t = v} q) e f =
    let g : v ≡ u = cc in
    let q' : Precedes u u = rw g at q in precedes_not_itself u q'
neither_before (later b) (later c) e f = neither_before b c (cc) (cc)

pub never_both_before : {ss rs : List Step} → Before ss rs → Before rs ss → ⊥
never_both_before b c = neither_before b c refl refl

-- where no leaf is open no step is taken
pub no_leaf_no_step : (S : Setting) (x : Tableau) (s : Step) {y : Tableau} → x.leaves ≡ [] → stepped S x s ≡ some y → ⊥
unfolding stepped treated
no_leaf_no_step S x s e f = none_some (rw e at f)

compared_after : (s : Step) {ps qs : List Step} → Compared Before ps qs → Compared Before (s ∷ ps) (s ∷ qs)
compared_after s (less b) = less (later b)
compared_after s (same e) = same (ap (λ (l : List Step). s ∷ l) e)
compared_after s (more b) = more (later b)

-- Two lists of steps that leave no leaf open are the same, or one comes before the other: none is a proper beginning of another.
made_compared :
    (S : Setting) {x y z : Tableau} {ps qs : List Step} → Made S x ps y → Made S x qs z → y.leaves ≡ [] → z.leaves ≡ []
    → Compared Before ps qs
made_compared S as_it_stands as_it_stands e f = same refl
made_compared S {x} as_it_stands (by_step {s = s} h m) e f = absurd (no_leaf_no_step S x s e h)
made_compared S {x} (by_step {s = s} h m) as_it_stands e f = absurd (no_leaf_no_step S x s f h)
made_compared S {x} {z = z} (by_step {y = y} {s = r} {ss = ps} g l) (by_step {y = w} {s = s} {ss = qs} h m) e f =
    go (steps_compared S x r s g h) (λ (k : Made S y qs z). made_compared S l k e f)
  where
    go : Compared Precedes r s → (Made S y qs z → Compared Before ps qs) → Compared Before (r ∷ ps) (s ∷ qs)
    go (less p) rest = less (at_once p)
    go (same p) rest =
        let e : w ≡ y = some_same (sym h ∙ ap (stepped S x) (sym p) ∙ g) in
        rw (← p) (compared_after r (rest (rw e at m)))
    go (more p) rest = more (at_once p)

pub closed_compared : (S : Setting) (rs ss : List Step) → Closed S rs → Closed S ss → Compared Before rs ss
closed_compared S rs ss c d = made_compared S c.made d.made c.no_leaf_open d.no_leaf_open
