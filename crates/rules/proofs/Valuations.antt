-- Whether some valuation makes clauses and literals true is decided, and a literal can be turned over in a valuation where nothing needs its opposite.
use lib.ListN.{length, get_elem?}
use mathlib.Core.Bool.{Bool, true, false, not, ◌||◌, cond, true≢false}
use mathlib.Core.List.{List, [], ◌∷◌}
use mathlib.Core.Logic.{◌⊎◌, inl, inr, ◌≢◌}
use mathlib.Core.Option.{some}
use mathlib.Core.Path.{◌≡◌, refl, sym, ◌∙◌, ap, ap₂}
use native.Mathlib.Decide.{ℕ_discrete}
use Prim.Native.Nat.{ℕ, zero, suc}
use Rattle.table.specs.Limits.{Each}
use Rattle.table.specs.Syntax.{Term, var, app, Terms, nil, ◌then◌, Literal}
use Rattle.rules.specs.Evidence.{Valuation, literal_true, clause_true, turned}
use Rattle.rules.proofs.Lists.{none_some}
use Rattle.rules.proofs.System.Clash.{clash}

-- what holds of each
module _ {A : Type 0} {P Q : A → Type 0} where
  pub each_more : ((a : A) → P a → Q a) → (xs : List A) → Each P xs → Each Q xs
  unfolding Each
  each_more f [] h = tt
  each_more f (x ∷ xs) h = (f x h.0, each_more f xs h.1)

module _ {A : Type 0} (P : A → Type 0) where
  pub each_at : (xs : List A) (n : ℕ) {x : A} → get_elem? xs n ≡ some x → Each P xs → P x
  unfolding Each
  each_at [] n e h = absurd (none_some e)
  each_at (x ∷ xs) zero {x = y} e h = let same : x ≡ y = cc in rw same at h.0
  each_at (x ∷ xs) (suc n) e h = each_at xs n e h.1

-- one element taken out of a list
pub data Taken {A : Type 0} (a : A) : List A → List A → Type 0 where
  here : {xs : List A} → Taken a (a ∷ xs) xs
  beyond : {b : A} {xs ys : List A} → Taken a xs ys → Taken a (b ∷ xs) (b ∷ ys)

module _ {A : Type 0} {a : A} where
  pub taken_length : {xs ys : List A} → Taken a xs ys → length xs ≡ suc (length ys)
  taken_length here = refl
  taken_length (beyond k) = ap suc (taken_length k)

  pub taken_left : (P : A → Type 0) {xs ys : List A} → Taken a xs ys → Each P xs → Each P ys
  unfolding Each
  taken_left P here h = h.1
  taken_left P (beyond k) h = (h.0, taken_left P k h.1)

  pub taken_back : (P : A → Type 0) {xs ys : List A} → Taken a xs ys → P a → Each P ys → Each P xs
  unfolding Each
  taken_back P here p h = (p, h)
  taken_back P (beyond k) p h = (h.0, taken_back P k p h.1)

or_cases : (a b : Bool) → (a || b) ≡ true → (a ≡ true) ⊎ (b ≡ true)
or_cases true b e = inl refl
or_cases false b e = inr e

pub or_right : (a : Bool) {b : Bool} → b ≡ true → (a || b) ≡ true
or_right true e = refl
or_right false e = e

-- clauses and literals that some valuation makes true together
module _ {X A : Type 0} (clause_of : A → List (Literal X)) where
  abbrev pub AllTrue : Valuation X → List A → Type 0
  AllTrue v R = Each (λ a. clause_true v (clause_of a) ≡ true) R

  abbrev pub Possible : List A → List (Literal X) → Type 0
  Possible R B = (v : Valuation X) × AllTrue v R × Each (λ l. literal_true v l ≡ true) B

pub turned_not : {X : Type 0} (v : Valuation X) (l : Literal X) → literal_true v (turned l) ≡ not (literal_true v l)
unfolding literal_true turned
turned_not v l = go l.negative (v l.predicate l.arguments)
  where
    go : (n w : Bool) → cond (not n) (not w) w ≡ not (cond n (not w) w)
    go true true = refl
    go true false = refl
    go false true = refl
    go false false = refl

-- signs, terms and literals are equal or not
sign? : (a b : Bool) → Dec (a ≡ b)
sign? true true = yes refl
sign? true false = no true≢false
sign? false true = no (λ e. true≢false (sym e))
sign? false false = yes refl

module _ {X : Type 0} (variable? : (x y : X) → Dec (x ≡ y)) where
  mutual
    pub term? : (t u : Term X) → Dec (t ≡ u)
    term? (var x) (var y) = variables (variable? x y)
      where
        variables : Dec (x ≡ y) → Dec (◌≡◌ {A = Term X} (var x) (var y))
        variables (yes e) = yes (ap var e)
        variables (no f) = no (λ e. f (cc))
    term? (var x) (app g us) = no (λ e. clash (cc))
    term? (app f ts) (var y) = no (λ e. clash (cc))
    term? (app f ts) (app g us) = applications (ℕ_discrete f g) (terms? ts us)
      where
        applications : Dec (f ≡ g) → Dec (ts ≡ us) → Dec (◌≡◌ {A = Term X} (app f ts) (app g us))
        applications (yes e) (yes k) = yes (ap₂ app e k)
        applications (yes e) (no k) = no (λ h. k (cc))
        applications (no e) k = no (λ h. e (cc))

    pub terms? : (ts us : Terms X) → Dec (ts ≡ us)
    terms? nil nil = yes refl
    terms? nil (u then us) = no (λ e. clash (cc))
    terms? (t then ts) nil = no (λ e. clash (cc))
    terms? (t then ts) (u then us) = both (term? t u) (terms? ts us)
      where
        both : Dec (t ≡ u) → Dec (ts ≡ us) → Dec (◌≡◌ {A = Terms X} (t then ts) (u then us))
        both (yes e) (yes k) = yes (ap₂ ◌then◌ e k)
        both (yes e) (no k) = no (λ h. k (cc))
        both (no e) k = no (λ h. e (cc))

  pub literal? : (l m : Literal X) → Dec (l ≡ m)
  literal? l m = go (sign? l.negative m.negative) (ℕ_discrete l.predicate m.predicate) (terms? l.arguments m.arguments)
    where
      go : Dec (l.negative ≡ m.negative) → Dec (l.predicate ≡ m.predicate) → Dec (l.arguments ≡ m.arguments) → Dec (l ≡ m)
      go (yes n) (yes p) (yes a) = yes (λ i. record { negative = n i; predicate = p i; arguments = a i })
      go (yes n) (yes p) (no f) = no (λ h. f (ap (λ (k : Literal X). k.arguments) h))
      go (yes n) (no f) a = no (λ h. f (ap (λ (k : Literal X). k.predicate) h))
      go (no f) p a = no (λ h. f (ap (λ (k : Literal X). k.negative) h))

  -- a literal's place in a list, if it has one
  pub place? : (m : Literal X) (ls : List (Literal X)) → ((j : ℕ) × (get_elem? ls j ≡ some m)) ⊎ Each (λ l. l ≢ m) ls
  unfolding Each
  place? m [] = inr tt
  place? m (l ∷ ls) = go (literal? l m) (place? m ls)
    where
      go : Dec (l ≡ m) → ((j : ℕ) × (get_elem? ls j ≡ some m)) ⊎ Each (λ l. l ≢ m) ls
          → ((j : ℕ) × (get_elem? (l ∷ ls) j ≡ some m)) ⊎ Each (λ l. l ≢ m) (l ∷ ls)
      go (yes e) r = inl (zero, ap some e)
      go (no f) (inl r) = inl (suc r.0, r.1)
      go (no f) (inr r) = inr (f, r)

  -- a valuation with a literal turned over if it is not true
  unfoldable choose : {P A : Type 0} → Dec P → A → A → A
  choose (yes p) a b = a
  choose (no f) a b = b

  atom? : (p q : ℕ) (ts us : Terms X) → Dec ((p ≡ q) × (ts ≡ us))
  atom? p q ts us = go (ℕ_discrete p q) (terms? ts us)
    where
      go : Dec (p ≡ q) → Dec (ts ≡ us) → Dec ((p ≡ q) × (ts ≡ us))
      go (yes e) (yes k) = yes (e, k)
      go (yes e) (no k) = no (λ h. k h.1)
      go (no e) k = no (λ h. e h.0)

  unfoldable with_literal : Valuation X → Literal X → Valuation X
  with_literal v m p ts = choose (atom? p m.predicate ts m.arguments) (not m.negative) (v p ts)

  with-true : (v : Valuation X) (m : Literal X) → literal_true (with_literal v m) m ≡ true
  unfolding literal_true with_literal choose
  with-true v m = go m.negative (v m.predicate m.arguments) (atom? m.predicate m.predicate m.arguments m.arguments)
    where
      go : (n w : Bool) (d : Dec ((m.predicate ≡ m.predicate) × (m.arguments ≡ m.arguments))) → cond n (not (choose d (not n) w)) (choose d (not n) w) ≡ true
      go true w (yes e) = refl
      go false w (yes e) = refl
      go n w (no f) = absurd (f (refl, refl))

  with-kept : (v : Valuation X) (m l : Literal X) → l ≢ turned m → literal_true v l ≡ true → literal_true (with_literal v m) l ≡ true
  unfolding literal_true with_literal choose turned
  with-kept v m l f h = go (atom? l.predicate m.predicate l.arguments m.arguments)
    where
      signs : (a b : Bool) → (a ≡ not b → ⊥) → cond a (not (not b)) (not b) ≡ true
      signs true true g = refl
      signs true false g = absurd (g refl)
      signs false true g = absurd (g refl)
      signs false false g = refl

      go : (d : Dec ((l.predicate ≡ m.predicate) × (l.arguments ≡ m.arguments)))
          → cond l.negative (not (choose d (not m.negative) (v l.predicate l.arguments))) (choose d (not m.negative) (v l.predicate l.arguments)) ≡ true
      go (yes e) = signs l.negative m.negative (λ n. f (λ i. record { negative = n i; predicate = e.0 i; arguments = e.1 i }))
      go (no g) = h

  with-one-kept : (v : Valuation X) (m : Literal X) (ls : List (Literal X)) → Each (λ l. l ≢ turned m) ls → clause_true v ls ≡ true
      → clause_true (with_literal v m) ls ≡ true
  unfolding clause_true Each
  with-one-kept v m [] n h = h
  with-one-kept v m (l ∷ ls) n h = go (or_cases (literal_true v l) (clause_true v ls) h) (λ e. with-one-kept v m ls n.1 e)
    where
      go : (literal_true v l ≡ true) ⊎ (clause_true v ls ≡ true) → (clause_true v ls ≡ true → clause_true (with_literal v m) ls ≡ true)
          → (literal_true (with_literal v m) l || clause_true (with_literal v m) ls) ≡ true
      go (inl e) rest = rw (with-kept v m l n.0 e)
      go (inr e) rest = or_right (literal_true (with_literal v m) l) (rest e)

  module _ {A : Type 0} (clause_of : A → List (Literal X)) where
    -- a literal may be added where nothing holds its opposite
    pub added : (R : List A) (B : List (Literal X)) (m : Literal X) → Possible clause_of R B → Each (λ a. Each (λ l. l ≢ turned m) (clause_of a)) R
        → Each (λ l. l ≢ turned m) B → Possible clause_of R (m ∷ B)
    unfolding Each
    added R B m p r b = (with_literal p.0 m, clauses R p.1 r, (with-true p.0 m, literals B p.2 b))
      where
        clauses : (R : List A) → AllTrue clause_of p.0 R → Each (λ a. Each (λ l. l ≢ turned m) (clause_of a)) R → AllTrue clause_of (with_literal p.0 m) R
        clauses [] h r = tt
        clauses (a ∷ R) h r = (with-one-kept p.0 m (clause_of a) r.0 h.0, clauses R h.1 r.1)

        literals : (B : List (Literal X)) → Each (λ l. literal_true p.0 l ≡ true) B → Each (λ l. l ≢ turned m) B
            → Each (λ l. literal_true (with_literal p.0 m) l ≡ true) B
        literals [] h b = tt
        literals (l ∷ B) h b = (with-kept p.0 m l b.0 h.0, literals B h.1 b.1)

    literals? : (B : List (Literal X)) → Dec (Possible clause_of [] B)
    unfolding Each
    literals? [] = yes (λ p ts. true, tt, tt)
    literals? (m ∷ B) = go (place? (turned m) B) (literals? B)
      where
        go : ((j : ℕ) × (get_elem? B j ≡ some (turned m))) ⊎ Each (λ l. l ≢ turned m) B → Dec (Possible clause_of [] B) → Dec (Possible clause_of [] (m ∷ B))
        go (inl j) d =
            no (λ p. let h = each_at (λ l. literal_true p.0 l ≡ true) B j.0 j.1 p.2.1 in
            true≢false (sym h ∙ turned_not p.0 m ∙ ap not p.2.0))
        go (inr b) (yes p) = yes (added [] B m p tt b)
        go (inr b) (no f) = no (λ p. f (p.0, tt, p.2.1))

    -- it is decided whether some valuation does
    pub possible? : (R : List A) (B : List (Literal X)) → Dec (Possible clause_of R B)
    unfolding Each clause_true
    possible? [] B = literals? B
    possible? (a ∷ R) B = any (clause_of a) (λ l. possible? R (l ∷ B))
      where
        OneOf : List (Literal X) → Type 0
        OneOf ls = (v : Valuation X) × ((clause_true v ls ≡ true) × AllTrue clause_of v R) × Each (λ l. literal_true v l ≡ true) B

        one : (l : Literal X) (ls : List (Literal X)) → Dec (Possible clause_of R (l ∷ B)) → Dec (OneOf ls) → Dec (OneOf (l ∷ ls))
        one l ls (yes p) d = yes (p.0, (rw p.2.0, p.1), p.2.1)
        one l ls (no f) (yes p) = yes (p.0, (or_right (literal_true p.0 l) p.1.0, p.1.1), p.2)
        one l ls (no f) (no g) =
            no (λ p. elim (or_cases (literal_true p.0 l) (clause_true p.0 ls) p.1.0) [ inl e ↦ f (p.0, p.1.1, (e, p.2)) | inr e ↦ g (p.0, (e, p.1.1), p.2) ])

        any : (ls : List (Literal X)) → ((l : Literal X) → Dec (Possible clause_of R (l ∷ B))) → Dec (OneOf ls)
        any [] d = no (λ p. true≢false (sym p.1.0))
        any (l ∷ ls) d = one l ls (d l) (any ls d)
