-- A tableau with other numbers for its symbols and variables, each once: the same steps lead from it, its pairs are unifiable where those were, and
-- their most general solutions are those of the others, renamed.
use mathlib.Core.Bool.{Bool, true, false, cond}
use mathlib.Core.List.{List, [], ◌∷◌, ◌++◌, map, map-append}
use mathlib.Core.Option
use mathlib.Core.Option.{Option, none, some}
use mathlib.Core.Path.{◌≡◌, refl, sym, ap, ap₂, ◌∙◌}
use Prim.Native.Nat.{ℕ, zero, suc}
use lib.ListN.{get_elem?}
use Rattle.table.specs.Syntax.{Term, var, app, Terms, nil, ◌then◌, under, unders, Literal, literal_under, Table}
use Rattle.rules.specs.Substitution.{Variable, Substitution, Pair, Solves, Unifiable, MostGeneral}
use Rattle.rules.specs.Tableau.{atom, fits, Leaf, Tableau, hang, ancestor, others, closing, after_reduction, reduced, after_extension, entered, after_restart, copy_of}
use Rattle.rules.specs.Answer.{positive}
use Rattle.rules.proofs.Instances.{others_map}
use Rattle.roundtrip.specs.Renumbered.{renamed_term, renamed_terms, renamed_literal}
use Rattle.roundtrip.proofs.Limits.{arity_renamed}
use Rattle.roundtrip.proofs.Permutations.{Permutation, kept_apart, same_test}

pub elem_map : {A B : Type 0} (f : A → B) (xs : List A) (n : ℕ) → get_elem? (map f xs) n ≡ Option.map f (get_elem? xs n)
elem_map f [] n = refl
elem_map f (x ∷ xs) zero = refl
elem_map f (x ∷ xs) (suc n) = elem_map f xs n

-- the symbols of a term with other numbers
abbrev pub turned : Permutation ℕ → Term Variable → Term Variable
turned f t = renamed_term f.to (λ x. x) t

mutual
  unfolding renamed_term

  pub turned_back : (f : Permutation ℕ) (t : Term Variable) → turned f (renamed_term f.from (λ x. x) t) ≡ t
  turned_back f (var x) = refl
  turned_back f (app g ts) = ap₂ app (f.forth g) (all_turned_back f ts)

  all_turned_back : (f : Permutation ℕ) (ts : Terms Variable) → renamed_terms f.to (λ x. x) (renamed_terms f.from (λ x. x) ts) ≡ ts
  all_turned_back f nil = refl
  all_turned_back f (t then ts) = ap₂ ◌then◌ (turned_back f t) (all_turned_back f ts)

mutual
  unfolding renamed_term under

  pub turned_under : (f : Permutation ℕ) (ρ : Substitution) (t : Term Variable) → under (λ y. turned f (ρ y)) (turned f t) ≡ turned f (under ρ t)
  turned_under f ρ (var x) = refl
  turned_under f ρ (app g ts) = ap (app (f.to g)) (all_turned_under f ρ ts)

  pub all_turned_under : (f : Permutation ℕ) (ρ : Substitution) (ts : Terms Variable) → unders (λ y. turned f (ρ y)) (renamed_terms f.to (λ x. x) ts) ≡ renamed_terms f.to (λ x. x) (unders ρ ts)
  all_turned_under f ρ nil = refl
  all_turned_under f ρ (t then ts) = ap₂ ◌then◌ (turned_under f ρ t) (all_turned_under f ρ ts)

module _ (p f : Permutation ℕ) (v : Permutation Variable) where
  abbrev pub image : Literal Variable → Literal Variable
  image l = renamed_literal p.to f.to v.to l

  unfoldable pub leaf_image : Leaf → Leaf
  leaf_image leaf = record { literal = image leaf.literal; branch = map image leaf.branch }

  pub data PairsImage : List Pair → List Pair → Type 0 where
    no_pairs : PairsImage [] []
    one_more : (l k : Literal Variable) {ps qs : List Pair} → PairsImage ps qs → PairsImage (closing l k ∷ ps) (closing (image l) (image k) ∷ qs)

  pub record Image (x y : Tableau) : Type 0 where
    pub leaves : y.leaves ≡ map leaf_image x.leaves
    pub pairs : PairsImage x.pairs y.pairs
    pub extensions : y.extensions ≡ x.extensions
    pub questions : y.questions ≡ x.questions

  -- both come to nothing, or to a tableau and its image
  unfoldable pub Both : Option Tableau → Option Tableau → Type 0
  Both none none = Unit {0}
  Both none (some y) = ⊥
  Both (some x) none = ⊥
  Both (some x) (some y) = Image x y

  pub both_none : (o : Option Tableau) → Both none o → o ≡ none
  unfolding Both
  both_none none b = refl
  both_none (some y) b = absurd b

  pub both_some : (x : Tableau) (o : Option Tableau) → Both (some x) o → (y : Tableau) × (o ≡ some y) × Image x y
  unfolding Both
  both_some x none b = absurd b
  both_some x (some y) b = (y, refl, b)

  pub both_some_back : (o : Option Tableau) (y : Tableau) → Both o (some y) → (x : Tableau) × (o ≡ some x) × Image x y
  unfolding Both
  both_some_back none y b = absurd b
  both_some_back (some x) y b = (x, refl, b)

  pub hang_image : (branch ls : List (Literal Variable)) → hang (map image branch) (map image ls) ≡ map leaf_image (hang branch ls)
  unfolding hang leaf_image
  hang_image branch [] = refl
  hang_image branch (l ∷ ls) = ap (λ (rest : List Leaf). record { literal = image l; branch = map image branch } ∷ rest) (hang_image branch ls)

  -- a solution of the image
  unfoldable pub forth : Substitution → Substitution
  forth σ y = turned f (σ (v.from y))

  mutual
    unfolding forth renamed_term under

    under_forth : (σ : Substitution) (t : Term Variable) → under (forth σ) (renamed_term f.to v.to t) ≡ turned f (under σ t)
    under_forth σ (var x) = ap (λ (y : Variable). turned f (σ y)) (v.back x)
    under_forth σ (app g ts) = ap (app (f.to g)) (unders_forth σ ts)

    pub unders_forth : (σ : Substitution) (ts : Terms Variable) → unders (forth σ) (renamed_terms f.to v.to ts) ≡ renamed_terms f.to (λ x. x) (unders σ ts)
    unders_forth σ nil = refl
    unders_forth σ (t then ts) = ap₂ ◌then◌ (under_forth σ t) (unders_forth σ ts)

  solves_forth : (σ : Substitution) {ps qs : List Pair} → PairsImage ps qs → Solves σ ps → Solves (forth σ) qs
  unfolding Solves closing atom under renamed_literal
  solves_forth σ no_pairs s = tt
  solves_forth σ (one_more l k more) s =
      let same : l.predicate ≡ k.predicate = cc s.0 in
      let equal : unders σ l.arguments ≡ unders σ k.arguments = cc s.0 in (
        ap₂ app (ap (λ (n : ℕ). p.to n) same)
            (unders_forth σ l.arguments ∙ ap (λ (ts : Terms Variable). renamed_terms f.to (λ x. x) ts) equal ∙ sym (unders_forth σ k.arguments)),
        solves_forth σ more s.1,
      )

  -- and back
  abbrev back : Substitution → Substitution
  back τ x = renamed_term f.from (λ y. y) (τ (v.to x))

  mutual
    unfolding renamed_term under

    under_back : (τ : Substitution) (t : Term Variable) → under (back τ) t ≡ renamed_term f.from (λ y. y) (under τ (renamed_term f.to v.to t))
    under_back τ (var x) = refl
    under_back τ (app g ts) = ap₂ app (sym (f.back g)) (unders_back τ ts)

    unders_back : (τ : Substitution) (ts : Terms Variable) → unders (back τ) ts ≡ renamed_terms f.from (λ y. y) (unders τ (renamed_terms f.to v.to ts))
    unders_back τ nil = refl
    unders_back τ (t then ts) = ap₂ ◌then◌ (under_back τ t) (unders_back τ ts)

  solves_back : (τ : Substitution) {ps qs : List Pair} → PairsImage ps qs → Solves τ qs → Solves (back τ) ps
  unfolding Solves closing atom under renamed_literal
  solves_back τ no_pairs s = tt
  solves_back τ (one_more l k more) s =
      let same : p.to l.predicate ≡ p.to k.predicate = cc s.0 in
      let equal : unders τ (renamed_terms f.to v.to l.arguments) ≡ unders τ (renamed_terms f.to v.to k.arguments) = cc s.0 in (
        ap₂ app (kept_apart p same)
            (unders_back τ l.arguments ∙ ap (λ (ts : Terms Variable). renamed_terms f.from (λ y. y) ts) equal ∙ sym (unders_back τ k.arguments)),
        solves_back τ more s.1,
      )

  pub unifiable_forth : {ps qs : List Pair} → PairsImage ps qs → Unifiable ps → Unifiable qs
  unifiable_forth i u = record { by = forth u.by; solves = solves_forth u.by i u.solves }

  pub unifiable_back : {ps qs : List Pair} → PairsImage ps qs → Unifiable qs → Unifiable ps
  unifiable_back i u = record { by = back u.by; solves = solves_back u.by i u.solves }

  pub general_forth : {ps qs : List Pair} → PairsImage ps qs → (σ : Substitution) → MostGeneral σ ps → MostGeneral (forth σ) qs
  unfolding forth
  general_forth i σ g = record {
    solves = solves_forth σ i g.solves;
    general = λ τ s. (
        let h = g.general (back τ) (solves_back τ i s) in (
          λ y. turned f (h.0 y),
          λ y. sym (turned_under f h.0 (σ (v.from y))
              ∙ ap (λ (t : Term Variable). turned f t) (sym (h.1 (v.from y)))
              ∙ turned_back f (τ (v.to (v.from y)))
              ∙ ap (λ (z : Variable). τ z) (v.forth y)),
        )
        );
  }

  -- the literals of an answer
  literal_forth : (σ : Substitution) (l : Literal Variable)
      → literal_under (forth σ) (positive (image l)) ≡ renamed_literal p.to f.to (λ x. x) (literal_under σ (positive l))
  unfolding literal_under positive renamed_literal
  literal_forth σ l = rw (unders_forth σ l.arguments)

  pub literals_forth : (σ : Substitution) (ls : List (Literal Variable))
      → map (λ l. literal_under (forth σ) (positive l)) (map image ls) ≡ map (renamed_literal p.to f.to (λ x. x)) (map (λ l. literal_under σ (positive l)) ls)
  literals_forth σ [] = refl
  literals_forth σ (l ∷ ls) = ap₂ ◌∷◌ (literal_forth σ l) (literals_forth σ ls)

  -- one step
  fits_image : (l k : Literal Variable) → fits (image l) (image k) ≡ fits l k
  unfolding fits renamed_literal
  fits_image l k =
      rw (same_test p l.predicate k.predicate, arity_renamed f.to v.to l.arguments, arity_renamed f.to v.to k.arguments)

  pub ancestor_image : (height : ℕ) (branch : List (Literal Variable)) → ancestor height (map image branch) ≡ Option.map image (ancestor height branch)
  unfolding ancestor
  ancestor_image zero branch = refl
  ancestor_image (suc n) branch = elem_map image branch n

  module _ {x y : Tableau} (i : Image x y) (leaf : Leaf) (rest : List Leaf) where
    pub reduced_image : (o : Option (Literal Variable)) → Both (reduced x leaf rest o) (reduced y (leaf_image leaf) (map leaf_image rest) (Option.map image o))
    unfolding reduced Both leaf_image
    reduced_image none = tt
    reduced_image (some m) = rw (fits_image leaf.literal m) (go (fits leaf.literal m))
      where
        go : (b : Bool)
            → Both (cond b (some (after_reduction x leaf rest m)) none) (cond b (some (after_reduction y (leaf_image leaf) (map leaf_image rest) (image m))) none)
        go true = record { leaves = refl; pairs = one_more leaf.literal m i.pairs; extensions = i.extensions; questions = i.questions }
        go false = tt

    hung_image : (copy : List (Literal Variable))
        → hang (map image (leaf.literal ∷ leaf.branch)) (map image copy) ++ map leaf_image rest ≡ map leaf_image (hang (leaf.literal ∷ leaf.branch) copy ++ rest)
    hung_image copy =
        rw (hang_image (leaf.literal ∷ leaf.branch) copy) (sym (map-append leaf_image (hang (leaf.literal ∷ leaf.branch) copy) rest))

    pub restarted_image : (t u : Table) → copy_of (suc y.extensions) u.question ≡ map image (copy_of (suc x.extensions) t.question)
        → Image (after_restart t x leaf rest) (after_restart u y (leaf_image leaf) (map leaf_image rest))
    unfolding leaf_image
    restarted_image t u copied = record {
      leaves = rw copied (hung_image (copy_of (suc x.extensions) t.question));
      pairs = i.pairs;
      extensions = ap suc i.extensions;
      questions = rw (i.extensions, i.questions);
    }

    leaves_image : (j : ℕ) (copy : List (Literal Variable))
        → hang (map image (leaf.literal ∷ leaf.branch)) (others j (map image copy)) ++ map leaf_image rest
        ≡ map leaf_image (hang (leaf.literal ∷ leaf.branch) (others j copy) ++ rest)
    leaves_image j copy = rw (← others_map image j copy) (hung_image (others j copy))

    pub entered_image : (questions : List ℕ) (j : ℕ) (copy : List (Literal Variable)) (o : Option (Literal Variable))
        → Both (entered x leaf rest questions j copy o) (entered y (leaf_image leaf) (map leaf_image rest) questions j (map image copy) (Option.map image o))
    unfolding entered Both leaf_image
    entered_image questions j copy none = tt
    entered_image questions j copy (some m) = rw (fits_image leaf.literal m) (go (fits leaf.literal m))
      where
        go : (b : Bool)
            → Both (cond b (some (after_extension x leaf rest questions j copy m)) none)
            (cond b (some (after_extension y (leaf_image leaf) (map leaf_image rest) questions j (map image copy) (image m))) none)
        go true = record {
          leaves = leaves_image j copy;
          pairs = one_more leaf.literal m i.pairs;
          extensions = ap suc i.extensions;
          questions = refl;
        }
        go false = tt
