-- The answers of a proof over a table and over the renumbered table: the same literals, the numbers of their symbols by first use.
use mathlib.Core.List.{List, [], ◌∷◌, ◌++◌, map, map-append}
use mathlib.Core.Path.{◌≡◌, refl, sym, ap, ap₂, subst, ◌∙◌}
use Prim.Native.Nat.{ℕ}
use native.Mathlib.Omega.{arith}
use lib.ListN.{length, get_or, length-map}
use Rattle.words.specs.declared.Step.{Step}
use Rattle.table.specs.Syntax.{Term, var, app, Terms, nil, ◌then◌, under, unders, Literal, literal_under, Table}
use Rattle.rules.specs.Substitution.{Variable, Substitution, MostGeneral}
use Rattle.rules.specs.Setting.{Profile, over}
use Rattle.rules.specs.Tableau.{copy_of, Closed}
use Rattle.rules.specs.Verdict.{Answers}
use Rattle.rules.specs.Answer.{positive, disjunct, per_copy, same_disjunct, firsts_by, disjuncts, answer_words, occurring, occurring_in, occurring_all, firsts, place_of, numbered, joined}
use Rattle.rules.proofs.Answer.{numbered_once}
use Rattle.rules.proofs.Demands.{one_answer}
use Rattle.rules.proofs.Firsts.{firsts_renamed}
use Rattle.rules.proofs.Sameness.{disjuncts_told}
use Rattle.rules.proofs.Every.{All, end, all_first, all_rest, all_then, all_of}
use Rattle.roundtrip.specs.Renumbered.{first_uses, number_in, predicates, functions, predicate_uses, function_uses, variable_uses, renamed_term, renamed_terms, renamed_literal, renumbered}
use Rattle.roundtrip.proofs.FirstUses.{known_all}
use Rattle.roundtrip.proofs.Renaming.{agree_literals, shown_predicates, shown_functions}
use Rattle.roundtrip.proofs.Permutations.{Permutation, after, numbering, numbering_known, numbering_below, moving, moving_below, moving_above}
use Rattle.roundtrip.proofs.Images.{Image, forth, general_forth, literals_forth}
use Rattle.roundtrip.proofs.SameSteps.{turned_table, of_copies, copies_of, clause_copied, closed_image, closed_asked}
use Rattle.roundtrip.proofs.SameProofs.{ByFirstUse, predicates_used, functions_used, predicate_numbers, function_numbers, renumbered_turned}

-- other numbers for symbols leave the variables, and so the numbers that an answer gives them
module _ (p f : ℕ → ℕ) where
  mutual
    unfolding occurring renamed_term

    occurring-other : (t : Term Variable) → occurring (renamed_term f (λ x. x) t) ≡ occurring t
    occurring-other (var x) = refl
    occurring-other (app g ts) = occurring-others ts

    occurring-others : (ts : Terms Variable) → occurring_in (renamed_terms f (λ x. x) ts) ≡ occurring_in ts
    occurring-others nil = refl
    occurring-others (t then ts) = ap₂ ◌++◌ (occurring-other t) (occurring-others ts)

  occurring-all : (ls : List (Literal Variable)) → occurring_all (map (renamed_literal p f (λ x. x)) ls) ≡ occurring_all ls
  unfolding occurring_all renamed_literal
  occurring-all [] = refl
  occurring-all (l ∷ ls) = ap₂ ◌++◌ (occurring-others l.arguments) (occurring-all ls)

  module _ (number : Variable → ℕ) where
    mutual
      unfolding under renamed_term

      term-other : (t : Term Variable) → under (λ x. var (number x)) (renamed_term f (λ x. x) t) ≡ renamed_term f (λ x. x) (under (λ x. var (number x)) t)
      term-other (var x) = refl
      term-other (app g ts) = ap (app (f g)) (terms-other ts)

      terms-other : (ts : Terms Variable) → unders (λ x. var (number x)) (renamed_terms f (λ x. x) ts) ≡ renamed_terms f (λ x. x) (unders (λ x. var (number x)) ts)
      terms-other nil = refl
      terms-other (t then ts) = ap₂ ◌then◌ (term-other t) (terms-other ts)

    literals_other : (ls : List (Literal Variable))
        → map (literal_under (λ x. var (number x))) (map (renamed_literal p f (λ x. x)) ls) ≡ map (renamed_literal p f (λ x. x)) (map (literal_under (λ x. var (number x))) ls)
    unfolding literal_under renamed_literal
    literals_other [] = refl
    literals_other (l ∷ ls) = rw (terms-other l.arguments, literals_other ls)

  numbered-other : (ls : List (Literal Variable)) → numbered (map (renamed_literal p f (λ x. x)) ls) ≡ map (renamed_literal p f (λ x. x)) (numbered ls)
  unfolding numbered
  numbered-other ls =
      ap (λ (xs : List Variable). map (literal_under (λ x. var (place_of x (firsts xs)))) (map (renamed_literal p f (λ x. x)) ls)) (occurring-all ls)
      ∙ literals_other (λ x. place_of x (firsts (occurring_all ls))) ls

joined_map : (f : Literal Variable → Literal Variable) (ds : List (List (Literal Variable))) → joined (map (map f) ds) ≡ map f (joined ds)
unfolding joined
joined_map f [] = refl
joined_map f (d ∷ ds) = rw (joined_map f ds) (sym (map-append f d (joined ds)))

-- a numbering of symbols has a way back
mutual
  unfolding renamed_term

  term-undone : (f : Permutation ℕ) (t : Term Variable) → renamed_term f.from (λ x. x) (renamed_term f.to (λ x. x) t) ≡ t
  term-undone f (var x) = refl
  term-undone f (app g ts) = ap₂ app (f.back g) (terms-undone f ts)

  terms-undone : (f : Permutation ℕ) (ts : Terms Variable) → renamed_terms f.from (λ x. x) (renamed_terms f.to (λ x. x) ts) ≡ ts
  terms-undone f nil = refl
  terms-undone f (t then ts) = ap₂ ◌then◌ (term-undone f t) (terms-undone f ts)

literals_undone : (p f : Permutation ℕ) (ls : List (Literal Variable)) → map (renamed_literal p.from f.from (λ x. x)) (map (renamed_literal p.to f.to (λ x. x)) ls) ≡ ls
unfolding renamed_literal
literals_undone p f [] = refl
literals_undone p f (l ∷ ls) = rw (p.back l.predicate, terms-undone f l.arguments, literals_undone p f ls)

-- the answer over a table with other numbers
module _ (rules : Profile) (p f : Permutation ℕ) (t : Table) (bound : ℕ) (steps : List Step)
    (c : Closed (over rules t bound) steps) (d : Closed (over rules (turned_table p f t) bound) steps) where
  abbrev v : Permutation Variable
  v = of_copies t.question (copies_of t steps)

  abbrev turn : {X : Type 0} → Literal X → Literal X
  turn l = renamed_literal p.to f.to (λ x. x) l

  disjunct-forth : (σ : Substitution) (copy : ℕ) → get_or (copies_of t steps) copy t.question ≡ t.question
      → disjunct (forth p f v σ) (turned_table p f t).question copy ≡ map (renamed_literal p.to f.to (λ x. x)) (disjunct σ t.question copy)
  unfolding disjunct turned_table
  disjunct-forth σ copy is =
      ap (λ (ls : List (Literal Variable)). map (λ l. literal_under (forth p f v σ) (positive l)) ls) (clause_copied p f t.question (copies_of t steps) copy t.question is)
      ∙ literals_forth p f v σ (copy_of copy t.question)

  each-forth : (σ : Substitution) (qs : List ℕ) → All (λ copy. get_or (copies_of t steps) copy t.question ≡ t.question) qs
      → map (disjunct (forth p f v σ) (turned_table p f t).question) qs ≡ map (map (renamed_literal p.to f.to (λ x. x))) (map (disjunct σ t.question) qs)
  each-forth σ [] a = refl
  each-forth σ (q ∷ qs) a = ap₂ ◌∷◌ (disjunct-forth σ q (all_first a)) (each-forth σ qs (all_rest a))

  held : Image p f v c.tableau d.tableau
  held = closed_image rules p f t bound steps c d

  -- each at its first place: what is different stays so
  undone : (ds : List (List (Literal Variable))) → All (λ d. map (renamed_literal p.from f.from (λ x. x)) (map (renamed_literal p.to f.to (λ x. x)) d) ≡ d) ds
  undone ds = all_of (literals_undone p f) ds

  disjuncts-forth : (σ : Substitution) → disjuncts (forth p f v σ) (turned_table p f t) d.tableau ≡ map (map (renamed_literal p.to f.to (λ x. x))) (disjuncts σ t c.tableau)
  unfolding disjuncts per_copy firsts_by
  disjuncts-forth σ =
      ap (λ (ds : List (List (Literal Variable))). firsts_by same_disjunct ds)
      (ap (λ (qs : List ℕ). map (disjunct (forth p f v σ) (turned_table p f t).question) qs) held.questions
      ∙ each-forth σ c.tableau.questions (closed_asked rules p f t bound steps c d))
      ∙ firsts_renamed disjuncts_told disjuncts_told (map (renamed_literal p.to f.to (λ x. x))) (map (renamed_literal p.from f.from (λ x. x))) []
      (map (disjunct σ t.question) c.tableau.questions) end (undone (map (disjunct σ t.question) c.tableau.questions))

  -- as many disjuncts
  pub count-forth : (σ : Substitution) → MostGeneral σ c.tableau.pairs → (m : ℕ) (vs : List ℕ) → Answers (turned_table p f t) d.tableau m vs → m ≡ length (disjuncts σ t c.tableau)
  count-forth σ g m vs a =
      (one_answer (turned_table p f t) d.tableau m (length (disjuncts (forth p f v σ) (turned_table p f t) d.tableau)) vs (answer_words (forth p f v σ) (turned_table p f t) d.tableau) a
      (record { by = forth p f v σ; general = general_forth p f v held.pairs σ g; counted = refl; written = refl })).0
      ∙ ap (λ (ds : List (List (Literal Variable))). length ds) (disjuncts-forth σ)
      ∙ length-map (disjuncts σ t c.tableau) (map (renamed_literal p.to f.to (λ x. x)))

  -- the literals with their variables numbered
  pub answer-forth : (σ τ : Substitution) → MostGeneral σ c.tableau.pairs → MostGeneral τ d.tableau.pairs
      → numbered (joined (disjuncts τ (turned_table p f t) d.tableau)) ≡ map (renamed_literal p.to f.to (λ x. x)) (numbered (joined (disjuncts σ t c.tableau)))
  answer-forth σ τ g h =
      numbered_once (turned_table p f t) d.tableau d.tableau.pairs τ (forth p f v σ) h (general_forth p f v held.pairs σ g)
      ∙ ap (λ (ds : List (List (Literal Variable))). numbered (joined ds)) (disjuncts-forth σ)
      ∙ ap (λ (ls : List (Literal Variable)). numbered ls) (joined_map (renamed_literal p.to f.to (λ x. x)) (disjuncts σ t c.tableau))
      ∙ numbered-other p.to f.to (joined (disjuncts σ t c.tableau))

-- another numbering of all numbers, which gives only those used the same numbers
abbrev elsewhere : List ℕ → Permutation ℕ
elsewhere uses = after (numbering uses) (moving (length (first_uses uses)))

elsewhere_known : (uses : List ℕ) → ByFirstUse uses (elsewhere uses)
unfolding after
elsewhere_known uses n h =
    let number : number_in (first_uses uses) n ≡ (numbering uses).to n = numbering_known uses n h in
    number ∙ sym (moving_below (length (first_uses uses)) ((numbering uses).to n) (omega arith))

both_known : (uses : List ℕ) (n : ℕ) → (numbering uses).to n ≡ (elsewhere uses).to n → (numbering uses).to n ≡ number_in (first_uses uses) n
unfolding after
both_known uses n e = numbering_below uses n (moving_above (length (first_uses uses)) ((numbering uses).to n) e)

-- so what both numberings give the same number was used
both_used : {P : ℕ → Type 0} (uses : List ℕ) → All P uses → (n : ℕ) → (numbering uses).to n ≡ (elsewhere uses).to n → P n
unfolding after
both_used uses a n e =
    known_all uses a n (omega (arith, moving_above (length (first_uses uses)) ((numbering uses).to n) e, both_known uses n e))

-- as many disjuncts over the renumbered table
pub same_count : (rules : Profile) (t : Table) (bound : ℕ) (steps : List Step) (c : Closed (over rules t bound) steps) (d : Closed (over rules (renumbered t) bound) steps)
    (σ : Substitution) → MostGeneral σ c.tableau.pairs → (m : ℕ) (vs : List ℕ) → Answers (renumbered t) d.tableau m vs → m ≡ length (disjuncts σ t c.tableau)
same_count rules t bound steps c d σ g m vs a =
    subst (λ (u : Table). (e : Closed (over rules u bound) steps) → Answers u e.tableau m vs → m ≡ length (disjuncts σ t c.tableau))
    (renumbered_turned t (predicate_numbers t) (function_numbers t) (numbering_known (predicates_used t)) (numbering_known (functions_used t)))
    (λ e b. count-forth rules (predicate_numbers t) (function_numbers t) t bound steps c e σ g m vs b) d a

-- the answer over the renumbered table
module _ (rules : Profile) (t : Table) (bound : ℕ) (steps : List Step) (c : Closed (over rules t bound) steps) (d : Closed (over rules (renumbered t) bound) steps)
    (σ τ : Substitution) (g : MostGeneral σ c.tableau.pairs) (h : MostGeneral τ d.tableau.pairs) where
  abbrev old : List (Literal ℕ)
  old = numbered (joined (disjuncts σ t c.tableau))

  abbrev new : List (Literal ℕ)
  new = numbered (joined (disjuncts τ (renumbered t) d.tableau))

  by : (p f : Permutation ℕ) → ByFirstUse (predicates_used t) p → ByFirstUse (functions_used t) f → new ≡ map (renamed_literal p.to f.to (λ x. x)) old
  by p f hp hf =
      subst (λ (u : Table).
      (e : Closed (over rules u bound) steps) (ρ : Substitution) → MostGeneral ρ e.tableau.pairs
      → numbered (joined (disjuncts ρ u e.tableau)) ≡ map (renamed_literal p.to f.to (λ x. x)) old)
      (renumbered_turned t p f hp hf) (λ e ρ k. answer-forth rules p f t bound steps c e σ ρ g k) d τ h

  once : new ≡ map (renamed_literal (predicate_numbers t).to (function_numbers t).to (λ x. x)) old
  once = by (predicate_numbers t) (function_numbers t) (numbering_known (predicates_used t)) (numbering_known (functions_used t))

  twice : map (renamed_literal (predicate_numbers t).to (function_numbers t).to (λ x. x)) old
      ≡ map (renamed_literal (elsewhere (predicates_used t)).to (elsewhere (functions_used t)).to (λ x. x)) old
  twice = sym once ∙ by (elsewhere (predicates_used t)) (elsewhere (functions_used t)) (elsewhere_known (predicates_used t)) (elsewhere_known (functions_used t))

  -- what holds of the symbols that the table uses holds of those of the answer
  pub answer-predicates : {P : ℕ → Type 0} → All P (predicates_used t) → All P (predicate_uses old)
  answer-predicates a =
      all_then (both_used (predicates_used t) a)
      (shown_predicates (predicate_numbers t).to (elsewhere (predicates_used t)).to (function_numbers t).to (elsewhere (functions_used t)).to (λ x. x) (λ x. x) old twice)

  pub answer-functions : {P : ℕ → Type 0} → All P (functions_used t) → All P (function_uses old)
  answer-functions a =
      all_then (both_used (functions_used t) a)
      (shown_functions (predicate_numbers t).to (elsewhere (predicates_used t)).to (function_numbers t).to (elsewhere (functions_used t)).to (λ x. x) (λ x. x) old twice)

  pub answer-renumbered : new ≡ map (renamed_literal (number_in (predicates t)) (number_in (functions t)) (λ x. x)) old
  answer-renumbered =
      let p : ℕ → ℕ = (predicate_numbers t).to in
      let q : ℕ → ℕ = (elsewhere (predicates_used t)).to in
      let f : ℕ → ℕ = (function_numbers t).to in
      let g : ℕ → ℕ = (elsewhere (functions_used t)).to in
      once
      ∙ agree_literals f (number_in (functions t)) (λ x. x) (λ x. x) p (number_in (predicates t)) old
      (all_then (both_known (predicates_used t)) (shown_predicates p q f g (λ x. x) (λ x. x) old twice))
      (all_then (both_known (functions_used t)) (shown_functions p q f g (λ x. x) (λ x. x) old twice))
      (all_of (λ x. refl) (variable_uses old))
