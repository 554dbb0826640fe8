-- The words of a text's clauses made from its items, with premises as the code has them.
use mathlib.Core.Bool.{Bool, true, false}
use mathlib.Core.List.{List, [], ◌∷◌, map}
use mathlib.Core.Path.{◌≡◌, refl, sym, ap, ◌∙◌}
use Prim.Native.Nat.{ℕ, suc, ◌≤◌, ◌<◌}
use native.Mathlib.Omega.{arith}
use borrow.Author.Tests.{le-leb, not-true, not-false}
use lib.ListN.{length}
use Rattle.names.specs.Numbers.{Name, first_uses, number_in}
use Rattle.names.specs.Noting.{names_at, uses_of, Numbering}
use Rattle.table.specs.Limits.{Each}
use Rattle.clausetext.specs.Syntax.{Literal, Role, Axiom, Hypothesis, NegatedConjecture, Clause}
use Rattle.clausetext.specs.Texts.{Says}
use Rattle.tptp.specs.Said.{predicates, functions, variables, predicate_uses, function_uses, of_all, literals_said, clause_said}
use Rattle.tptp.specs.Sketch.{Item, literals_items, clause_sort, clause_items, clauses_items}
use Rattle.tptp.specs.Shapes.{fits_by, all_fit, Shaped}
use Rattle.tptp.specs.Body.{item_names, Fit, bare, with_function, Below, Held, Numbered, ClauseFits, Completed}
use Rattle.tptp.proofs.Final.{numbered_all, each_mapped, used_below, uses_few}
use Rattle.tptp.proofs.Items.{item_shapes, names_are, shapes_are, all_fit_lem, fit_all, clauses_functions, clauses_predicates, uses_are}
use Rattle.tptp.proofs.Stages.{shapes_mapped, zipped_mapped, under_each, kinds_bare, kinds_functions}
use Rattle.tptp.proofs.Trees.{each_both, within_fit, within_functions, within_predicates}

-- document 01's limits bound the items and the numbers
clause_fits_lem : (r : Role) (n : ℕ) → n ≤ 7 → fits_by (clause_sort r) n ≡ true
unfolding fits_by
clause_fits_lem Axiom n h = le-leb n 7 h
clause_fits_lem Hypothesis n h = le-leb n 7 h
clause_fits_lem NegatedConjecture n h = le-leb n 7 h

literals_count : (ps fs vs : List Name) (ls : List Literal) → length (literals_said ps fs vs ls) ≡ length ls
unfolding literals_said
literals_count ps fs vs [] = refl
literals_count ps fs vs (l ∷ ls) = ap suc (literals_count ps fs vs ls)

module _ (cs : List Clause) where
  items-fit : (ds : List Clause) → Each (ClauseFits cs) ds → Each Fit (clauses_items ds)
  unfolding clauses_items clause_items clause_said Each
  items-fit [] w = tt
  items-fit (d ∷ ds) w =
      let c = w.0 in (
        clause_fits_lem d.role (length d.literals) (rw (literals_count (predicates cs) (functions cs) (variables d.literals) d.literals) at c.few),
        each_both Fit (literals_items d.literals) (clauses_items ds)
            (within_fit (predicates cs) (functions cs) (variables d.literals) (length (variables d.literals)) d.literals c.literals) (items-fit ds w.1),
      )

  functions-small : (ds : List Clause) → Each (ClauseFits cs) ds → Each (λ (n : Name). number_in (functions cs) n < 4096) (of_all function_uses ds)
  unfolding of_all clause_said Each
  functions-small [] w = tt
  functions-small (d ∷ ds) w =
      each_both (λ (n : Name). number_in (functions cs) n < 4096) (function_uses d.literals) (of_all function_uses ds)
      (within_functions (predicates cs) (functions cs) (variables d.literals) (length (variables d.literals)) d.literals w.0.literals)
      (functions-small ds w.1)

  predicates-small : (ds : List Clause) → Each (ClauseFits cs) ds → Each (λ (n : Name). number_in (predicates cs) n < 4096) (of_all predicate_uses ds)
  unfolding of_all clause_said Each
  predicates-small [] w = tt
  predicates-small (d ∷ ds) w =
      each_both (λ (n : Name). number_in (predicates cs) n < 4096) (predicate_uses d.literals) (of_all predicate_uses ds)
      (within_predicates (predicates cs) (functions cs) (variables d.literals) (length (variables d.literals)) d.literals w.0.literals)
      (predicates-small ds w.1)

-- numbers below a limit on their count
below_limit : (uses : List Name) → length (first_uses uses) ≤ 4096 → Each (λ (n : Name). number_in (first_uses uses) n < 4096) uses
below_limit uses h =
    each_mapped (λ (n : Name). number_in (first_uses uses) n < length (first_uses uses)) (λ (n : Name). number_in (first_uses uses) n < 4096)
    (λ n k. omega arith) uses (used_below [] uses)

none_made : {text words : List ℕ} (cs : List Clause) → Says text cs → (Each (ClauseFits cs) cs → ⊥) → Completed text words false
none_made cs y no_way = record {
  said = cs;
  says = y;
  written = λ z. let x : ◌≡◌ {A = ℕ} 0 1 = cc in absurd (omega arith);
  within = λ z. let x : ◌≡◌ {A = ℕ} 0 1 = cc in absurd (omega arith);
  over = λ z. no_way;
}

module _ {text marks places : List ℕ} (words : List ℕ) (em : length marks ≡ length words) (ep : length places ≡ length words) (held : Held text marks places) where
  abbrev cs : List Clause
  cs = held.said

  abbrev is : List Item
  is = clauses_items held.said

  even : length marks ≡ length places
  even = em ∙ sym ep

  names : names_at text places ≡ item_names is
  names = names_are text marks places even ∙ ap (λ (l : List Item). item_names l) held.items

  module _ {words₁ : List ℕ} {r : Bool} (s : Shaped marks words words₁ r) where
    pub shapes_over : r ≡ false → Completed text words₁ false
    shapes_over e = none_made cs held.says (λ w.
        let f : all_fit marks ≡ true = fit_all text marks places even (rw held.items (items-fit cs cs w)) in
        let x : ◌≡◌ {A = ℕ} 0 1 = cc s.is in absurd (omega arith))

    module _ (e : r ≡ true) where
      fit : Each Fit is
      fit = rw held.items at (all_fit_lem text marks places even (sym s.is ∙ e))

      bare-words : words₁ ≡ map bare is
      bare-words = s.written e ∙ shapes_are text marks places even ∙ ap (λ (l : List Item). item_shapes l) held.items ∙ shapes_mapped is

      function_uses_lem : uses_of 1 words₁ (names_at text places) ≡ of_all function_uses cs
      function_uses_lem = rw (bare-words, names) (uses_are 1 (map bare is) is (kinds_bare is fit) ∙ clauses_functions cs)

      pub shaped_even : length places ≡ length words₁
      shaped_even = ep ∙ sym s.long

      module _ {words₂ : List ℕ} {many : ℕ} (n : Numbering text places words₁ 1 4096 words₂ many) where
        pub functions_over : 4096 < many → Completed text words₂ false
        functions_over g = none_made cs held.says (λ w.
            let l : length (functions cs) ≤ 4096 = uses_few 4096 [] (of_all function_uses cs) (omega arith) (functions-small cs cs w) in
            omega (arith, rw function_uses_lem at (n.over g)))

        module _ (g : many ≤ 4096) where
          functions-few : length (functions cs) ≤ 4096
          functions-few = omega (arith, rw function_uses_lem at (n.within g))

          named : Each (Below 1 (functions cs)) is
          named = under_each 1 (functions cs) 4096 is (rw (clauses_functions cs) (below_limit (of_all function_uses cs) functions-few))

          function-words : words₂ ≡ map (with_function (functions cs)) is
          function-words =
              n.numbers g
              ∙ numbered_all 1 [] words₁ (names_at text places)
              ∙ rw (function_uses_lem, bare-words, names) (zipped_mapped 1 (functions cs) bare is)

          predicate_uses_lem : uses_of 2 words₂ (names_at text places) ≡ of_all predicate_uses cs
          predicate_uses_lem =
              rw (function-words, names) (uses_are 2 (map (with_function (functions cs)) is) is (kinds_functions (functions cs) is fit named) ∙ clauses_predicates cs)

          pub functions_even : length places ≡ length words₂
          functions_even = shaped_even ∙ sym n.long

          module _ {words₃ : List ℕ} {more : ℕ} (p : Numbering text places words₂ 2 4096 words₃ more) where
            pub predicates_over : 4096 < more → Completed text words₃ false
            predicates_over k = none_made cs held.says (λ w.
                let l : length (predicates cs) ≤ 4096 = uses_few 4096 [] (of_all predicate_uses cs) (omega arith) (predicates-small cs cs w) in
                omega (arith, rw predicate_uses_lem at (p.over k)))

            module _ (k : more ≤ 4096) where
              predicates-few : length (predicates cs) ≤ 4096
              predicates-few = omega (arith, rw predicate_uses_lem at (p.within k))

              pub predicates_even : length places ≡ length words₃
              predicates_even = functions_even ∙ sym p.long

              pub all_numbered : Numbered text places words₃
              all_numbered = record {
                said = cs;
                says = held.says;
                words_are =
                    p.numbers k
                    ∙ numbered_all 2 [] words₂ (names_at text places)
                    ∙ rw (predicate_uses_lem, function-words, names) (zipped_mapped 2 (predicates cs) (with_function (functions cs)) is);
                names_are = names;
                fit = fit;
                named = named;
                stated = under_each 2 (predicates cs) 4096 is (rw (clauses_predicates cs) (below_limit (of_all predicate_uses cs) predicates-few));
              }

pub ruleset make_laws = (shapes_over, shaped_even, functions_over, functions_even, predicates_over, predicates_even, all_numbered, not-true, not-false)
