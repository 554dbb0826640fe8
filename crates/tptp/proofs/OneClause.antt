-- One clause: the words of its items completed are the words of the clause said, within document 01's limits or over them.
use mathlib.Core.Bool.{false}
use mathlib.Core.List.{List, [], ◌∷◌, map}
use mathlib.Core.Path.{◌≡◌, refl, sym, ap, ◌∙◌}
use Prim.Native.Nat.{ℕ, suc, ◌+◌, ◌*◌, ◌^◌, ◌≤◌, ◌<◌}
use native.Mathlib.Omega.{arith}
use lib.ListN.{length, length-map}
use Rattle.words.specs.Fields.{kind_of, clause_word}
use Rattle.words.proofs.Packed.{clause_kind}
use Rattle.names.specs.Numbers.{Name, first_uses}
use Rattle.names.specs.Noting.{uses_of, numbered}
use Rattle.table.specs.Encode.{literals_words, clause_words}
use Rattle.table.specs.Limits.{ClauseWithin}
use Rattle.clausetext.specs.Syntax.{Literal, Role, Axiom, Hypothesis, NegatedConjecture, role_name}
use Rattle.tptp.specs.Said.{variables, variable_uses, literals_said, clause_said}
use Rattle.tptp.specs.Sketch.{literals_items, clause_sort}
use Rattle.tptp.specs.Shapes.{shape_by}
use Rattle.tptp.specs.Body.{item_names, with_predicate}
use Rattle.tptp.proofs.Final.{zipped, numbered_all, used_below}
use Rattle.tptp.proofs.Items.{literals_variables, uses_are}
use Rattle.tptp.proofs.Stages.{with_variable, zipped_mapped, under_each, kinds_predicates}
use Rattle.tptp.proofs.Trees.{Good, literals_words_is, literals_within}

literals_long : (ps fs vs : List Name) (ls : List Literal) → length (literals_said ps fs vs ls) ≡ length ls
unfolding literals_said
literals_long ps fs vs [] = refl
literals_long ps fs vs (l ∷ ls) = ap suc (literals_long ps fs vs ls)

-- a clause's word before it is completed
clause_shape : (r : Role) (n : ℕ) → shape_by (clause_sort r) n ≡ clause_word false n 0 0
unfolding shape_by
clause_shape Axiom n = refl
clause_shape Hypothesis n = refl
clause_shape NegatedConjecture n = refl

pub clause_bare : (ps fs : List Name) (r : Role) (n : ℕ) → n ≤ 7 → with_predicate ps fs (record { sort = clause_sort r; parts = n; name = role_name r }) ≡ clause_word false n 0 0
clause_bare ps fs r n h =
    let k : kind_of (clause_word false n 0 0) ≡ 3 = clause_kind n 0 0 (omega arith) (omega arith) (omega arith) false in rw (clause_shape r n, k, k)

module _ (ps fs : List Name) (ls : List Literal) (good : Good ps fs (variables ls) (literals_items ls)) where
  pub clause_uses : uses_of 0 (map (with_predicate ps fs) (literals_items ls)) (item_names (literals_items ls)) ≡ variable_uses ls
  clause_uses =
      uses_are 0 (map (with_predicate ps fs) (literals_items ls)) (literals_items ls)
      (kinds_predicates ps fs (literals_items ls) good.fit good.functions good.predicates)
      ∙ literals_variables ls

  words-all : map (with_variable ps fs (variables ls)) (literals_items ls) ≡ literals_words (literals_said ps fs (variables ls) ls)
  words-all = literals_words_is ps fs (variables ls) ls good

  pub clause_numbered : numbered 0 [] (map (with_predicate ps fs) (literals_items ls)) (item_names (literals_items ls)) ≡ literals_words (literals_said ps fs (variables ls) ls)
  clause_numbered =
      numbered_all 0 [] (map (with_predicate ps fs) (literals_items ls)) (item_names (literals_items ls))
      ∙ ap (λ (us : List Name). zipped 0 (first_uses us) (map (with_predicate ps fs) (literals_items ls)) (item_names (literals_items ls))) clause_uses
      ∙ zipped_mapped 0 (variables ls) (with_predicate ps fs) (literals_items ls)
      ∙ words-all

  pub words_long : length (literals_words (literals_said ps fs (variables ls) ls)) ≡ length (literals_items ls)
  words_long = ap (λ (l : List ℕ). length l) (sym words-all) ∙ length-map (literals_items ls) (with_variable ps fs (variables ls))

  pub clause_completed : {w : ℕ} → w ≡ clause_word false (length ls) 0 0 → {many : ℕ} → many ≡ length (variables ls) → {following : ℕ} → following ≡ length (literals_items ls)
      → (following * 2 ^ 8 + many * 2 ^ 3 + w) ∷ literals_words (literals_said ps fs (variables ls) ls) ≡ clause_words (clause_said ps fs ls)
  unfolding clause_words clause_said
  clause_completed {w} a {many} b {following} c =
      ap (λ (x : ℕ). x ∷ literals_words (literals_said ps fs (variables ls) ls))
      (rw (literals_long ps fs (variables ls) ls, words_long, a, b, c) (omega arith))

  pub clause_within : 1 ≤ length ls → length ls ≤ 7 → length (variables ls) ≤ 16 → length (literals_items ls) ≤ 255 → ClauseWithin (clause_said ps fs ls)
  unfolding clause_said
  clause_within a b c d = record {
    some = rw (literals_long ps fs (variables ls) ls) a;
    few = rw (literals_long ps fs (variables ls) ls) b;
    variables = c;
    follow = rw words_long d;
    literals = literals_within ps fs (variables ls) (length (variables ls)) ls good
        (under_each 0 (variables ls) (length (variables ls)) (literals_items ls) (rw (literals_variables ls) (used_below [] (variable_uses ls))));
  }

  pub too_many_words : 255 < length (literals_items ls) → ClauseWithin (clause_said ps fs ls) → ⊥
  unfolding clause_said
  too_many_words h w = omega (arith, w.follow, words_long)

  pub too_many_variables : 16 < length (variables ls) → ClauseWithin (clause_said ps fs ls) → ⊥
  unfolding clause_said
  too_many_variables h w = omega (arith, w.variables)
