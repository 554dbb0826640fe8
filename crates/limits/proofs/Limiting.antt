-- The limits of a clause alone and of clauses together, with premises as the code has them.
use mathlib.Core.Bool.{Bool, true, false}
use mathlib.Core.List.{List}
use mathlib.Core.Path.{◌≡◌, sym, ap, ◌∙◌}
use Prim.Native.Nat.{ℕ, ◌/◌, ◌≤◌, ◌<◌}
use native.Mathlib.Omega.{arith}
use borrow.Author.Tests.{lt-ltb, le-ltb}
use lib.Dec.{ltb}
use lib.ListN.{length}
use Rattle.std.specs.Prelude.{Some, None}
use Rattle.clausetext.specs.Syntax.{Literal, Clause}
use Rattle.names.specs.Numbers.{Name, first_uses}
use Rattle.tptp.specs.Said.{predicates, functions, variables}
use Rattle.tptp.specs.Sketch.{Item, literals_items, clauses_items}
use Rattle.tptp.specs.Memory.{items_of}
use Rattle.tptp.proofs.Items.{names_of_kind, literals_variables, clauses_functions, clauses_predicates}
use Rattle.limits.specs.declared.find.Limit.TheVariants.{Literals, Arguments, Variables, Words, Clauses, Predicates, Functions, Total}
use Rattle.limits.specs.Over.{most_parts, own_limit, shared_limit}
use Rattle.limits.specs.Counting.{most_in, more_than, OwnLimit, SharedLimit}
use Rattle.limits.proofs.Counting.{items_long, most_items, more_items}

module _ (text marks places : List ℕ) (even : length marks ≡ length places) where
  -- a clause alone
  module _ (ls : List Literal) (i : items_of text marks places ≡ literals_items ls) where
    most-is : most_in marks ≡ most_parts (literals_items ls)
    most-is = most_items text marks places even ∙ ap (λ (is : List Item). most_parts is) i

    variables-are : more_than text marks places 0 16 ≡ ltb 16 (length (variables ls))
    variables-are =
        more_items text marks places even 0 16
        ∙ ap (λ (us : List Name). ltb 16 (length (first_uses us))) (ap (λ (is : List Item). names_of_kind 0 is) i ∙ literals_variables ls)

    words_are : length marks ≡ length (literals_items ls)
    words_are = sym (items_long text marks places even) ∙ ap (λ (is : List Item). length is) i

  module _ (clause : ℕ) where
    pub own_literals : 7 < clause / 8 → OwnLimit text clause marks places (Some Literals)
    unfolding own_limit
    own_literals h = record { is = λ ls i e. let a : ltb 7 (length ls) ≡ true = lt-ltb 7 (length ls) (omega (arith, e)) in sym (rw a) }

    module _ (few : clause / 8 ≤ 7) {most : ℕ} (m : most ≡ most_in marks) where
      literals-few : (ls : List Literal) → clause / 8 ≡ length ls → ltb 7 (length ls) ≡ false
      literals-few ls e = le-ltb 7 (length ls) (omega (arith, e))

      pub own_arguments : 4 < most → OwnLimit text clause marks places (Some Arguments)
      unfolding own_limit
      own_arguments h = record {
        is = λ ls i e.
            let b : ltb 4 (most_parts (literals_items ls)) ≡ true = lt-ltb 4 (most_parts (literals_items ls)) (omega (arith, most-is ls i)) in
            sym (rw (literals-few ls e, b));
      }

      module _ (low : most ≤ 4) {v : Bool} (w : v ≡ more_than text marks places 0 16) where
        arguments-few : (ls : List Literal) → items_of text marks places ≡ literals_items ls → ltb 4 (most_parts (literals_items ls)) ≡ false
        arguments-few ls i = le-ltb 4 (most_parts (literals_items ls)) (omega (arith, most-is ls i))

        pub own_variables : v ≡ true → OwnLimit text clause marks places (Some Variables)
        unfolding own_limit
        own_variables t = record {
          is = λ ls i e.
              let b : ltb 16 (length (variables ls)) ≡ true = sym (variables-are ls i) ∙ sym w ∙ t in
              sym (rw (literals-few ls e, arguments-few ls i, b));
        }

        module _ (f : v ≡ false) where
          variables-few : (ls : List Literal) → items_of text marks places ≡ literals_items ls → ltb 16 (length (variables ls)) ≡ false
          variables-few ls i = sym (variables-are ls i) ∙ sym w ∙ f

          pub own_words_lem : 255 < length marks → OwnLimit text clause marks places (Some Words)
          unfolding own_limit
          own_words_lem h = record {
            is = λ ls i e.
                let b : ltb 255 (length (literals_items ls)) ≡ true = lt-ltb 255 (length (literals_items ls)) (omega (arith, words_are ls i)) in
                sym (rw (literals-few ls e, arguments-few ls i, variables-few ls i, b));
          }

          pub own_nothing : length marks ≤ 255 → OwnLimit text clause marks places None
          unfolding own_limit
          own_nothing h = record {
            is = λ ls i e.
                let b : ltb 255 (length (literals_items ls)) ≡ false = le-ltb 255 (length (literals_items ls)) (omega (arith, words_are ls i)) in
                sym (rw (literals-few ls e, arguments-few ls i, variables-few ls i, b));
          }

  -- clauses together
  module _ (cs : List Clause) (i : items_of text marks places ≡ clauses_items cs) where
    predicates-are : more_than text marks places 2 4096 ≡ ltb 4096 (length (predicates cs))
    predicates-are =
        more_items text marks places even 2 4096
        ∙ ap (λ (us : List Name). ltb 4096 (length (first_uses us))) (ap (λ (is : List Item). names_of_kind 2 is) i ∙ clauses_predicates cs)

    functions-are : more_than text marks places 1 4096 ≡ ltb 4096 (length (functions cs))
    functions-are =
        more_items text marks places even 1 4096
        ∙ ap (λ (us : List Name). ltb 4096 (length (first_uses us))) (ap (λ (is : List Item). names_of_kind 1 is) i ∙ clauses_functions cs)

    all_words : length marks ≡ length (clauses_items cs)
    all_words = sym (items_long text marks places even) ∙ ap (λ (is : List Item). length is) i

  module _ (clauses : ℕ) where
    pub shared_clauses : 512 < clauses → SharedLimit text marks places clauses (Some Clauses)
    unfolding shared_limit
    shared_clauses h = record { is = λ cs i e. let a : ltb 512 (length cs) ≡ true = lt-ltb 512 (length cs) (omega (arith, e)) in sym (rw a) }

    module _ (few : clauses ≤ 512) {p : Bool} (w : p ≡ more_than text marks places 2 4096) where
      clauses_few : (cs : List Clause) → clauses ≡ length cs → ltb 512 (length cs) ≡ false
      clauses_few cs e = le-ltb 512 (length cs) (omega (arith, e))

      pub shared_predicates : p ≡ true → SharedLimit text marks places clauses (Some Predicates)
      unfolding shared_limit
      shared_predicates t = record {
        is = λ cs i e.
            let b : ltb 4096 (length (predicates cs)) ≡ true = sym (predicates-are cs i) ∙ sym w ∙ t in
            sym (rw (clauses_few cs e, b));
      }

      module _ (g : p ≡ false) {q : Bool} (x : q ≡ more_than text marks places 1 4096) where
        predicates-few : (cs : List Clause) → items_of text marks places ≡ clauses_items cs → ltb 4096 (length (predicates cs)) ≡ false
        predicates-few cs i = sym (predicates-are cs i) ∙ sym w ∙ g

        pub shared_functions : q ≡ true → SharedLimit text marks places clauses (Some Functions)
        unfolding shared_limit
        shared_functions t = record {
          is = λ cs i e.
              let b : ltb 4096 (length (functions cs)) ≡ true = sym (functions-are cs i) ∙ sym x ∙ t in
              sym (rw (clauses_few cs e, predicates-few cs i, b));
        }

        module _ (k : q ≡ false) where
          functions-few : (cs : List Clause) → items_of text marks places ≡ clauses_items cs → ltb 4096 (length (functions cs)) ≡ false
          functions-few cs i = sym (functions-are cs i) ∙ sym x ∙ k

          pub shared_total : 15996 < length marks → SharedLimit text marks places clauses (Some Total)
          unfolding shared_limit
          shared_total h = record {
            is = λ cs i e.
                let b : ltb 15996 (length (clauses_items cs)) ≡ true = lt-ltb 15996 (length (clauses_items cs)) (omega (arith, all_words cs i)) in
                sym (rw (clauses_few cs e, predicates-few cs i, functions-few cs i, b));
          }

          pub shared_nothing : length marks ≤ 15996 → SharedLimit text marks places clauses None
          unfolding shared_limit
          shared_nothing h = record {
            is = λ cs i e.
                let b : ltb 15996 (length (clauses_items cs)) ≡ false = le-ltb 15996 (length (clauses_items cs)) (omega (arith, all_words cs i)) in
                sym (rw (clauses_few cs e, predicates-few cs i, functions-few cs i, b));
          }

pub ruleset own_laws = (own_literals, own_arguments, own_variables, own_words_lem, own_nothing)

pub ruleset shared_laws = (shared_clauses, shared_predicates, shared_functions, shared_total, shared_nothing)
