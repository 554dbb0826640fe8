-- A text's items cut at a clause, with premises as the code has them.
use mathlib.Core.List.{List, [], ◌∷◌, ◌++◌, append_assoc, append-nil}
use mathlib.Core.Path.{◌≡◌, refl, sym, ap, subst, ◌∙◌}
use Prim.Native.Nat.{ℕ, ◌+◌, ◌-◌, ◌/◌, ◌%◌, ◌≤◌, ◌<◌}
use native.Mathlib.Numerals.{add-one}
use native.Mathlib.Omega.{arith}
use lib.ListN.{length, take, drop, get_or, length-append, length-drop}
use lib.Seq.{drop-cons, drop_at, take_at}
use Rattle.clausetext.specs.Syntax.{Literal, Clause}
use Rattle.clausetext.specs.Texts.{Says}
use Rattle.tptp.specs.Sketch.{Item, literals_items, clause_sort, clause_items, clauses_items}
use Rattle.tptp.specs.Memory.{item_of, items_of}
use Rattle.tptp.specs.Body.{ahead, part, Held}
use Rattle.tptp.proofs.Ahead.{item_ahead, ahead_items, ahead_past, ahead_within}
use Rattle.tptp.proofs.Answers.{items_drop, literals_sorts, clauses_next}
use Rattle.tptp.proofs.Splits.{items_append}
use Rattle.limits.proofs.Counting.{items_long, items_take}

-- a clause is one item at least
pub some_items : (cs : List Clause) → length cs ≤ length (clauses_items cs)
unfolding clauses_items clause_items
some_items [] = omega arith
some_items (c ∷ cs) = omega (arith, some_items cs, length-append (literals_items c.literals) (clauses_items cs))

-- the items of the clauses before a place, and of the others
pub record Cut (text marks places : List ℕ) (at : ℕ) : Type 0 where
  pub before : List Clause
  pub rest : List Clause
  pub says : Says text (before ++ rest)
  pub items : items_of text marks places ≡ clauses_items (before ++ rest)
  pub place : at ≡ length (clauses_items before)

unfoldable pub cut_begin : {text marks places : List ℕ} → Held text marks places → Cut text marks places 0
unfolding clauses_items
cut_begin g = record { before = []; rest = g.said; says = g.says; items = g.items; place = refl }

-- of the first item
abbrev parts_at : List Item → ℕ
parts_at [] = 0
parts_at (i ∷ is) = i.parts

abbrev sort_at : List Item → ℕ
sort_at [] = 0
sort_at (i ∷ is) = i.sort

pub record Next (rest : List Clause) : Type 0 where
  pub this : Clause
  pub others : List Clause
  pub is : rest ≡ this ∷ others

module _ {text marks places : List ℕ} {at : ℕ} (cut : Cut text marks places at) (even : length marks ≡ length places) where
  items-split : items_of text marks places ≡ clauses_items cut.before ++ clauses_items cut.rest
  items-split = cut.items ∙ items_append cut.before cut.rest

  rest-none : (rest : List Clause) → items_of text marks places ≡ clauses_items cut.before ++ clauses_items rest → length marks ≤ at → rest ≡ []
  unfolding clauses_items clause_items
  rest-none [] e h = refl
  rest-none (c ∷ ds) e h =
      absurd (omega (arith, items_long text marks places even, ap (λ (is : List Item). length is) e, length-append (clauses_items cut.before) (clauses_items (c ∷ ds)), cut.place))

  pub cut_over : length marks ≤ at → cut.rest ≡ []
  cut_over h = rest-none cut.rest items-split h

  module _ (h : at < length marks) where
    next_of : (rest : List Clause) → cut.rest ≡ rest → Next cut.rest
    unfolding clauses_items
    next_of [] e =
        let all : items_of text marks places ≡ clauses_items cut.before = items-split ∙ ap (λ (l : List Clause). clauses_items cut.before ++ clauses_items l) e ∙ append-nil (clauses_items cut.before) in
        absurd (omega (arith, items_long text marks places even, ap (λ (is : List Item). length is) all, cut.place))
    next_of (c ∷ ds) e = record { this = c; others = ds; is = e }

    pub next : Next cut.rest
    next = next_of cut.rest refl

    abbrev ls : List Literal
    ls = next.this.literals

    abbrev pub upto : List Clause
    upto = cut.before ++ (next.this ∷ [])

    pub all_said : cut.before ++ cut.rest ≡ upto ++ next.others
    all_said = ap (λ (l : List Clause). cut.before ++ l) next.is ∙ sym (append_assoc cut.before (next.this ∷ []) next.others)

    clause_here : drop at (items_of text marks places) ≡ clause_items next.this ++ clauses_items next.others
    unfolding clauses_items
    clause_here =
        ap (λ (is : List Item). drop at is) (items-split ∙ ap (λ (l : List Clause). clauses_items cut.before ++ clauses_items l) next.is)
        ∙ drop_at (clauses_items cut.before) (clause_items next.this ++ clauses_items next.others) at (sym cut.place)

    here : item_of text (get_or marks at 0) (get_or places at 0) ∷ items_of text (drop (at + 1) marks) (drop (at + 1) places) ≡ clause_items next.this ++ clauses_items next.others
    unfolding items_of
    here =
        let p : at < length places = omega arith in
        rw (add-one at) ((rw (drop-cons marks at 0 h, drop-cons places at 0 p) at (items_drop text at marks places)) ∙ clause_here)

    pub mark_parts : get_or marks at 0 / 8 ≡ length ls
    unfolding clause_items
    mark_parts = ap (λ (is : List Item). parts_at is) here

    pub mark_sort : get_or marks at 0 % 8 ≡ clause_sort next.this.role
    unfolding clause_items
    mark_sort = ap (λ (is : List Item). sort_at is) here

    after-here : items_of text (drop (at + 1) marks) (drop (at + 1) places) ≡ literals_items ls ++ clauses_items next.others
    unfolding clause_items
    after-here = let e = here in cc

    after-even : length (drop (at + 1) marks) ≡ length (drop (at + 1) places)
    after-even = omega (arith, length-drop (at + 1) marks, length-drop (at + 1) places)

    module _ {end : ℕ} (e : end ≡ at + 1 + ahead 4 (drop (at + 1) marks)) where
      pub end_later : at + 1 ≤ end
      end_later = omega (arith, e)

      pub end_inside : end ≤ length marks
      end_inside = omega (arith, e, ahead_within 4 (drop (at + 1) marks), length-drop (at + 1) marks)

      pub end_falls : length marks - end < length marks - at
      end_falls = omega (arith, end_later)

      end_is : end ≡ at + 1 + length (literals_items ls)
      end_is =
          e ∙ omega (
            arith,
            ahead_items text 4 (drop (at + 1) marks) (drop (at + 1) places) after-even,
            ap (λ (is : List Item). item_ahead 4 is) after-here,
            ahead_past 4 (literals_items ls) (clauses_items next.others) (literals_sorts ls),
            clauses_next 4 (omega arith) next.others,
          )

      pub own_part : items_of text (part (at + 1) end marks) (part (at + 1) end places) ≡ literals_items ls
      own_part =
          let z : end - (at + 1) ≡ length (literals_items ls) = omega (arith, end_is) in
          items_take text (end - (at + 1)) (drop (at + 1) marks) (drop (at + 1) places)
          ∙ rw (after-here, z) (take_at (literals_items ls) (clauses_items next.others) (length (literals_items ls)) refl)

      pub upto_long : length (clauses_items upto) ≡ end
      unfolding clauses_items clause_items
      upto_long =
          ap (λ (is : List Item). length is) (items_append cut.before (next.this ∷ []) ∙ ap (λ (l : List Item). clauses_items cut.before ++ l) (append-nil (clause_items next.this)))
          ∙ length-append (clauses_items cut.before) (clause_items next.this) ∙ omega (arith, cut.place, end_is)

      pub front_part : items_of text (part 0 end marks) (part 0 end places) ≡ clauses_items upto
      front_part =
          let z : end - 0 ≡ end = omega arith in
          rw z (items_take text end marks places
          ∙ ap (λ (is : List Item). take end is) (cut.items ∙ ap (λ (l : List Clause). clauses_items l) all_said ∙ items_append upto next.others)
          ∙ take_at (clauses_items upto) (clauses_items next.others) end upto_long)

      unfoldable pub cut_next : Cut text marks places end
      cut_next = record {
        before = upto;
        rest = next.others;
        says = subst (λ (x : List Clause). Says text x) all_said cut.says;
        items = cut.items ∙ ap (λ (x : List Clause). clauses_items x) all_said;
        place = sym upto_long;
      }
