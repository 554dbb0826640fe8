-- The clause with which a limit is passed, with premises as the code has them.
use mathlib.Core.Bool.{Bool, true, false, cond}
use mathlib.Core.List.{List, [], ◌∷◌, ◌++◌}
use mathlib.Core.Path.{◌≡◌, refl, sym, ap, ap₂, ◌∙◌}
use Prim.Native.Nat.{ℕ, suc, ◌+◌, ◌-◌, ◌%◌, ◌≤◌, ◌<◌}
use native.Mathlib.Omega.{arith}
use mir.Syntax.{w64}
use mir.Val.{Fits}
use lib.Dec.{eqb}
use lib.ListN.{length, take, drop, get_or, length-append, length-take}
use Rattle.std.specs.Prelude.{Option, Some, None, is_some}
use Rattle.clausetext.specs.Syntax.{Role, Axiom, Hypothesis, NegatedConjecture, Clause}
use Rattle.clausetext.specs.Texts.{Says}
use Rattle.clausetext.proofs.OneReading.{one_reading}
use Rattle.names.specs.Numbers.{Name}
use Rattle.naming.specs.Clauses.{same, asks, names_of}
use Rattle.tptp.specs.Sketch.{clause_sort}
use Rattle.tptp.specs.Memory.{Gathered}
use Rattle.tptp.specs.Body.{ahead, part, Held}
use Rattle.limits.specs.declared.find.Limit.{Limit}
use Rattle.limits.specs.declared.find.Passed.{Passed}
use Rattle.limits.specs.Over.{shared_limit, or_else, Over, or_next, limit_with, first_over}
use Rattle.limits.specs.Counting.{OwnLimit, SharedLimit, LimitAt, passed_by, Found}
use Rattle.limits.proofs.Cutting.{some_items, Cut, cut_begin, Next, cut_over, next, upto, all_said, mark_parts, mark_sort, end_later, end_inside, end_falls, own_part, front_part, cut_next}

-- the names of clauses of a sort
names_append : (b : Bool) (xs ys : List Clause) → names_of b (xs ++ ys) ≡ names_of b xs ++ names_of b ys
unfolding names_of
names_append b [] ys = refl
names_append b (x ∷ xs) ys = go (same (asks x.role) b) (names_append b xs ys)
  where
    go : (t : Bool) → names_of b (xs ++ ys) ≡ names_of b xs ++ names_of b ys
        → cond t (x.name ∷ names_of b (xs ++ ys)) (names_of b (xs ++ ys)) ≡ cond t (x.name ∷ names_of b xs) (names_of b xs) ++ names_of b ys
    go true ih = ap (λ (l : List Name). x.name ∷ l) ih
    go false ih = ih

same_self : (b : Bool) → same b b ≡ true
same_self true = refl
same_self false = refl

own_named : (c : Clause) (cs : List Clause) → names_of (asks c.role) (c ∷ cs) ≡ c.name ∷ names_of (asks c.role) cs
unfolding names_of
own_named c cs = rw (same_self (asks c.role))

both_count : (cs : List Clause) → length (names_of false cs) + length (names_of true cs) ≡ length cs
unfolding names_of
both_count [] = refl
both_count (c ∷ cs) = go (asks c.role) (both_count cs)
  where
    go : (t : Bool) → length (names_of false cs) + length (names_of true cs) ≡ length cs
        → length (cond (same t false) (c.name ∷ names_of false cs) (names_of false cs)) + length (cond (same t true) (c.name ∷ names_of true cs) (names_of true cs)) ≡ suc (length cs)
    go true ih = omega arith
    go false ih = omega arith

one_asked : (c : Clause) → asks c.role ≡ true → (length (names_of true (c ∷ [])) ≡ 1) × (length (names_of false (c ∷ [])) ≡ 0)
unfolding names_of
one_asked c e = (rw e, rw e)

one_stated : (c : Clause) → asks c.role ≡ false → (length (names_of true (c ∷ [])) ≡ 0) × (length (names_of false (c ∷ [])) ≡ 1)
unfolding names_of
one_stated c e = (rw e, rw e)

role_asks : (r : Role) → eqb (clause_sort r) 5 ≡ asks r
role_asks Axiom = refl
role_asks Hypothesis = refl
role_asks NegatedConjecture = refl

at_seam : (xs ys : List Name) (y : Name) → get_or (xs ++ (y ∷ ys)) (length xs) [] ≡ y
at_seam [] ys y = refl
at_seam (x ∷ xs) ys y = at_seam xs ys y

-- the limit at a clause
module _ (text marks places : List ℕ) {at end clauses : ℕ} {own : Option Limit} (o : OwnLimit text (get_or marks at 0) (part (at + 1) end marks) (part (at + 1) end places) own) where
  pub limit_own : is_some own ≡ true → LimitAt text marks places at end clauses own
  limit_own e = record { is = λ ls cs i m j k. go own e (shared_limit cs) ∙ ap (λ (a : Option Limit). or_else a (shared_limit cs)) (o.is ls i m) }
    where
      go : (a : Option Limit) → is_some a ≡ true → (b : Option Limit) → a ≡ or_else a b
      go None e b = let z : ◌≡◌ {A = ℕ} 0 1 = cc in absurd (omega arith)
      go (Some l) e b = refl

  pub limit_shared : is_some own ≡ false → {r : Option Limit} → SharedLimit text (part 0 end marks) (part 0 end places) clauses r → LimitAt text marks places at end clauses r
  limit_shared e {r} s = record { is = λ ls cs i m j k. go own e ∙ ap₂ (λ (a b : Option Limit). or_else a b) (o.is ls i m) (s.is cs j k) }
    where
      go : (a : Option Limit) → is_some a ≡ false → r ≡ or_else a r
      go None e = refl
      go (Some l) e = let z : ◌≡◌ {A = ℕ} 0 1 = cc in absurd (omega arith)

pub ruleset at_laws = (limit_own, limit_shared)

-- the clauses before a place pass no limit
pub record Searching (text marks places : List ℕ) (stated asked at : ℕ) : Type 0 where
  pub cut : Cut text marks places at
  pub so_far : first_over [] (cut.before ++ cut.rest) ≡ first_over cut.before cut.rest
  pub stated_are : stated ≡ length (names_of false cut.before)
  pub asked_are : asked ≡ length (names_of true cut.before)

pub search_begin : {text marks places : List ℕ} → Held text marks places → Searching text marks places 0 0 0
unfolding names_of cut_begin
search_begin g = record { cut = cut_begin g; so_far = refl; stated_are = refl; asked_are = refl }

module _ {text marks places : List ℕ} {stated asked at : ℕ} (inv : Searching text marks places stated asked at) (even : length marks ≡ length places) where
  counted : stated + asked ≡ length inv.cut.before
  counted = omega (arith, inv.stated_are, inv.asked_are, both_count inv.cut.before)

  counted-low : stated + asked ≤ at
  counted-low = omega (arith, counted, some_items inv.cut.before, inv.cut.place)

  pub search_end : length marks ≤ at → (ds : List Clause) → Says text ds → (first_over [] ds).limit ≡ None
  unfolding first_over
  search_end h ds y =
      let all : first_over [] (inv.cut.before ++ inv.cut.rest) ≡ first_over inv.cut.before [] = inv.so_far ∙ ap (λ (l : List Clause). first_over inv.cut.before l) (cut_over inv.cut even h) in
      ap (λ (o : Over). o.limit) (ap (λ (l : List Clause). first_over [] l) (sym (one_reading inv.cut.says y)) ∙ all)

  module _ (h : at < length marks) where
    abbrev here : Next inv.cut.rest
    here = next inv.cut even h

    abbrev sofar : List Clause
    sofar = upto inv.cut even h

    pub count_fits : length marks ≤ 65536 → Fits w64 (stated + asked)
    count_fits s = record { fits = omega (arith, counted-low) }

    pub count_fits_more : length marks ≤ 65536 → Fits w64 (stated + asked + 1)
    count_fits_more s = record { fits = omega (arith, counted-low) }

    pub asked_fits : length marks ≤ 65536 → Fits w64 (asked + 1)
    asked_fits s = record { fits = omega (arith, counted-low) }

    pub stated_fits : length marks ≤ 65536 → Fits w64 (stated + 1)
    stated_fits s = record { fits = omega (arith, counted-low) }

    module _ {end : ℕ} (e : end ≡ at + 1 + ahead 4 (drop (at + 1) marks)) where
      pub clause_later : at + 1 ≤ end
      clause_later = end_later inv.cut even h e

      pub clause_inside : end ≤ length marks
      clause_inside = end_inside inv.cut even h e

      pub clause_falls : length marks - end < length marks - at
      clause_falls = end_falls inv.cut even h e

      upto-count : stated + asked + 1 ≡ length sofar
      upto-count = omega (arith, counted, length-append inv.cut.before (here.this ∷ []))

      module _ {l : Option Limit} (i : LimitAt text marks places at end (stated + asked + 1) l) where
        limit_is : l ≡ limit_with inv.cut.before here.this
        limit_is = i.is here.this.literals sofar (own_part inv.cut even h e) (mark_parts inv.cut even h) (front_part inv.cut even h e) upto-count

        first_here : first_over [] (inv.cut.before ++ inv.cut.rest) ≡ or_next l here.this.name (first_over sofar here.others)
        unfolding first_over
        first_here = inv.so_far ∙ ap (λ (r : List Clause). first_over inv.cut.before r) here.is ∙ rw limit_is

        module _ {q : Bool} (m : q ≡ eqb (get_or marks at 0 % 8) 5) where
          question_is : q ≡ asks here.this.role
          question_is = m ∙ ap (λ (s : ℕ). eqb s 5) (mark_sort inv.cut even h) ∙ role_asks here.this.role

          module _ {limit : Limit} (f : l ≡ Some limit) (small : length marks ≤ 65536) where
            found_here : (t : Bool) → asks here.this.role ≡ t → (n : ℕ) → n ≡ length (names_of t inv.cut.before) → n ≤ stated + asked
                → Found text (record { limit = limit; asked = t; number = n })
            found_here t a n k low = record {
              limit = λ ds y. ap (λ (o : Over). o.limit) (over_is ds y);
              name = λ ds y. named ds y ∙ sym (ap (λ (o : Over). o.name) (over_is ds y));
              there = λ ds y. rw (← one_reading inv.cut.says y, split-names, k) (omega (arith, length-append (names_of t inv.cut.before) (here.this.name ∷ names_of t here.others)));
              few = omega (arith, counted-low);
            }
              where
                over_is : (ds : List Clause) → Says text ds → first_over [] ds ≡ record { limit = Some limit; name = here.this.name }
                over_is ds y = ap (λ (x : List Clause). first_over [] x) (sym (one_reading inv.cut.says y)) ∙ first_here ∙ rw f

                split-names : names_of t (inv.cut.before ++ inv.cut.rest) ≡ names_of t inv.cut.before ++ (here.this.name ∷ names_of t here.others)
                split-names =
                    ap (λ (r : List Clause). names_of t (inv.cut.before ++ r)) here.is ∙ names_append t inv.cut.before (here.this ∷ here.others)
                    ∙ ap (λ (x : List Name). names_of t inv.cut.before ++ x) (rw (← a) (own_named here.this here.others))

                named : (ds : List Clause) → Says text ds → get_or (names_of t ds) n [] ≡ here.this.name
                named ds y = rw (← one_reading inv.cut.says y, split-names, k) (at_seam (names_of t inv.cut.before) (names_of t here.others) here.this.name)

            pub search_found : {r : Passed} → r ≡ passed_by limit q stated asked → Found text r
            search_found g = rw g (go q question_is)
              where
                go : (t : Bool) → t ≡ asks here.this.role → Found text (passed_by limit t stated asked)
                go true a = found_here true (sym a) asked inv.asked_are (omega arith)
                go false a = found_here false (sym a) stated inv.stated_are (omega arith)

          module _ (f : l ≡ None) where
            passed_here : first_over [] (sofar ++ here.others) ≡ first_over sofar here.others
            passed_here = ap (λ (x : List Clause). first_over [] x) (sym (all_said inv.cut even h)) ∙ first_here ∙ rw f

            names-upto : (t : Bool) → length (names_of t sofar) ≡ length (names_of t inv.cut.before) + length (names_of t (here.this ∷ []))
            names-upto t = ap (λ (x : List Name). length x) (names_append t inv.cut.before (here.this ∷ [])) ∙ length-append (names_of t inv.cut.before) (names_of t (here.this ∷ []))

            onward : {s a : ℕ} → s ≡ length (names_of false sofar) → a ≡ length (names_of true sofar) → Searching text marks places s a end
            unfolding cut_next
            onward s a = record { cut = cut_next inv.cut even h e; so_far = passed_here; stated_are = s; asked_are = a }

            pub search_asked : q ≡ true → Searching text marks places stated (asked + 1) end
            search_asked t =
                let o = one_asked here.this (sym question_is ∙ t) in
                onward (omega (arith, inv.stated_are, names-upto false, o.1)) (omega (arith, inv.asked_are, names-upto true, o.0))

            pub search_stated : q ≡ false → Searching text marks places (stated + 1) asked end
            search_stated t =
                let o = one_stated here.this (sym question_is ∙ t) in
                onward (omega (arith, inv.stated_are, names-upto false, o.1)) (omega (arith, inv.asked_are, names-upto true, o.0))

pub ruleset search_laws =
    (search_begin, search_end, count_fits, count_fits_more, asked_fits, stated_fits, clause_later, clause_inside, clause_falls, search_found, search_asked, search_stated)

-- the items of a text, gathered in memory
pub gathered_short : {text marks places : List ℕ} {count : ℕ} → Gathered text marks places count → length (take (count - 0) (drop 0 marks)) ≤ 65536
gathered_short {marks = marks} {count = count} g = omega (arith, length-take (count - 0) (drop 0 marks), g.few)
