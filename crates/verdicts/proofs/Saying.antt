-- What is said of a proof, put together of parts: one law for each outcome, with premises as the code has them.
use mathlib.Core.Bool.{Bool, true, false}
use mathlib.Core.List.{List, ◌++◌}
use mathlib.Core.Path.{◌≡◌, refl, ◌∙◌}
use mathlib.Core.Logic.{◌⊎◌, inl, inr}
use Prim.Native.Nat.{ℕ, zero, suc, ◌+◌, ◌≤◌, ◌<◌}
use native.Mathlib.Numerals.{add-one}
use borrow.Author.Tests.{eq-eqb, ne_eqb, lt-ltb, le-ltb}
use lib.ListN.{length, take, drop, get_or}
use Rattle.words.specs.Steps.{step_of}
use Rattle.words.specs.declared.Step.{Step}
use Rattle.words.specs.declared.Step.TheVariants.{Reduction, Extension, Restart, Malformed}
use Rattle.text.specs.Put.{Put}
use Rattle.text.specs.Quoted.{bytes}
use Rattle.text.specs.Digits.{decimal_text}
use Rattle.text.proofs.Putting.{then as joined}
use Rattle.assistant.specs.declared.place.Position.{Position}
use Rattle.assistant.specs.Place.{position_of, figure_text, excerpt_text}
use Rattle.written_proofs.specs.Steps.{names_of, steps_text}
use Rattle.written_proofs.specs.declared.read.Awaited.{Awaited}
use Rattle.written_proofs.specs.declared.read.Awaited.TheVariants.{Step as step, Height, Clause, Literal}
use Rattle.leaves.specs.Leaves.{leftmost, ancestor, leaf_of}
use Rattle.leaves.specs.Shown.{Source, sizes_in, question_in, literal_word_in, literal_shown, name_cut}
use Rattle.leaves.specs.Bound.{copy_number, told_text}
use Rattle.verdicts.specs.Verdicts.{cost_text, accepted_text, too_long_text, hung_text, clause_shown, of_text, there_text, leaf_text, entered_leaf, partner, partner_label, fault_text, fitting, pair_text, against_text, why_text, reason_text, pair_shown, step_shown, head_text, wrong_step, open_text, refused_with, refused_text}
use Rattle.verdicts.specs.Unreadable.{awaited_text, head_text as whereText, unreadable_text}
use Rattle.leaves.specs.declared.leaf.Leaf.{Leaf}
use Rattle.std.specs.Prelude.{Option, Some, None}
use Rattle.leaves.proofs.Showing.{no_bytes, sized_whole}

module _ {o₀ o₁ : List ℕ} {n₀ n₁ : ℕ} where
  pub hung_start : {number : ℕ} → number ≡ 0 → Put o₀ n₀ (bytes ", hung at the start\n") o₁ n₁ → Put o₀ n₀ (hung_text number) o₁ n₁
  unfolding hung_text
  hung_start e p = rw e p

  -- what is wrong with a step
  module _ {status : ℕ} where
    pub fault_12 : status ≡ 12 → Put o₀ n₀ (bytes " is no step\n") o₁ n₁ → Put o₀ n₀ (fault_text status) o₁ n₁
    unfolding fault_text
    fault_12 a p = rw (eq-eqb status 12 a) p

    module _ (a : status ≡ 12 → ⊥) where
      pub fault_14 : status ≡ 14
          → Put o₀ n₀ (bytes " is a clash: under what is bound so far the two literals have different symbols in one place\n") o₁ n₁ → Put o₀ n₀ (fault_text status) o₁ n₁
      unfolding fault_text
      fault_14 b p = rw (ne_eqb status 12 a, eq-eqb status 14 b) p

      module _ (b : status ≡ 14 → ⊥) where
        pub fault_20 : status ≡ 20
            → Put o₀ n₀ (bytes " is a circle: under what is bound so far a variable would stand for a term that holds it\n") o₁ n₁ → Put o₀ n₀ (fault_text status) o₁ n₁
        unfolding fault_text
        fault_20 c p = rw (ne_eqb status 12 a, ne_eqb status 14 b, eq-eqb status 20 c) p

        pub fault_13 : (status ≡ 20 → ⊥) → Put o₀ n₀ (bytes " is not possible\n") o₁ n₁ → Put o₀ n₀ (fault_text status) o₁ n₁
        unfolding fault_text
        fault_13 c p = rw (ne_eqb status 12 a, ne_eqb status 14 b, ne_eqb status 20 c) p

    pub reason_13 : (file : List ℕ) (limit : ℕ) (leaf to : Option Leaf) → status ≡ 13 → Put o₀ n₀ (why_text file limit leaf to) o₁ n₁ → Put o₀ n₀ (reason_text status file limit leaf to) o₁ n₁
    unfolding reason_text
    reason_13 file limit leaf to a p = rw (eq-eqb status 13 a) p

  pub pair_apart : (limit : ℕ) {b : Bool} → b ≡ false
      → Put o₀ n₀ (bytes "The two literals do not fit: a pair has opposite signs, the same predicate and as many arguments.\n") o₁ n₁ → Put o₀ n₀ (pair_text limit b) o₁ n₁
  unfolding pair_text
  pair_apart limit e p = rw e p

  module _ (file : List ℕ) (limit clause literal : ℕ) {to : Option Leaf} where
    pub against_none : to ≡ None → Put o₀ n₀ (bytes "There is no such clause, literal or ancestor.\n") o₁ n₁ → Put o₀ n₀ (against_text file limit clause literal to) o₁ n₁
    unfolding against_text
    against_none e p = rw e p

    pub against_open : {l : Leaf} → to ≡ Some l → {v : ℕ} → v ≡ literal_word_in file clause literal → {w : ℕ} → w ≡ literal_word_in file l.clause l.literal
        → {b : Bool} → b ≡ fitting v w → Put o₀ n₀ (pair_text limit b) o₁ n₁ → Put o₀ n₀ (against_text file limit clause literal to) o₁ n₁
    unfolding against_text
    against_open e ev ew eb p = rw (e, ← ev, ← ew, ← eb) p

  module _ (file : List ℕ) (limit : ℕ) {leaf : Option Leaf} (to : Option Leaf) where
    pub why_open : {l : Leaf} → leaf ≡ Some l → Put o₀ n₀ (against_text file limit l.clause l.literal to) o₁ n₁ → Put o₀ n₀ (why_text file limit leaf to) o₁ n₁
    unfolding why_text
    why_open e p = rw e p

    pub why_none : leaf ≡ None → Put o₀ n₀ (bytes "All leaves are closed already.\n") o₁ n₁ → Put o₀ n₀ (why_text file limit leaf to) o₁ n₁
    unfolding why_text
    why_none e p = rw e p

  pub there_is : (S : Source) (steps : List ℕ) (number clause literal : ℕ) {copy : ℕ} → copy ≡ copy_number steps number
      → Put o₀ n₀ (told_text S (bytes "  there: ") (bytes "\n") copy clause literal) o₁ n₁ → Put o₀ n₀ (there_text S steps number clause literal) o₁ n₁
  unfolding there_text
  there_is S steps number clause literal e p = rw (← e) p

  -- the label of what a step closes its leaf against
  module _ (S : Source) (steps : List ℕ) (w : ℕ) (leaf : Option Leaf) {s : Step} (e : s ≡ step_of w) where
    pub label_reduction : {h : ℕ} → s ≡ Reduction h → Put o₀ n₀ (leaf_text S steps (bytes "ancestor: ") leaf) o₁ n₁ → Put o₀ n₀ (leaf_text S steps (partner_label (step_of w)) leaf) o₁ n₁
    unfolding partner_label
    label_reduction k p = rw (← e, k) p

    pub label_extension : {i j : ℕ} → s ≡ Extension i j → Put o₀ n₀ (leaf_text S steps (bytes "clause: ") leaf) o₁ n₁ → Put o₀ n₀ (leaf_text S steps (partner_label (step_of w)) leaf) o₁ n₁
    unfolding partner_label
    label_extension k p = rw (← e, k) p

    pub label_other : (s ≡ Restart) ⊎ (s ≡ Malformed) → Put o₀ n₀ (leaf_text S steps (bytes "literal: ") leaf) o₁ n₁ → Put o₀ n₀ (leaf_text S steps (partner_label (step_of w)) leaf) o₁ n₁
    unfolding partner_label
    label_other (inl k) p = rw (← e, k) p
    label_other (inr k) p = rw (← e, k) p

  -- what was awaited
  module _ {a : Awaited} where
    pub awaited_step : a ≡ step
        → Put o₀ n₀ (bytes "expected `reduce` and a height, `extend` with a clause and a literal, or a step's word in hexadecimal digits\n") o₁ n₁ → Put o₀ n₀ (awaited_text a) o₁ n₁
    unfolding awaited_text
    awaited_step e p = rw e p

    pub awaited_height : a ≡ Height → Put o₀ n₀ (bytes "expected a height, 1 to 63\n") o₁ n₁ → Put o₀ n₀ (awaited_text a) o₁ n₁
    unfolding awaited_text
    awaited_height e p = rw e p

    pub awaited_clause : a ≡ Clause → Put o₀ n₀ (bytes "expected a clause: a name that one clause alone has, or a number\n") o₁ n₁ → Put o₀ n₀ (awaited_text a) o₁ n₁
    unfolding awaited_text
    awaited_clause e p = rw e p

    pub awaited_literal : {i : ℕ} → a ≡ Literal i → Put o₀ n₀ (bytes "expected the number of a literal, 0 to 7\n") o₁ n₁ → Put o₀ n₀ (awaited_text a) o₁ n₁
    unfolding awaited_text
    awaited_literal e p = rw e p

  module _ (S : Source) (steps : List ℕ) (limit status done : ℕ) where
    pub refused_is : {first sizes : List ℕ} {r : ℕ} → length first ≡ 512 → Put first 0 (sizes_in S.file) sizes r
        → Put o₀ n₀ (refused_with S sizes (question_in S.file) steps limit status done) o₁ n₁ → Put o₀ n₀ (refused_text S steps limit status done) o₁ n₁
    unfolding refused_text
    refused_is h s p = rw (sized_whole S.file h s) at p

    module _ (sizes : List ℕ) {question : ℕ} (eq : question ≡ question_in S.file) where
      pub refused_open : status ≡ 15 → {leaf : Option Leaf} → leaf ≡ leftmost sizes question steps done → Put o₀ n₀ (open_text S steps leaf done) o₁ n₁
          → Put o₀ n₀ (refused_with S sizes (question_in S.file) steps limit status done) o₁ n₁
      unfolding refused_with
      refused_open e el p = rw (← eq, eq-eqb status 15 e, ← el) p

      pub refused_step : (status ≡ 15 → ⊥) → {leaf : Option Leaf} → leaf ≡ leftmost sizes question steps done → {w : ℕ} → w ≡ get_or steps done 0
          → {to : Option Leaf} → to ≡ partner sizes question steps done (step_of w) → Put o₀ n₀ (wrong_step S steps limit status done (step_of w) leaf to) o₁ n₁
          → Put o₀ n₀ (refused_with S sizes (question_in S.file) steps limit status done) o₁ n₁
      unfolding refused_with
      refused_step e el ew et p = rw (← eq, ne_eqb status 15 e, ← ew, ← el, ← et) p

  module _ {o₂ : List ℕ} {n₂ : ℕ} where
    pub cost_is : (steps : ℕ) → Put o₀ n₀ (bytes " (steps " ++ decimal_text steps) o₁ n₁ → Put o₁ n₁ (bytes ")\n") o₂ n₂ → Put o₀ n₀ (cost_text steps) o₂ n₂
    unfolding cost_text
    cost_is steps p q = joined p q

    pub definite_is : {disjuncts : ℕ} (steps : ℕ) → disjuncts ≡ 1 → Put o₀ n₀ (bytes "Accepted: a definite answer") o₁ n₁ → Put o₁ n₁ (cost_text steps) o₂ n₂
        → Put o₀ n₀ (accepted_text disjuncts steps) o₂ n₂
    unfolding accepted_text
    definite_is {disjuncts = disjuncts} steps e p q = rw (eq-eqb disjuncts 1 e) (joined p q)

    pub too_long_is : (steps : ℕ) → Put o₀ n₀ (bytes "Accepted: an answer too long to be shown, over 4096 words") o₁ n₁ → Put o₁ n₁ (cost_text steps) o₂ n₂
        → Put o₀ n₀ (too_long_text steps) o₂ n₂
    unfolding too_long_text
    too_long_is steps p q = joined p q

    pub hung_step : (number : ℕ) → (number ≡ 0 → ⊥) → Put o₀ n₀ (bytes ", hung by step " ++ decimal_text number) o₁ n₁ → Put o₁ n₁ (bytes "\n") o₂ n₂
        → Put o₀ n₀ (hung_text number) o₂ n₂
    unfolding hung_text
    hung_step zero n p q = absurd (n refl)
    hung_step (suc number) n p q = joined p q

    pub leaf_none : (S : Source) (steps label : List ℕ) {leaf : Option Leaf} → leaf ≡ None → Put o₀ n₀ label o₁ n₁ → Put o₁ n₁ (bytes "there is none\n") o₂ n₂
        → Put o₀ n₀ (leaf_text S steps label leaf) o₂ n₂
    unfolding leaf_text
    leaf_none S steps label e p q = rw e (joined p q)

    pub pair_fits : (limit : ℕ) {b : Bool} → b ≡ true → Put o₀ n₀ (bytes "The limit is reached: " ++ decimal_text limit) o₁ n₁ → Put o₁ n₁ (bytes " clauses may be used.\n") o₂ n₂
        → Put o₀ n₀ (pair_text limit b) o₂ n₂
    unfolding pair_text
    pair_fits limit e p q = rw e (joined p q)

    module _ {o₃ : List ℕ} {n₃ : ℕ} where
      pub open_is : {disjuncts : ℕ} (steps : ℕ) → (disjuncts ≡ 1 → ⊥) → Put o₀ n₀ (bytes "Accepted: an answer with " ++ decimal_text disjuncts) o₁ n₁
          → Put o₁ n₁ (bytes " alternatives, not definite") o₂ n₂ → Put o₂ n₂ (cost_text steps) o₃ n₃ → Put o₀ n₀ (accepted_text disjuncts steps) o₃ n₃
      unfolding accepted_text
      open_is {disjuncts} steps e p q r = rw (ne_eqb disjuncts 1 e) (joined p (joined q r))

      pub clause_shown_is : (S : Source) (clause : ℕ) → Put o₀ n₀ (name_cut S.text S.index clause) o₁ n₁ → Put o₁ n₁ (bytes " (clause " ++ decimal_text clause) o₂ n₂
          → Put o₂ n₂ (bytes ")") o₃ n₃ → Put o₀ n₀ (clause_shown S clause) o₃ n₃
      unfolding clause_shown
      clause_shown_is S clause p q r = joined p (joined q r)

      pub open_text_is : (S : Source) (steps : List ℕ) (leaf : Option Leaf) (done : ℕ) → Put o₀ n₀ (bytes "Not accepted: leaves are open after the last step, " ++ decimal_text done) o₁ n₁
          → Put o₁ n₁ (bytes "; the leftmost:\n") o₂ n₂ → Put o₂ n₂ (leaf_text S steps (bytes "leaf: ") leaf) o₃ n₃ → Put o₀ n₀ (open_text S steps leaf done) o₃ n₃
      unfolding open_text
      open_text_is S steps leaf done p q r = joined p (joined q r)

      pub unreadable_is : (name said : List ℕ) (place : ℕ) (a : Awaited) {before : List ℕ} → before ≡ take place said → {rest : List ℕ} → rest ≡ drop place said
          → {p : Position} → p ≡ position_of before → Put o₀ n₀ (whereText name p) o₁ n₁ → Put o₁ n₁ (excerpt_text before rest p.column) o₂ n₂ → Put o₂ n₂ (awaited_text a) o₃ n₃
          → Put o₀ n₀ (unreadable_text name said place a) o₃ n₃
      unfolding unreadable_text
      unreadable_is name said place a eb er ep x y z = joined (rw (ep, eb) at x) (joined (rw (ep, er, eb) at y) z)

      module _ {o₄ : List ℕ} {n₄ : ℕ} where
        pub where_is : (name : List ℕ) (p : Position) → Put o₀ n₀ name o₁ n₁ → Put o₁ n₁ (bytes ":" ++ figure_text p.line) o₂ n₂
            → Put o₂ n₂ (bytes ":" ++ figure_text p.column) o₃ n₃ → Put o₃ n₃ (bytes ": the proof goes wrong here\n") o₄ n₄ → Put o₀ n₀ (whereText name p) o₄ n₄
        unfolding whereText
        where_is name p a b c d = joined a (joined b (joined c d))

        pub of_is : (S : Source) (number clause literal : ℕ) → Put o₀ n₀ (bytes ", literal " ++ decimal_text literal) o₁ n₁ → Put o₁ n₁ (bytes " of ") o₂ n₂
            → Put o₂ n₂ (clause_shown S clause) o₃ n₃ → Put o₃ n₃ (hung_text number) o₄ n₄ → Put o₀ n₀ (of_text S number clause literal) o₄ n₄
        unfolding of_text
        of_is S number clause literal p q r s = joined p (joined q (joined r s))

      pub head_is : (text index steps : List ℕ) (status done : ℕ) → Put o₀ n₀ (bytes "Not accepted: step " ++ decimal_text (done + 1)) o₁ n₁
          → Put o₁ n₁ (fault_text status) o₂ n₂ → Put o₂ n₂ (step_shown text index steps done) o₃ n₃ → Put o₀ n₀ (head_text text index steps status done) o₃ n₃
      unfolding head_text
      head_is text index steps status done p q r = joined p (joined q r)

      pub wrong_step_is : (S : Source) (steps : List ℕ) (limit status done : ℕ) (s : Step) (leaf to : Option Leaf) → Put o₀ n₀ (head_text S.text S.index steps status done) o₁ n₁
          → Put o₁ n₁ (pair_shown S steps s leaf to) o₂ n₂ → Put o₂ n₂ (reason_text status S.file limit leaf to) o₃ n₃ → Put o₀ n₀ (wrong_step S steps limit status done s leaf to) o₃ n₃
      unfolding wrong_step
      wrong_step_is S steps limit status done s leaf to p q r = joined p (joined q r)

      module _ {o₄ : List ℕ} {n₄ : ℕ} where
        pub leaf_open : (S : Source) (steps label : List ℕ) {leaf : Option Leaf} {l : Leaf} → leaf ≡ Some l → Put o₀ n₀ label o₁ n₁
            → Put o₁ n₁ (literal_shown S.text S.index S.file l.clause l.literal) o₂ n₂ → Put o₂ n₂ (of_text S l.number l.clause l.literal) o₃ n₃
            → Put o₃ n₃ (there_text S steps l.number l.clause l.literal) o₄ n₄ → Put o₀ n₀ (leaf_text S steps label leaf) o₄ n₄
        unfolding leaf_text
        leaf_open S steps label e p q r s = rw e (joined p (joined q (joined r s)))

    pub step_shown_is : (text index steps : List ℕ) (done : ℕ) {k : ℕ} → k ≡ done → {rest : List ℕ} → rest ≡ drop k steps → {own : List ℕ} → own ≡ take 1 rest
        → {places : List ℕ} → places ≡ drop 8192 index → Put o₀ n₀ (bytes "  ") o₁ n₁ → Put o₁ n₁ (steps_text (names_of text (take 512 places)) own) o₂ n₂
        → Put o₀ n₀ (step_shown text index steps done) o₂ n₂
    unfolding step_shown
    step_shown_is text index steps done ek er eo ep p q = joined p (rw (eo, er, ek, ep) at q)

    pub pair_lines_is : (S : Source) (steps : List ℕ) (s : Step) (leaf to : Option Leaf) → Put o₀ n₀ (leaf_text S steps (bytes "leaf: ") leaf) o₁ n₁ → Put o₁ n₁ (leaf_text S steps (partner_label s) to) o₂ n₂
        → Put o₀ n₀ (pair_shown S steps s leaf to) o₂ n₂
    unfolding pair_shown
    pair_lines_is S steps s leaf to p q = joined p q

pub reason_none : (out : List ℕ) (at : ℕ) {status : ℕ} (file : List ℕ) (limit : ℕ) (leaf to : Option Leaf) → (status ≡ 13 → ⊥) → Put out at (reason_text status file limit leaf to) out at
unfolding reason_text
reason_none out at {status} file limit leaf to e = rw (ne_eqb status 13 e) (no_bytes out at)

-- what a step closes its leaf against
module _ (sizes : List ℕ) (number clause literal : ℕ) {size : ℕ} (e : size ≡ get_or sizes clause 0) where
  pub entered_open : literal < size → leaf_of number clause literal ≡ entered_leaf sizes number clause literal
  unfolding entered_leaf
  entered_open h = rw (← e, lt-ltb literal size h)

  pub entered_none : size ≤ literal → None ≡ entered_leaf sizes number clause literal
  unfolding entered_leaf
  entered_none h = rw (← e, le-ltb literal size h)

module _ (sizes : List ℕ) (question : ℕ) (steps : List ℕ) (done w : ℕ) {s : Step} (e : s ≡ step_of w) {r : Option Leaf} where
  pub partner_reduction : {height : ℕ} → s ≡ Reduction height → {leaf : Option Leaf} → leaf ≡ leftmost sizes question steps done → r ≡ ancestor sizes question steps height leaf
      → r ≡ partner sizes question steps done (step_of w)
  unfolding partner
  partner_reduction k el er = er ∙ rw (← e, k, ← el)

  pub partner_extension : {i j : ℕ} → s ≡ Extension i j → r ≡ entered_leaf sizes (done + 1) i j → r ≡ partner sizes question steps done (step_of w)
  unfolding partner
  partner_extension k er = er ∙ rw (← e, k, add-one)

pub ruleset hung_text_laws = (hung_start, hung_step)

pub ruleset fault_laws = (fault_12, fault_14, fault_20, fault_13)

pub ruleset reason_laws = (reason_13, reason_none)

pub ruleset pair_laws = (pair_apart, pair_fits)

pub ruleset against_laws = (against_none, against_open)

pub ruleset why_laws = (why_open, why_none)

pub ruleset awaited_laws = (awaited_step, awaited_height, awaited_clause, awaited_literal)

pub ruleset accepted_laws = (definite_is, open_is)

pub ruleset entered_laws = (entered_open, entered_none)

pub ruleset partner_laws = (partner_reduction, partner_extension)
