-- Signs, and the sorts of names, with premises as the code has them.
use mathlib.Core.Bool.{Bool, true, false}
use mathlib.Core.List.{List, [], ◌∷◌}
use mathlib.Core.Path.{◌≡◌, refl, ◌∙◌}
use Prim.Native.Nat.{ℕ, zero, suc, ◌+◌, ◌-◌, ◌≤◌, ◌<◌}
use native.Mathlib.Numerals.{add-one}
use native.Mathlib.Omega.{arith}
use borrow.Author.Tests.{eq-eqb, ne_eqb, le-leb, lt-leb}
use lib.Dec.{leb}
use lib.ListN.{length, get_or, set, length-set}
use lib.Seq.{get_or-set_same, get_or-set_other}
use Rattle.clausetext.specs.declared.kind.Mark.{Mark}
use Rattle.clausetext.specs.declared.kind.Mark.TheVariants.{Open, Close, Comma, Bar, Tilde, Dot}
use Rattle.clausetext.specs.Kinds.{kind_of, sign_kind, letter_kind}
use Rattle.names.proofs.Same.{no_name, name_over, name_on}
use Rattle.names.specs.Noting.{name_byte, name_at}
use Rattle.tptp.specs.declared.sketch.Progress.{Progress}
use Rattle.tptp.specs.Sketch.{name_sort, role_sort, outer, on_mark}
use Rattle.tptp.specs.Memory.{inner_of, mark_met, NameSort, Signed, Deepening}

-- what stands below the place of a store is as it was
pub inner_kept : (inner : List ℕ) (depth at x : ℕ) → depth ≤ at → inner_of (set inner at x) depth ≡ inner_of inner depth
unfolding inner_of
inner_kept inner zero at x h = refl
inner_kept inner (suc depth) at x h = rw (get_or-set_other inner at depth x 0 (λ e. omega arith), inner_kept inner depth at x (omega arith))

pub inner_pushed : (inner : List ℕ) (depth x : ℕ) → depth < length inner → inner_of (set inner depth x) (depth + 1) ≡ x ∷ inner_of inner depth
unfolding inner_of
inner_pushed inner depth x h = rw (add-one depth, get_or-set_same inner depth x 0 h, inner_kept inner depth depth x (omega arith))

inner_outer : (inner : List ℕ) (depth : ℕ) → 1 < depth → outer (inner_of inner depth) ≡ inner_of inner (depth - 1)
unfolding inner_of
inner_outer inner zero h = absurd (omega arith)
inner_outer inner (suc zero) h = absurd (omega arith)
inner_outer inner (suc (suc depth)) h = let z : suc (suc depth) - 1 ≡ suc depth = omega arith in rw z

inner_lone : (inner : List ℕ) (depth : ℕ) → depth ≤ 1 → outer (inner_of inner depth) ≡ inner_of inner depth
unfolding inner_of
inner_lone inner zero h = refl
inner_lone inner (suc zero) h = refl
inner_lone inner (suc (suc depth)) h = absurd (omega arith)

-- the sort of a name
name_within : (inner : List ℕ) (depth : ℕ) (negative : Bool) → 1 < depth → 1 ≡ name_sort (inner_of inner depth) negative
unfolding inner_of
name_within inner zero negative h = absurd (omega arith)
name_within inner (suc zero) negative h = absurd (omega arith)
name_within inner (suc (suc depth)) negative h = refl

name_outside : (inner : List ℕ) (depth : ℕ) (negative : Bool) → depth ≤ 1 → name_sort [] negative ≡ name_sort (inner_of inner depth) negative
unfolding inner_of
name_outside inner zero negative h = refl
name_outside inner (suc zero) negative h = refl
name_outside inner (suc (suc depth)) negative h = absurd (omega arith)

module _ {depth : ℕ} {negative : Bool} where
  pub function_sort : 1 < depth → NameSort depth negative 1
  function_sort h = record { below = omega arith; is = λ inner. name_within inner depth negative h }

  pub negative_sort : depth ≤ 1 → negative ≡ true → NameSort depth negative 2
  negative_sort h e = record { below = omega arith; is = λ inner. rw (← name_outside inner depth negative h, e) }

  pub positive_sort : depth ≤ 1 → negative ≡ false → NameSort depth negative 3
  positive_sort h e = record { below = omega arith; is = λ inner. rw (← name_outside inner depth negative h, e) }

pub ruleset sort_laws = (function_sort, negative_sort, positive_sort)

-- the sort of a clause by its role
role_other : (text : List ℕ) (start : ℕ) → start < length text → (get_or text start 0 ≡ 110 → ⊥) → (on : Bool) → name_byte (get_or text start 0) ≡ on
    → 4 ≡ role_sort (name_at text start)
role_other text start h d true e = rw (name_on text start h e, ne_eqb (get_or text start 0) 110 d)
role_other text start h d false e = rw (name_over text start h e)

module _ (text : List ℕ) (start : ℕ) where
  pub role_none : length text ≤ start → 4 ≡ role_sort (name_at text start)
  role_none h = rw (no_name text start h)

  pub role_asks : start < length text → get_or text start 0 ≡ 110 → 5 ≡ role_sort (name_at text start)
  unfolding kind_of sign_kind letter_kind
  role_asks h e = rw (name_on text start h (rw e), e)

  pub role_states : start < length text → (get_or text start 0 ≡ 110 → ⊥) → 4 ≡ role_sort (name_at text start)
  role_states h d = role_other text start h d (name_byte (get_or text start 0)) refl

pub ruleset role_laws = (role_none, role_asks, role_states)

-- signs
module _ (inner : List ℕ) (p : Progress) (f : 6 ≤ p.stage) where
  formula : leb 6 p.stage ≡ true
  formula = le-leb 6 p.stage f

  module _ (d : Deepening inner p) where
    pub entered_first : p.stage ≡ 6 → Signed (mark_met Open) inner p inner (record { count = p.count; depth = p.depth; stage = 7; negative = p.negative })
    unfolding on_mark
    entered_first e = record { long = d.long; count = refl; deep = omega arith; same = λ items l. rw (formula, eq-eqb p.stage 6 e) }

    pub entered_list : {last : ℕ} → last ≡ p.count - 1 → (p.stage ≡ 6 → ⊥)
        → Signed (mark_met Open) inner p (set inner p.depth last) (record { count = p.count; depth = p.depth + 1; stage = 7; negative = p.negative })
    unfolding on_mark
    entered_list {last} l e = record {
      long = length-set inner p.depth last ∙ d.long;
      count = refl;
      deep = omega arith;
      same = λ items n. rw (formula, ne_eqb p.stage 6 e, inner_pushed inner p.depth last (omega (arith, d.long, d.deep)), l, n);
    }

  module _ (g : length inner ≡ 65536) where
    left-none : p.depth ≤ 1 → Signed (mark_met Close) inner p inner (record { count = p.count; depth = p.depth; stage = 7; negative = p.negative })
    unfolding on_mark
    left-none h = record { long = g; count = refl; deep = omega arith; same = λ items n. rw (formula, inner_lone inner p.depth h) }

    left-list : 1 < p.depth → Signed (mark_met Close) inner p inner (record { count = p.count; depth = p.depth - 1; stage = 7; negative = p.negative })
    unfolding on_mark
    left-list h = record { long = g; count = refl; deep = omega arith; same = λ items n. rw (formula, inner_outer inner p.depth h) }

    pub comma_met : {m : Mark} → m ≡ Comma → Signed (mark_met m) inner p inner p
    unfolding on_mark
    comma_met e = rw e (record { long = g; count = refl; deep = omega arith; same = λ items n. rw formula })

    pub bar_met : {m : Mark} → m ≡ Bar → Signed (mark_met m) inner p inner p
    unfolding on_mark
    bar_met e = rw e (record { long = g; count = refl; deep = omega arith; same = λ items n. rw formula })

    pub tilde_met : {m : Mark} → m ≡ Tilde → Signed (mark_met m) inner p inner (record { count = p.count; depth = p.depth; stage = 7; negative = true })
    unfolding on_mark
    tilde_met e = rw e (record { long = g; count = refl; deep = omega arith; same = λ items n. rw formula })

    pub dot_met : {m : Mark} → m ≡ Dot → Signed (mark_met m) inner p inner (record { count = p.count; depth = 0; stage = 0; negative = false })
    unfolding on_mark inner_of
    dot_met e = rw e (record { long = g; count = refl; deep = omega arith; same = λ items n. rw formula })

module _ (p : Progress) (f : 6 ≤ p.stage) where
  pub close_outside : p.depth ≤ 1 → (inner : List ℕ) → length inner ≡ 65536 → Signed (mark_met Close) inner p inner (record { count = p.count; depth = p.depth; stage = 7; negative = p.negative })
  close_outside h inner g = left-none inner p f g h

  pub close_list : 1 < p.depth → (inner : List ℕ) → length inner ≡ 65536 → Signed (mark_met Close) inner p inner (record { count = p.count; depth = p.depth - 1; stage = 7; negative = p.negative })
  close_list h inner g = left-list inner p f g h

pub open_met : {inner inner' : List ℕ} {p r : Progress} {m : Mark} → m ≡ Open → Signed (mark_met Open) inner p inner' r → Signed (mark_met m) inner p inner' r
open_met e s = rw e s

pub close_met : (inner : List ℕ) {p r : Progress} {m : Mark} → m ≡ Close → length inner ≡ 65536
    → ((inner : List ℕ) → length inner ≡ 65536 → Signed (mark_met Close) inner p inner r) → Signed (mark_met m) inner p inner r
close_met inner e g s = rw e (s inner g)

pub header_sign : (inner : List ℕ) (p : Progress) (m : Mark) → p.stage < 6 → length inner ≡ 65536 → {r : Progress}
    → r ≡ record { count = p.count; depth = p.depth; stage = p.stage + 1; negative = p.negative } → Signed (mark_met m) inner p inner r
unfolding on_mark
header_sign inner p m h g e = rw e (record { long = g; count = refl; deep = omega arith; same = λ items n. rw (lt-leb 6 p.stage h) })

pub ruleset enter_laws = (entered_first, entered_list)

pub ruleset leave_laws = (close_outside, close_list)

pub ruleset sign_laws = (open_met, close_met, comma_met, bar_met, tilde_met, dot_met, header_sign)
