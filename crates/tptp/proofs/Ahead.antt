-- The next mark of a sort, with premises as the code has them, and among items.
use mathlib.Core.Bool.{Bool, true, false, cond}
use mathlib.Core.List.{List, [], ◌∷◌, ◌++◌}
use mathlib.Core.Path.{◌≡◌, refl, sym, ap, ◌∙◌}
use Prim.Native.Nat.{ℕ, zero, suc, ◌+◌, ◌%◌, max, ◌≤◌, ◌<◌}
use native.Mathlib.Numerals.{add-one}
use native.Mathlib.Omega.{arith}
use borrow.Author.Tests.{le-leb, lt-leb, leb-false}
use lib.Dec.{leb}
use lib.ListN.{length, drop, get_or, length-drop, drop_of_length-le}
use lib.Seq.{drop-cons}
use Rattle.table.specs.Limits.{Each}
use Rattle.tptp.specs.Sketch.{Item}
use Rattle.tptp.specs.Memory.{items_of}
use Rattle.tptp.specs.Body.{ahead}

pub ahead_within : (sort : ℕ) (ms : List ℕ) → ahead sort ms ≤ length ms
unfolding ahead
ahead_within sort [] = omega arith
ahead_within sort (m ∷ ms) = go (leb sort (m % 8)) (ahead_within sort ms)
  where
    go : (t : Bool) → ahead sort ms ≤ length ms → cond t zero (suc (ahead sort ms)) ≤ suc (length ms)
    go true h = omega arith
    go false h = omega arith

pub record Seeking (marks : List ℕ) (from sort at : ℕ) : Type 0 where
  pub left : from + ahead sort (drop from marks) ≡ at + ahead sort (drop at marks)

module _ {marks : List ℕ} {from sort : ℕ} where
  pub begin_seek : Seeking marks from sort from
  begin_seek = record { left = refl }

  module _ {at : ℕ} (inv : Seeking marks from sort at) where
    pub seek_over : length marks ≤ at → at ≡ from + ahead sort (drop from marks)
    unfolding ahead
    seek_over h = sym (inv.left ∙ rw (drop_of_length-le marks h) (omega arith))

    pub seek_end : length marks ≤ at → max from (length marks) ≡ from + ahead sort (drop from marks)
    seek_end h = omega (arith, seek_over h, ahead_within sort (drop from marks), length-drop from marks)

    module _ (h : at < length marks) where
      pub seek_found : sort ≤ get_or marks at 0 % 8 → at ≡ from + ahead sort (drop from marks)
      unfolding ahead
      seek_found e = sym (inv.left ∙ rw (drop-cons marks at 0 h, le-leb sort (get_or marks at 0 % 8) e) (omega arith))

      pub seek_on : get_or marks at 0 % 8 < sort → Seeking marks from sort (at + 1)
      unfolding ahead
      seek_on e = record { left = inv.left ∙ rw (add-one at, drop-cons marks at 0 h, lt-leb sort (get_or marks at 0 % 8) e) (omega arith) }

pub ruleset seek_laws = (begin_seek, seek_over, seek_found, seek_on)

-- among items
unfoldable pub item_ahead : ℕ → List Item → ℕ
item_ahead sort [] = zero
item_ahead sort (i ∷ is) = cond (leb sort i.sort) zero (suc (item_ahead sort is))

pub ahead_items : (text : List ℕ) (sort : ℕ) (ms ps : List ℕ) → length ms ≡ length ps → ahead sort ms ≡ item_ahead sort (items_of text ms ps)
unfolding ahead item_ahead items_of
ahead_items text sort [] ps h = refl
ahead_items text sort (m ∷ ms) [] h = absurd (omega arith)
ahead_items text sort (m ∷ ms) (p ∷ ps) h = rw (ahead_items text sort ms ps (omega arith))

abbrev pub Before : ℕ → Item → Type 0
Before sort i = i.sort < sort

pub ahead_past : (sort : ℕ) (is more : List Item) → Each (Before sort) is → item_ahead sort (is ++ more) ≡ length is + item_ahead sort more
unfolding item_ahead Each
ahead_past sort [] more e = omega arith
ahead_past sort (i ∷ is) more e = rw (lt-leb sort i.sort e.0) (ap suc (ahead_past sort is more e.1) ∙ omega arith)

-- where all are passed, all are of an earlier sort
pub ahead_all : (sort : ℕ) (is more : List Item) → length is ≤ item_ahead sort (is ++ more) → Each (Before sort) is
unfolding item_ahead Each
ahead_all sort [] more h = tt
ahead_all sort (i ∷ is) more h = go (leb sort i.sort) refl h (ahead_all sort is more)
  where
    go : (t : Bool) → leb sort i.sort ≡ t → suc (length is) ≤ cond t zero (suc (item_ahead sort (is ++ more)))
        → (length is ≤ item_ahead sort (is ++ more) → Each (Before sort) is) → Before sort i × Each (Before sort) is
    go true e g ih = absurd (omega arith)
    go false e g ih = (leb-false sort i.sort e, ih (omega arith))
