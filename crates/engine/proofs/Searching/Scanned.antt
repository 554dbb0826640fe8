-- What a scan for the next literal with a word passes, and what the scans of a search cost.
use mathlib.Core.Bool.{Bool, true, false, not}
use mathlib.Core.Path.{◌≡◌, sym, ◌∙◌}
use mathlib.Core.List.{List}
use Prim.Native.Nat.{ℕ, ◌+◌, ◌-◌, ◌≤◌, ◌<◌}
use native.Mathlib.Omega.{arith}
use borrow.Author.Tests.{eq-eqb, ne_eqb, lt-ltb, le-ltb}
use lib.Dec.{eqb, leb}
use lib.ListN.{length, take, get_or, set}
use Rattle.index.specs.Places.{scanned_place}
use Rattle.index.specs.Scanning.{Standing, IsNext}
use Rattle.index.specs.declared.entries.Scan.{Scan}
use Rattle.std.specs.Prelude.{Option, Some, None}
use Rattle.index.proofs.Scans.{body_length, standing_most}
use Rattle.engine.specs.Searching.{reached_by, costing, gives_up}

module _ (f : List ℕ) (body wanted : ℕ) (from : Scan) (fits : body ≤ length f) (standing : Standing (take body f) from) where
  pub reach_least : (found : Option Scan) → IsNext (take body f) wanted from found → from.at ≤ reached_by found body
  reach_least (Some s) next = next.later
  reach_least None none = standing_most f body fits standing

  pub reach_most : (found : Option Scan) → IsNext (take body f) wanted from found → reached_by found body ≤ body
  reach_most (Some s) next = omega (arith, next.inside, body_length f body fits)
  reach_most None none = omega arith

module _ (m : List ℕ) (limit : ℕ) where
  pub costs_more : {come reached : ℕ} (at : ℕ) → come ≡ reached → get_or m scanned_place 0 < limit
      → set m scanned_place (get_or m scanned_place 0 + (come - at) + 16) ≡ costing m limit (reached - at)
  unfolding costing
  costs_more at e h = rw (e, lt-ltb (get_or m scanned_place 0) limit h)

  pub costs_same : (words : ℕ) → limit ≤ get_or m scanned_place 0 → m ≡ costing m limit words
  unfolding costing
  costs_same words h = rw (le-ltb (get_or m scanned_place 0) limit h)

-- whether a search by scans is given up
module _ (m : List ℕ) (limit left : ℕ) where
  goes_on_out : left ≡ 0 → false ≡ gives_up m limit left
  unfolding gives_up
  goes_on_out z = rw (eq-eqb left 0 z)

  pub gives_up_out : left ≡ 0 → not (eqb left 0) ≡ gives_up m limit left
  unfolding gives_up
  gives_up_out z = rw (eq-eqb left 0 z)

  pub gives_up_lem : (left ≡ 0 → ⊥) → leb limit (get_or m scanned_place 0) ≡ gives_up m limit left
  unfolding gives_up
  gives_up_lem n = rw (ne_eqb left 0 n)

  pub given_up_some : {q : Bool} → q ≡ gives_up m limit left → q ≡ true → left ≡ 0 → ⊥
  given_up_some e y z = let no_way : ◌≡◌ {A = Bool} true false = sym y ∙ e ∙ sym (goes_on_out z) in let x : ◌≡◌ {A = ℕ} 0 1 = cc in omega arith
