-- One part more of an item in memory, with premises as the code has them.
use mathlib.Core.Bool.{Bool, true, false}
use mathlib.Core.List.{List, [], ◌∷◌}
use mathlib.Core.Path.{◌≡◌, refl, sym, ap}
use Prim.Native.Nat.{ℕ, zero, suc, ◌+◌, ◌-◌, ◌*◌, ◌/◌, ◌%◌, ◌≤◌, ◌<◌}
use native.Mathlib.Nat.{not-suc-le-zero, le_of_suc-le-suc}
use native.Mathlib.Omega.{arith}
use mir.Syntax.{w32}
use mir.Val.{Fits}
use borrow.Author.Tests.{eqb-true, eqb-false}
use lib.Dec.{eqb}
use lib.ListN.{length, take, get_or, set, length-take, length-set}
use lib.Seq.{take-set-lt, get_or-take, get_or-set_same, get_or-set_other}
use Rattle.tptp.specs.Sketch.{Item, with_part}
use Rattle.tptp.specs.Memory.{item_of, items_of, inner_of, Small, PartAdded}

pub items_few : (text ms ps : List ℕ) → length (items_of text ms ps) ≤ length ms
unfolding items_of
items_few text [] ps = omega arith
items_few text (m ∷ ms) [] = omega arith
items_few text (m ∷ ms) (p ∷ ps) = omega (arith, items_few text ms ps)

part_past : (is : List Item) (at : ℕ) → length is ≤ at → with_part is at ≡ is
unfolding with_part
part_past [] at h = refl
part_past (i ∷ is) zero h = absurd (not-suc-le-zero h)
part_past (i ∷ is) (suc at) h = ap (λ (l : List Item). i ∷ l) (part_past is at (le_of_suc-le-suc h))

item_more : (text : List ℕ) (m at : ℕ) → item_of text (m + 8) at ≡ record { sort = (item_of text m at).sort; parts = (item_of text m at).parts + 1; name = (item_of text m at).name }
item_more text m at =
    let s : (m + 8) % 8 ≡ m % 8 = omega arith in let p : (m + 8) / 8 ≡ m / 8 + 1 = omega arith in rw (s, p)

items_part : (text ms ps : List ℕ) (at : ℕ) → items_of text (set ms at (get_or ms at 0 + 8)) ps ≡ with_part (items_of text ms ps) at
unfolding items_of with_part
items_part text [] ps at = refl
items_part text (m ∷ ms) [] zero = refl
items_part text (m ∷ ms) [] (suc at) = refl
items_part text (m ∷ ms) (p ∷ ps) zero = ap (λ (i : Item). i ∷ items_of text ms ps) (item_more text m p)
items_part text (m ∷ ms) (p ∷ ps) (suc at) = ap (λ (l : List Item). item_of text m p ∷ l) (items_part text ms ps at)

inner_top : (inner : List ℕ) (depth : ℕ) → (depth ≡ 0 → ⊥) → inner_of inner depth ≡ get_or inner (depth - 1) 0 ∷ inner_of inner (depth - 1)
unfolding inner_of
inner_top inner zero h = absurd (h refl)
inner_top inner (suc depth) h = let z : suc depth - 1 ≡ depth = omega arith in rw z

pub part_fits : (marks : List ℕ) (top : ℕ) {count : ℕ} → count ≤ 65535 → Small marks count → Fits w32 (get_or marks top 0 + 8)
part_fits marks top f s = record { fits = omega (arith, s.each top) }

module _ (marks inner : List ℕ) (count depth : ℕ) (f : count ≤ 65535) (s : Small marks count) where
  pub no_part : depth ≡ 0 → PartAdded marks (inner_of inner depth) count marks
  unfolding inner_of
  no_part e = rw e (record { long = refl; items = λ text places. refl; small = record { each = λ k. omega (arith, s.each k) } })

  module _ (d : depth ≡ 0 → ⊥) {top : ℕ} (t : top ≡ get_or inner (depth - 1) 0) where
    pub part_out : count ≤ top → PartAdded marks (inner_of inner depth) count marks
    part_out h = rw (inner_top inner depth d) (record {
      long = refl;
      items = λ text places. sym (part_past (items_of text (take count marks) (take count places)) (get_or inner (depth - 1) 0)
          (omega (arith, items_few text (take count marks) (take count places), length-take count marks)));
      small = record { each = λ k. omega (arith, s.each k) };
    })

    pub part_in : count ≤ length marks → top < count → PartAdded marks (inner_of inner depth) count (set marks top (get_or marks top 0 + 8))
    part_in g h = rw (inner_top inner depth d, ← t) (record {
      long = length-set marks top (get_or marks top 0 + 8);
      items = λ text places.
          rw (take-set-lt count marks top (get_or marks top 0 + 8) h, ← get_or-take count marks top 0 h) (items_part text (take count marks) (take count places) top);
      small = record { each = λ k. at_most k (eqb k top) refl };
    })
      where
        at_most : (k : ℕ) → (b : Bool) → eqb k top ≡ b → get_or (set marks top (get_or marks top 0 + 8)) k 0 ≤ 8 * (count + 1) + 7
        at_most k true e = rw (eqb-true k top e, get_or-set_same marks top (get_or marks top 0 + 8) 0 (omega arith)) (omega (arith, s.each top))
        at_most k false e = rw (get_or-set_other marks top k (get_or marks top 0 + 8) 0 (eqb-false k top e)) (omega (arith, s.each k))

pub ruleset part_laws = (part_fits, no_part, part_out, part_in)
