-- One item more in memory, with premises as the code has them.
use mathlib.Core.Bool.{Bool, true, false}
use mathlib.Core.List.{List, [], ◌∷◌, ◌++◌}
use mathlib.Core.Path.{◌≡◌, refl, ap, ◌∙◌}
use Prim.Native.Nat.{ℕ, suc, ◌+◌, ◌*◌, ◌/◌, ◌%◌, ◌≤◌, ◌<◌}
use native.Mathlib.Numerals.{add-one}
use native.Mathlib.Omega.{arith}
use borrow.Author.Tests.{eqb-true, eqb-false}
use lib.Dec.{eqb}
use lib.ListN.{length, take, get_or, set, length-set}
use lib.Seq.{take-suc-set, get_or-set_same, get_or-set_other, length-take-le}
use Rattle.names.specs.Noting.{name_at}
use Rattle.tptp.specs.declared.sketch.Progress.{Progress}
use Rattle.tptp.specs.Sketch.{Item, lone}
use Rattle.tptp.specs.Memory.{item_of, items_of, inner_of, Small, PartAdded, Ready, Further, adding}

items_snoc : (text ms ps : List ℕ) (m p : ℕ) → length ms ≡ length ps → items_of text (ms ++ (m ∷ [])) (ps ++ (p ∷ [])) ≡ items_of text ms ps ++ (item_of text m p ∷ [])
unfolding items_of
items_snoc text [] [] m p h = refl
items_snoc text [] (q ∷ ps) m p h = absurd (omega arith)
items_snoc text (n ∷ ms) [] m p h = absurd (omega arith)
items_snoc text (n ∷ ms) (q ∷ ps) m p h = ap (λ (l : List Item). item_of text n q ∷ l) (items_snoc text ms ps m p (omega arith))

pub items_long : (text ms ps : List ℕ) → length ms ≡ length ps → length (items_of text ms ps) ≡ length ms
unfolding items_of
items_long text [] ps h = refl
items_long text (m ∷ ms) [] h = absurd (omega arith)
items_long text (m ∷ ms) (p ∷ ps) h = ap suc (items_long text ms ps (omega arith))

module _ (text marks places : List ℕ) (count : ℕ) (ml : length marks ≡ 65536) (pl : length places ≡ 65536) (few : count ≤ 65535) where
  pub items_count : length (items_of text (take count marks) (take count places)) ≡ count
  items_count =
      let a : length (take count marks) ≡ count = length-take-le count marks (omega arith) in
      let b : length (take count places) ≡ count = length-take-le count places (omega arith) in
      items_long text (take count marks) (take count places) (omega arith) ∙ a

  pub item_added : (sort start : ℕ) → sort < 8
      → items_of text (take (count + 1) (set marks count sort)) (take (count + 1) (set places count start))
      ≡ items_of text (take count marks) (take count places) ++ (lone sort (name_at text start) ∷ [])
  item_added sort start h =
      let a : length (take count marks) ≡ count = length-take-le count marks (omega arith) in
      let b : length (take count places) ≡ count = length-take-le count places (omega arith) in
      let s : sort % 8 ≡ sort = omega arith in
      let q : sort / 8 ≡ 0 = omega arith in
      rw (add-one count, take-suc-set marks count sort (omega arith), take-suc-set places count start (omega arith))
      (items_snoc text (take count marks) (take count places) sort start (omega arith) ∙ rw (s, q))

pub small_set : (marks : List ℕ) (count sort : ℕ) → count < length marks → sort < 8 → Small marks (count + 1) → Small (set marks count sort) (count + 1)
small_set marks count sort g h s = record { each = λ k. at_most k (eqb k count) refl }
  where
    at_most : (k : ℕ) → (b : Bool) → eqb k count ≡ b → get_or (set marks count sort) k 0 ≤ 8 * (count + 1) + 7
    at_most k true e = rw (eqb-true k count e, get_or-set_same marks count sort 0 g) (omega arith)
    at_most k false e = rw (get_or-set_other marks count k sort 0 (eqb-false k count e)) (s.each k)

module _ {marks places inner : List ℕ} {p : Progress} {sort : ℕ} (h : sort < 8) (ready : Ready marks places inner p) where
  pub added : {marks₁ : List ℕ} (start : ℕ) → PartAdded marks (inner_of inner p.depth) p.count marks₁
      → (text : List ℕ) → Further text (adding sort (name_at text start)) marks places inner p (set marks₁ p.count sort) (set places p.count start) inner
      (record { count = p.count + 1; depth = p.depth; stage = 7; negative = false })
  added {marks₁} start part text =
      let l : length marks₁ ≡ 65536 = part.long ∙ ready.marks_long in
      record {
        marks_long = length-set marks₁ p.count sort ∙ l;
        places_long = length-set places p.count start ∙ ready.places_long;
        inner_long = ready.inner_long;
        small = small_set marks₁ p.count sort (omega (arith, ready.few)) h part.small;
        few = omega arith;
        deep = omega arith;
        same = rw (item_added text marks₁ places p.count l ready.places_long ready.few sort start h, part.items text places);
      }
