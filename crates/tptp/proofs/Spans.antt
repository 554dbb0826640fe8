-- Where a clause ends, and a part numbered, with premises as the code has them.
use mathlib.Core.List.{List, ◌++◌}
use mathlib.Core.Path.{◌≡◌, refl, sym, ◌∙◌}
use Prim.Native.Nat.{ℕ, ◌+◌, ◌-◌, ◌≤◌, ◌<◌}
use native.Mathlib.Numerals.{add-one}
use native.Mathlib.Omega.{arith}
use borrow.Author.Tests.{eq-eqb, ne_eqb}
use lib.ListN.{length, take, drop, get_or, drop_of_length-le, length-append, length-drop}
use lib.Seq.{drop-cons, drop-drop, length-take-le}
use Rattle.words.specs.Fields.{kind_of}
use Rattle.names.specs.Noting.{Numbering}
use Rattle.tptp.specs.Body.{span, part, PartNumbered}

pub record Spanning (words : List ℕ) (from end : ℕ) : Type 0 where
  pub left : from + span (drop from words) ≡ end + span (drop end words)

module _ {words : List ℕ} {from : ℕ} where
  pub begin_span : Spanning words from from
  begin_span = record { left = refl }

  module _ {end : ℕ} (inv : Spanning words from end) where
    pub span_over : length words ≤ end → end ≤ length words → length words ≡ from + span (drop from words)
    unfolding span
    span_over h g =
        let e : end ≡ length words = omega arith in sym e ∙ sym (inv.left ∙ rw (drop_of_length-le words h) (omega arith))

    module _ (h : end < length words) {k : ℕ} (q : k ≡ kind_of (get_or words end 0)) where
      pub span_ends : k ≡ 3 → end ≡ from + span (drop from words)
      unfolding span
      span_ends e = sym (inv.left ∙ rw (drop-cons words end 0 h, eq-eqb (kind_of (get_or words end 0)) 3 (sym q ∙ e)) (omega arith))

      pub span_on : (k ≡ 3 → ⊥) → Spanning words from (end + 1)
      unfolding span
      span_on d = record {
        left = inv.left
            ∙ rw (add-one end, drop-cons words end 0 h, ne_eqb (kind_of (get_or words end 0)) 3 (λ e. d (q ∙ e))) (omega arith);
      }

pub ruleset span_laws = (begin_span, span_over, span_ends, span_on)

-- a part numbered within the whole
pub part_numbered : {text places words : List ℕ} {from end : ℕ} → from ≤ end → end ≤ length words → length places ≡ length words
    → {ws : List ℕ} {many : ℕ} → Numbering text (part from end places) (part from end words) 0 16 ws many
    → PartNumbered text places words from end (take from words ++ (ws ++ drop (end - from) (drop from words))) many
part_numbered {text} {places} {words} {from} {end} a b e {ws} {many} n =
    let z : from + (end - from) ≡ end = omega arith in
    rw (drop-drop (end - from) from words, z) (record {
      within = n.within;
      numbers = λ h. rw (n.numbers h);
      over = n.over;
      long = rw (
        length-append (take from words) (ws ++ drop end words),
        length-append ws (drop end words),
        n.long,
        length-drop end words,
        length-take-le from words (omega arith),
        length-take-le (end - from) (drop from words) (omega (arith, length-drop from words)),
      ) (omega arith);
    })
