-- What is written of a list of words is read as that list.
use mathlib.Core.Bool.{Bool, true, false, cond}
use mathlib.Core.List.{List, [], ◌∷◌, ◌++◌, append_assoc}
use Rattle.std.specs.Prelude.{Some}
use Rattle.std.specs.Option.{option_eq}
use mathlib.Core.Path.{◌≡◌, refl, sym, ap, ◌∙◌}
use Prim.Native.Nat.{ℕ, zero, suc, ◌+◌, ◌/◌, ◌%◌, ◌<◌, ◌^◌}
use native.Mathlib.Omega.{arith}
use borrow.Author.Tests.{ltb-true, leb-true, lt-leb, lt-ltb, ne_eqb, ltb-false}
use lib.Dec.{eqb, leb, ltb}
use lib.ListN.{length, take, drop}
use Rattle.words.specs.declared.Step.{Step}
use Rattle.words.specs.declared.Step.TheVariants.{Reduction, Extension, Restart, Malformed}
use Rattle.words.specs.Steps.{step_of, encoded, well_formed}
use Rattle.words.proofs.Roundtrip.{decoded, encode_decode}
use Rattle.clausetext.specs.Kinds.{kind_of, sign_kind, letter_kind}
use Rattle.names.specs.Numbers.{Name}
use Rattle.names.specs.Noting.{name_byte, name_from}
use Rattle.text.specs.Quoted.{bytes}
use Rattle.text.specs.Digits.{glyph_of, digits_of, decimal_text, hex_text}
use Rattle.table.specs.Limits.{Each, Words}
use Rattle.requests.specs.Pieces.{same_bytes, number_of, word_of, up_to}
use Rattle.requests.proofs.Lists.{same_lengths}
use Rattle.written_proofs.specs.Steps.{names_of, name_of, begins, only, tells, clause_text, extension_text, text_of, step_text, steps_text}
use Rattle.written_proofs.specs.Reading.{blank, piece, pieces_from, clause_said, step_made, clause_made, verb_turn, turn, complete, reads, read_proof}
use Rattle.written_proofs.specs.Promises.{ReadsBack}
use Rattle.written_proofs.specs.declared.read.Awaited.TheVariants.{Step as step, Height, Clause}
use Rattle.written_proofs.specs.declared.read.Turn.TheVariants.{Awaits, Makes}
use Rattle.written_proofs.proofs.Numerals.{and_left, and_right, solid, some_bytes, all_below, below, some_told, number_back, number_solid, number_begins, hex_value}

-- a solid piece before a blank
module _ (b : ℕ) (eb : blank b ≡ true) (rest : List ℕ) where
  piece-whole : (p : List ℕ) → solid p ≡ true → piece (p ++ (b ∷ rest)) ≡ p
  unfolding piece solid
  piece-whole [] e = rw eb
  piece-whole (c ∷ cs) e =
      rw (lt-leb c 32 (ltb-true 32 c (and_left (ltb 32 c) (solid cs) e)))
      (ap (λ (l : List ℕ). c ∷ l) (piece-whole cs (and_right (ltb 32 c) (solid cs) e)))

  passed : (at : ℕ) (p : List ℕ) → solid p ≡ true → pieces_from at true (p ++ (b ∷ rest)) ≡ pieces_from (suc (at + length p)) false rest
  unfolding pieces_from solid
  passed at [] e = let z : at + 0 ≡ at = omega arith in rw (eb, z)
  passed at (c ∷ cs) e =
      let z : at + suc (length cs) ≡ suc at + length cs = omega arith in
      rw (lt-leb c 32 (ltb-true 32 c (and_left (ltb 32 c) (solid cs) e)), z) (passed (suc at) cs (and_right (ltb 32 c) (solid cs) e))

  pub first_piece : (at : ℕ) (p : List ℕ) → some_bytes p ≡ true
      → pieces_from at false (p ++ (b ∷ rest)) ≡ record { at = at; own = p } ∷ pieces_from (suc (at + length p)) false rest
  unfolding pieces_from solid
  first_piece at [] e = let z : ◌≡◌ {A = ℕ} 0 1 = cc in absurd (omega arith)
  first_piece at (c ∷ cs) e =
      let s = and_right (ltb 32 c) (solid cs) e in
      let z : at + suc (length cs) ≡ suc at + length cs = omega arith in
      rw (lt-leb c 32 (ltb-true 32 c (and_left (ltb 32 c) (solid cs) e)), piece-whole cs s, passed (suc at) cs s, z)

-- names are solid
abbrev no_name : ℕ → Bool
no_name c = cond (name_byte c) false true

low_none : all_below no_name 33 ≡ true
unfolding all_below kind_of sign_kind letter_kind
low_none = refl

high : (c : ℕ) → name_byte c ≡ true → ltb 32 c ≡ true
high c e = go (ltb 32 c) refl
  where
    go : (b : Bool) → ltb 32 c ≡ b → ltb 32 c ≡ true
    go true t = t
    go false t =
        let h : c < 33 = omega (arith, ltb-false 32 c t) in
        let z : cond true false true ≡ true = rw e at (below no_name 33 low_none c h) in
        let y : ◌≡◌ {A = ℕ} 0 1 = cc in
        absurd (omega arith)

name_solid : (cs : List ℕ) → solid (name_from cs) ≡ true
unfolding name_from solid
name_solid [] = refl
name_solid (c ∷ cs) = go (name_byte c) refl (name_solid cs)
  where
    go : (b : Bool) → name_byte c ≡ b → solid (name_from cs) ≡ true → solid (cond b (c ∷ name_from cs) []) ≡ true
    go true e ih = rw (high c e, ih)
    go false e ih = refl

names_solid : (text places : List ℕ) (i : ℕ) → solid (name_of (names_of text places) i) ≡ true
unfolding solid
names_solid text [] i = refl
names_solid text (p ∷ ps) zero = name_solid (drop p text)
names_solid text (p ∷ ps) (suc i) = names_solid text ps i

some_of : (n : List ℕ) → begins n ≡ true → solid n ≡ true → some_bytes n ≡ true
unfolding begins
some_of [] b s = b
some_of (c ∷ cs) b s = s

-- bytes up to a space are all of a solid piece
up_to_all : (p : List ℕ) → solid p ≡ true → up_to 32 p ≡ p
unfolding up_to solid
up_to_all [] e = refl
up_to_all (c ∷ cs) e =
    let h = ltb-true 32 c (and_left (ltb 32 c) (solid cs) e) in
    let d : c ≡ 32 → ⊥ = λ z. omega (arith, h, z) in
    rw (ne_eqb c 32 d) (ap (λ (l : List ℕ). c ∷ l) (up_to_all cs (and_right (ltb 32 c) (solid cs) e)))

-- a word's digits are solid
digits_solid : (base count n : ℕ) → solid (digits_of base count n) ≡ true
unfolding digits_of solid
digits_solid base zero n = refl
digits_solid base (suc count) n = rw (glyph-high (n / base ^ count % base), digits_solid base count n)
  where
    glyph-high : (d : ℕ) → ltb 32 (glyph_of d) ≡ true
    glyph-high d = go (ltb d 10)
      where
        go : (b : Bool) → ltb 32 (cond b (48 + d) (55 + d)) ≡ true
        go true = lt-ltb 32 (48 + d) (omega arith)
        go false = lt-ltb 32 (55 + d) (omega arith)

-- what pieces do
other : (p q : List ℕ) → (length p ≡ length q → ⊥) → same_bytes p q ≡ false
other p q n = go (same_bytes p q) refl
  where
    go : (b : Bool) → same_bytes p q ≡ b → same_bytes p q ≡ false
    go true e = absurd (n (same_lengths p q e))
    go false e = e

hex_long : (w : ℕ) → length (hex_text w) ≡ 8
unfolding digits_of
hex_long w = refl

hex_word : (w : ℕ) → w < 2 ^ 32 → word_of (hex_text w) ≡ Some w
unfolding word_of number_of digits_of
hex_word w h = hex_value w h

word_turn : (w : ℕ) → w < 2 ^ 32 → verb_turn (hex_text w) ≡ Makes w
unfolding verb_turn
word_turn w h =
    let a = other (hex_text w) (bytes "reduce") (λ z. let y : ◌≡◌ {A = ℕ} 8 6 = sym (hex_long w) ∙ z in omega arith) in
    let b = other (hex_text w) (bytes "extend") (λ z. let y : ◌≡◌ {A = ℕ} 8 6 = sym (hex_long w) ∙ z in omega arith) in
    rw (a, b, up_to_all (hex_text w) (digits_solid 16 8 w), hex_word w h)

verbs : (verb_turn (bytes "reduce") ≡ Awaits Height) × (verb_turn (bytes "extend") ≡ Awaits Clause)
unfolding verb_turn same_bytes
verbs = (refl, refl)

sound_word : (w : ℕ) → (step_of w ≡ Malformed → ⊥) → w ≡ 0xC0000000 → ⊥
unfolding step_of
sound_word w n e = n (rw e)

made : (w : ℕ) → w < 2 ^ 32 → (s : Step) → step_of w ≡ s → (s ≡ Malformed → ⊥) → step_made s ≡ Makes w
unfolding step_made
made w h s e n =
    let k : step_of w ≡ Malformed → ⊥ = λ z. n (sym e ∙ z) in
    let c : encoded s ≡ w = rw (← e) (encode_decode w h k) in
    rw (c, ne_eqb w 0xC0000000 (sound_word w k))

-- a step's text is read as its word, wherever the text goes on
pub record Goes (ns : List Name) (end at w : ℕ) (text rest : List ℕ) : Type 0 where
  pub next : ℕ
  pub goes : reads ns end step (pieces_from at false (text ++ (10 ∷ rest)))
      ≡ record {
        words = w ∷ (reads ns end step (pieces_from next false rest)).words;
        whole = (reads ns end step (pieces_from next false rest)).whole;
        place = (reads ns end step (pieces_from next false rest)).place;
        awaits = (reads ns end step (pieces_from next false rest)).awaits;
      }

hex_some : (w : ℕ) → some_bytes (hex_text w) ≡ true
unfolding digits_of
hex_some w = digits_solid 16 8 w

low_height : (height : ℕ) → well_formed false (Reduction height) ≡ true → height < 512
unfolding well_formed
low_height height k = omega (arith, leb-true height 63 (and_right (leb 1 height) (leb height 63) k))

low_clause : (i j : ℕ) → well_formed false (Extension i j) ≡ true → i < 512
unfolding well_formed
low_clause i j k = ltb-true i (2 ^ 9) (and_left (ltb i (2 ^ 9)) (ltb j (2 ^ 3)) k)

low_literal : (i j : ℕ) → well_formed false (Extension i j) ≡ true → j < 512
unfolding well_formed
low_literal i j k = omega (arith, ltb-true j (2 ^ 3) (and_right (ltb i (2 ^ 9)) (ltb j (2 ^ 3)) k))

no_height : (height : ℕ) → Reduction height ≡ Malformed → ⊥
no_height height e = let z : ◌≡◌ {A = ℕ} 0 1 = cc in omega arith

no_extension : (i j : ℕ) → Extension i j ≡ Malformed → ⊥
no_extension i j e = let z : ◌≡◌ {A = ℕ} 0 1 = cc in omega arith

well : (w : ℕ) → w < 2 ^ 32 → (s : Step) → step_of w ≡ s → (s ≡ Malformed → ⊥) → well_formed false s ≡ true
well w h s e n = rw e at ((decoded w h (λ z. n (sym e ∙ z))).well false)

-- a clause's text tells the clause
both : (x y : Bool) → cond x y false ≡ true → (x ≡ true) × (y ≡ true)
both true y e = (refl, e)
both false y e = let z : ◌≡◌ {A = ℕ} 0 1 = cc in absurd (omega arith)

module _ (ns : List Name) (i : ℕ) (h : i < 512) where
  clause-back : clause_said ns (clause_text ns i) ≡ Some i
  unfolding clause_said clause_text tells
  clause-back = go (tells ns (name_of ns i) i) refl
    where
      go : (b : Bool) → tells ns (name_of ns i) i ≡ b → clause_said ns (cond b (name_of ns i) (decimal_text i)) ≡ Some i
      go true t =
          let k = both (begins (name_of ns i)) (option_eq eqb (only ns (name_of ns i)) (Some i)) t in
          rw k.0 (some_told (only ns (name_of ns i)) i k.1)
      go false t = rw (number_begins i h) (number_back i h)

  clause_some : ((k : ℕ) → solid (name_of ns k) ≡ true) → some_bytes (clause_text ns i) ≡ true
  unfolding clause_text tells
  clause_some solids = go (tells ns (name_of ns i) i) refl
    where
      go : (b : Bool) → tells ns (name_of ns i) i ≡ b → some_bytes (cond b (name_of ns i) (decimal_text i)) ≡ true
      go true t = some_of (name_of ns i) (both (begins (name_of ns i)) (option_eq eqb (only ns (name_of ns i)) (Some i)) t).0 (solids i)
      go false t = number_solid i h

module _ (ns : List Name) (end at w : ℕ) (rest : List ℕ) (h : w < 2 ^ 32) where
  goes-word : Goes ns end at w (hex_text w) rest
  unfolding reads turn
  goes-word = record {
    next = suc (at + length (hex_text w));
    goes = rw (first_piece 10 refl rest at (hex_text w) (hex_some w), word_turn w h);
  }

  goes-height : (height : ℕ) → step_of w ≡ Reduction height → Goes ns end at w (bytes "reduce " ++ decimal_text height) rest
  unfolding reads turn solid
  goes-height height e =
      let s = low_height height (well w h (Reduction height) e (no_height height)) in
      let d = decimal_text height in
      record {
        next = suc (suc (at + 6) + length d);
        goes = rw (
          first_piece 32 refl (d ++ (10 ∷ rest)) at (bytes "reduce") refl,
          verbs.0,
          first_piece 10 refl rest (suc (at + 6)) d (number_solid height s),
          number_back height s,
          made w h (Reduction height) e (no_height height),
        );
      }

  goes_clause : ((k : ℕ) → solid (name_of ns k) ≡ true) → (i j : ℕ) → step_of w ≡ Extension i j → Goes ns end at w (extension_text ns i j) rest
  unfolding reads turn solid clause_made
  goes_clause solids i j e =
      let k = well w h (Extension i j) e (no_extension i j) in
      let si = low_clause i j k in
      let sj = low_literal i j k in
      let t : extension_text ns i j ++ (10 ∷ rest) ≡ bytes "extend" ++ (32 ∷ (clause_text ns i ++ (32 ∷ (decimal_text j ++ (10 ∷ rest))))) =
      ap (λ (l : List ℕ). bytes "extend" ++ (32 ∷ l)) (append_assoc (clause_text ns i) (32 ∷ decimal_text j) (10 ∷ rest)) in
      record {
        next = suc (suc (suc (at + 6) + length (clause_text ns i)) + length (decimal_text j));
        goes = rw (
          t,
          first_piece 32 refl (clause_text ns i ++ (32 ∷ (decimal_text j ++ (10 ∷ rest)))) at (bytes "extend") refl,
          verbs.1,
          first_piece 32 refl (decimal_text j ++ (10 ∷ rest)) (suc (at + 6)) (clause_text ns i) (clause_some ns i si solids),
          clause-back ns i si,
          lt-ltb i 512 si,
          first_piece 10 refl rest (suc (suc (at + 6) + length (clause_text ns i))) (decimal_text j) (number_solid j sj),
          number_back j sj,
          made w h (Extension i j) e (no_extension i j),
        );
      }

  goes_step : ((k : ℕ) → solid (name_of ns k) ≡ true) → Goes ns end at w (step_text ns w) rest
  unfolding step_text
  goes_step solids = go (step_of w) refl
    where
      go : (s : Step) → step_of w ≡ s → Goes ns end at w (text_of ns w s) rest
      go (Reduction height) e = goes-height height e
      go (Extension i j) e = goes_clause solids i j e
      go Restart e = goes-word
      go Malformed e = goes-word

all_read : (ns : List Name) → ((k : ℕ) → solid (name_of ns k) ≡ true) → (end at : ℕ) (ws : List ℕ) → Words ws
    → reads ns end step (pieces_from at false (steps_text ns ws)) ≡ record { words = ws; whole = true; place = end; awaits = step }
unfolding steps_text reads pieces_from complete Each
all_read ns solids end at [] h = refl
all_read ns solids end at (w ∷ ws) h =
    let g = goes_step ns end at w (steps_text ns ws) h.0 solids in
    rw (append_assoc (step_text ns w) (10 ∷ []) (steps_text ns ws), g.goes, all_read ns solids end g.next ws h.1)

pub reads_back : ReadsBack
unfolding read_proof
reads_back text places steps h =
    let ns = names_of text (take 512 places) in
    all_read ns (names_solid text (take 512 places)) (length (steps_text ns steps)) 0 steps h
