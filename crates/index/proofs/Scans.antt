-- A scan of the body: past one word, and on by one word; where the body's words stand in the file.
use mathlib.Core.Path.{◌≡◌, refl, sym, ◌∙◌}
use mathlib.Core.Bool.{Bool, true, false, cond}
use mathlib.Core.List.{List, [], ◌∷◌, ◌++◌}
use Prim.Native.Nat.{ℕ, ◌+◌, ◌-◌, ◌*◌, ◌^◌, ◌≤◌, ◌<◌}
use native.Mathlib.Numerals.{add-one}
use native.Mathlib.Omega.{arith}
use lib.Bits.{bit_xor, xor_add_and, and_high}
use lib.Dec.{eqb}
use lib.ListN.{length, take, drop, get_or, drop_of_length-le}
use lib.Seq.{length-take-le, take-suc, get_or-take}
use borrow.Author.Tests.{eq-eqb, ne_eqb}
use Rattle.words.specs.Fields.{kind_of, sign_of, negative_of, sign_bit}
use Rattle.words.proofs.Packed.{bits_small, sign_bit_lem}
use Rattle.table.proofs.Terms.{from_place}
use Rattle.index.specs.declared.entries.Scan.{Scan}
use Rattle.index.specs.Scanning.{begun, past_by, past_word, past_words, Standing, other_sign}

-- the scan past one word
module _ (s : Scan) (w : ℕ) {k : ℕ} (e : k ≡ kind_of w) where
  pub past_clause : k ≡ 3 → record { at = s.at + 1; clauses = s.clauses + 1; start = s.at; literals = 0 } ≡ past_word s w
  unfolding past_word past_by
  past_clause p = rw (eq-eqb (kind_of w) 3 (sym e ∙ p))

  module _ (n : k ≡ 3 → ⊥) where
    pub past_literal : k ≡ 2 → record { at = s.at + 1; clauses = s.clauses; start = s.start; literals = s.literals + 1 } ≡ past_word s w
    unfolding past_word past_by
    past_literal p = rw (ne_eqb (kind_of w) 3 (λ q. n (e ∙ q)), eq-eqb (kind_of w) 2 (sym e ∙ p))

    pub past_other : (k ≡ 2 → ⊥) → record { at = s.at + 1; clauses = s.clauses; start = s.start; literals = s.literals } ≡ past_word s w
    unfolding past_word past_by
    past_other m = rw (ne_eqb (kind_of w) 3 (λ q. n (e ∙ q)), ne_eqb (kind_of w) 2 (λ q. m (e ∙ q)))

pub ruleset past_laws = (past_clause, past_literal, past_other)

past_by_at : (a b : Bool) (s : Scan) → (past_by a b s).at ≡ s.at + 1
unfolding past_by
past_by_at true b s = refl
past_by_at false true s = refl
past_by_at false false s = refl

past_by_clauses : (a b : Bool) (s : Scan) → (past_by a b s).clauses ≤ s.clauses + 1
unfolding past_by
past_by_clauses true b s = omega arith
past_by_clauses false true s = omega arith
past_by_clauses false false s = omega arith

past_by_literals : (a b : Bool) (s : Scan) → (past_by a b s).literals ≤ s.literals + 1
unfolding past_by
past_by_literals true b s = omega arith
past_by_literals false true s = omega arith
past_by_literals false false s = omega arith

pub past_at : (s : Scan) (w : ℕ) → (past_word s w).at ≡ s.at + 1
unfolding past_word
past_at s w = past_by_at (eqb (kind_of w) 3) (eqb (kind_of w) 2) s

pub past_words_lem : (s : Scan) (ws vs : List ℕ) → past_words s (ws ++ vs) ≡ past_words (past_words s ws) vs
unfolding past_words
past_words_lem s [] vs = refl
past_words_lem s (w ∷ ws) vs = past_words_lem (past_word s w) ws vs

past_count : (s : Scan) (ws : List ℕ) → ((past_words s ws).at ≡ s.at + length ws) × ((past_words s ws).clauses ≤ s.clauses + length ws) × ((past_words s ws).literals ≤ s.literals + length ws)
unfolding past_words past_word
past_count s [] = (omega arith, omega arith, omega arith)
past_count s (w ∷ ws) =
    let on = past_count (past_word s w) ws in
    let a = past_at s w in
    let c = past_by_clauses (eqb (kind_of w) 3) (eqb (kind_of w) 2) s in
    let l = past_by_literals (eqb (kind_of w) 3) (eqb (kind_of w) 2) s in
    (omega (arith, on.0, a), omega (arith, on.1, c), omega (arith, on.2, l))

-- a scan that stands goes on by one word
module _ (words : List ℕ) where
  pub standing_begin : Standing words begun
  unfolding past_words
  standing_begin = record { within = omega arith; clauses = omega arith; literals = omega arith; passed = refl }

  pub standing_past : {s : Scan} → Standing words s → s.at < length words → Standing words (past_word s (get_or words s.at 0))
  unfolding past_word past_words
  standing_past {s} g h =
      let w = get_or words s.at 0 in
      let a = past_at s w in
      record {
        within = omega (arith, a);
        clauses = omega (arith, a, g.clauses, past_by_clauses (eqb (kind_of w) 3) (eqb (kind_of w) 2) s);
        literals = omega (arith, a, g.literals, past_by_literals (eqb (kind_of w) 3) (eqb (kind_of w) 2) s);
        passed =
            let t : take (past_word s w).at words ≡ take s.at words ++ (w ∷ []) =
            rw (a, add-one, take-suc words s.at 0 h)
            in
            rw (t, past_words_lem begun (take s.at words) (w ∷ []), ← g.passed);
      }

-- the body's words are the first of the file's
module _ (f : List ℕ) (body : ℕ) (fits : body ≤ length f) where
  pub body_length : length (take body f) ≡ body
  body_length = length-take-le body f fits

  module _ {at q : ℕ} (h : at < body) (e : q ≡ at) where
    pub body_word : get_or (take body f) at 0 ≡ get_or f q 0
    body_word = rw e (get_or-take body f at 0 h)

    pub body_inside : at < length (take body f)
    body_inside = rw body_length h

    pub body_from : drop at (take body f) ≡ get_or f q 0 ∷ drop (at + 1) (take body f)
    body_from = from_place (take body f) at body_inside ∙ rw body_word

    pub word_inside : q < length f
    word_inside = omega arith

  pub standing_most : {s : Scan} → Standing (take body f) s → s.at ≤ body
  standing_most g = omega (arith, g.within, body_length)

  pub body_end : {at : ℕ} → body ≤ at → drop at (take body f) ≡ []
  body_end {at} h = drop_of_length-le (take body f) {i = at} (rw body_length h)

-- `w ^ 0x8000` changes bit 15 alone
sign_flipped : (w : ℕ) (b : Bool) → sign_bit b ≡ sign_of w * 2 ^ 15 → bit_xor w 0x8000 ≡ cond b (w - 2 ^ 15) (w + 2 ^ 15)
sign_flipped w true e = omega (arith, xor_add_and w 0x8000, and_high w 1 15)
sign_flipped w false e = omega (arith, xor_add_and w 0x8000, and_high w 1 15)

pub flipped : (w : ℕ) → bit_xor w 0x8000 ≡ other_sign w
unfolding other_sign
flipped w = sign_flipped w (negative_of w) (sign_bit_lem (sign_of w) (bits_small 15 1 w))
