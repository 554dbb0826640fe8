-- Words and their fields: the fields of a packed word are what was packed, a packed word has its shape, and a word of a shape is the packing of its fields.
use Rattle.std.proofs.Common.{◌≡◌, ℕ, zero, suc, ◌+◌, ◌-◌, ◌*◌, ◌/◌, ◌%◌, ◌^◌, ◌<◌, ◌≤◌, Bool, true, false, not, ◌&&◌, eqb, leb, sym, refl, ap, ◌∙◌, mod-lt, zero-add, zero-mul, div-one, arith, pow_pos, eq-eqb, ne_eqb, eqb-true, le-leb, leb-true}
use mathlib.Core.Bool.{and-eq-true_iff}
use lib.Pow.{split, shr_mod, mod-pow-add}
use borrow.Author.Tests.{eqb-false, not-true}
use Rattle.words.specs.Fields.{bits, kind_of, number_of, symbol_of, arity_of, sign_of, negative_of, literals_of, variables_of, following_of, restricted_of}
use Rattle.words.specs.Fields.{plain, variable_shaped, function_shaped, literal_shaped, counted, clause_shaped}
use Rattle.words.specs.Fields.{variable_word, function_word, sign_bit, literal_word, mark_bit, clause_word}

not_zero : (n : ℕ) → not (eqb n 0) ≡ true → 1 ≤ n
not_zero zero e = omega (arith, eqb-false 0 0 (not-true (eqb 0 0) e) refl)
not_zero (suc n) e = omega arith

-- a field is below the power that its width names
pub bits_small : (from count w : ℕ) → bits from count w < 2 ^ count
bits_small from count w = mod-lt (w / 2 ^ from) (pow_pos count)

-- a word's kind, with the bits from a given one up to bit 29 zero
module _ (kind from w : ℕ) where
  pub plain_is : kind_of w ≡ kind → bits from (30 - from) w ≡ 0 → plain kind from w ≡ true
  plain_is k z = rw (eq-eqb (kind_of w) kind k, eq-eqb (bits from (30 - from) w) 0 z)

  pub plain_not : (kind_of w ≡ kind → ⊥) → plain kind from w ≡ false
  plain_not n = rw (ne_eqb (kind_of w) kind n)

  module _ (p : plain kind from w ≡ true) where
    pub plain_kind : kind_of w ≡ kind
    plain_kind = eqb-true (kind_of w) kind ((and-eq-true_iff (eqb (kind_of w) kind) (eqb (bits from (30 - from) w) 0)).0 p).0

    pub plain_rest : bits from (30 - from) w ≡ 0
    plain_rest = eqb-true (bits from (30 - from) w) 0 ((and-eq-true_iff (eqb (kind_of w) kind) (eqb (bits from (30 - from) w) 0)).0 p).1

  pub plain_word : from ≤ 30 → w < 2 ^ 32 → plain kind from w ≡ true → w ≡ kind * 2 ^ 30 + w % 2 ^ from
  plain_word f l p =
      let top : w / 2 ^ 30 ≡ kind = sym (shr_mod 2 30 l) ∙ plain_kind p in
      let thirty : 30 ≡ 30 - from + from = omega arith in
      let rest : w % 2 ^ 30 ≡ w % 2 ^ from =
      ap (λ (n : ℕ). w % 2 ^ n) thirty ∙ mod-pow-add w (30 - from) from
      ∙ ap (λ (n : ℕ). n * 2 ^ from + w % 2 ^ from) (plain_rest p) ∙ rw (zero-mul, zero-add) in
      sym (split w 30) ∙ rw (top, rest)

-- variables
module _ (n : ℕ) (small : n < 2 ^ 10) where
  pub variable_kind : kind_of (variable_word n) ≡ 0
  variable_kind = omega arith

  pub variable_number : number_of (variable_word n) ≡ n
  variable_number = omega arith

  pub variable_shaped_lem : variable_shaped (variable_word n) ≡ true
  variable_shaped_lem = plain_is 0 10 (variable_word n) (omega arith) (omega arith)

pub variable_word_lem : (w : ℕ) → w < 2 ^ 32 → variable_shaped w ≡ true → w ≡ variable_word (number_of w)
variable_word_lem w l s = omega (arith, plain_word 0 10 w (omega arith) l s)

-- functions and constants
module _ (f a : ℕ) (fs : f < 2 ^ 12) (small : a < 2 ^ 3) where
  pub function_kind : kind_of (function_word f a) ≡ 1
  function_kind = omega arith

  pub function_symbol : symbol_of (function_word f a) ≡ f
  function_symbol = omega arith

  pub function_arity : arity_of (function_word f a) ≡ a
  function_arity = omega arith

  pub function_shaped_lem : a ≤ 4 → function_shaped (function_word f a) ≡ true
  unfolding function_shaped
  function_shaped_lem l =
      rw
      (plain_is 1 15 (function_word f a) function_kind (omega arith), le-leb (arity_of (function_word f a)) 4 (omega arith))

module _ (w : ℕ) (s : function_shaped w ≡ true) where
  pub function_plain : plain 1 15 w ≡ true
  unfolding function_shaped
  function_plain = ((and-eq-true_iff (plain 1 15 w) (leb (arity_of w) 4)).0 s).0

  pub function_arity_small : arity_of w ≤ 4
  unfolding function_shaped
  function_arity_small = leb-true (arity_of w) 4 ((and-eq-true_iff (plain 1 15 w) (leb (arity_of w) 4)).0 s).1

  pub function_word_lem : w < 2 ^ 32 → w ≡ function_word (symbol_of w) (arity_of w)
  function_word_lem l = omega (arith, plain_word 1 15 w (omega arith) l function_plain)

  pub function_not_variable : variable_shaped w ≡ false
  function_not_variable = plain_not 0 10 w (λ e. omega (arith, plain_kind 1 15 w function_plain))

-- literals
module _ (p a : ℕ) (ps : p < 2 ^ 12) (small : a < 2 ^ 3) where
  pub literal_kind : (b : Bool) → kind_of (literal_word b p a) ≡ 2
  literal_kind true = omega arith
  literal_kind false = omega arith

  pub literal_predicate : (b : Bool) → symbol_of (literal_word b p a) ≡ p
  literal_predicate true = omega arith
  literal_predicate false = omega arith

  pub literal_arity : (b : Bool) → arity_of (literal_word b p a) ≡ a
  literal_arity true = omega arith
  literal_arity false = omega arith

  pub literal_negative : (b : Bool) → negative_of (literal_word b p a) ≡ b
  literal_negative true = eq-eqb (sign_of (literal_word true p a)) 1 (omega arith)
  literal_negative false = ne_eqb (sign_of (literal_word false p a)) 1 (λ e. omega arith)

  pub literal_rest : (b : Bool) → bits 16 14 (literal_word b p a) ≡ 0
  literal_rest true = omega arith
  literal_rest false = omega arith

  pub literal_shaped_lem : (b : Bool) → a ≤ 4 → literal_shaped (literal_word b p a) ≡ true
  unfolding literal_shaped
  literal_shaped_lem b l =
      rw (plain_is 2 16 (literal_word b p a) (literal_kind b) (literal_rest b), literal_arity b, le-leb a 4 l)

pub sign_bit_lem : (n : ℕ) → n < 2 → sign_bit (eqb n 1) ≡ n * 2 ^ 15
sign_bit_lem zero h = refl
sign_bit_lem (suc zero) h = refl
sign_bit_lem (suc (suc n)) h = omega arith

module _ (w : ℕ) (s : literal_shaped w ≡ true) where
  pub literal_plain : plain 2 16 w ≡ true
  unfolding literal_shaped
  literal_plain = ((and-eq-true_iff (plain 2 16 w) (leb (arity_of w) 4)).0 s).0

  pub literal_arity_small : arity_of w ≤ 4
  unfolding literal_shaped
  literal_arity_small = leb-true (arity_of w) 4 ((and-eq-true_iff (plain 2 16 w) (leb (arity_of w) 4)).0 s).1

  pub literal_word_lem : w < 2 ^ 32 → w ≡ literal_word (negative_of w) (symbol_of w) (arity_of w)
  literal_word_lem l =
      rw (sign_bit_lem (sign_of w) (bits_small 15 1 w)) (omega (arith, plain_word 2 16 w (omega arith) l literal_plain))

-- clauses
module _ (l v f : ℕ) (ls : l < 2 ^ 3) (vs : v < 2 ^ 5) (small : f < 2 ^ 8) where
  pub clause_kind : (b : Bool) → kind_of (clause_word b l v f) ≡ 3
  clause_kind true = omega arith
  clause_kind false = omega arith

  pub clause_literals : (b : Bool) → literals_of (clause_word b l v f) ≡ l
  clause_literals true = omega arith
  clause_literals false = omega arith

  pub clause_variables : (b : Bool) → variables_of (clause_word b l v f) ≡ v
  clause_variables true = omega arith
  clause_variables false = omega arith

  pub clause_following : (b : Bool) → following_of (clause_word b l v f) ≡ f
  clause_following true = omega arith
  clause_following false = omega arith

  pub clause_restricted : (b : Bool) → restricted_of (clause_word b l v f) ≡ b
  clause_restricted true = eq-eqb (bits 16 1 (clause_word true l v f)) 1 (omega arith)
  clause_restricted false = ne_eqb (bits 16 1 (clause_word false l v f)) 1 (λ e. omega arith)

  clause_rest : (b : Bool) → bits 17 13 (clause_word b l v f) ≡ 0
  clause_rest true = omega arith
  clause_rest false = omega arith

  pub clause_fits_lem : (b : Bool) → clause_word b l v f < 2 ^ 32
  clause_fits_lem true = omega arith
  clause_fits_lem false = omega arith

  pub clause_shaped_lem : (b : Bool) → 1 ≤ l → v ≤ 16 → 1 ≤ f → clause_shaped (clause_word b l v f) ≡ true
  unfolding clause_shaped counted
  clause_shaped_lem b lp vl fp =
      rw (
        plain_is 3 17 (clause_word b l v f) (clause_kind b) (clause_rest b),
        clause_literals b,
        clause_variables b,
        clause_following b,
        ne_eqb l 0 (λ e. omega arith),
        ne_eqb f 0 (λ e. omega arith),
        le-leb v 16 vl,
      )

counts_below : (w : ℕ) → w % 2 ^ 16 ≡ following_of w * 2 ^ 8 + variables_of w * 2 ^ 3 + literals_of w
counts_below w =
    let following : w % 2 ^ 16 ≡ following_of w * 2 ^ 8 + w % 2 ^ 8 = mod-pow-add w 8 8 in
    let variables : w % 2 ^ 8 ≡ variables_of w * 2 ^ 3 + w % 2 ^ 3 = mod-pow-add w 5 3 in
    let literals : literals_of w ≡ w % 2 ^ 3 = rw (div-one w) in
    rw (following, variables, literals) (omega arith)

sum_of_fields : (w m f v l : ℕ) {low lower : ℕ} → w ≡ 3 * 2 ^ 30 + low → low ≡ m * 2 ^ 16 + lower → lower ≡ f * 2 ^ 8 + v * 2 ^ 3 + l
    → w ≡ 3 * 2 ^ 30 + m * 2 ^ 16 + f * 2 ^ 8 + v * 2 ^ 3 + l
sum_of_fields w m f v l p q r = omega arith

pub mark_bit_lem : (n : ℕ) → n < 2 → mark_bit (eqb n 1) ≡ n * 2 ^ 16
mark_bit_lem zero h = refl
mark_bit_lem (suc zero) h = refl
mark_bit_lem (suc (suc n)) h = omega arith

module _ (w : ℕ) (s : clause_shaped w ≡ true) where
  pub clause_plain : plain 3 17 w ≡ true
  unfolding clause_shaped
  clause_plain = ((and-eq-true_iff (plain 3 17 w) (counted w)).0 s).0

  clause_counted : counted w ≡ true
  unfolding clause_shaped
  clause_counted = ((and-eq-true_iff (plain 3 17 w) (counted w)).0 s).1

  some-counted : not (eqb (literals_of w) 0) && not (eqb (following_of w) 0) ≡ true
  unfolding counted
  some-counted = ((and-eq-true_iff (not (eqb (literals_of w) 0) && not (eqb (following_of w) 0)) (leb (variables_of w) 16)).0 clause_counted).0

  pub clause_variables_small : variables_of w ≤ 16
  unfolding counted
  clause_variables_small =
      leb-true (variables_of w) 16
      ((and-eq-true_iff (not (eqb (literals_of w) 0) && not (eqb (following_of w) 0)) (leb (variables_of w) 16)).0 clause_counted).1

  pub clause_literals_some : 1 ≤ literals_of w
  clause_literals_some =
      not_zero (literals_of w) ((and-eq-true_iff (not (eqb (literals_of w) 0)) (not (eqb (following_of w) 0))).0 some-counted).0

  pub clause_following_some : 1 ≤ following_of w
  clause_following_some =
      not_zero (following_of w) ((and-eq-true_iff (not (eqb (literals_of w) 0)) (not (eqb (following_of w) 0))).0 some-counted).1

  pub clause_word_lem : w < 2 ^ 32 → w ≡ clause_word (restricted_of w) (literals_of w) (variables_of w) (following_of w)
  clause_word_lem l =
      let marked : w % 2 ^ 17 ≡ bits 16 1 w * 2 ^ 16 + w % 2 ^ 16 = mod-pow-add w 1 16 in
      let counts : w % 2 ^ 16 ≡ following_of w * 2 ^ 8 + variables_of w * 2 ^ 3 + literals_of w = counts_below w in
      rw (mark_bit_lem (bits 16 1 w) (bits_small 16 1 w))
      (sum_of_fields w (bits 16 1 w) (following_of w) (variables_of w) (literals_of w) (plain_word 3 17 w (omega arith) l clause_plain) marked counts)
