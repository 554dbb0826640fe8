-- Names as parts of a text, with premises as the code has them.
use mathlib.Core.Bool.{Bool, true, false, cond}
use mathlib.Core.List.{List, [], ◌∷◌}
use mathlib.Core.Path.{◌≡◌, refl, sym, ap, ◌∙◌}
use Prim.Native.Nat.{ℕ, zero, suc, ◌+◌, ◌-◌, ◌*◌, ◌≤◌, ◌<◌, ◌^◌}
use native.Mathlib.Omega.{arith}
use mir.Syntax.{w64}
use mir.Val.{Fits}
use denote.Ref.{Bor}
use borrow.Author.Tests.{lt-ltb, le-ltb}
use lib.ListN.{length, take, drop, get_or, length-drop, length-map, get_or-map}
use Rattle.names.specs.Numbers.{Name}
use Rattle.names.specs.Noting.{name_byte, name_from, name_at, names_at}
use Rattle.names.proofs.Same.{no_name}
use Rattle.naming.specs.Index.{IsName, name_of, IsNamed, variable_places}

name_front : (text : List ℕ) → take (length (name_from text)) text ≡ name_from text
unfolding name_from
name_front [] = refl
name_front (c ∷ cs) = go (name_byte c) (name_front cs)
  where
    go : (on : Bool) → take (length (name_from cs)) cs ≡ name_from cs
        → take (length (cond on (c ∷ name_from cs) [])) (c ∷ cs) ≡ cond on (c ∷ name_from cs) []
    go true ih = ap (λ (l : List ℕ). c ∷ l) ih
    go false ih = refl

name_within : (text : List ℕ) → length (name_from text) ≤ length text
unfolding name_from
name_within [] = omega arith
name_within (c ∷ cs) = go (name_byte c) (name_within cs)
  where
    go : (on : Bool) → length (name_from cs) ≤ length cs → length (cond on (c ∷ name_from cs) []) ≤ suc (length cs)
    go true h = omega arith
    go false h = omega arith

module _ (text : List ℕ) {at q : ℕ} (h : at < length text) (e : q ≡ length (name_at text at)) where
  pub name_ends : at + q ≤ length text
  name_ends = omega (arith, e, name_within (drop at text), length-drop at text)

  pub name_end_fits : length text < 2 ^ 63 → Fits w64 (at + q)
  name_end_fits s = record { fits = omega (arith, name_ends, s) }

  pub name_bytes : take (at + q - at) (drop at text) ≡ name_at text at
  name_bytes = let n : at + q - at ≡ length (name_at text at) = omega (arith, e) in rw n (name_front (drop at text))

pub named_at : (text places : List ℕ) (n : ℕ) → n < length places → name_of text places n ≡ name_at text (get_or places n 0)
named_at text places n h = here (get_or-map (λ (at : ℕ). name_at text at) places n 0)
  where
    default : (names : List Name) (k : ℕ) → k < length names → (a b : Name) → get_or names k a ≡ get_or names k b
    default [] k l a b = absurd (omega (arith, l))
    default (x ∷ xs) zero l a b = refl
    default (x ∷ xs) (suc k) l a b = default xs k (omega (arith, l)) a b

    here : get_or (names_at text places) n (name_at text 0) ≡ name_at text (get_or places n 0) → name_of text places n ≡ name_at text (get_or places n 0)
    here e = default (names_at text places) n (rw (length-map places (λ (at : ℕ). name_at text at)) h) [] (name_at text 0) ∙ e

pub none_named : (text places : List ℕ) (n : ℕ) → length places ≤ n → name_of text places n ≡ []
none_named text places n h = past (names_at text places) n (rw (length-map places (λ (at : ℕ). name_at text at)) h)
  where
    past : (names : List Name) (k : ℕ) → length names ≤ k → get_or names k [] ≡ []
    past [] k l = refl
    past (x ∷ xs) zero l = absurd (omega (arith, l))
    past (x ∷ xs) (suc k) l = past xs k (omega (arith, l))

module _ (text : Bor (List ℕ)) (places : List ℕ) {number : ℕ} where
  pub is_named : number < length places → {at : ℕ} → at ≡ get_or places number 0 → {r : Bor (List ℕ)} → IsName text at r → IsNamed text places number r
  is_named h {at} e i = record {
    bytes = i.bytes ∙ sym (rw e (named_at text.now places number h));
    place = λ _ l. rw (← e) (i.place (rw e l));
  }

-- the parts that are handed back
pub none_stands : (text : Bor (List ℕ)) {at : ℕ} → length text.now ≤ at → (ptr : ℕ × ℕ) → IsName text at (record { ref_ptr = ptr; now = [] })
none_stands text {at} h ptr = record { bytes = sym (no_name text.now at h); place = λ l. absurd (omega (arith, h, l)) }

pub name_stands : (text : Bor (List ℕ)) {at q : ℕ} → at < length text.now → q ≡ length (name_at text.now at)
    → IsName text at (record { ref_ptr = (text.ref_ptr.0, at + text.ref_ptr.1); now = take (at + q - at) (drop at text.now) })
name_stands text h e = record { bytes = name_bytes text.now h e; place = λ l. refl }

pub none_is_named : (text : Bor (List ℕ)) (places : List ℕ) {number : ℕ} → length places ≤ number → (ptr : ℕ × ℕ)
    → IsNamed text places number (record { ref_ptr = ptr; now = [] })
none_is_named text places {number} h ptr = record { bytes = sym (none_named text.now places number h); place = λ l _. absurd (omega (arith, h, l)) }

pub ruleset name_laws = (name_ends, name_end_fits, none_stands, name_stands, none_is_named, is_named)

pub no_variables : (index : List ℕ) {clause : ℕ} → 512 ≤ clause → [] ≡ variable_places index clause
no_variables index {clause} h = rw (le-ltb clause 512 h)

pub variables_there : (index : List ℕ) {clause : ℕ} → clause < 512
    → take (8704 + clause * 16 + 16 - (8704 + clause * 16)) (drop (8704 + clause * 16) index) ≡ variable_places index clause
variables_there index {clause} h = let e : 8704 + clause * 16 + 16 - (8704 + clause * 16) ≡ 16 = omega arith in rw (lt-ltb clause 512 h, e)
