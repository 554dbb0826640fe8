-- Writing in parts, with premises as the code has them.
use mathlib.Core.Path.{◌≡◌, refl, sym, ap, ◌∙◌}
use mathlib.Core.List.{List, [], ◌∷◌, ◌++◌}
use Prim.Native.Nat.{ℕ, zero, suc, ◌+◌, ◌-◌, ◌^◌, ◌≤◌, ◌<◌, min, max}
use native.Mathlib.Nat.{le_of_suc-le-suc, not-suc-le-zero}
use native.Mathlib.Omega.{arith, min_cases}
use lib.ListN.{length, set, length-append}
use Rattle.text.specs.Put.{put, after, Put}

pub length_put : (out : List ℕ) (at : ℕ) (text : List ℕ) → length (put out at text) ≡ length out
unfolding put
length_put [] at text = refl
length_put (o ∷ out) zero [] = refl
length_put (o ∷ out) zero (t ∷ text) = ap suc (length_put out zero text)
length_put (o ∷ out) (suc at) text = ap suc (length_put out at text)

put_none : (out : List ℕ) (at : ℕ) → put out at [] ≡ out
unfolding put
put_none [] at = refl
put_none (o ∷ out) zero = refl
put_none (o ∷ out) (suc at) = ap (λ (l : List ℕ). o ∷ l) (put_none out at)

-- nothing is written past the end
put_past : (out : List ℕ) (at : ℕ) (text : List ℕ) → length out ≤ at → put out at text ≡ out
unfolding put
put_past [] at text h = refl
put_past (o ∷ out) zero text h = absurd (not-suc-le-zero h)
put_past (o ∷ out) (suc at) text h = ap (λ (l : List ℕ). o ∷ l) (put_past out at text (le_of_suc-le-suc h))

put_more : (out : List ℕ) (at : ℕ) (a b : List ℕ) → put (put out at a) (at + length a) b ≡ put out at (a ++ b)
unfolding put
put_more [] at a b = refl
put_more (o ∷ out) zero [] b = refl
put_more (o ∷ out) zero (x ∷ a) b =
    let z : 0 + suc (length a) ≡ suc (0 + length a) = omega arith in rw z (ap (λ (l : List ℕ). x ∷ l) (put_more out 0 a b))
put_more (o ∷ out) (suc at) a b =
    let z : suc at + length a ≡ suc (at + length a) = omega arith in rw z (ap (λ (l : List ℕ). o ∷ l) (put_more out at a b))

-- one element is stored, where there is room for it
set_put : (out : List ℕ) (at b : ℕ) → set out at b ≡ put out at (b ∷ [])
unfolding put
set_put [] at b = refl
set_put (o ∷ out) zero b = ap (λ (l : List ℕ). b ∷ l) (sym (put_none out 0))
set_put (o ∷ out) (suc at) b = ap (λ (l : List ℕ). o ∷ l) (set_put out at b)

pub stored : (out : List ℕ) (at b : ℕ) → length out < 2 ^ 63 → at < 2 ^ 64 → {left : List ℕ} → left ≡ set out at b
    → {next : ℕ} → next ≡ min (at + 1) (2 ^ 64 - 1) → Put out at (b ∷ []) left next
unfolding after
stored out at b small fits e n = record { written = e ∙ set_put out at b; ends = omega arith }

pub one : (out : List ℕ) (at b : ℕ) → at < length out → Put out at (b ∷ []) (set out at b) (at + 1)
unfolding after
one out at b h = record { written = set_put out at b; ends = omega arith }

-- the rest goes on where a part ended
put_on : (out : List ℕ) (at : ℕ) (a rest : List ℕ) (next : ℕ) → next ≡ after (length out) at (length a)
    → put (put out at a) next rest ≡ put out at (a ++ rest)
unfolding after
put_on out at a rest next e =
    min_cases (at + length a) (max (length out) 0xFFFFFFFFFFFFFFFF) _
    (λ h m. let z : next ≡ at + length a = omega arith in rw z (put_more out at a rest))
    (λ h m. put_past (put out at a) next rest (omega (arith, length_put out at a))
    ∙ sym (put_past (put out at a) (at + length a) rest (omega (arith, length_put out at a)))
    ∙ put_more out at a rest)

-- what is still to be written, from a position, gives the whole
pub record Left (first : List ℕ) (from : ℕ) (whole : List ℕ) (out : List ℕ) (at : ℕ) (rest : List ℕ) : Type 0 where
  pub size : length out ≡ length first
  pub written : put out at rest ≡ put first from whole
  pub ends : after (length out) at (length rest) ≡ after (length first) from (length whole)

pub begin : (out : List ℕ) (at : ℕ) (whole : List ℕ) → Left out at whole out at whole
begin out at whole = record { size = refl; written = refl; ends = refl }

-- a buffer keeps its length
pub same_size : {out : List ℕ} {at : ℕ} {a out' : List ℕ} {at' : ℕ} → Put out at a out' at' → length out' ≡ length out
same_size {out} {at} {a} p = ap (λ (l : List ℕ). length l) p.written ∙ length_put out at a

stays : (n at : ℕ) → after n at 0 ≡ at
unfolding after
stays n at = omega arith

on_top : (top at a b : ℕ) → max (max at (min (at + a) top)) (min (max at (min (at + a) top) + b) top) ≡ max at (min (at + (a + b)) top)
on_top top at a b = omega arith

ends_on : (n at a b : ℕ) → after n (after n at a) b ≡ after n at (a + b)
unfolding after
ends_on n at a b = on_top (max n 0xFFFFFFFFFFFFFFFF) at a b

ended : {out : List ℕ} {at : ℕ} {a mid : List ℕ} {next : ℕ} → Put out at a mid next → (b : List ℕ)
    → after (length mid) next (length b) ≡ after (length out) at (length (a ++ b))
ended {out} {at} {a} {mid} {next} p b = rw (same_size p, p.ends, length-append a b) (ends_on (length out) at (length a) (length b))

module _ {first : List ℕ} {from : ℕ} {whole : List ℕ} where
  pub finish : {out : List ℕ} {at : ℕ} → Left first from whole out at [] → Put first from whole out at
  finish {out} {at} l = record { written = sym (put_none out at) ∙ l.written; ends = sym (stays (length out) at) ∙ l.ends }

  pub further : {out : List ℕ} {at : ℕ} (a rest : List ℕ) → Left first from whole out at (a ++ rest)
      → {out' : List ℕ} {at' : ℕ} → Put out at a out' at' → Left first from whole out' at' rest
  further {out} {at} a rest l {out'} {at'} p = record {
    size = same_size p ∙ l.size;
    written = rw p.written (put_on out at a rest at' p.ends) ∙ l.written;
    ends = ended p rest ∙ l.ends;
  }

-- two parts, one after the other
pub then : {out : List ℕ} {at : ℕ} {a mid : List ℕ} {next : ℕ} → Put out at a mid next
    → {b end : List ℕ} {last : ℕ} → Put mid next b end last → Put out at (a ++ b) end last
then {out} {at} {a} {mid} {next} p {b} {end} {last} q = record {
  written = q.written ∙ rw p.written (put_on out at a b next p.ends);
  ends = q.ends ∙ ended p b;
}
