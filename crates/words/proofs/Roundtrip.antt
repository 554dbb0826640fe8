-- Encoding and then decoding a well-formed step gives it back, and so does decoding and then encoding a word that is not malformed.
use Rattle.std.proofs.Common.{◌≡◌, ℕ, ◌+◌, ◌*◌, ◌^◌, ◌<◌, ◌≤◌, Bool, true, false, cond, ◌&&◌, eqb, ltb, leb, sym, refl, arith, ltb-true, lt-ltb, eqb-true, le-leb, leb-true}
use mathlib.Core.Bool.{and-eq-true_iff}
use borrow.Author.Tests.{eqb-false}
use Rattle.words.specs.Fields.{bits, kind_of, plain}
use Rattle.words.specs.Steps.{well_formed, step_word, encoded, step_of, step_read}
use Rattle.words.specs.declared.Step.{Step}
use Rattle.words.specs.declared.Step.TheVariants.{Reduction, Extension, Restart, Malformed}
use Rattle.words.proofs.Packed.{plain_is, plain_not, plain_word, bits_small}
use Rattle.words.proofs.StepWords.{no_height, height, neither, entered, read_other}

module _ (h : ℕ) (least : 1 ≤ h) (most : h ≤ 63) where
  reduction-back : step_of h ≡ Reduction h
  reduction-back =
      let same : bits 0 6 h ≡ h = omega arith in
      sym (height h refl (plain_is 0 6 h (omega arith) (omega arith)) (sym same) (λ e. omega arith))

module _ (k l : ℕ) (ks : k < 2 ^ 9) (ls : l < 2 ^ 3) where
  extension-back : step_of (2 ^ 30 + l * 2 ^ 9 + k) ≡ Extension k l
  extension-back =
      let w = 2 ^ 30 + l * 2 ^ 9 + k in
      let kind : kind_of w ≡ 1 = omega arith in
      let other : plain 0 6 w ≡ false = plain_not 0 6 w (λ e. omega arith) in
      let this : plain 1 12 w ≡ true = plain_is 1 12 w kind (omega arith) in
      sym (entered w refl other refl this (omega arith) (omega arith))

pub decode_encode : (restarts : Bool) (s : Step) → well_formed restarts s ≡ true → step_read restarts (step_word s) ≡ s
unfolding well_formed step_word
decode_encode restarts (Reduction h) e =
    let both = (and-eq-true_iff (leb 1 h) (leb h 63)).0 e in
    let most = leb-true h 63 both.1 in
    sym (read_other restarts h (λ f. omega arith) (sym (reduction-back h (leb-true 1 h both.0) most)))
decode_encode restarts (Extension k l) e =
    let both = (and-eq-true_iff (ltb k (2 ^ 9)) (ltb l (2 ^ 3))).0 e in
    let ks = ltb-true k (2 ^ 9) both.0 in
    let ls = ltb-true l (2 ^ 3) both.1 in
    sym (read_other restarts (2 ^ 30 + l * 2 ^ 9 + k) (λ f. omega arith) (sym (extension-back k l ks ls)))
decode_encode restarts Restart e = rw e
decode_encode restarts Malformed e = let z : ◌≡◌ {A = ℕ} 0 1 = cc in absurd (omega arith)

-- a step that is well formed in one reading is so where leaves are restarted
formed_in_all : (restarts : Bool) (s : Step) → well_formed restarts s ≡ true → well_formed true s ≡ true
unfolding well_formed
formed_in_all restarts (Reduction h) e = e
formed_in_all restarts (Extension k l) e = e
formed_in_all restarts Restart e = refl
formed_in_all restarts Malformed e = e

-- the malformed word is malformed in both readings
malformed_read : (restarts : Bool) → step_read restarts 0xC0000000 ≡ Malformed
unfolding step_of
malformed_read restarts = sym (read_other restarts 0xC0000000 (λ f. omega arith) refl)

not_formed : (restarts : Bool) (s : Step) → well_formed restarts s ≡ false → step_read restarts (encoded s) ≡ Malformed
unfolding well_formed encoded step_word step_of
not_formed restarts (Reduction h) e = rw e (malformed_read restarts)
not_formed restarts (Extension k l) e = rw e (malformed_read restarts)
not_formed restarts Restart e = rw e
not_formed restarts Malformed e = malformed_read restarts

encoded_at : (restarts : Bool) (s : Step) (b : Bool) → well_formed restarts s ≡ b → step_read restarts (encoded s) ≡ cond b s Malformed
unfolding encoded
encoded_at restarts s true e = rw (formed_in_all restarts s e) (decode_encode restarts s e)
encoded_at restarts s false e = not_formed restarts s e

-- every step, well formed or not
pub decode_encoded : (restarts : Bool) (s : Step) → step_read restarts (encoded s) ≡ cond (well_formed restarts s) s Malformed
decode_encoded restarts s = encoded_at restarts s (well_formed restarts s) refl

-- a step with its word, as decoding gives it where the word is not malformed
pub record Kept (w : ℕ) (s : Step) : Type 0 where
  pub word : step_word s ≡ w
  pub well : (restarts : Bool) → well_formed restarts s ≡ true

module _ (w : ℕ) (fits : w < 2 ^ 32) (sound : step_of w ≡ Malformed → ⊥) where
  module _ (p : plain 0 6 w ≡ true) where
    reduction-kept : (z : Bool) → eqb (bits 0 6 w) 0 ≡ z → Kept w (step_of w)
    unfolding step_word well_formed
    reduction-kept true e = absurd (sound (sym (no_height w refl p refl (eqb-true (bits 0 6 w) 0 e))))
    reduction-kept false e =
        let some = eqb-false (bits 0 6 w) 0 e in
        rw (sym (height w refl p refl some))
        (record {
          word = omega (arith, plain_word 0 6 w (omega arith) fits p);
          well = λ restarts. rw (le-leb 1 (bits 0 6 w) (omega (arith, some)), le-leb (bits 0 6 w) 63 (omega arith));
        })

  module _ (p : plain 0 6 w ≡ false) where
    extension_kept : (u : Bool) → plain 1 12 w ≡ u → Kept w (step_of w)
    unfolding step_word well_formed
    extension_kept false e = absurd (sound (sym (neither w refl p refl e)))
    extension_kept true e =
        rw (sym (entered w refl p refl e refl refl))
        (record {
          word = omega (arith, plain_word 1 12 w (omega arith) fits e);
          well = λ restarts. rw (lt-ltb (bits 0 9 w) (2 ^ 9) (bits_small 0 9 w), lt-ltb (bits 9 3 w) (2 ^ 3) (bits_small 9 3 w));
        })

  kept_at : (t : Bool) → plain 0 6 w ≡ t → Kept w (step_of w)
  kept_at true p = reduction-kept p (eqb (bits 0 6 w) 0) refl
  kept_at false p = extension_kept p (plain 1 12 w) refl

  pub decoded : Kept w (step_of w)
  decoded = kept_at (plain 0 6 w) refl

  pub encode_decode : encoded (step_of w) ≡ w
  unfolding encoded
  encode_decode = rw (decoded.well true) decoded.word

-- and so in both readings
pub encode_read : (restarts : Bool) (w : ℕ) → w < 2 ^ 32 → (step_read restarts w ≡ Malformed → ⊥) → encoded (step_read restarts w) ≡ w
unfolding encoded well_formed step_word
encode_read restarts w fits sound = go (restarts && eqb w 0x80000000) refl
  where
    go : (b : Bool) → (restarts && eqb w 0x80000000) ≡ b → encoded (step_read restarts w) ≡ w
    go true e = rw e (sym (eqb-true w 0x80000000 ((and-eq-true_iff restarts (eqb w 0x80000000)).0 e).1))
    go false e = rw e (encode_decode w fits (λ f. sound (rw e f)))
