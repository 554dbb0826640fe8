-- The outcomes of decoding and encoding a step, one law for each, with premises as the code has them.
use Rattle.std.proofs.Common.{◌≡◌, ℕ, Bool, true, false, sym, ◌∙◌, eq-eqb, ne_eqb}
use Rattle.words.specs.Fields.{bits, plain}
use Rattle.words.specs.Steps.{step_of, step_read}
use Rattle.words.specs.declared.Step.{Step}
use Rattle.words.specs.declared.Step.TheVariants.{Reduction, Extension, Malformed}

module _ (w : ℕ) {t : Bool} (e : t ≡ plain 0 6 w) where
  module _ (p : t ≡ true) {h : ℕ} (he : h ≡ bits 0 6 w) where
    pub no_height : h ≡ 0 → Malformed ≡ step_of w
    unfolding step_of
    no_height z = rw (sym e ∙ p, eq-eqb (bits 0 6 w) 0 (sym he ∙ z))

    pub height : (h ≡ 0 → ⊥) → Reduction h ≡ step_of w
    unfolding step_of
    height n = rw (sym e ∙ p, ne_eqb (bits 0 6 w) 0 (λ q. n (he ∙ q)), he)

  module _ (p : t ≡ false) {u : Bool} (f : u ≡ plain 1 12 w) where
    pub neither : u ≡ false → Malformed ≡ step_of w
    unfolding step_of
    neither q = rw (sym e ∙ p, sym f ∙ q)

    pub entered : u ≡ true → {k l : ℕ} → k ≡ bits 0 9 w → l ≡ bits 9 3 w → Extension k l ≡ step_of w
    unfolding step_of
    entered q ke le = rw (sym e ∙ p, sym f ∙ q, ke, le)

-- the outcomes of decoding where leaves may be restarted
module _ (restarts : Bool) (w : ℕ) where
  pub read_other : (w ≡ 0x80000000 → ⊥) → {s : Step} → s ≡ step_of w → s ≡ step_read restarts w
  read_other n {s} e = go restarts
    where
      go : (b : Bool) → s ≡ step_read b w
      go true = rw (ne_eqb w 0x80000000 n) e
      go false = e
