-- Steps written: one law for each outcome of the code, with premises as the code has them.
use mathlib.Core.Bool.{Bool, true, false}
use mathlib.Core.List.{List, [], ◌∷◌, ◌++◌}
use mathlib.Core.Path.{◌≡◌, ap, ◌∙◌}
use mathlib.Core.Logic.{◌⊎◌, inl, inr}
use Prim.Native.Nat.{ℕ, ◌+◌, ◌≤◌, ◌<◌}
use Rattle.std.specs.Prelude.{Option, Some}
use Rattle.std.specs.Option.{option_eq}
use lib.Dec.{eqb}
use lib.ListN.{length, drop, get_or, drop_of_length-le}
use Rattle.words.specs.declared.Step.{Step}
use Rattle.words.specs.declared.Step.TheVariants.{Reduction, Extension, Restart, Malformed}
use Rattle.words.specs.Steps.{step_of}
use Rattle.names.specs.Numbers.{Name}
use Rattle.text.specs.Put.{Put}
use Rattle.text.specs.Quoted.{bytes}
use Rattle.text.specs.Digits.{decimal_text, hex_text}
use Rattle.text.proofs.Putting.{Left, further, finish, then as joined}
use Rattle.text.proofs.Written.{from_place}
use Rattle.written_proofs.specs.Steps.{name_of, begins, only, tells, clause_text, extension_text, step_text, steps_text}

named : (ns : List Name) {i k : ℕ} → k ≡ i → {n : List ℕ} → n ≡ name_of ns k → n ≡ name_of ns i
named ns ek en = en ∙ ap (λ (x : ℕ). name_of ns x) ek

module _ (ns : List Name) (i : ℕ) {k : ℕ} (ek : k ≡ i) {n : List ℕ} (en : n ≡ name_of ns k) {b : Bool} (eb : b ≡ tells ns n i) {out left : List ℕ} {from end : ℕ} where
  pub by_name : b ≡ true → Put out from n left end → Put out from (clause_text ns i) left end
  unfolding clause_text
  by_name t p = rw (← named ns ek en, ← eb, t) p

  pub by_number : b ≡ false → Put out from (decimal_text i) left end → Put out from (clause_text ns i) left end
  unfolding clause_text
  by_number f p = rw (← named ns ek en, ← eb, f) p

module _ (ns : List Name) (n : List ℕ) (i : ℕ) {b : Bool} (e : b ≡ begins n) where
  pub tells_not : b ≡ false → false ≡ tells ns n i
  unfolding tells
  tells_not f = rw (← e, f)

  pub tells_only : b ≡ true → {o : Option ℕ} → o ≡ only ns n → option_eq eqb o (Some i) ≡ tells ns n i
  unfolding tells
  tells_only t eo = rw (← e, t, eo)

pub extension_written : (ns : List Name) (i j : ℕ) {out a b left : List ℕ} {from x y end : ℕ}
    → Put out from (bytes "extend ") a x → Put a x (clause_text ns i) b y → Put b y (32 ∷ decimal_text j) left end
    → Put out from (extension_text ns i j) left end
extension_written ns i j p q r = joined (joined p q) r

module _ (ns : List Name) (w : ℕ) {s : Step} (e : s ≡ step_of w) {out left : List ℕ} {from end : ℕ} where
  pub step_reduction : {h : ℕ} → s ≡ Reduction h → Put out from (114 ∷ 101 ∷ 100 ∷ 117 ∷ 99 ∷ 101 ∷ 32 ∷ decimal_text h) left end → Put out from (step_text ns w) left end
  unfolding step_text
  step_reduction k p = rw (← e, k) p

  pub step_extension : {i j : ℕ} → s ≡ Extension i j → Put out from (extension_text ns i j) left end → Put out from (step_text ns w) left end
  unfolding step_text
  step_extension k p = rw (← e, k) p

  pub step_word : (s ≡ Restart) ⊎ (s ≡ Malformed) → Put out from (hex_text w) left end → Put out from (step_text ns w) left end
  unfolding step_text
  step_word (inl k) p = rw (← e, k) p
  step_word (inr k) p = rw (← e, k) p

module _ (ns : List Name) (steps : List ℕ) {first : List ℕ} {from : ℕ} {whole out : List ℕ} {at i : ℕ} (l : Left first from whole out at (steps_text ns (drop i steps))) where
  pub steps_more : i < length steps → {mid : List ℕ} {next : ℕ} → Put out at (step_text ns (get_or steps i 0)) mid next → {out' : List ℕ} {at' : ℕ} → Put mid next (10 ∷ []) out' at'
      → Left first from whole out' at' (steps_text ns (drop (i + 1) steps))
  unfolding steps_text
  steps_more h p q = further (step_text ns (get_or steps i 0) ++ (10 ∷ [])) (steps_text ns (drop (i + 1) steps)) (rw (from_place steps i h) at l) (joined p q)

  pub steps_last : length steps ≤ i → Put first from whole out at
  unfolding steps_text
  steps_last h = finish (rw (drop_of_length-le steps h) at l)
