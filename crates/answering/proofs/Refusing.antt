-- Why a text is refused, one law for each outcome, with premises as the code has them.
use Rattle.clausetext.specs.Texts.{Verdict}
use Rattle.std.specs.Prelude.{Ok, Err}
use Rattle.clausetext.specs.declared.judge.Counts.{Counts}
use mathlib.Core.List.{List}
use mathlib.Core.Path.{◌≡◌, sym, ap, ◌∙◌}
use Prim.Native.Nat.{ℕ}
use native.Mathlib.Omega.{arith}
use Rattle.clausetext.specs.Judging.{judged}
use Rattle.tptp.specs.declared.TextRead.{TextRead}
use Rattle.text.specs.Put.{Put}
use Rattle.text.specs.Quoted.{bytes}
use Rattle.text.proofs.Putting.{then}
use Rattle.limits.specs.Told.{Told}
use Rattle.assistant.specs.Refusals.{wrong_text, unasked_text, positive_text}
use Rattle.assistant.specs.Results.{szs_text}
use Rattle.answering.specs.Refusing.{counted, questions_in, Refusal, Refused}

module _ (text : List ℕ) {v : Verdict} (is : v ≡ judged text) where
  pub none_there : {place : ℕ} → v ≡ Err place → 0 ≡ questions_in text
  unfolding questions_in
  none_there e = ap (λ (w : Verdict). counted w) (sym e ∙ is)

  pub so_many : {c : Counts} → v ≡ Ok c → c.questions ≡ questions_in text
  unfolding questions_in
  so_many e = ap (λ (w : Verdict). counted w) (sym e ∙ is)

-- one status is not another
other : {A : Type 0} (m n : ℕ) → (m ≡ n → ⊥) → {status : ℕ} → status ≡ m → status ≡ n → A
other m n h e f = absurd (h (sym e ∙ f))

module _ (name text : List ℕ) (read : TextRead) {o₀ o₁ : List ℕ} {n₀ n₁ : ℕ} where
  pub refused_wrong : read.status ≡ 17 → {place : ℕ} → place ≡ read.place → Put o₀ n₀ (wrong_text name text place) o₁ n₁ → Refusal name text read o₀ n₀ o₁ n₁
  refused_wrong e ep p = record {
    wrong = λ _. rw ep at p;
    unasked = λ f. other 17 18 (λ z. omega (arith, z)) e f;
    positive = λ f. other 17 9 (λ z. omega (arith, z)) e f;
    over = λ a b c. absurd (a e);
  }

  pub refused_unasked : read.status ≡ 18 → {q : ℕ} → q ≡ questions_in text → Put o₀ n₀ (unasked_text name text q) o₁ n₁ → Refusal name text read o₀ n₀ o₁ n₁
  refused_unasked e eq p = record {
    wrong = λ f. other 18 17 (λ z. omega (arith, z)) e f;
    unasked = λ _. rw eq at p;
    positive = λ f. other 18 9 (λ z. omega (arith, z)) e f;
    over = λ a b c. absurd (b e);
  }

  pub refused_positive : read.status ≡ 9 → Put o₀ n₀ (positive_text name text) o₁ n₁ → Refusal name text read o₀ n₀ o₁ n₁
  refused_positive e p = record {
    wrong = λ f. other 9 17 (λ z. omega (arith, z)) e f;
    unasked = λ f. other 9 18 (λ z. omega (arith, z)) e f;
    positive = λ _. p;
    over = λ a b c. absurd (c e);
  }

  pub refused_over : (read.status ≡ 17 → ⊥) → (read.status ≡ 18 → ⊥) → (read.status ≡ 9 → ⊥) → Told name text o₀ n₀ o₁ n₁ → Refusal name text read o₀ n₀ o₁ n₁
  refused_over a b c t = record { wrong = λ f. absurd (a f); unasked = λ f. absurd (b f); positive = λ f. absurd (c f); over = λ _ _ _. t }

pub refused_is : (name text : List ℕ) (read : TextRead) {o₀ o₁ o₂ : List ℕ} {n₁ n₂ : ℕ} → Refusal name text read o₀ 0 o₁ n₁ → Put o₁ n₁ (szs_text (bytes "InputError") name) o₂ n₂
    → Refused name text read o₀ o₂ n₂
refused_is name text read p q = record {
  wrong = λ e. then (p.wrong e) q;
  unasked = λ e. then (p.unasked e) q;
  positive = λ e. then (p.positive e) q;
  over = λ a b c short cs y. then ((p.over a b c).over short cs y) q;
}

pub ruleset question_laws = (none_there, so_many)

pub ruleset refusal_laws = (refused_wrong, refused_unasked, refused_positive, refused_over)
