-- The clauses behind a proof, line by line, with premises as the code has them.
use mathlib.Core.List.{List, [], ◌∷◌, ◌++◌, append_assoc, append-nil}
use mathlib.Core.Path.{◌≡◌, refl, sym, ap, ap₂, ◌∙◌}
use Prim.Native.Nat.{ℕ, zero, suc, ◌+◌, ◌-◌, ◌≤◌, ◌<◌}
use native.Mathlib.Numerals.{add-one}
use native.Mathlib.Omega.{arith}
use lib.ListN.{length, get_or}
use mir.Syntax.{w32}
use mir.Val.{Fits}
use Rattle.words.specs.declared.Step.{Step}
use Rattle.table.specs.Syntax.{Clause, Table}
use Rattle.names.specs.Numbers.{Name}
use Rattle.text.specs.Put.{Put}
use Rattle.text.specs.Quoted.{bytes}
use Rattle.text.proofs.Putting.{Left, begin, finish, further, then}
use Rattle.assistant.specs.Results.{behind_text}
use Rattle.listing.specs.Behind.{copied_by, Listed, if_copied, copied_from, copied, asked, listed}
use Rattle.listing.specs.Counting.{Counters, Counted}
use Rattle.answering.specs.Results.{behind_lines, clauses_text}
use Rattle.answering.specs.Telling.{used_line, used_lines, used_text}

abbrev last_line : List Name → List ℕ → ℕ → List ℕ
last_line ns copies question = behind_text (get_or ns question []) (get_or copies question 0 + 1)

-- what is still to be written, from a number on, gives the whole
pub record Lining (ns : List Name) (copies : List ℕ) (question : ℕ) (first : List ℕ) (from : ℕ) (out : List ℕ) (at number : ℕ) : Type 0 where
  pub low : number ≤ question
  pub left : Left first from (used_text ns copies question) out at (used_lines ns copies number (question - number) ++ last_line ns copies question)

pub lines_begin : (ns : List Name) (copies : List ℕ) (question : ℕ) (first : List ℕ) (from : ℕ) → Lining ns copies question first from first from 0
unfolding used_text
lines_begin ns copies question first from =
    let all : question - 0 ≡ question = omega arith in
    record { low = omega arith; left = rw all (begin first from (used_text ns copies question)) }

module _ (copies : List ℕ) {question : ℕ} where
  pub copies_there : Counters copies → question < 512 → {number : ℕ} → number < question → number < length copies
  copies_there c h l = omega (arith, c.long)

  pub question_there : Counters copies → question < 512 → question < length copies
  question_there c h = omega (arith, c.long)

pub copies_fit : (copies : List ℕ) → Counters copies → (question : ℕ) → Fits w32 (get_or copies question 0 + 1)
copies_fit copies c question = record { fits = omega (arith, c.low question) }

module _ {ns : List Name} {copies : List ℕ} {question : ℕ} {first : List ℕ} {from : ℕ} {out : List ℕ} {at number : ℕ} (i : Lining ns copies question first from out at number) where
  module _ (h : number < question) {used : ℕ} (e : used ≡ get_or copies number 0) where
    further-on : used_lines ns copies number (question - number) ≡ used_line ns number used (used_lines ns copies (number + 1) (question - (number + 1)))
    unfolding used_lines
    further-on =
        let n : question - number ≡ suc (question - (number + 1)) = omega (arith, h) in
        rw (n, e, add-one number)

    pub line_passed : used ≡ 0 → Lining ns copies question first from out at (number + 1)
    line_passed z = record {
      low = omega (arith, h);
      left = rw (further-on ∙ ap (λ (u : ℕ). used_line ns number u (used_lines ns copies (number + 1) (question - (number + 1)))) z) at i.left;
    }

    pub line_put : (used ≡ 0 → ⊥) → {name : List ℕ} → name ≡ get_or ns number [] → {out' : List ℕ} {at' : ℕ} → Put out at (behind_text name used) out' at'
        → Lining ns copies question first from out' at' (number + 1)
    line_put n en p = record {
      low = omega (arith, h);
      left = further (behind_text (get_or ns number []) used) (used_lines ns copies (number + 1) (question - (number + 1)) ++ last_line ns copies question)
          (rw (further-on ∙ some used n, append_assoc (behind_text (get_or ns number []) used) (used_lines ns copies (number + 1) (question - (number + 1))) (last_line ns copies question)) at i.left)
          (rw en at p);
    }
      where
        some : (u : ℕ) → (u ≡ 0 → ⊥) → used_line ns number u (used_lines ns copies (number + 1) (question - (number + 1)))
            ≡ behind_text (get_or ns number []) u ++ used_lines ns copies (number + 1) (question - (number + 1))
        some zero n = absurd (n refl)
        some (suc u) n = refl

  pub lines_end : question ≤ number → {name : List ℕ} → name ≡ get_or ns question [] → {k : ℕ} → k ≡ get_or copies question 0 + 1
      → {out' : List ℕ} {at' : ℕ} → Put out at (behind_text name k) out' at' → Put first from (used_text ns copies question) out' at'
  unfolding used_lines
  lines_end h en ek p =
      let none : question - number ≡ 0 = omega (arith, h) in
      finish (further (last_line ns copies question) [] (rw (append-nil (last_line ns copies question)) (rw none at i.left)) (rw (en, ek) at p))

pub ruleset line_laws = (lines_begin, copies_there, question_there, copies_fit, line_passed, line_put, lines_end)

-- by the counters they are the listed clauses
lines_append : (ns : List Name) (xs ys : List Listed) → behind_lines ns (xs ++ ys) ≡ behind_lines ns xs ++ behind_lines ns ys
unfolding behind_lines
lines_append ns [] ys = refl
lines_append ns (x ∷ xs) ys =
    ap (λ (l : List ℕ). behind_text (get_or ns x.number []) x.copies ++ l) (lines_append ns xs ys)
    ∙ sym (append_assoc (behind_text (get_or ns x.number []) x.copies) (behind_lines ns xs) (behind_lines ns ys))

module _ (ns : List Name) (steps : List Step) (copies : List ℕ) (c : Counted steps copies) where
  lines_are : (cs : List Clause) (number : ℕ) → number + length cs ≤ 512 → used_lines ns copies number (length cs) ≡ behind_lines ns (copied_from (copied_by steps) number cs)
  unfolding used_lines behind_lines copied_from if_copied
  lines_are [] number h = refl
  lines_are (x ∷ xs) number h =
      rw (c.counts number (omega (arith, h))) (go (copied_by steps number) (lines_are xs (suc number) (omega (arith, h))))
    where
      go : (n : ℕ) → used_lines ns copies (suc number) (length xs) ≡ behind_lines ns (copied_from (copied_by steps) (suc number) xs)
          → used_line ns number n (used_lines ns copies (suc number) (length xs)) ≡ behind_lines ns (if_copied number n x (copied_from (copied_by steps) (suc number) xs))
      go zero ih = ih
      go (suc n) ih = ap (λ (l : List ℕ). behind_text (get_or ns number []) (suc n) ++ l) ih

  used-listed : (t : Table) → length t.clauses < 512 → used_text ns copies (length t.clauses) ≡ behind_lines ns (listed t steps)
  unfolding used_text listed copied asked behind_lines
  used-listed t h =
      let q = length t.clauses in
      let last : get_or copies q 0 + 1 ≡ suc (copied_by steps q) = add-one (get_or copies q 0) ∙ ap suc (c.counts q h) in
      rw last
      (ap₂ (λ (a b : List ℕ). a ++ b) (lines_are t.clauses 0 (omega (arith, h))) (sym (append-nil (behind_text (get_or ns q []) (suc (copied_by steps q)))))
      ∙ sym (lines_append ns (copied_from (copied_by steps) 0 t.clauses) (asked t steps ∷ [])))

  pub clauses_told : (t : Table) → length t.clauses < 512 → {q : ℕ} → q ≡ length t.clauses
      → {o₀ o₁ o₂ : List ℕ} {n₀ n₁ n₂ : ℕ} → Put o₀ n₀ (bytes "Clauses behind it, and how often each was used:\n") o₁ n₁
      → Put o₁ n₁ (used_text ns copies q) o₂ n₂ → Put o₀ n₀ (clauses_text ns t steps) o₂ n₂
  unfolding clauses_text
  clauses_told t h e p u = then p (rw (e, used-listed t h) at u)
