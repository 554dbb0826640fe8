-- A search that was made, and the machine: where the depth is over the size of a good state, the machine pays for the tries and gives the outcome.
use mathlib.Core.Path.{◌≡◌, sym, ◌∙◌}
use mathlib.Core.Bool.{false}
use mathlib.Core.List.{List, ◌∷◌}
use Prim.Native.Nat.{ℕ, zero, suc, ◌+◌, ◌≤◌, ◌<◌}
use native.Mathlib.Nat.{not-suc-le-zero}
use native.Mathlib.Omega.{arith}
use Rattle.rules.specs.System.{Ending, found, ◌∈◌, first, later, Searched}
use Rattle.rules.specs.Machinery.Run.{Program, system, Result, verdict, after, search, one, row}
use Rattle.rules.proofs.System.Ways.{Bounded}
use Rattle.rules.proofs.System.Induction.{Claim, claimed}
use Rattle.rules.proofs.System.Pay.{pay, pay_zero, pay_broke, pay_one, pay_add, pay_alike, after_found, after_none}
use Rattle.rules.proofs.System.Steps.{search_done, search_open, one_fails, one_enters, row_end, row_broke, row_step}

module _ (P : Program) where
  open P use {State, Move, done, moves, next}

  -- a row pays one try more than what comes of its first move
  row-pays : (depth : ℕ) (s : State) (m : Move) (ms : List Move) (n : ℕ) (rest : ℕ → Result Move)
      → ((left : ℕ) → after (one P depth left s m) (λ l. row P depth l s ms) ≡ pay n left rest)
      → (budget : ℕ) → row P depth budget s (m ∷ ms) ≡ pay (suc n) budget rest
  row-pays depth s m ms n rest h zero = row_broke P depth s m ms ∙ sym (pay_broke n rest)
  row-pays depth s m ms n rest h (suc left) = row_step P depth left s m ms ∙ h left ∙ sym (pay_one n left rest)

module _ (P : Program) (B : Bounded (system P)) where
  open P use {State, Move, done, moves, next}
  open B use {Good, size, kept, falls}

  pays : Claim (system P)
  unfolding after
  pays =
      record {
        Of = λ s o n. Good s → (depth : ℕ) → size s < depth → (budget : ℕ) → search P depth budget s ≡ pay n budget (verdict o);
        OfRow = λ s ms o n. Good s → done s ≡ false → ((m : Move) → m ∈ ms → m ∈ moves s) → (depth : ℕ) → size s ≤ depth
            → (budget : ℕ) → row P depth budget s ms ≡ pay n budget (verdict o);
        if_arrived = λ {s} e good. elim [
          | zero ↦ λ deep budget. absurd (not-suc-le-zero deep)
          | suc depth ↦ λ deep budget. search_done P depth budget s e ∙ sym (pay_zero budget _)
        ];
        if_looked = λ {s} e h good. elim [
          | zero ↦ λ deep budget. absurd (not-suc-le-zero deep)
          | suc depth ↦ λ deep budget. search_open P depth budget s e ∙ h good e (λ m i. i) depth (omega arith) budget
        ];
        if_none_left = λ {s} good e i depth deep budget. row_end P depth budget s ∙ sym (pay_zero budget _);
        if_fails = λ {s} {m} {ms} {o} {n} f h good e i depth deep.
            row-pays P depth s m ms n (verdict o) λ left.
            rw (one_fails P depth left s m f) (h good e (λ k j. i k (later j)) depth deep left);
        if_finds = λ {s} {t} {m} {ms} {p} {n} f h good e i depth deep.
            row-pays P depth s m ms n (verdict (found (m ∷ p))) λ left.
            rw (one_enters P depth left s m t f, h (kept good e (i m first) f) depth (omega (arith, falls good e (i m first) f)) left)
            (after_found n left m p _);
        if_in_vain = λ {s} {t} {m} {ms} {o} {n} {k} f h g good e i depth deep.
            row-pays P depth s m ms (n + k) (verdict o) λ left.
            rw (one_enters P depth left s m t f, h (kept good e (i m first) f) depth (omega (arith, falls good e (i m first) f)) left)
            (after_none n left m _ ∙ pay_alike n left _ _ (g good e (λ k j. i k (later j)) depth deep) ∙ sym (pay_add n k left (verdict o)));
      }

  pub search_pays : {s : State} {o : Ending Move} {n : ℕ} → Good s → Searched (system P) s o n → (depth : ℕ) → size s < depth
      → (budget : ℕ) → search P depth budget s ≡ pay n budget (verdict o)
  unfolding pays
  search_pays good d = claimed (system P) pays d good
