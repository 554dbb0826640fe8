-- The laws of chains: a head at its item, a head below it, items past the head, and items that stay as they are.
use mathlib.Core.Path.{◌≡◌, refl, sym, ap, ◌∙◌}
use mathlib.Core.Bool.{Bool, true, false, cond}
use mathlib.Core.List.{List, [], ◌∷◌}
use Prim.Native.Nat.{ℕ, zero, suc, ◌+◌, ◌≤◌, ◌<◌}
use native.Mathlib.Nat.{zero-add, suc-add}
use native.Mathlib.Omega.{arith}
use borrow.Author.Tests.{eq-eqb, ne_eqb}
use lib.Dec.{eqb}
use Rattle.tableaux.specs.Leaves.{chain}

module _ {A : Type 0} (item : ℕ → A) (link : ℕ → ℕ) where
  pub chain_at : (n : ℕ) → chain item link (suc n) (suc n) ≡ item n ∷ chain item link n (link n)
  unfolding chain
  chain_at n = rw (eq-eqb (suc n) (suc n) refl)

  pub chain_below : (n head : ℕ) → head ≤ n → chain item link (suc n) head ≡ chain item link n head
  unfolding chain
  chain_below n head h = rw (ne_eqb head (suc n) (λ e. omega arith))

  -- what is past the head plays no part
  pub chain_past : (k more head : ℕ) → head ≤ k → chain item link (more + k) head ≡ chain item link k head
  chain_past k zero head h = rw zero-add
  chain_past k (suc more) head h = rw suc-add (chain_below (more + k) head (omega arith) ∙ chain_past k more head h)

  pub chain_none : (n : ℕ) → chain item link n 0 ≡ []
  unfolding chain
  chain_none zero = refl
  chain_none (suc n) = chain_below n 0 (omega arith) ∙ chain_none n

pub chain_same : {A : Type 0} (item item' : ℕ → A) (link link' : ℕ → ℕ) (n head : ℕ)
    → ((i : ℕ) → i < n → item i ≡ item' i) → ((i : ℕ) → i < n → link i ≡ link' i) → chain item link n head ≡ chain item' link' n head
unfolding chain
chain_same item item' link link' zero head same_item same-link = refl
chain_same item item' link link' (suc n) head same_item same-link =
    let rest : (h : ℕ) → chain item link n h ≡ chain item' link' n h =
    λ h. chain_same item item' link link' n h (λ i l. same_item i (omega arith)) (λ i l. same-link i (omega arith)) in
    rw (same_item n (omega arith), same-link n (omega arith), rest (link' n), rest head)
