-- Two applications of one symbol: they are known to be equal, or their arguments are made so. The outcomes, one law for each, with premises as the code has them.
use Rattle.std.specs.Prelude.{Result, Ok, Err}
use lib.ListN.{set}
use mathlib.Core.Bool.{Bool, true, false}
use mathlib.Core.List.{List}
use mathlib.Core.Path.{◌≡◌, sym, ◌∙◌, ap}
use native.Mathlib.Omega.{arith}
use Prim.Native.Nat.{ℕ, ◌+◌, ◌*◌, ◌≤◌, ◌<◌}
use Rattle.words.specs.Fields.{arity_of}
use Rattle.table.specs.Syntax.{under}
use Rattle.rules.specs.Machinery.Unify.{made, solution, unify}
use Rattle.rules.proofs.Unify.{unify_answers}
use Rattle.rules.proofs.Unify.Solution.{solution_satisfies}
use Rattle.unification.specs.Places.{most_references}
use Rattle.unification.specs.State.{term_of, bindings_in}
use Rattle.unification.specs.Good.{word_at, Ahead, Good, Outcome}
use Rattle.unification.specs.Thorough.{Equal, Rooted, Quiet, pairs_met, Applied, Spent, Meets}
use Rattle.unification.specs.declared.unify.Unmet.{Unmet}
use Rattle.unification.specs.declared.unify.Unmet.TheVariants.{Clash}
use Rattle.unification.proofs.Walk.{small}
use Rattle.unification.proofs.KeptStarts.{same_term}
use Rattle.unification.proofs.Push.{grown_none}
use Rattle.unification.proofs.Heft.{heft}
use Rattle.unification.proofs.Thorough.{noting_then, noting_set, equal_grown, notes_same, notes_link}
use Rattle.unification.proofs.Meet.{meets_as, meets_still}

module _ {f m n : List ℕ} {r s : ℕ} (h : Good f m) (k : Quiet f m n) (p : Applied f m r s) where
  abbrev Goal : List ℕ → List ℕ → Result (Unit {0}) Unmet → Type 0
  Goal m' n' q = Meets f m m' n n' q (unify (bindings_in f m) (term_of f m r) (term_of f m s))

  pub applied_left : r < most_references
  applied_left = small h p.left

  pub applied_right : s < most_references
  applied_right = small h p.right

  -- so many arguments, as they are read
  module _ {w count : ℕ} (ew : w ≡ word_at f m r) (ec : count ≡ arity_of w) where
    applied-count : count ≡ arity_of (word_at f m r)
    applied-count = ec ∙ ap arity_of ew

    pub applied_lefts : Ahead f m (r + 1) count
    applied_lefts = rw applied-count p.arguments.lefts

    pub applied_rights : Ahead f m (s + 1) count
    applied_rights = rw applied-count p.arguments.rights

    pub applied_falls : 3 * heft f m (r + 1) count < 3 * heft f m (r + 1) (arity_of (word_at f m r)) + 1
    applied_falls = let z : heft f m (r + 1) count ≡ heft f m (r + 1) (arity_of (word_at f m r)) = ap (heft f m (r + 1)) applied-count in omega arith

  module _ {a b : ℕ} (ga : Rooted n r a) (gb : Rooted n s b) where
    pub applied_known : a ≡ b → Goal m n (Ok tt)
    applied_known e =
        meets_still
        h
        k
        ((unify_answers (bindings_in f m) h.sound (term_of f m r) (term_of f m s)).unchanged
        (ga.equal f m k.links ∙ ap (λ (t : ℕ). under (solution (bindings_in f m)) (term_of f m t)) e ∙ sym (gb.equal f m k.links)))

    module _ {n₁ : List ℕ} {q₁ : Bool} (t : Spent n n₁ q₁) where
      pub applied_tired : q₁ ≡ true → Goal m n₁ (Err Clash)
      applied_tired e =
          record {
            grown = grown_none h;
            noting = t.noting;
            on = λ d. absurd (let z : ◌≡◌ {A = ℕ} 0 1 = cc in omega arith);
            outcome = λ l. absurd (omega (arith, t.tired e));
          }

      pub applied_quiet : q₁ ≡ false → Quiet f m n₁
      applied_quiet e = notes_same k t.others (t.on e)

      module _ {m' n₂ : List ℕ} {q : Result (Unit {0}) Unmet} {w count : ℕ} (ew : w ≡ word_at f m r) (ec : count ≡ arity_of w) (met : Meets f m m' n₁ n₂ q (pairs_met f m (r + 1) (s + 1) count)) where
        pub applied_met : Goal m' n₂ q
        applied_met =
            meets_as
            (p.same ∙ ap (pairs_met f m (r + 1) (s + 1)) (sym (applied-count ew ec)))
            (record { grown = met.grown; noting = noting_then t.noting met.noting; on = met.on; outcome = met.outcome })

        module _ (e : q ≡ Ok tt) where
          quiet : Quiet f m' n₂
          quiet = met.on e

          so : unify (bindings_in f m) (term_of f m r) (term_of f m s) ≡ made (bindings_in f m')
          so = let o : Outcome {T = Unit {0}} f m' (Ok tt) (unify (bindings_in f m) (term_of f m r) (term_of f m s)) = rw e at (applied_met.outcome quiet.awake) in o

          equal : Equal f m' r s
          equal =
              rw (same_term met.grown.kept.copies f r (omega (arith, applied_left)), same_term met.grown.kept.copies f s (omega (arith, applied_right)))
              (((unify_answers (bindings_in f m) h.sound (term_of f m r) (term_of f m s)).solutions so (solution (bindings_in f m'))).0
              (solution_satisfies (bindings_in f m') met.grown.good.sound)).1

          roots : Equal f m' a b
          roots =
              sym (equal_grown met.grown applied_left (omega (arith, applied_left, ga.low)) (ga.equal f m k.links))
              ∙ equal
              ∙ equal_grown met.grown applied_right (omega (arith, applied_right, gb.low)) (gb.equal f m k.links)

          linked : {from to : ℕ} → from < most_references → to < from → Equal f m' from to → {n₃ : List ℕ} → n₃ ≡ set n₂ (1 + from) (to + 1) → Goal m' n₃ (Ok tt)
          linked {from} {to} lf lt q en =
              record {
                grown = met.grown;
                noting = noting_then (noting_then t.noting met.noting) (noting_set (1 + from) (to + 1) (omega arith) en);
                on = λ _. notes_link quiet lf lt q en;
                outcome = λ _. so;
              }

          pub applied_up : a < b → {n₃ : List ℕ} → n₃ ≡ set n₂ (1 + b) (a + 1) → Goal m' n₃ (Ok tt)
          applied_up l en = linked (omega (arith, applied_right, gb.low)) l (sym roots) en

          pub applied_down : (a ≡ b → ⊥) → b ≤ a → {n₃ : List ℕ} → n₃ ≡ set n₂ (1 + a) (b + 1) → Goal m' n₃ (Ok tt)
          applied_down d l en = linked (omega (arith, applied_left, ga.low)) (omega arith) roots en
