-- The atoms of two literals made equal: laws with premises as the code has them.
use Rattle.std.specs.Prelude.{Result}
use borrow.Author.Tests.{ltb-true, ltb-false}
use lib.Dec.{ltb}
use lib.ListN.{length, drop_of_length-le}
use mathlib.Core.List.{List}
use mathlib.Core.Option.{none}
use mathlib.Core.Path.{◌≡◌, refl, sym, ◌∙◌, ap, ap₂}
use native.Mathlib.Nat.{add-zero}
use native.Mathlib.Omega.{arith}
use Prim.Native.Nat.{ℕ, ◌+◌, ◌/◌, ◌%◌, ◌≤◌, ◌<◌, ◌^◌}
use Rattle.words.specs.Fields.{symbol_of, arity_of}
use Rattle.table.specs.Syntax.{Terms, nil, ◌then◌, app, arity, literal_under}
use Rattle.table.specs.Reading.{fault}
use Rattle.table.specs.Decode.{first, terms_from}
use Rattle.rules.specs.Tableau.{fresh, atom}
use Rattle.rules.specs.Machinery.Unify.{unify, unifies}
use Rattle.rules.proofs.Unify.Tests.{decide}
use Rattle.rules.proofs.Unify.Laws.{unify_applied}
use Rattle.rules.proofs.Unify.Solution.{follow_app}
use Rattle.unification.specs.Places.{work_words, most_copies}
use Rattle.unification.specs.State.{start_at, copies_of, own_words, words_at, Owing, terms_of, literal_at_reference, bindings_in}
use Rattle.unification.specs.Good.{word_at, Inside, Ahead, LiteralStands, Alike, Good, Met}
use Rattle.unification.specs.declared.unify.Unmet.{Unmet}
use Rattle.unification.proofs.TermLists.{arity_under}
use Rattle.unification.proofs.Words.{some_literal, literal_begins, exact}
use Rattle.unification.proofs.References.{further, variables_at, tail_of, own_inside, words_here, next_points, next_copy, next_first}
use Rattle.unification.proofs.Meet.{met_as}

first_all : {X : Type 0} (ts : Terms X) → first (arity ts) ts ≡ ts
unfolding first arity
first_all nil = refl
first_all (t then ts) = ap (t then◌) (first_all ts)

module _ {f m : List ℕ} {r : ℕ} (p : LiteralStands f m r) where
  literal-left : r % 256 < length (own_words f (start_at m (r / 256)))
  unfolding words_at
  literal-left =
      decide
      (ltb (r % 256) (length (own_words f (start_at m (r / 256)))))
      (λ e. ltb-true _ _ e)
      (λ e. absurd (some_literal _ p.literals p.place (rw (drop_of_length-le (own_words f (start_at m (r / 256))) (ltb-false _ _ e)) at p.sound)))

  pub literal_inside : length m ≡ work_words → copies_of m ≤ most_copies → Inside f m r
  literal_inside l c = record { size = l; copy = omega (arith, p.made); within = own_inside f m r literal-left }

  arguments-fault : fault (variables_at f m r) p.literals (arity_of (word_at f m r)) (p.place + 1) (further f m r) ≡ none
  arguments-fault = (literal_begins (variables_at f m r) p.literals p.place (word_at f m r) (further f m r) (rw (words_here f m r literal-left) at p.sound)).1

  arguments-owed : Owing (variables_at f m r) (arity_of (word_at f m r)) (further f m r)
  arguments-owed = record { more = 0; literals = p.literals; place = p.place + 1; sound = rw (add-zero (arity_of (word_at f m r))) arguments-fault }

  arguments-arity : arity (tail_of f m r) ≡ arity_of (word_at f m r)
  unfolding tail_of
  arguments-arity = arity_under (fresh (r / 256)) (terms_from (further f m r)) ∙ exact (further f m r) _ _ _ _ arguments-fault

  pub literal_ahead : Ahead f m (r + 1) (arity_of (word_at f m r))
  literal_ahead h = next_points f m r (arity_of (word_at f m r)) h arguments-owed p.made

  pub literal_next : 0 < arity_of (word_at f m r) → (r + 1) / 256 ≡ r / 256
  literal_next h = next_copy f m r (arity_of (word_at f m r)) h arguments-owed

  arguments : tail_of f m r ≡ first (arity_of (word_at f m r)) (terms_of f m (r + 1))
  arguments =
      sym (first_all (tail_of f m r)) ∙ ap (λ (k : ℕ). first k (tail_of f m r)) arguments-arity
      ∙ next_first f m r (arity_of (word_at f m r)) arguments-owed

  pub literal_atom : atom (literal_at_reference f m r) ≡ app (symbol_of (word_at f m r)) (first (arity_of (word_at f m r)) (terms_of f m (r + 1)))
  unfolding atom literal_at_reference literal_under tail_of
  literal_atom = rw (words_here f m r literal-left) (ap (app (symbol_of (word_at f m r))) arguments)

  pub literal_arity : arity (first (arity_of (word_at f m r)) (terms_of f m (r + 1))) ≡ arity_of (word_at f m r)
  literal_arity = ap arity (sym arguments) ∙ arguments-arity

module _ {f m : List ℕ} {r s : ℕ} (h : Good f m) (p : Alike f m r s) where
  pub atoms_inside : Inside f m r
  atoms_inside = literal_inside p.left h.size h.copies

  module _ {w a : ℕ} (ew : w ≡ word_at f m r) (ea : a ≡ arity_of w) where
    left-count : a ≡ arity_of (word_at f m r)
    left-count = ea ∙ ap arity_of ew

    right-count : a ≡ arity_of (word_at f m s)
    right-count = left-count ∙ p.arity

    pub atoms_left : Ahead f m (r + 1) a
    atoms_left = rw left-count (literal_ahead p.left)

    pub atoms_right : Ahead f m (s + 1) a
    atoms_right = rw right-count (literal_ahead p.right)

    pub atoms_met : {m' : List ℕ} {o : Result (Unit {0}) Unmet} → Met f m m' o (unifies (bindings_in f m) (first a (terms_of f m (r + 1))) (first a (terms_of f m (s + 1))))
        → Met f m m' o (unify (bindings_in f m) (atom (literal_at_reference f m r)) (atom (literal_at_reference f m s)))
    atoms_met b =
        met_as
        (ap₂ (unify (bindings_in f m)) (literal_atom p.left) (literal_atom p.right)
        ∙ unify_applied (bindings_in f m) _ _ _ _ _ _ (follow_app (bindings_in f m) _ _) (follow_app (bindings_in f m) _ _) p.predicate
        (literal_arity p.left ∙ p.arity ∙ sym (literal_arity p.right))
        ∙ rw (← left-count, ← right-count))
        b

-- words that differ in the sign bit alone
pub sign_alike : {f m : List ℕ} {r s : ℕ} → LiteralStands f m r → LiteralStands f m s → word_at f m s ≡ word_at f m r + 2 ^ 15 → Alike f m r s
sign_alike p q e = record { left = p; right = q; predicate = omega arith; arity = omega arith }

pub alike_turned : {f m : List ℕ} {r s : ℕ} → Alike f m r s → Alike f m s r
alike_turned p = record { left = p.right; right = p.left; predicate = sym p.predicate; arity = sym p.arity }
