-- A comparison that gave up is taken back, and starts over with notes of full length.
use Rattle.std.specs.Prelude.{Result}
use lib.ListN.{length, get_or, set, replicate, length-set, length-replicate, get_or-replicate, get_or-eq_default}
use lib.Seq.{get_or-set_same, get_or-set_other}
use borrow.Author.Tests.{ltb-true, ltb-false}
use lib.Dec.{ltb}
use mathlib.Core.List.{List}
use mathlib.Core.Path.{◌≡◌, refl, sym, ◌∙◌, ap}
use native.Mathlib.Omega.{arith}
use Prim.Native.Nat.{ℕ, zero, suc, ◌+◌, ◌/◌, ◌%◌, ◌≤◌, ◌<◌}
use Rattle.words.specs.Fields.{arity_of}
use Rattle.table.specs.Decode.{first}
use Rattle.rules.specs.Tableau.{atom}
use Rattle.rules.specs.Machinery.Unify.{Unified, unify}
use Rattle.rules.proofs.Unify.Tests.{decide}
use Rattle.unification.specs.Places.{trail_places}
use Rattle.unification.specs.State.{start_at, count_of, terms_of, literal_at_reference, bindings_of, bindings_in}
use Rattle.unification.specs.Good.{word_at, Inside, Same, Good, Grown, Ahead, Alike, Met, Undone}
use Rattle.unification.specs.Thorough.{spare_of, Quiet, Arguments, pairs_met, arguments_met, Meets, Began, Remaining}
use Rattle.unification.specs.declared.unify.Unmet.{Unmet}
use Rattle.unification.proofs.Bound.{bindings_length}
use Rattle.unification.proofs.KeptStarts.{in_copies, same_start, same_points, same_terms}
use Rattle.unification.proofs.Push.{same_then, grown_none, grown_then}
use Rattle.unification.proofs.Thorough.{quiet_blank}
use Rattle.unification.proofs.Meet.{met_as}
use Rattle.unification.proofs.Atoms.{atoms_inside, atoms_left, atoms_right, atoms_met}

-- the arguments of two literals
module _ {f m : List ℕ} {r s : ℕ} (h : Good f m) (p : Alike f m r s) where
  pub literal_arguments : Arguments f m r s
  literal_arguments =
      record {
        inside = atoms_inside h p;
        small = omega (arith, p.right.made, h.copies);
        lefts = atoms_left h p refl refl;
        rights = atoms_right h p refl refl;
      }

  pub literal_met : {m' : List ℕ} {q : Result (Unit {0}) Unmet} → Met f m m' q (arguments_met f m r s)
      → Met f m m' q (unify (bindings_in f m) (atom (literal_at_reference f m r)) (atom (literal_at_reference f m s)))
  literal_met met = atoms_met h p refl refl met

-- notes of one word
pub brief_quiet : {f m n : List ℕ} → length n ≡ 1 → 0 < spare_of n → Quiet f m n
brief_quiet {f} {m} {n} l a = quiet_blank (λ i p. get_or-eq_default n 0 {n = i} (omega arith)) a

pub brief_met : {f m m' n n' : List ℕ} {q : Result (Unit {0}) Unmet} {u : Unified} → Meets f m m' n n' q u → (spare_of n' ≡ 0 → ⊥) → Met f m m' q u
brief_met met some = record { grown = met.grown; outcome = met.outcome (omega arith) }

-- notes of full length
module _ (k : ℕ) (long : 1 < k) where
  full-spare : spare_of (set (replicate k 0) 0 1) ≡ 1
  full-spare = get_or-set_same (replicate k 0) 0 1 0 (simp length-replicate (omega arith))

  zeros : (i : ℕ) → ◌≡◌ {A = ℕ} (get_or (replicate k 0) i 0) 0
  zeros i =
      decide
      (ltb i k)
      (λ e. get_or-replicate k i 0 0 (ltb-true _ _ e))
      (λ e. get_or-eq_default (replicate k 0) 0 {n = i} (simp length-replicate (ltb-false _ _ e)))

  pub full_quiet : {f m : List ℕ} → Quiet f m (set (replicate k 0) 0 1)
  full_quiet = quiet_blank (λ i p. get_or-set_other (replicate k 0) 0 i 1 0 (λ z. omega arith) ∙ zeros i) (omega (arith, full-spare))

  full-length : length {A = ℕ} (set (replicate k 0) 0 1) ≡ k
  full-length = length-set (replicate k 0) 0 1 ∙ length-replicate k 0

  pub full_awake : {f m m' n' : List ℕ} {q : Result (Unit {0}) Unmet} {u : Unified} → Meets f m m' (set (replicate k 0) 0 1) n' q u → spare_of n' ≡ 1
  full_awake met = met.noting.spare (λ e. omega (arith, full-length)) ∙ full-spare

  pub full_met : {f m m' n' : List ℕ} {q : Result (Unit {0}) Unmet} {u : Unified} → Meets f m m' (set (replicate k 0) 0 1) n' q u → Met f m m' q u
  full_met met = record { grown = met.grown; outcome = met.outcome (omega (arith, full_awake met)) }

-- what was bound on the way is taken back
within : {from to a b : ℕ} {m m' : List ℕ} → from ≤ a → b ≤ to → Same from to m m' → Same a b m m'
within l k s = record { words = λ i p q. s.words i (omega arith) (omega arith) }

older : (f m m' : List ℕ) (k n : ℕ) → n ≤ k → bindings_of f m' k ≡ bindings_of f m k → bindings_of f m' n ≡ bindings_of f m n
unfolding bindings_of
older f m m' zero n l e = let z : n ≡ 0 = omega arith in rw z
older f m m' (suc k) n l e =
    decide
    (ltb k n)
    (λ t. let z : n ≡ suc k = omega (arith, ltb-true k n t) in rw z e)
    (λ t. older f m m' k n (omega (arith, ltb-false k n t)) (let z : bindings_of f m' k ≡ bindings_of f m k = cc in z))

module _ {f m m₁ m₂ : List ℕ} (g : Grown f m m₁) {kept : ℕ} (ek : kept ≡ count_of m) (u : Undone f m₁ m₂ kept) where
  same_count : count_of m₂ ≡ count_of m
  same_count =
      sym (bindings_length f m₂ (count_of m₂)) ∙ ap length u.bindings ∙ bindings_length f m₁ kept ∙ ek

  same-bound : bindings_in f m₂ ≡ bindings_in f m
  same-bound = u.bindings ∙ ap (bindings_of f m₁) ek ∙ g.older (count_of m) (omega arith)

  pub undone_grown : Grown f m m₂
  undone_grown =
      record {
        good = u.good;
        kept =
            record {
              copies = same_then g.kept.copies u.copies;
              spare = same_then g.kept.spare (within (omega arith) (omega arith) u.trail);
              between = same_then g.kept.between (within (omega arith) (omega arith) u.trail);
              leaves = same_then g.kept.leaves u.leaves;
            };
        more = omega (arith, same_count);
        older = λ n l. older f m m₂ (count_of m) n l (ap (bindings_of f m₂) (sym same_count) ∙ same-bound);
        trail = λ i l. u.trail.words (trail_places + i) (omega arith) (omega (arith, u.good.room, same_count)) ∙ g.trail i l;
        values = λ i l. rw (g.trail i l) at (u.values i (omega (arith, ek))) ∙ g.values i l;
      }

  module _ (h : Good f m) where
    still_ahead : {r a : ℕ} → Ahead f m r a → Ahead f m₂ r a
    still_ahead {r} p l = same_points undone_grown.kept.copies f r (in_copies h.copies (p l)) (p l)

    still_terms : (r a : ℕ) → Ahead f m r a → first a (terms_of f m₂ r) ≡ first a (terms_of f m r)
    unfolding first
    still_terms r zero p = refl
    still_terms r (suc a) p = ap (first (suc a)) (same_terms undone_grown.kept.copies f r (in_copies h.copies (p (omega arith))))

    still_pairs : (r s a : ℕ) → Ahead f m r a → Ahead f m s a → pairs_met f m₂ r s a ≡ pairs_met f m r s a
    still_pairs r s a p p' = rw (same-bound, still_terms r a p, still_terms s a p')

-- and the literals are compared again
module _ {f m m₁ m₂ : List ℕ} {kept r s : ℕ} (b : Began f m m₁ kept r s) (u : Undone f m₁ m₂ kept) where
  grown : Grown f m m₂
  grown = undone_grown b.grown b.count u

  inside : Inside f m r
  inside = atoms_inside b.good b.alike

  start : start_at m₂ (r / 256) ≡ start_at m (r / 256)
  start = same_start grown.kept.copies (r / 256) inside.copy

  word : word_at f m₂ r ≡ word_at f m r
  word = ap (λ (p : ℕ). get_or f (p + r % 256) 0) start

  arguments : Arguments f m r s
  arguments = literal_arguments b.good b.alike

  pub again_arguments : Arguments f m₂ r s
  again_arguments =
      record {
        inside = record { size = u.good.size; copy = inside.copy; within = rw start inside.within };
        small = arguments.small;
        lefts = rw word (still_ahead b.grown b.count u b.good arguments.lefts);
        rights = rw word (still_ahead b.grown b.count u b.good arguments.rights);
      }

  module _ {w a : ℕ} (ew : w ≡ word_at f m₂ r) (ea : a ≡ arity_of w) where
    again_count : a ≡ arity_of (word_at f m₂ r)
    again_count = ea ∙ ap arity_of ew

    pub again_lefts : Ahead f m₂ (r + 1) a
    again_lefts = rw again_count again_arguments.lefts

    pub again_rights : Ahead f m₂ (s + 1) a
    again_rights = rw again_count again_arguments.rights

    pub again_met : {m' : List ℕ} {q : Result (Unit {0}) Unmet} → Met f m₂ m' q (pairs_met f m₂ (r + 1) (s + 1) a)
        → Met f m m' q (unify (bindings_in f m) (atom (literal_at_reference f m r)) (atom (literal_at_reference f m s)))
    again_met met =
        let e : arguments_met f m r s ≡ pairs_met f m₂ (r + 1) (s + 1) a =
        sym (ap (pairs_met f m₂ (r + 1) (s + 1)) (again_count ∙ ap arity_of word) ∙ still_pairs b.grown b.count u b.good (r + 1) (s + 1) (arity_of (word_at f m r)) arguments.lefts arguments.rights) in
        literal_met b.good b.alike (met_as e (record { grown = grown_then grown met.grown; outcome = met.outcome }))

-- what is left of two literals
module _ {f m : List ℕ} {r s w a : ℕ} (h : Good f m) (p : Alike f m r s) (ew : w ≡ word_at f m r) (ea : a ≡ arity_of w) where
  pub all_remain : Remaining f m m (count_of m) r s (r + 1) (s + 1) a
  all_remain =
      record {
        began = record { good = h; alike = p; grown = grown_none h; count = refl };
        lefts = atoms_left h p ew ea;
        rights = atoms_right h p ew ea;
        same = ap (pairs_met f m (r + 1) (s + 1)) (sym (ea ∙ ap arity_of ew));
      }

module _ {f m m' : List ℕ} {kept r s left right count : ℕ} (b : Remaining f m m' kept r s left right count) where
  pub remaining_began : {m'' : List ℕ} → Grown f m' m'' → Began f m m'' kept r s
  remaining_began g =
      record { good = b.began.good; alike = b.began.alike; grown = grown_then b.began.grown g; count = b.began.count }

  pub remaining_met : {m'' : List ℕ} {q : Result (Unit {0}) Unmet} → Met f m' m'' q (pairs_met f m' left right count)
      → Met f m m'' q (unify (bindings_in f m) (atom (literal_at_reference f m r)) (atom (literal_at_reference f m s)))
  remaining_met met =
      literal_met b.began.good b.began.alike (met_as b.same (record { grown = grown_then b.began.grown met.grown; outcome = met.outcome }))
