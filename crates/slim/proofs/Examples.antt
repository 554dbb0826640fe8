-- A small table slimmed, computed: what each promise asks is met here, and what each judgement refuses is refused.
use lib.ListN.{replicate}
use mathlib.Core.Bool.{Bool, true, false}
use mathlib.Core.List.{List, [], ◌∷◌, map}
use mathlib.Core.Path.{◌≡◌, refl, sym}
use native.Mathlib.Omega.{arith}
use Prim.Native.Nat.{ℕ, ◌≤◌}
use Rattle.words.specs.declared.Step.{Step}
use Rattle.words.specs.declared.Step.TheVariants.{Extension}
use Rattle.table.specs.Syntax.{app, nil, unders, Literal, literal_under, Clause, Table, all_clauses}
use Rattle.table.specs.Encode.{file_words}
use Rattle.table.specs.Limits.{Each}
use Rattle.table.proofs.Opened.{opened}
use Rattle.rules.specs.Setting.{every_leaf, base}
use Rattle.rules.specs.Locality.{renumbered}
use Rattle.rules.specs.Tableau.{hang, others}
use Rattle.rules.specs.Machinery.Play.{Play, passed, check}
use Rattle.rules.proofs.Demands.{closed_passed}
use Rattle.rules.proofs.Instances.{Instance, instance, opposite}
use Rattle.rules.proofs.Lifting.{closed_iff_tree}
use Rattle.rules.proofs.Trees.{bare, extension, size, InstanceTree}
use Rattle.slim.specs.Dropping.{some_of, with_flag, chosen, remaining, opposed, partnered, dead, same_words, repeats, droppable, Slim}
use Rattle.slim.specs.Rounds.{flags_up_to, unrepeated, survives, round, rounds, kept_flags}
use Rattle.slim.specs.Call.{slim_table, numbers_up_to, old_numbers, refused, granted, if_it_fits, slim_call}
use Rattle.slim.specs.Promises.{Slims, put_back}

unfoldable slimming : Unit {0}
unfolding some_of with_flag chosen remaining opposed partnered dead same_words repeats droppable flags_up_to unrepeated survives round rounds kept_flags slim_table numbers_up_to old_numbers if_it_fits slim_call
slimming = tt

-- p, q, r and s stand for predicates 0 to 3 without arguments
abbrev so : ℕ → Literal ℕ
so p = record { negative = false; predicate = p; arguments = nil }

abbrev not_so : ℕ → Literal ℕ
not_so p = record { negative = true; predicate = p; arguments = nil }

abbrev saying : List (Literal ℕ) → Clause
saying literals = record { restricted = false; variables = 0; literals = literals }

-- r or p; not r or s, in which s has no partner; p; p again; not p, with the question's words; the question: not p
abbrev old : Table
old =
    record {
      clauses =
          saying (so 2 ∷ so 0 ∷ [])
          ∷ saying (not_so 2 ∷ so 3 ∷ [])
          ∷ saying (so 0 ∷ [])
          ∷ saying (so 0 ∷ [])
          ∷ saying (not_so 0 ∷ [])
          ∷ [];
      question = saying (not_so 0 ∷ []);
    }

abbrev new : Table
new = record { clauses = saying (so 0 ∷ []) ∷ saying (not_so 0 ∷ []) ∷ []; question = saying (not_so 0 ∷ []) }

-- the second clause is dead at once, the first in the round after it
old_left : kept_flags old ≡ false ∷ false ∷ true ∷ false ∷ true ∷ []
unfolding slimming opened
old_left = refl

first_round : round old (unrepeated old) ≡ true ∷ false ∷ true ∷ false ∷ true ∷ []
unfolding slimming opened
first_round = refl

-- not everything may stay
not_all : Slim old (replicate 5 true) → ⊥
unfolding slimming opened
not_all s = let z : ◌≡◌ {A = Bool} true false = s.settled 3 refl in let k : ◌≡◌ {A = ℕ} 0 1 = cc in omega arith

-- the call
pub old_slimmed : slim_call (file_words old) 100 100 ≡ granted (file_words new) (2 ∷ 4 ∷ 5 ∷ [])
unfolding slimming opened
old_slimmed = refl

pub just_enough : slim_call (file_words old) 10 3 ≡ granted (file_words new) (2 ∷ 4 ∷ 5 ∷ [])
unfolding slimming opened
just_enough = refl

pub file_room_short : slim_call (file_words old) 9 3 ≡ refused 16 0
unfolding slimming opened
file_room_short = refl

pub number_room_short : slim_call (file_words old) 10 2 ≡ refused 16 0
unfolding slimming opened
number_room_short = refl

pub cut_short : slim_call (0 ∷ []) 10 3 ≡ refused 4 0
unfolding slimming opened
cut_short = refl

pub old_slims : Slims (file_words old) (granted (file_words new) (2 ∷ 4 ∷ 5 ∷ []))
unfolding opened Each
old_slims = record { words = omega arith; room = 100; number_room = 100; call = sym old_slimmed; status = refl }

-- the proof by the first clause of the new table is the proof by the third of the old
put_back_lem : map (put_back (2 ∷ 4 ∷ 5 ∷ [])) (Extension 0 0 ∷ []) ≡ Extension 2 0 ∷ []
unfolding renumbered
put_back_lem = refl

-- and there is such a proof
abbrev any : Instance
any n = app 0 nil

unfoldable new_tree : InstanceTree every_leaf new
unfolding all_clauses instance opposite hang others literal_under unders
new_tree = record { root = any; leaves = hang [] (instance any new.question); hung = refl; tree = extension 0 0 any refl refl refl refl bare }

new_within : size new_tree.tree ≤ 1
unfolding new_tree size
new_within = omega arith

pub new_proof : (steps : List Step) × (p : Play) × (check (base new 1) steps ≡ passed p)
new_proof =
    let c = (closed_iff_tree (base new 1)).1 (new_tree, new_within) in
    let q = closed_passed (base new 1) c.0 c.1 in
    (c.0, q.0, q.1)
