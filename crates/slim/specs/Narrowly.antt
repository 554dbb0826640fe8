-- Order 12 read more narrowly: a clause is dropped for an earlier one with its words only where that one is itself still present.
-- proofs/Narrowly.antt shows that what is left is the same.
use Rattle.std.specs.Prelude.{length, take, get_or, set, replicate, Bool, true, false, ◌||◌, List, ◌≡◌, ℕ}
use Rattle.table.specs.Syntax.{Table}
use Rattle.table.specs.Encode.{clause_words}
use Rattle.table.specs.Limits.{FileWithin}
use Rattle.slim.specs.Dropping.{some_of, chosen, remaining, clause_no, same_words, dead}
use Rattle.slim.specs.Rounds.{kept_flags}

unfoldable pub repeats_present : Table → List Bool → ℕ → Bool
repeats_present t present n =
    some_of (λ c. same_words (clause_words c) (clause_words (clause_no t n))) (chosen (take n present) (take n t.clauses))

unfoldable pub droppable_narrowly : Table → List Bool → ℕ → Bool
droppable_narrowly t present n = repeats_present t present n || dead (remaining t present) (clause_no t n)

pub data LeadsNarrowly (t : Table) (present : List Bool) : List Bool → Type 0 where
  as_it_is : LeadsNarrowly t present present
  and_drops : {then : List Bool} → LeadsNarrowly t present then → (n : ℕ) → get_or then n false ≡ true → droppable_narrowly t then n ≡ true
      → LeadsNarrowly t present (set then n false)

pub record SlimNarrowly (t : Table) (present : List Bool) : Type 0 where
  pub reached : LeadsNarrowly t (replicate (length t.clauses) true) present
  pub settled : (n : ℕ) → get_or present n false ≡ true → droppable_narrowly t present n ≡ false

abbrev pub SameReadNarrowly : Type 0
SameReadNarrowly = (t : Table) → FileWithin t → (present : List Bool) → SlimNarrowly t present → present ≡ kept_flags t
