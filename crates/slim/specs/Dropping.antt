-- Order 12 (document 02): which clauses are dropped, and what is left when nothing more drops. No loop, no order of drops.
use Rattle.std.specs.Prelude.{eqb, length, take, get_or, set, replicate, Bool, true, false, not, ◌&&◌, ◌||◌, List, [], ◌∷◌, ◌≡◌, ℕ}
use Rattle.std.specs.Bool.{beq}
use Rattle.table.specs.Syntax.{arity, Literal, Clause, Table, all_clauses}
use Rattle.table.specs.Encode.{clause_words}

-- some element passes a test
unfoldable pub some_of : {A : Type 0} → (A → Bool) → List A → Bool
some_of test [] = false
some_of test (x ∷ xs) = test x || some_of test xs

-- the elements whose flag is set, in their order
unfoldable pub with_flag : {A : Type 0} → Bool → A → List A → List A
with_flag true x xs = x ∷ xs
with_flag false x xs = xs

unfoldable pub chosen : {A : Type 0} → List Bool → List A → List A
chosen [] xs = []
chosen (flag ∷ flags) [] = []
chosen (flag ∷ flags) (x ∷ xs) = with_flag flag x (chosen flags xs)

-- Which clauses are still present: a flag for each clause before the question. The question always stays, and the rest keep their order.
unfoldable pub remaining : Table → List Bool → Table
remaining t present = record { clauses = chosen present t.clauses; question = t.question }

abbrev pub clause_no : Table → ℕ → Clause
clause_no t n = get_or t.clauses n t.question

-- opposite sign with the same predicate and arity; terms are not looked at
unfoldable pub opposed : Literal ℕ → Literal ℕ → Bool
opposed l m =
    not (beq l.negative m.negative) && eqb l.predicate m.predicate && eqb (arity l.arguments) (arity m.arguments)

-- some clause of the table, the question included, has such a literal
unfoldable pub partnered : Table → Literal ℕ → Bool
partnered t l = some_of (λ c. some_of (opposed l) c.literals) (all_clauses t)

-- a clause with a literal for which no clause of the table has one
unfoldable pub dead : Table → Clause → Bool
dead t c = some_of (λ l. not (partnered t l)) c.literals

-- a clause whose words equal an earlier one's
unfoldable pub same_words : List ℕ → List ℕ → Bool
same_words [] [] = true
same_words [] (w ∷ ws) = false
same_words (v ∷ vs) [] = false
same_words (v ∷ vs) (w ∷ ws) = eqb v w && same_words vs ws

unfoldable pub repeats : Table → ℕ → Bool
repeats t n = some_of (λ c. same_words (clause_words c) (clause_words (clause_no t n))) (take n t.clauses)

-- what may be dropped, where so many are still present
unfoldable pub droppable : Table → List Bool → ℕ → Bool
droppable t present n = repeats t n || dead (remaining t present) (clause_no t n)

-- a clause still present is dropped; repeat
pub data Drops (t : Table) (present : List Bool) : List Bool → Type 0 where
  drops : (n : ℕ) → get_or present n false ≡ true → droppable t present n ≡ true → Drops t present (set present n false)

pub data Leads (t : Table) (present : List Bool) : List Bool → Type 0 where
  as_it_is : Leads t present present
  and_drops : {then later : List Bool} → Leads t present then → Drops t then later → Leads t present later

-- until nothing drops
pub record Slim (t : Table) (present : List Bool) : Type 0 where
  pub reached : Leads t (replicate (length t.clauses) true) present
  pub settled : (n : ℕ) → get_or present n false ≡ true → droppable t present n ≡ false
