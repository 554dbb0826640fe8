-- Machinery: which copies of the question are kept, since no earlier one says the same, and how that is found out. No public contract speaks of it.
use Rattle.std.specs.Prelude.{Bool, true, false, cond, List, map, ◌≡◌, ℕ, ◌<◌, eqb}
use Rattle.table.specs.Syntax.{Literal, literal_under}
use Rattle.table.specs.Decode.{clause_of}
use Rattle.rules.specs.Substitution.{Variable}
use Rattle.rules.specs.Answer.{positive, disjunct, same_disjunct, seen_by, firsts_by}
use Rattle.unification.specs.Places.{value_end, kept_places, count_place, work_words}
use Rattle.unification.specs.State.{start_at, copies_of, own_words, literal_at_reference, bindings_in}
use Rattle.unification.specs.Good.{Same, Good}
use Rattle.tableaux.specs.Leaves.{questions_among}
use Rattle.answers.specs.Writing.{resolved, kept_at, kept_among, disjunct_at, disjuncts_kept}

-- what a literal says under what is bound
abbrev pub said_at : List ℕ → List ℕ → ℕ → Literal Variable
said_at f m r = literal_under (resolved f m) (positive (literal_at_reference f m r))

-- the bindings are as they were, and so are all words but theirs
pub record Still (f m m' : List ℕ) : Type 0 where
  pub good : Good f m'
  pub bindings : bindings_in f m' ≡ bindings_in f m
  pub copies : Same 0 count_place m m'
  pub leaves : Same value_end work_words m m'

-- a comparison leaves the bindings as they were
pub record Compared (f m m' : List ℕ) (r answer : Bool) : Type 0 where
  pub still : Still f m m'
  pub outcome : r ≡ answer

-- two copies of one clause
pub record Twins (f m : List ℕ) (copy other : ℕ) : Type 0 where
  pub good : Good f m
  pub made : copy < copies_of m
  pub also_made : other < copies_of m
  pub same : start_at m other ≡ start_at m copy

-- the copies kept among so many are copies of the clause that begins at a position
abbrev pub KeptOf : List ℕ → ℕ → ℕ → Type 0
KeptOf m question n = (k : ℕ) → k < n → (kept_at m k ≡ 0 → ⊥) → start_at m k ≡ question

-- the disjuncts (the rules' disjuncts) of the copies of the question among so many copies, and of all
abbrev pub disjuncts_among : List ℕ → List ℕ → ℕ → ℕ → List (List (Literal Variable))
disjuncts_among f m question n = firsts_by same_disjunct (map (disjunct (resolved f m) (clause_of (own_words f question))) (questions_among m question n))

unfoldable pub disjuncts_held : List ℕ → List ℕ → ℕ → List (List (Literal Variable))
disjuncts_held f m question = disjuncts_among f m question (copies_of m)

-- whether a copy says what a kept one before it says
abbrev pub said_before : List ℕ → List ℕ → ℕ → Bool
said_before f m copy = seen_by same_disjunct (disjunct_at f m copy) (map (disjunct_at f m) (kept_among m copy))

-- a copy that has been made, those kept before it being copies of the same clause
pub record Next (f m : List ℕ) (question copy : ℕ) : Type 0 where
  pub good : Good f m
  pub made : copy < copies_of m
  pub own : KeptOf m question copy

-- whether it is kept: a copy of the question that says what no kept one before it says
pub record Weighed (f m m' : List ℕ) (question copy r : ℕ) : Type 0 where
  pub still : Still f m m'
  pub outcome : r ≡ cond (eqb (start_at m copy) question) (cond (said_before f m copy) 0 1) 0

-- copies were chosen: those kept say what the copies of the question say, each once
pub record Chose (f m m' : List ℕ) (question : ℕ) : Type 0 where
  pub good : Good f m'
  pub leaves : Same value_end kept_places m m'
  pub once : disjuncts_kept f m' ≡ disjuncts_held f m question
