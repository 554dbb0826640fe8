-- Order 10 of document 02: two files that hold one table, typed in different orders, are answered alike.
use Rattle.std.specs.Prelude.{List, [], ◌∷◌, map, ◌⊎◌, ◌≢◌, ◌≡◌, ℕ}
use Rattle.table.specs.File.{table_in}
use Rattle.table.specs.Syntax.{Table}
use Rattle.rules.specs.Reordered.{SameTable}
use Rattle.rules.specs.Setting.{Profile, over}
use Rattle.hukolearu.specs.Status as Status
use Rattle.hukolearu.specs.Calls.{Given, SearchAsked}
use Rattle.hukolearu.specs.Says.{SearchAccepted, SearchSays}
use Rattle.hukolearu.specs.CallDemands.{FoundStatus, search_status}
use Rattle.hukolearu.specs.Cases.{by_reduction, result, searched, ample, found, none}

-- both find a proof, its answer fitting or not, or both say "none"
abbrev pub Alike : ℕ → ℕ → Type 0
Alike s t = (FoundStatus s × FoundStatus t) ⊎ ((s ≡ Status.none_found) × (t ≡ Status.none_found))

-- With the clauses before the question in another order, and literals within any clause too, the question's included (`SameTable`), two runs
-- at one bound that pass all checks of input and don't run out, whatever their budgets and buffers.
abbrev pub TypedInAnyOrder : Type 0
TypedInAnyOrder =
    (a b : SearchAsked) → SearchAccepted a → SearchAccepted b → SameTable (table_in a.file) (table_in b.file) → a.bound ≡ b.bound
    → search_status a ≢ Status.ran_out → search_status b ≢ Status.ran_out → Alike (search_status a) (search_status b)

-- The same of any profile's search.
abbrev pub TypedInAnyOrderFor : Profile → Type 0
TypedInAnyOrderFor rules =
    (t u : Table) → SameTable t u → (bound budget budget' room room' : ℕ) (g h : Given)
    → SearchSays (over rules t bound) budget room g → SearchSays (over rules u bound) budget' room' h
    → g.outcome.status ≢ Status.ran_out → h.outcome.status ≢ Status.ran_out → Alike g.outcome.status h.outcome.status

-- Such files there are: case 9 with its clauses exchanged, and in one of them the literals. The proof found is another.
abbrev pub by_reduction_otherwise : List ℕ
by_reduction_otherwise =
    0xC0000202 ∷ 0x80008002 ∷ 0x80000001
    ∷ 0xC0000202 ∷ 0x80000001 ∷ 0x80000002
    ∷ 0xC0000101 ∷ 0x80008001
    ∷ 0x00000006 ∷ 0x00000003 ∷ 0x6BA31D5A ∷ 0x00000008 ∷ []

abbrev pub TypedOtherwise : Type 0
TypedOtherwise =
    SameTable (table_in by_reduction) (table_in by_reduction_otherwise)
    × (map result (searched by_reduction_otherwise 2 ample ∷ searched by_reduction_otherwise 1 ample ∷ [])
    ≡ found (0x40000200 ∷ 0x40000201 ∷ 0x00000002 ∷ []) 1 (0x80000001 ∷ []) 3 ∷ none 2 ∷ [])
