-- Order 8 on small tables: what education and collections are told of files with restricted clauses, and files that meet the promises' premises.
-- proofs/Cases.antt proves it by computation.
use Rattle.std.specs.Prelude.{List, [], ◌∷◌, map, ◌≡◌, ℕ}
use Rattle.table.specs.File.{judge, table_in}
use Rattle.rules.specs.Growing.{Larger}
use Rattle.hukolearu.specs.Calls.{refused, granted, SearchAsked, search_call, CheckAsked, check_call}
use Rattle.hukolearu.specs.Says.{SearchAccepted, CheckAccepted}
use Rattle.hukolearu.specs.CallDemands.{moved_word}
use Rattle.hukolearu.specs.Cases.{found, none}
use Rattle.seen.specs.Copying.{seen_in}
use Rattle.education.specs.Education.{education_search, education_check}
use Rattle.education.specs.Promises.{MoreRestricted, NothingRestricted}

-- p(b); ask p(X)
abbrev pub open_fact : List ℕ
open_fact =
    0xC0000201 ∷ 0x80001001 ∷ 0x40000002
    ∷ 0xC0000209 ∷ 0x80009001 ∷ 0x00000000
    ∷ 0x00000003 ∷ 0x00000002 ∷ 0x1EC3E087 ∷ 0x00000006 ∷ []

-- the same with p(a) before it, restricted
abbrev pub secret_fact : List ℕ
secret_fact =
    0xC0010201 ∷ 0x80001001 ∷ 0x40000001
    ∷ 0xC0000201 ∷ 0x80001001 ∷ 0x40000002
    ∷ 0xC0000209 ∷ 0x80009001 ∷ 0x00000000
    ∷ 0x00000006 ∷ 0x00000003 ∷ 0xFE06F911 ∷ 0x00000009 ∷ []

-- the same with q(c) and p(a) behind it, restricted
abbrev pub other_secrets : List ℕ
other_secrets =
    0xC0000201 ∷ 0x80001001 ∷ 0x40000002
    ∷ 0xC0010201 ∷ 0x80001002 ∷ 0x40000003
    ∷ 0xC0010201 ∷ 0x80001001 ∷ 0x40000001
    ∷ 0xC0000209 ∷ 0x80009001 ∷ 0x00000000
    ∷ 0x00000009 ∷ 0x00000004 ∷ 0xD6148616 ∷ 0x0000000C ∷ []

-- p(a), restricted; ask p(X)
abbrev pub only_secret : List ℕ
only_secret =
    0xC0010201 ∷ 0x80001001 ∷ 0x40000001
    ∷ 0xC0000209 ∷ 0x80009001 ∷ 0x00000000
    ∷ 0x00000003 ∷ 0x00000002 ∷ 0x6E3598A5 ∷ 0x00000006 ∷ []

-- q(c), p(a), restricted, and p(b): one clause more is seen
abbrev pub more_facts : List ℕ
more_facts =
    0xC0000201 ∷ 0x80001002 ∷ 0x40000003
    ∷ 0xC0010201 ∷ 0x80001001 ∷ 0x40000001
    ∷ 0xC0000201 ∷ 0x80001001 ∷ 0x40000002
    ∷ 0xC0000209 ∷ 0x80009001 ∷ 0x00000000
    ∷ 0x00000009 ∷ 0x00000004 ∷ 0x8CA1319F ∷ 0x0000000C ∷ []

-- p(b); ask p(X), restricted
abbrev pub secret_question : List ℕ
secret_question =
    0xC0000201 ∷ 0x80001001 ∷ 0x40000002
    ∷ 0xC0010209 ∷ 0x80009001 ∷ 0x00000000
    ∷ 0x00000003 ∷ 0x00000002 ∷ 0xB35F0BCE ∷ 0x00000006 ∷ []

abbrev pub asked : List ℕ → SearchAsked
asked file = record { file = file; bound = 1; budget = 9; proof_room = 199; answer_room = 6; work_room = 16384 }

abbrev pub offered : List ℕ → ℕ → CheckAsked
offered file step = record { file = file; bound = 1; offered = step ∷ []; answer_room = 6; work_room = 16384 }

-- p(b) by the first clause that is seen; nothing; and the files' own refusals, 4 and 21
abbrev pub EducationSearches : Type 0
EducationSearches =
    map education_search (map asked (secret_fact ∷ other_secrets ∷ open_fact ∷ only_secret ∷ [] ∷ secret_question ∷ []))
    ≡ found (0x40000000 ∷ []) 1 (0x80001001 ∷ 0x40000002 ∷ []) 1
    ∷ found (0x40000000 ∷ []) 1 (0x80001001 ∷ 0x40000002 ∷ []) 1
    ∷ found (0x40000000 ∷ []) 1 (0x80001001 ∷ 0x40000002 ∷ []) 1
    ∷ none 0
    ∷ refused 4 0 0
    ∷ refused 21 0 0
    ∷ []

-- collections sees all: p(a) where it comes first
abbrev pub CollectionsSearches : Type 0
CollectionsSearches =
    map search_call (map asked (secret_fact ∷ other_secrets ∷ only_secret ∷ secret_question ∷ []))
    ≡ found (0x40000000 ∷ []) 1 (0x80001001 ∷ 0x40000001 ∷ []) 1
    ∷ found (0x40000000 ∷ []) 1 (0x80001001 ∷ 0x40000002 ∷ []) 1
    ∷ found (0x40000000 ∷ []) 1 (0x80001001 ∷ 0x40000001 ∷ []) 1
    ∷ refused 21 0 0
    ∷ []

-- numbers count the unrestricted clauses: the question is 1, and there is no 2
abbrev pub EducationChecks : Type 0
EducationChecks =
    map (λ step. education_check (offered secret_fact step)) (0x40000000 ∷ 0x40000001 ∷ 0x40000002 ∷ [])
    ≡ granted 1 [] 1 (0x80001001 ∷ 0x40000002 ∷ []) 0 ∷ refused 13 0 0 ∷ refused 13 0 0 ∷ []

-- THE PREMISES
-- two accepted files that differ in restricted clauses alone, and one that has none
abbrev pub SameSeenCase : Type 0
SameSeenCase =
    ((judge secret_fact).status ≡ 0) × ((judge other_secrets).status ≡ 0) × (seen_in secret_fact ≡ seen_in other_secrets)
    × MoreRestricted (table_in open_fact).clauses (table_in secret_fact).clauses × NothingRestricted open_fact × ¬ NothingRestricted secret_fact

-- education's proof moved back is collections'
abbrev pub MovedBackCase : Type 0
MovedBackCase =
    SearchAccepted (asked secret_fact) × CheckAccepted (offered secret_fact 0x40000000) × CheckAccepted (offered secret_fact 0x40000001)
    × (grown : Larger (seen_in secret_fact) (table_in secret_fact)) × (moved_word grown 0x40000000 ≡ 0x40000001)
    × (check_call (offered secret_fact 0x40000001) ≡ education_check (offered secret_fact 0x40000000))

-- more is seen: what was found is found, and the proof moved along is accepted with the same answer
abbrev pub GrownSeenCase : Type 0
GrownSeenCase =
    SearchAccepted (asked more_facts) × CheckAccepted (offered more_facts 0x40000001)
    × (grown : Larger (seen_in secret_fact) (seen_in more_facts)) × (moved_word grown 0x40000000 ≡ 0x40000001)
    × (education_check (offered more_facts 0x40000001) ≡ education_check (offered secret_fact 0x40000000))
    × (education_search (asked more_facts) ≡ found (0x40000001 ∷ []) 1 (0x80001001 ∷ 0x40000002 ∷ []) 1)
