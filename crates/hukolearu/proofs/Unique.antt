-- Uniqueness of the permitted outcome (document 01, "What the contracts have to determine"). Stated over the contracts themselves, as they are read of
-- the code: two outcomes of one call that both meet its contract are the same, in the numbers and in what every lent buffer holds at the end.
-- `a` are the arguments, `r` the numbers that come back, `s` the arguments as they stand at the end. A file and an offered proof are only read.
use contract.Lifetimes.{Lfts}
use borrow.Fn.Kinds.{ended_of}
use borrow.Fn.World.{ArgsD, ResD}
use denote.Triple.Clauses.{AtExit}
use mathlib.Core.Path.{◌≡◌, sym, ◌∙◌}
use Rattle.table.specs.contracts.file.judge.{signature as judge-signature}
use Rattle.table.proofs.file.judge.Kinds as judge-kinds
use Rattle.table.proofs.file.judge.Reads as judge-reads
use Rattle.table.specs.contracts.file.lookup.{signature as lookup-signature}
use Rattle.table.proofs.file.lookup.Kinds as lookup-kinds
use Rattle.table.proofs.file.lookup.Reads as lookup-reads
use Rattle.hukolearu.specs.contracts.calls.search.{signature as search-signature}
use Rattle.hukolearu.proofs.calls.search.Kinds as search-kinds
use Rattle.hukolearu.proofs.calls.search.Reads as search-reads
use Rattle.hukolearu.specs.contracts.calls.check_proof.{signature as check-signature}
use Rattle.hukolearu.proofs.calls.check_proof.Kinds as check-kinds
use Rattle.hukolearu.proofs.calls.check_proof.Reads as check-reads

one : {A : Type 0} {x y z : A} → y ≡ x → z ≡ x → y ≡ z
one p q = p ∙ sym q

-- the search: the six numbers, the proof buffer, the answer buffer and the work buffer
pub one_search_result : (κs : Lfts 4) (a : ArgsD search-signature κs) (r r' : ResD search-signature κs)
    (s s' : AtExit (ended_of 4 search-kinds.ps search-kinds.r) κs) → search-reads.Post κs a r s → search-reads.Post κs a r' s'
    → (r ≡ r') × (s.1.1.1.0.now ≡ s'.1.1.1.0.now) × (s.1.1.1.1.0.now ≡ s'.1.1.1.1.0.now)
    × (s.1.1.1.1.1.0.now ≡ s'.1.1.1.1.1.0.now)
one_search_result κs a r r' s s' h k = (one h.0 k.0, one h.1.0 k.1.0, one h.1.1.0 k.1.1.0, one h.1.1.1 k.1.1.1)

-- the checker: the six numbers, the answer buffer and the work buffer
pub one_check_result : (κs : Lfts 4) (a : ArgsD check-signature κs) (r r' : ResD check-signature κs)
    (s s' : AtExit (ended_of 4 check-kinds.ps check-kinds.r) κs) → check-reads.Post κs a r s → check-reads.Post κs a r' s'
    → (r ≡ r') × (s.1.1.1.0.now ≡ s'.1.1.1.0.now) × (s.1.1.1.1.0.now ≡ s'.1.1.1.1.0.now)
one_check_result κs a r r' s s' h k = (one h.0 k.0, one h.1.0 k.1.0, one h.1.1 k.1.1)

-- the judgement of a file
pub one_judgement : (κs : Lfts 1) (a : ArgsD judge-signature κs) (r r' : ResD judge-signature κs)
    (s s' : AtExit (ended_of 1 judge-kinds.ps judge-kinds.r) κs) → judge-reads.Post κs a r s → judge-reads.Post κs a r' s' → r ≡ r'
one_judgement κs a r r' s s' h k = one h k

-- the lookup: the words of the part handed back, and where they stand
pub one_part : (κs : Lfts 1) (a : ArgsD lookup-signature κs) (r r' : ResD lookup-signature κs)
    (s s' : AtExit (ended_of 1 lookup-kinds.ps lookup-kinds.r) κs) → lookup-reads.Post κs a r s → lookup-reads.Post κs a r' s'
    → (r.now ≡ r'.now) × (r.ref_ptr ≡ r'.ref_ptr)
one_part κs a r r' s s' h k = (one h.words k.words, one h.place k.place)
