-- Uniqueness of the permitted outcome, stated over the contracts themselves, as they are read of the code: two reports of one call that both meet its
-- contract are the same. `a` are the arguments, `r` the report, `s` the arguments as they stand at the end. The records are only read.
use contract.Lifetimes.{Lfts}
use borrow.Fn.Kinds.{ended_of}
use borrow.Fn.World.{ArgsD, ResD}
use denote.Triple.Clauses.{AtExit}
use mathlib.Core.Path.{◌≡◌, sym, ◌∙◌}
use Rattle.desk.specs.contracts.ask_desk.{signature as ask-signature}
use Rattle.desk.proofs.ask_desk.Kinds as ask-kinds
use Rattle.desk.proofs.ask_desk.Reads as ask-reads

pub one_report : (κs : Lfts 1) (a : ArgsD ask-signature κs) (r r' : ResD ask-signature κs)
    (s s' : AtExit (ended_of 1 ask-kinds.ps ask-kinds.r) κs) → ask-reads.Post κs a r s → ask-reads.Post κs a r' s' → r ≡ r'
one_report κs a r r' s s' h k = h ∙ sym k
