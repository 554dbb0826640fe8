use borrow.Author.Rules.{rules}
use Rattle.season.proofs.Tallying.{count_laws}
use Rattle.season.proofs.tally.counting.Goals as goal

ruleset all = (rules, count_laws)

pub returns-in-Definite : goal.returns-in-Definite
returns-in-Definite c = search all

pub returns-in-Indefinite : goal.returns-in-Indefinite
returns-in-Indefinite c = search all

pub returns-in-NoneFound : goal.returns-in-NoneFound
returns-in-NoneFound c = search all

pub returns-in-RanOut : goal.returns-in-RanOut
returns-in-RanOut c = search all

pub returns-in-TooLong : goal.returns-in-TooLong
returns-in-TooLong c = search all

pub returns-in-Refused : goal.returns-in-Refused
returns-in-Refused c = search all
