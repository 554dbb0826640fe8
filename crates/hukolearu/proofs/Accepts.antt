-- The question of an accepted file, in the words of the rules: negative throughout.
use mathlib.Core.Bool.{true}
use mathlib.Core.List.{List, [], ◌∷◌}
use mathlib.Core.Path.{◌≡◌}
use Prim.Native.Nat.{ℕ}
use Rattle.table.specs.File.{judge, table_in}
use Rattle.table.specs.Limits.{Each}
use Rattle.table.specs.Syntax.{Literal}
use Rattle.table.proofs.AcceptedTable.{question_negative}
use Rattle.rules.specs.Truth.{AllNegative}

each_negative : (ls : List (Literal ℕ)) → Each (λ l. l.negative ≡ true) ls → AllNegative ls
unfolding Each AllNegative
each_negative [] h = tt
each_negative (l ∷ ls) h = (h.0, each_negative ls h.1)

pub asks_negative : (file : List ℕ) → (judge file).status ≡ 0 → AllNegative (table_in file).question.literals
asks_negative file z = each_negative (table_in file).question.literals (question_negative file z)
