use mathlib.Core.Path.{◌∙◌, ap}
use mathlib.Core.List.{List}
use Prim.Native.Nat.{ℕ, ◌+◌}
use lib.ListN.{length}
use Rattle.table.specs.Build.{behind}
use Rattle.desk.proofs.Writing.{two_words}
use borrow.Author.Rules.{rules}
use Rattle.desk.proofs.file.put_either.Statement.{statement}
use Rattle.desk.proofs.file.put_either.Tie as tie

pub put_either_spec : {M : Type 1} → statement M
put_either_spec =
    tie.close
    (tie.spec
    (λ c κs. search rules)
    (λ c κs. search rules)
    (λ c. search rules)
    (λ c κs. search rules)
    (λ c κs. search rules)
    (λ c κs. search rules)
    (λ c κs. search rules)
    (λ c. search rules)
    (λ c κs. search rules)
    (λ c. search rules)
    (λ c. search rules)
    (λ c. let a = c.args in let words = two_words a.day a.house c.constant-day_word.ensures c.constant-house_word.ensures c.clause_word.ensures c.literal_word-sign.ensures c.constant.ensures c.constant-2.ensures in record { next_place = ap (λ (ws : List ℕ). a.at + length ws) words; stands = c.append.ensures ∙ ap (λ (ws : List ℕ). behind a.file.now a.at ws) words }))
