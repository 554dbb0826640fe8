use mathlib.Core.Path.{refl, ◌∙◌, ap}
use mathlib.Core.List.{List}
use Prim.Native.Nat.{ℕ}
use Rattle.table.specs.Build.{behind}
use Rattle.desk.proofs.Writing.{single_words_lem}
use borrow.Author.Rules.{rules}
use Rattle.desk.proofs.file.put_single.Statement.{statement}
use Rattle.desk.proofs.file.put_single.Tie as tie

pub put_single_spec : {M : Type 1} → statement M
put_single_spec =
    tie.close
    (tie.spec
    (λ c κs. search rules)
    (λ c κs. search rules)
    (λ c κs. search rules)
    (λ c. search rules)
    (λ c κs. search rules)
    (λ c. search rules)
    (λ c κs. search rules)
    (λ c. search rules)
    (λ c. search rules)
    (λ c. let a = c.args in let words = single_words_lem a.day a.house c.constant.ensures c.constant-2.ensures a.variables a.negative (search rules) c.clause_word.ensures c.literal_word.ensures in record { next_place = refl; stands = c.append.ensures ∙ ap (λ (ws : List ℕ). behind a.file.now a.at ws) words }))
