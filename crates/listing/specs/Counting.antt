-- Machinery: what the inner functions promise one another. The public contract rests on none of this.
use Rattle.std.specs.Prelude.{length, get_or, List, ◌++◌, ◌≡◌, ℕ, suc, ◌≤◌, ◌<◌, true}
use Rattle.words.specs.declared.Step.{Step}
use Rattle.table.specs.Syntax.{Table}
use Rattle.listing.specs.Behind.{copied_by, copied_from}
use Rattle.listing.specs.Lines.{line_text, lines_text}

-- a counter for each clause number, none of them high
pub record Counters (copies : List ℕ) : Type 0 where
  pub long : length copies ≡ 512
  pub low : (number : ℕ) → get_or copies number 0 ≤ 199

-- they say how many of the steps copy each clause
pub record Counted (steps : List Step) (copies : List ℕ) : Type 0 where
  pub counters : Counters copies
  pub counts : (number : ℕ) → number < 512 → get_or copies number 0 ≡ copied_by steps number

-- the listing by such counters
abbrev pub counted_text : List ℕ → Table → List ℕ
counted_text copies t =
    lines_text (copied_from (λ n. get_or copies n 0) 0 t.clauses)
    ++ line_text true (record { number = length t.clauses; copies = suc (get_or copies (length t.clauses) 0); clause = t.question })
