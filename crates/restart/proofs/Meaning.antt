-- The walk over the words finds the first clause of the table without a positive literal.
use mathlib.Core.Path.{◌≡◌, refl, sym, ap, ◌∙◌}
use mathlib.Core.Bool.{Bool, true, false, cond}
use mathlib.Core.List.{List, [], ◌∷◌, map}
use mathlib.Core.Option.{Option, none, some}
use Prim.Native.Nat.{ℕ, zero, suc, ◌+◌, ◌≤◌}
use native.Mathlib.Omega.{arith}
use borrow.Author.Tests.{eq-eqb, ne_eqb}
use lib.Dec.{eqb}
use lib.ListN.{length, take}
use Rattle.words.specs.Fields.{kind_of, following_of}
use Rattle.table.specs.Body.{starts, last_of, any_positive}
use Rattle.table.specs.Decode.{before_literals, literals_from, clause_of, parts_from, clauses_of, with_question, as_table, table_of}
use Rattle.table.specs.File.{judge, body_of}
use Rattle.table.proofs.AcceptedTable.{question_start, body_readable}
use Rattle.restart.specs.Conclusions.{concludes, first_without, first_negative}
use Rattle.restart.specs.Walking.{unconcluded}

-- a clause's words, and its literals
positive_words : (ws : List ℕ) → any_positive ws ≡ concludes (literals_from ws)
unfolding any_positive concludes literals_from before_literals
positive_words [] = refl
positive_words (w ∷ ws) = go (eqb (kind_of w) 2) refl (positive_words ws)
  where
    go : (b : Bool) → eqb (kind_of w) 2 ≡ b → any_positive ws ≡ concludes (literals_from ws) → any_positive (w ∷ ws) ≡ concludes (literals_from (w ∷ ws))
    go true e h = rw (e, h)
    go false e h = rw (e, h)

-- the last clause begins no earlier than the walk stands
last_later : (at passing : ℕ) (ws : List ℕ) (other : ℕ) → at ≤ other → at ≤ last_of other (starts at passing ws)
unfolding starts last_of
last_later at passing [] other h = h
last_later at (suc passing) (w ∷ ws) other h = further (last_later (at + 1) passing ws)
  where
    further : ((o : ℕ) → at + 1 ≤ o → at + 1 ≤ last_of o (starts (at + 1) passing ws)) → at ≤ last_of other (starts (at + 1) passing ws)
    further k = by-list (starts (at + 1) passing ws) k
      where
        by-list : (ps : List ℕ) → ((o : ℕ) → at + 1 ≤ o → at + 1 ≤ last_of o ps) → at ≤ last_of other ps
        by-list [] k = h
        by-list (p ∷ ps) k = let z = k (at + 1) (omega arith) in omega arith
last_later at zero (w ∷ ws) other h = by-list (starts (at + 1) (following_of w) ws) (last_later (at + 1) (following_of w) ws)
  where
    by-list : (ps : List ℕ) → ((o : ℕ) → at + 1 ≤ o → at + 1 ≤ last_of o ps) → at ≤ last_of at ps
    by-list [] k = omega arith
    by-list (p ∷ ps) k = let z = k (at + 1) (omega arith) in omega arith

-- a place for each clause
each_placed : (at passing : ℕ) (ws : List ℕ) → length (starts at passing ws) ≡ length (parts_from passing ws)
unfolding starts parts_from
each_placed at passing [] = refl
each_placed at (suc passing) (w ∷ ws) = each_placed (at + 1) passing ws
each_placed at zero (w ∷ ws) = ap suc (each_placed (at + 1) (following_of w) ws)

-- one clause, and those after it
module _ (question at : ℕ) (w : ℕ) (ws : List ℕ) (rest : Option ℕ) where
  one_clause : (ss : List ℕ) (parts : List (List ℕ)) → length ss ≡ length parts → at + 1 ≤ last_of (at + 1) ss → question ≡ last_of at ss
      → (question ≡ last_of question ss → rest ≡ first_without ss (as_table (map clause_of parts)).clauses)
      → cond (eqb at question) none (cond (any_positive (take (following_of w) ws)) rest (some at))
      ≡ first_without (at ∷ ss) (as_table (map clause_of ((w ∷ take (following_of w) ws) ∷ parts))).clauses
  unfolding last_of first_without as_table with_question clause_of
  one_clause [] [] l k e h = rw (eq-eqb at question (sym e))
  one_clause [] (part ∷ parts) l k e h = absurd (omega arith)
  one_clause (s ∷ ss) [] l k e h = absurd (omega arith)
  one_clause (s ∷ ss) (part ∷ parts) l k e h =
      rw (ne_eqb at question (λ z. omega arith), positive_words (take (following_of w) ws), h e)

-- by the clauses that the words from here on say
walk_means : (question at passing : ℕ) (ws : List ℕ) → question ≡ last_of question (starts at passing ws)
    → unconcluded question at passing ws ≡ first_without (starts at passing ws) (as_table (map clause_of (parts_from passing ws))).clauses
unfolding unconcluded starts parts_from first_without last_of
walk_means question at passing [] e = refl
walk_means question at (suc passing) (w ∷ ws) e = walk_means question (at + 1) passing ws e
walk_means question at zero (w ∷ ws) e =
    one_clause question at w ws (unconcluded question (at + 1) (following_of w) ws) (starts (at + 1) (following_of w) ws) (parts_from (following_of w) ws)
    (each_placed (at + 1) (following_of w) ws)
    (last_later (at + 1) (following_of w) ws (at + 1) (omega arith))
    e
    (walk_means question (at + 1) (following_of w) ws)

any_other : (a b : ℕ) (places : List ℕ) → 1 ≤ length places → last_of a places ≡ last_of b places
unfolding last_of
any_other a b [] n = absurd (omega arith)
any_other a b (p ∷ ps) n = refl

-- of an accepted file
pub judged_walk : (f : List ℕ) → (judge f).status ≡ 0 → {question : ℕ} → question ≡ (judge f).question → unconcluded question 0 0 (body_of f) ≡ first_negative f
unfolding table_of clauses_of
judged_walk f z {question} e = walk_means question 0 0 (body_of f) asked
  where
    asked : question ≡ last_of question (starts 0 0 (body_of f))
    asked = e ∙ sym (question_start f z) ∙ any_other 0 question (starts 0 0 (body_of f)) (body_readable f z).some
