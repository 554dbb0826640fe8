-- The items of a clause's literals, by its number in the file.
use mathlib.Core.Bool.{Bool, true, false, cond}
use mathlib.Core.List.{List, [], ◌∷◌, ◌++◌}
use mathlib.Core.Path.{◌≡◌, refl, ap, ◌∙◌}
use Prim.Native.Nat.{ℕ, zero, suc, ◌+◌, ◌-◌, ◌*◌, ◌%◌, ◌≤◌, ◌<◌}
use native.Mathlib.Omega.{arith}
use native.Mathlib.Decide.{dec_lt, ℕ_discrete}
use mir.Syntax.{w64}
use mir.Val.{Fits}
use borrow.Author.Tests.{eq-eqb, ne_eqb, lt-ltb, le-ltb}
use lib.Dec.{eqb, ltb}
use lib.ListN.{length, take, drop, get_or, length-append, length-take, length-drop, drop_of_length-le, get_or-append, get_or-eq_default}
use lib.Seq.{take_at, drop-append-add, get_or-append_seam}
use Rattle.clausetext.specs.Syntax.{Literal, Role, Axiom, Hypothesis, NegatedConjecture, role_name, Clause}
use Rattle.table.specs.Limits.{Each}
use Rattle.tptp.specs.Said.{besides, stated, asking, asked}
use Rattle.tptp.specs.Sketch.{Item, literals_items, clause_sort, clause_items, clauses_items}
use Rattle.tptp.specs.Memory.{items_of, Gathered}
use Rattle.tptp.specs.Body.{ahead}
use Rattle.tptp.proofs.Ahead.{item_ahead, ahead_items, Before, ahead_past, ahead_within}
use Rattle.tptp.proofs.Answers.{items_drop, literals_sorts, clauses_next}
use Rattle.variable_names.specs.Named.{literals_at}
use Rattle.variable_names.specs.Finding.{sorts, how_many, further, behind, place_of}
use Rattle.variable_names.proofs.Walks.{sorts_count}

unfoldable item_sorts : List Item → List ℕ
item_sorts [] = []
item_sorts (i ∷ is) = i.sort ∷ item_sorts is

sorts_are : (text ms ps : List ℕ) → length ms ≡ length ps → sorts ms ≡ item_sorts (items_of text ms ps)
unfolding sorts item_sorts items_of
sorts_are text [] ps h = refl
sorts_are text (m ∷ ms) [] h = absurd (omega arith)
sorts_are text (m ∷ ms) (p ∷ ps) h = ap (λ (l : List ℕ). m % 8 ∷ l) (sorts_are text ms ps (omega arith))

sorts_long : (is : List Item) → length (item_sorts is) ≡ length is
unfolding item_sorts
sorts_long [] = refl
sorts_long (i ∷ is) = ap suc (sorts_long is)

-- the literals of the clauses of a sort
unfoldable with_sort : ℕ → List Clause → List (List Literal)
with_sort sort [] = []
with_sort sort (c ∷ cs) = cond (eqb (clause_sort c.role) sort) (c.literals ∷ with_sort sort cs) (with_sort sort cs)

stated_are : (cs : List Clause) → with_sort 4 cs ≡ stated cs
unfolding with_sort stated
stated_are [] = refl
stated_are (c ∷ cs) = go c.role (stated_are cs)
  where
    go : (r : Role) → with_sort 4 cs ≡ stated cs
        → cond (eqb (clause_sort r) 4) (c.literals ∷ with_sort 4 cs) (with_sort 4 cs) ≡ besides r c.literals (stated cs)
    go Axiom ih = ap (λ (l : List (List Literal)). c.literals ∷ l) ih
    go Hypothesis ih = ap (λ (l : List (List Literal)). c.literals ∷ l) ih
    go NegatedConjecture ih = ih

asked_is : (cs : List Clause) → get_or (with_sort 5 cs) 0 [] ≡ asked cs
unfolding with_sort asked
asked_is [] = refl
asked_is (c ∷ cs) = go c.role (asked_is cs)
  where
    go : (r : Role) → get_or (with_sort 5 cs) 0 [] ≡ asked cs
        → get_or (cond (eqb (clause_sort r) 5) (c.literals ∷ with_sort 5 cs) (with_sort 5 cs)) 0 [] ≡ asking r c.literals (asked cs)
    go Axiom ih = ih
    go Hypothesis ih = ih
    go NegatedConjecture ih = refl

-- literals are passed over
module _ (sort : ℕ) (big : 4 ≤ sort) where
  other : (i : Item) → Before 4 i → eqb i.sort sort ≡ false
  other i b = ne_eqb i.sort sort (λ z. omega (arith, z, b))

  many-past : (is more : List Item) → Each (Before 4) is → how_many sort (item_sorts (is ++ more)) ≡ how_many sort (item_sorts more)
  unfolding how_many item_sorts Each
  many-past [] more e = refl
  many-past (i ∷ is) more e = rw (other i e.0) (many-past is more e.1)

  past : (n : ℕ) (is more : List Item) → Each (Before 4) is → behind sort n (item_sorts (is ++ more)) ≡ length is + behind sort n (item_sorts more)
  unfolding behind item_sorts Each
  past n [] more e = omega arith
  past n (i ∷ is) more e = rw (other i e.0) (omega (arith, past n is more e.1))

  many-are : (cs : List Clause) → how_many sort (item_sorts (clauses_items cs)) ≡ length (with_sort sort cs)
  unfolding how_many item_sorts clauses_items clause_items with_sort
  many-are [] = refl
  many-are (c ∷ cs) = go (eqb (clause_sort c.role) sort) (many-past (literals_items c.literals) (clauses_items cs) (literals_sorts c.literals) ∙ many-are cs)
    where
      go : (t : Bool) → how_many sort (item_sorts (literals_items c.literals ++ clauses_items cs)) ≡ length (with_sort sort cs)
          → cond t (suc (how_many sort (item_sorts (literals_items c.literals ++ clauses_items cs)))) (how_many sort (item_sorts (literals_items c.literals ++ clauses_items cs)))
          ≡ length (cond t (c.literals ∷ with_sort sort cs) (with_sort sort cs))
      go true e = ap suc e
      go false e = e

-- from a place on stand the items of literals, and then clauses
pub record Landed (items : List Item) (at : ℕ) (ls : List Literal) : Type 0 where
  pub rest : List Clause
  pub is : drop at items ≡ literals_items ls ++ clauses_items rest

landed_nowhere : (items : List Item) (at : ℕ) → length items ≤ at → Landed items at []
unfolding literals_items clauses_items
landed_nowhere items at h = record { rest = []; is = drop_of_length-le items h }

abbrev clause_item : Clause → Item
clause_item c = record { sort = clause_sort c.role; parts = length c.literals; name = role_name c.role }

abbrev items_from : Clause → List Clause → List Item
items_from c cs = literals_items c.literals ++ clauses_items cs

landed : (sort : ℕ) → 4 ≤ sort → (cs : List Clause) (n : ℕ) → Landed (clauses_items cs) (behind sort n (item_sorts (clauses_items cs))) (get_or (with_sort sort cs) n [])
unfolding behind item_sorts clauses_items clause_items with_sort literals_items
landed sort big [] n = record { rest = []; is = refl }
landed sort big (c ∷ cs) n = go (eqb (clause_sort c.role) sort) n (λ k. landed sort big cs k)
  where
    later : (k : ℕ) → drop (behind sort k (item_sorts (items_from c cs))) (items_from c cs) ≡ drop (behind sort k (item_sorts (clauses_items cs))) (clauses_items cs)
    later k = rw (past sort big k (literals_items c.literals) (clauses_items cs) (literals_sorts c.literals)) (drop-append-add (literals_items c.literals) (clauses_items cs) (behind sort k (item_sorts (clauses_items cs))))

    on : (k : ℕ) (ls : List Literal) → Landed (clauses_items cs) (behind sort k (item_sorts (clauses_items cs))) ls
        → Landed (clause_item c ∷ items_from c cs) (suc (behind sort k (item_sorts (items_from c cs)))) ls
    on k ls l = record { rest = l.rest; is = later k ∙ l.is }

    go : (t : Bool) (k : ℕ) → ((j : ℕ) → Landed (clauses_items cs) (behind sort j (item_sorts (clauses_items cs))) (get_or (with_sort sort cs) j []))
        → Landed (clause_item c ∷ items_from c cs) (suc (further t k (λ j. behind sort j (item_sorts (items_from c cs))))) (get_or (cond t (c.literals ∷ with_sort sort cs) (with_sort sort cs)) k [])
    go true zero ih = record { rest = cs; is = refl }
    go true (suc k) ih = on k (get_or (with_sort sort cs) k []) (ih k)
    go false k ih = on k (get_or (with_sort sort cs) k []) (ih k)

-- the clause with a number in the file
many_stated : (cs : List Clause) → how_many 4 (item_sorts (clauses_items cs)) ≡ length (stated cs)
many_stated cs = many-are 4 (omega arith) cs ∙ ap (λ (l : List (List Literal)). length l) (stated_are cs)

placed : (cs : List Clause) (clause : ℕ) → Landed (clauses_items cs) (place_of clause (item_sorts (clauses_items cs))) (literals_at cs clause)
unfolding place_of
placed cs clause = go (dec_lt clause (length (stated cs))) (ℕ_discrete clause (length (stated cs)))
  where
    count : how_many 4 (item_sorts (clauses_items cs)) ≡ length (stated cs)
    count = many_stated cs

    go : Dec (clause < length (stated cs)) → Dec (clause ≡ length (stated cs))
        → Landed (clauses_items cs) (cond (ltb clause (how_many 4 (item_sorts (clauses_items cs)))) (behind 4 clause (item_sorts (clauses_items cs))) (cond (eqb clause (how_many 4 (item_sorts (clauses_items cs)))) (behind 5 0 (item_sorts (clauses_items cs))) (length (item_sorts (clauses_items cs))))) (get_or (stated cs ++ (asked cs ∷ [])) clause [])
    go (yes h) d =
        rw (count, lt-ltb clause (length (stated cs)) h, get_or-append (stated cs) (asked cs ∷ []) [] clause h, ← stated_are cs) (landed 4 (omega arith) cs clause)
    go (no h) (yes e) =
        rw (count, e, le-ltb (length (stated cs)) (length (stated cs)) (omega arith), eq-eqb (length (stated cs)) (length (stated cs)) refl, get_or-append_seam (stated cs) (asked cs) [] [], ← asked_is cs) (landed 5 (omega arith) cs 0)
    go (no h) (no e) =
        rw (count, le-ltb clause (length (stated cs)) (omega (arith, h)), ne_eqb clause (length (stated cs)) e, get_or-eq_default (stated cs ++ (asked cs ∷ [])) [] {n = clause} (omega (arith, h, e, length-append (stated cs) (asked cs ∷ []))))
        (landed_nowhere (clauses_items cs) (length (item_sorts (clauses_items cs))) (omega (arith, sorts_long (clauses_items cs))))

behind_within : (sort n : ℕ) (ss : List ℕ) → behind sort n ss ≤ length ss
unfolding behind
behind_within sort n [] = omega arith
behind_within sort n (s ∷ ss) = go (eqb s sort) n (λ k. behind_within sort k ss)
  where
    go : (t : Bool) (k : ℕ) → ((j : ℕ) → behind sort j ss ≤ length ss) → suc (further t k (λ j. behind sort j ss)) ≤ suc (length ss)
    go true zero ih = omega arith
    go true (suc k) ih = omega (arith, ih k)
    go false k ih = omega (arith, ih k)

place_within : (clause : ℕ) (ss : List ℕ) → place_of clause ss ≤ length ss
unfolding place_of
place_within clause ss = go (ltb clause (how_many 4 ss)) (eqb clause (how_many 4 ss))
  where
    go : (a b : Bool) → cond a (behind 4 clause ss) (cond b (behind 5 0 ss) (length ss)) ≤ length ss
    go true b = behind_within 4 clause ss
    go false true = behind_within 5 0 ss
    go false false = omega arith

-- the part of a text's items that is a clause's, with premises as the code has them
pub part_even : (marks places : List ℕ) (from end : ℕ) → length marks ≡ length places
    → length (take (end - from) (drop from marks)) ≡ length (take (end - from) (drop from places))
part_even marks places from end h =
    omega (arith, length-take (end - from) (drop from marks), length-take (end - from) (drop from places), length-drop from marks, length-drop from places)

pub part_short : (marks : List ℕ) (from end : ℕ) → length marks ≤ 65536 → length (take (end - from) (drop from marks)) ≤ 65536
part_short marks from end h = omega (arith, length-take (end - from) (drop from marks), length-drop from marks)

pub gathered_short : {text marks places : List ℕ} {count : ℕ} → Gathered text marks places count → length (take (count - 0) (drop 0 marks)) ≤ 65536
gathered_short {marks = marks} {count = count} g = part_short marks 0 count (omega (arith, g.marks_long))

module _ (marks : List ℕ) (clause : ℕ) {from : ℕ} (f : from ≡ place_of clause (sorts marks)) where
  pub from_within : from ≤ length marks
  from_within = omega (arith, f, place_within clause (sorts marks), sorts_count marks)

  pub from_inside : (places : List ℕ) → length marks ≡ length places → from ≤ length places
  from_inside places h = omega (arith, from_within)

  pub from_fits : length marks ≤ 65536 → Fits w64 (from * 4)
  from_fits h = record { fits = omega (arith, from_within) }

  module _ {end : ℕ} (e : end ≡ from + ahead 4 (drop from marks)) where
    pub end_later : from ≤ end
    end_later = omega (arith, e)

    pub end_within : end ≤ length marks
    end_within = omega (arith, e, from_within, ahead_within 4 (drop from marks), length-drop from marks)

    pub end_inside : (places : List ℕ) → length marks ≡ length places → end ≤ length places
    end_inside places h = omega (arith, end_within)

    pub own_part : (text places : List ℕ) → length marks ≡ length places → (cs : List Clause) → items_of text marks places ≡ clauses_items cs
        → take (end - from) (items_of text (drop from marks) (drop from places)) ≡ literals_items (literals_at cs clause)
    own_part text places even cs is =
        let z : end - from ≡ length (literals_items (literals_at cs clause)) = omega (arith, end_is) in
        rw (after, z) (take_at (literals_items (literals_at cs clause)) (clauses_items land.rest) (length (literals_items (literals_at cs clause))) refl)
      where
        land : Landed (clauses_items cs) from (literals_at cs clause)
        land = rw (f, sorts_are text marks places even, is) (placed cs clause)

        after : items_of text (drop from marks) (drop from places) ≡ (literals_items (literals_at cs clause)) ++ clauses_items land.rest
        after = items_drop text from marks places ∙ ap (λ (l : List Item). drop from l) is ∙ land.is

        after-even : length (drop from marks) ≡ length (drop from places)
        after-even = omega (arith, even, length-drop from marks, length-drop from places)

        end_is : end ≡ from + length (literals_items (literals_at cs clause))
        end_is =
            e ∙ omega (
              arith,
              ahead_items text 4 (drop from marks) (drop from places) after-even,
              ap (λ (l : List Item). item_ahead 4 l) after,
              ahead_past 4 (literals_items (literals_at cs clause)) (clauses_items land.rest) (literals_sorts (literals_at cs clause)),
              clauses_next 4 (omega arith) land.rest,
            )

pub ruleset part_laws = (part_even, part_short, from_within, from_inside, from_fits, end_later, end_within, end_inside)
