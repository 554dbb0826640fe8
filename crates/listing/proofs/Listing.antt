-- What is listed: which numbers, each once, with its own clause and the right number of copies, and what the copies come to.
use borrow.Author.Tests.{eq-eqb, ne_eqb}
use lib.ListN.{length, get_elem?, length-append}
use mathlib.Core.Bool.{Bool, true, false}
use mathlib.Core.List.{List, [], ◌∷◌, ◌++◌, map, flatten, append-nil, append_assoc}
use mathlib.Core.Logic.{◌↔◌, ◌⊎◌, inl, inr}
use mathlib.Core.Option.{some}
use mathlib.Core.Path.{◌≡◌, refl, sym, ap, ◌∙◌, subst}
use native.Mathlib.Decide.{dec_lt, ℕ_discrete}
use native.Mathlib.Nat.{zero-add}
use native.Mathlib.Numerals.{add-one}
use native.Mathlib.Omega.{arith}
use Prim.Native.Nat.{ℕ, zero, suc, ◌+◌, ◌≤◌, ◌<◌}
use Rattle.words.specs.declared.Step.{Step}
use Rattle.words.specs.declared.Step.TheVariants.{Reduction, Extension}
use Rattle.table.specs.Syntax.{Clause, Table, all_clauses}
use Rattle.rules.specs.Setting.{restarting, Setting}
use Rattle.rules.specs.System.{◌∈◌, first, later}
use Rattle.rules.specs.Tableau.{Tableau, start, Made, as_it_stands, by_step, Closed}
use Rattle.rules.proofs.Every.{true_false}
use Rattle.rules.proofs.Lists.{some_below, some_append, some_last}
use Rattle.rules.proofs.Steps.{Does, reduces, extends, restarts, does, restarts_some}
use Rattle.listing.specs.Behind.{copied_by, Listed, if_copied, copied_from, copied, asked, listed}
use Rattle.listing.specs.Lines.{line_text, lines_text, listing_text}
use Rattle.listing.specs.Promises.{line_of, Ascending, RightlyListed, sum_of_copies}
use Rattle.listing.proofs.Copies.{copied_some, some_copied}

abbrev numbers_in : List Listed → List ℕ
numbers_in ls = map (λ l. l.number) ls

at_head : {A : Type 0} {x y : A} {ys : List A} → x ∈ (y ∷ ys) → (x ≡ y) ⊎ (x ∈ ys)
at_head first = inl refl
at_head (later m) = inr m

only_one : {A : Type 0} {x y : A} → x ∈ (y ∷ []) → x ≡ y
only_one first = refl
only_one {A = A} {y = y} (later m) = elim m [ ]

-- numbers that ascend, from this one on
unfoldable From : ℕ → List ℕ → Type 0
From low [] = Unit {0}
From low (n ∷ ns) = (low ≤ n) × From (suc n) ns

from_lower : (low high : ℕ) (ns : List ℕ) → low ≤ high → From high ns → From low ns
unfolding From
from_lower low high [] h f = tt
from_lower low high (n ∷ ns) h f = let k = f.0 in (omega arith, f.1)

from_ascending : (low : ℕ) (ns : List ℕ) → From low ns → Ascending ns
unfolding From Ascending
from_ascending low [] f = tt
from_ascending low (n ∷ []) f = tt
from_ascending low (m ∷ n ∷ ns) f = (f.1.0, from_ascending (suc m) (n ∷ ns) f.1)

-- a clause that is listed, by its place among the clauses
record Stands (copies : ℕ → ℕ) (number : ℕ) (cs : List Clause) (l : Listed) : Type 0 where
  place : ℕ
  numbered : l.number ≡ number + place
  below : place < length cs
  clause : get_elem? cs place ≡ some l.clause
  some : 1 ≤ l.copies
  copied : l.copies ≡ copies l.number

module _ (copies : ℕ → ℕ) where
  from-copied : (number : ℕ) (cs : List Clause) (ls : List Listed) → From (number + length cs) (numbers_in ls) → From number (numbers_in (copied_from copies number cs ++ ls))
  unfolding copied_from if_copied From
  from-copied number [] ls f = from_lower number (number + 0) (numbers_in ls) (omega arith) f
  from-copied number (c ∷ cs) ls f = more (copies number) (from-copied (suc number) cs ls (subst (λ (n : ℕ). From n (numbers_in ls)) (omega arith) f))
    where
      more : (n : ℕ) → From (suc number) (numbers_in (copied_from copies (suc number) cs ++ ls)) → From number (numbers_in (if_copied number n c (copied_from copies (suc number) cs) ++ ls))
      more zero e = from_lower number (suc number) (numbers_in (copied_from copies (suc number) cs ++ ls)) (omega arith) e
      more (suc n) e = (omega arith, e)

  -- a clause with copies is listed
  in-copied : (number place : ℕ) (cs : List Clause) (ls : List Listed) → place < length cs → 1 ≤ copies (number + place)
      → (number + place) ∈ numbers_in (copied_from copies number cs ++ ls)
  unfolding copied_from if_copied
  in-copied number place [] ls h k = absurd (omega arith)
  in-copied number zero (c ∷ cs) ls h k =
      let z : number ≡ number + 0 = omega arith in
      subst (λ (n : ℕ). n ∈ numbers_in (if_copied number (copies number) c (copied_from copies (suc number) cs) ++ ls)) z
      (here (copies number) (subst (λ (n : ℕ). 1 ≤ copies n) (sym z) k))
    where
      here : (n : ℕ) → 1 ≤ n → number ∈ numbers_in (if_copied number n c (copied_from copies (suc number) cs) ++ ls)
      here zero l = absurd (omega arith)
      here (suc n) l = first
  in-copied number (suc place) (c ∷ cs) ls h k =
      let z : suc number + place ≡ number + suc place = omega arith in
      there (copies number) (subst (λ (n : ℕ). n ∈ numbers_in (copied_from copies (suc number) cs ++ ls)) z
      (in-copied (suc number) place cs ls (omega arith) (subst (λ (n : ℕ). 1 ≤ copies n) (sym z) k)))
    where
      there : (n : ℕ) → (number + suc place) ∈ numbers_in (copied_from copies (suc number) cs ++ ls) → (number + suc place) ∈ numbers_in (if_copied number n c (copied_from copies (suc number) cs) ++ ls)
      there zero m = m
      there (suc n) m = later m

  behind-copied : (number : ℕ) (cs : List Clause) (ls : List Listed) {n : ℕ} → n ∈ numbers_in ls → n ∈ numbers_in (copied_from copies number cs ++ ls)
  unfolding copied_from if_copied
  behind-copied number [] ls m = m
  behind-copied number (c ∷ cs) ls {n = k} m = more (copies number) (behind-copied (suc number) cs ls m)
    where
      more : (n : ℕ) → k ∈ numbers_in (copied_from copies (suc number) cs ++ ls) → k ∈ numbers_in (if_copied number n c (copied_from copies (suc number) cs) ++ ls)
      more zero e = e
      more (suc n) e = later e

  -- a listed clause stands among the clauses, or among those behind
  stands : (number : ℕ) (cs : List Clause) (ls : List Listed) (l : Listed) → l ∈ (copied_from copies number cs ++ ls) → Stands copies number cs l ⊎ (l ∈ ls)
  unfolding copied_from if_copied
  stands number [] ls l m = inr m
  stands number (c ∷ cs) ls l m = more (copies number) refl (λ k. stands (suc number) cs ls l k) m
    where
      further : Stands copies (suc number) cs l → Stands copies number (c ∷ cs) l
      further s = let e = s.numbered in let b = s.below in
          record { place = suc s.place; numbered = omega arith; below = omega arith; clause = s.clause; some = s.some; copied = s.copied }

      here : (n : ℕ) → copies number ≡ suc n → l ≡ record { number = number; copies = suc n; clause = c } → Stands copies number (c ∷ cs) l
      here n e h = rw h (record { place = 0; numbered = omega arith; below = omega arith; clause = refl; some = omega arith; copied = sym e })

      weaken : Stands copies (suc number) cs l ⊎ (l ∈ ls) → Stands copies number (c ∷ cs) l ⊎ (l ∈ ls)
      weaken (inl s) = inl (further s)
      weaken (inr k) = inr k

      more : (n : ℕ) → copies number ≡ n → (l ∈ (copied_from copies (suc number) cs ++ ls) → Stands copies (suc number) cs l ⊎ (l ∈ ls))
          → l ∈ (if_copied number n c (copied_from copies (suc number) cs) ++ ls) → Stands copies number (c ∷ cs) l ⊎ (l ∈ ls)
      more zero e f m = weaken (f m)
      more (suc n) e f m = elim (at_head m) [ inl h ↦ inl (here n e h) | inr k ↦ weaken (f k) ]

number_of : (ls : List Listed) (n : ℕ) → n ∈ numbers_in ls → (l : Listed) × (l ∈ ls) × (l.number ≡ n)
number_of [] n m = elim m [ ]
number_of (l ∷ ls) n first = (l, first, refl)
number_of (l ∷ ls) n (later m) = let r = number_of ls n m in (r.0, later r.1, r.2)

module _ (t : Table) (steps : List Step) where
  pub listed_once : Ascending (numbers_in (listed t steps))
  unfolding listed copied asked From
  listed_once =
      from_ascending 0 (numbers_in (listed t steps))
      (from-copied (copied_by steps) 0 t.clauses (asked t steps ∷ []) (omega arith, tt))

  pub rightly_listed : (l : Listed) → l ∈ listed t steps → RightlyListed t steps l
  unfolding listed copied asked all_clauses
  rightly_listed l m = right (stands (copied_by steps) 0 t.clauses (asked t steps ∷ []) l m)
    where
      right : Stands (copied_by steps) 0 t.clauses l ⊎ (l ∈ (asked t steps ∷ [])) → RightlyListed t steps l
      right (inl s) =
          let same : s.place ≡ l.number = omega (arith, s.numbered) in
          record {
            clause = ap (λ (n : ℕ). get_elem? (t.clauses ++ (t.question ∷ [])) n) (sym same) ∙ some_append t.clauses (t.question ∷ []) s.place s.clause;
            copies = inl (omega (arith, s.below), s.copied);
          }
      right (inr k) =
          let e : l ≡ asked t steps = only_one k in
          record {
            clause = rw e (some_last t.clauses t.question);
            copies = inr (ap (λ (x : Listed). x.number) e, rw e refl);
          }

-- what a function's values come to, so many from a number on
unfoldable sums : (ℕ → ℕ) → ℕ → ℕ → ℕ
sums f number zero = 0
sums f number (suc more) = f number + sums f (suc number) more

-- a value more behind
sums_behind : (f : ℕ → ℕ) (number many : ℕ) → sums f number (suc many) ≡ sums f number many + f (number + many)
unfolding sums
sums_behind f number zero = let z : number ≡ number + 0 = omega arith in rw (← z) (omega arith)
sums_behind f number (suc many) =
    let z : suc number + many ≡ number + suc many = omega arith in
    let e = ap (λ (n : ℕ). f number + n) (sums_behind f (suc number) many) in
    let v = ap f z in
    omega (arith, e, v)

sums_none : (number many : ℕ) → sums (copied_by []) number many ≡ 0
unfolding sums copied_by
sums_none number zero = refl
sums_none number (suc many) = omega (arith, sums_none (suc number) many)

-- a step that copies a clause counts once, where the clause's number is among them
module _ (clause literal : ℕ) (steps : List Step) where
  sums-outside : (number many : ℕ) → clause < number → sums (copied_by (Extension clause literal ∷ steps)) number many ≡ sums (copied_by steps) number many
  unfolding sums copied_by
  sums-outside number zero h = refl
  sums-outside number (suc many) h =
      rw (ne_eqb clause number (λ e. omega arith), sums-outside (suc number) many (omega arith))

  sums-inside : (number many : ℕ) → number ≤ clause → clause < number + many
      → sums (copied_by (Extension clause literal ∷ steps)) number many ≡ suc (sums (copied_by steps) number many)
  unfolding sums copied_by
  sums-inside number zero h k = absurd (omega arith)
  sums-inside number (suc many) h k = at (ℕ_discrete clause number) (λ l. sums-inside (suc number) many l (omega arith))
    where
      at : Dec (clause ≡ number) → (suc number ≤ clause → sums (copied_by (Extension clause literal ∷ steps)) (suc number) many ≡ suc (sums (copied_by steps) (suc number) many))
          → copied_by (Extension clause literal ∷ steps) number + sums (copied_by (Extension clause literal ∷ steps)) (suc number) many ≡ suc (copied_by steps number + sums (copied_by steps) (suc number) many)
      at (yes e) f = rw (eq-eqb clause number e, sums-outside (suc number) many (omega arith)) (omega arith)
      at (no n) f = rw (ne_eqb clause number n, f (omega arith)) (omega arith)

sums_reduction : (height : ℕ) (steps : List Step) (number many : ℕ) → sums (copied_by (Reduction height ∷ steps)) number many ≡ sums (copied_by steps) number many
unfolding sums copied_by
sums_reduction height steps number zero = refl
sums_reduction height steps number (suc many) = rw (sums_reduction height steps (suc number) many)

-- the steps make as many extensions as they copy clauses, where none is a restart
module _ (S : Setting) where
  made_copies : restarting S.profile ≡ false → {x z : Tableau} {ss : List Step} → Made S x ss z → sums (copied_by ss) 0 (length (all_clauses S.table)) + x.extensions ≡ z.extensions
  made_copies none as_it_stands = omega (arith, sums_none 0 (length (all_clauses S.table)))
  made_copies none (by_step {x} {y} {z} {s} {ss} e m) = by (does s e) (made_copies none m)
    where
      by : {s : Step} → Does S x s y → sums (copied_by ss) 0 (length (all_clauses S.table)) + y.extensions ≡ z.extensions
          → sums (copied_by (s ∷ ss)) 0 (length (all_clauses S.table)) + x.extensions ≡ z.extensions
      by (reduces {height = height} l a f e) h =
          omega (arith, h, ap (λ (u : Tableau). u.extensions) e, sums_reduction height ss 0 (length (all_clauses S.table)))
      by (extends {i = i} {j = j} l u c a f e) h =
          let n : ℕ = length (all_clauses S.table) in
          omega (arith, h, ap (λ (u : Tableau). u.extensions) e, sums-inside i j ss 0 n (omega arith) (omega (arith, some_below (all_clauses S.table) i c)))
      by (restarts {leaf = leaf} l u e) h = true_false (restarts_some S.profile leaf.literal.negative u.0) none

  -- a clause number that they copy is the table's
  made_range : {x z : Tableau} {ss : List Step} → Made S x ss z → (i j : ℕ) → Extension i j ∈ ss → i < length (all_clauses S.table)
  made_range as_it_stands i j k = elim k [ ]
  made_range (by_step {x} {y} {z} {s} {ss} e m) i j k = at (at_head k) (λ r. made_range m i j r)
    where
      of : {r : Step} → Does S x r y → r ≡ Extension i j → i < length (all_clauses S.table)
      of (reduces l a f e) h = let w : ◌≡◌ {A = ℕ} 0 1 = cc in absurd (omega arith)
      of (extends {i = n} l u c a f e) h = let same : n ≡ i = cc in omega (arith, some_below (all_clauses S.table) n c)
      of (restarts l u e) h = let w : ◌≡◌ {A = ℕ} 0 1 = cc in absurd (omega arith)

      at : (Extension i j ≡ s) ⊎ (Extension i j ∈ ss) → (Extension i j ∈ ss → i < length (all_clauses S.table)) → i < length (all_clauses S.table)
      at (inl h) f = of (does s e) (sym h)
      at (inr k) f = f k

module _ (copies : ℕ → ℕ) where
  sum-copied : (number : ℕ) (cs : List Clause) (ls : List Listed) → sum_of_copies (copied_from copies number cs ++ ls) ≡ sums copies number (length cs) + sum_of_copies ls
  unfolding copied_from if_copied sums sum_of_copies
  sum-copied number [] ls = omega arith
  sum-copied number (c ∷ cs) ls = more (copies number) refl (sum-copied (suc number) cs ls)
    where
      more : (n : ℕ) → copies number ≡ n → sum_of_copies (copied_from copies (suc number) cs ++ ls) ≡ sums copies (suc number) (length cs) + sum_of_copies ls
          → sum_of_copies (if_copied number n c (copied_from copies (suc number) cs) ++ ls) ≡ copies number + sums copies (suc number) (length cs) + sum_of_copies ls
      more zero e h = omega arith
      more (suc n) e h = omega arith

-- of a closed tableau
module _ (S : Setting) (steps : List Step) (c : Closed S steps) where
  pub one_more : restarting S.profile ≡ false → sum_of_copies (listed S.table steps) ≡ suc c.tableau.extensions
  unfolding listed copied asked sum_of_copies start all_clauses
  one_more none =
      let t : Table = S.table in
      let n : ℕ = length t.clauses in
      let many = ap (λ (m : ℕ). sums (copied_by steps) 0 m) (length-append t.clauses (t.question ∷ []) ∙ add-one n) in
      omega (
        arith,
        sum-copied (copied_by steps) 0 t.clauses (asked t steps ∷ []),
        made_copies S none c.made,
        many,
        sums_behind (copied_by steps) 0 n,
        ap (copied_by steps) (zero-add n),
      )

  pub listed_exactly : (number : ℕ) → (number ∈ numbers_in (listed S.table steps)) ↔ ((number ≡ length S.table.clauses) ⊎ ((literal : ℕ) × (Extension number literal ∈ steps)))
  unfolding listed copied asked all_clauses
  listed_exactly number = (into, back)
    where
      of : (l : Listed) → l.number ≡ number → Stands (copied_by steps) 0 S.table.clauses l ⊎ (l ∈ (asked S.table steps ∷ []))
          → (number ≡ length S.table.clauses) ⊎ ((literal : ℕ) × (Extension number literal ∈ steps))
      of l e (inl s) = inr (some_copied number steps (omega (arith, s.some, s.copied, ap (copied_by steps) e)))
      of l e (inr k) = inl (sym e ∙ ap (λ (x : Listed). x.number) (only_one k))

      into : number ∈ numbers_in (copied_from (copied_by steps) 0 S.table.clauses ++ (asked S.table steps ∷ []))
          → (number ≡ length S.table.clauses) ⊎ ((literal : ℕ) × (Extension number literal ∈ steps))
      into m =
          let r = number_of _ number m in
          of r.0 r.2 (stands (copied_by steps) 0 S.table.clauses (asked S.table steps ∷ []) r.0 r.1)

      the-question : number ≡ length S.table.clauses → number ∈ numbers_in (copied_from (copied_by steps) 0 S.table.clauses ++ (asked S.table steps ∷ []))
      the-question e = behind-copied (copied_by steps) 0 S.table.clauses (asked S.table steps ∷ []) (rw e first)

      among : (literal : ℕ) → Extension number literal ∈ steps → Dec (number < length S.table.clauses)
          → number ∈ numbers_in (copied_from (copied_by steps) 0 S.table.clauses ++ (asked S.table steps ∷ []))
      among literal m (yes l) =
          subst (λ (n : ℕ). n ∈ numbers_in (copied_from (copied_by steps) 0 S.table.clauses ++ (asked S.table steps ∷ []))) (zero-add number)
          (in-copied (copied_by steps) 0 number S.table.clauses (asked S.table steps ∷ []) l
          (omega (arith, copied_some number literal steps m, ap (copied_by steps) (zero-add number))))
      among literal m (no n) =
          the-question (omega (arith, made_range S c.made number literal m, length-append S.table.clauses (S.table.question ∷ [])))

      back : (number ≡ length S.table.clauses) ⊎ ((literal : ℕ) × (Extension number literal ∈ steps))
          → number ∈ numbers_in (copied_from (copied_by steps) 0 S.table.clauses ++ (asked S.table steps ∷ []))
      back (inl e) = the-question e
      back (inr h) = among h.0 h.1 (dec_lt number (length S.table.clauses))

-- the lines are those of what is listed
module _ (t : Table) (copies : ℕ → ℕ) (question : Listed) (last : question.number ≡ length t.clauses) where
  lines-listed : (number : ℕ) (cs : List Clause) → number + length cs ≤ length t.clauses
      → lines_text (copied_from copies number cs) ++ line_text true question ≡ flatten (map (line_of t) (copied_from copies number cs ++ (question ∷ [])))
  unfolding copied_from if_copied lines_text flatten
  lines-listed number [] h =
      ap (λ (b : Bool). line_text b question) (sym (eq-eqb question.number (length t.clauses) last)) ∙ sym (append-nil (line_of t question))
  lines-listed number (c ∷ cs) h = more (copies number) (lines-listed (suc number) cs (omega arith))
    where
      before : (number ≡ length t.clauses) → ⊥
      before e = omega arith

      more : (n : ℕ)
          → lines_text (copied_from copies (suc number) cs) ++ line_text true question ≡ flatten (map (line_of t) (copied_from copies (suc number) cs ++ (question ∷ [])))
          → lines_text (if_copied number n c (copied_from copies (suc number) cs)) ++ line_text true question
          ≡ flatten (map (line_of t) (if_copied number n c (copied_from copies (suc number) cs) ++ (question ∷ [])))
      more zero rest = rest
      more (suc n) rest =
          let l : Listed = record { number = number; copies = suc n; clause = c } in
          append_assoc (line_text false l) (lines_text (copied_from copies (suc number) cs)) (line_text true question)
          ∙ ap (λ (text : List ℕ). line_text false l ++ text) rest
          ∙ ap (λ (b : Bool). line_text b l ++ flatten (map (line_of t) (copied_from copies (suc number) cs ++ (question ∷ [])))) (sym (ne_eqb number (length t.clauses) before))

pub text_listed : (t : Table) (steps : List Step) → listing_text t steps ≡ flatten (map (line_of t) (listed t steps))
unfolding listing_text listed copied asked
text_listed t steps = lines-listed t (copied_by steps) (asked t steps) refl 0 t.clauses (omega arith)
