-- The literals of a body as its scan meets them: where each stands, its word, and its number in its clause.
use mathlib.Core.Path.{◌≡◌, refl, sym, ap, ◌∙◌}
use mathlib.Core.Bool.{true, false}
use mathlib.Core.List.{List, [], ◌∷◌}
use mathlib.Core.Option.{some}
use Prim.Native.Nat.{ℕ, zero, suc, ◌+◌, ◌-◌, ◌≤◌, ◌<◌}
use native.Mathlib.Nat.{add-zero}
use native.Mathlib.Omega.{arith}
use lib.Dec.{eqb}
use lib.ListN.{length, drop, get_or, get_elem?, length-drop}
use lib.Seq.{drop-drop, get_or-drop}
use borrow.Author.Tests.{ne_eqb, eqb-true, eqb-false}
use Rattle.words.specs.Fields.{kind_of}
use Rattle.rules.proofs.Lists.{none_some}
use Rattle.rules.proofs.Unify.Tests.{decide}
use Rattle.index.specs.declared.entries.Scan.{Scan}
use Rattle.std.specs.Prelude.{None}
use Rattle.index.specs.Scanning.{begun, past_word, Standing, is_entry, entry_from}
use Rattle.index.specs.Noting.{keys_of, scans_from}
use Rattle.index.proofs.Scans.{past_clause, past_literal, past_other, past_at, standing_begin, standing_past}

-- numbered items of a list
module _ {A : Type 0} where
  pub elem_drop : (xs : List A) (i j k : ℕ) {x : A} → i + k ≡ j → get_elem? xs j ≡ some x → get_elem? (drop i xs) k ≡ some x
  elem_drop [] i j k e h = absurd (none_some h)
  elem_drop (y ∷ ys) zero j k e h = let same : k ≡ j = omega arith in rw same h
  elem_drop (y ∷ ys) (suc i) zero k e h = absurd (omega arith)
  elem_drop (y ∷ ys) (suc i) (suc j) k e h = elem_drop ys i j k (omega arith) h

  pub elem_some : (xs : List A) (i : ℕ) → i < length xs → (x : A) × (get_elem? xs i ≡ some x)
  elem_some [] i h = absurd (omega arith)
  elem_some (y ∷ ys) zero h = (y, refl)
  elem_some (y ∷ ys) (suc i) h = elem_some ys i (omega arith)

  pub elem_inside : (xs : List A) (i : ℕ) {x : A} → get_elem? xs i ≡ some x → i < length xs
  elem_inside [] i h = absurd (none_some h)
  elem_inside (y ∷ ys) zero h = omega arith
  elem_inside (y ∷ ys) (suc i) h = let l = elem_inside ys i h in omega arith

  pub elem_first : (xs : List A) (i : ℕ) {x : A} {ys : List A} → drop i xs ≡ x ∷ ys → (get_elem? xs i ≡ some x) × (drop (i + 1) xs ≡ ys)
  elem_first [] zero e = let z : ◌≡◌ {A = ℕ} 0 1 = cc in absurd (omega arith)
  elem_first [] (suc i) e = let z : ◌≡◌ {A = ℕ} 0 1 = cc in absurd (omega arith)
  elem_first (y ∷ ys) zero {x} {ys = zs} e = let same : y ≡ x = cc in let rest : ys ≡ zs = cc in (ap some same, rest)
  elem_first (y ∷ ys) (suc i) e =
      let on = elem_first ys i e in
      let one : suc i + 1 ≡ suc (i + 1) = omega arith in
      (on.0, rw one on.1)

pub same_count : (ws : List ℕ) (s : Scan) → length (scans_from s ws) ≡ length (keys_of ws)
unfolding scans_from keys_of
same_count [] s = refl
same_count (w ∷ ws) s =
    decide (eqb (kind_of w) 2)
    (λ e. rw (e) (let n = same_count ws (past_word s w) in omega arith))
    (λ e. rw (e) (same_count ws (past_word s w)))

-- the literal of a number, counted from where a scan stands
pub record Scanned (whole : List ℕ) (keys : List ℕ) (scans : List Scan) (from : Scan) (i : ℕ) (s : Scan) : Type 0 where
  pub standing : Standing whole s
  pub inside : s.at < length whole
  pub kind : kind_of (get_or whole s.at 0) ≡ 2
  pub key : get_or keys i 0 ≡ get_or whole s.at 0
  pub few : s.literals ≤ from.literals + i
  pub later : from.clauses ≤ s.clauses
  pub same : s.clauses ≡ from.clauses → s.literals ≡ from.literals + i
  pub rest : scans_from s (drop s.at whole) ≡ drop i scans

module _ (whole : List ℕ) where
  module _ (at : ℕ) {w : ℕ} {ws : List ℕ} (e : drop at whole ≡ w ∷ ws) where
    here : get_or whole at 0 ≡ w
    here = ap (λ (n : ℕ). get_or whole n 0) (sym (add-zero at)) ∙ sym (get_or-drop at whole 0 0) ∙ ap (λ (l : List ℕ). get_or l 0 0) e

    further : drop (at + 1) whole ≡ ws
    further = sym (drop-drop 1 at whole) ∙ ap (drop 1) e

    within : at < length whole
    within = omega (arith, sym (length-drop at whole) ∙ ap length e)

    next_stands : {s : Scan} → s.at ≡ at → Standing whole s → Standing whole (past_word s w)
    next_stands {s} p g =
        let place : get_or whole s.at 0 ≡ w = rw p here in
        rw place at (standing_past whole g (rw p within))

  abbrev On : List ℕ → Scan → Type 0
  On ws from = (i : ℕ) (s : Scan) → get_elem? (scans_from from ws) i ≡ some s → Scanned whole (keys_of ws) (scans_from from ws) from i s

  module _ (w : ℕ) (ws : List ℕ) (from : Scan) (g : Standing whole from) (e : drop from.at whole ≡ w ∷ ws) (more : On ws (past_word from w)) where
    here-first : eqb (kind_of w) 2 ≡ true → scans_from from (w ∷ ws) ≡ from ∷ scans_from (past_word from w) ws
    unfolding scans_from
    here-first b = rw b

    first : eqb (kind_of w) 2 ≡ true → (i : ℕ) {s : Scan} → get_elem? (from ∷ scans_from (past_word from w) ws) i ≡ some s
        → Scanned whole (w ∷ keys_of ws) (from ∷ scans_from (past_word from w) ws) from i s
    first b zero {s} h =
        let same : from ≡ s = cc in
        rw (← same)
        (record {
          standing = g;
          inside = within from.at e;
          kind = rw (here from.at e) (eqb-true (kind_of w) 2 b);
          key = sym (here from.at e);
          few = omega arith;
          later = omega arith;
          same = λ q. omega arith;
          rest = rw e (here-first b);
        })
    first b (suc i) {s} h =
        let kind = eqb-true (kind_of w) 2 b in
        let past = past_literal from w refl (λ q. omega arith) kind in
        let clauses : (past_word from w).clauses ≡ from.clauses = ap (λ (t : Scan). t.clauses) (sym past) in
        let literals : (past_word from w).literals ≡ from.literals + 1 = ap (λ (t : Scan). t.literals) (sym past) in
        let on = more i s h in
        record {
          standing = on.standing;
          inside = on.inside;
          kind = on.kind;
          key = on.key;
          few = omega (arith, on.few);
          later = omega (arith, on.later);
          same = λ q. omega (arith, on.same (q ∙ sym clauses));
          rest = on.rest;
        }

    other : eqb (kind_of w) 2 ≡ false → {i : ℕ} {s : Scan} → Scanned whole (keys_of ws) (scans_from (past_word from w) ws) (past_word from w) i s
        → Scanned whole (keys_of ws) (scans_from (past_word from w) ws) from i s
    other b {i} {s} on =
        let plain = eqb-false (kind_of w) 2 b in
        decide (eqb (kind_of w) 3)
        (λ d.
        let past = past_clause from w refl (eqb-true (kind_of w) 3 d) in
        let clauses : (past_word from w).clauses ≡ from.clauses + 1 = ap (λ (t : Scan). t.clauses) (sym past) in
        let literals : (past_word from w).literals ≡ 0 = ap (λ (t : Scan). t.literals) (sym past) in
        record {
          standing = on.standing;
          inside = on.inside;
          kind = on.kind;
          key = on.key;
          few = omega (arith, on.few);
          later = omega (arith, on.later);
          same = λ q. absurd (omega (arith, on.later));
          rest = on.rest;
        })
        (λ d.
        let past = past_other from w refl (eqb-false (kind_of w) 3 d) plain in
        let clauses : (past_word from w).clauses ≡ from.clauses = ap (λ (t : Scan). t.clauses) (sym past) in
        let literals : (past_word from w).literals ≡ from.literals = ap (λ (t : Scan). t.literals) (sym past) in
        record {
          standing = on.standing;
          inside = on.inside;
          kind = on.kind;
          key = on.key;
          few = omega (arith, on.few);
          later = omega (arith, on.later);
          same = λ q. omega (arith, on.same (q ∙ sym clauses));
          rest = on.rest;
        })

  scanned : (ws : List ℕ) (from : Scan) → Standing whole from → drop from.at whole ≡ ws → On ws from
  unfolding scans_from keys_of
  scanned [] from g e i s h = absurd (none_some h)
  scanned (w ∷ ws) from g e i s h =
      let more : On ws (past_word from w) =
      scanned ws (past_word from w) (next_stands from.at e refl g) (ap (λ (n : ℕ). drop n whole) (past_at from w) ∙ further from.at e) in
      decide (eqb (kind_of w) 2)
      (λ b. rw b (first w ws from g e more b i (rw b at h)))
      (λ b. rw b (other w ws from g e more b (more i s (rw b at h))))

  pub scan_at : (i : ℕ) {s : Scan} → get_elem? (scans_from begun whole) i ≡ some s → Scanned whole (keys_of whole) (scans_from begun whole) begun i s
  scan_at i {s} h = scanned whole begun (standing_begin whole) refl i s h

  -- two literals of one clause
  pub one_clause : (i j : ℕ) {s t : Scan} → get_elem? (scans_from begun whole) i ≡ some s → get_elem? (scans_from begun whole) j ≡ some t → i ≤ j → t.clauses ≡ s.clauses
      → t.literals ≡ s.literals + (j - i)
  one_clause i j {s} {t} hs ht l e =
      let at = scan_at i hs in
      let there = elem_drop (scans_from begun whole) i j (j - i) (omega arith) ht in
      (scanned (drop s.at whole) s at.standing refl (j - i) t (rw at.rest there)).same e

-- where no literal has these numbers
pub none_entered : (clause literal : ℕ) (ws : List ℕ) (from : Scan) → ((i : ℕ) (s : Scan) → get_elem? (scans_from from ws) i ≡ some s → s.clauses ≡ clause + 1 → s.literals ≡ literal → ⊥)
    → entry_from clause literal from ws ≡ None
unfolding entry_from scans_from is_entry
none_entered clause literal [] from n = refl
none_entered clause literal (w ∷ ws) from n =
    decide (eqb (kind_of w) 2)
    (λ b.
    let rest = none_entered clause literal ws (past_word from w) (λ i s h. n (suc i) s (rw b h)) in
    decide (eqb from.clauses (clause + 1))
    (λ c.
    let not-here = ne_eqb from.literals literal (λ q. n 0 from (rw b refl) (eqb-true _ _ c) q) in
    rw (b, c, not-here) rest)
    (λ c. rw (b, c) rest))
    (λ b. rw b (none_entered clause literal ws (past_word from w) (λ i s h. n i s (rw b h))))
