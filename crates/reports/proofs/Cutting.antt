-- A text cut into clauses, one law for each outcome, with premises as the code has them.
use mathlib.Core.Path.{◌≡◌, refl, ap}
use mathlib.Core.Bool.{Bool, true, false, not, cond}
use mathlib.Core.List.{List, [], ◌∷◌}
use Prim.Native.Nat.{ℕ, suc, ◌+◌, ◌-◌, ◌^◌, ◌≤◌, ◌<◌}
use native.Mathlib.Omega.{arith}
use mir.Syntax.{w64}
use mir.Val.{Fits}
use lib.Dec.{eqb}
use lib.ListN.{length, take, drop, get_or, drop_of_length-le, length-drop}
use lib.Seq.{drop-drop}
use borrow.Author.Tests.{eq-eqb, ne_eqb}
use Rattle.text.specs.Put.{Put}
use Rattle.text.proofs.Putting.{Left, begin, further, finish}
use Rattle.text.proofs.Written.{from_place}
use Rattle.clausetext.specs.Judging.{start}
use Rattle.clausetext.specs.Stuck.{stuck_in}
use Rattle.clausetext.specs.declared.judge.State.{State}
use Rattle.reports.specs.Clauses.{clause_length, onto, clauses_from, stated_part, all_stated}

-- how far the end of a clause has been sought
pub record Seeking (tail : List ℕ) (i : ℕ) (remark : Bool) : Type 0 where
  pub same : clause_length false tail ≡ i + clause_length remark (drop i tail)

pub seek_begin : (tail : List ℕ) → Seeking tail 0 false
seek_begin tail = record { same = omega arith }

module _ {tail : List ℕ} {i : ℕ} {remark : Bool} (g : Seeking tail i remark) where
  pub seek_over : (text : List ℕ) (from : ℕ) → tail ≡ drop from text → length tail ≤ i → i ≤ length tail → from + length tail ≡ from + clause_length false (drop from text)
  unfolding clause_length
  seek_over text from e h k =
      let z : clause_length remark (drop i tail) ≡ 0 = rw (drop_of_length-le tail h) in
      rw (← e) (omega (arith, g.same, z))

  module _ (h : i < length tail) where
    pub seek_fits : (text : List ℕ) (from : ℕ) → tail ≡ drop from text → length text < 2 ^ 63 → Fits w64 (from + (i + 1))
    seek_fits text from e k = record { fits = omega (arith, ap (λ (l : List ℕ). length l) e, length-drop from text) }

    pub seek_remark : remark ≡ true → Seeking tail (i + 1) (not (eqb (get_or tail i 0) 10))
    unfolding clause_length
    seek_remark r =
        let z : clause_length remark (drop i tail) ≡ suc (clause_length (not (eqb (get_or tail i 0) 10)) (drop (i + 1) tail)) =
        rw (from_place tail i h, r) in
        record { same = omega (arith, g.same, z) }

    module _ (r : remark ≡ false) where
      pub seek_stop : (text : List ℕ) (from : ℕ) → tail ≡ drop from text → get_or tail i 0 ≡ 46 → from + (i + 1) ≡ from + clause_length false (drop from text)
      unfolding clause_length
      seek_stop text from e f =
          let z : clause_length remark (drop i tail) ≡ 1 = rw (from_place tail i h, r, eq-eqb (get_or tail i 0) 46 f) in
          rw (← e) (omega (arith, g.same, z))

      pub seek_more : (get_or tail i 0 ≡ 46 → ⊥) → Seeking tail (i + 1) (eqb (get_or tail i 0) 37)
      unfolding clause_length
      seek_more n =
          let z : clause_length remark (drop i tail) ≡ suc (clause_length (eqb (get_or tail i 0) 37) (drop (i + 1) tail)) =
          rw (from_place tail i h, r, ne_eqb (get_or tail i 0) 46 n) in
          record { same = omega (arith, g.same, z) }

pub tail_fits : (text : List ℕ) (from : ℕ) {tail : List ℕ} → tail ≡ drop from text → from < 2 ^ 64 → length text < 2 ^ 63 → Fits w64 (from + length tail)
tail_fits text from e h k = record { fits = omega (arith, ap (λ (l : List ℕ). length l) e, length-drop from text) }

pub ruleset seek_laws = (seek_begin, seek_over, seek_fits, seek_remark, seek_stop, seek_more, tail_fits)

-- how long a clause is
long_by : (q : Bool) (n m : ℕ) → n ≤ m → cond q 1 (suc n) ≤ suc m
long_by true n m h = omega arith
long_by false n m h = omega (arith, h)

clause_long : (b : Bool) (own : List ℕ) → clause_length b own ≤ length own
unfolding clause_length
clause_long b [] = omega arith
clause_long true (c ∷ own) = let h = clause_long (not (eqb c 10)) own in omega (arith, h)
clause_long false (c ∷ own) = long_by (eqb c 46) (clause_length (eqb c 37) own) (length own) (clause_long (eqb c 37) own)

clause_some : (b : Bool) (c : ℕ) (own : List ℕ) → 1 ≤ clause_length b (c ∷ own)
unfolding clause_length
clause_some true c own = omega arith
clause_some false c own = by-stop (eqb c 46) where
  by-stop : (q : Bool) → 1 ≤ cond q 1 (suc (clause_length (eqb c 37) own))
  by-stop true = omega arith
  by-stop false = omega arith

-- the first clause, and the others
abbrev cut : Bool → List ℕ → List (List ℕ)
cut b own = take (clause_length b own) own ∷ clauses_from false (drop (clause_length b own) own)

cut_by : (d : ℕ) (own : List ℕ) (r q : Bool) → onto d (clauses_from r own) ≡ (d ∷ take (clause_length r own) own) ∷ clauses_from false (drop (clause_length r own) own)
    → cond q ((d ∷ []) ∷ clauses_from false own) (onto d (clauses_from r own))
    ≡ take (cond q 1 (suc (clause_length r own))) (d ∷ own) ∷ clauses_from false (drop (cond q 1 (suc (clause_length r own))) (d ∷ own))
cut_by d own r true e = refl
cut_by d own r false e = e

first_cut : (b : Bool) (d : ℕ) (own : List ℕ)
    → ((r : Bool) → onto d (clauses_from r own) ≡ (d ∷ take (clause_length r own) own) ∷ clauses_from false (drop (clause_length r own) own))
    → clauses_from b (d ∷ own) ≡ cut b (d ∷ own)
unfolding clause_length clauses_from
first_cut true d own f = f (not (eqb d 10))
first_cut false d own f = cut_by d own (eqb d 37) (eqb d 46) (f (eqb d 37))

onto_cut : (own : List ℕ) (c : ℕ) (b : Bool) → onto c (clauses_from b own) ≡ (c ∷ take (clause_length b own) own) ∷ clauses_from false (drop (clause_length b own) own)
unfolding clause_length clauses_from
onto_cut [] c b = refl
onto_cut (d ∷ own) c b = ap (λ (ps : List (List ℕ)). onto c ps) (first_cut b d own (onto_cut own d))

pub cut_first : (d : ℕ) (own : List ℕ) → clauses_from false (d ∷ own) ≡ cut false (d ∷ own)
cut_first d own = first_cut false d own (onto_cut own d)

-- a clause that is put, or not
module _ {out : List ℕ} {at : ℕ} (clause : List ℕ) {s : State} (e : s ≡ stuck_in start clause) where
  pub put_clause : s.questions ≡ 0 → {out' : List ℕ} {at' : ℕ} → Put out at clause out' at' → Put out at (stated_part clause) out' at'
  unfolding stated_part
  put_clause h p = rw (← e, eq-eqb s.questions 0 h) p

  pub put_no_clause : (s.questions ≡ 0 → ⊥) → Put out at (stated_part clause) out at
  unfolding stated_part
  put_no_clause h = rw (← e, ne_eqb s.questions 0 h) (finish (begin out at []))

pub ruleset part_laws = (put_clause, put_no_clause)

-- clause after clause
module _ (text : List ℕ) (at : ℕ) where
  module _ (h : at < length text) {end : ℕ} (e : end ≡ at + clause_length false (drop at text)) where
    pub end_after : at < end
    end_after =
        let z : 1 ≤ clause_length false (drop at text) = rw (from_place text at h) (clause_some false (get_or text at 0) (drop (at + 1) text)) in
        omega (arith, e, z)

    pub clause_falls : length text - end < length text - at
    clause_falls = omega (arith, end_after, h)

    pub end_within : end ≤ length text
    end_within =
        let z = clause_long false (drop at text) in
        omega (arith, e, z, length-drop at text)

  module _ {first : List ℕ} {from : ℕ} {whole out : List ℕ} {used : ℕ}
      (l : Left first from whole out used (all_stated (clauses_from false (drop at text)))) where
    pub stated_over : length text ≤ at → Put first from whole out used
    unfolding all_stated clauses_from
    stated_over h = finish (rw (drop_of_length-le text h) at l)

    pub stated_more : at < length text → {end : ℕ} → end ≡ at + clause_length false (drop at text)
        → {out' : List ℕ} {used' : ℕ} → Put out used (stated_part (take (end - at) (drop at text))) out' used'
        → Left first from whole out' used' (all_stated (clauses_from false (drop end text)))
    unfolding all_stated
    stated_more h {end} e p =
        let z : end - at ≡ clause_length false (drop at text) = omega (arith, e) in
        let cuts : clauses_from false (drop at text) ≡ cut false (drop at text) =
        rw (from_place text at h) (cut_first (get_or text at 0) (drop (at + 1) text)) in
        let later : drop (clause_length false (drop at text)) (drop at text) ≡ drop end text = rw e (drop-drop (clause_length false (drop at text)) at text) in
        further (stated_part (take (clause_length false (drop at text)) (drop at text))) (all_stated (clauses_from false (drop end text)))
        (rw (cuts, later) at l) (rw z at p)

pub ruleset stated_laws = (begin, end_after, clause_falls, end_within, stated_over, stated_more)
