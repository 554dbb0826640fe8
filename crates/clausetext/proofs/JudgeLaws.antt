-- The bytes owed of a word; where a name in capitals, and the end of the text, may not stand.
use Rattle.std.proofs.Common.{◌≡◌, ℕ, zero, suc, ◌+◌, ◌≤◌, ◌<◌, Bool, true, false, List, [], ◌∷◌, length, get_or, refl, sym, ap, ◌∙◌, arith, Fits, w64}
use native.Mathlib.Nat.{not-suc-le-zero, le_of_suc-le-suc}
use lib.Dec.{eqb, ltb}
use borrow.Author.Tests.{eqb-false, ltb-true, ltb-false}
use lib.ListN.{get_or-eq_default}
use Rattle.clausetext.specs.declared.kind.Kind.{Kind}
use Rattle.clausetext.specs.Kinds.{kind_of, goes_on}
use Rattle.std.proofs.Common.{None}
use Rattle.clausetext.specs.declared.judge.Want.{Want}
use Rattle.clausetext.specs.declared.judge.Want.TheVariants.{Clause, Opening, Name, AfterName, Role, AfterRole, Formula, Literal, Atom, Symbol, Term, Ended, Closing, Stop}
use Rattle.clausetext.specs.declared.judge.Mode.{Mode}
use Rattle.clausetext.specs.declared.judge.State.{State}
use Rattle.clausetext.specs.Judging.{words, owed_at, on_upper, may_end}
use Rattle.clausetext.proofs.Steps.{no_dot}

get_d_any : (l : List ℕ) (i a b : ℕ) → i < length l → get_or l i a ≡ get_or l i b
get_d_any [] i a b h = absurd (not-suc-le-zero h)
get_d_any (x ∷ l) zero a b h = refl
get_d_any (x ∷ l) (suc i) a b h = get_d_any l i a b (le_of_suc-le-suc h)

pub owed_within : (place : ℕ) → place < 40 → get_or words place 0 ≡ owed_at place
unfolding owed_at
owed_within place h = get_d_any words place 0 46 h

pub owed_past : (place : ℕ) → 40 ≤ place → 46 ≡ owed_at place
unfolding owed_at
owed_past place h = sym (get_or-eq_default words 46 h)

-- past the words no byte is owed but `.`, so a byte that goes on in a name stands among them
still_owed : (i : ℕ) (x : Bool) → ltb i 40 ≡ x → eqb (owed_at i) 46 ≡ false → i < 40
still_owed i true g n = ltb-true i 40 g
still_owed i false g n = absurd (eqb-false (owed_at i) 46 n (sym (owed_past i (ltb-false i 40 g))))

pub owed_fits : (i c : ℕ) {k : Kind} {b : ℕ} → k ≡ kind_of c → true ≡ goes_on k → b ≡ owed_at i → c ≡ b → Fits w64 (i + 1)
owed_fits i c ek q eb e =
    let h = still_owed i (ltb i 40) refl (no_dot (ap goes_on (sym ek) ∙ sym q) (e ∙ eb)) in record { fits = omega arith }

-- a name in capitals stands where a term is wanted, and nowhere else
pub upper_none : (s : State) (v : Want) → ((d : ℕ) (p : Bool) → v ≡ Term d p → ⊥) → None ≡ on_upper s v
unfolding on_upper
upper_none s Clause h = refl
upper_none s Opening h = refl
upper_none s Name h = refl
upper_none s AfterName h = refl
upper_none s Role h = refl
upper_none s AfterRole h = refl
upper_none s Formula h = refl
upper_none s (Literal p) h = refl
upper_none s (Atom p) h = refl
upper_none s (Symbol d p) h = refl
upper_none s (Term d p) h = absurd (h d p refl)
upper_none s (Ended d p) h = refl
upper_none s Closing h = refl
upper_none s Stop h = refl

-- a text ends where a clause might begin, and nowhere else
pub end_none : (v : Want) (m : Mode) → (v ≡ Clause → ⊥) → false ≡ may_end v m
unfolding may_end
end_none Clause m h = absurd (h refl)
end_none Opening m h = refl
end_none Name m h = refl
end_none AfterName m h = refl
end_none Role m h = refl
end_none AfterRole m h = refl
end_none Formula m h = refl
end_none (Literal p) m h = refl
end_none (Atom p) m h = refl
end_none (Symbol d p) m h = refl
end_none (Term d p) m h = refl
end_none (Ended d p) m h = refl
end_none Closing m h = refl
end_none Stop m h = refl
