-- Well-formed words: what stands at each of them, and that a literal has as many arguments as its word says.
use mathlib.Core.Path.{◌≡◌, refl, sym, ap, ◌∙◌}
use mathlib.Core.Bool.{Bool, true, false, cond, and-eq-true_iff}
use mathlib.Core.List.{List, [], ◌∷◌}
use mathlib.Core.Option.{Option, none, some}
use Prim.Native.Nat.{ℕ, zero, suc, ◌+◌, ◌≤◌}
use native.Mathlib.Nat.{zero-add}
use native.Mathlib.Omega.{arith}
use lib.Dec.{ltb}
use lib.ListN.{length, take}
use Rattle.words.specs.Fields.{kind_of, number_of, arity_of, variables_of, literals_of, following_of, variable_shaped, function_shaped, literal_shaped, clause_shaped}
use Rattle.words.proofs.Packed.{plain_kind, function_plain, literal_plain}
use Rattle.table.specs.Syntax.{Terms, nil, ◌then◌, arity}
use Rattle.table.specs.Reading.{Owed, variable_fits, term_arity, after_term, after_literal, after, stops_short, onward, fault, clause_fits, clause_fault}
use Rattle.table.specs.Body.{reading, body_fault}
use Rattle.table.specs.Decode.{rest, before, terms_from}
use Rattle.table.proofs.Bools.{and_left, cond_none}
use Rattle.table.proofs.Bodies.{sound_fits}
use Rattle.tableaux.specs.Entering.{Owes}

-- a word of a clause that is well formed from this word on, where so many literals and terms are owed
pub data Sound (v place w : ℕ) (ws : List ℕ) : ℕ → ℕ → Type 0 where
  variable : {l t : ℕ} → kind_of w ≡ 0 → fault v l t (place + 1) ws ≡ none → Sound v place w ws l (suc t)
  function : {l t : ℕ} → kind_of w ≡ 1 → fault v l (arity_of w + t) (place + 1) ws ≡ none → Sound v place w ws l (suc t)
  literal : {l : ℕ} → literal_shaped w ≡ true → fault v l (arity_of w) (place + 1) ws ≡ none → Sound v place w ws (suc l) 0

module _ (v place w : ℕ) (ws : List ℕ) where
  abbrev Onward : Option Owed → Type 0
  Onward o = onward o place (λ l t. fault v l t (place + 1) ws) ≡ none

  a_function : (l t : ℕ) (b : Bool) → function_shaped w ≡ b → Onward (after_term l t (cond b (some (arity_of w)) none)) → Sound v place w ws l (suc t)
  unfolding onward after_term
  a_function l t true s e = function (plain_kind 1 15 w (function_plain w s)) e
  a_function l t false s e = let z : ◌≡◌ {A = ℕ} 0 1 = cc in absurd (omega arith)

  a_term : (l t : ℕ) (b : Bool) → variable_fits v w ≡ b → Onward (after_term l t (cond b (some 0) (cond (function_shaped w) (some (arity_of w)) none)))
      → Sound v place w ws l (suc t)
  unfolding onward after_term
  a_term l t true s e =
      variable (plain_kind 0 10 w ((and-eq-true_iff (variable_shaped w) (ltb (number_of w) v)).0 s).0) (rw zero-add at e)
  a_term l t false s e = a_function l t (function_shaped w) refl e

  a_literal : (l : ℕ) (b : Bool) → literal_shaped w ≡ b → Onward (cond b (some (record { literals = l; terms = arity_of w })) none) → Sound v place w ws (suc l) 0
  unfolding onward
  a_literal l true s e = literal s e
  a_literal l false s e = let z : ◌≡◌ {A = ℕ} 0 1 = cc in absurd (omega arith)

  pub sound_word : (l t : ℕ) → fault v l t place (w ∷ ws) ≡ none → Sound v place w ws l t
  unfolding fault onward after term_arity after_literal
  sound_word l (suc t) e = a_term l t (variable_fits v w) refl e
  sound_word (suc l) zero e = a_literal l (literal_shaped w) refl e
  sound_word zero zero e = let z : ◌≡◌ {A = ℕ} 0 1 = cc in absurd (omega arith)

-- nothing is owed at the end
pub nothing_owed : (v l t place : ℕ) → fault v l t place [] ≡ none → (l ≡ 0) × (t ≡ 0)
unfolding fault stops_short
nothing_owed v l (suc t) place e = let z : ◌≡◌ {A = ℕ} 0 1 = cc in absurd (omega arith)
nothing_owed v (suc l) zero place e = let z : ◌≡◌ {A = ℕ} 0 1 = cc in absurd (omega arith)
nothing_owed v zero zero place e = (refl, refl)

-- as many terms stand before the next literal as are owed
rest_arity : (n m : ℕ) (ts : Terms ℕ) → arity ts ≡ n + m → arity (rest n ts) ≡ m
unfolding rest arity
rest_arity zero m ts e = e ∙ zero-add m
rest_arity (suc n) m nil e = absurd (omega arith)
rest_arity (suc n) m (t then ts) e = rest_arity n m ts (omega arith)

abbrev Counts : ℕ → List ℕ → Type 0
Counts v ws = (l t place : ℕ) → fault v l t place ws ≡ none → arity (terms_from ws) ≡ t

terms_at : (v place w : ℕ) (ws : List ℕ) → Counts v ws → {l t : ℕ} → Sound v place w ws l t → arity (terms_from (w ∷ ws)) ≡ t
unfolding terms_from before arity
terms_at v place w ws counts (variable {l} {t} k e) = rw k (ap suc (counts l t (place + 1) e))
terms_at v place w ws counts (function {l} {t} k e) =
    rw k (ap suc (rest_arity (arity_of w) t (terms_from ws) (counts l (arity_of w + t) (place + 1) e)))
terms_at v place w ws counts (literal s e) = rw (plain_kind 2 16 w (literal_plain w s))

pub terms_owed : (v : ℕ) (ws : List ℕ) → Counts v ws
unfolding terms_from arity
terms_owed v [] l t place e = sym (nothing_owed v l t place e).1
terms_owed v (w ∷ ws) l t place e = terms_at v place w ws (terms_owed v ws) (sound_word v place w ws l t e)

pub owing_arity : {v t : ℕ} {ws : List ℕ} → Owes v t ws → arity (terms_from ws) ≡ t
owing_arity {v} {t} {ws} h = terms_owed v ws h.literals t h.place h.sound

-- a well-formed clause: its own word, and the words that follow
module _ (w : ℕ) (ws : List ℕ) where
  pub record SoundClause : Type 0 where
    pub shaped : clause_shaped w ≡ true
    pub fits : following_of w ≤ length ws
    pub sound : fault (variables_of w) (literals_of w) 0 1 (take (following_of w) ws) ≡ none

  pub sound_clause : clause_fault w ws ≡ none → SoundClause
  unfolding clause_fault
  sound_clause e =
      let both = cond_none (clause_fits w ws) _ 0 e in
      record { shaped = and_left (clause_shaped w) _ both.0; fits = sound_fits w ws e; sound = both.1 }

  -- a body that begins with a clause
  clause_read : (at : ℕ) (o : Option ℕ) → reading o at (λ _. body_fault (at + 1) (following_of w) ws) ≡ none → (o ≡ none) × (body_fault (at + 1) (following_of w) ws ≡ none)
  unfolding reading
  clause_read at (some q) e = let z : ◌≡◌ {A = ℕ} 0 1 = cc in absurd (omega arith)
  clause_read at none e = (refl, e)

  pub first_clause : (at : ℕ) → body_fault at 0 (w ∷ ws) ≡ none → (clause_fault w ws ≡ none) × (body_fault (at + 1) (following_of w) ws ≡ none)
  unfolding body_fault
  first_clause at e = clause_read at (clause_fault w ws) e
