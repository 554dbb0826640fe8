-- The scans that stand at the leaf's word with the other sign are the leaf's extensions, in the stated order.
use mathlib.Core.Path.{◌≡◌, refl, ap, ◌∙◌}
use mathlib.Core.Bool.{Bool, true, false, cond}
use mathlib.Core.List.{List, [], ◌∷◌, ◌++◌, map}
use mathlib.Core.Option.{none}
use Prim.Native.Nat.{ℕ, zero, suc, ◌+◌, ◌-◌, ◌^◌, ◌<◌}
use native.Mathlib.Numerals.{add-one}
use native.Mathlib.Omega.{arith}
use lib.Dec.{eqb}
use lib.ListN.{take}
use lib.Seq.{take-nil}
use borrow.Author.Tests.{ne_eqb}
use Rattle.words.specs.Fields.{kind_of, arity_of, following_of, literal_shaped}
use Rattle.words.proofs.Packed.{plain_kind, literal_plain, clause_plain}
use Rattle.table.specs.Syntax.{Term, Terms, arity, Literal, literal_under, all_clauses}
use Rattle.table.specs.Reading.{fault, stops_short}
use Rattle.table.specs.Body.{body_fault}
use Rattle.table.specs.Decode.{terms_from, literal_of, literals_from, clause_of, parts_from, clauses_of, table_of}
use Rattle.table.specs.Limits.{Each, Words, Readable}
use Rattle.table.proofs.Decoding.{literals_literal, literals_other}
use Rattle.rules.specs.Substitution.{Variable}
use Rattle.rules.specs.Tableau.{fresh, copy_of}
use Rattle.rules.specs.Order.{entries, extensions}
use Rattle.index.specs.declared.entries.Scan.{Scan}
use Rattle.index.specs.Scanning.{begun, past_word, entries_from, other_sign}
use Rattle.tableaux.specs.Entering.{extension_at}
use Rattle.index.proofs.Scans.{past_clause, past_literal, past_other}
use Rattle.engine.proofs.Literals.Sound.{Sound, variable, function, literal, sound_word, terms_owed, sound_clause, first_clause}
use Rattle.engine.proofs.Literals.Places.{table_clauses}
use Rattle.engine.proofs.Literals.Fitting.{other_kind, fits_by_word}

chosen : {A B : Type 0} (f : A → B) (a : A) (b : Bool) (xs : List A) (ys zs : List B) → map f xs ≡ ys ++ zs → map f (cond b (a ∷ xs) xs) ≡ cond b (f a ∷ ys) ys ++ zs
chosen {B = B} f a true xs ys zs e = ap (λ (l : List B). f a ∷ l) e
chosen f a false xs ys zs e = e

module _ (u : ℕ) (shaped : literal_shaped u ≡ true) (small : u < 2 ^ 32) (σ : ℕ → Term Variable) (ts : Terms ℕ) (et : arity ts ≡ arity_of u) (copy : ℕ) where
  leaf : Literal Variable
  leaf = literal_under σ (literal_of u ts)

  abbrev Listed : Scan → ℕ → List ℕ → Type 0
  Listed s n ws =
      map extension_at (entries_from (other_sign u) s ws)
      ≡ entries leaf (s.clauses - 1) s.literals (map (literal_under (fresh copy)) (literals_from (take n ws)))
      ++ extensions leaf copy s.clauses (map clause_of (parts_from n ws))

  abbrev Lists : List ℕ → Type 0
  Lists ws = (n v l t place at : ℕ) (s : Scan) → Words ws → fault v l t place (take n ws) ≡ none → body_fault at n ws ≡ none → Listed s n ws

  not-wanted : (w : ℕ) → (kind_of w ≡ 2 → ⊥) → eqb w (other_sign u) ≡ false
  not-wanted w n = ne_eqb w (other_sign u) (λ e. n (ap kind_of e ∙ other_kind u shaped small))

  term-listed : (w : ℕ) (ws : List ℕ) (s : Scan) (n : ℕ) → (kind_of w ≡ 3 → ⊥) → (kind_of w ≡ 2 → ⊥) → Listed (past_word s w) n ws → Listed s (suc n) (w ∷ ws)
  unfolding entries_from parts_from
  term-listed w ws s n three two e =
      let past = past_other s w refl three two in
      rw (not-wanted w two, literals_other w (take n ws) two, ← past) (rw (← past) at e)

  literal-listed : (w : ℕ) (ws : List ℕ) (s : Scan) (n : ℕ) → literal_shaped w ≡ true → w < 2 ^ 32 → arity (terms_from (take n ws)) ≡ arity_of w
      → Listed (past_word s w) n ws → Listed s (suc n) (w ∷ ws)
  unfolding entries_from parts_from entries leaf
  literal-listed w ws s n fine low ea e =
      let kind : kind_of w ≡ 2 = plain_kind 2 16 w (literal_plain w fine) in
      let past = past_literal s w refl (λ p. omega arith) kind in
      let fitting = fits_by_word u shaped small w fine low σ (fresh copy) ts (terms_from (take n ws)) et ea in
      rw (literals_literal w (take n ws) kind, fitting, ← past, add-one s.literals)
      (chosen extension_at s (eqb w (other_sign u)) _ _ _ (rw (← past, add-one s.literals) at e))

  sound-listed : (v place w : ℕ) (ws : List ℕ) (n : ℕ) {l t : ℕ} → Lists ws → Sound v place w (take n ws) l t → (at : ℕ) (s : Scan) → Words (w ∷ ws) → body_fault at n ws ≡ none → Listed s (suc n) (w ∷ ws)
  unfolding Each
  sound-listed v place w ws n more (variable {l} {t} k e) at s words b =
      term-listed w ws s n (λ p. omega arith) (λ p. omega arith) (more n v l t (place + 1) at (past_word s w) words.1 e b)
  sound-listed v place w ws n more (function {l} {t} k e) at s words b =
      term-listed w ws s n (λ p. omega arith) (λ p. omega arith) (more n v l (arity_of w + t) (place + 1) at (past_word s w) words.1 e b)
  sound-listed v place w ws n more (literal {l} fine e) at s words b =
      literal-listed w ws s n fine words.0 (terms_owed v (take n ws) l (arity_of w) (place + 1) e)
      (more n v l (arity_of w) (place + 1) at (past_word s w) words.1 e b)

  clause-listed : (w : ℕ) (ws : List ℕ) (s : Scan) → kind_of w ≡ 3 → Listed (past_word s w) (following_of w) ws → Listed s 0 (w ∷ ws)
  unfolding entries_from parts_from entries extensions literals_from clause_of copy_of
  clause-listed w ws s kind e =
      let past = past_clause s w refl kind in
      let same : s.clauses + 1 - 1 ≡ s.clauses = omega arith in
      rw (not-wanted w (λ p. omega arith), ← past, add-one s.clauses) (rw (← past, same, add-one s.clauses) at e)

  lists : (ws : List ℕ) → Lists ws
  unfolding entries_from parts_from literals_from entries extensions body_fault Each
  lists [] n v l t place at s words e b = rw (take-nil n)
  lists (w ∷ ws) (suc n) v l t place at s words e b =
      sound-listed v place w ws n (lists ws) (sound_word v place w (take n ws) l t e) (at + 1) s words b
  lists (w ∷ ws) zero v l t place at s words e b =
      let first = first_clause w ws at b in
      let sound = sound_clause w ws first.0 in
      clause-listed w ws s (plain_kind 3 17 w (clause_plain w sound.shaped))
      (lists ws (following_of w) _ _ 0 1 (at + 1) (past_word s w) words.1 sound.sound first.1)

  pub extensions_listed : (body : List ℕ) → Words body → Readable body
      → map extension_at (entries_from (other_sign u) begun body) ≡ extensions (literal_under σ (literal_of u ts)) copy 0 (all_clauses (table_of body))
  unfolding leaf literals_from entries clauses_of fault stops_short
  extensions_listed body words r =
      rw (table_clauses body r) (lists body 0 0 0 0 0 0 begun words refl r.sound)
