-- Where the literals of a clause stand among its words: they are the clause's literals, as many as its own word says, and each can be read.
use mathlib.Core.Path.{◌≡◌, refl, sym, ap, ap₂, ◌∙◌}
use mathlib.Core.Bool.{Bool, true, false, cond, not, ◌&&◌}
use mathlib.Core.List.{List, [], ◌∷◌, ◌++◌, map, map-append}
use mathlib.Core.Option.{none, some}
use Prim.Native.Nat.{ℕ, zero, suc, ◌+◌, ◌*◌, ◌-◌, ◌/◌, ◌%◌, ◌≤◌, ◌<◌}
use native.Mathlib.Nat.{add-zero}
use native.Mathlib.Omega.{arith}
use borrow.Author.Tests.{eq-eqb, ne_eqb}
use lib.Dec.{eqb}
use lib.ListN.{length, take, drop, get_or, get_elem?, length-drop}
use lib.Seq.{drop-cons, get_or-drop, drop-drop}
use Rattle.words.specs.Fields.{kind_of, arity_of, variables_of, literals_of, following_of, variable_shaped, function_shaped, literal_shaped, clause_shaped}
use Rattle.words.proofs.Packed.{bits_small, plain_kind, function_plain, literal_plain, clause_literals_some}
use Rattle.table.specs.Syntax.{Literal, literal_under}
use Rattle.table.specs.Reading.{variable_fits, term_arity, after_term, after_literal, after, stops_short, onward, fault, clause_fits, clause_fault}
use Rattle.table.specs.Decode.{terms_from, literal_of, before_literals, literals_from, clause_of}
use Rattle.table.proofs.Bools.{and_left}
use Rattle.rules.specs.Substitution.{Variable}
use Rattle.rules.specs.Tableau.{fresh, copy_of, others}
use Rattle.rules.proofs.Lists.{none_some, All, map_take, map_drop, map_some}
use Rattle.unification.specs.State.{start_at, own_words, ClauseAt, words_at, literal_at_reference}
use Rattle.tableaux.specs.Leaves.{literal_offsets, offsets_at, hangs, hanging}
use Rattle.tableaux.proofs.Hanging.{own_small}

-- the literal that stands at an offset of a clause's own words
abbrev literal_in : List ℕ → ℕ → Literal ℕ
literal_in own o = literal_of (get_or own o 0) (terms_from (drop (o + 1) own))

module _ (own : List ℕ) where
  here : (at : ℕ) {w : ℕ} {ws : List ℕ} → drop at own ≡ w ∷ ws → get_or own at 0 ≡ w
  here at e = ap (λ (n : ℕ). get_or own n 0) (sym (add-zero at)) ∙ sym (get_or-drop at own 0 0) ∙ ap (λ (l : List ℕ). get_or l 0 0) e

  further : (at : ℕ) {w : ℕ} {ws : List ℕ} → drop at own ≡ w ∷ ws → drop (at + 1) own ≡ ws
  further at e = sym (drop-drop 1 at own) ∙ ap (drop 1) e

  within : (at : ℕ) {w : ℕ} {ws : List ℕ} → drop at own ≡ w ∷ ws → at < length own
  within at e = omega (arith, simp length-drop at (ap length e))

  -- what the literals are mapped to, given at their offsets
  module _ {B : Type 0} (of : Literal ℕ → B) (at_offset : ℕ → B) (same : (o : ℕ) → o < length own → at_offset o ≡ of (literal_in own o)) where
    pub literals_at : (ws : List ℕ) (at : ℕ) → drop at own ≡ ws → map of (literals_from ws) ≡ map at_offset (literal_offsets at ws)
    unfolding literals_from before_literals literal_offsets
    literals_at [] at e = refl
    literals_at (w ∷ ws) at e = go (eqb (kind_of w) 2) (literals_at ws (at + 1) (further at e))
      where
        first : at_offset at ≡ of (literal_of w (terms_from ws))
        first = same at (within at e) ∙ rw (here at e, further at e)

        go : (b : Bool) → map of (literals_from ws) ≡ map at_offset (literal_offsets (at + 1) ws)
            → map of (cond b (literal_of w (terms_from ws) ∷ literals_from ws) (literals_from ws)) ≡ map at_offset (cond b (at ∷ literal_offsets (at + 1) ws) (literal_offsets (at + 1) ws))
        go true h = rw (first, h)
        go false h = h

-- the literals that hang are all, or all but the one that is entered
hanging_past : (entered at : ℕ) (ws : List ℕ) → entered < at → hanging entered at ws ≡ literal_offsets at ws
unfolding hanging hangs literal_offsets
hanging_past entered at [] h = refl
hanging_past entered at (w ∷ ws) h =
    rw (ne_eqb at entered (λ e. omega arith), hanging_past entered (at + 1) ws (omega arith)) (go (eqb (kind_of w) 2))
  where
    go : (b : Bool) → cond (b && not false) (at ∷ literal_offsets (at + 1) ws) (literal_offsets (at + 1) ws) ≡ cond b (at ∷ literal_offsets (at + 1) ws) (literal_offsets (at + 1) ws)
    go true = refl
    go false = refl

-- an offset of a literal, by its number among the literals
offsets_from : (ws : List ℕ) (at j : ℕ) {o : ℕ} → get_elem? (literal_offsets at ws) j ≡ some o → at ≤ o
unfolding literal_offsets
offsets_from [] at j e = absurd (none_some e)
offsets_from (w ∷ ws) at j {o} e = go (eqb (kind_of w) 2) j e (λ k d. offsets_from ws (at + 1) k d)
  where
    go : (b : Bool) (j : ℕ) → get_elem? (cond b (at ∷ literal_offsets (at + 1) ws) (literal_offsets (at + 1) ws)) j ≡ some o
        → ((k : ℕ) → get_elem? (literal_offsets (at + 1) ws) k ≡ some o → at + 1 ≤ o) → at ≤ o
    go true zero e h = let same : at ≡ o = cc in omega arith
    go true (suc j) e h = omega (arith, h j e)
    go false j e h = omega (arith, h j e)

pub hanging_others : (ws : List ℕ) (at j : ℕ) {o : ℕ} → get_elem? (literal_offsets at ws) j ≡ some o
    → hanging o at ws ≡ take j (literal_offsets at ws) ++ drop (suc j) (literal_offsets at ws)
unfolding hanging hangs literal_offsets
hanging_others [] at j e = absurd (none_some e)
hanging_others (w ∷ ws) at j {o} e =
    go (eqb (kind_of w) 2) j e (λ k d. offsets_from ws (at + 1) k d) (λ k d. hanging_others ws (at + 1) k d)
  where
    go : (b : Bool) (j : ℕ) → get_elem? (cond b (at ∷ literal_offsets (at + 1) ws) (literal_offsets (at + 1) ws)) j ≡ some o
        → ((k : ℕ) → get_elem? (literal_offsets (at + 1) ws) k ≡ some o → at + 1 ≤ o)
        → ((k : ℕ) → get_elem? (literal_offsets (at + 1) ws) k ≡ some o
        → hanging o (at + 1) ws ≡ take k (literal_offsets (at + 1) ws) ++ drop (suc k) (literal_offsets (at + 1) ws))
        → cond (b && not (eqb at o)) (at ∷ hanging o (at + 1) ws) (hanging o (at + 1) ws)
        ≡ take j (cond b (at ∷ literal_offsets (at + 1) ws) (literal_offsets (at + 1) ws)) ++ drop (suc j) (cond b (at ∷ literal_offsets (at + 1) ws) (literal_offsets (at + 1) ws))
    go true zero e low h =
        let same : at ≡ o = cc in rw (eq-eqb at o same) (hanging_past o (at + 1) ws (omega arith))
    go true (suc j) e low h = rw (ne_eqb at o (λ d. omega (arith, low j e))) (ap (at ∷◌) (h j e))
    go false j e low h = h j e

length_others : (xs : List ℕ) (j : ℕ) {x : ℕ} → get_elem? xs j ≡ some x → suc (length (take j xs ++ drop (suc j) xs)) ≡ length xs
length_others [] j e = absurd (none_some e)
length_others (y ∷ xs) zero e = refl
length_others (y ∷ xs) (suc j) e = ap suc (length_others xs j e)

-- a literal's word is the literal of the number that counts the literals before it
pub literal_numbered : (ws : List ℕ) (at k : ℕ) → k < length ws → kind_of (get_or ws k 0) ≡ 2
    → get_elem? (literal_offsets at ws) (length (literal_offsets at (take k ws))) ≡ some (at + k)
unfolding literal_offsets
literal_numbered [] at k h e = absurd (omega arith)
literal_numbered (w ∷ ws) at zero h e = rw (eq-eqb (kind_of w) 2 e, add-zero)
literal_numbered (w ∷ ws) at (suc k) h e = go (eqb (kind_of w) 2) (literal_numbered ws (at + 1) k (omega arith) e)
  where
    there : at + suc k ≡ at + 1 + k
    there = omega arith

    go : (b : Bool) → get_elem? (literal_offsets (at + 1) ws) (length (literal_offsets (at + 1) (take k ws))) ≡ some (at + 1 + k)
        → get_elem? (cond b (at ∷ literal_offsets (at + 1) ws) (literal_offsets (at + 1) ws)) (length (cond b (at ∷ literal_offsets (at + 1) (take k ws)) (literal_offsets (at + 1) (take k ws)))) ≡ some (at + suc k)
    go true h = rw there h
    go false h = rw there h

-- a word where nothing is wrong: a term's or a literal's
data Goes (v : ℕ) (w : ℕ) (ws : List ℕ) : ℕ → ℕ → Type 0 where
  a_term : {l t : ℕ} (k p : ℕ) → (kind_of w ≡ 2 → ⊥) → fault v l k p ws ≡ none → Goes v w ws l t
  a_literal : {l : ℕ} (k p : ℕ) → kind_of w ≡ 2 → fault v l k p ws ≡ none → Goes v w ws (suc l) zero

goes : {v w : ℕ} {ws : List ℕ} (l t p : ℕ) → fault v l t p (w ∷ ws) ≡ none → Goes v w ws l t
unfolding fault onward after after_term term_arity after_literal
goes {v} {w} {ws} l (suc t) p s = go (variable_fits v w) (function_shaped w) refl refl s
  where
    go : (b c : Bool) → variable_fits v w ≡ b → function_shaped w ≡ c
        → onward (after_term l t (cond b (some 0) (cond c (some (arity_of w)) none))) p (λ l t. fault v l t (p + 1) ws) ≡ none → Goes v w ws l (suc t)
    go true c eb ec s =
        let k : kind_of w ≡ 0 = plain_kind 0 10 w (and_left (variable_shaped w) _ eb) in a_term _ (p + 1) (λ e. omega (arith, e, k)) s
    go false true eb ec s =
        let k : kind_of w ≡ 1 = plain_kind 1 15 w (function_plain w ec) in a_term _ (p + 1) (λ e. omega (arith, e, k)) s
    go false false eb ec s = absurd (let z : ◌≡◌ {A = ℕ} 0 1 = cc in omega arith)
goes {v} {w} {ws} (suc l) zero p s = go (literal_shaped w) refl s
  where
    go : (b : Bool) → literal_shaped w ≡ b
        → onward (cond b (some (record { literals = l; terms = arity_of w })) none) p (λ l t. fault v l t (p + 1) ws) ≡ none → Goes v w ws (suc l) zero
    go true e s = a_literal _ (p + 1) (plain_kind 2 16 w (literal_plain w e)) s
    go false e s = absurd (let z : ◌≡◌ {A = ℕ} 0 1 = cc in omega arith)
goes zero zero p s = absurd (let z : ◌≡◌ {A = ℕ} 0 1 = cc in omega arith)

no_more : (v l t p : ℕ) → fault v l t p [] ≡ none → l ≡ 0
unfolding fault stops_short
no_more v zero t p s = refl
no_more v (suc l) zero p s = absurd (let z : ◌≡◌ {A = ℕ} 0 1 = cc in omega arith)
no_more v (suc l) (suc t) p s = absurd (let z : ◌≡◌ {A = ℕ} 0 1 = cc in omega arith)

-- as many literals stand in the words as are owed
literals_counted : (v : ℕ) (ws : List ℕ) (at l t p : ℕ) → fault v l t p ws ≡ none → length (literal_offsets at ws) ≡ l
unfolding literal_offsets
literals_counted v [] at l t p s = sym (no_more v l t p s)
literals_counted v (w ∷ ws) at l t p s = go (goes l t p s) (λ l k p. literals_counted v ws (at + 1) l k p)
  where
    go : {l t : ℕ} → Goes v w ws l t → ((l k p : ℕ) → fault v l k p ws ≡ none → length (literal_offsets (at + 1) ws) ≡ l)
        → length (cond (eqb (kind_of w) 2) (at ∷ literal_offsets (at + 1) ws) (literal_offsets (at + 1) ws)) ≡ l
    go (a_term k p n s) h = rw (ne_eqb (kind_of w) 2 n) (h _ k p s)
    go (a_literal k p e s) h = rw (eq-eqb (kind_of w) 2 e) (ap suc (h _ k p s))

-- from a literal's word on, a literal and more can be read
pub record ReadsOn (v : ℕ) (own : List ℕ) (o : ℕ) : Type 0 where
  pub within : o < length own
  pub kind : kind_of (get_or own o 0) ≡ 2
  pub literals : ℕ
  pub place : ℕ
  pub sound : fault v (suc literals) 0 place (drop o own) ≡ none

literals_read : (v : ℕ) (own ws : List ℕ) (at l t p j : ℕ) {o : ℕ} → drop at own ≡ ws → fault v l t p ws ≡ none
    → get_elem? (literal_offsets at ws) j ≡ some o → ReadsOn v own o
unfolding literal_offsets
literals_read v own [] at l t p j d s e = absurd (none_some e)
literals_read v own (w ∷ ws) at l t p j {o} d s e =
    go (goes l t p s) j s e (λ l k p j s e. literals_read v own ws (at + 1) l k p j (further own at d) s e)
  where
    go : {l t : ℕ} → Goes v w ws l t → (j : ℕ) → fault v l t p (w ∷ ws) ≡ none
        → get_elem? (cond (eqb (kind_of w) 2) (at ∷ literal_offsets (at + 1) ws) (literal_offsets (at + 1) ws)) j ≡ some o
        → ((l k p j : ℕ) → fault v l k p ws ≡ none → get_elem? (literal_offsets (at + 1) ws) j ≡ some o → ReadsOn v own o) → ReadsOn v own o
    go (a_term k q n s) j whole e h = h _ k q j s (rw (ne_eqb (kind_of w) 2 n) at e)
    go {l = suc l} (a_literal k q y s) zero whole e h =
        let same : at ≡ o = cc (rw (eq-eqb (kind_of w) 2 y) at e) in
        rw (← same) (record { within = within own at d; kind = rw (here own at d) y; literals = l; place = p; sound = rw d whole })
    go (a_literal k q y s) (suc j) whole e h = h _ k q j s (rw (eq-eqb (kind_of w) 2 y) at e)

-- each literal that hangs can be read
hanging_read : (v : ℕ) (own ws : List ℕ) (at l t p entered : ℕ) → drop at own ≡ ws → fault v l t p ws ≡ none → All (ReadsOn v own) (hanging entered at ws)
unfolding hanging hangs All
hanging_read v own [] at l t p entered d s = tt
hanging_read v own (w ∷ ws) at l t p entered d s =
    go (goes l t p s) s (λ l k p s. hanging_read v own ws (at + 1) l k p entered (further own at d) s)
  where
    last : (b : Bool) → ReadsOn v own at → All (ReadsOn v own) (hanging entered (at + 1) ws)
        → All (ReadsOn v own) (cond b (at ∷ hanging entered (at + 1) ws) (hanging entered (at + 1) ws))
    last true r a = (r, a)
    last false r a = a

    go : {l t : ℕ} → Goes v w ws l t → fault v l t p (w ∷ ws) ≡ none
        → ((l k p : ℕ) → fault v l k p ws ≡ none → All (ReadsOn v own) (hanging entered (at + 1) ws))
        → All (ReadsOn v own) (cond (eqb (kind_of w) 2 && not (eqb at entered)) (at ∷ hanging entered (at + 1) ws) (hanging entered (at + 1) ws))
    go (a_term k q n s) whole h = rw (ne_eqb (kind_of w) 2 n) (h _ k q s)
    go {l = suc l} (a_literal k q y s) whole h =
        rw (eq-eqb (kind_of w) 2 y)
        (last (not (eqb at entered)) (record { within = within own at d; kind = rw (here own at d) y; literals = l; place = p; sound = rw d whole }) (h _ k q s))

-- the literal at a reference into a copy
pub at_reference : (f m : List ℕ) (copy o : ℕ) → o < 256
    → literal_at_reference f m (copy * 256 + o) ≡ literal_under (fresh copy) (literal_in (own_words f (start_at m copy)) o)
unfolding literal_at_reference words_at
at_reference f m copy o h =
    let c : (copy * 256 + o) / 256 ≡ copy = omega arith in
    let n : (copy * 256 + o) % 256 ≡ o = omega arith in
    rw (c, n, get_or-drop, drop-drop, add-zero)

module _ {f : List ℕ} {p : ℕ} (c : ClauseAt f p) where
  own_begins : own_words f p ≡ get_or f p 0 ∷ take (following_of (get_or f p 0)) (drop (suc p) f)
  unfolding own_words
  own_begins = let i : p < length f = c.inside in rw (drop-cons f p 0 i)

  fits : clause_fits (get_or f p 0) (drop (suc p) f) ≡ true
  unfolding clause_fault
  fits = go (clause_fits (get_or f p 0) (drop (suc p) f)) refl c.sound
    where
      go : (b : Bool) → clause_fits (get_or f p 0) (drop (suc p) f) ≡ b
          → cond b (fault (variables_of (get_or f p 0)) (literals_of (get_or f p 0)) 0 1 (take (following_of (get_or f p 0)) (drop (suc p) f))) (some 0) ≡ none
          → clause_fits (get_or f p 0) (drop (suc p) f) ≡ true
      go true e s = e
      go false e s = cc

  reads : fault (variables_of (get_or f p 0)) (literals_of (get_or f p 0)) 0 1 (drop 1 (own_words f p)) ≡ none
  unfolding clause_fault
  reads = rw own_begins (rw fits at c.sound)

  pub clause_counted : length (offsets_at f p) ≡ literals_of (get_or f p 0)
  clause_counted = literals_counted (variables_of (get_or f p 0)) (drop 1 (own_words f p)) 1 (literals_of (get_or f p 0)) 0 1 reads

  pub clause_some : 1 ≤ literals_of (get_or f p 0)
  clause_some = clause_literals_some (get_or f p 0) (and_left (clause_shaped (get_or f p 0)) _ fits)

  pub clause_few : literals_of (get_or f p 0) ≤ 7
  clause_few = omega (arith, bits_small 0 3 (get_or f p 0))

  pub clause_read : (j : ℕ) {o : ℕ} → get_elem? (offsets_at f p) j ≡ some o → ReadsOn (variables_of (get_or f p 0)) (own_words f p) o
  clause_read j e = literals_read (variables_of (get_or f p 0)) (own_words f p) (drop 1 (own_words f p)) 1 (literals_of (get_or f p 0)) 0 1 j refl reads e

  pub clause_hanging : (entered : ℕ) → All (ReadsOn (variables_of (get_or f p 0)) (own_words f p)) (hanging entered 1 (drop 1 (own_words f p)))
  clause_hanging entered =
      hanging_read (variables_of (get_or f p 0)) (own_words f p) (drop 1 (own_words f p)) 1 (literals_of (get_or f p 0)) 0 1 entered refl reads

  module _ (m : List ℕ) (copy : ℕ) (starts : start_at m copy ≡ p) where
    pub copy_literals : copy_of copy (clause_of (own_words f p)) ≡ map (λ (o : ℕ). literal_at_reference f m (copy * 256 + o)) (offsets_at f p)
    unfolding copy_of clause_of
    copy_literals =
        ap (λ (own : List ℕ). map (literal_under (fresh copy)) (clause_of own).literals) own_begins
        ∙ literals_at (own_words f p) (literal_under (fresh copy)) (λ (o : ℕ). literal_at_reference f m (copy * 256 + o))
        (λ o h. at_reference f m copy o (omega (arith, own_small f p)) ∙ ap (λ (q : ℕ). literal_under (fresh copy) (literal_in (own_words f q) o)) starts)
        (take (following_of (get_or f p 0)) (drop (suc p) f))
        1
        (ap (drop 1) own_begins)
        ∙ ap (λ (ws : List ℕ). map (λ (o : ℕ). literal_at_reference f m (copy * 256 + o)) (literal_offsets 1 ws)) (sym (ap (drop 1) own_begins))

    pub copy_all : map (λ (o : ℕ). literal_at_reference f m (copy * 256 + o)) (hanging 0 1 (drop 1 (own_words f p))) ≡ copy_of copy (clause_of (own_words f p))
    copy_all = rw (hanging_past 0 1 (drop 1 (own_words f p)) (omega arith)) (sym copy_literals)

    module _ (j : ℕ) {o : ℕ} (e : get_elem? (offsets_at f p) j ≡ some o) where
      pub copy_entered : get_elem? (copy_of copy (clause_of (own_words f p))) j ≡ some (literal_at_reference f m (copy * 256 + o))
      copy_entered = rw copy_literals (map_some (λ (o : ℕ). literal_at_reference f m (copy * 256 + o)) (offsets_at f p) j e)

      pub copy_others : map (λ (o : ℕ). literal_at_reference f m (copy * 256 + o)) (hanging o 1 (drop 1 (own_words f p))) ≡ others j (copy_of copy (clause_of (own_words f p)))
      unfolding others
      copy_others =
          let at : ℕ → Literal Variable = λ (o : ℕ). literal_at_reference f m (copy * 256 + o) in
          ap (map at) (hanging_others (drop 1 (own_words f p)) 1 j e)
          ∙ map-append at (take j (offsets_at f p)) (drop (suc j) (offsets_at f p))
          ∙ ap₂ ◌++◌ (map_take at j (offsets_at f p) ∙ ap (take j) (sym copy_literals)) (map_drop at (suc j) (offsets_at f p) ∙ ap (drop (suc j)) (sym copy_literals))

  pub hanging_all : length (hanging 0 1 (drop 1 (own_words f p))) ≡ literals_of (get_or f p 0)
  hanging_all = rw (hanging_past 0 1 (drop 1 (own_words f p)) (omega arith)) clause_counted

  pub hanging_fewer : (j : ℕ) {o : ℕ} → get_elem? (offsets_at f p) j ≡ some o → length (hanging o 1 (drop 1 (own_words f p))) ≡ literals_of (get_or f p 0) - 1
  hanging_fewer j e =
      rw (hanging_others (drop 1 (own_words f p)) 1 j e) (omega (arith, length_others (offsets_at f p) j e, clause_counted))
