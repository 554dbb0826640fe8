-- Pieces and what they do: one law for each outcome of the code, with premises as the code has them.
use mathlib.Core.Bool.{Bool, true, false, cond}
use mathlib.Core.List.{List, [], ◌∷◌}
use mathlib.Core.Path.{◌≡◌, refl, sym, ap, ◌∙◌}
use Prim.Native.Nat.{ℕ, zero, suc, ◌+◌, ◌-◌, ◌≤◌, ◌<◌}
use native.Mathlib.Numerals.{add-one}
use native.Mathlib.Omega.{arith}
use borrow.Author.Tests.{lt-ltb, le-ltb, le-leb, lt-leb, eq-eqb, ne_eqb}
use lib.Dec.{ltb}
use lib.ListN.{length, take, drop, get_or, length-drop, drop_of_length-le}
use lib.Seq.{drop-drop}
use Rattle.words.specs.declared.Step.{Step}
use Rattle.words.specs.Steps.{encoded}
use Rattle.names.specs.Numbers.{Name}
use Rattle.requests.specs.Pieces.{same_bytes, number_of, number_at, word_of, word_at, decimal_at, next_at, up_to, piece_at}
use Rattle.requests.specs.declared.piece.Number.{Number}
use Rattle.std.specs.Prelude.{Option, Some, None}
use Rattle.std.specs.Option.{unwrap_or}
use Rattle.std.specs.List.{position, position_or_len}
use Rattle.std.proofs.lemmas.Bool.Decides.{nat_tests}
use Rattle.std.proofs.lemmas.List.Recursion.{is_position_or_len}
use Rattle.requests.proofs.Numbers.{found_none, found_value}
use Rattle.text.specs.Put.{Put}
use Rattle.text.proofs.Putting.{Left, begin, further, finish}
use Rattle.text.proofs.Written.{from_place}
use Rattle.written_proofs.specs.Steps.{begins, only}
use Rattle.written_proofs.specs.Reading.{blank, piece, pieces_from, number_said, clause_said, step_made, height_made, clause_made, literal_made, verb_turn, turn, complete, reads, read_proof, Told}
use Rattle.written_proofs.specs.declared.read.Awaited.{Awaited}
use Rattle.written_proofs.specs.declared.read.Awaited.TheVariants.{Step as step, Height, Clause, Literal}
use Rattle.written_proofs.specs.declared.read.Turn.{Turn}
use Rattle.written_proofs.specs.declared.read.Turn.TheVariants.{Awaits, Makes, Wrong}

-- where a piece ends
piece_first : (cs : List ℕ) → length (piece cs) ≡ position_or_len blank cs
unfolding piece
piece_first cs = is_position_or_len (λ (l : List ℕ). length (piece l)) blank refl (λ c l. stops (blank c) c l) cs
  where
    stops : (b : Bool) (c : ℕ) (l : List ℕ) → length (cond b [] (c ∷ piece l)) ≡ cond b 0 (1 + length (piece l))
    stops true c l = refl
    stops false c l = omega arith

piece_within : (cs : List ℕ) → length (piece cs) ≤ length cs
unfolding piece
piece_within [] = omega arith
piece_within (c ∷ cs) = go (blank c) (piece_within cs)
  where
    go : (b : Bool) → length (piece cs) ≤ length cs → length (cond b [] (c ∷ piece cs)) ≤ suc (length cs)
    go true h = omega arith
    go false h = omega arith

pub piece_position : (cs : List ℕ) → unwrap_or (position blank cs) (length cs) ≡ length (piece cs)
piece_position cs = rw (← piece_first cs) (go (ltb (length (piece cs)) (length cs)) refl)
  where
    go : (b : Bool) → ltb (length (piece cs)) (length cs) ≡ b → unwrap_or (cond b (Some (length (piece cs))) None) (length cs) ≡ length (piece cs)
    go true e = refl
    go false e = grind (arith, nat_tests, piece_within cs)

-- what pieces say
module _ (own : List ℕ) {q : Option Number} where
  pub number_none : q ≡ decimal_at 32 own 0 → q ≡ None → None ≡ number_said own
  unfolding number_at number_said
  number_none e b = rw (found_none _ (number_of 10 (up_to 32 own)) (sym e ∙ b))

  pub number_some : q ≡ decimal_at 32 own 0 → {n : Number} → q ≡ Some n → Some n.value ≡ number_said own
  unfolding number_at number_said
  number_some e b = rw (found_value _ (number_of 10 (up_to 32 own)) (sym e ∙ b))

module _ (ns : List Name) (own : List ℕ) {b : Bool} (e : b ≡ begins own) where
  pub told_name : b ≡ true → {r : Option ℕ} → r ≡ only ns own → r ≡ clause_said ns own
  unfolding clause_said
  told_name t h = h ∙ rw (← e, t)

  pub told_number : b ≡ false → {r : Option ℕ} → r ≡ number_said own → r ≡ clause_said ns own
  unfolding clause_said
  told_number f h = h ∙ rw (← e, f)

module _ (s : Step) {w : ℕ} (e : w ≡ encoded s) where
  pub made_wrong : w ≡ 0xC0000000 → Wrong ≡ step_made s
  unfolding step_made
  made_wrong h = rw (← e, eq-eqb w 0xC0000000 h)

  pub made_step : (w ≡ 0xC0000000 → ⊥) → Makes w ≡ step_made s
  unfolding step_made
  made_step h = rw (← e, ne_eqb w 0xC0000000 h)

module _ {q : Option ℕ} where
  pub none_named : q ≡ None → Wrong ≡ clause_made q
  unfolding clause_made
  none_named e = rw e

  module _ {i : ℕ} (e : q ≡ Some i) where
    pub a_named : i < 512 → Awaits (Literal i) ≡ clause_made q
    unfolding clause_made
    a_named h = rw (e, lt-ltb i 512 h)

    pub not_named : 512 ≤ i → Wrong ≡ clause_made q
    unfolding clause_made
    not_named h = rw (e, le-ltb i 512 h)

module _ (own : List ℕ) {r : Bool} (er : r ≡ same_bytes own (114 ∷ 101 ∷ 100 ∷ 117 ∷ 99 ∷ 101 ∷ [])) where
  pub verb_reduce : r ≡ true → Awaits Height ≡ verb_turn own
  unfolding verb_turn
  verb_reduce t = rw (← er, t)

  module _ (f : r ≡ false) {x : Bool} (ex : x ≡ same_bytes own (101 ∷ 120 ∷ 116 ∷ 101 ∷ 110 ∷ 100 ∷ [])) where
    pub verb_extend : x ≡ true → Awaits Clause ≡ verb_turn own
    unfolding verb_turn
    verb_extend t = rw (← er, f, ← ex, t)

    module _ (g : x ≡ false) {q : Option Number} (e : q ≡ word_at own 0) where
      pub verb_wrong : q ≡ None → Wrong ≡ verb_turn own
      unfolding verb_turn word_at
      verb_wrong b = rw (← er, f, ← ex, g, found_none (next_at own 0) (word_of (piece_at own 0)) (sym e ∙ b))

      pub verb_word : {n : Number} → q ≡ Some n → Makes n.value ≡ verb_turn own
      unfolding verb_turn word_at
      verb_word b = rw (← er, f, ← ex, g, found_value (next_at own 0) (word_of (piece_at own 0)) (sym e ∙ b))

module _ (ns : List Name) (own : List ℕ) {a : Awaited} {r : Turn} where
  pub turn_verb : a ≡ step → r ≡ verb_turn own → r ≡ turn ns a own
  unfolding turn
  turn_verb e h = rw e h

  module _ {q : Option ℕ} where
    pub turn_height : a ≡ Height → q ≡ number_said own → r ≡ height_made q → r ≡ turn ns a own
    unfolding turn
    turn_height e en h = rw (e, ← en) h

    pub turn_clause : a ≡ Clause → q ≡ clause_said ns own → r ≡ clause_made q → r ≡ turn ns a own
    unfolding turn
    turn_clause e en h = rw (e, ← en) h

    pub turn_literal : {i : ℕ} → a ≡ Literal i → q ≡ number_said own → r ≡ literal_made i q → r ≡ turn ns a own
    unfolding turn
    turn_literal e en h = rw (e, ← en) h

pub complete_step : {a : Awaited} → a ≡ step → true ≡ complete a
unfolding complete
complete_step e = rw e

pub complete_other : (a : Awaited) → (a ≡ step → ⊥) → false ≡ complete a
unfolding complete
complete_other step n = absurd (n refl)
complete_other Height n = refl
complete_other Clause n = refl
complete_other (Literal i) n = refl

-- the pieces of a text, one after another
pub rest_of : (at : ℕ) (cs : List ℕ) → pieces_from at true cs ≡ pieces_from (at + length (piece cs)) false (drop (length (piece cs)) cs)
unfolding pieces_from piece
rest_of at [] = refl
rest_of at (c ∷ cs) = go (blank c) refl (rest_of (suc at) cs)
  where
    go : (b : Bool) → blank c ≡ b → pieces_from (suc at) true cs ≡ pieces_from (suc at + length (piece cs)) false (drop (length (piece cs)) cs)
        → cond b (pieces_from (suc at) false cs) (pieces_from (suc at) true cs)
        ≡ pieces_from (at + length (cond b [] (c ∷ piece cs))) false (drop (length (cond b [] (c ∷ piece cs))) (c ∷ cs))
    go true e ih = let z : at + 0 ≡ at = omega arith in rw (z, e)
    go false e ih = let z : at + suc (length (piece cs)) ≡ suc at + length (piece cs) = omega arith in rw z ih

pub piece_front : (cs : List ℕ) → take (length (piece cs)) cs ≡ piece cs
unfolding piece
piece_front [] = refl
piece_front (c ∷ cs) = go (blank c) (piece_front cs)
  where
    go : (b : Bool) → take (length (piece cs)) cs ≡ piece cs → take (length (cond b [] (c ∷ piece cs))) (c ∷ cs) ≡ cond b [] (c ∷ piece cs)
    go true ih = refl
    go false ih = ap (λ (l : List ℕ). c ∷ l) ih

-- what is still to be read gives the whole
pub record Going (ns : List Name) (said first out : List ℕ) (used at : ℕ) (a : Awaited) : Type 0 where
  pub within : at ≤ length said
  pub whole : (read_proof ns said).whole ≡ (reads ns (length said) a (pieces_from at false (drop at said))).whole
  pub place : (read_proof ns said).place ≡ (reads ns (length said) a (pieces_from at false (drop at said))).place
  pub awaits : (read_proof ns said).awaits ≡ (reads ns (length said) a (pieces_from at false (drop at said))).awaits
  pub words : Left first 0 (read_proof ns said).words out used (reads ns (length said) a (pieces_from at false (drop at said))).words

pub go_begin : (ns : List Name) (said first : List ℕ) → Going ns said first first 0 0 step
unfolding read_proof
go_begin ns said first = record { within = omega arith; whole = refl; place = refl; awaits = refl; words = begin first 0 (read_proof ns said).words }

module _ {ns : List Name} {said first out : List ℕ} {used at : ℕ} {a : Awaited} (g : Going ns said first out used at a) where
  pub go_over : length said ≤ at → {b : Bool} → b ≡ complete a
      → Told (read_proof ns said) first out (record { whole = b; place = at; awaited = a; steps = used })
  unfolding reads pieces_from
  go_over h e =
      let d = drop_of_length-le said h in
      record {
        whole = e ∙ sym (rw d at g.whole);
        place = let z : at ≡ length said = omega (arith, g.within) in z ∙ sym (rw d at g.place);
        awaits = sym (rw d at g.awaits);
        words = finish (rw d at g.words);
      }

  module _ (h : at < length said) where
    pub go_blank : get_or said at 0 ≤ 32 → Going ns said first out used (at + 1) a
    unfolding pieces_from
    go_blank k =
        let e : pieces_from at false (drop at said) ≡ pieces_from (at + 1) false (drop (at + 1) said) = rw (from_place said at h, le-leb (get_or said at 0) 32 k, add-one) in
        record { within = omega arith; whole = rw e at g.whole; place = rw e at g.place; awaits = rw e at g.awaits; words = rw e at g.words }

    module _ (k : 32 < get_or said at 0) {end : ℕ} (ee : end ≡ at + length (piece (drop at said))) where
      here : pieces_from at false (drop at said) ≡ record { at = at; own = piece (drop at said) } ∷ pieces_from end false (drop end said)
      unfolding pieces_from piece
      here =
          let c = get_or said at 0 in
          let cs = drop (at + 1) said in
          let f = from_place said at h in
          let l : length (piece (drop at said)) ≡ suc (length (piece cs)) = rw (f, lt-leb c 32 k) in
          let z : end ≡ suc at + length (piece cs) = omega (arith, ee, l) in
          let x : end ≡ at + 1 + length (piece cs) = omega (arith, z) in
          let y : drop end said ≡ drop (length (piece cs)) cs = rw x (sym (drop-drop (length (piece cs)) (at + 1) said)) in
          rw (y, z, f, lt-leb c 32 k, rest_of (suc at) cs)

      pub go_within : end ≤ length said
      go_within = omega (arith, ee, piece_within (drop at said), length-drop at said)

      pub go_less : length said - end < length said - at
      unfolding piece
      go_less =
          let l : length (piece (drop at said)) ≡ suc (length (piece (drop (at + 1) said))) = rw (from_place said at h, lt-leb (get_or said at 0) 32 k) in
          omega (arith, ee, l, h)

      own_is : take (end - at) (drop at said) ≡ piece (drop at said)
      own_is = let z : end - at ≡ length (piece (drop at said)) = omega (arith, ee) in rw z (piece_front (drop at said))

      module _ {t : Turn} (et : t ≡ turn ns a (take (end - at) (drop at said))) where
        turned : t ≡ turn ns a (piece (drop at said))
        turned = et ∙ ap (λ (p : List ℕ). turn ns a p) own_is

        pub go_wrong : t ≡ Wrong → Told (read_proof ns said) first out (record { whole = false; place = at; awaited = a; steps = used })
        unfolding reads
        go_wrong w =
            let e : reads ns (length said) a (pieces_from at false (drop at said)) ≡ record { words = []; whole = false; place = at; awaits = a } = rw (here, ← turned, w) in
            record { whole = sym (rw e at g.whole); place = sym (rw e at g.place); awaits = sym (rw e at g.awaits); words = finish (rw e at g.words) }

        pub go_awaits : {b : Awaited} → t ≡ Awaits b → Going ns said first out used end b
        unfolding reads
        go_awaits {b} w =
            let e : reads ns (length said) a (pieces_from at false (drop at said)) ≡ reads ns (length said) b (pieces_from end false (drop end said)) = rw (here, ← turned, w) in
            record { within = go_within; whole = rw e at g.whole; place = rw e at g.place; awaits = rw e at g.awaits; words = rw e at g.words }

        pub go_makes : {w : ℕ} → t ≡ Makes w → {out' : List ℕ} {used' : ℕ} → Put out used (w ∷ []) out' used' → Going ns said first out' used' end step
        unfolding reads
        go_makes {w} m p =
            let r = reads ns (length said) step (pieces_from end false (drop end said)) in
            let e : reads ns (length said) a (pieces_from at false (drop at said)) ≡ record { words = w ∷ r.words; whole = r.whole; place = r.place; awaits = r.awaits } = rw (here, ← turned, m) in
            record { within = go_within; whole = rw e at g.whole; place = rw e at g.place; awaits = rw e at g.awaits; words = further (w ∷ []) r.words (rw e at g.words) p }

-- the places of at most 512 clauses
pub few_front : {p : List ℕ} (q : List ℕ) → p ≡ take 512 q → length p ≤ 512
few_front {p} q e = rw e (length-take-within 512 q)
  where
    length-take-within : (n : ℕ) (l : List ℕ) → length (take n l) ≤ n
    length-take-within zero l = omega arith
    length-take-within (suc n) [] = omega arith
    length-take-within (suc n) (x ∷ l) = let h = length-take-within n l in omega arith
