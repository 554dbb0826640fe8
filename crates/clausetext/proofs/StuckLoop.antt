-- A text followed to where it cannot go on, one law for each outcome, with premises as the code has them.
use Rattle.std.specs.Prelude.{Option, Some, None}
use mathlib.Core.Path.{◌≡◌, refl, sym, ◌∙◌}
use mathlib.Core.List.{List}
use Prim.Native.Nat.{ℕ, ◌+◌, ◌^◌, ◌≤◌, ◌<◌}
use native.Mathlib.Omega.{arith}
use native.Mathlib.Numerals.{add-one}
use lib.ListN.{length, drop, get_or, drop_of_length-le}
use borrow.Author.Tests.{eq-eqb, ne_eqb}
use Rattle.clausetext.specs.declared.judge.State.{State}
use Rattle.clausetext.specs.Judging.{Room, step_of, start}
use Rattle.clausetext.specs.Stuck.{stuck_in, name_begun, question_from}
use Rattle.clausetext.proofs.JudgeLoop.{Small, step_grown}
use Rattle.clausetext.proofs.Lexing.{from_place}

-- how far a text has been followed
pub record Following (text : List ℕ) (s : State) (at : ℕ) : Type 0 where
  pub same : stuck_in start text ≡ stuck_in s (drop at text)
  pub small : Small at s

pub follow_begin : (text : List ℕ) {s : State} → s ≡ start → Following text s 0
follow_begin text e = rw e (record { same = refl; small = record { deep = omega arith; many = omega arith; asking = omega arith } })

small_room : {n : ℕ} {s : State} → Small n s → n < 2 ^ 63 → Room s
small_room m h = record { deep = omega (arith, m.deep); many = omega (arith, m.many); asking = omega (arith, m.asking) }

module _ {text : List ℕ} {s : State} {at : ℕ} (g : Following text s at) where
  pub follow_room : length text < 2 ^ 63 → at < length text → Room s
  follow_room l h = small_room g.small (omega arith)

  pub follow_over : length text ≤ at → s ≡ stuck_in start text
  unfolding stuck_in
  follow_over h = sym (g.same ∙ rw (drop_of_length-le text h))

  module _ (h : at < length text) {t : Option State} (e : t ≡ step_of s (get_or text at 0)) where
    pub follow_stuck : t ≡ None → s ≡ stuck_in start text
    unfolding stuck_in
    follow_stuck f = sym (g.same ∙ rw (from_place text at h, sym e ∙ f))

    pub follow_next : {u : State} → t ≡ Some u → Following text u (at + 1)
    unfolding stuck_in
    follow_next f =
        let k = step_grown g.small (get_or text at 0) (sym f ∙ e) in
        record { same = g.same ∙ rw (from_place text at h, sym e ∙ f); small = rw add-one k }

pub ruleset follow_laws = (follow_begin, follow_room, follow_over, follow_stuck, follow_next)

-- how far the question's name has been looked for
pub record Seeking (text : List ℕ) (many : ℕ) (s : State) (at name : ℕ) : Type 0 where
  pub same : question_from many start 0 0 text ≡ question_from many s at name (drop at text)
  pub small : Small at s

pub seek_begin : (text : List ℕ) (many : ℕ) {s : State} → s ≡ start → Seeking text many s 0 0
seek_begin text many e = rw e (record { same = refl; small = record { deep = omega arith; many = omega arith; asking = omega arith } })

module _ {text : List ℕ} {many : ℕ} {s : State} {at name : ℕ} (g : Seeking text many s at name) where
  pub seek_room : length text < 2 ^ 63 → at < length text → Room s
  seek_room l h = small_room g.small (omega arith)

  pub seek_over : length text ≤ at → at ≡ question_from many start 0 0 text
  unfolding question_from
  seek_over h = sym (g.same ∙ rw (drop_of_length-le text h))

  module _ (h : at < length text) {t : Option State} (e : t ≡ step_of s (get_or text at 0)) where
    pub seek_stuck : t ≡ None → at ≡ question_from many start 0 0 text
    unfolding question_from
    seek_stuck f = sym (g.same ∙ rw (from_place text at h, sym e ∙ f))

    module _ {u : State} (f : t ≡ Some u) {n : ℕ} (b : n ≡ name_begun s.want at name) where
      pub seek_found : u.questions ≡ many → n ≡ question_from many start 0 0 text
      unfolding question_from
      seek_found q = b ∙ sym (g.same ∙ rw (from_place text at h, sym e ∙ f, eq-eqb u.questions many q))

      pub seek_next : (u.questions ≡ many → ⊥) → Seeking text many u (at + 1) n
      unfolding question_from
      seek_next q =
          let k = step_grown g.small (get_or text at 0) (sym f ∙ e) in
          record { same = g.same ∙ rw (from_place text at h, sym e ∙ f, ne_eqb u.questions many q, b); small = rw add-one k }

pub ruleset seek_laws = (seek_begin, seek_room, seek_over, seek_stuck, seek_found, seek_next)
