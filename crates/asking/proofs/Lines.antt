-- The lines of `ask` put together of parts, one law for each outcome, with premises as the code has them.
use mathlib.Core.Path.{◌≡◌, sym, ◌∙◌}
use mathlib.Core.Bool.{Bool, true, false}
use mathlib.Core.List.{List, [], ◌∷◌, ◌++◌}
use Prim.Native.Nat.{ℕ, zero, suc, ◌+◌, ◌-◌, ◌/◌, ◌%◌, ◌^◌, ◌≤◌, ◌<◌}
use native.Mathlib.Omega.{arith}
use lib.Dec.{eqb, leb}
use lib.ListN.{length, take, drop, get_or, drop_of_length-le, length-drop}
use lib.Seq.{drop-drop}
use mir.Syntax.{w64}
use mir.Val.{Fits}
use borrow.Author.Tests.{eq-eqb, ne_eqb, le-leb, lt-leb}
use Rattle.words.specs.Fields.{kind_of}
use Rattle.text.specs.Quoted.{bytes}
use Rattle.text.specs.Put.{Put}
use Rattle.text.specs.Digits.{decimal_text, spaced_text}
use Rattle.text.proofs.Parts.{part_from}
use Rattle.text.proofs.Putting.{Left, begin, further, finish, then}
use Rattle.text.proofs.Written.{from_place}
use Rattle.asking.specs.Report.{line_text, summary_text, passing, disjunct_length, literals_in, cut_into, lines_of, disjunct_text, disjuncts_text, answer_text, report_text}
use Rattle.asking.specs.Program.{readable}

-- a line by its parts
module _ {out a : List ℕ} {at n : ℕ} where
  pub line_is : (name ws : List ℕ) → Put out at name a n → {b : List ℕ} {m : ℕ} → Put a n (spaced_text ws) b m → {c : List ℕ} {k : ℕ} → Put b m (bytes "\n") c k
      → Put out at (line_text name ws) c k
  unfolding line_text
  line_is name ws p q r = then (then p q) r

  pub summary_is : (s f t : ℕ) → Put out at (bytes "status " ++ decimal_text s) a n → {b : List ℕ} {m : ℕ} → Put a n (bytes " place " ++ decimal_text f) b m
      → {c : List ℕ} {k : ℕ} → Put b m (bytes " tries " ++ decimal_text t) c k → {d : List ℕ} {l : ℕ} → Put c k (bytes "\n") d l → Put out at (summary_text s f t) d l
  unfolding summary_text
  summary_is s f t p q r u =
      then {a = bytes "status " ++ decimal_text s ++ (bytes " place " ++ decimal_text f) ++ (bytes " tries " ++ decimal_text t)}
      (then {a = bytes "status " ++ decimal_text s ++ (bytes " place " ++ decimal_text f)} (then {a = bytes "status " ++ decimal_text s} p q) r) u

pub ruleset line_laws = (line_is, summary_is)

-- a disjunct ends before the literal that comes after so many
pub record Passing (answer : List ℕ) (literals i left : ℕ) : Type 0 where
  pub within : i ≤ length answer
  pub same : disjunct_length answer literals ≡ i + disjunct_length (drop i answer) left

pub pass_begin : (answer : List ℕ) (literals : ℕ) → Passing answer literals 0 literals
pass_begin answer literals = record { within = omega arith; same = omega arith }

pass_literal : (w : ℕ) (ws : List ℕ) (left less : ℕ) → kind_of w ≡ 2 → left ≡ suc less → disjunct_length (w ∷ ws) left ≡ suc (disjunct_length ws less)
unfolding disjunct_length
pass_literal w ws left less e s = rw (eq-eqb (kind_of w) 2 e, s)

pass_other : (w : ℕ) (ws : List ℕ) (left : ℕ) → (kind_of w ≡ 2 → ⊥) → disjunct_length (w ∷ ws) left ≡ suc (disjunct_length ws left)
unfolding disjunct_length
pass_other w ws left n = rw (ne_eqb (kind_of w) 2 n)

stop_literal : (w : ℕ) (ws : List ℕ) (left : ℕ) → kind_of w ≡ 2 → left ≡ 0 → disjunct_length (w ∷ ws) left ≡ 0
unfolding disjunct_length
stop_literal w ws left e s = rw (eq-eqb (kind_of w) 2 e, s)

module _ {answer : List ℕ} {literals i left : ℕ} (g : Passing answer literals i left) where
  pub pass_over : length answer ≤ i → i ≡ disjunct_length answer literals
  unfolding disjunct_length
  pass_over h = let s = rw (drop_of_length-le answer h) at g.same in omega arith

  module _ (h : i < length answer) {k : ℕ} (e : k ≡ kind_of (get_or answer i 0)) where
    pub pass_word : (k ≡ 2 → ⊥) → Passing answer literals (i + 1) left
    pass_word n = record {
      within = omega arith;
      same = let s = rw (from_place answer i h, pass_other (get_or answer i 0) (drop (i + 1) answer) left (λ p. n (e ∙ p))) at g.same in omega arith;
    }

    module _ (two : k ≡ 2) where
      pub pass_stops : left ≡ 0 → i ≡ disjunct_length answer literals
      pass_stops z = let s = rw (from_place answer i h, stop_literal (get_or answer i 0) (drop (i + 1) answer) left (sym e ∙ two) z) at g.same in omega arith

      pub pass_one : (left ≡ 0 → ⊥) → Passing answer literals (i + 1) (left - 1)
      pass_one n = record {
        within = omega arith;
        same = let s = rw (from_place answer i h, pass_literal (get_or answer i 0) (drop (i + 1) answer) left (left - 1) (sym e ∙ two) (omega arith)) at g.same in omega arith;
      }

pub ruleset pass_laws = (pass_begin, pass_over, pass_word, pass_stops, pass_one)

-- the literals of an answer
pub record Counting (answer : List ℕ) (count i : ℕ) : Type 0 where
  pub within : i ≤ length answer
  pub few : count ≤ i
  pub same : literals_in answer ≡ count + literals_in (drop i answer)

pub count_begin : (answer : List ℕ) → Counting answer 0 0
count_begin answer = record { within = omega arith; few = omega arith; same = omega arith }

count_literal : (w : ℕ) (ws : List ℕ) → kind_of w ≡ 2 → literals_in (w ∷ ws) ≡ suc (literals_in ws)
unfolding literals_in
count_literal w ws e = rw (eq-eqb (kind_of w) 2 e)

count_other : (w : ℕ) (ws : List ℕ) → (kind_of w ≡ 2 → ⊥) → literals_in (w ∷ ws) ≡ literals_in ws
unfolding literals_in
count_other w ws n = rw (ne_eqb (kind_of w) 2 n)

module _ {answer : List ℕ} {count i : ℕ} (g : Counting answer count i) where
  pub count_over : length answer ≤ i → count ≡ literals_in answer
  unfolding literals_in
  count_over h = let s = rw (drop_of_length-le answer h) at g.same in omega arith

  module _ (h : i < length answer) {k : ℕ} (e : k ≡ kind_of (get_or answer i 0)) where
    pub count_one : k ≡ 2 → Counting answer (count + 1) (i + 1)
    count_one two = record {
      within = omega arith;
      few = omega (arith, g.few);
      same = let s = rw (from_place answer i h, count_literal (get_or answer i 0) (drop (i + 1) answer) (sym e ∙ two)) at g.same in omega arith;
    }

    pub count_none : (k ≡ 2 → ⊥) → Counting answer count (i + 1)
    count_none n = record {
      within = omega arith;
      few = omega (arith, g.few);
      same = let s = rw (from_place answer i h, count_other (get_or answer i 0) (drop (i + 1) answer) (λ p. n (e ∙ p))) at g.same in omega arith;
    }

pub ruleset count_laws = (count_begin, count_over, count_one, count_none)

-- the disjuncts one after the other
passing_below : (b : Bool) (n m : ℕ) (f : ℕ → ℕ) → ((k : ℕ) → f k ≤ m) → passing b n f ≤ suc m
passing_below false n m f h = omega (arith, h n)
passing_below true zero m f h = omega arith
passing_below true (suc n) m f h = omega (arith, h n)

length_below : (ws : List ℕ) (n : ℕ) → disjunct_length ws n ≤ length ws
unfolding disjunct_length
length_below [] n = omega arith
length_below (w ∷ ws) n = passing_below (eqb (kind_of w) 2) n (length ws) (disjunct_length ws) (length_below ws)

next_disjunct : (left less n : ℕ) (ws : List ℕ) → left ≡ suc less
    → disjuncts_text left n ws ≡ disjunct_text (take (disjunct_length ws n) ws) ++ disjuncts_text less n (drop (disjunct_length ws n) ws)
unfolding disjuncts_text cut_into lines_of
next_disjunct left less n ws e = rw e

module _ (answer : List ℕ) (literals start : ℕ) {r : ℕ} (e : r ≡ disjunct_length (take (length answer - start) (drop start answer)) literals) where
  size : r ≡ disjunct_length (drop start answer) literals
  size = rw (part_from start answer) at e

  pub disjunct_in : start ≤ length answer → start + r ≤ length answer
  disjunct_in h = omega (arith, size, length_below (drop start answer) literals, length-drop start answer)

  pub disjunct_fits : start ≤ length answer → length answer < 2 ^ 63 → Fits w64 (start + r)
  disjunct_fits h k = record { fits = omega (arith, disjunct_in h) }

  pub disjunct_more : {first : List ℕ} {from : ℕ} {whole out : List ℕ} {at left less : ℕ} → left ≡ suc less → Left first from whole out at (disjuncts_text left literals (drop start answer))
      → {out' : List ℕ} {at' : ℕ} → Put out at (disjunct_text (take (start + r - start) (drop start answer))) out' at'
      → Left first from whole out' at' (disjuncts_text less literals (drop (start + r) answer))
  disjunct_more {first} {from} {whole} {out} {at} {left} {less} s l p =
      let z : start + r - start ≡ disjunct_length (drop start answer) literals = omega (arith, size) in
      let d : drop (disjunct_length (drop start answer) literals) (drop start answer) ≡ drop (start + r) answer =
      rw (← size) (drop-drop r start answer)
      in
      further (disjunct_text (take (disjunct_length (drop start answer) literals) (drop start answer))) (disjuncts_text less literals (drop (start + r) answer))
      (rw (next_disjunct left less literals (drop start answer) s, d) at l) (rw z at p)

pub disjunct_last : (answer : List ℕ) (literals left start : ℕ) {first : List ℕ} {from : ℕ} {whole out : List ℕ} {at : ℕ}
    → Left first from whole out at (disjuncts_text left literals (drop start answer)) → left ≤ 0 → Put first from whole out at
unfolding disjuncts_text cut_into lines_of
disjunct_last answer literals left start l h = let z : left ≡ 0 = omega arith in finish (rw z at l)

pub ruleset disjunct_laws = (disjunct_in, disjunct_fits, disjunct_more, disjunct_last)

-- the lines after the first
module _ (steps ws : List ℕ) {count : ℕ} {out : List ℕ} {at : ℕ} {mid : List ℕ} {next : ℕ} (p : Put out at (line_text (bytes "proof") steps) mid next) where
  pub answer_none : count ≡ 0 → Put out at (answer_text count steps ws) mid next
  unfolding answer_text disjuncts_text cut_into lines_of
  answer_none e = rw e (then p (finish (begin mid next [])))

  pub answer_some : {l k : ℕ} → l ≡ literals_in ws → k ≡ count → {out' : List ℕ} {at' : ℕ} → Put mid next (disjuncts_text count (l / k) ws) out' at'
      → Put out at (answer_text count steps ws) out' at'
  unfolding answer_text
  answer_some el ek q = then p (rw (el, ek) at q)

pub ruleset answer_laws = (answer_none, answer_some)

-- all that `ask` writes
module _ (status place tries disjuncts : ℕ) (steps ws : List ℕ) {out : List ℕ} {at : ℕ} {mid : List ℕ} {next : ℕ} (p : Put out at (summary_text status place tries) mid next) where
  pub report_answer : status ≡ 0 → {out' : List ℕ} {at' : ℕ} → Put mid next (answer_text disjuncts steps ws) out' at'
      → Put out at (report_text status place tries disjuncts steps ws) out' at'
  unfolding report_text
  report_answer e q = then p (rw (eq-eqb status 0 e) q)

  pub report_none : (status ≡ 0 → ⊥) → Put out at (report_text status place tries disjuncts steps ws) mid next
  unfolding report_text
  report_none n = then p (rw (ne_eqb status 0 n) (finish (begin mid next [])))

pub ruleset report_laws = (report_answer, report_none)
