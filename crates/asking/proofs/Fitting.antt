-- Every text of `ask` fits 65,536 bytes.
use mathlib.Core.Bool.{Bool, true, false, cond}
use mathlib.Core.List.{List, [], ◌∷◌, ◌++◌}
use mathlib.Core.Path.{◌≡◌, refl, ap}
use Prim.Native.Nat.{ℕ, zero, suc, ◌+◌, ◌*◌, ◌/◌, ◌≤◌}
use native.Mathlib.Omega.{arith}
use lib.Dec.{eqb}
use lib.ListN.{length, take, drop, length-append}
use Rattle.words.specs.Bytes.{words_of}
use Rattle.text.specs.Quoted.{bytes}
use Rattle.text.specs.Digits.{digits_of, significant, hex_text, decimal_text, spaced_text}
use Rattle.hukolearu.specs.Calls.{Given}
use Rattle.asking.specs.Report.{summary_text, line_text, disjunct_length, literals_in, cut_into, lines_of, disjunct_text, disjuncts_text, answer_text, report_text}
use Rattle.asking.specs.Program.{readable, said_of, given_text, ask_text}
use Rattle.asking.specs.Promises.{TextFits}
use Rattle.asking.proofs.Given.{Short, asked_short}

digits_length : (base count n : ℕ) → length (digits_of base count n) ≡ count
unfolding digits_of
digits_length base zero n = refl
digits_length base (suc count) n = ap suc (digits_length base count n)

significant_length : (ds : List ℕ) → length (significant ds) ≤ length ds
unfolding significant
significant_length [] = omega arith
significant_length (d ∷ []) = omega arith
significant_length (d ∷ e ∷ ds) = go (eqb d 48) (significant_length (e ∷ ds))
  where
    go : (b : Bool) → length (significant (e ∷ ds)) ≤ length (e ∷ ds) → length (cond b (significant (e ∷ ds)) (d ∷ e ∷ ds)) ≤ length (d ∷ e ∷ ds)
    go true h = omega arith
    go false h = omega arith

decimal_length : (n : ℕ) → length (decimal_text n) ≤ 10
decimal_length n = omega (arith, significant_length (digits_of 10 10 n), digits_length 10 10 n)

spaced_length : (ws : List ℕ) → length (spaced_text ws) ≡ length ws * 9
unfolding spaced_text
spaced_length [] = refl
spaced_length (w ∷ ws) =
    omega (arith, length-append (bytes " " ++ hex_text w) (spaced_text ws), digits_length 16 8 w, spaced_length ws)

line_length : (name ws : List ℕ) → length (line_text name ws) ≡ length name + length ws * 9 + 1
unfolding line_text
line_length name ws =
    omega (arith, length-append (name ++ spaced_text ws) (bytes "\n"), length-append name (spaced_text ws), spaced_length ws)

cut_length : (k : ℕ) (ws : List ℕ) → length (take k ws) + length (drop k ws) ≡ length ws
cut_length zero ws = omega arith
cut_length (suc k) [] = refl
cut_length (suc k) (w ∷ ws) = omega (arith, cut_length k ws)

disjuncts_length : (count literals : ℕ) (ws : List ℕ) → length (lines_of (cut_into count literals ws)) ≤ count * 3 + length ws * 9
unfolding lines_of cut_into
disjuncts_length zero literals ws = omega arith
disjuncts_length (suc count) literals ws =
    let k = disjunct_length ws literals in
    omega (
      arith,
      length-append (disjunct_text (take k ws)) (lines_of (cut_into count literals (drop k ws))),
      line_length (bytes "or") (take k ws),
      disjuncts_length count literals (drop k ws),
      cut_length k ws,
    )

summary_length : (status place tries : ℕ) → length (summary_text status place tries) ≤ 52
unfolding summary_text
summary_length status place tries =
    let s = bytes "status " ++ decimal_text status in
    let p = bytes " place " ++ decimal_text place in
    let t = bytes " tries " ++ decimal_text tries in
    omega (
      arith,
      length-append (s ++ p ++ t) (bytes "\n"),
      length-append (s ++ p) t,
      length-append s p,
      length-append (bytes "status ") (decimal_text status),
      length-append (bytes " place ") (decimal_text place),
      length-append (bytes " tries ") (decimal_text tries),
      decimal_length status,
      decimal_length place,
      decimal_length tries,
    )

answer_length : (count : ℕ) (steps ws : List ℕ) → length (answer_text count steps ws) ≤ length steps * 9 + 6 + (count * 3 + length ws * 9)
unfolding answer_text disjuncts_text
answer_length count steps ws =
    omega (
      arith,
      length-append (line_text (bytes "proof") steps) (lines_of (cut_into count (literals_in ws / count) ws)),
      line_length (bytes "proof") steps,
      disjuncts_length count (literals_in ws / count) ws,
    )

given_length : (g : Given) → Short g → length (given_text g) ≤ 65536
unfolding given_text report_text
given_length g h = go (eqb g.outcome.status 0)
  where
    first : List ℕ
    first = summary_text g.outcome.status g.outcome.place g.outcome.tries

    rest : List ℕ
    rest = answer_text g.outcome.disjuncts g.proof g.answer

    go : (b : Bool) → length (first ++ cond b rest []) ≤ 65536
    go true =
        omega (
          arith,
          length-append first rest,
          summary_length g.outcome.status g.outcome.place g.outcome.tries,
          answer_length g.outcome.disjuncts g.proof g.answer,
          h.steps,
          h.words,
          h.disjuncts,
        )
    go false = omega (arith, length-append first [], summary_length g.outcome.status g.outcome.place g.outcome.tries)

said_short : (ws : List ℕ) → Short (said_of ws)
unfolding said_of
said_short [] = record { steps = omega arith; words = omega arith; disjuncts = omega arith }
said_short (bound ∷ []) = record { steps = omega arith; words = omega arith; disjuncts = omega arith }
said_short (bound ∷ budget ∷ file) = asked_short file bound budget

pub text_fits : TextFits
unfolding ask_text
text_fits input = go (readable (length input))
  where
    go : (b : Bool) → length (cond b (given_text (said_of (words_of input))) (given_text (said_of []))) ≤ 65536
    go true = given_length (said_of (words_of input)) (said_short (words_of input))
    go false = given_length (said_of []) (said_short [])
