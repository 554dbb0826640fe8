-- Result lines put together of parts, one law for each outcome, with premises as the code has them.
use mathlib.Core.Path.{◌≡◌, refl}
use mathlib.Core.Bool.{Bool, true, false}
use mathlib.Core.List.{List, [], ◌∷◌, ◌++◌}
use Prim.Native.Nat.{ℕ, min}
use native.Mathlib.Omega.{arith}
use lib.ListN.{length, take, drop}
use Rattle.text.specs.Quoted.{bytes}
use Rattle.text.specs.Put.{Put}
use Rattle.text.specs.Digits.{decimal_text, words_text, bytes_text, long_decimal_text}
use Rattle.text.proofs.Putting.{then}
use Rattle.hukolearu.specs.declared.Outcome.{Outcome}
use Rattle.results.specs.Buffers.{all_are, both_untouched, text_kept, kept, work_kept, written}
use Rattle.results.specs.Results.{barred_text, barred_bytes_text, verdict_text, first_numbers_text, last_numbers_text, lists_text, outcome_text, least_text, found_text, clause_text, counted_text, slimmed_text, slots_text, desk_text, read_text, byte_line_text, written_text, listed_text, found_counts_text, other_counts_text, last_counts_text, season_text}
use Rattle.season.specs.declared.Report.{Report}

module _ {out a : List ℕ} {at n : ℕ} where
  pub barred_is : (ws : List ℕ) → Put out at (bytes " / ") a n → {b : List ℕ} {m : ℕ} → Put a n (words_text ws) b m → Put out at (barred_text ws) b m
  unfolding barred_text
  barred_is ws p q = then {a = bytes " / "} p q

  pub barred_bytes_are : (bs : List ℕ) → Put out at (bytes " / ") a n → {b : List ℕ} {m : ℕ} → Put a n (bytes_text bs) b m → Put out at (barred_bytes_text bs) b m
  unfolding barred_bytes_text
  barred_bytes_are bs p q = then {a = bytes " / "} p q

  pub verdict_good : {b : Bool} → b ≡ true → Put out at (bytes "\n") a n → Put out at (verdict_text b) a n
  verdict_good e p = rw e p

  pub verdict_bad : {b : Bool} → b ≡ false → Put out at (bytes " buffers\n") a n → Put out at (verdict_text b) a n
  verdict_bad e p = rw e p

  pub lists_are : (first second : List ℕ) (intact : Bool) → Put out at (barred_text first) a n → {b : List ℕ} {m : ℕ} → Put a n (barred_text second) b m
      → {c : List ℕ} {k : ℕ} → Put b m (verdict_text intact) c k → Put out at (lists_text first second intact) c k
  unfolding lists_text
  lists_are first second intact p q r = then (then p q) r

  pub first_are : (o : Outcome) → Put out at (bytes "status " ++ decimal_text o.status) a n → {b : List ℕ} {m : ℕ} → Put a n (bytes " place " ++ decimal_text o.place) b m
      → {c : List ℕ} {k : ℕ} → Put b m (bytes " proof " ++ decimal_text o.proof) c k → Put out at (first_numbers_text o) c k
  unfolding first_numbers_text
  first_are o p q r =
      then {a = bytes "status " ++ decimal_text o.status ++ (bytes " place " ++ decimal_text o.place)} (then {a = bytes "status " ++ decimal_text o.status} p q) r

  pub last_are : (o : Outcome) → Put out at (bytes " disjuncts " ++ decimal_text o.disjuncts) a n → {b : List ℕ} {m : ℕ} → Put a n (bytes " answer " ++ decimal_text o.answer) b m
      → {c : List ℕ} {k : ℕ} → Put b m (bytes " tries " ++ decimal_text o.tries) c k → Put out at (last_numbers_text o) c k
  unfolding last_numbers_text
  last_are o p q r =
      then {a = bytes " disjuncts " ++ decimal_text o.disjuncts ++ (bytes " answer " ++ decimal_text o.answer)} (then {a = bytes " disjuncts " ++ decimal_text o.disjuncts} p q) r

  pub outcome_is : (o : Outcome) (steps : ℕ) (proof answer work : List ℕ) → Put out at (first_numbers_text o) a n → {b : List ℕ} {m : ℕ} → Put a n (last_numbers_text o) b m
      → {w : ℕ} → w ≡ o.answer → {front-steps front-words rest-steps rest-words : List ℕ}
      → front-steps ≡ take steps proof → front-words ≡ take w answer → rest-steps ≡ drop steps proof → rest-words ≡ drop w answer
      → {intact : Bool} → intact ≡ kept o.status rest-steps rest-words work
      → {c : List ℕ} {k : ℕ} → Put b m (lists_text front-steps front-words intact) c k → Put out at (outcome_text o steps proof answer work) c k
  unfolding outcome_text
  outcome_is o steps proof answer work p q ew fs fw rs rw' ei r = then (then p q) (rw (ei, fs, fw, rs, rw', ew) at r)

  pub least_is : (bound : ℕ) (o : Outcome) (steps : ℕ) (proof answer work : List ℕ) → Put out at (bytes "bound " ++ decimal_text bound) a n
      → {b : List ℕ} {m : ℕ} → Put a n (bytes " ") b m → {c : List ℕ} {k : ℕ} → Put b m (outcome_text o steps proof answer work) c k
      → Put out at (least_text bound o steps proof answer work) c k
  unfolding least_text
  least_is bound o steps proof answer work p q r =
      then {a = bytes "bound " ++ decimal_text bound ++ bytes " "} (then {a = bytes "bound " ++ decimal_text bound} p q) r

  pub found_is : (s : ℕ) (ws : List ℕ) → Put out at (bytes "start " ++ decimal_text s) a n
      → {l : ℕ} → l ≡ min (length ws) 4294967295 → {b : List ℕ} {m : ℕ} → Put a n (bytes " length " ++ decimal_text l) b m
      → {c : List ℕ} {k : ℕ} → Put b m (barred_text ws) c k → {d : List ℕ} {j : ℕ} → Put c k (bytes "\n") d j → Put out at (found_text s ws) d j
  unfolding found_text
  found_is s ws p e q r u =
      then {a = bytes "start " ++ decimal_text s ++ (bytes " length " ++ decimal_text (min (length ws) 4294967295)) ++ barred_text ws}
      (then {a = bytes "start " ++ decimal_text s ++ (bytes " length " ++ decimal_text (min (length ws) 4294967295))} (then {a = bytes "start " ++ decimal_text s} p (rw e at q)) r) u

  pub clause_none : (s : ℕ) (ws : List ℕ) → length ws ≡ 0 → Put out at (bytes "start - length 0 / -\n") a n → Put out at (clause_text s ws) a n
  unfolding clause_text
  clause_none s [] e p = p
  clause_none s (w ∷ ws) e p = absurd (omega arith)

  pub clause_some : (s : ℕ) (ws : List ℕ) → (length ws ≡ 0 → ⊥) → Put out at (found_text s ws) a n → Put out at (clause_text s ws) a n
  unfolding clause_text
  clause_some s [] e p = absurd (e refl)
  clause_some s (w ∷ ws) e p = p

  pub counted_is : (status place : ℕ) (name : List ℕ) (count : ℕ) → Put out at (bytes "status " ++ decimal_text status) a n
      → {b : List ℕ} {m : ℕ} → Put a n (bytes " place " ++ decimal_text place) b m → {c : List ℕ} {k : ℕ} → Put b m (name ++ decimal_text count) c k
      → Put out at (counted_text status place name count) c k
  unfolding counted_text
  counted_is status place name count p q r =
      then {a = bytes "status " ++ decimal_text status ++ (bytes " place " ++ decimal_text place)} (then {a = bytes "status " ++ decimal_text status} p q) r

  pub slimmed_is : (status place words clauses : ℕ) (file numbers : List ℕ) → Put out at (counted_text status place (bytes " words ") words) a n
      → {b : List ℕ} {m : ℕ} → Put a n (bytes " clauses " ++ decimal_text clauses) b m → {long many : ℕ} → long ≡ words → many ≡ clauses
      → {front-file front-numbers rest-file rest-numbers : List ℕ}
      → front-file ≡ take long file → front-numbers ≡ take many numbers → rest-file ≡ drop long file → rest-numbers ≡ drop many numbers
      → {intact : Bool} → intact ≡ both_untouched rest-file rest-numbers
      → {c : List ℕ} {k : ℕ} → Put b m (lists_text front-file front-numbers intact) c k → Put out at (slimmed_text status place words clauses file numbers) c k
  unfolding slimmed_text
  slimmed_is status place words clauses file numbers p q el em ff fn rf rn ei r =
      then {a = counted_text status place (bytes " words ") words ++ (bytes " clauses " ++ decimal_text clauses)}
      (then p q) (rw (ei, ff, fn, rf, rn, el, em) at r)

  pub slots_are : (matinee evening either : ℕ) → Put out at (bytes " matinee " ++ decimal_text matinee) a n
      → {b : List ℕ} {m : ℕ} → Put a n (bytes " evening " ++ decimal_text evening) b m → {c : List ℕ} {k : ℕ} → Put b m (bytes " either " ++ decimal_text either) c k
      → Put out at (slots_text matinee evening either) c k
  unfolding slots_text
  slots_are matinee evening either p q r =
      then {a = bytes " matinee " ++ decimal_text matinee ++ (bytes " evening " ++ decimal_text evening)} (then {a = bytes " matinee " ++ decimal_text matinee} p q) r

  pub desk_is : (status matinee evening either : ℕ) → Put out at (bytes "status " ++ decimal_text status) a n
      → {b : List ℕ} {m : ℕ} → Put a n (slots_text matinee evening either) b m → {c : List ℕ} {k : ℕ} → Put b m (bytes "\n") c k
      → Put out at (desk_text status matinee evening either) c k
  unfolding desk_text
  desk_is status matinee evening either p q r =
      then {a = bytes "status " ++ decimal_text status ++ slots_text matinee evening either} (then {a = bytes "status " ++ decimal_text status} p q) r

  pub read_is : (status place words : ℕ) (file : List ℕ) → Put out at (counted_text status place (bytes " words ") words) a n → {long : ℕ} → long ≡ words
      → {front rest : List ℕ} → front ≡ take long file → rest ≡ drop long file → {intact : Bool} → intact ≡ all_are 0xA5A5A5A5 rest
      → {b : List ℕ} {m : ℕ} → Put a n (barred_text front) b m → {c : List ℕ} {k : ℕ} → Put b m (verdict_text intact) c k
      → Put out at (read_text status place words file) c k
  unfolding read_text
  read_is status place words file p el ff fr ei q r = then (then p (rw (ff, el) at q)) (rw (ei, fr, el) at r)

  pub byte_line_is : (status place count : ℕ) (text : List ℕ) (intact : Bool) → Put out at (counted_text status place (bytes " bytes ") count) a n → {long : ℕ} → long ≡ count
      → {front : List ℕ} → front ≡ take long text → {b : List ℕ} {m : ℕ} → Put a n (barred_bytes_text front) b m → {c : List ℕ} {k : ℕ} → Put b m (verdict_text intact) c k
      → Put out at (byte_line_text status place count text intact) c k
  unfolding byte_line_text
  byte_line_is status place count text intact p el ff q r = then (then p (rw (ff, el) at q)) r

  pub written_is : (status place count : ℕ) (text : List ℕ) {long : ℕ} → long ≡ count → {rest : List ℕ} → rest ≡ drop long text → {intact : Bool} → intact ≡ all_are 0xA5 rest
      → Put out at (byte_line_text status place count text intact) a n → Put out at (written_text status place count text) a n
  unfolding byte_line_text written_text
  written_is status place count text el fr ei p = rw (ei, fr, el) at p

  pub listed_is : (status place count : ℕ) (text work : List ℕ) {long : ℕ} → long ≡ count → {rest : List ℕ} → rest ≡ drop long text → {intact : Bool} → intact ≡ text_kept status rest work
      → Put out at (byte_line_text status place count text intact) a n → Put out at (listed_text status place count text work) a n
  unfolding byte_line_text listed_text
  listed_is status place count text work el fr ei p = rw (ei, fr, el) at p

  pub found_counts : (r : Report) → Put out at (counted_text r.status r.place (bytes " definite ") r.definite) a n
      → {b : List ℕ} {m : ℕ} → Put a n (bytes " indefinite " ++ decimal_text r.indefinite) b m → Put out at (found_counts_text r) b m
  unfolding found_counts_text
  found_counts r p q = then p q

  pub other_counts : (r : Report) → Put out at (bytes " none " ++ decimal_text r.none) a n
      → {b : List ℕ} {m : ℕ} → Put a n (bytes " ranout " ++ decimal_text r.ranout) b m
      → {c : List ℕ} {k : ℕ} → Put b m (bytes " toolong " ++ decimal_text r.toolong) c k → Put out at (other_counts_text r) c k
  unfolding other_counts_text
  other_counts r p q u =
      then {a = bytes " none " ++ decimal_text r.none ++ (bytes " ranout " ++ decimal_text r.ranout)} (then {a = bytes " none " ++ decimal_text r.none} p q) u

  pub last_counts : (r : Report) → Put out at (bytes " refused " ++ decimal_text r.refused) a n
      → {b : List ℕ} {m : ℕ} → Put a n (bytes " tries " ++ long_decimal_text r.tries) b m → Put out at (last_counts_text r) b m
  unfolding last_counts_text
  last_counts r p q = then {a = bytes " refused " ++ decimal_text r.refused} p q

  pub season_is : (r : Report) (proof answer work : List ℕ) → Put out at (found_counts_text r) a n → {b : List ℕ} {m : ℕ} → Put a n (other_counts_text r) b m
      → {c : List ℕ} {k : ℕ} → Put b m (last_counts_text r) c k → {steps words : ℕ} → steps ≡ written proof → words ≡ written answer
      → {front-steps front-words : List ℕ} → front-steps ≡ take steps proof → front-words ≡ take words answer
      → {intact : Bool} → intact ≡ work_kept r.status work
      → {d : List ℕ} {j : ℕ} → Put c k (lists_text front-steps front-words intact) d j → Put out at (season_text r proof answer work) d j
  unfolding season_text
  season_is r proof answer work p q u es ew fs fw ei v = then (then (then p q) u) (rw (ei, fs, fw, es, ew) at v)

pub ruleset line_laws = (counted_is, byte_line_is, written_is, listed_is, slimmed_is, read_is, slots_are, desk_is, barred_is, barred_bytes_are, verdict_good, verdict_bad, lists_are, first_are, last_are, outcome_is, least_is, found_is, clause_none, clause_some, found_counts, other_counts, last_counts, season_is)
