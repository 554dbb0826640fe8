-- The outcomes of reading literals and of judging a clause, one law for each, with premises as the code has them.
use mathlib.Core.Path.{◌≡◌, refl, sym, ◌∙◌}
use mathlib.Core.Bool.{Bool, true, false}
use mathlib.Core.List.{List, [], ◌∷◌}
use Prim.Native.Nat.{ℕ, suc, ◌+◌, ◌-◌, ◌≤◌, ◌<◌}
use native.Mathlib.Nat.{add-zero}
use native.Mathlib.Numerals.{add-one}
use native.Mathlib.Omega.{arith}
use lib.ListN.{length, take, drop, get_or, drop_of_length-le, length-drop}
use lib.Seq.{length-take-le, take-nil, get_or-take}
use borrow.Author.Tests.{leb-true}
use Rattle.words.specs.Fingerprint.{mixed, word_bytes, bytes_of}
use Rattle.words.specs.Fields.{arity_of, literals_of, variables_of, following_of, literal_shaped, clause_shaped}
use Rattle.table.specs.Reading.{clause_fits, after_literal, after, stops_short, onward, fault, clause_fault}
use Rattle.table.specs.Readers.{goes_on, Lies, TermsRead, LiteralRead, LiteralsRead, WholeWords, FaultyWords, WordsJudged, IsMalformed, Judged}
use Rattle.std.specs.Prelude.{Result, Ok, Err}
use Rattle.table.specs.declared.read.Reached.{Reached}
use Rattle.table.proofs.Bools.{and_right}
use Rattle.table.proofs.Mixing.{mixed_step, mixed_end, mixed_part}
use Rattle.table.proofs.Terms.{from_place, further, mixes_after}

module _ {v : ℕ} {own : List ℕ} {at h : ℕ} where
  pub literal_missing : length own ≤ at → at ≤ length own → LiteralRead v own at h (Err at)
  unfolding fault stops_short
  literal_missing n k = record { faults = λ l. rw (drop_of_length-le own n); lies = k; mixes = tt }

  module _ (n : at < length own) {q : Bool} (e : q ≡ literal_shaped (get_or own at 0)) where
    pub literal_wrong : q ≡ false → LiteralRead v own at h (Err at)
    unfolding fault onward after after_literal
    literal_wrong p = record { faults = λ l. rw (from_place own at n, sym e ∙ p); lies = omega arith; mixes = tt }

    pub literal_read : q ≡ true → {a : ℕ} → a ≡ arity_of (get_or own at 0) → {p : Reached} → p ≡ further own at h → {r : Result Reached ℕ} → TermsRead v own p.at a p.hash r → LiteralRead v own at h r
    unfolding fault onward after after_literal
    literal_read t {a} ea {p} ep {r} read' =
        let read : TermsRead v own (at + 1) a (mixed h (word_bytes (get_or own at 0))) r = rw ep at read' in
        record {
          faults = λ l. rw (from_place own at n, sym e ∙ t, ← ea) (rw add-zero at (read.faults l 0));
          lies = lower r read.lies;
          mixes = mixes_after own at n h r read.mixes;
        }
      where
        lower : (r : Result Reached ℕ) → Lies (at + 1) (length own) r → Lies at (length own) r
        lower (Ok reached) k = (omega arith, k.1)
        lower (Err place) k = k

-- how far the reading of so many literals has come: so many are left from the next place on
pub record GoingLiterals (v : ℕ) (own : List ℕ) (many hash next left h : ℕ) : Type 0 where
  pub from : 1 ≤ next
  pub within : next ≤ length own
  pub same : fault v many 0 1 (drop 1 own) ≡ fault v left 0 next (drop next own)
  pub mixing : mixed hash (bytes_of (drop 1 own)) ≡ mixed h (bytes_of (drop next own))

module _ {v : ℕ} {own : List ℕ} {many hash : ℕ} where
  pub literals_begin : 1 ≤ length own → GoingLiterals v own many hash 1 many hash
  literals_begin n = record { from = omega arith; within = n; same = refl; mixing = refl }

  module _ {next left h : ℕ} (g : GoingLiterals v own many hash next left h) where
    pub literals_done : left ≤ 0 → {r : Reached} → r ≡ record { at = next; hash = h } → LiteralsRead v own many hash (Ok r)
    literals_done n {r} e =
        let z : left ≡ 0 = omega arith in
        rw e (record { faults = rw z at g.same; lies = (g.from, g.within); mixes = g.mixing })

    module _ (some : 0 < left) where
      one_fewer : {r : Result Reached ℕ} → LiteralRead v own next h r → fault v many 0 1 (drop 1 own) ≡ goes_on v own (left - 1) 0 r
      one_fewer read = let z : left ≡ suc (left - 1) = omega arith in rw z at g.same ∙ read.faults (left - 1)

      pub literals_wrong : {place : ℕ} → LiteralRead v own next h (Err place) → LiteralsRead v own many hash (Err place)
      literals_wrong read = record { faults = one_fewer read; lies = read.lies; mixes = tt }

      pub literals_next : {p : Reached} → LiteralRead v own next h (Ok p) → GoingLiterals v own many hash p.at (left - 1) p.hash
      literals_next read =
          record { from = omega (arith, g.from, read.lies.0); within = read.lies.1; same = one_fewer read; mixing = g.mixing ∙ read.mixes }

pub ruleset literals_laws = (literal_missing, literal_wrong, literal_read, literals_begin, literals_done, literals_wrong, literals_next)

module _ {own : List ℕ} {v n h : ℕ} (ev : v ≡ variables_of (get_or own 0 0)) (en : n ≡ literals_of (get_or own 0 0)) where
  read_through : {r : Result Reached ℕ} → LiteralsRead v own n h r → fault (variables_of (get_or own 0 0)) (literals_of (get_or own 0 0)) 0 1 (drop 1 own) ≡ goes_on v own 0 0 r
  read_through read = rw (← ev, ← en) read.faults

  pub words_wrong : {place : ℕ} → LiteralsRead v own n h (Err place) → FaultyWords own place
  words_wrong read = record { faulty = read_through read; fits = read.lies }

  module _ {p : Reached} (read : LiteralsRead v own n h (Ok p)) where
    pub words_left_over : p.at < length own → FaultyWords own p.at
    unfolding fault onward after
    words_left_over m = record { faulty = rw (from_place own p.at m) at (read_through read); fits = omega arith }

    pub words_whole : length own ≤ p.at → 1 ≤ length own → {hash : ℕ} → h ≡ mixed hash (word_bytes (get_or own 0 0)) → WholeWords own hash p.at p.hash
    unfolding fault stops_short
    words_whole m begins {hash} eh =
        record {
          sound = rw (drop_of_length-le own m) at (read_through read);
          counts = omega (arith, read.lies.1);
          mixes = sym (mixed_step own 0 (omega arith) hash eh ∙ read.mixes ∙ mixed_end own p.at m p.hash);
        }

pub ruleset words_laws = (words_wrong, words_left_over, words_whole)

-- the words after a clause's own, of the clause's words and of the part that they begin
after_own : (part : List ℕ) (n : ℕ) → drop 1 (take (n + 1) part) ≡ take n (drop 1 part)
after_own [] n = rw (add-one, take-nil)
after_own (w ∷ ws) n = rw add-one

first_own : (part : List ℕ) (n : ℕ) → get_or (take (n + 1) part) 0 0 ≡ get_or part 0 0
first_own part n = get_or-take (n + 1) part 0 0 (omega arith)

module _ (part : List ℕ) where
  module _ {s : Bool} (es : s ≡ clause_fits (get_or part 0 0) (drop 1 part)) where
    pub clause_unfit : s ≡ false → IsMalformed part 0
    unfolding clause_fault
    clause_unfit p = record { faulty = rw (sym es ∙ p); fits = omega arith }

    module _ (p : s ≡ true) {f g : ℕ} (ef : f ≡ following_of (get_or part 0 0)) (eg : g ≡ f) where
      held : following_of (get_or part 0 0) ≤ length (drop 1 part)
      held = leb-true _ _ (and_right (clause_shaped (get_or part 0 0)) _ (sym es ∙ p))

      clause-held : 1 ≤ length part → g + 1 ≤ length part
      clause-held h = let k : following_of (get_or part 0 0) ≤ length part - 1 = rw length-drop at held in omega arith

      pub own_length : 1 ≤ length part → g + 1 ≡ length (take (g + 1) part)
      own_length h = sym (length-take-le (g + 1) part (clause-held h))

      pub own_begins : 1 ≤ length part → 1 ≤ length (take (g + 1) part)
      own_begins h = omega (arith, own_length h)

      fault-own : clause_fault (get_or part 0 0) (drop 1 part) ≡ fault (variables_of (get_or (take (g + 1) part) 0 0)) (literals_of (get_or (take (g + 1) part) 0 0)) 0 1 (drop 1 (take (g + 1) part))
      unfolding clause_fault
      fault-own = rw (sym es ∙ p, first_own part g, after_own part g, eg, ef)

      pub judged : 1 ≤ length part → (hash : ℕ) (r : Result Reached ℕ) → WordsJudged (take (g + 1) part) hash r → Judged part hash r
      judged h hash (Ok p) j =
          let n : p.at ≡ g + 1 = omega (arith, j.counts, own_length h) in
          record {
            sound = fault-own ∙ j.sound;
            counts = omega (arith, j.counts, own_length h);
            fits = omega (arith, j.counts, own_length h, clause-held h);
            mixes = rw (n, j.mixes) (mixed_part (g + 1) part hash);
          }
      judged h hash (Err place) j =
          record { faulty = fault-own ∙ j.faulty; fits = omega (arith, j.fits, own_length h, clause-held h) }

pub ruleset clause_laws = (clause_unfit, own_length, own_begins, judged)
