-- The outcomes of reading terms, one law for each, with premises as the code has them.
use mathlib.Core.Path.{◌≡◌, refl, sym, ◌∙◌}
use mathlib.Core.Bool.{Bool, true, false}
use mathlib.Core.List.{List, ◌∷◌}
use Prim.Native.Nat.{ℕ, suc, ◌+◌, ◌-◌, ◌≤◌, ◌<◌}
use native.Mathlib.Nat.{zero-add}
use native.Mathlib.Numerals.{add-one}
use native.Mathlib.Omega.{arith}
use lib.ListN.{length, drop, get_or, drop_of_length-le}
use lib.Seq.{drop-cons}
use Rattle.words.specs.Fingerprint.{mixed, word_bytes, bytes_of}
use Rattle.words.specs.Fields.{arity_of, function_shaped}
use Rattle.table.proofs.Mixing.{mixed_step}
use Rattle.table.specs.Reading.{variable_fits, term_arity, after_term, after, stops_short, onward, fault}
use Rattle.table.specs.Readers.{goes_on, Mixes, TermRead, TermsRead}
use Rattle.std.specs.Prelude.{Result, Ok, Err}
use Rattle.table.specs.declared.read.Reached.{Reached}

-- a list from a place on: the word there, and the list from the next place on
pub from_place : (own : List ℕ) (at : ℕ) → at < length own → drop at own ≡ get_or own at 0 ∷ drop (at + 1) own
from_place own at h = rw (add-one, drop-cons own at 0 h)

-- the reading with a further word read
abbrev pub further : List ℕ → ℕ → ℕ → Reached
further own at h = record { at = at + 1; hash = mixed h (word_bytes (get_or own at 0)) }

-- a word's bytes mixed in, then what is read after it
pub mixes_after : (own : List ℕ) (at : ℕ) → at < length own → (h : ℕ) → (r : Result Reached ℕ) → Mixes own (at + 1) (mixed h (word_bytes (get_or own at 0))) r → Mixes own at h r
mixes_after own at l h (Ok reached) rest = mixed_step own at l h refl ∙ rest
mixes_after own at l h (Err place) rest = tt

module _ {v : ℕ} {own : List ℕ} {at h : ℕ} where
  pub term_missing : length own ≤ at → at ≤ length own → TermRead v own at h (Err at)
  unfolding fault stops_short
  term_missing n k = record { faults = λ l t. rw (drop_of_length-le own n); lies = k; mixes = tt }

  module _ (n : at < length own) where
    pub term_variable : {q : Bool} → q ≡ variable_fits v (get_or own at 0) → q ≡ true → {p : Reached} → p ≡ further own at h → TermRead v own at h (Ok p)
    unfolding fault onward after after_term term_arity
    term_variable e t {p} ep =
        rw ep (record {
          faults = λ l t'. rw (from_place own at n, sym e ∙ t, zero-add);
          lies = (omega arith, omega arith);
          mixes = mixed_step own at n h refl;
        })

    module _ {q : Bool} (e : q ≡ variable_fits v (get_or own at 0)) (f : q ≡ false) {s : Bool} (es : s ≡ function_shaped (get_or own at 0)) where
      pub term_function : s ≡ true → {a : ℕ} → a ≡ arity_of (get_or own at 0) → {p : Reached} → p ≡ further own at h → {r : Result Reached ℕ} → TermsRead v own p.at a p.hash r → TermRead v own at h r
      unfolding fault onward after after_term term_arity
      term_function t {a} ea {p} ep {r} read =
          let read' : TermsRead v own (at + 1) a (mixed h (word_bytes (get_or own at 0))) r = rw ep at read in
          record {
            faults = λ l t'. rw (from_place own at n, sym e ∙ f, sym es ∙ t, ← ea) (read'.faults l t');
            lies = rw add-one at read'.lies;
            mixes = mixes_after own at n h r read'.mixes;
          }

      pub term_wrong : s ≡ false → TermRead v own at h (Err at)
      unfolding fault onward after after_term term_arity
      term_wrong t =
          record { faults = λ l t'. rw (from_place own at n, sym e ∙ f, sym es ∙ t); lies = omega arith; mixes = tt }

-- how far the reading of so many terms has come: so many are left from the next place on
pub record Going (v : ℕ) (own : List ℕ) (at many hash next left h : ℕ) : Type 0 where
  pub from : at ≤ next
  pub within : next ≤ length own
  pub same : (l t : ℕ) → fault v l (many + t) at (drop at own) ≡ fault v l (left + t) next (drop next own)
  pub mixing : mixed hash (bytes_of (drop at own)) ≡ mixed h (bytes_of (drop next own))

module _ {v : ℕ} {own : List ℕ} {at many hash : ℕ} where
  pub terms_begin : at ≤ length own → Going v own at many hash at many hash
  terms_begin n = record { from = omega arith; within = n; same = λ l t. refl; mixing = refl }

  module _ {next left h : ℕ} (g : Going v own at many hash next left h) where
    pub terms_done : left ≤ 0 → {r : Reached} → r ≡ record { at = next; hash = h } → TermsRead v own at many hash (Ok r)
    terms_done n {r} e =
        rw e (record {
          faults = λ l t. let z : left + t ≡ t = omega arith in rw z at (g.same l t);
          lies = (g.from, g.within);
          mixes = g.mixing;
        })

    module _ (some : 0 < left) where
      one_fewer : {r : Result Reached ℕ} → TermRead v own next h r → (l t : ℕ) → fault v l (many + t) at (drop at own) ≡ goes_on v own l (left - 1 + t) r
      one_fewer read l t =
          let z : left + t ≡ suc (left - 1 + t) = omega arith in rw z at (g.same l t) ∙ read.faults l (left - 1 + t)

      pub terms_wrong : {place : ℕ} → TermRead v own next h (Err place) → TermsRead v own at many hash (Err place)
      terms_wrong read = record { faults = λ l t. one_fewer read l t; lies = read.lies; mixes = tt }

      pub terms_next : {p : Reached} → TermRead v own next h (Ok p) → Going v own at many hash p.at (left - 1) p.hash
      terms_next read =
          record {
            from = omega (arith, g.from, read.lies.0);
            within = read.lies.1;
            same = λ l t. one_fewer read l t;
            mixing = g.mixing ∙ read.mixes;
          }

      pub terms_nearer : {p : Reached} → TermRead v own next h (Ok p) → next < length own → length own - p.at < length own - next
      terms_nearer read n = omega (arith, read.lies.0)

      pub terms_missing : length own ≤ next → TermsRead v own at many hash (Err next)
      terms_missing n = terms_wrong (term_missing n g.within)

      module _ (n : next < length own) {q : Bool} (e : q ≡ variable_fits v (get_or own next 0)) where
        pub terms_variable : q ≡ true → {p : Reached} → p ≡ further own next h → Going v own at many hash p.at (left - 1) p.hash
        terms_variable t ep = terms_next (term_variable n e t ep)

        module _ (f : q ≡ false) {s : Bool} (es : s ≡ function_shaped (get_or own next 0)) where
          pub terms_misfit : s ≡ false → TermsRead v own at many hash (Err next)
          terms_misfit t = terms_wrong (term_wrong n e f es t)

          -- a term passed where it stands: its arguments join the terms left
          pub terms_joined : s ≡ true → {a : ℕ} → a ≡ arity_of (get_or own next 0) → {p : Reached} → p ≡ further own next h → Going v own at many hash p.at (left - 1 + a) p.hash
          unfolding fault onward after after_term term_arity
          terms_joined t {a} ea {p} ep =
              rw ep (record {
                from = omega (arith, g.from);
                within = omega arith;
                same = λ l t'.
                    let z : left + t' ≡ suc (left - 1 + t') = omega arith in
                    let y : a + (left - 1 + t') ≡ left - 1 + a + t' = omega arith in
                    rw (← y) (rw (z, from_place own next n, sym e ∙ f, sym es ∙ t, ← ea) at (g.same l t'));
                mixing = g.mixing ∙ mixed_step own next n h refl;
              })

pub ruleset terms_laws = (term_missing, term_variable, term_function, term_wrong, terms_begin, terms_done, terms_wrong, terms_next, terms_nearer, terms_missing, terms_variable, terms_misfit, terms_joined)
