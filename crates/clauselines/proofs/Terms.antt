-- Terms written from their words: one law for each outcome of the writers, with premises as the code has them.
use mathlib.Core.Path.{◌≡◌, refl, sym, ap, ◌∙◌}
use mathlib.Core.List.{List, [], ◌∷◌, ◌++◌, append_assoc}
use Prim.Native.Nat.{ℕ, suc, ◌+◌, ◌-◌, ◌*◌, ◌^◌, ◌≤◌, ◌<◌}
use native.Mathlib.Nat.{add-zero}
use native.Mathlib.Omega.{arith}
use mir.Syntax.{w64}
use mir.Val.{Fits}
use lib.ListN.{length, drop, get_or, length-append, length-drop}
use lib.Seq.{drop-drop, drop-append_seam, get_or-drop}
use Rattle.words.specs.Fields.{kind_of, number_of, symbol_of, arity_of, function_word}
use Rattle.words.proofs.Packed.{variable_kind, variable_number, function_kind, function_symbol, function_arity}
use Rattle.table.specs.Syntax.{Term, var, app, Terms, nil, ◌then◌, arity}
use Rattle.table.specs.Encode.{term_words, terms_words}
use Rattle.table.specs.Limits.{TermWithin, TermsWithin}
use Rattle.text.specs.Put.{Put}
use Rattle.text.specs.Digits.{decimal_text}
use Rattle.text.proofs.Putting.{Left, begin, finish, further, same_size, then as joined}
use Rattle.clauselines.specs.Lines.{term_text, arguments_text, further_text}
use Rattle.clauselines.specs.Writers.{StandAt, Wrote, TermHere, TermWritten, TermsHere, TermsWritten}
use Rattle.clauselines.specs.declared.line.Reached.{Reached}

-- words that stand at a place
module _ {own : List ℕ} {at : ℕ} where
  pub stand_front : (a b : List ℕ) → StandAt own at (a ++ b) → StandAt own at a
  stand_front a b s = record { rest = b ++ s.rest; begin = s.begin ∙ append_assoc a b s.rest }

  pub stand_on : (a b : List ℕ) → StandAt own at (a ++ b) → StandAt own (at + length a) b
  stand_on a b s = record {
    rest = s.rest;
    begin =
        sym (drop-drop (length a) at own)
        ∙ ap (λ (l : List ℕ). drop (length a) l) (s.begin ∙ append_assoc a b s.rest)
        ∙ drop-append_seam a (b ++ s.rest);
  }

  pub stand_word : {w : ℕ} {ws : List ℕ} → StandAt own at (w ∷ ws) → get_or own at 0 ≡ w
  stand_word s =
      ap (λ (n : ℕ). get_or own n 0) (sym (add-zero at)) ∙ sym (get_or-drop at own 0 0) ∙ ap (λ (l : List ℕ). get_or l 0 0) s.begin

  pub stand_in : {w : ℕ} {ws : List ℕ} → StandAt own at (w ∷ ws) → at < length own
  stand_in {w} {ws} s = let e = ap (λ (l : List ℕ). length l) s.begin in omega (arith, e, length-drop at own)

-- a term's word
first_word : (t : Term ℕ) → (ws : List ℕ) × (w : ℕ) × (term_words t ≡ w ∷ ws)
unfolding term_words
first_word (var x) = ([], x, refl)
first_word (app f ts) = (terms_words ts, function_word f (arity ts), refl)

pub term_in : {own : List ℕ} {at : ℕ} → TermHere own at → at < length own
term_in h = let w = first_word h.term in stand_in (rw w.2 at h.stands)

pub next_fits : {own : List ℕ} {at : ℕ} → TermHere own at → length own < 2 ^ 63 → Fits w64 (at + 1)
next_fits h k = record { fits = omega (arith, term_in h, k) }

pub arguments_fewer : {own : List ℕ} {at : ℕ} → TermHere own at → {t : ℕ} → 3 * (length own - at) ≡ t → 3 * (length own - (at + 1)) + 2 < t
arguments_fewer h e = omega (arith, e, term_in h)

module _ {own : List ℕ} {at : ℕ} where
  -- a function's word, and its arguments after it
  function-here : (f : ℕ) (ts : Terms ℕ) → TermWithin (app f ts) 1024 → StandAt own at (term_words (app f ts))
      → (kind_of (get_or own at 0) ≡ 1) × (symbol_of (get_or own at 0) ≡ f) × (arity_of (get_or own at 0) ≡ arity ts) × StandAt own (at + 1) (terms_words ts)
  unfolding term_words TermWithin
  function-here f ts h s =
      let small : arity ts < 2 ^ 3 = omega (arith, h.1) in
      rw (stand_word s) (
        function_kind f (arity ts) h.0 small,
        function_symbol f (arity ts) h.0 small,
        function_arity f (arity ts) h.0 small,
        stand_on (function_word f (arity ts) ∷ []) (terms_words ts) s,
      )

  variable_here : (x : ℕ) → TermWithin (var x) 1024 → StandAt own at (term_words (var x)) → (kind_of (get_or own at 0) ≡ 0) × (number_of (get_or own at 0) ≡ x)
  unfolding term_words TermWithin
  variable_here x h s =
      let small : x < 2 ^ 10 = omega (arith, h) in rw (stand_word s) (variable_kind x small, variable_number x small)

  module _ {q : ℕ} (e : q ≡ kind_of (get_or own at 0)) where
    pub term_variable : q ≡ 0 → {n : ℕ} → n ≡ number_of (get_or own at 0) → {out left : List ℕ} {from end : ℕ}
        → Put out from (88 ∷ decimal_text n) left end → TermWritten own at out from left (record { word = at + 1; byte = end })
    unfolding term_words term_text
    term_variable z {n} en {out} {left} {from} {end} p = record { told = written }
      where
        written : (t : Term ℕ) → TermWithin t 1024 → StandAt own at (term_words t) → Wrote at (term_words t) out from (term_text t) left (record { word = at + 1; byte = end })
        written (var x) h s = record { passed = refl; written = rw (sym (variable_here x h s).1, ← en) p }
        written (app f ts) h s = absurd (omega (arith, (function-here f ts h s).0, e, z))

    pub arguments_here : (q ≡ 0 → ⊥) → {a : ℕ} → a ≡ arity_of (get_or own at 0) → TermHere own at → TermsHere own (at + 1) a
    unfolding TermWithin
    arguments_here n {a} ea h = found h.term h.within h.stands
      where
        found : (t : Term ℕ) → TermWithin t 1024 → StandAt own at (term_words t) → TermsHere own (at + 1) a
        found (var x) h s = absurd (n (e ∙ (variable_here x h s).0))
        found (app f ts) h s = let k = function-here f ts h s in record { terms = ts; within = h.2; count = sym (ea ∙ k.2); stands = k.3 }

    pub term_function : (q ≡ 0 → ⊥) → {f : ℕ} → f ≡ symbol_of (get_or own at 0) → {a : ℕ} → a ≡ arity_of (get_or own at 0)
        → {out mid left : List ℕ} {from next : ℕ} → Put out from (102 ∷ decimal_text f) mid next
        → {r : Reached} → TermsWritten arguments_text own (at + 1) a mid next left r → TermWritten own at out from left r
    unfolding term_words term_text TermWithin
    term_function n {f} ef {a} ea {out} {mid} {left} {from} {next} p {r} w = record { told = written }
      where
        written : (t : Term ℕ) → TermWithin t 1024 → StandAt own at (term_words t) → Wrote at (term_words t) out from (term_text t) left r
        written (var x) h s = absurd (n (e ∙ (variable_here x h s).0))
        written (app g ts) h s =
            let k = function-here g ts h s in
            let v = w.told ts h.2 (sym (ea ∙ k.2)) k.3 in
            record { passed = omega (arith, v.passed); written = joined (rw (ef ∙ k.1) at p) v.written }

-- the text of arguments
module _ {own : List ℕ} {at many : ℕ} where
  pub arguments_none : many ≡ 0 → {out : List ℕ} {from : ℕ} → TermsWritten arguments_text own at many out from out (record { word = at; byte = from })
  unfolding terms_words arguments_text arity
  arguments_none z {out} {from} = record { told = written }
    where
      written : (ts : Terms ℕ) → TermsWithin ts 1024 → arity ts ≡ many → StandAt own at (terms_words ts) → Wrote at (terms_words ts) out from (arguments_text ts) out (record { word = at; byte = from })
      written nil h c s = record { passed = sym (add-zero at); written = finish (begin out from []) }
      written (t then ts) h c s = absurd (omega (arith, c, z))

  -- the first of some terms, and the others behind it
  module _ (some : many ≡ 0 → ⊥) where
    split : (ts : Terms ℕ) → TermsWithin ts 1024 → arity ts ≡ many → StandAt own at (terms_words ts)
        → (t : Term ℕ) × (us : Terms ℕ) × (ts ≡ (t then us)) × TermWithin t 1024 × TermsWithin us 1024 × (arity us ≡ many - 1) × StandAt own at (term_words t) × StandAt own (at + length (term_words t)) (terms_words us)
    unfolding terms_words TermsWithin arity
    split nil h c s = absurd (some (sym c))
    split (t then us) h c s = (t, us, refl, h.0, h.1, omega (arith, c), stand_front (term_words t) (terms_words us) s, stand_on (term_words t) (terms_words us) s)

    pub first_here : TermsHere own at many → TermHere own at
    first_here h = let k = split h.terms h.within h.count h.stands in record { term = k.0; within = k.3; stands = k.6 }

    module _ {mid later : List ℕ} {from : ℕ} {r : Reached} (w : TermWritten own at mid from later r) where
      pub others_here : TermsHere own at many → TermsHere own r.word (many - 1)
      others_here h =
          let k = split h.terms h.within h.count h.stands in
          record { terms = k.1; within = k.4; count = k.5; stands = rw (w.told k.0 k.3 k.6).passed k.7 }

      pub term_onward : TermsHere own at many → at < r.word
      term_onward h =
          let k = split h.terms h.within h.count h.stands in
          let f = first_word k.0 in
          let some : length (term_words k.0) ≡ suc (length f.0) = ap (λ (l : List ℕ). length l) f.2 in
          omega (arith, some, (w.told k.0 k.3 k.6).passed)

      pub same_length : TermsHere own at many → length later ≡ length mid
      same_length h = let k = split h.terms h.within h.count h.stands in same_size (w.told k.0 k.3 k.6).written

      -- fewer words are left, in the measure of the writers' calls
      pub others_fewer : TermsHere own at many → {t : ℕ} → 3 * (length own - at) + 2 ≡ t → 3 * (length own - r.word) + 1 < t
      others_fewer h e = omega (arith, e, term_onward h)

      pub arguments_some : {out : List ℕ} {start : ℕ} → Put out start (40 ∷ []) mid from
          → {left : List ℕ} {l : Reached} → TermsWritten further_text own r.word (many - 1) later r.byte left l
          → TermsWritten arguments_text own at many out start left l
      unfolding terms_words arguments_text
      arguments_some {out} {start} p {left} {l} v = record { told = written }
        where
          written : (ts : Terms ℕ) → TermsWithin ts 1024 → arity ts ≡ many → StandAt own at (terms_words ts) → Wrote at (terms_words ts) out start (arguments_text ts) left l
          written ts h c s =
              let k = split ts h c s in
              let head = w.told k.0 k.3 k.6 in
              let tail = v.told k.1 k.4 k.5 (rw head.passed k.7) in
              rw k.2 (record {
                passed = omega (arith, head.passed, tail.passed, length-append (term_words k.0) (terms_words k.1));
                written = joined p (joined head.written tail.written);
              })

-- further arguments: so many are still owed
pub record Owing (own : List ℕ) (next owed last : ℕ) (first : List ℕ) (from : ℕ) (whole out : List ℕ) (end : ℕ) : Type 0 where
  pub terms : Terms ℕ
  pub within : TermsWithin terms 1024
  pub count : arity terms ≡ owed
  pub stands : StandAt own next (terms_words terms)
  pub ends : last ≡ next + length (terms_words terms)
  pub left : Left first from whole out end (further_text terms)

pub record Going (own : List ℕ) (at many : ℕ) (first : List ℕ) (from next owed : ℕ) (out : List ℕ) (end : ℕ) : Type 0 where
  pub onward : at ≤ next
  pub size : length out ≡ length first
  pub here : TermsHere own next owed
  pub told : (ts : Terms ℕ) → TermsWithin ts 1024 → arity ts ≡ many → StandAt own at (terms_words ts)
      → Owing own next owed (at + length (terms_words ts)) first from (further_text ts) out end

module _ {own : List ℕ} {at many : ℕ} {first : List ℕ} {from : ℕ} where
  pub going_begin : TermsHere own at many → Going own at many first from at many first from
  going_begin h = record {
    onward = omega arith;
    size = refl;
    here = h;
    told = λ ts w c s. record { terms = ts; within = w; count = c; stands = s; ends = refl; left = begin first from (further_text ts) };
  }

  module _ {next owed : ℕ} {out : List ℕ} {end : ℕ} (g : Going own at many first from next owed out end) where
    pub going_done : owed ≤ 0 → {left : List ℕ} {last : ℕ} → Put out end (41 ∷ []) left last
        → TermsWritten further_text own at many first from left (record { word = next; byte = last })
    unfolding terms_words further_text arity
    going_done z {left} {last} p = record { told = λ ts w c s. written ts (g.told ts w c s) }
      where
        written : (ts : Terms ℕ) → Owing own next owed (at + length (terms_words ts)) first from (further_text ts) out end
            → Wrote at (terms_words ts) first from (further_text ts) left (record { word = next; byte = last })
        written ts o = closed o.terms o.count o.ends o.left
          where
            closed : (us : Terms ℕ) → arity us ≡ owed → at + length (terms_words ts) ≡ next + length (terms_words us) → Left first from (further_text ts) out end (further_text us)
                → Wrote at (terms_words ts) first from (further_text ts) left (record { word = next; byte = last })
            closed nil c e l = record { passed = omega (arith, e); written = finish (further (41 ∷ []) [] l p) }
            closed (u then us) c e l = absurd (omega (arith, c, z))

    module _ (some : 0 < owed) where
      owed-some : owed ≡ 0 → ⊥
      owed-some z = omega arith

      pub going_here : TermHere own next
      going_here = first_here owed-some g.here

      one-less : {mid : List ℕ} {comma : ℕ} → Put out end (44 ∷ []) mid comma → {later : List ℕ} {r : Reached} → TermWritten own next mid comma later r
          → Going own at many first from r.word (owed - 1) later r.byte
      unfolding terms_words further_text
      one-less {mid} {comma} p {later} {r} w = record {
        onward = omega (arith, g.onward, term_onward owed-some w g.here);
        size = same_length owed-some w g.here ∙ same_size p ∙ g.size;
        here = others_here owed-some w g.here;
        told = λ ts h c s. on ts (g.told ts h c s);
      }
        where
          on : (ts : Terms ℕ) → Owing own next owed (at + length (terms_words ts)) first from (further_text ts) out end
              → Owing own r.word (owed - 1) (at + length (terms_words ts)) first from (further_text ts) later r.byte
          on ts o =
              let k = split owed-some o.terms o.within o.count o.stands in
              let head = w.told k.0 k.3 k.6 in
              let whole : terms_words o.terms ≡ term_words k.0 ++ terms_words k.1 = ap (λ (us : Terms ℕ). terms_words us) k.2 in
              let rest = ap (λ (us : Terms ℕ). further_text us) k.2 in
              record {
                terms = k.1;
                within = k.4;
                count = k.5;
                stands = rw head.passed k.7;
                ends = omega (arith, o.ends, head.passed, ap (λ (l : List ℕ). length l) whole, length-append (term_words k.0) (terms_words k.1));
                left = further (44 ∷ term_text k.0) (further_text k.1) (rw rest at o.left) (joined p head.written);
              }

      pub going_next : {left : ℕ} → left ≡ owed - 1 → {mid : List ℕ} {comma : ℕ} → Put out end (44 ∷ []) mid comma → {later : List ℕ} {r : Reached}
          → TermWritten own next mid comma later r → Going own at many first from r.word left later r.byte
      going_next e p w = rw e (one-less p w)

pub ruleset term_laws = (term_in, next_fits, arguments_fewer, term_variable, arguments_here, term_function, arguments_none, first_here, others_here, others_fewer, arguments_some, going_begin, going_done, going_here, going_next)
