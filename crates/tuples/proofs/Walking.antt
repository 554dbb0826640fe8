-- A question's words and a disjunct's side by side, with premises as the code has them.
use mathlib.Core.Bool.{Bool, true, false}
use mathlib.Core.List.{List, [], ◌∷◌, ◌++◌}
use mathlib.Core.Path.{◌≡◌, refl, sym, ap, ◌∙◌}
use Prim.Native.Nat.{ℕ, zero, suc, ◌+◌, ◌-◌, ◌*◌, ◌≤◌, ◌<◌, min}
use native.Mathlib.Numerals.{add-one}
use native.Mathlib.Omega.{arith, min_cases}
use mir.Syntax.{w64}
use mir.Val.{Fits}
use borrow.Author.Tests.{eq-eqb, ne_eqb}
use lib.Dec.{eqb}
use lib.ListN.{length, take, drop, get_or, length-drop, length-take, drop_of_length-le}
use lib.Seq.{drop-cons, drop-drop}
use Rattle.words.specs.Fields.{kind_of, number_of, arity_of, variables_of}
use Rattle.text.specs.Put.{Put}
use Rattle.text.specs.Quoted.{bytes}
use Rattle.text.proofs.Putting.{Left, begin, finish, further, then}
use Rattle.naming.specs.Shown.{Names, shown}
use Rattle.tuples.specs.Tuples.{span_of, width, is_next, values_in, after_in, tuples_in, comma_text, terms_text, open_text, each_text, tuples_text, line_text, answers_text, Walked}
use Rattle.tuples.specs.declared.Told.{Told}

-- a term's words
pub record Spanning (own : List ℕ) (terms at : ℕ) : Type 0 where
  pub same : span_of own 1 ≡ at + span_of (drop at own) terms
  pub few : terms ≤ 7 * at + 1

arity_few : (w : ℕ) → arity_of w ≤ 7
arity_few w = omega arith

module _ {own : List ℕ} where
  pub span_begin : Spanning own 1 0
  span_begin = record { same = omega arith; few = omega arith }

  module _ {terms at : ℕ} (inv : Spanning own terms at) where
    pub span_end : length own ≡ at → length own ≡ span_of own 1
    unfolding span_of
    span_end h = let e : length own ≤ at = omega arith in sym (inv.same ∙ rw (drop_of_length-le own e) (omega arith))

    module _ (h : at < length own) where
      pub span_stop : terms ≡ 0 → at ≡ span_of own 1
      unfolding span_of
      span_stop z = sym (inv.same ∙ rw (drop-cons own at 0 h, z) (omega arith))

      module _ (n : terms ≡ 0 → ⊥) {a b : ℕ} (e : a ≡ arity_of (get_or own at 0)) (w : b ≡ a) where
        pub span_fits : length own ≤ 4096 → Fits w64 (terms - 1 + b)
        span_fits s = record { fits = omega (arith, inv.few, arity_few (get_or own at 0)) }

        pub span_next : Spanning own (terms - 1 + b) (at + 1)
        unfolding span_of
        span_next = record {
          same = inv.same ∙ rw (add-one at, drop-cons own at 0 h, w, e) (go terms n);
          few = omega (arith, inv.few, arity_few (get_or own at 0));
        }
          where
            go : (t : ℕ) → (t ≡ 0 → ⊥) → at + span_of (get_or own at 0 ∷ drop (suc at) own) t ≡ suc at + span_of (drop (suc at) own) (t - 1 + arity_of (get_or own at 0))
            go zero m = absurd (m refl)
            go (suc t) m = let k : suc t - 1 ≡ t = omega arith in rw k (omega arith)

pub ruleset span_laws = (span_begin, span_end, span_stop, span_fits, span_next)

module _ (q : ℕ) {kind : ℕ} (e : kind ≡ kind_of q) where
  pub width_term : kind ≡ 0 → (own : List ℕ) {r : ℕ} → r ≡ span_of own 1 → r ≡ width q own
  unfolding width
  width_term z own g = rw (eq-eqb (kind_of q) 0 (sym e ∙ z)) g

  pub width_symbol : (kind ≡ 0 → ⊥) → (own : List ℕ) → 1 ≡ width q own
  unfolding width
  width_symbol n own = rw (ne_eqb (kind_of q) 0 (λ z. n (e ∙ z)))

  pub next_symbol : (kind ≡ 0 → ⊥) → (count : ℕ) → false ≡ is_next q count
  unfolding is_next
  next_symbol n count = rw (ne_eqb (kind_of q) 0 (λ z. n (e ∙ z)))

  pub next_variable : kind ≡ 0 → (count : ℕ) {m r : ℕ} → m ≡ number_of q → r ≡ m → eqb r count ≡ is_next q count
  unfolding is_next
  next_variable z count g w = rw (eq-eqb (kind_of q) 0 (sym e ∙ z), w, g)

-- nothing, a comma, a bracket
pub nothing_put : (out : List ℕ) (at : ℕ) → Put out at [] out at
nothing_put out at = finish (begin out at [])

module _ {before : ℕ} {out : List ℕ} {at : ℕ} where
  pub comma_none : before ≡ 0 → Put out at (comma_text before) out at
  comma_none z = rw z (nothing_put out at)

  module _ {out' : List ℕ} {end : ℕ} where
    pub comma_some : (before ≡ 0 → ⊥) → Put out at (44 ∷ []) out' end → Put out at (comma_text before) out' end
    comma_some n p = go before n
      where
        go : (b : ℕ) → (b ≡ 0 → ⊥) → Put out at (comma_text b) out' end
        go zero m = absurd (m refl)
        go (suc b) m = p

    pub open_first : before ≡ 0 → Put out at (91 ∷ []) out' end → Put out at (open_text before) out' end
    open_first z p = rw z p

    pub open_further : (before ≡ 0 → ⊥) → Put out at (124 ∷ 91 ∷ []) out' end → Put out at (open_text before) out' end
    open_further n p = go before n
      where
        go : (b : ℕ) → (b ≡ 0 → ⊥) → Put out at (open_text b) out' end
        go zero m = absurd (m refl)
        go (suc b) m = p

-- one disjunct
pub record Walking (names : Names) (question own : List ℕ) (from : ℕ) (first : List ℕ) (start : ℕ) (out : List ℕ) (count at byte i : ℕ) : Type 0 where
  pub text : Left first start (terms_text names 0 (values_in question 0 (drop from own))) out byte (terms_text names count (values_in (drop i question) count (drop at own)))
  pub rest : after_in question (drop from own) ≡ after_in (drop i question) (drop at own)
  pub inside : at ≤ length own
  pub counted : count ≤ i

drop_capped : (n : ℕ) (own : List ℕ) → drop (min n (length own)) own ≡ drop n own
drop_capped n own =
    min_cases n (length own) _
    (λ h m. let z : min n (length own) ≡ n = omega arith in rw z)
    (λ h m.
    let z : min n (length own) ≡ length own = omega arith in
    let all : length own ≤ length own = omega arith in
    let far : length own ≤ n = omega arith in
    rw z (drop_of_length-le own all ∙ sym (drop_of_length-le own far)))

pub left_short : (own : List ℕ) (at : ℕ) → length own ≤ 4096 → {left : List ℕ} → left ≡ drop at own → length left ≤ 4096
left_short own at s e = rw e (omega (arith, length-drop at own))

pub front_short : (left : List ℕ) (size : ℕ) → length left ≤ 4096 → {own : List ℕ} → own ≡ take size left → length own ≤ 4096
front_short left size s e = rw e (omega (arith, length-take size left))

module _ (names : Names) (question own : List ℕ) (from : ℕ) (first : List ℕ) (start : ℕ) where
  pub walk_begin : from ≤ length own → Walking names question own from first start first 0 from start 0
  walk_begin h = record { text = begin first start (terms_text names 0 (values_in question 0 (drop from own))); rest = refl; inside = h; counted = omega arith }

  module _ {out : List ℕ} {count at byte i : ℕ} (inv : Walking names question own from first start out count at byte i) where
    pub walk_end : length question ≤ i → Walked names question own from first start out (record { own = at; byte = byte })
    unfolding values_in terms_text after_in
    walk_end h = record {
      put = finish (rw (drop_of_length-le question h) at inv.text);
      rest = sym (inv.rest ∙ rw (drop_of_length-le question h));
      inside = inv.inside;
    }

    module _ (h : i < length question) {left : List ℕ} (l : left ≡ drop at own) {size : ℕ} (w : size ≡ width (get_or question i 0) left) {end : ℕ} (g : end ≡ min (at + size) (length own)) where
      size_is : size ≡ width (get_or question i 0) (drop at own)
      size_is = w ∙ ap (λ (x : List ℕ). width (get_or question i 0) x) l

      on : drop end own ≡ drop (width (get_or question i 0) (drop at own)) (drop at own)
      on = rw g (drop_capped (at + size) own) ∙ sym (drop-drop size at own) ∙ ap (λ (n : ℕ). drop n (drop at own)) size_is

      rest-on : after_in question (drop from own) ≡ after_in (drop (i + 1) question) (drop end own)
      unfolding after_in
      rest-on = inv.rest ∙ rw (add-one i, on, drop-cons question i 0 h)

      module _ {b : Bool} (n : b ≡ is_next (get_or question i 0) count) where
        pub walk_other : b ≡ false → Walking names question own from first start out count end byte (i + 1)
        unfolding values_in
        walk_other z =
            let no : is_next (get_or question i 0) count ≡ false = sym n ∙ z in
            let here : values_in (drop i question) count (drop at own) ≡ values_in (drop (i + 1) question) count (drop end own) = rw (add-one i, on, drop-cons question i 0 h, no) in
            record { text = rw here at inv.text; rest = rest-on; inside = omega (arith, g); counted = omega (arith, inv.counted) }

        module _ (z : b ≡ true) {own' : List ℕ} (f : own' ≡ take size left) {out' : List ℕ} {byte' : ℕ} (p : Put out byte (comma_text count ++ shown names 0 0 [] own') out' byte') where
          pub walk_value : Walking names question own from first start out' (count + 1) end byte' (i + 1)
          unfolding values_in terms_text
          walk_value =
              let so : is_next (get_or question i 0) count ≡ true = sym n ∙ z in
              let here : values_in (drop i question) count (drop at own) ≡ take (width (get_or question i 0) (drop at own)) (drop at own) ∷ values_in (drop (i + 1) question) (suc count) (drop end own) = rw (add-one i, on, drop-cons question i 0 h, so) in
              let same : own' ≡ take (width (get_or question i 0) (drop at own)) (drop at own) = rw (f, size_is, l) in
              record {
                text = rw (add-one count) (further (comma_text count ++ shown names 0 0 [] (take (width (get_or question i 0) (drop at own)) (drop at own)))
                    (terms_text names (suc count) (values_in (drop (i + 1) question) (suc count) (drop end own))) (rw here at inv.text) (rw same at p));
                rest = rest-on;
                inside = omega (arith, g);
                counted = omega (arith, inv.counted);
              }

pub ruleset walk_laws = (walk_begin, walk_end, walk_other, walk_value, left_short, front_short)

-- disjunct after disjunct
pub record Telling (names : Names) (disjuncts : ℕ) (question own first : List ℕ) (start : ℕ) (out : List ℕ) (at byte done : ℕ) : Type 0 where
  pub text : Left first start (each_text names 0 (tuples_in disjuncts question own)) out byte (each_text names done (tuples_in (disjuncts - done) question (drop at own)))
  pub inside : at ≤ length own
  pub few : done ≤ disjuncts

module _ (names : Names) (disjuncts : ℕ) (question own first : List ℕ) (start : ℕ) where
  pub each_begin : Telling names disjuncts question own first start first 0 start 0
  each_begin =
      let z : disjuncts - 0 ≡ disjuncts = omega arith in
      record { text = rw z (begin first start (each_text names 0 (tuples_in disjuncts question own))); inside = omega arith; few = omega arith }

  module _ {out : List ℕ} {at byte done : ℕ} (inv : Telling names disjuncts question own first start out at byte done) where
    pub each_end : disjuncts ≤ done → Put first start (each_text names 0 (tuples_in disjuncts question own)) out byte
    unfolding tuples_in each_text
    each_end h = let z : disjuncts - done ≡ 0 = omega arith in finish (rw z at inv.text)

    pub each_next : done < disjuncts → {o₁ o₂ o₃ : List ℕ} {n₁ n₃ : ℕ} → Put out byte (open_text done) o₁ n₁ → {t : Told} → Walked names question own at o₁ n₁ o₂ t → Put o₂ t.byte (93 ∷ []) o₃ n₃
        → Telling names disjuncts question own first start o₃ t.own n₃ (done + 1)
    unfolding tuples_in each_text
    each_next h p {t} k q =
        let z : disjuncts - done ≡ suc (disjuncts - (done + 1)) = omega arith in
        record {
          text = rw (add-one done, k.rest) (rw (add-one done) at (further ((open_text done ++ terms_text names 0 (values_in question 0 (drop at own))) ++ (93 ∷ []))
              (each_text names (suc done) (tuples_in (disjuncts - (done + 1)) question (after_in question (drop at own)))) (rw z at inv.text) (then (then p k.put) q)));
          inside = k.inside;
          few = omega arith;
        }

pub ruleset each_laws = (each_begin, each_end, each_next)

-- one alternative, or several in parentheses; the line
module _ (names : Names) {disjuncts : ℕ} (question own : List ℕ) {out : List ℕ} {at : ℕ} where
  pub tuples_one : disjuncts ≡ 1 → {out' : List ℕ} {end : ℕ} → Put out at (each_text names 0 (tuples_in disjuncts question own)) out' end → Put out at (tuples_text names disjuncts question own) out' end
  unfolding tuples_text
  tuples_one z p = rw (eq-eqb disjuncts 1 z) p

  pub tuples_several : (disjuncts ≡ 1 → ⊥) → {o₁ o₂ o₃ : List ℕ} {n₁ n₂ n₃ : ℕ} → Put out at (40 ∷ []) o₁ n₁ → Put o₁ n₁ (each_text names 0 (tuples_in disjuncts question own)) o₂ n₂
      → Put o₂ n₂ (41 ∷ []) o₃ n₃ → Put out at (tuples_text names disjuncts question own) o₃ n₃
  unfolding tuples_text
  tuples_several n p q r = rw (ne_eqb disjuncts 1 n) (then (then p q) r)

pub ruleset tuples_laws = (tuples_one, tuples_several)

module _ (name : List ℕ) (names : Names) (disjuncts : ℕ) (question own : List ℕ) {out : List ℕ} {at : ℕ} where
  pub line_none : length question ≡ 0 → Put out at (answers_text name names disjuncts question own) out at
  unfolding answers_text
  line_none z = go question z
    where
      go : (qs : List ℕ) → length qs ≡ 0 → Put out at (answers_text name names disjuncts qs own) out at
      go [] h = nothing_put out at
      go (c ∷ qs) h = absurd (omega arith)

  module _ (some : length question ≡ 0 → ⊥) {v : ℕ} (e : v ≡ variables_of (get_or question 0 0)) where
    pub line_ground : v ≡ 0 → Put out at (answers_text name names disjuncts question own) out at
    unfolding answers_text
    line_ground z = go question some (sym e ∙ z)
      where
        go : (qs : List ℕ) → (length qs ≡ 0 → ⊥) → variables_of (get_or qs 0 0) ≡ 0 → Put out at (answers_text name names disjuncts qs own) out at
        go [] n h = absurd (n refl)
        go (c ∷ qs) n h = rw (eq-eqb (variables_of c) 0 h) (nothing_put out at)

    pub line_told : (v ≡ 0 → ⊥) → {qs : List ℕ} → qs ≡ drop 1 question → {out' : List ℕ} {end : ℕ} → Put out at (line_text name names disjuncts qs own) out' end
        → Put out at (answers_text name names disjuncts question own) out' end
    unfolding answers_text
    line_told n d {out'} {end} p = go question some (λ z. n (e ∙ z)) (rw d at p)
      where
        go : (qs : List ℕ) → (length qs ≡ 0 → ⊥) → (variables_of (get_or qs 0 0) ≡ 0 → ⊥) → Put out at (line_text name names disjuncts (drop 1 qs) own) out' end
            → Put out at (answers_text name names disjuncts qs own) out' end
        go [] m h w = absurd (m refl)
        go (c ∷ qs) m h w = rw (ne_eqb (variables_of c) 0 h) w

pub ruleset line_laws = (line_none, line_ground, line_told)

pub line_parts : (name : List ℕ) (names : Names) (disjuncts : ℕ) (question own : List ℕ) {o₀ o₁ o₂ o₃ o₄ o₅ : List ℕ} {n₀ n₁ n₂ n₃ n₄ n₅ : ℕ} → Put o₀ n₀ (bytes "% SZS answers Tuple [") o₁ n₁
    → Put o₁ n₁ (tuples_text names disjuncts question own) o₂ n₂ → Put o₂ n₂ (bytes "|_] for ") o₃ n₃ → Put o₃ n₃ name o₄ n₄ → Put o₄ n₄ (10 ∷ []) o₅ n₅
    → Put o₀ n₀ (line_text name names disjuncts question own) o₅ n₅
unfolding line_text
line_parts name names disjuncts question own p q r s t = then (then p q) (then (then r s) t)
