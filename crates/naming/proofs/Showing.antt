-- Words shown in names, with premises as the code has them.
use mathlib.Core.Bool.{Bool, true, false, cond}
use mathlib.Core.List.{List, [], ◌∷◌, ◌++◌}
use mathlib.Core.Path.{◌≡◌, refl, sym, ap, ◌∙◌}
use Prim.Native.Nat.{ℕ, zero, suc, ◌+◌, ◌-◌, ◌%◌, ◌≤◌, ◌<◌}
use native.Mathlib.Numerals.{add-one}
use native.Mathlib.Omega.{arith}
use mir.Syntax.{w64}
use mir.Val.{Fits}
use denote.Ref.{Bor}
use borrow.Author.Tests.{eq-eqb, ne_eqb}
use lib.Dec.{eqb}
use lib.ListN.{length, take, drop, get_or, set, length-set, length-drop, drop_of_length-le}
use lib.Seq.{drop-cons}
use Rattle.words.specs.Fields.{kind_of, number_of, symbol_of, arity_of, negative_of}
use Rattle.names.specs.Numbers.{Name}
use Rattle.tptp.specs.Memory.{inner_of}
use Rattle.tptp.proofs.Signs.{inner_pushed}
use Rattle.text.specs.Put.{Put}
use Rattle.text.specs.Quoted.{bytes}
use Rattle.text.specs.Digits.{decimal_text}
use Rattle.text.proofs.Putting.{Left, begin, finish, further, then}
use Rattle.naming.specs.Index.{name_of, IsNamed, function_places, predicate_places}
use Rattle.naming.specs.Shown.{Names, or_numbered, variable_text, joint_text, sign_text, open_of, closing, closed, opening, opened, Written, begun, shown_by, shown, names_in, until_literal, literal_parts, literal_part}
use Rattle.naming.specs.declared.show.Reached.{Reached}

-- the lists of arguments closed one after the other
pub record Closing (left : List ℕ) (depth : ℕ) (first : List ℕ) (from : ℕ) (left' out : List ℕ) (lists at : ℕ) : Type 0 where
  pub kept : left' ≡ left
  pub inside : lists ≤ depth
  pub same : closed (open_of left lists) ≡ closed (open_of left depth)
  pub text : Left first from (closing (open_of left depth)) out at (closing (open_of left lists))

abbrev Done : List ℕ → ℕ → List ℕ → ℕ → List ℕ → List ℕ → Reached → Type 0
Done left depth first from left' out r = Written (closing (open_of left depth)) (closed (open_of left depth)) left depth first from left' out r

open_on : (left : List ℕ) (lists : ℕ) → 0 < lists → open_of left lists ≡ get_or left (lists - 1) 0 ∷ open_of left (lists - 1)
unfolding inner_of
open_on left zero h = absurd (omega (arith, h))
open_on left (suc lists) h = let n : suc lists - 1 ≡ lists = omega arith in rw n

module _ {left : List ℕ} {depth : ℕ} {first : List ℕ} {from : ℕ} where
  pub close_begin : Closing left depth first from left first depth from
  close_begin = record { kept = refl; inside = omega arith; same = refl; text = begin first from (closing (open_of left depth)) }

  module _ {left' out : List ℕ} {lists at : ℕ} (inv : Closing left depth first from left' out lists at) where
    pub close_end : lists ≤ 0 → Done left depth first from left' out (record { depth = lists; byte = at })
    unfolding inner_of closing closed
    close_end z =
        let n : lists ≡ 0 = omega (arith, z) in
        record {
          put = finish (rw n at inv.text);
          open_now = rw n (rw n at inv.same);
          shallow = omega (arith, inv.inside);
          long = ap (λ (l : List ℕ). length l) inv.kept;
        }

    pub close_size : (k x : ℕ) → length (set left' k x) ≡ length left
    close_size k x = length-set left' k x ∙ ap (λ (l : List ℕ). length l) inv.kept

    module _ (some : 0 < lists) where
      pub close_in : depth ≤ length left → lists - 1 < length left'
      close_in h = rw inv.kept (omega (arith, some, h, inv.inside))

      module _ {more : ℕ} (was : more ≡ get_or left' (lists - 1) 0) where
        e : more ≡ get_or left (lists - 1) 0
        e = was ∙ ap (λ (l : List ℕ). get_or l (lists - 1) 0) inv.kept

        pub close_comma : 0 < more → depth ≤ length left → {out' : List ℕ} {byte : ℕ} → Put out at (44 ∷ []) out' byte
            → Done left depth first from (set left' (lists - 1) (more - 1)) out' (record { depth = lists; byte = byte })
        unfolding closing closed
        close_comma g h p = rw inv.kept (record {
          put = finish (further (44 ∷ []) [] (texts more (rw (here, ← e) at inv.text) g) p);
          open_now = pushed ∙ sym (shorter more (rw (here, ← e) at inv.same) g);
          shallow = omega (arith, inv.inside);
          long = length-set left (lists - 1) (more - 1);
        })
          where
            here : open_of left lists ≡ get_or left (lists - 1) 0 ∷ open_of left (lists - 1)
            here = open_on left lists some

            texts : (m : ℕ) → Left first from (closing (open_of left depth)) out at (closing (m ∷ open_of left (lists - 1))) → 0 < m
                → Left first from (closing (open_of left depth)) out at (44 ∷ [])
            texts zero l q = absurd (omega (arith, q))
            texts (suc m) l q = l

            shorter : (m : ℕ) → closed (m ∷ open_of left (lists - 1)) ≡ closed (open_of left depth) → 0 < m
                → closed (open_of left depth) ≡ (m - 1) ∷ open_of left (lists - 1)
            shorter zero l q = absurd (omega (arith, q))
            shorter (suc m) l q = let n : suc m - 1 ≡ m = omega arith in rw n (sym l)

            pushed : open_of (set left (lists - 1) (more - 1)) lists ≡ (more - 1) ∷ open_of left (lists - 1)
            pushed =
                let n : lists - 1 + 1 ≡ lists = omega (arith, some) in
                rw n at (inner_pushed left (lists - 1) (more - 1) (omega (arith, some, h, inv.inside)))

        pub close_next : more ≤ 0 → {out' : List ℕ} {byte : ℕ} → Put out at (41 ∷ []) out' byte → Closing left depth first from left' out' (lists - 1) byte
        unfolding closing closed
        close_next z p =
            let none : get_or left (lists - 1) 0 ≡ 0 = omega (arith, e, z) in
            let here : open_of left lists ≡ 0 ∷ open_of left (lists - 1) = open_on left lists some ∙ rw none in
            record {
              kept = inv.kept;
              inside = omega (arith, inv.inside);
              same = rw here at inv.same;
              text = further (41 ∷ []) (closing (open_of left (lists - 1))) (rw here at inv.text) p;
            }

pub ruleset close_laws = (close_begin, close_end, close_in, close_comma, close_next)

-- after a symbol
module _ {left : List ℕ} {depth : ℕ} {first : List ℕ} {from : ℕ} {arity : ℕ} where
  pub open_none : arity ≡ 0 → {left' out : List ℕ} {r : Reached} → Done left depth first from left' out r
      → Written (opening arity (open_of left depth)) (opened arity (open_of left depth)) left depth first from left' out r
  unfolding opening opened
  open_none z w = rw z w

  pub open_some : (arity ≡ 0 → ⊥) → depth < length left → {out : List ℕ} {byte : ℕ} → Put first from (40 ∷ []) out byte
      → Written (opening arity (open_of left depth)) (opened arity (open_of left depth)) left depth first from (set left depth (arity - 1)) out (record { depth = depth + 1; byte = byte })
  unfolding opening opened
  open_some n h {out} {byte} p = record {
    put = rw (opens arity n) p;
    open_now = inner_pushed left depth (arity - 1) h ∙ sym (longer arity n);
    shallow = omega arith;
    long = length-set left depth (arity - 1);
  }
    where
      opens : (m : ℕ) → (m ≡ 0 → ⊥) → opening m (open_of left depth) ≡ 40 ∷ []
      opens zero q = absurd (q refl)
      opens (suc m) q = refl

      longer : (m : ℕ) → (m ≡ 0 → ⊥) → opened m (open_of left depth) ≡ (m - 1) ∷ open_of left depth
      longer zero q = absurd (q refl)
      longer (suc m) q = let k : suc m - 1 ≡ m = omega arith in rw k

pub ruleset open_laws = (open_none, open_some)

-- a variable by its name or by its number
module _ (text : Bor (List ℕ)) (places : List ℕ) (number : ℕ) {q : ℕ} (e : q ≡ number) {r : Bor (List ℕ)} (i : IsNamed text places q r) where
  named-so : name_of text.now places number ≡ r.now
  named-so = rw (← e) (sym i.bytes)

  pub variable_numbered : length r.now ≡ 0 → {out out' : List ℕ} {from end : ℕ} → Put out from (88 ∷ decimal_text number) out' end
      → Put out from (variable_text text.now places number) out' end
  variable_numbered z {out} {out'} {from} {end} p = rw named-so (go r.now z)
    where
      go : (name : Name) → length name ≡ 0 → Put out from (or_numbered number name) out' end
      go [] _ = p
      go (c ∷ w) h = absurd (omega (arith, h))

  pub variable_named : (length r.now ≡ 0 → ⊥) → {out out' : List ℕ} {from end : ℕ} → Put out from r.now out' end
      → Put out from (variable_text text.now places number) out' end
  variable_named n {out} {out'} {from} {end} p = rw named-so (go r.now n p)
    where
      go : (name : Name) → (length name ≡ 0 → ⊥) → Put out from name out' end → Put out from (or_numbered number name) out' end
      go [] h _ = absurd (h refl)
      go (c ∷ w) _ t = t

pub ruleset variable_laws = (variable_numbered, variable_named)

-- what joins literals
nothing_put : (out : List ℕ) (from : ℕ) → Put out from [] out from
nothing_put out from = finish (begin out from [])

joint_is : (a b : ℕ) → (b ≡ 0 → ⊥) → (a ≡ 0 → ⊥) → joint_text a b ≡ cond (eqb (b % a) 0) (bytes "\nor ") (bytes " & ")
unfolding joint_text
joint_is a zero n m = absurd (n refl)
joint_is zero (suc b) n m = absurd (m refl)
joint_is (suc a) (suc b) n m = refl

module _ (atoms before : ℕ) where
  pub joint_first : before ≡ 0 → {out : List ℕ} {from : ℕ} → Put out from (joint_text atoms before) out from
  unfolding joint_text
  joint_first z {out} {from} = rw z (nothing_put out from)

  module _ (n : before ≡ 0 → ⊥) {out out' : List ℕ} {from end : ℕ} where
    pub joint_lone : atoms ≡ 0 → Put out from (32 ∷ 38 ∷ 32 ∷ []) out' end → Put out from (joint_text atoms before) out' end
    unfolding joint_text
    joint_lone z p = rw z (go before n)
      where
        go : (b : ℕ) → (b ≡ 0 → ⊥) → Put out from (joint_text 0 b) out' end
        go zero m = absurd (m refl)
        go (suc b) m = p

    module _ (m : atoms ≡ 0 → ⊥) where
      pub joint_or : before % atoms ≡ 0 → Put out from (10 ∷ 111 ∷ 114 ∷ 32 ∷ []) out' end → Put out from (joint_text atoms before) out' end
      joint_or z p = rw (joint_is atoms before n m, z) p

      pub joint_and : (before % atoms ≡ 0 → ⊥) → Put out from (32 ∷ 38 ∷ 32 ∷ []) out' end → Put out from (joint_text atoms before) out' end
      joint_and z p = rw (joint_is atoms before n m, ne_eqb (before % atoms) 0 z) p

pub ruleset joint_laws = (joint_first, joint_lone, joint_or, joint_and)

pub sign_shown : {b : Bool} → b ≡ true → {out left : List ℕ} {from end : ℕ} → Put out from (126 ∷ 32 ∷ []) left end → Put out from (sign_text b) left end
unfolding sign_text
sign_shown e p = rw e p

pub sign_hidden : {b : Bool} → b ≡ false → {out : List ℕ} {from : ℕ} → Put out from (sign_text b) out from
unfolding sign_text
sign_hidden e {out} {from} = rw e (nothing_put out from)

pub ruleset sign_laws = (sign_shown, sign_hidden)

-- a literal's beginning
pub literal_begun : (text : Bor (List ℕ)) (index : List ℕ) (atoms before w : ℕ) {out a b left : List ℕ} {from j s end : ℕ}
    → Put out from (joint_text atoms before) a j → {n : Bool} → n ≡ negative_of w → Put a j (sign_text n) b s
    → {y q : ℕ} → y ≡ symbol_of w → q ≡ y → {r : Bor (List ℕ)} → IsNamed text (predicate_places index) q r → Put b s r.now left end
    → Put out from (begun text.now index atoms before w) left end
literal_begun text index atoms before w p e g ey eq i t =
    then (then p (rw e at g)) (rw (i.bytes, eq, ey) at t)

pub function_named : (text : Bor (List ℕ)) (places : List ℕ) {number q : ℕ} → q ≡ number → {r : Bor (List ℕ)} → IsNamed text places q r
    → {out left : List ℕ} {from end : ℕ} → Put out from r.now left end → Put out from (name_of text.now places number) left end
function_named text places e i t = rw (i.bytes, e) at t

-- words from left to right
pub record Running (names : Names) (atoms : ℕ) (own first : List ℕ) (from : ℕ) (left out : List ℕ) (depth before at i : ℕ) : Type 0 where
  pub shallow : depth ≤ i
  pub counted : before ≤ i
  pub within : i ≤ length own
  pub long : length left ≡ 4096
  pub text : Left first from (shown names atoms 0 [] own) out at (shown names atoms before (open_of left depth) (drop i own))

module _ (text index variables : List ℕ) (atoms : ℕ) (own first : List ℕ) (from : ℕ) where
  abbrev names : Names
  names = names_in text index variables

  pub run_begin : {left : List ℕ} → length left ≡ 4096 → Running (names_in text index variables) atoms own first from left first 0 0 from 0
  unfolding inner_of
  run_begin l = record { shallow = omega arith; counted = omega arith; within = omega arith; long = l; text = begin first from (shown names atoms 0 [] own) }

  module _ {left out : List ℕ} {depth before at i : ℕ} (inv : Running (names_in text index variables) atoms own first from left out depth before at i) where
    pub run_end : length own ≤ i → Put first from (shown (names_in text index variables) atoms 0 [] own) out at
    unfolding shown
    run_end h = finish (rw (drop_of_length-le own h) at inv.text)

    module _ (h : i < length own) (few : length own ≤ 4096) where
      pub run_shallow : depth ≤ length left
      run_shallow = omega (arith, inv.shallow, inv.long, h, few)

      pub run_open : depth < length left
      run_open = omega (arith, inv.shallow, inv.long, h, few)

      pub run_count_fits : Fits w64 (before + 1)
      run_count_fits = record { fits = omega (arith, inv.counted, h, few) }

      module _ {kind : ℕ} (e : kind ≡ kind_of (get_or own i 0)) where
        abbrev rest : ℕ → List ℕ → List ℕ
        rest b o = shown (names_in text index variables) atoms b o (drop (suc i) own)

        here : shown names atoms before (open_of left depth) (drop i own) ≡ shown_by names atoms before (open_of left depth) (get_or own i 0) kind rest
        unfolding shown
        here = rw (drop-cons own i 0 h, e)

        next : {left' out' out'' : List ℕ} {b : ℕ} {mid : ℕ} {r : Reached} {t a o : List ℕ} {d : ℕ} → (before ≤ b) → (b ≤ before + 1) → (d ≤ depth)
            → Left first from (shown names atoms 0 [] own) out at (t ++ (a ++ rest b o)) → Put out at t out' mid → Written a o left d out' mid left' out'' r
            → Running (names_in text index variables) atoms own first from left' out'' r.depth b r.byte (i + 1)
        next {b = b} {t = t} {a = a} {o = o} low high flat l p w = record {
          shallow = omega (arith, w.shallow, inv.shallow, flat);
          counted = omega (arith, high, inv.counted);
          within = omega (arith, h);
          long = w.long ∙ inv.long;
          text = rw (add-one i, w.open_now) (further a (rest b o) (further t (a ++ rest b o) l p) w.put);
        }

        pub run_variable : kind ≡ 0 → {m : ℕ} → m ≡ number_of (get_or own i 0) → {out' : List ℕ} {mid : ℕ} → Put out at (variable_text text variables m) out' mid
            → {left' out'' : List ℕ} {r : Reached} → Written (closing (open_of left depth)) (closed (open_of left depth)) left depth out' mid left' out'' r
            → Running (names_in text index variables) atoms own first from left' out'' r.depth before r.byte (i + 1)
        unfolding shown_by
        run_variable z em p w = next (omega arith) (omega arith) (omega arith) (rw (here, z) at inv.text) (rw em at p) w

        pub run_function : kind ≡ 1 → {m : ℕ} → m ≡ symbol_of (get_or own i 0) → {out' : List ℕ} {mid : ℕ} → Put out at (name_of text (function_places index) m) out' mid
            → {a : ℕ} → a ≡ arity_of (get_or own i 0)
            → {left' out'' : List ℕ} {r : Reached} → Written (opening a (open_of left depth)) (opened a (open_of left depth)) left depth out' mid left' out'' r
            → Running (names_in text index variables) atoms own first from left' out'' r.depth before r.byte (i + 1)
        unfolding shown_by
        run_function z em p ea w = next (omega arith) (omega arith) (omega arith) (rw (here, z) at inv.text) (rw em at p) (rw ea at w)

        pub run_literal : (kind ≡ 0 → ⊥) → (kind ≡ 1 → ⊥) → {out' : List ℕ} {mid : ℕ} → Put out at (begun text index atoms before (get_or own i 0)) out' mid
            → {a : ℕ} → a ≡ arity_of (get_or own i 0)
            → {left' out'' : List ℕ} {r : Reached} → Written (opening a (open_of left 0)) (opened a (open_of left 0)) left 0 out' mid left' out'' r
            → Running (names_in text index variables) atoms own first from left' out'' r.depth (before + 1) r.byte (i + 1)
        unfolding shown_by inner_of
        run_literal n m {out'} {mid} p {a} ea {left'} {out''} {r} w =
            next (omega arith) (omega arith) (omega arith) (rw (here, by kind n m) at inv.text) p (rw ea at (empty w))
          where
            by : (k : ℕ) → (k ≡ 0 → ⊥) → (k ≡ 1 → ⊥) → shown_by names atoms before (open_of left depth) (get_or own i 0) k rest
                ≡ begun text index atoms before (get_or own i 0) ++ (opening (arity_of (get_or own i 0)) [] ++ rest (before + 1) (opened (arity_of (get_or own i 0)) []))
            by zero x y = absurd (x refl)
            by (suc zero) x y = absurd (y refl)
            by (suc (suc k)) x y = rw (add-one before)

            empty : Written (opening a (open_of left 0)) (opened a (open_of left 0)) left 0 out' mid left' out'' r → Written (opening a []) (opened a []) left 0 out' mid left' out'' r
            empty v = v

pub ruleset run_laws = (run_begin, run_end, run_shallow, run_open, run_count_fits, run_variable, run_function, run_literal)

-- where a literal ends
pub record Ending (own : List ℕ) (from at : ℕ) : Type 0 where
  pub later : from ≤ at
  pub within : at ≤ length own
  pub left : from + length (until_literal (drop from own)) ≡ at + length (until_literal (drop at own))

module _ {own : List ℕ} {from : ℕ} where
  pub end_begin : from ≤ length own → Ending own from from
  end_begin h = record { later = omega arith; within = h; left = refl }

  module _ {at : ℕ} (inv : Ending own from at) where
    pub end_over : length own ≤ at → at ≡ from + length (until_literal (drop from own))
    unfolding until_literal
    end_over h = let none : from + length (until_literal (drop from own)) ≡ at + 0 = rw (drop_of_length-le own h) at inv.left in omega (arith, none)

    module _ (h : at < length own) {kind : ℕ} (e : kind ≡ kind_of (get_or own at 0)) where
      pub end_there : kind ≡ 2 → at ≡ from + length (until_literal (drop from own))
      unfolding until_literal
      end_there z =
          let none : from + length (until_literal (drop from own)) ≡ at + 0 = rw (drop-cons own at 0 h, eq-eqb (kind_of (get_or own at 0)) 2 (sym e ∙ z)) at inv.left in
          omega (arith, none)

      pub end_on : (kind ≡ 2 → ⊥) → Ending own from (at + 1)
      unfolding until_literal
      end_on z =
          let more : from + length (until_literal (drop from own)) ≡ at + suc (length (until_literal (drop (suc at) own)))
          = rw (drop-cons own at 0 h, ne_eqb (kind_of (get_or own at 0)) 2 (λ q. z (e ∙ q))) at inv.left in
          record { later = omega (arith, inv.later); within = omega (arith, h); left = rw (add-one at) (omega (arith, more)) }

pub ruleset end_laws = (end_begin, end_over, end_there, end_on)

-- the literal with a number
pub record Seeking (own : List ℕ) (number left at : ℕ) : Type 0 where
  pub same : literal_part own number ≡ literal_part (drop at own) left
  pub within : at ≤ length own

until_front : (ws : List ℕ) → take (length (until_literal ws)) ws ≡ until_literal ws
unfolding until_literal
until_front [] = refl
until_front (w ∷ ws) = go (eqb (kind_of w) 2) (until_front ws)
  where
    go : (t : Bool) → take (length (until_literal ws)) ws ≡ until_literal ws → take (length (cond t [] (w ∷ until_literal ws))) (w ∷ ws) ≡ cond t [] (w ∷ until_literal ws)
    go true ih = refl
    go false ih = ap (λ (l : List ℕ). w ∷ l) ih

until_within : (ws : List ℕ) → length (until_literal ws) ≤ length ws
unfolding until_literal
until_within [] = omega arith
until_within (w ∷ ws) = go (eqb (kind_of w) 2) (until_within ws)
  where
    go : (t : Bool) → length (until_literal ws) ≤ length ws → length (cond t [] (w ∷ until_literal ws)) ≤ suc (length ws)
    go true ih = omega arith
    go false ih = omega arith

module _ {own : List ℕ} {number : ℕ} where
  pub seek_begin : Seeking own number number 0
  seek_begin = record { same = refl; within = omega arith }

  module _ {left at : ℕ} (inv : Seeking own number left at) where
    pub seek_none : length own ≤ at → [] ≡ literal_part own number
    unfolding literal_parts
    seek_none h = sym (inv.same ∙ rw (drop_of_length-le own h))

    module _ (h : at < length own) {kind : ℕ} (e : kind ≡ kind_of (get_or own at 0)) where
      pub seek_other : (kind ≡ 2 → ⊥) → Seeking own number left (at + 1)
      unfolding literal_parts
      seek_other z = record {
        same = inv.same ∙ rw (add-one at, drop-cons own at 0 h, ne_eqb (kind_of (get_or own at 0)) 2 (λ q. z (e ∙ q)));
        within = omega (arith, h);
      }

      parts-here : kind ≡ 2 → literal_parts (drop at own) ≡ (get_or own at 0 ∷ until_literal (drop (suc at) own)) ∷ literal_parts (drop (suc at) own)
      unfolding literal_parts
      parts-here z = rw (drop-cons own at 0 h, eq-eqb (kind_of (get_or own at 0)) 2 (sym e ∙ z))

      pub seek_later : kind ≡ 2 → (left ≡ 0 → ⊥) → Seeking own number (left - 1) (at + 1)
      seek_later z n = record {
        same = inv.same ∙ rw (parts-here z, add-one at) (go left n);
        within = omega (arith, h);
      }
        where
          go : (k : ℕ) → (k ≡ 0 → ⊥) → get_or ((get_or own at 0 ∷ until_literal (drop (suc at) own)) ∷ literal_parts (drop (suc at) own)) k [] ≡ get_or (literal_parts (drop (suc at) own)) (k - 1) []
          go zero m = absurd (m refl)
          go (suc k) m = let q : suc k - 1 ≡ k = omega arith in rw q

      module _ {end : ℕ} (q : end ≡ at + 1 + length (until_literal (drop (at + 1) own))) where
        pub seek_stop : end ≤ length own
        seek_stop = omega (arith, h, q, until_within (drop (at + 1) own), length-drop (at + 1) own)

        pub seek_start : at ≤ end
        seek_start = omega (arith, q)

        pub seek_found : kind ≡ 2 → left ≡ 0 → take (end - at) (drop at own) ≡ literal_part own number
        seek_found z n =
            let k : end - at ≡ suc (length (until_literal (drop (suc at) own))) = omega (arith, rw (add-one at) at q) in
            rw (k, drop-cons own at 0 h) (ap (λ (l : List ℕ). get_or own at 0 ∷ l) (until_front (drop (suc at) own)) ∙ sym (inv.same ∙ rw (parts-here z, n)))

pub ruleset seek_laws = (seek_begin, seek_none, seek_other, seek_later, seek_stop, seek_start, seek_found)
