-- The first uses of names noted, with premises as the code has them.
use mathlib.Core.List.{List, [], ◌∷◌, ◌++◌, append_assoc, append-nil, map-append}
use mathlib.Core.Path.{◌≡◌, refl, sym, ap, ◌∙◌}
use Prim.Native.Nat.{ℕ, zero, suc, ◌+◌, ◌≤◌, ◌<◌}
use native.Mathlib.Numerals.{add-one}
use native.Mathlib.Omega.{arith}
use native.Mathlib.Decide.{dec_lt}
use lib.ListN.{length, take, drop, get_or, set, length-set, length-append, length-map, drop_of_length-le}
use lib.Seq.{length-take-le, drop-cons, take-suc-set, get_or-take, get_or-set_other}
use Rattle.words.specs.Fields.{kind_of, symbol_of}
use Rattle.names.specs.Numbers.{Name, noted, known_after, first_uses, number_in}
use Rattle.names.specs.Noting.{name_at, names_at, uses_of}
use Rattle.names.proofs.Notes.{number_within, noted_known, noted_new, number_stays, number_new}
use Rattle.names.proofs.Counts.{drop_names, uses_other, uses_this, known_length}
use Rattle.naming.specs.Index.{name_of}
use Rattle.naming.specs.Firsts.{Numbered, Blank, Noted}
use Rattle.naming.proofs.Lookups.{named_at, none_named}

-- names are known for good, in their order
noted_extends : (known : List Name) (name : Name) → (more : List Name) × (noted known name ≡ known ++ more)
noted_extends known name = go (dec_lt (number_in known name) (length known))
  where
    go : Dec (number_in known name < length known) → (more : List Name) × (noted known name ≡ known ++ more)
    go (yes h) = ([], noted_known known name h ∙ sym (append-nil known))
    go (no h) = (name ∷ [], noted_new known name (omega (arith, h, number_within known name)))

extends : (known uses : List Name) → (more : List Name) × (known_after known uses ≡ known ++ more)
unfolding known_after
extends known [] = ([], sym (append-nil known))
extends known (name ∷ names) =
    let a = noted_extends known name in
    let b = extends (noted known name) names in
    (a.0 ++ b.0, b.1 ∙ ap (λ (l : List Name). l ++ b.0) a.1 ∙ append_assoc known a.0 b.0)

-- a use of a name, by its number in the end
module _ (known uses all : List Name) (name : Name) (e : known_after known (name ∷ uses) ≡ all) where
  after-use : known_after (noted known name) uses ≡ all
  unfolding known_after
  after-use = e

  new-number : number_in known name ≡ length known → number_in all name ≡ length known
  new-number h =
      let m = extends (noted known name) uses in
      let whole : all ≡ known ++ (name ∷ []) ++ m.0 = sym after-use ∙ m.1 ∙ ap (λ (l : List Name). l ++ m.0) (noted_new known name h) in
      let there = number_new known name h in
      rw whole (number_stays (known ++ (name ∷ [])) m.0 name (omega (arith, there, length-append known (name ∷ []))) ∙ there)

  old-number : number_in known name < length known → number_in all name ≡ number_in known name
  old-number h =
      let m = extends (noted known name) uses in
      let whole : all ≡ known ++ m.0 = sym after-use ∙ m.1 ∙ ap (λ (l : List Name). l ++ m.0) (noted_known known name h) in
      rw whole (number_stays known m.0 name h)

  used-old : (number_in all name ≡ length known → ⊥) → known_after known uses ≡ all
  used-old n = go (dec_lt (number_in known name) (length known))
    where
      go : Dec (number_in known name < length known) → known_after known uses ≡ all
      go (yes h) = rw (noted_known known name h) at after-use
      go (no h) = absurd (n (new-number (omega (arith, h, number_within known name))))

  used-new : number_in all name ≡ length known → known_after (known ++ (name ∷ [])) uses ≡ all
  used-new n = go (dec_lt (number_in known name) (length known))
    where
      go : Dec (number_in known name < length known) → known_after (known ++ (name ∷ [])) uses ≡ all
      go (yes h) = absurd (omega (arith, n, h, old-number h))
      go (no h) = rw (noted_new known name (omega (arith, h, number_within known name))) at after-use

nothing_left : (kind : ℕ) (known names : List Name) → known ≡ known_after known (uses_of kind [] names)
unfolding uses_of known_after
nothing_left kind known names = refl

none_there : (names : List Name) (n : ℕ) → length names ≤ n → get_or names n [] ≡ []
none_there [] n h = refl
none_there (x ∷ xs) zero h = absurd (omega (arith, h))
none_there (x ∷ xs) (suc n) h = none_there xs n (omega (arith, h))

-- what is left to note
pub record Rest (words places : List ℕ) (kind : ℕ) (text : List ℕ) (known : List Name) (out : List ℕ) (count i : ℕ) : Type 0 where
  pub uses : known_after (names_at text (take count out)) (uses_of kind (drop i words) (drop i (names_at text places))) ≡ known
  pub right : Numbered kind known (drop i words) (drop i (names_at text places))
  pub blank : (n : ℕ) → count ≤ n → n < length out → name_at text (get_or out n 0) ≡ []

pub record Going (words places : List ℕ) (kind : ℕ) (first out : List ℕ) (count i : ℕ) : Type 0 where
  pub long : length out ≡ length first
  pub even : length places ≡ length words
  pub inside : count ≤ length out
  pub small : count ≤ i
  pub within : i ≤ length words
  pub told : (text : List ℕ) (known : List Name) → first_uses (uses_of kind words (names_at text places)) ≡ known → Numbered kind known words (names_at text places)
      → length known ≤ length first → Blank text first → Rest words places kind text known out count i

module _ {words places : List ℕ} {kind : ℕ} {first : List ℕ} where
  pub note_begin : length places ≡ length words → Going words places kind first first 0 0
  note_begin e = record {
    long = refl;
    even = e;
    inside = omega arith;
    small = omega arith;
    within = omega arith;
    told = λ text known f r s b. record { uses = f; right = r; blank = λ n _ l. b n l };
  }

  module _ {out : List ℕ} {count i : ℕ} (inv : Going words places kind first out count i) where
    counted : (text : List ℕ) → length (names_at text (take count out)) ≡ count
    counted text = length-map (take count out) (λ (at : ℕ). name_at text at) ∙ length-take-le count out inv.inside

    pub note_end : length words ≤ i → Noted words places kind first out
    note_end h = record { told = written; long = inv.long }
      where
        written : (text : List ℕ) (known : List Name) → first_uses (uses_of kind words (names_at text places)) ≡ known → Numbered kind known words (names_at text places)
            → length known ≤ length first → Blank text first → (n : ℕ) → name_of text out n ≡ get_or known n []
        written text known f r s b n = by (dec_lt n count) (dec_lt n (length out))
          where
            rest : Rest words places kind text known out count i
            rest = inv.told text known f r s b

            whole : names_at text (take count out) ≡ known
            whole = over rest.uses
              where
                over : known_after (names_at text (take count out)) (uses_of kind (drop i words) (drop i (names_at text places))) ≡ known → names_at text (take count out) ≡ known
                over e = ended (rw (drop_of_length-le words h) at e)
                  where
                    ended : known_after (names_at text (take count out)) (uses_of kind [] (drop i (names_at text places))) ≡ known → names_at text (take count out) ≡ known
                    ended x = nothing_left kind (names_at text (take count out)) (drop i (names_at text places)) ∙ x

            by : Dec (n < count) → Dec (n < length out) → name_of text out n ≡ get_or known n []
            by (yes l) d =
                let k : n < length out = omega (arith, l, inv.inside) in
                let m : n < length (take count out) = omega (arith, l, length-take-le count out inv.inside) in
                named_at text out n k
                ∙ ap (λ (at : ℕ). name_at text at) (sym (get_or-take count out n 0 l))
                ∙ sym (named_at text (take count out) n m)
                ∙ ap (λ (names : List Name). get_or names n []) whole
            by (no l) (yes k) = named_at text out n k ∙ rest.blank n (omega (arith, l)) k ∙ sym (none_there known n (omega (arith, l, counted text, ap (λ (names : List Name). length names) whole)))
            by (no l) (no k) = none_named text out n (omega (arith, k)) ∙ sym (none_there known n (omega (arith, l, counted text, ap (λ (names : List Name). length names) whole)))

    module _ (h : i < length words) {q : ℕ} (k : q ≡ kind_of (get_or words i 0)) where
      abbrev w : ℕ
      w = get_or words i 0

      here : drop i words ≡ get_or words i 0 ∷ drop (suc i) words
      here = drop-cons words i 0 h

      name-here : (text : List ℕ) → drop i (names_at text places) ≡ name_at text (get_or places i 0) ∷ drop (suc i) (names_at text places)
      name-here text = drop_names text places i (omega (arith, h, inv.even))

      module _ {text : List ℕ} {known : List Name} (rest : Rest words places kind text known out count i) where
        later : Numbered kind known (drop (suc i) words) (drop (suc i) (names_at text places))
        unfolding Numbered
        later = (rw (here, name-here text) at rest.right).1

        number : kind_of (get_or words i 0) ≡ kind → symbol_of (get_or words i 0) ≡ number_in known (name_at text (get_or places i 0))
        unfolding Numbered
        number = (rw (here, name-here text) at rest.right).0

        name-use : q ≡ kind → known_after (names_at text (take count out)) (name_at text (get_or places i 0) ∷ uses_of kind (drop (suc i) words) (drop (suc i) (names_at text places))) ≡ known
        name-use e =
            rw (here, name-here text, uses_this kind [] (get_or words i 0) (drop (suc i) words) (name_at text (get_or places i 0)) (drop (suc i) (names_at text places)) (sym k ∙ e)) at rest.uses

        passing : (q ≡ kind → ⊥) → known_after (names_at text (take count out)) (uses_of kind (drop (suc i) words) (drop (suc i) (names_at text places))) ≡ known
        passing e =
            rw (here, name-here text, uses_other kind [] (get_or words i 0) (drop (suc i) words) (name_at text (get_or places i 0)) (drop (suc i) (names_at text places)) (λ z. e (k ∙ z))) at rest.uses

      on : ((text : List ℕ) (known : List Name) → Rest words places kind text known out count i
          → known_after (names_at text (take count out)) (uses_of kind (drop (suc i) words) (drop (suc i) (names_at text places))) ≡ known)
          → Going words places kind first out count (i + 1)
      on f = record {
        long = inv.long;
        even = inv.even;
        inside = inv.inside;
        small = omega (arith, inv.small);
        within = omega (arith, h);
        told = λ text known a r s b.
            let rest = inv.told text known a r s b in
            rw (add-one i) (record { uses = f text known rest; right = later rest; blank = rest.blank });
      }

      pub note_other : (q ≡ kind → ⊥) → Going words places kind first out count (i + 1)
      note_other e = on (λ text known rest. passing rest e)

      module _ (e : q ≡ kind) {n : ℕ} (en : n ≡ symbol_of (get_or words i 0)) {m : ℕ} (em : m ≡ n) where
        told_number : {text : List ℕ} {known : List Name} → Rest words places kind text known out count i
            → m ≡ number_in known (name_at text (get_or places i 0))
        told_number rest = em ∙ en ∙ number rest (sym k ∙ e)

        pub note_known : (m ≡ count → ⊥) → Going words places kind first out count (i + 1)
        note_known d = on (λ text known rest. used-old (names_at text (take count out)) (uses_of kind (drop (suc i) words) (drop (suc i) (names_at text places))) known (name_at text (get_or places i 0)) (name-use rest e) (λ z. d (told_number rest ∙ z ∙ counted text)))

        module _ (new : m ≡ count) where
          grown : {text : List ℕ} {known : List Name} → Rest words places kind text known out count i
              → known_after (names_at text (take count out) ++ (name_at text (get_or places i 0) ∷ [])) (uses_of kind (drop (suc i) words) (drop (suc i) (names_at text places))) ≡ known
          grown {text} {known} rest =
              used-new (names_at text (take count out)) (uses_of kind (drop (suc i) words) (drop (suc i) (names_at text places))) known (name_at text (get_or places i 0)) (name-use rest e) (sym (told_number rest) ∙ new ∙ sym (counted text))

          pub note_full : length out ≤ count → Noted words places kind first out
          note_full f = record {
            told = λ text known a r s b.
                let rest = inv.told text known a r s b in
                let g = known_length (names_at text (take count out) ++ (name_at text (get_or places i 0) ∷ [])) (uses_of kind (drop (suc i) words) (drop (suc i) (names_at text places))) in
                let l = ap (λ (names : List Name). length names) (grown rest) in
                absurd (omega (arith, f, s, inv.long, g, l, counted text, length-append (names_at text (take count out)) (name_at text (get_or places i 0) ∷ [])));
            long = inv.long;
          }

          pub note_new : count < length out → Going words places kind first (set out count (get_or places i 0)) (count + 1) (i + 1)
          note_new f = record {
            long = length-set out count (get_or places i 0) ∙ inv.long;
            even = inv.even;
            inside = rw (length-set out count (get_or places i 0)) (omega (arith, f));
            small = omega (arith, inv.small);
            within = omega (arith, h);
            told = λ text known a r s b.
                let rest = inv.told text known a r s b in
                rw (add-one i, add-one count) (record {
                  uses = rw (take-suc-set out count (get_or places i 0) f, map-append (λ (at : ℕ). name_at text at) (take count out) (get_or places i 0 ∷ [])) (grown rest);
                  right = later rest;
                  blank = λ j g l. rw (get_or-set_other out count j (get_or places i 0) 0 (λ z. omega (arith, z, g))) (rest.blank j (omega (arith, g)) (rw (length-set out count (get_or places i 0)) at l));
                });
          }

pub ruleset note_laws = (note_begin, note_end, note_other, note_known, note_full, note_new)
