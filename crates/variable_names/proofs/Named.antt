-- The name of a variable, by the numbers of its clause's words, with premises as the code has them.
use Rattle.std.specs.Prelude.{Err}
use mathlib.Core.Bool.{Bool, true, false, cond}
use mathlib.Core.List.{List, [], ◌∷◌, ◌++◌}
use mathlib.Core.Path.{◌≡◌, refl, sym, ap, ◌∙◌}
use Prim.Native.Nat.{ℕ, zero, suc, ◌+◌, ◌-◌, ◌%◌, ◌≤◌, ◌<◌}
use native.Mathlib.Omega.{arith}
use native.Mathlib.Decide.{dec_lt, ℕ_discrete}
use borrow.Author.Tests.{eq-eqb, ne_eqb, lt-ltb, le-ltb}
use denote.Ref.{Bor}
use lib.Dec.{eqb}
use lib.ListN.{length, take, drop, get_or, length-append, length-drop, length-map, get_or-append, get_or-eq_default}
use lib.Seq.{get_or-append_seam}
use Rattle.words.specs.Fields.{kind_of}
use Rattle.clausetext.specs.Judging.{judged}
use Rattle.clausetext.specs.Syntax.{Clause}
use Rattle.clausetext.specs.Texts.{Verdict, Says, Permitted, fine}
use Rattle.clausetext.proofs.Judgement.{only_verdict}
use Rattle.clausetext.proofs.OneReading.{one_reading}
use Rattle.names.specs.Numbers.{Name, noted, known_after, first_uses, number_in}
use Rattle.names.specs.Noting.{name_at, names_at, uses_of, numbered, Numbering}
use Rattle.names.proofs.Same.{no_name}
use Rattle.names.proofs.Notes.{number_within, noted_known, noted_new}
use Rattle.naming.specs.Index.{IsNamed}
use Rattle.naming.proofs.Lookups.{named_at, none_named, none_stands, none_is_named}
use Rattle.tptp.specs.Said.{variable_uses}
use Rattle.tptp.specs.Sketch.{Item}
use Rattle.tptp.specs.Shapes.{sort_kind}
use Rattle.tptp.specs.Memory.{items_of}
use Rattle.tptp.specs.Body.{ahead, part, Held}
use Rattle.tptp.proofs.Items.{names_of_kind, literals_variables}
use Rattle.variable_names.specs.Named.{literals_at, few_named, variable_name, IsVariable}
use Rattle.variable_names.specs.Finding.{sorts, place_of, own_kinds, first_of, Among, IsSaid}
use Rattle.variable_names.proofs.Walks.{kinds_long}
use Rattle.variable_names.proofs.Clauses.{own_part}

-- names are known for good
noted_keeps : (known : List Name) (name : Name) (k : ℕ) → k < length known → (get_or (noted known name) k [] ≡ get_or known k []) × (k < length (noted known name))
noted_keeps known name k h = go (dec_lt (number_in known name) (length known))
  where
    go : Dec (number_in known name < length known) → (get_or (noted known name) k [] ≡ get_or known k []) × (k < length (noted known name))
    go (yes l) = rw (noted_known known name l) (refl, h)
    go (no l) = rw (noted_new known name (omega (arith, l, number_within known name))) (get_or-append known (name ∷ []) [] k h, omega (arith, h, length-append known (name ∷ [])))

known_keeps : (uses known : List Name) (k : ℕ) → k < length known → get_or (known_after known uses) k [] ≡ get_or known k []
unfolding known_after
known_keeps [] known k h = refl
known_keeps (name ∷ names) known k h = let a = noted_keeps known name k h in known_keeps names (noted known name) k a.1 ∙ a.0

-- the first word with a number has the name with that number
first_named : (ms : List ℕ) (names known : List Name) (n : ℕ) → length ms ≡ length names → n < 16 → length known ≤ n
    → get_or names (first_of n (numbered 0 known (own_kinds ms) names)) [] ≡ get_or (known_after known (uses_of 0 (own_kinds ms) names)) n []
unfolding first_of numbered own_kinds known_after uses_of
first_named [] [] known n e small h = sym (get_or-eq_default known [] h)
first_named [] (x ∷ xs) known n e small h = absurd (omega arith)
first_named (m ∷ ms) [] known n e small h = absurd (omega arith)
first_named (m ∷ ms) (x ∷ xs) known n e small h = go (eqb (m % 8) 0) (λ k l. first_named ms xs k n (omega arith) small l)
  where
    variable_here : Dec (number_in known x < length known) → Dec (n ≡ length known)
        → ((k : List Name) → length k ≤ n → get_or xs (first_of n (numbered 0 k (own_kinds ms) xs)) [] ≡ get_or (known_after k (uses_of 0 (own_kinds ms) xs)) n [])
        → get_or (x ∷ xs) (cond (eqb (0 + number_in known x) n) 0 (suc (first_of n (numbered 0 (noted known x) (own_kinds ms) xs)))) [] ≡ get_or (known_after (noted known x) (uses_of 0 (own_kinds ms) xs)) n []
    variable_here (yes l) d ih =
        rw (ne_eqb (0 + number_in known x) n (λ z. omega (arith, z, l, h)), noted_known known x l) (ih known h)
    variable_here (no l) (yes q) ih =
        let new : number_in known x ≡ length known = omega (arith, l, number_within known x) in
        rw (eq-eqb (0 + number_in known x) n (omega (arith, new, q)), noted_new known x new, q)
        (sym (known_keeps (uses_of 0 (own_kinds ms) xs) (known ++ (x ∷ [])) (length known) (omega (arith, length-append known (x ∷ []))) ∙ get_or-append_seam known x [] []))
    variable_here (no l) (no q) ih =
        let new : number_in known x ≡ length known = omega (arith, l, number_within known x) in
        rw (ne_eqb (0 + number_in known x) n (λ z. q (omega (arith, new, z))), noted_new known x new) (ih (known ++ (x ∷ [])) (omega (arith, h, q, length-append known (x ∷ []))))

    go : (t : Bool) → ((k : List Name) → length k ≤ n → get_or xs (first_of n (numbered 0 k (own_kinds ms) xs)) [] ≡ get_or (known_after k (uses_of 0 (own_kinds ms) xs)) n [])
        → get_or (x ∷ xs) (first_of n (numbered 0 known (cond t 0 1073741824 ∷ own_kinds ms) (x ∷ xs))) [] ≡ get_or (known_after known (uses_of 0 (cond t 0 1073741824 ∷ own_kinds ms) (x ∷ xs))) n []
    go true ih = variable_here (dec_lt (number_in known x) (length known)) (ℕ_discrete n (length known)) ih
    go false ih = rw (ne_eqb 1073741824 n (λ z. omega (arith, z, small))) (ih known h)

-- what is handed back
abbrev uses_in : Bor (List ℕ) → List ℕ → List ℕ → List Name
uses_in text marks places = uses_of 0 (own_kinds marks) (names_at text.now places)

module _ (text : Bor (List ℕ)) (marks places : List ℕ) (wanted : ℕ) where
  nothing : (few_named (first_uses (uses_in text marks places)) wanted ≡ []) → (ptr : ℕ × ℕ) → Among text marks places wanted (record { ref_ptr = ptr; now = [] })
  nothing e ptr = record { at = length text.now; part = none_stands text (omega arith) ptr; is = sym e }

  pub among_late : 16 ≤ wanted → (ptr : ℕ × ℕ) → Among text marks places wanted (record { ref_ptr = ptr; now = [] })
  among_late h ptr = nothing (go (dec_lt 16 (length (first_uses (uses_in text marks places))))) ptr
    where
      go : Dec (16 < length (first_uses (uses_in text marks places))) → few_named (first_uses (uses_in text marks places)) wanted ≡ []
      go (yes l) = rw (lt-ltb 16 (length (first_uses (uses_in text marks places))) l)
      go (no l) = rw (le-ltb 16 (length (first_uses (uses_in text marks places))) (omega (arith, l))) (get_or-eq_default (first_uses (uses_in text marks places)) [] {n = wanted} (omega (arith, l, h)))

  module _ {words : List ℕ} (k : words ≡ own_kinds marks) {words' : List ℕ} {many : ℕ} (n : Numbering text.now places words 0 16 words' many) where
    pub among_over : 16 < many → (ptr : ℕ × ℕ) → Among text marks places wanted (record { ref_ptr = ptr; now = [] })
    among_over h ptr = nothing (rw (lt-ltb 16 (length (first_uses (uses_in text marks places))) (rw (← k) (n.over h)))) ptr

    pub among_found : many ≤ 16 → (own : List ℕ) → length marks ≡ length own → length places ≡ length own → wanted < 16 → {i : ℕ} → i ≡ first_of wanted words' → {r : Bor (List ℕ)} → IsNamed text places i r → Among text marks places wanted r
    among_found h own a b small {i} e {r} named = go (dec_lt i (length places))
      where
        is : r.now ≡ few_named (first_uses (uses_in text marks places)) wanted
        is =
            let few : length (first_uses (uses_in text marks places)) ≤ 16 = rw (← k) (omega (arith, h, n.within h)) in
            let all : words' ≡ numbered 0 [] (own_kinds marks) (names_at text.now places) = rw (← k) (n.numbers h) in
            named.bytes
            ∙ rw (le-ltb 16 (length (first_uses (uses_in text marks places))) few, e, all)
            (first_named marks (names_at text.now places) [] wanted (a ∙ sym b ∙ sym (length-map places (λ (at : ℕ). name_at text.now at))) small (omega arith))

        go : Dec (i < length places) → Among text marks places wanted r
        go (yes l) = record {
          at = get_or places i 0;
          part = record { bytes = named.bytes ∙ named_at text.now places i l; place = λ g. named.place l g };
          is = is;
        }
        go (no l) = record {
          at = length text.now;
          part = record {
            bytes = named.bytes ∙ none_named text.now places i (omega (arith, l)) ∙ sym (no_name text.now (length text.now) (omega arith));
            place = λ g. absurd (omega (arith, g));
          };
          is = is;
        }

    pub among_nowhere : many ≤ 16 → (own : List ℕ) → length marks ≡ length own → length places ≡ length own → wanted < 16
        → length words' ≤ first_of wanted words' → (ptr : ℕ × ℕ) → Among text marks places wanted (record { ref_ptr = ptr; now = [] })
    among_nowhere h own a b small e ptr =
        let all : length places ≤ first_of wanted words' = omega (arith, n.long, ap (λ (l : List ℕ). length l) k, kinds_long marks, a, b, e) in
        among_found h own a b small refl (none_is_named text places all ptr)

pub ruleset among_laws = (among_late, among_over, among_found, among_nowhere)

-- the uses of variables in a clause's items
kind_told : (s : ℕ) → eqb (kind_of (cond (eqb s 0) 0 1073741824)) 0 ≡ eqb (sort_kind s) 0
unfolding sort_kind
kind_told zero = refl
kind_told (suc zero) = refl
kind_told (suc (suc zero)) = refl
kind_told (suc (suc (suc zero))) = refl
kind_told (suc (suc (suc (suc n)))) = rw (ne_eqb (suc (suc (suc (suc n)))) 0 (λ z. omega (arith, z)))

own_uses : (text : List ℕ) (n : ℕ) (ms ps : List ℕ) → length ms ≡ length ps
    → uses_of 0 (own_kinds (take n ms)) (names_at text (take n ps)) ≡ names_of_kind 0 (take n (items_of text ms ps))
unfolding uses_of own_kinds names_of_kind items_of
own_uses text zero ms ps h = refl
own_uses text (suc n) [] ps h = refl
own_uses text (suc n) (m ∷ ms) [] h = absurd (omega arith)
own_uses text (suc n) (m ∷ ms) (p ∷ ps) h = rw (kind_told (m % 8), own_uses text n ms ps (omega arith))

-- a clause's variable
pub variable_said : (text : Bor (List ℕ)) (marks places : List ℕ) {clause wanted from end : ℕ} → length marks ≡ length places → Held text.now marks places
    → from ≡ place_of clause (sorts marks) → end ≡ from + ahead 4 (drop from marks)
    → {r : Bor (List ℕ)} → Among text (part from end marks) (part from end places) wanted r → IsSaid text clause wanted r
variable_said text marks places {clause} {wanted} {from} {end} even held f e {r} a = record { at = a.at; part = a.part; said = names }
  where
    rest-even : length (drop from marks) ≡ length (drop from places)
    rest-even = omega (arith, even, length-drop from marks, length-drop from places)

    own : uses_of 0 (own_kinds (part from end marks)) (names_at text.now (part from end places)) ≡ variable_uses (literals_at held.said clause)
    own =
        own_uses text.now (end - from) (drop from marks) (drop from places) rest-even
        ∙ ap (λ (l : List Item). names_of_kind 0 l) (own_part marks clause f e text.now places even held.said held.items)
        ∙ literals_variables (literals_at held.said clause)

    names : (cs : List Clause) → Says text.now cs → r.now ≡ variable_name cs clause wanted
    names cs y = rw (← one_reading held.says y) (a.is ∙ ap (λ (l : List Name). few_named (first_uses l) wanted) own)

pub said_variable : (text : Bor (List ℕ)) {clause wanted : ℕ} → length text.now ≤ 65536 → Permitted text.now → {r : Bor (List ℕ)} → IsSaid text clause wanted r → IsVariable text clause wanted r
said_variable text short p i = record {
  at = i.at;
  part = i.part;
  said = λ _ cs y. i.said cs y;
  wrong = λ n. absurd (n p);
  long = λ h. absurd (omega (arith, h, short));
}

pub wrong_variable : (text : Bor (List ℕ)) {clause wanted : ℕ} {v : Verdict} → v ≡ judged text.now → {place : ℕ} → v ≡ Err place → (ptr : ℕ × ℕ)
    → IsVariable text clause wanted (record { ref_ptr = ptr; now = [] })
wrong_variable text is e ptr = record {
  at = length text.now;
  part = none_stands text (omega arith) ptr;
  said = λ short cs y. let o = only_verdict (fine short y) in let z : ◌≡◌ {A = ℕ} 0 1 = cc in absurd (omega arith);
  wrong = λ _. refl;
  long = λ _. refl;
}
