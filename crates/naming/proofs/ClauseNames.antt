-- The names of clauses found token by token, with premises as the code has them.
use Rattle.std.specs.Prelude.{Some, None}
use mathlib.Core.Bool.{Bool, true, false, cond}
use mathlib.Core.List.{List, [], ◌∷◌, ◌++◌, append-nil, append_assoc, map-append}
use mathlib.Core.Path.{◌≡◌, refl, sym, ap, ◌∙◌}
use Prim.Native.Nat.{ℕ, ◌+◌, ◌-◌, ◌≤◌, ◌<◌}
use native.Mathlib.Numerals.{add-one}
use native.Mathlib.Omega.{arith}
use mir.Syntax.{w32}
use mir.Val.{Fits}
use borrow.Author.Tests.{eq-eqb, ne_eqb, lt-ltb, le-ltb}
use lib.Dec.{eqb}
use lib.ListN.{length, drop, get_or}
use Rattle.clausetext.specs.declared.kind.Mark.{Mark}
use Rattle.clausetext.specs.declared.token.Lexeme.{Lexeme}
use Rattle.clausetext.specs.declared.token.Lexeme.TheVariants.{Word, Capital, Sign}
use Rattle.clausetext.specs.Kinds.{kind_of, sign_kind, letter_kind}
use Rattle.clausetext.specs.Syntax.{Term, Terms, Literal, Role, Axiom, Hypothesis, NegatedConjecture, role_name, Clause}
use Rattle.clausetext.specs.Tokens.{Token, word, Spelt}
use Rattle.clausetext.specs.Grammar.{Applied, bare, applied, TermRule, upper, lower, Arguments, LiteralRule, positive, negated, Disjunction, Formula, plain, bracketed, clause, Clauses, none}
use Rattle.clausetext.specs.Texts.{Says, Permitted}
use Rattle.clausetext.specs.Lexemes.{lexeme_at}
use Rattle.clausetext.proofs.Walking.{Met, met}
use Rattle.names.specs.Numbers.{Name}
use Rattle.names.specs.Noting.{name_byte, name_at, names_at}
use Rattle.names.proofs.Same.{no_name, name_on, name_over}
use Rattle.tptp.proofs.Walk.{Head, name_found, word_head, capital_head, sign_head, nothing_left}
use Rattle.text.specs.Put.{Put}
use Rattle.text.proofs.Putting.{begin, finish, then, same_size}
use Rattle.naming.specs.Clauses.{same, asks, names_of, NamesPut, next_stage, sign_stage, kept, is_question, emits, found, Emitted}

-- a formula is passed over
module _ (asked : Bool) (name : Name) where
  mutual
    unfolding found next_stage sign_stage

    applied-passed : {f : List ℕ} {ts : Terms} {from rest : List Token} → Applied f ts from rest → found asked 5 name from ≡ found asked 5 name rest
    applied-passed bare = refl
    applied-passed (applied a) = arguments-passed a

    term_passed : {t : Term} {from rest : List Token} → TermRule t from rest → found asked 5 name from ≡ found asked 5 name rest
    term_passed upper = refl
    term_passed (lower a) = applied-passed a

    arguments-passed : {ts : Terms} {from rest : List Token} → Arguments ts from rest → found asked 5 name from ≡ found asked 5 name rest
    arguments-passed (Arguments.last t) = term_passed t
    arguments-passed (Arguments.more t ts) = term_passed t ∙ arguments-passed ts

  literal-passed : {l : Literal} {from rest : List Token} → LiteralRule l from rest → found asked 5 name from ≡ found asked 5 name rest
  unfolding found next_stage sign_stage
  literal-passed (positive a) = applied-passed a
  literal-passed (negated a) = applied-passed a

  disjunction-passed : {ls : List Literal} {from rest : List Token} → Disjunction ls from rest → found asked 5 name from ≡ found asked 5 name rest
  unfolding found next_stage sign_stage
  disjunction-passed (Disjunction.last l) = literal-passed l
  disjunction-passed (Disjunction.more l ls) = literal-passed l ∙ disjunction-passed ls

  formula-passed : {ls : List Literal} {from rest : List Token} → Formula ls from rest → found asked 5 name from ≡ found asked 5 name rest
  unfolding found next_stage sign_stage
  formula-passed (plain d) = disjunction-passed d
  formula-passed (bracketed d) = disjunction-passed d

-- each clause puts down its name
pub clauses_found : {cs : List Clause} {ts : List Token} → Clauses cs ts → (asked : Bool) (name : Name) → found asked 0 name ts ≡ names_of asked cs
unfolding found next_stage sign_stage names_of
clauses_found none asked name = refl
clauses_found (Clauses.more {cs = cs} (clause {n = n} {r = r} {rest = rest} f) others) asked name =
    ap (λ (l : List Name). emits asked 4 n (role_of r) ++ l) (formula-passed asked n f ∙ clauses_found others asked n) ∙ put r
  where
    role_of : Role → Name
    role_of q = role_name q

    put : (q : Role) → emits asked 4 n (role_of q) ++ names_of asked cs ≡ cond (same (asks q) asked) (n ∷ names_of asked cs) (names_of asked cs)
    put Axiom = by (same false asked)
      where
        by : (t : Bool) → cond t (n ∷ []) [] ++ names_of asked cs ≡ cond t (n ∷ names_of asked cs) (names_of asked cs)
        by true = refl
        by false = refl
    put Hypothesis = by (same false asked)
      where
        by : (t : Bool) → cond t (n ∷ []) [] ++ names_of asked cs ≡ cond t (n ∷ names_of asked cs) (names_of asked cs)
        by true = refl
        by false = refl
    put NegatedConjecture = by (same true asked)
      where
        by : (t : Bool) → cond t (n ∷ []) [] ++ names_of asked cs ≡ cond t (n ∷ names_of asked cs) (names_of asked cs)
        by true = refl
        by false = refl

-- the stages of a clause
module _ {stage : ℕ} where
  pub stage_next : stage < 5 → stage + 1 ≡ next_stage stage
  unfolding next_stage
  stage_next h = rw (lt-ltb stage 5 h, add-one stage)

  pub stage_last : 5 ≤ stage → 5 ≡ next_stage stage
  unfolding next_stage
  stage_last h = rw (le-ltb stage 5 h)

  module _ (name start : ℕ) where
    pub kept_this : stage ≡ 2 → start ≡ kept stage name start
    kept_this e = rw (eq-eqb stage 2 e)

    pub kept_other : (stage ≡ 2 → ⊥) → name ≡ kept stage name start
    kept_other e = rw (ne_eqb stage 2 e)

pub ruleset stage_laws = (stage_next, stage_last, kept_this, kept_other)

-- a question's role
module _ (text : List ℕ) {start : ℕ} where
  pub role_none : length text ≤ start → false ≡ is_question (name_at text start)
  role_none h = rw (no_name text start h)

  pub role_byte : start < length text → eqb (get_or text start 0) 110 ≡ is_question (name_at text start)
  unfolding kind_of sign_kind letter_kind
  role_byte h = go (name_byte (get_or text start 0)) refl
    where
      go : (on : Bool) → name_byte (get_or text start 0) ≡ on → eqb (get_or text start 0) 110 ≡ is_question (name_at text start)
      go true e = rw (name_on text start h e)
      go false e = rw (name_over text start h e) (ne_eqb (get_or text start 0) 110 (λ z.
          let a : true ≡ false = rw z at e in
          let b : ◌≡◌ {A = ℕ} 0 1 = cc in absurd (omega (arith, b))))

pub ruleset role_laws = (role_none, role_byte)

nothing_put : {out : List ℕ} {at : ℕ} → Put out at [] out at
nothing_put {out} {at} = finish (begin out at [])

-- what a word puts down
module _ (text : List ℕ) {asked : Bool} {stage name start : ℕ} {out : List ℕ} {at : ℕ} where
  pub emit_early : (stage ≡ 4 → ⊥) → Emitted text asked stage name start out at out at
  emit_early e = record { put = rw (ne_eqb stage 4 e) nothing_put }

  module _ (e : stage ≡ 4) {q : Bool} (is : q ≡ is_question (name_at text start)) where
    pub emit_asked : q ≡ true → asked ≡ true → {out' : List ℕ} {end : ℕ} → Put out at (name ∷ []) out' end → Emitted text asked stage name start out at out' end
    emit_asked a b p = record { put = rw (eq-eqb stage 4 e, ← is, a, b) p }

    pub emit_none : q ≡ true → asked ≡ false → Emitted text asked stage name start out at out at
    emit_none a b = record { put = rw (eq-eqb stage 4 e, ← is, a, b) nothing_put }

    pub emit_other : q ≡ false → asked ≡ true → Emitted text asked stage name start out at out at
    emit_other a b = record { put = rw (eq-eqb stage 4 e, ← is, a, b) nothing_put }

    pub emit_stated : q ≡ false → asked ≡ false → {out' : List ℕ} {end : ℕ} → Put out at (name ∷ []) out' end → Emitted text asked stage name start out at out' end
    emit_stated a b p = record { put = rw (eq-eqb stage 4 e, ← is, a, b) p }

pub ruleset emit_laws = (emit_early, emit_asked, emit_none, emit_other, emit_stated)

-- what is left to find gives the names of the clauses
pub record Going (text : List ℕ) (asked : Bool) (first : List ℕ) (from : ℕ) (out : List ℕ) (stage name end at : ℕ) : Type 0 where
  pub said : List Clause
  pub says : Says text said
  pub left : List Token
  pub spelt : Spelt left (drop at text)
  pub places : List ℕ
  pub goes : names_at text places ++ found asked stage (name_at text name) left ≡ names_of asked said
  pub written : Put first from places out end

emits_names : (text : List ℕ) (asked : Bool) (stage name : ℕ) (role : Name) → names_at text (emits asked stage name role) ≡ emits asked stage (name_at text name) role
emits_names text asked stage name role = go (eqb stage 4) (same (is_question role) asked)
  where
    go : (s t : Bool) → names_at text (cond s (cond t (name ∷ []) []) []) ≡ cond s (cond t (name_at text name ∷ []) []) []
    go true true = refl
    go true false = refl
    go false t = refl

kept_name : (text : List ℕ) (stage name start : ℕ) → name_at text (kept stage name start) ≡ kept stage (name_at text name) (name_at text start)
kept_name text stage name start = go (eqb stage 2)
  where
    go : (s : Bool) → name_at text (cond s start name) ≡ cond s (name_at text start) (name_at text name)
    go true = refl
    go false = refl

module _ {text : List ℕ} {asked : Bool} {first : List ℕ} {from : ℕ} where
  pub names_begin : Permitted text → Going text asked first from first 0 0 from 0
  names_begin y = record {
    said = y.said;
    says = y.says;
    left = y.says.tokens;
    spelt = y.says.spelt;
    places = [];
    goes = clauses_found y.says.clauses asked (name_at text 0);
    written = finish (begin first from []);
  }

  module _ {out : List ℕ} {stage name end at : ℕ} (inv : Going text asked first from out stage name end at) where
    pub names_over : None ≡ lexeme_at text at → NamesPut text asked first from out end
    unfolding found
    names_over e =
        let m : Met text at inv.left None = rw e (met inv.spelt) in
        let none : inv.left ≡ [] = nothing_left m in
        record {
          places = inv.places;
          said = inv.said;
          says = inv.says;
          names = sym (append-nil (names_at text inv.places)) ∙ (rw none at inv.goes);
          written = inv.written;
        }

    pub names_size : length out ≡ length first
    names_size = same_size inv.written

    module _ {l : Lexeme} (is : Some l ≡ lexeme_at text at) where
      meets : Met text at inv.left (Some l)
      meets = rw is (met inv.spelt)

      module _ {start stop : ℕ} (e : l ≡ Word start stop) where
        word_is : Head text at inv.left start stop word
        word_is = word_head meets e

        pub word_fits : length text ≤ 65536 → Fits w32 start
        word_fits h = let f = word_is.found in record { fits = omega (arith, h, f.some, f.within) }

        pub word_falls : length text - stop < length text - at
        word_falls = let f = word_is.found in omega (arith, f.after, f.some, f.within)

        pub names_word : {out' : List ℕ} {end' : ℕ} → Emitted text asked stage name start out end out' end' → {k : ℕ} → k ≡ kept stage name start → {s : ℕ} → s ≡ next_stage stage
            → Going text asked first from out' s k end' stop
        unfolding found
        names_word p {k} ek {s} es =
            let h = word_is in
            let w = name_found h.found in
            let here : names_at text inv.places ++ (emits asked stage (name_at text name) (name_at text start) ++ found asked (next_stage stage) (kept stage (name_at text name) (name_at text start)) h.others) ≡ names_of asked inv.said
            = rw w (rw h.first at inv.goes) in
            record {
              said = inv.said;
              says = inv.says;
              left = h.others;
              spelt = h.found.left;
              places = inv.places ++ emits asked stage name (name_at text start);
              goes =
                  rw (ek, es, kept_name text stage name start, map-append (λ (at : ℕ). name_at text at) inv.places (emits asked stage name (name_at text start)), emits_names text asked stage name (name_at text start))
                  (append_assoc (names_at text inv.places) (emits asked stage (name_at text name) (name_at text start)) (found asked (next_stage stage) (kept stage (name_at text name) (name_at text start)) h.others) ∙ here);
              written = then inv.written p.put;
            }

      module _ {start stop : ℕ} (e : l ≡ Capital start stop) where
        pub capital_falls : length text - stop < length text - at
        capital_falls = let f = (capital_head meets e).found in omega (arith, f.after, f.some, f.within)

        pub names_capital : {s : ℕ} → s ≡ next_stage stage → Going text asked first from out s name end stop
        unfolding found
        names_capital es = let h = capital_head meets e in record {
          said = inv.said;
          says = inv.says;
          left = h.others;
          spelt = h.found.left;
          places = inv.places;
          goes = rw es (rw h.first at inv.goes);
          written = inv.written;
        }

      module _ {m : Mark} {next : ℕ} (e : l ≡ Sign m next) where
        pub sign_falls : length text - next < length text - at
        sign_falls = let f = (sign_head meets e).found in omega (arith, f.after, f.within)

        pub names_sign : {s : ℕ} → s ≡ sign_stage stage m → Going text asked first from out s name end next
        unfolding found
        names_sign es = let h = sign_head meets e in record {
          said = inv.said;
          says = inv.says;
          left = h.others;
          spelt = h.found.left;
          places = inv.places;
          goes = rw es (rw h.first at inv.goes);
          written = inv.written;
        }

pub ruleset names_laws = (names_begin, names_over, word_fits, word_falls, names_word, capital_falls, names_capital, sign_falls, names_sign, names_size)
