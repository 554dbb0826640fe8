-- Literals and clauses written from their words: one law for each outcome of the writers, with premises as the code has them.
use mathlib.Core.Path.{◌≡◌, sym, ap, subst, ◌∙◌}
use mathlib.Core.Bool.{Bool, true, false}
use mathlib.Core.List.{List, [], ◌∷◌, ◌++◌, append_assoc}
use Prim.Native.Nat.{ℕ, ◌+◌, ◌-◌, ◌^◌, ◌≤◌, ◌<◌}
use native.Mathlib.Omega.{arith}
use mir.Syntax.{w64}
use mir.Val.{Fits}
use lib.ListN.{length, drop, get_or}
use lib.Seq.{drop-drop, drop-append_seam}
use Rattle.words.specs.Fields.{symbol_of, arity_of, negative_of, literals_of, literal_word}
use Rattle.words.proofs.Packed.{literal_predicate, literal_arity, literal_negative, clause_literals}
use Rattle.table.specs.Syntax.{Term, var, app, Terms, nil, ◌then◌, arity, Literal}
use Rattle.table.specs.Encode.{terms_words, literal_words, literals_words, clause_words}
use Rattle.table.specs.Decode.{literals_from, clause_of}
use Rattle.table.specs.Limits.{TermWithin, TermsWithin, LiteralWithin, Each}
use Rattle.table.proofs.Encoding.{literals_decoded}
use Rattle.text.specs.Put.{Put}
use Rattle.text.specs.Quoted.{bytes}
use Rattle.text.specs.Digits.{decimal_text}
use Rattle.text.proofs.Putting.{Left, begin, finish, further, then as joined}
use Rattle.clauselines.specs.Lines.{arguments_text, sign_text, literal_text, alternatives_text, literals_text, role_text, clause_text}
use Rattle.clauselines.specs.Writers.{StandAt, Wrote, TermsHere, TermsWritten, LiteralHere, LiteralWritten, LiteralsHere, IsClause}
use Rattle.clauselines.specs.declared.line.Reached.{Reached}
use Rattle.clauselines.proofs.Terms.{stand_on, stand_word, stand_in}

-- a sign
pub sign_shown : {b : Bool} → b ≡ true → {out left : List ℕ} {from end : ℕ} → Put out from (126 ∷ 32 ∷ []) left end → Put out from (sign_text b) left end
unfolding sign_text
sign_shown {b} e p = rw e p

pub sign_hidden : {b : Bool} → b ≡ false → {out : List ℕ} {from : ℕ} → Put out from (sign_text b) out from
unfolding sign_text
sign_hidden {b} e {out} {from} = rw e (finish (begin out from []))

-- a literal's word, and its arguments after it
module _ {own : List ℕ} {at : ℕ} where
  word-here : (l : Literal ℕ) → LiteralWithin 1024 l → StandAt own at (literal_words l)
      → (negative_of (get_or own at 0) ≡ l.negative) × (symbol_of (get_or own at 0) ≡ l.predicate) × (arity_of (get_or own at 0) ≡ arity l.arguments) × StandAt own (at + 1) (terms_words l.arguments)
  unfolding literal_words
  word-here l h s =
      let a = arity l.arguments in
      let small : arity l.arguments < 2 ^ 3 = omega (arith, h.arity) in
      let w = literal_word l.negative l.predicate a in
      rw (stand_word s) (
        literal_negative l.predicate a h.predicate small l.negative,
        literal_predicate l.predicate a h.predicate small l.negative,
        literal_arity l.predicate a h.predicate small l.negative,
        stand_on (w ∷ []) (terms_words l.arguments) s,
      )

  pub literal_in : LiteralHere own at → at < length own
  unfolding literal_words
  literal_in h = stand_in h.stands

  pub literal_next_fits : LiteralHere own at → length own < 2 ^ 63 → Fits w64 (at + 1)
  literal_next_fits h k = record { fits = omega (arith, literal_in h, k) }

  pub literal_arguments : {a : ℕ} → a ≡ arity_of (get_or own at 0) → LiteralHere own at → TermsHere own (at + 1) a
  literal_arguments e h =
      let k = word-here h.literal h.within h.stands in
      record { terms = h.literal.arguments; within = h.within.arguments; count = sym (e ∙ k.2); stands = k.3 }

  pub literal_written : {b : Bool} → b ≡ negative_of (get_or own at 0) → {p : ℕ} → p ≡ symbol_of (get_or own at 0) → {a : ℕ} → a ≡ arity_of (get_or own at 0)
      → {out signed named left : List ℕ} {from next end : ℕ} → Put out from (sign_text b) signed next → Put signed next (112 ∷ decimal_text p) named end
      → {r : Reached} → TermsWritten arguments_text own (at + 1) a named end left r → LiteralWritten own at out from left r
  unfolding literal_words literal_text
  literal_written {b} eb {p} ep {a} ea {out} {signed} {named} {left} {from} {next} {end} s f {r} w = record { told = written }
    where
      written : (l : Literal ℕ) → LiteralWithin 1024 l → StandAt own at (literal_words l) → Wrote at (literal_words l) out from (literal_text l) left r
      written l h st =
          let k = word-here l h st in
          let v = w.told l.arguments h.arguments (sym (ea ∙ k.2)) k.3 in
          let named = rw (← append_assoc (sign_text l.negative) (bytes "p") (decimal_text l.predicate)) at (joined (rw (eb ∙ k.0) at s) (rw (ep ∙ k.1) at f)) in
          record { passed = omega (arith, v.passed); written = joined named v.written }

-- limits may be wider
mutual
  unfolding TermWithin TermsWithin

  term_wider : (t : Term ℕ) (v u : ℕ) → v ≤ u → TermWithin t v → TermWithin t u
  term_wider (var x) v u few h = omega (arith, h)
  term_wider (app f ts) v u few h = (h.0, h.1, terms_wider ts v u few h.2)

  terms_wider : (ts : Terms ℕ) (v u : ℕ) → v ≤ u → TermsWithin ts v → TermsWithin ts u
  terms_wider nil v u few h = tt
  terms_wider (t then ts) v u few h = (term_wider t v u few h.0, terms_wider ts v u few h.1)

literals_wider : (ls : List (Literal ℕ)) {v : ℕ} → v ≤ 16 → Each (LiteralWithin v) ls → Each (LiteralWithin 1024) ls
unfolding Each
literals_wider [] few h = tt
literals_wider (l ∷ ls) {v} few h =
    (record { predicate = h.0.predicate; arity = h.0.arity; arguments = terms_wider l.arguments v 1024 (omega arith) h.0.arguments }, literals_wider ls few h.1)

-- the first of some literals, and the others behind it
split : {own : List ℕ} {at many : ℕ} → LiteralsHere own at many → 0 < many
    → (l : Literal ℕ) × (ks : List (Literal ℕ)) × LiteralWithin 1024 l × StandAt own at (literal_words l) × LiteralsHere own (at + length (literal_words l)) (many - 1) × (literals_from (drop at own) ≡ l ∷ ks) × (literals_from (drop (at + length (literal_words l)) own) ≡ ks)
unfolding literals_words Each
split {own} {at} {many} h some = parts h.literals h.within h.count h.words
  where
    parts : (ls : List (Literal ℕ)) → Each (LiteralWithin 1024) ls → length ls ≡ many → drop at own ≡ literals_words ls
        → (l : Literal ℕ) × (ks : List (Literal ℕ)) × LiteralWithin 1024 l × StandAt own at (literal_words l) × LiteralsHere own (at + length (literal_words l)) (many - 1) × (literals_from (drop at own) ≡ l ∷ ks) × (literals_from (drop (at + length (literal_words l)) own) ≡ ks)
    parts [] w c e = absurd (omega (arith, c, some))
    parts (l ∷ ks) w c e =
        let behind : drop (at + length (literal_words l)) own ≡ literals_words ks =
        sym (drop-drop (length (literal_words l)) at own) ∙ ap (λ (ws : List ℕ). drop (length (literal_words l)) ws) e ∙ drop-append_seam (literal_words l) (literals_words ks) in (
          l,
          ks,
          w.0,
          record { rest = literals_words ks; begin = e },
          record { literals = ks; within = w.1; count = omega (arith, c); words = behind },
          ap (λ (ws : List ℕ). literals_from ws) e ∙ literals_decoded (l ∷ ks) (omega arith) w,
          ap (λ (ws : List ℕ). literals_from ws) behind ∙ literals_decoded ks (omega arith) w.1,
        )

none_left : {own : List ℕ} {at many : ℕ} → LiteralsHere own at many → many ≤ 0 → literals_from (drop at own) ≡ []
unfolding literals_words literals_from
none_left {own} {at} {many} h z = parts h.literals h.count h.words
  where
    parts : (ls : List (Literal ℕ)) → length ls ≡ many → drop at own ≡ literals_words ls → literals_from (drop at own) ≡ []
    parts [] c e = ap (λ (ws : List ℕ). literals_from ws) e
    parts (l ∷ ks) c e = absurd (omega (arith, c, z))

-- further literals: so many are still owed
pub record Owed (own : List ℕ) (next owed : ℕ) (first : List ℕ) (from : ℕ) (whole out : List ℕ) (end : ℕ) : Type 0 where
  pub here : LiteralsHere own next owed
  pub left : Left first from whole out end (alternatives_text (literals_from (drop next own)))

module _ {own : List ℕ} where
  pub owed_begin : {at many : ℕ} → LiteralsHere own at many → (out : List ℕ) (from : ℕ) → Owed own at many out from (alternatives_text (literals_from (drop at own))) out from
  owed_begin h out from = record { here = h; left = begin out from _ }

  module _ {next owed : ℕ} {first : List ℕ} {from : ℕ} {whole out : List ℕ} {end : ℕ} (o : Owed own next owed first from whole out end) where
    pub owed_done : owed ≤ 0 → Put first from whole out end
    unfolding alternatives_text
    owed_done z = finish (rw (none_left o.here z) at o.left)

    pub owed_size : length out ≡ length first
    owed_size = o.left.size

    module _ (some : 0 < owed) where
      pub owed_here : LiteralHere own next
      owed_here = let k = split o.here some in record { literal = k.0; within = k.2; stands = k.3 }

      one-less : {mid : List ℕ} {bar : ℕ} → Put out end (bytes " | ") mid bar → {later : List ℕ} {r : Reached} → LiteralWritten own next mid bar later r
          → Owed own r.word (owed - 1) first from whole later r.byte
      unfolding alternatives_text
      one-less p w =
          let k = split o.here some in
          let v = w.told k.0 k.2 k.3 in
          rw v.passed (record {
            here = k.4;
            left = rw k.6 (further (bytes " | " ++ literal_text k.0) (alternatives_text k.1) (rw k.5 at o.left) (joined p v.written));
          })

      pub owed_next : {left : ℕ} → left ≡ owed - 1 → {mid : List ℕ} {bar : ℕ} → Put out end (bytes " | ") mid bar → {later : List ℕ} {r : Reached}
          → LiteralWritten own next mid bar later r → Owed own r.word left first from whole later r.byte
      owed_next e p w = rw e (one-less p w)

-- the literals of a clause
module _ {own : List ℕ} (c : IsClause own) where
  pub clause_in : 0 < length own
  unfolding clause_words
  clause_in = rw c.words (omega arith)

  behind-word : drop 1 own ≡ literals_words (clause_of own).literals
  unfolding clause_words
  behind-word = ap (λ (ws : List ℕ). drop 1 ws) c.words

  module _ {n : ℕ} (e : n ≡ literals_of (get_or own 0 0)) where
    counted : length (clause_of own).literals ≡ n
    unfolding clause_words
    counted =
        let h = c.within in
        let count = clause_literals (length (clause_of own).literals) (clause_of own).variables (length (literals_words (clause_of own).literals)) (omega (arith, h.few)) (omega (arith, h.variables)) (omega (arith, h.follow)) (clause_of own).restricted in
        sym (e ∙ ap (λ (ws : List ℕ). literals_of (get_or ws 0 0)) c.words ∙ count)

    abbrev all_here : LiteralsHere own 1 n
    all_here = record {
      literals = (clause_of own).literals;
      within = literals_wider (clause_of own).literals c.within.variables c.within.literals;
      count = counted;
      words = behind-word;
    }

    pub clause_some : 0 < n
    clause_some = omega (arith, counted, c.within.some)

    pub clause_first : LiteralHere own 1
    clause_first = let k = split all_here clause_some in record { literal = k.0; within = k.2; stands = k.3 }

    module _ {out mid : List ℕ} {from : ℕ} {r : Reached} (w : LiteralWritten own 1 out from mid r) where
      pub clause_rest : LiteralsHere own r.word (n - 1)
      clause_rest = let k = split all_here clause_some in rw (w.told k.0 k.2 k.3).passed k.4

      pub literals_written : {left : List ℕ} {end : ℕ} → Put mid r.byte (alternatives_text (literals_from (drop r.word own))) left end
          → Put out from (literals_text (clause_of own).literals) left end
      unfolding literals_text
      literals_written p =
          let k = split all_here clause_some in
          let v = w.told k.0 k.2 k.3 in
          let first : (clause_of own).literals ≡ k.0 ∷ k.1 = sym (ap (λ (ws : List ℕ). literals_from ws) all_here.words ∙ literals_decoded all_here.literals (omega arith) all_here.within) ∙ k.5 in
          let rest : literals_from (drop r.word own) ≡ k.1 = ap (λ (n : ℕ). literals_from (drop n own)) v.passed ∙ k.6 in
          rw first (joined v.written (rw rest at p))

-- a role and a line
pub role_question : {b : Bool} → b ≡ true → {out left : List ℕ} {from end : ℕ} → Put out from (bytes ",negated_conjecture,(") left end
    → Put out from (bytes "," ++ role_text b ++ bytes ",(") left end
unfolding role_text
role_question {b} e p = rw e p

pub role_axiom : {b : Bool} → b ≡ false → {out left : List ℕ} {from end : ℕ} → Put out from (bytes ",axiom,(") left end
    → Put out from (bytes "," ++ role_text b ++ bytes ",(") left end
unfolding role_text
role_axiom {b} e p = rw e p

nested : (a b c d : List ℕ) → a ++ (b ++ c ++ d) ≡ a ++ b ++ c ++ d
nested a b c d = sym (append_assoc a (b ++ c) d) ∙ ap (λ (l : List ℕ). l ++ d) (sym (append_assoc a b c))

pub clause_written : (own : List ℕ) (number : ℕ) (asked : Bool) {out named opened closed left : List ℕ} {from a b d end : ℕ}
    → Put out from (bytes "cnf(c" ++ decimal_text number) named a
    → Put named a (bytes "," ++ role_text asked ++ bytes ",(") opened b
    → Put opened b (literals_text (clause_of own).literals) closed d
    → Put closed d (bytes ")).\n") left end
    → Put out from (clause_text number asked (clause_of own)) left end
unfolding clause_text
clause_written own number asked {out} {named} {opened} {closed} {left} {from} {a} {b} p q r s =
    let head = subst (λ (l : List ℕ). Put out from l opened b) (nested (bytes "cnf(c" ++ decimal_text number) (bytes ",") (role_text asked) (bytes ",(")) (joined p q) in
    joined (joined head r) s

pub ruleset clause_laws = (sign_shown, sign_hidden, literal_in, literal_next_fits, literal_arguments, literal_written, owed_begin, owed_done, owed_size, owed_here, owed_next, clause_in, clause_some, clause_first, clause_rest, literals_written, role_question, role_axiom, clause_written)
