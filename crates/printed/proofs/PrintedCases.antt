-- The cases of specs/PrintedCases.
use borrow.Author.Tests.{ltb-true}
use mathlib.Core.Bool.{Bool, true, false, ◌&&◌}
use mathlib.Core.List.{List, [], ◌∷◌, ◌++◌, flatten}
use mathlib.Core.Path.{◌≡◌, refl, sym, ap, subst, ◌∙◌}
use Prim.Native.Nat.{ℕ, zero, suc, ◌≤◌, ◌<◌}
use native.Mathlib.Omega.{arith}
use lib.Dec.{ltb}
use lib.ListN.{length, get_or, take, replicate, length-append, length-replicate}
use lib.Seq.{take_at, drop_at}
use Rattle.table.specs.Syntax.{var, nil, ◌then◌, Literal, Table}
use Rattle.table.specs.Limits.{Each, Within}
use Rattle.table.proofs.Bools.{and_left, and_right}
use Rattle.table.proofs.Opened as Opened
use Rattle.text.specs.Quoted.{bytes}
use Rattle.text.specs.Digits.{digits_of, significant}
use Rattle.clausetext.specs.Kinds.{kind_of, sign_kind, letter_kind}
use Rattle.clausetext.specs.Syntax as Spoken
use Rattle.clausetext.specs.Tokens.{Token, Spelt, nothing}
use Rattle.clausetext.specs.Grammar.{Applied, bare, applied, LiteralRule, positive, negated}
use Rattle.names.specs.Numbers.{Name, same_name, noted, known_after}
use Rattle.names.specs.Noting.{name_from, name_at, names_at}
use Rattle.tptp.specs.Reads.{Reads}
use Rattle.tptp.specs.Said as Said
use Rattle.tptp.specs.Said.{predicates, functions, table_said}
use Rattle.clauselines.specs.Lines as Written
use Rattle.clauselines.specs.Lines.{table_text}
use Rattle.naming.specs.Index.{name_of, function_places, predicate_places}
use Rattle.naming.specs.Noting.{Tells}
use Rattle.naming.specs.Shown.{joint_text, sign_text, closing, closed, opening, opened, shown_by, shown, names_in}
use Rattle.naming.specs.Texts.{term_text, arguments_text, further_text, literal_text, literals_text, going_on, begins, ReadAs}
use Rattle.rules.specs.Setting.{every_leaf, base}
use Rattle.rules.specs.Tableau.{Tableau, Closed}
use Rattle.rules.specs.Verdict.{Answers}
use Rattle.rules.specs.Machinery.Play.{answer_of, disjuncts_of}
use Rattle.rules.specs.Witnesses as W
use Rattle.rules.proofs.Demands.{closed_passed, accepted_has_answer}
use Rattle.rules.proofs.Every.{All, end, ◌also◌}
use Rattle.rules.proofs.Witnesses.{case_one_closes, case_one_answer, limits}
use Rattle.roundtrip.specs.Renumbered as Renumbered
use Rattle.roundtrip.specs.Renumbered.{renumbered}
use Rattle.roundtrip.specs.Written.{terms_written, literal_written, clause_written, axioms_written, table_written}
use Rattle.roundtrip.specs.Promises.{TextSays, SaysRenumbered, SameAnswers, answer_renumbered}
use Rattle.roundtrip.proofs.Examples.{typed_text, typed_read}
use Rattle.roundtrip.proofs.Promises.{text_says, says_renumbered, same_answers}
use Rattle.roundtrip.proofs.Limits.{renumbered_within}
use Rattle.roundtrip.proofs.SameProofs.{same_proofs}
use Rattle.printed.specs.Reading.{cut_at, Conjuncts, FurtherLines, Lines, lines, PrintedSays}
use Rattle.printed.specs.Promises.{names_said, printed}
use Rattle.printed.specs.PrintedCases.{clauses, symbol, at, matinee, evening, answer, SaidSo, NotSaidSo, CaseOne, typed, typed_file, AnyIndexWillDo}
use Rattle.printed.proofs.Lowers.{Lowers}
use Rattle.printed.proofs.OneReading.{said_once}
use Rattle.printed.proofs.Promises.{rows_printed}

unfoldable naming : Unit {0}
unfolding Said.functions_of Said.predicate_uses Said.function_uses Said.of_all known_after noted same_name
naming = tt

unfoldable printing : Unit {0}
unfolding naming flatten term_text arguments_text further_text literal_text literals_text joint_text sign_text digits_of significant
printing = tt

-- the names of the two clauses are tokens
lowers : Lowers (Said.of_all Said.predicate_uses clauses) × Lowers (Said.of_all Said.function_uses clauses)
unfolding naming going_on kind_of sign_kind letter_kind
lowers = (
  begins refl refl also begins refl refl also begins refl refl also end,
  begins refl refl also begins refl refl also begins refl refl also begins refl refl also begins refl refl also begins refl refl also begins refl refl
      also begins refl refl
      also end,
)

-- disjuncts over their symbols
unfoldable all_below : ℕ → List ℕ → Bool
all_below limit [] = true
all_below limit (n ∷ ns) = ltb n limit && all_below limit ns

below_all : (limit : ℕ) (ns : List ℕ) → all_below limit ns ≡ true → All (λ n. n < limit) ns
unfolding all_below
below_all limit [] e = end
below_all limit (n ∷ ns) e =
    ltb-true n limit (and_left (ltb n limit) (all_below limit ns) e) also below_all limit ns (and_right (ltb n limit) (all_below limit ns) e)

record Fine (ds : List (List (Literal ℕ))) : Type 0 where
  predicates_fit : all_below (length (predicates clauses)) (Renumbered.predicate_uses (flatten ds)) ≡ true
  functions_fit : all_below (length (functions clauses)) (Renumbered.function_uses (flatten ds)) ≡ true
  few : all_below 1024 (Renumbered.variable_uses (flatten ds)) ≡ true
  own : All (λ n. Renumbered.number_in (Renumbered.first_uses (Renumbered.variable_uses (flatten ds))) n ≡ n) (Renumbered.variable_uses (flatten ds))

says_so : (more : ℕ) (ds : List (List (Literal ℕ))) → 1 ≤ length ds → Each (λ d. length d ≡ suc more) ds → Fine ds → (text : List ℕ)
    → literals_text (names_said clauses) (suc more) 0 (flatten ds) ≡ text → PrintedSays clauses text ds
says_so more ds some alike f text e =
    subst (λ (t : List ℕ). PrintedSays clauses t ds) e
    (rows_printed clauses lowers more ds some alike
    (record {
      predicates_below = below_all (length (predicates clauses)) (Renumbered.predicate_uses (flatten ds)) f.predicates_fit;
      functions_below = below_all (length (functions clauses)) (Renumbered.function_uses (flatten ds)) f.functions_fit;
      few = below_all 1024 (Renumbered.variable_uses (flatten ds)) f.few;
      own = f.own;
    }))

unfoldable using_symbols : Unit {0}
unfolding naming flatten all_below Each Renumbered.functions_of Renumbered.variables_of Renumbered.predicate_uses Renumbered.function_uses Renumbered.variable_uses Renumbered.noted Renumbered.known_after Renumbered.number_in
using_symbols = tt

constants : (ds : List (List (Literal ℕ))) → all_below (length (predicates clauses)) (Renumbered.predicate_uses (flatten ds)) ≡ true
    → all_below (length (functions clauses)) (Renumbered.function_uses (flatten ds)) ≡ true → Renumbered.variable_uses (flatten ds) ≡ [] → Fine ds
unfolding all_below
constants ds p f v = record { predicates_fit = p; functions_fit = f; few = rw v; own = rw v end }

abbrev crossed : List (List (Literal ℕ))
crossed = (at false (var 0) (symbol 1) (var 1) ∷ []) ∷ (at false (var 1) (symbol 1) (var 0) ∷ []) ∷ []

crossed_fine : Fine crossed
unfolding using_symbols
crossed_fine = record { predicates_fit = refl; functions_fit = refl; few = refl; own = ◌also◌ {a = 0} refl (◌also◌ {a = 1} refl (◌also◌ {a = 1} refl (◌also◌ {a = 0} refl end))) }

two_disjuncts : PrintedSays clauses (bytes "at(hamlet,may3,matinee)\nor at(hamlet,may3,evening)") answer
unfolding using_symbols printing
two_disjuncts = says_so 0 answer (omega arith) (refl, (refl, tt)) (constants answer refl refl refl) _ refl

two_literals : PrintedSays clauses (bytes "at(hamlet,may3,matinee) & at(hamlet,may3,evening)") ((matinee ∷ evening ∷ []) ∷ [])
unfolding using_symbols printing
two_literals = says_so 1 ((matinee ∷ evening ∷ []) ∷ []) (omega arith) (refl, tt) (constants ((matinee ∷ evening ∷ []) ∷ []) refl refl refl) _ refl

with_variables : PrintedSays clauses (bytes "at(X0,may3,X1)\nor at(X1,may3,X0)") crossed
unfolding using_symbols printing
with_variables = says_so 0 crossed (omega arith) (refl, (refl, tt)) crossed_fine _ refl

pub said_so : SaidSo
said_so = record { two_disjuncts = two_disjuncts; two_literals = two_literals; variables = with_variables }

-- what other texts say is not the answer
abbrev first_of : List (List (Literal ℕ)) → Literal ℕ
first_of [] = matinee
first_of ([] ∷ ds) = matinee
first_of ((l ∷ ls) ∷ ds) = l

abbrev sign_of : Bool → ℕ
sign_of true = 1
sign_of false = 0

module _ {text : List ℕ} {ds : List (List (Literal ℕ))} (says : PrintedSays clauses text ds) (so : PrintedSays clauses text answer) where
  same : ds ≡ answer
  same = said_once clauses text ds answer says so

  same_count : length ds ≡ 2
  same_count = ap (λ (es : List (List (Literal ℕ))). length es) same

  same_sign : sign_of (first_of ds).negative ≡ 0
  same_sign = ap (λ (es : List (List (Literal ℕ))). sign_of (first_of es).negative) same

  same-arguments : (first_of ds).arguments ≡ symbol 0 then symbol 1 then symbol 2 then nil
  same-arguments = ap (λ (es : List (List (Literal ℕ))). (first_of es).arguments) same

abbrev short : ℕ → List (Literal ℕ)
short time = record { negative = false; predicate = 0; arguments = symbol 0 then symbol time then nil } ∷ []

shorter : PrintedSays clauses (bytes "at(hamlet,matinee)\nor at(hamlet,evening)") (short 2 ∷ short 3 ∷ [])
unfolding using_symbols printing
shorter = says_so 0 (short 2 ∷ short 3 ∷ []) (omega arith) (refl, (refl, tt)) (constants (short 2 ∷ short 3 ∷ []) refl refl refl) _ refl

twice : PrintedSays clauses (bytes "at(hamlet,may3,evening)\nor at(hamlet,may3,evening)") ((evening ∷ []) ∷ (evening ∷ []) ∷ [])
unfolding using_symbols printing
twice = says_so 0 ((evening ∷ []) ∷ (evening ∷ []) ∷ []) (omega arith) (refl, (refl, tt)) (constants ((evening ∷ []) ∷ (evening ∷ []) ∷ []) refl refl refl) _ refl

abbrev denial : ℕ → List (Literal ℕ)
denial time = at true (symbol 0) (symbol 1) (symbol time) ∷ []

denials : PrintedSays clauses (bytes "~ at(hamlet,may3,matinee)\nor ~ at(hamlet,may3,evening)") (denial 2 ∷ denial 3 ∷ [])
unfolding using_symbols printing
denials = says_so 0 (denial 2 ∷ denial 3 ∷ []) (omega arith) (refl, (refl, tt)) (constants (denial 2 ∷ denial 3 ∷ []) refl refl refl) _ refl

-- a further line begins with `or`, and a literal has a token
further_or : {first second : List ℕ} {rest : List (List ℕ)} {ds : List (List Spoken.Literal)} → Lines (first ∷ second ∷ rest) ds → get_or second 0 0 ≡ 111
further_or (lines x (FurtherLines.more y ys)) = refl

applied_some : {f : List ℕ} {ts : Spoken.Terms} {from rest : List Token} → Applied f ts from rest → 1 ≤ length from
applied_some bare = omega arith
applied_some (applied a) = omega arith

literal_some : {l : Spoken.Literal} {from rest : List Token} → LiteralRule l from rest → 1 ≤ length from
literal_some (positive a) = applied_some a
literal_some (negated a) = omega arith

spelt_none : {ts : List Token} → Spelt ts [] → length ts ≡ 0
spelt_none nothing = refl

no_literal : {l : Spoken.Literal} → ReadAs [] l → ⊥
no_literal r = omega (arith, literal_some r.rule, spelt_none r.spelt)

no_conjunct : {ls : List Spoken.Literal} → Conjuncts ([] ∷ []) ls → ⊥
no_conjunct (Conjuncts.more r x) = no_literal r

no_line : {ds : List (List Spoken.Literal)} → Lines ([] ∷ []) ds → ⊥
unfolding cut_at
no_line (lines x y) = no_conjunct x

not_without_or : (ds : List (List (Literal ℕ))) → ¬ PrintedSays clauses (bytes "at(hamlet,may3,matinee)\nat(hamlet,may3,evening)") ds
unfolding cut_at
not_without_or ds says = let z : ◌≡◌ {A = ℕ} 97 111 = further_or says.says in omega arith

not_nothing : (ds : List (List (Literal ℕ))) → ¬ PrintedSays clauses [] ds
unfolding cut_at
not_nothing ds says = no_line says.says

pub not_said_so : NotSaidSo
not_said_so = record {
  joined = λ so. let z : ◌≡◌ {A = ℕ} 1 2 = same_count two_literals so in omega arith;
  left_out = λ so. let e = same-arguments shorter so in let z : ◌≡◌ {A = ℕ} 0 1 = cc in omega arith;
  other = λ so. let e = same-arguments twice so in let z : ◌≡◌ {A = ℕ} 3 2 = cc in omega arith;
  denied = λ so. let z : ◌≡◌ {A = ℕ} 1 0 = same_sign denials so in omega arith;
  without_or = not_without_or;
  no_text = not_nothing;
}

-- Document 01's case 1: its text, and an index of the names in it.
abbrev text : List ℕ
text = table_text W.season

abbrev said : List Spoken.Clause
said = table_written W.season

unfoldable writing : Unit {0}
unfolding Written.term_text Written.sign_text Written.literal_text Written.alternatives_text Written.literals_text Written.role_text Written.clause_text Written.axioms_text table_text digits_of significant table_written axioms_written clause_written literal_written terms_written
writing = tt

-- places where names stand, and the text's end for every further number
abbrev blanks : ℕ → List ℕ
blanks n = replicate n 81

functions_at : List ℕ
functions_at = (17 ∷ 20 ∷ 32 ∷ []) ++ blanks 4093

predicates_at : List ℕ
predicates_at = (14 ∷ []) ++ blanks 4095

abbrev index : List ℕ
index = functions_at ++ (predicates_at ++ blanks 8704)

functions_long : length functions_at ≡ 4096
unfolding functions_at
functions_long = omega (arith, length-append (17 ∷ 20 ∷ 32 ∷ []) (blanks 4093), length-replicate {A = ℕ} 4093 81)

predicates_long : length predicates_at ≡ 4096
unfolding predicates_at
predicates_long = omega (arith, length-append (14 ∷ []) (blanks 4095), length-replicate {A = ℕ} 4095 81)

module _ (bytes : List ℕ) (end : ℕ) (none : name_at bytes end ≡ []) where
  blank-names : (k n : ℕ) → get_or (names_at bytes (replicate k end)) n [] ≡ []
  blank-names zero n = refl
  blank-names (suc k) zero = none
  blank-names (suc k) (suc n) = blank-names k n

  padded-names : (places : List ℕ) (k n : ℕ) → get_or (names_at bytes (places ++ replicate k end)) n [] ≡ get_or (names_at bytes places) n []
  padded-names [] k n = blank-names k n
  padded-names (at ∷ places) k zero = refl
  padded-names (at ∷ places) k (suc n) = padded-names places k n

no_name : name_at text 81 ≡ []
unfolding writing name_from
no_name = refl

function_names : names_at text (17 ∷ 20 ∷ 32 ∷ []) ≡ functions said
unfolding writing naming name_from kind_of sign_kind letter_kind
function_names = refl

predicate_names : names_at text (14 ∷ []) ≡ predicates said
unfolding writing naming name_from kind_of sign_kind letter_kind
predicate_names = refl

function_places_lem : function_places index ≡ (17 ∷ 20 ∷ 32 ∷ []) ++ blanks 4093
unfolding functions_at
function_places_lem = take_at functions_at (predicates_at ++ blanks 8704) 4096 functions_long

predicate_places_lem : predicate_places index ≡ (14 ∷ []) ++ blanks 4095
unfolding predicates_at
predicate_places_lem =
    ap (λ (l : List ℕ). take 4096 l) (drop_at functions_at (predicates_at ++ blanks 8704) 4096 functions_long) ∙ take_at predicates_at (blanks 8704) 4096 predicates_long

tells_names : Tells text index said
tells_names = record {
  functions = λ n.
      ap (λ (places : List ℕ). name_of text places n) function_places_lem ∙ padded-names text 81 no_name (17 ∷ 20 ∷ 32 ∷ []) 4093 n
      ∙ ap (λ (names : List Name). get_or names n []) function_names;
  predicates = λ n.
      ap (λ (places : List ℕ). name_of text places n) predicate_places_lem ∙ padded-names text 81 no_name (14 ∷ []) 4095 n
      ∙ ap (λ (names : List Name). get_or names n []) predicate_names;
}

-- a proof over its table, and the answer
record Proved (words : List ℕ) (t : Table) : Type 0 where
  within : Within t
  closed : Closed (base t 2) W.proof
  answers : Answers t closed.tableau 2 words

abbrev answer_now : List ℕ
answer_now = answer_renumbered W.season W.answer

renumbered_proved : Proved answer_now (renumbered W.season)
unfolding SameAnswers
renumbered_proved =
    let c = case_one_closes.0 in
    let d = (same_proofs every_leaf W.season 2 W.proof).0 c in
    let p = closed_passed (base (renumbered W.season) 2) W.proof d in
    let a = accepted_has_answer (base (renumbered W.season) 2) W.proof p.0 p.1 in
    let b : Answers (renumbered W.season) d.tableau (disjuncts_of (renumbered W.season) p.0) (answer_of (renumbered W.season) p.0) =
    subst (λ (x : Tableau). Answers (renumbered W.season) x (disjuncts_of (renumbered W.season) p.0) (answer_of (renumbered W.season) p.0)) p.2 a in
    let same =
    same_answers every_leaf W.season 2 W.proof limits.0 (omega arith) c d 2 (disjuncts_of (renumbered W.season) p.0) W.answer (answer_of (renumbered W.season) p.0) (case_one_answer c).0 b in
    record { within = renumbered_within W.season limits.0; closed = d; answers = rw (same.0, same.1) at b }

season_proved : Proved answer_now (table_said said)
unfolding SaysRenumbered
season_proved = subst (λ (t : Table). Proved answer_now t) (sym (says_renumbered W.season limits.0)) renumbered_proved

season_words : answer_now ≡ 0x80002000 ∷ 0x40000000 ∷ 0x40000001 ∷ 0x80002000 ∷ 0x40000000 ∷ 0x40000002 ∷ []
unfolding Opened.opened answer_renumbered Renumbered.functions_of Renumbered.predicate_uses Renumbered.function_uses Renumbered.of_all Renumbered.noted Renumbered.known_after Renumbered.number_in Renumbered.renamed_term Renumbered.renamed_literal
season_words = refl

one_literal : length (table_said said).question.literals ≡ 1
unfolding naming table_said Said.clause_said Said.literals_said Said.asked writing
one_literal = refl

season_shown : printed (names_in text index []) (table_said said).question answer_now ≡ bytes "p1(f1,f2)\nor p1(f1,f3)"
unfolding writing name_from kind_of sign_kind letter_kind functions_at predicates_at shown shown_by joint_text sign_text closing closed opening opened
season_shown = rw (one_literal, season_words) refl

pub case_one : CaseOne
unfolding TextSays
case_one = record {
  text = text;
  index = index;
  said = said;
  says = text_says W.season limits.0;
  within = season_proved.within;
  tells = tells_names;
  closed = season_proved.closed;
  words = answer_now;
  answers = season_proved.answers;
  shows = season_shown;
}

-- a text that is read
typed_there : Reads typed (replicate 20 0xA5A5A5A5) (record { status = 0; place = 0; words = 18 }) (typed_file ++ (0xA5A5A5A5 ∷ 0xA5A5A5A5 ∷ []))
typed_there = subst (λ (t : List ℕ). Reads t (replicate 20 0xA5A5A5A5) (record { status = 0; place = 0; words = 18 }) (typed_file ++ (0xA5A5A5A5 ∷ 0xA5A5A5A5 ∷ []))) typed_text typed_read

pub any_index_will_do : AnyIndexWillDo
any_index_will_do cs says _ made indexed = record {
  says = says;
  buffer = replicate 20 0xA5A5A5A5;
  left = typed_file ++ (0xA5A5A5A5 ∷ 0xA5A5A5A5 ∷ []);
  outcome = record { status = 0; place = 0; words = 18 };
  reads = typed_there;
  accepted = refl;
  written = refl;
  made = made;
  indexed = indexed;
}
