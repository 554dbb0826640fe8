-- A file with gaps in its numbers, unused variables, and a predicate and a function each at two arities; its text, and what it comes back as, computed.
use mathlib.Core.Bool.{Bool, true, false, ◌&&◌}
use mathlib.Core.List.{List, [], ◌∷◌, ◌++◌}
use mathlib.Core.Path.{◌≡◌, refl, ap}
use Prim.Native.Nat.{ℕ, ◌^◌}
use borrow.Author.Tests.{ltb-true}
use native.Mathlib.Omega.{arith}
use lib.Dec.{ltb}
use lib.ListN.{length, replicate}
use Rattle.text.specs.Quoted.{bytes}
use Rattle.text.specs.Digits.{digits_of, significant}
use Rattle.table.specs.Syntax.{var, app, nil, ◌then◌, Table}
use Rattle.table.specs.Encode.{file_words}
use Rattle.table.specs.Seen.{unrestricted_of}
use Rattle.table.specs.Limits.{Each, Words}
use Rattle.table.specs.File.{judge, table_in}
use Rattle.table.proofs.Bools.{and_left, and_right}
use Rattle.table.proofs.Opened as Opened
use Rattle.rules.specs.Setting.{every_leaf}
use Rattle.rules.specs.Verdict.{malformed, not_allowed, status_of, CheckVerdict, accepted, refused}
use Rattle.rules.proofs.Cases.{Returned, refused_at, checking, asked, played}
use Rattle.tptp.specs.Reads.{Reads}
use Rattle.clauselines.specs.declared.TextWritten.{TextWritten}
use Rattle.clauselines.specs.Call.{if_it_fits, write_call}
use Rattle.clauselines.specs.Lines.{term_text, sign_text, literal_text, alternatives_text, literals_text, role_text, clause_text, axioms_text, table_text}
use Rattle.roundtrip.specs.Renumbered.{noted, known_after, number_in, functions_of, variables_of, predicate_uses, function_uses, variable_uses, of_all, renamed_term, renamed_literal, renumbered_clause, renumbered, AlreadySo}
use Rattle.roundtrip.specs.Promises.{Returns, ReadsBack, Written, SaysTheSame, accepts, refuses, answer_renumbered}
use Rattle.roundtrip.proofs.Promises.{reads_back}

unfoldable opened : Unit {0}
unfolding Opened.opened digits_of significant term_text sign_text literal_text alternatives_text literals_text role_text clause_text axioms_text table_text
opened = tt

-- 7 and 4 are the predicates, 9 and 2 the functions; 9 stands with one argument and with none; variable counts 5 and 1, of which 2 and 0 are used
abbrev typed : List ℕ
typed =
    0xC000062A ∷ 0x80002007 ∷ 0x40001009 ∷ 0x00000003 ∷ 0x40000009 ∷ 0x80009004 ∷ 0x00000001 ∷ 0xC000060A ∷ 0x8000A007 ∷ 0x40000002 ∷ 0x40000009
    ∷ 0x80009004 ∷ 0x40001009 ∷ 0x40000002 ∷ 0x00000007 ∷ 0x00000002 ∷ 0x53F4B293 ∷ 0x0000000E ∷ []

abbrev back : List ℕ
back =
    0xC0000612 ∷ 0x80002000 ∷ 0x40001000 ∷ 0x00000000 ∷ 0x40000000 ∷ 0x80009001 ∷ 0x00000001 ∷ 0xC0000602 ∷ 0x8000A000 ∷ 0x40000001 ∷ 0x40000000
    ∷ 0x80009001 ∷ 0x40001000 ∷ 0x40000001 ∷ 0x00000007 ∷ 0x00000002 ∷ 0x99675DC4 ∷ 0x0000000E ∷ []

pub typed_accepted : (judge typed).status ≡ 0
unfolding opened
typed_accepted = refl

pub typed_text : table_text (table_in typed)
    ≡ bytes "cnf(c0,axiom,(p7(f9(X3),f9) | ~ p4(X1))).\ncnf(c1,negated_conjecture,(~ p7(f2,f9) | ~ p4(f9(f2)))).\n"
unfolding opened
typed_text = refl

unfoldable renumbering : Unit {0}
unfolding Opened.opened noted known_after number_in functions_of variables_of predicate_uses function_uses variable_uses of_all renamed_term renamed_literal renumbered_clause renumbered
renumbering = tt

pub typed_back : file_words (renumbered (table_in typed)) ≡ back
unfolding renumbering
typed_back = refl

-- the promises' premise can be met
text_length : length (table_text (table_in typed)) ≡ 99
unfolding opened
text_length = refl

words_below : List ℕ → Bool
words_below [] = true
words_below (w ∷ ws) = ltb w (2 ^ 32) && words_below ws

words_fit : (ws : List ℕ) → words_below ws ≡ true → Words ws
unfolding words_below Each
words_fit [] e = tt
words_fit (w ∷ ws) e =
    (ltb-true w (2 ^ 32) (and_left (ltb w (2 ^ 32)) (words_below ws) e), words_fit ws (and_right (ltb w (2 ^ 32)) (words_below ws) e))

pub typed_returns : Returns typed (replicate 20 0xA5A5A5A5)
unfolding words_below
typed_returns = record {
  words = words_fit typed refl;
  accepted = typed_accepted;
  short = omega (arith, text_length);
  room = omega arith;
}

pub typed_read : Reads (table_text (table_in typed)) (replicate 20 0xA5A5A5A5) (record { status = 0; place = 0; words = 18 }) (back ++ (0xA5A5A5A5 ∷ 0xA5A5A5A5 ∷ []))
unfolding ReadsBack
typed_read =
    (reads_back typed (replicate 20 0xA5A5A5A5) typed_returns (record { status = 0; place = 0; words = 18 }) (back ++ (0xA5A5A5A5 ∷ 0xA5A5A5A5 ∷ []))).1
    (rw typed_back (record { numbers = refl; written = refl }))

-- it was not so before, and is so now
pub typed_not_so : AlreadySo (table_in typed) → ⊥
unfolding AlreadySo renumbering
typed_not_so so = let e : ◌≡◌ {A = ℕ} 0 1 = ap (λ (t : Table). t.question.variables) so in omega arith

pub back_so : AlreadySo (table_in back)
unfolding AlreadySo renumbering
back_so = refl

-- with a clause restricted it is accepted, is not so, and comes back with the mark off
abbrev marked : List ℕ
marked =
    0xC0010612 ∷ 0x80002000 ∷ 0x40001000 ∷ 0x00000000 ∷ 0x40000000 ∷ 0x80009001 ∷ 0x00000001 ∷ 0xC0000602 ∷ 0x8000A000 ∷ 0x40000001 ∷ 0x40000000
    ∷ 0x80009001 ∷ 0x40001000 ∷ 0x40000001 ∷ 0x00000007 ∷ 0x00000002 ∷ 0xDB446809 ∷ 0x0000000E ∷ []

pub marked_accepted : (judge marked).status ≡ 0
unfolding opened
marked_accepted = refl

pub marked_not_so : AlreadySo (table_in marked) → ⊥
unfolding AlreadySo renumbering
marked_not_so so = let e : ◌≡◌ {A = ℕ} 1 0 = ap (λ (t : Table). length (unrestricted_of t.clauses)) so in omega arith

pub marked_back : file_words (renumbered (table_in marked)) ≡ back
unfolding renumbering
marked_back = refl

back_text : length (table_text (table_in back)) ≡ 99
unfolding opened
back_text = refl

back_accepted : (judge back).status ≡ 0
unfolding opened
back_accepted = refl

pub back_returns : Returns back (replicate 18 0)
unfolding words_below
back_returns = record { words = words_fit back refl; accepted = back_accepted; short = omega (arith, back_text); room = omega arith }

-- a text written with room to spare
typed_told : (write_call typed 120).outcome ≡ record { status = 0; place = 0; bytes = 99 }
unfolding opened write_call if_it_fits
typed_told = refl

pub typed_written : Written typed (replicate 120 0) (replicate 20 0)
typed_written = record {
  words = typed_returns.words;
  status = ap (λ (w : TextWritten). w.status) typed_told;
  short = omega (arith, ap (λ (w : TextWritten). w.bytes) typed_told);
  room = omega arith;
}

-- words that are no file do not return
pub no_return : (buffer : List ℕ) → Returns [] buffer → ⊥
unfolding opened
no_return buffer r = omega (arith, r.accepted)

-- verdicts that do not say the same
abbrev status : CheckVerdict → ℕ
status (accepted x) = 0
status (refused r place) = status_of r

same_status : {c d : CheckVerdict} → SaysTheSame c d → status c ≡ status d
same_status (accepts e) = refl
same_status refuses = refl

pub other_reason : SaysTheSame (refused malformed 0) (refused not_allowed 0) → ⊥
other_reason s = omega (arith, same_status s)

-- p7(f9(X3),f9); ask p7(X2,f9): the same proof over both tables, and its answer with the numbers of both
unfoldable playing : Unit {0}
unfolding played renumbering answer_renumbered
playing = tt

abbrev gappy : Table
gappy =
    record {
      clauses = record { restricted = false; variables = 5; literals = record { negative = false; predicate = 7; arguments = app 9 (var 3 then nil) then app 9 nil then nil } ∷ [] } ∷ [];
      question = record { restricted = false; variables = 3; literals = record { negative = true; predicate = 7; arguments = var 2 then app 9 nil then nil } ∷ [] };
    }

abbrev found : List ℕ → Returned
found answer = record { status = 0; place = 0; proof = 0x40000000 ∷ []; disjuncts = 1; answer = answer; tries = 0 }

pub proved_old : asked every_leaf gappy (checking 1 (0x40000000 ∷ [])) ≡ found (0x80002007 ∷ 0x40001009 ∷ 0x00000000 ∷ 0x40000009 ∷ [])
unfolding playing
proved_old = refl

pub proved_new : asked every_leaf (renumbered gappy) (checking 1 (0x40000000 ∷ [])) ≡ found (0x80002000 ∷ 0x40001000 ∷ 0x00000000 ∷ 0x40000000 ∷ [])
unfolding playing
proved_new = refl

pub answer_numbers : answer_renumbered gappy (0x80002007 ∷ 0x40001009 ∷ 0x00000000 ∷ 0x40000009 ∷ []) ≡ 0x80002000 ∷ 0x40001000 ∷ 0x00000000 ∷ 0x40000000 ∷ []
unfolding playing
answer_numbers = refl

-- and a step that is refused over both, for the same reason: p7(f9(X3),f9) against p7(f2,f9)
pub refused_old : asked every_leaf (table_in typed) (checking 1 (0x40000000 ∷ [])) ≡ refused_at 14 0
unfolding playing
refused_old = refl

pub refused_new : asked every_leaf (table_in back) (checking 1 (0x40000000 ∷ [])) ≡ refused_at 14 0
unfolding playing
refused_new = refl
