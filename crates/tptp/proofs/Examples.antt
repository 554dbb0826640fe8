-- Clauses with their table and file computed: names numbered by first use over the whole text, the question moved last. And clauses that meet 18, 19 and 9.
use mathlib.Core.Bool.{true, false}
use mathlib.Core.List.{List, [], ◌∷◌}
use mathlib.Core.Path.{◌≡◌, refl}
use Prim.Native.Nat.{ℕ}
use native.Mathlib.Bridge.{le_by_compare, IsLe}
use native.Mathlib.Omega.{arith}
use lib.ListN.{replicate}
use Rattle.words.specs.Fingerprint.{fingerprint}
use Rattle.names.specs.Numbers.{same_name, noted, known_after, number_in}
use Rattle.clausetext.specs.Syntax.{Term, variable, application, nil, ◌then◌, Axiom, NegatedConjecture, Clause, ascii}
use Rattle.clausetext.specs.Texts.{questions}
use Rattle.clausetext.proofs.Examples.{one_said}
use Rattle.table.specs.Syntax.{arity, all_clauses}
use Rattle.table.specs.Encode.{term_words, literal_words, literals_words, clause_words, clauses_words, body_words, file_words}
use Rattle.table.specs.Limits.{Each, TermWithin, Within}
use Rattle.tptp.specs.Said.{functions_of, variables_of, predicate_uses, function_uses, variable_uses, of_all, term_said, literal_said, literals_said, clause_said, clauses_said, stated, asked, table_said}
use Rattle.tptp.specs.Reads.{refused, Fits, Denied, Answered, unasked, read, Reads, fine}

constant : List ℕ → Term
constant c = application c nil

-- cnf(q,negated_conjecture,~ p(X,b)). cnf(c,axiom,(p(f(a),a) | ~ q(Y,X,Y))).
pub asking : Clause
asking = record {
  name = ascii "q";
  role = NegatedConjecture;
  literals = record { negative = true; predicate = ascii "p"; arguments = variable (ascii "X") then constant (ascii "b") then nil } ∷ [];
}

pub stating : Clause
stating = record {
  name = ascii "c";
  role = Axiom;
  literals =
      record { negative = false; predicate = ascii "p"; arguments = application (ascii "f") (constant (ascii "a") then nil) then constant (ascii "a") then nil }
      ∷ record { negative = true; predicate = ascii "q"; arguments = variable (ascii "Y") then variable (ascii "X") then variable (ascii "Y") then nil }
      ∷ [];
}

-- p is 0 and q is 1; b is 0, f is 1 and a is 2, since the question comes first in the text; in the second clause Y is 0 and X is 1
pub words_said : body_words (table_said (asking ∷ stating ∷ []))
    ≡ 0xC0000812 ∷ 0x80002000 ∷ 0x40001001 ∷ 0x40000002 ∷ 0x40000002 ∷ 0x8000B001 ∷ 0x00000000 ∷ 0x00000001 ∷ 0x00000000
    ∷ 0xC0000309 ∷ 0x8000A000 ∷ 0x00000000 ∷ 0x40000000 ∷ []
unfolding body_words clauses_words clause_words literals_words literal_words term_words all_clauses table_said clauses_said clause_said literals_said literal_said term_said stated asked of_all predicate_uses function_uses variable_uses functions_of variables_of known_after noted number_in same_name arity constant asking stating
words_said = refl

-- exactly one question; none, and two
pub one_asked : questions (asking ∷ stating ∷ []) ≡ 1
unfolding questions asking stating
one_asked = refl

pub none_asked : questions (stating ∷ []) ≡ 0
unfolding questions stating
none_asked = refl

pub two_asked : questions (asking ∷ asking ∷ []) ≡ 2
unfolding questions asking
two_asked = refl

-- a question that is denied, and one with a positive literal
pub denied : Denied (table_said (asking ∷ []))
unfolding table_said clause_said literals_said literal_said asked asking Each
denied = (refl, tt)

pub stated_question : Clause
stated_question = record { name = ascii "q"; role = NegatedConjecture; literals = record { negative = false; predicate = ascii "p"; arguments = nil } ∷ [] }

pub not_denied : Denied (table_said (stated_question ∷ [])) → ⊥
unfolding table_said clause_said literals_said literal_said asked stated_question Each
not_denied d = let e = d.0 in let z : ◌≡◌ {A = ℕ} 0 1 = cc in omega arith

-- five arguments are over a limit
pub five : Clause
five = record {
  name = ascii "q";
  role = NegatedConjecture;
  literals = record {
    negative = true;
    predicate = ascii "p";
    arguments = variable (ascii "X") then variable (ascii "X") then variable (ascii "X") then variable (ascii "X") then variable (ascii "X") then nil;
  } ∷ [];
}

pub five_over : Within (table_said (five ∷ [])) → ⊥
unfolding all_clauses table_said clause_said clauses_said literals_said literal_said stated asked five term_said arity Each
five_over w = omega (arith, w.clauses.0.literals.0.arity)

one_question : questions (asking ∷ []) ≡ 1
unfolding questions asking
one_question = refl

-- a text's clauses that fit: the limits can be met
pub asking_fits : Fits (table_said (asking ∷ [])) 8
unfolding file_words body_words clauses_words clause_words literals_words literal_words term_words all_clauses table_said clauses_said clause_said literals_said literal_said term_said stated asked of_all predicate_uses function_uses variable_uses functions_of variables_of known_after noted number_in same_name arity constant asking Each TermWithin
asking_fits = record {
  within = record {
    few = omega arith;
    clauses = (
      record {
        some = omega arith;
        few = omega arith;
        variables = omega arith;
        follow = omega arith;
        literals = (record { predicate = omega arith; arity = omega arith; arguments = (omega arith, ((omega arith, omega arith, tt), tt)) }, tt);
      },
      tt,
    );
  };
  short = omega arith;
  room = omega arith;
}

pub asking_read : Answered (asking ∷ []) (replicate 8 7)
    (record { status = 0; place = 0; words = 8 })
    (0xC0000309 ∷ 0x8000A000 ∷ 0x00000000 ∷ 0x40000000 ∷ 0 ∷ 1 ∷ fingerprint (body_words (table_said (asking ∷ []))) ∷ 4 ∷ [])
unfolding file_words body_words clauses_words clause_words literals_words literal_words term_words all_clauses table_said clauses_said clause_said literals_said literal_said term_said stated asked of_all predicate_uses function_uses variable_uses functions_of variables_of known_after noted number_in same_name arity constant asking
asking_read = read one_question asking_fits denied

-- a whole text: permitted, and without a question
pub text_unasked : (file : List ℕ) → Reads (ascii "cnf(a,axiom,~p(X)). % so") file (refused 18 0) file
unfolding questions IsLe
text_unasked file = fine (le_by_compare 24 65536 tt) one_said (unasked (λ e. omega arith))
