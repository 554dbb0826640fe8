-- Texts of the order and of its decisions, judged by computation: permitted ones, and one that is wrong at each kind of place.
use Rattle.std.specs.Prelude.{Err}
use mathlib.Core.Path.{◌≡◌, refl}
use mathlib.Core.Bool.{true, false}
use mathlib.Core.List.{[], ◌∷◌}
use Prim.Native.Nat.{ℕ}
use native.Mathlib.Omega.{arith}
use lib.Dec.{eqb}
use lib.ListN.{replicate, length-replicate}
use borrow.Author.Tests.{eqb-false}
use Rattle.clausetext.specs.declared.kind.Mark.TheVariants.{Open, Close, Comma, Tilde, Dot}
use Rattle.clausetext.specs.Kinds.{kind_of, sign_kind, letter_kind}
use Rattle.clausetext.specs.Syntax.{ascii, variable, nil, ◌then◌, Axiom}
use Rattle.clausetext.specs.Tokens.{word, capital, mark, word_ahead, ends, goes, blank, comment, sign, lower, upper, Remark, stops, further}
use Rattle.clausetext.specs.Grammar.{applied, TermRule, Arguments, negated, Disjunction, plain, clause, Clauses, none}
use Rattle.clausetext.specs.Texts.{counts, Says, Permitted, CanGoOn, long}
use Rattle.clausetext.specs.Judging.{row, owed_at, on_ended, on_sign, signed, on_role, on_lower, on_upper, on_kind, on_byte, step_of, settled, may_end, finished, run, judged}
use Rattle.clausetext.proofs.Judgement.{read_wrong, wrong_not_permitted, only_verdict}

unfoldable opened : Unit {0}
unfolding row owed_at on_ended on_sign signed on_role on_lower on_upper on_kind on_byte step_of settled may_end finished run judged kind_of sign_kind letter_kind word_ahead
opened = tt

-- permitted texts
no_clauses : judged (ascii "") ≡ counts 0 0
unfolding opened
no_clauses = refl

one_clause : judged (ascii "cnf(name,axiom,p).") ≡ counts 1 0
unfolding opened
one_clause = refl

comment_alone : judged (ascii "% no clause") ≡ counts 0 0
unfolding opened
comment_alone = refl

gaps_everywhere : judged (ascii "\t cnf %(\n ( %%\r\n a , hypothesis\r,\n(~ p ( X , f ( b ) )|q\t) ) . % at the end") ≡ counts 1 0
unfolding opened
gaps_everywhere = refl

names_as_names : judged (ascii "cnf(cnf,axiom,axiom(cnf,hypothesis)).") ≡ counts 1 0
unfolding opened
names_as_names = refl

one_literal_in_parentheses : judged (ascii "cnf(a_1,negated_conjecture,(~p(X1,x_))).") ≡ counts 1 1
unfolding opened
one_literal_in_parentheses = refl

two_questions : judged (ascii "cnf(a,negated_conjecture,p).cnf(a,negated_conjecture,q).cnf(a,axiom,r).") ≡ counts 3 2
unfolding opened
two_questions = refl

-- wrong at a byte
more_than_a_role : judged (ascii "cnf(a,axiomx,p).") ≡ Err 11
unfolding opened
more_than_a_role = refl

more_than_cnf : judged (ascii "cnff(a,axiom,p).") ≡ Err 3
unfolding opened
more_than_cnf = refl

less_than_a_role : judged (ascii "cnf(a,axio,p).") ≡ Err 10
unfolding opened
less_than_a_role = refl

another_role : judged (ascii "cnf(a,conjecture,p).") ≡ Err 6
unfolding opened
another_role = refl

no_arguments : judged (ascii "cnf(a,axiom,p()).") ≡ Err 14
unfolding opened
no_arguments = refl

two_tildes : judged (ascii "cnf(a,axiom,~~p).") ≡ Err 13
unfolding opened
two_tildes = refl

tilde_outside : judged (ascii "cnf(a,axiom,~(p)).") ≡ Err 13
unfolding opened
tilde_outside = refl

two_pairs : judged (ascii "cnf(a,axiom,((p))).") ≡ Err 13
unfolding opened
two_pairs = refl

part_in_parentheses : judged (ascii "cnf(a,axiom,(p)|q).") ≡ Err 15
unfolding opened
part_in_parentheses = refl

left_open : judged (ascii "cnf(a,axiom,(p).") ≡ Err 15
unfolding opened
left_open = refl

closed_twice : judged (ascii "cnf(a,axiom,p)).") ≡ Err 14
unfolding opened
closed_twice = refl

closed_too_soon : judged (ascii "cnf(a,axiom,p(f(X),Y),Z).") ≡ Err 21
unfolding opened
closed_too_soon = refl

left_open_deep : judged (ascii "cnf(a,axiom,p(f(X,Y).") ≡ Err 20
unfolding opened
left_open_deep = refl

name_upper_case : judged (ascii "cnf(A,axiom,p).") ≡ Err 4
unfolding opened
name_upper_case = refl

predicate_upper_case : judged (ascii "cnf(a,axiom,P).") ≡ Err 12
unfolding opened
predicate_upper_case = refl

digit_first : judged (ascii "cnf(a,axiom,p(1)).") ≡ Err 14
unfolding opened
digit_first = refl

parted_word : judged (ascii "cnf(a,axi om,p).") ≡ Err 9
unfolding opened
parted_word = refl

not_ascii : judged (ascii "cnf(a,axiom,pé).") ≡ Err 13
unfolding opened
not_ascii = refl

control : judged (ascii "cnf(a,axiom,\u{c}p).") ≡ Err 12
unfolding opened
control = refl

comment_without_sign : judged (ascii "cnf(a,axiom,p). end") ≡ Err 16
unfolding opened
comment_without_sign = refl

-- stopping short
no_dot : judged (ascii "cnf(a,axiom,p)") ≡ Err 14
unfolding opened
no_dot = refl

in_a_word : judged (ascii "cnf(a,negated_con") ≡ Err 17
unfolding opened
in_a_word = refl

in_a_comment : judged (ascii "cnf(a,axiom,p) % and so on") ≡ Err 26
unfolding opened
in_a_comment = refl

-- what a text says, with the derivation of the grammar
pub one_said : Says (ascii "cnf(a,axiom,~p(X)). % so")
    (record {
      name = ascii "a";
      role = Axiom;
      literals = record { negative = true; predicate = ascii "p"; arguments = variable (ascii "X") then nil } ∷ [];
    }
    ∷ [])
unfolding opened
one_said =
    record {
      tokens = word (ascii "cnf")
          ∷ mark Open
          ∷ word (ascii "a")
          ∷ mark Comma
          ∷ word (ascii "axiom")
          ∷ mark Comma
          ∷ mark Tilde
          ∷ word (ascii "p")
          ∷ mark Open
          ∷ capital (ascii "X")
          ∷ mark Close
          ∷ mark Close
          ∷ mark Dot
          ∷ [];
      spelt = lower refl (goes refl (goes refl (ends refl)))
          (sign refl
          (lower refl (ends refl)
          (sign refl
          (lower refl (goes refl (goes refl (goes refl (goes refl (ends refl)))))
          (sign refl
          (sign refl
          (lower refl (ends refl)
          (sign refl (upper refl (ends refl) (sign refl (sign refl (sign refl (blank refl (comment refl so))))))))))))));
      clauses = Clauses.more (clause (plain (Disjunction.last (negated (applied (Arguments.last TermRule.upper)))))) none;
    }
  where
    not_feed : (c : ℕ) → eqb c 10 ≡ false → c ≡ 10 → ⊥
    not_feed c e = eqb-false c 10 e

    so : Remark [] (ascii " so")
    so = further (not_feed 32 refl) (further (not_feed 115 refl) (further (not_feed 111 refl) stops))

-- a text that is not permitted, and a beginning that can go on though it is none
pub not_permitted : Permitted (ascii "cnf(a,axiom,p()).") → ⊥
unfolding opened
not_permitted = wrong_not_permitted (read_wrong refl)

pub can_go_on : CanGoOn (ascii "cnf(a,axiom,p(")
unfolding opened
can_go_on = (read_wrong {text = ascii "cnf(a,axiom,p()."} refl).begun

-- a text over 65,536 bytes
pub too_long : judged (replicate 65537 32) ≡ Err 65536
too_long = only_verdict (long (rw length-replicate (omega arith)))
