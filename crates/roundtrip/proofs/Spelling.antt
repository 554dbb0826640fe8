-- The text of a table as tokens, and what they say: the clauses written.
use mathlib.Core.Bool.{Bool, true, false, ◌&&◌}
use mathlib.Core.List.{List, [], ◌∷◌, ◌++◌, append_assoc, append-nil, map}
use mathlib.Core.Path.{◌≡◌, refl}
use Prim.Native.Nat.{ℕ, suc, ◌≤◌}
use native.Mathlib.Omega.{arith}
use lib.ListN.{length}
use Rattle.text.specs.Quoted.{bytes}
use Rattle.text.specs.Digits.{decimal_text}
use Rattle.table.specs.Syntax.{Term, var, app, Terms, nil, ◌then◌, Literal, Clause, Table, all_clauses}
use Rattle.table.specs.Limits.{Each, ClauseWithin, Within}
use Rattle.table.proofs.Bools.{and_left, and_right}
use Rattle.clausetext.specs.declared.kind.Mark.TheVariants.{Open, Close, Comma, Bar, Tilde, Dot}
use Rattle.clausetext.specs.declared.kind.Kind.TheVariants.{Lower, Upper}
use Rattle.clausetext.specs.Kinds.{kind_of, sign_kind, letter_kind, goes_on}
use Rattle.clausetext.specs.Syntax.{Term as TermSaid, ◌then◌ as ◌and◌, Role, Axiom, NegatedConjecture, role_name}
use Rattle.clausetext.specs.Tokens.{Token, word, capital, mark, word_ahead, Word, ends, goes, Spelt, nothing, blank, sign, lower, upper}
use Rattle.clausetext.specs.Grammar as Grammar
use Rattle.clausetext.specs.Grammar.{Applied, applied, TermRule, Arguments, LiteralRule, positive, negated, Disjunction, bracketed, ClauseRule, clause, Clauses, none}
use Rattle.clausetext.specs.Texts.{Says}
use Rattle.clauselines.specs.Lines.{term_text, arguments_text, further_text, sign_text, literal_text, alternatives_text, literals_text, role_text, clause_text, axioms_text, table_text}
use Rattle.rules.proofs.Every.{All, end, ◌also◌, all_first, all_rest}
use Rattle.roundtrip.specs.Written.{predicate_name, function_name, variable_name, clause_name, term_written, terms_written, literal_written, clause_written, axioms_written, table_written}
use Rattle.roundtrip.proofs.Decimals.{GoesOn, decimal_goes_on}

-- a word up to a byte that goes on no word
word_up_to : (w rest : List ℕ) → All GoesOn w → word_ahead rest ≡ false → Word w (w ++ rest) rest
word_up_to [] rest a h = ends h
word_up_to (c ∷ w) rest a h = goes (all_first a) (word_up_to w rest (all_rest a) h)

-- The tokens of each part of the text, before those that follow.
unfoldable mutual
  termTokens : Term ℕ → List Token → List Token
  termTokens (var x) rest = capital (variable_name x) ∷ rest
  termTokens (app f ts) rest = word (function_name f) ∷ argumentsTokens ts rest

  argumentsTokens : Terms ℕ → List Token → List Token
  argumentsTokens nil rest = rest
  argumentsTokens (t then ts) rest = mark Open ∷ termTokens t (furtherTokens ts rest)

  furtherTokens : Terms ℕ → List Token → List Token
  furtherTokens nil rest = mark Close ∷ rest
  furtherTokens (t then ts) rest = mark Comma ∷ termTokens t (furtherTokens ts rest)

unfoldable sign_tokens : Bool → List Token → List Token
sign_tokens true rest = mark Tilde ∷ rest
sign_tokens false rest = rest

unfoldable literal_tokens : Literal ℕ → List Token → List Token
literal_tokens l rest = sign_tokens l.negative (word (predicate_name l.predicate) ∷ argumentsTokens l.arguments rest)

unfoldable alternatives_tokens : List (Literal ℕ) → List Token → List Token
alternatives_tokens [] rest = rest
alternatives_tokens (l ∷ ls) rest = mark Bar ∷ literal_tokens l (alternatives_tokens ls rest)

unfoldable literals_tokens : List (Literal ℕ) → List Token → List Token
literals_tokens [] rest = rest
literals_tokens (l ∷ ls) rest = literal_tokens l (alternatives_tokens ls rest)

abbrev role_of : Bool → Role
role_of true = NegatedConjecture
role_of false = Axiom

unfoldable clause_tokens : ℕ → Bool → Clause → List Token → List Token
clause_tokens number asked c rest =
    word (bytes "cnf") ∷ mark Open ∷ word (clause_name number) ∷ mark Comma ∷ word (role_name (role_of asked)) ∷ mark Comma ∷ mark Open
    ∷ literals_tokens c.literals (mark Close ∷ mark Close ∷ mark Dot ∷ rest)

unfoldable axioms_tokens : ℕ → List Clause → List Token → List Token
axioms_tokens number [] rest = rest
axioms_tokens number (c ∷ cs) rest = clause_tokens number false c (axioms_tokens (suc number) cs rest)

unfoldable table_tokens : Table → List Token
table_tokens t = axioms_tokens 0 t.clauses (clause_tokens (length t.clauses) true t.question [])

-- They are spelt by the text. No byte of a word may follow a word.
unfoldable kinds : Unit {0}
unfolding kind_of sign_kind letter_kind word_ahead
kinds = tt

module _ {ts : List Token} (letter : ℕ) (number : ℕ) (rest : List ℕ) (h : word_ahead rest ≡ false) (s : Spelt ts rest) where
  numbered-lower : kind_of letter ≡ Lower → Spelt (word (letter ∷ decimal_text number) ∷ ts) (letter ∷ (decimal_text number ++ rest))
  numbered-lower k = lower k (word_up_to (decimal_text number) rest (decimal_goes_on number) h) s

  numbered-upper : kind_of letter ≡ Upper → Spelt (capital (letter ∷ decimal_text number) ∷ ts) (letter ∷ (decimal_text number ++ rest))
  numbered-upper k = upper k (word_up_to (decimal_text number) rest (decimal_goes_on number) h) s

after_arguments : (ts : Terms ℕ) (rest : List ℕ) → word_ahead rest ≡ false → word_ahead (arguments_text ts ++ rest) ≡ false
unfolding arguments_text kinds
after_arguments nil rest h = h
after_arguments (t then ts) rest h = refl

after_further : (ts : Terms ℕ) (rest : List ℕ) → word_ahead (further_text ts ++ rest) ≡ false
unfolding further_text kinds
after_further nil rest = refl
after_further (t then ts) rest = refl

mutual
  unfolding term_text termTokens kinds

  term_spelt : (t : Term ℕ) {ts : List Token} (rest : List ℕ) → word_ahead rest ≡ false → Spelt ts rest → Spelt (termTokens t ts) (term_text t ++ rest)
  term_spelt (var x) rest h s = numbered-upper _ x rest h s refl
  term_spelt (app f us) rest h s =
      rw (append_assoc (decimal_text f) (arguments_text us) rest)
      (numbered-lower _ f (arguments_text us ++ rest) (after_arguments us rest h) (arguments_spelt us rest h s) refl)

  arguments_spelt : (us : Terms ℕ) {ts : List Token} (rest : List ℕ) → word_ahead rest ≡ false → Spelt ts rest → Spelt (argumentsTokens us ts) (arguments_text us ++ rest)
  arguments_spelt nil rest h s = s
  arguments_spelt (t then us) rest h s =
      rw (append_assoc (term_text t) (further_text us) rest) (sign refl (term_spelt t (further_text us ++ rest) (after_further us rest) (further_spelt us rest s)))

  further_spelt : (us : Terms ℕ) {ts : List Token} (rest : List ℕ) → Spelt ts rest → Spelt (furtherTokens us ts) (further_text us ++ rest)
  further_spelt nil rest s = sign refl s
  further_spelt (t then us) rest s =
      rw (append_assoc (term_text t) (further_text us) rest) (sign refl (term_spelt t (further_text us ++ rest) (after_further us rest) (further_spelt us rest s)))

sign_spelt : (negative : Bool) {ts : List Token} (rest : List ℕ) → Spelt ts rest → Spelt (sign_tokens negative ts) (sign_text negative ++ rest)
unfolding sign_text sign_tokens kinds
sign_spelt true rest s = sign refl (blank refl s)
sign_spelt false rest s = s

literal_parts : (l : Literal ℕ) (rest : List ℕ)
    → literal_text l ++ rest ≡ sign_text l.negative ++ (predicate_name l.predicate ++ (arguments_text l.arguments ++ rest))
unfolding literal_text
literal_parts l rest = simp append_assoc

literal_spelt : (l : Literal ℕ) {ts : List Token} (rest : List ℕ) → word_ahead rest ≡ false → Spelt ts rest → Spelt (literal_tokens l ts) (literal_text l ++ rest)
unfolding literal_tokens kinds
literal_spelt l rest h s =
    let atom = numbered-lower _ l.predicate (arguments_text l.arguments ++ rest) (after_arguments l.arguments rest h) (arguments_spelt l.arguments rest h s) refl in
    rw (literal_parts l rest)
    (sign_spelt l.negative (predicate_name l.predicate ++ (arguments_text l.arguments ++ rest)) atom)

after_literal : (ls : List (Literal ℕ)) (rest : List ℕ) → word_ahead rest ≡ false → word_ahead (alternatives_text ls ++ rest) ≡ false
unfolding alternatives_text kinds
after_literal [] rest h = h
after_literal (l ∷ ls) rest h = refl

alternatives_spelt : (ls : List (Literal ℕ)) {ts : List Token} (rest : List ℕ) → word_ahead rest ≡ false → Spelt ts rest → Spelt (alternatives_tokens ls ts) (alternatives_text ls ++ rest)
unfolding alternatives_text alternatives_tokens kinds
alternatives_spelt [] rest h s = s
alternatives_spelt (l ∷ ls) rest h s =
    rw (append_assoc (literal_text l) (alternatives_text ls) rest)
    (blank refl (sign refl (blank refl (literal_spelt l (alternatives_text ls ++ rest) (after_literal ls rest h) (alternatives_spelt ls rest h s)))))

literals_spelt : (ls : List (Literal ℕ)) {ts : List Token} (rest : List ℕ) → word_ahead rest ≡ false → Spelt ts rest → Spelt (literals_tokens ls ts) (literals_text ls ++ rest)
unfolding literals_text literals_tokens
literals_spelt [] rest h s = s
literals_spelt (l ∷ ls) rest h s =
    rw (append_assoc (literal_text l) (alternatives_text ls) rest)
    (literal_spelt l (alternatives_text ls ++ rest) (after_literal ls rest h) (alternatives_spelt ls rest h s))

-- the role's word is made of letters and `_`
letters : List ℕ → Bool
letters [] = true
letters (c ∷ cs) = goes_on (kind_of c) && letters cs

letters_go_on : (cs : List ℕ) → letters cs ≡ true → All GoesOn cs
unfolding letters
letters_go_on [] e = end
letters_go_on (c ∷ cs) e = and_left (goes_on (kind_of c)) (letters cs) e also letters_go_on cs (and_right (goes_on (kind_of c)) (letters cs) e)

role_spelt : (asked : Bool) {ts : List Token} (rest : List ℕ) → word_ahead rest ≡ false → Spelt ts rest → Spelt (word (role_name (role_of asked)) ∷ ts) (role_text asked ++ rest)
unfolding role_text letters kinds
role_spelt true rest h s = lower refl (word_up_to (bytes "egated_conjecture") rest (letters_go_on (bytes "egated_conjecture") refl) h) s
role_spelt false rest h s = lower refl (word_up_to (bytes "xiom") rest (letters_go_on (bytes "xiom") refl) h) s

clause_parts : (number : ℕ) (asked : Bool) (c : Clause) (rest : List ℕ)
    → clause_text number asked c ++ rest
    ≡ bytes "cnf(c" ++ (decimal_text number ++ (bytes "," ++ (role_text asked ++ (bytes ",(" ++ (literals_text c.literals ++ (bytes ")).\n" ++ rest))))))
unfolding clause_text
clause_parts number asked c rest = simp append_assoc

clause_spelt : (number : ℕ) (asked : Bool) (c : Clause) {ts : List Token} (rest : List ℕ) → Spelt ts rest → Spelt (clause_tokens number asked c ts) (clause_text number asked c ++ rest)
unfolding clause_tokens kinds
clause_spelt number asked c rest s =
    let body = literals_spelt c.literals (bytes ")).\n" ++ rest) refl (sign refl (sign refl (sign refl (blank refl s)))) in
    let role = role_spelt asked (bytes ",(" ++ (literals_text c.literals ++ (bytes ")).\n" ++ rest))) refl (sign refl (sign refl body)) in
    let named = numbered-lower _ number (bytes "," ++ (role_text asked ++ (bytes ",(" ++ (literals_text c.literals ++ (bytes ")).\n" ++ rest))))) refl (sign refl role) refl in
    rw (clause_parts number asked c rest) (lower refl (goes refl (goes refl (ends refl))) (sign refl named))

axioms_spelt : (number : ℕ) (cs : List Clause) {ts : List Token} (rest : List ℕ) → Spelt ts rest → Spelt (axioms_tokens number cs ts) (axioms_text number cs ++ rest)
unfolding axioms_tokens axioms_text
axioms_spelt number [] rest s = s
axioms_spelt number (c ∷ cs) rest s =
    rw (append_assoc (clause_text number false c) (axioms_text (suc number) cs) rest)
    (clause_spelt number false c (axioms_text (suc number) cs ++ rest) (axioms_spelt (suc number) cs rest s))

table_spelt : (t : Table) → Spelt (table_tokens t) (table_text t)
unfolding table_tokens table_text
table_spelt t =
    let last = rw (append-nil (clause_text (length t.clauses) true t.question)) at (clause_spelt (length t.clauses) true t.question [] nothing) in
    axioms_spelt 0 t.clauses (clause_text (length t.clauses) true t.question) last

-- They say the clauses written.
mutual
  unfolding termTokens term_written

  term_said : (t : Term ℕ) (rest : List Token) → TermRule (term_written t) (termTokens t rest) rest
  term_said (var x) rest = TermRule.upper
  term_said (app f ts) rest = TermRule.lower (applied_said (function_name f) ts rest)

  applied_said : (f : List ℕ) (ts : Terms ℕ) (rest : List Token) → Applied f (terms_written ts) (word f ∷ argumentsTokens ts rest) rest
  applied_said f nil rest = Grammar.bare
  applied_said f (t then ts) rest = applied (further_said ts (term_said t (furtherTokens ts rest)))

  further_said : (ts : Terms ℕ) {t : TermSaid} {from rest : List Token} → TermRule t from (furtherTokens ts rest) → Arguments (t and terms_written ts) from rest
  further_said nil said = Arguments.last said
  further_said (u then ts) {rest = rest} said = Arguments.more said (further_said ts (term_said u (furtherTokens ts rest)))

signed : (negative : Bool) (p : List ℕ) (ts : Terms ℕ) (rest : List Token)
    → LiteralRule (record { negative = negative; predicate = p; arguments = terms_written ts }) (sign_tokens negative (word p ∷ argumentsTokens ts rest)) rest
unfolding sign_tokens
signed true p ts rest = negated (applied_said p ts rest)
signed false p ts rest = positive (applied_said p ts rest)

literal_said : (l : Literal ℕ) (rest : List Token) → LiteralRule (literal_written l) (literal_tokens l rest) rest
unfolding literal_tokens literal_written
literal_said l rest = signed l.negative (predicate_name l.predicate) l.arguments rest

alternatives_said : (l : Literal ℕ) (ls : List (Literal ℕ)) (rest : List Token) → Disjunction (map literal_written (l ∷ ls)) (literal_tokens l (alternatives_tokens ls rest)) rest
unfolding alternatives_tokens
alternatives_said l [] rest = Disjunction.last (literal_said l rest)
alternatives_said l (m ∷ ls) rest = Disjunction.more (literal_said l (mark Bar ∷ literal_tokens m (alternatives_tokens ls rest))) (alternatives_said m ls rest)

literals_said : (ls : List (Literal ℕ)) (rest : List Token) → 1 ≤ length ls → Disjunction (map literal_written ls) (literals_tokens ls rest) rest
unfolding literals_tokens
literals_said [] rest h = absurd (omega arith)
literals_said (l ∷ ls) rest h = alternatives_said l ls rest

clause_said : (number : ℕ) (asked : Bool) (c : Clause) (rest : List Token) → 1 ≤ length c.literals
    → ClauseRule (clause_written number (role_of asked) c) (clause_tokens number asked c rest) rest
unfolding clause_tokens clause_written
clause_said number asked c rest h = clause (bracketed (literals_said c.literals (mark Close ∷ mark Close ∷ mark Dot ∷ rest) h))

axioms_said : (number : ℕ) (cs : List Clause) (last : Clause) (asked : ℕ) → Each ClauseWithin (cs ++ (last ∷ []))
    → Clauses (axioms_written number cs ++ (clause_written asked NegatedConjecture last ∷ [])) (axioms_tokens number cs (clause_tokens asked true last []))
unfolding axioms_written axioms_tokens Each
axioms_said number [] last asked h = Clauses.more (clause_said asked true last [] h.0.some) none
axioms_said number (c ∷ cs) last asked h = Clauses.more (clause_said number false c _ h.0.some) (axioms_said (suc number) cs last asked h.1)

pub text_says : (t : Table) → Within t → Says (table_text t) (table_written t)
unfolding table_written table_tokens all_clauses
text_says t h = record {
  tokens = table_tokens t;
  spelt = table_spelt t;
  clauses = axioms_said 0 t.clauses t.question (length t.clauses) h.clauses;
}
