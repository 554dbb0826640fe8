-- The tokens that may follow in each state of the judgement, in the words of the grammar, with the roles still to come; and how they begin.
use Rattle.std.specs.Prelude.{Option, Some, None}
use mathlib.Core.Path.{◌≡◌, refl}
use mathlib.Core.Bool.{Bool, true, false}
use mathlib.Core.List.{List, [], ◌∷◌}
use Prim.Native.Nat.{ℕ, zero, suc}
use native.Mathlib.Omega.{arith}
use Rattle.clausetext.specs.declared.kind.Mark.{Mark}
use Rattle.clausetext.specs.declared.kind.Mark.TheVariants.{Open, Close, Comma, Bar, Tilde, Dot}
use Rattle.clausetext.specs.declared.judge.Want.{Want}
use Rattle.clausetext.specs.declared.judge.Want.TheVariants.{Clause as NextClause, Opening, Name, AfterName, Role as NextRole, AfterRole, Formula as NextFormula, Literal as NextLiteral, Atom, Symbol, Term as NextTerm, Ended, Closing, Stop}
use Rattle.clausetext.specs.Syntax.{Term, Terms, nil, Literal, Role, role_name, Clause}
use Rattle.clausetext.specs.Tokens.{Token, word, capital, mark}
use Rattle.clausetext.specs.Grammar.{Applied, bare, applied, TermRule, upper, lower, Arguments, LiteralRule, positive, negated, Disjunction, Formula, plain, bracketed, cnf, clause, Clauses, none}
use Rattle.clausetext.specs.Judging.{on_sign, on_ended, row, outside}
use Rattle.clausetext.proofs.Apart.{false_not_true, true_not_false}

unfoldable pub roles : List Clause → List Role
roles [] = []
roles (c ∷ cs) = c.role ∷ roles cs

mutual
  pub data Rest : Want → List Token → List Role → Type 0 where
    clauses : {cs : List Clause} {ts : List Token} → Clauses cs ts → Rest NextClause ts (roles cs)
    opening : {ts : List Token} {rs : List Role} → Rest Name ts rs → Rest Opening (mark Open ∷ ts) rs
    name : {n : List ℕ} {ts : List Token} {rs : List Role} → Rest AfterName ts rs → Rest Name (word n ∷ ts) rs
    after_name : {ts : List Token} {rs : List Role} → Rest NextRole ts rs → Rest AfterName (mark Comma ∷ ts) rs
    role : {n : List ℕ} {r : Role} {ts : List Token} {rs : List Role} → n ≡ role_name r → Rest AfterRole ts rs → Rest NextRole (word n ∷ ts) (r ∷ rs)
    after_role : {ts : List Token} {rs : List Role} → Rest NextFormula ts rs → Rest AfterRole (mark Comma ∷ ts) rs
    formula : {ls : List Literal} {ts us : List Token} {rs : List Role} → Formula ls ts us → Rest Closing us rs → Rest NextFormula ts rs
    literal : {p : Bool} {ls : List Literal} {ts us : List Token} {rs : List Role} → Disjunction ls ts us → Around p us rs → Rest (NextLiteral p) ts rs
    atom : {p : Bool} {f : List ℕ} {ys : Terms} {ts us : List Token} {rs : List Role} → Applied f ys ts us → Rest (Ended zero p) us rs → Rest (Atom p) ts rs
    around : {p : Bool} {ts : List Token} {rs : List Role} → Around p ts rs → Rest (Ended zero p) ts rs
    bar : {p : Bool} {ts : List Token} {rs : List Role} → Rest (NextLiteral p) ts rs → Rest (Ended zero p) (mark Bar ∷ ts) rs
    close : {d : ℕ} {p : Bool} {ts : List Token} {rs : List Role} → Rest (Ended d p) ts rs → Rest (Ended (suc d) p) (mark Close ∷ ts) rs
    comma : {d : ℕ} {p : Bool} {ts : List Token} {rs : List Role} → Rest (NextTerm d p) ts rs → Rest (Ended (suc d) p) (mark Comma ∷ ts) rs
    term : {d : ℕ} {p : Bool} {ys : Terms} {ts us : List Token} {rs : List Role} → Arguments ys ts us → Rest (Ended d p) us rs → Rest (NextTerm d p) ts rs
    alone : {d : ℕ} {p : Bool} {ts : List Token} {rs : List Role} → Rest (Ended d p) ts rs → Rest (Symbol d p) ts rs
    opens : {d : ℕ} {p : Bool} {ts : List Token} {rs : List Role} → Rest (NextTerm d p) ts rs → Rest (Symbol d p) (mark Open ∷ ts) rs
    closing : {ts : List Token} {rs : List Role} → Rest Stop ts rs → Rest Closing (mark Close ∷ ts) rs
    stop : {ts : List Token} {rs : List Role} → Rest NextClause ts rs → Rest Stop (mark Dot ∷ ts) rs

  pub data Around : Bool → List Token → List Role → Type 0 where
    inside : {ts : List Token} {rs : List Role} → Rest Closing ts rs → Around true (mark Close ∷ ts) rs
    without : {ts : List Token} {rs : List Role} → Rest Closing ts rs → Around false ts rs

-- what is said first, and what is left
pub record FirstTerm (d : ℕ) (p : Bool) (ts : List Token) (rs : List Role) : Type 0 where
  pub said : Term
  pub left : List Token
  pub rule : TermRule said ts left
  pub goes : Rest (Ended (suc d) p) left rs

pub record FirstLiteral (p : Bool) (ts : List Token) (rs : List Role) : Type 0 where
  pub said : Literal
  pub left : List Token
  pub rule : LiteralRule said ts left
  pub goes : Rest (Ended zero p) left rs

pub record FirstApplied (f : List ℕ) (d : ℕ) (p : Bool) (ts : List Token) (rs : List Role) : Type 0 where
  pub said : Terms
  pub left : List Token
  pub rule : Applied f said (word f ∷ ts) left
  pub goes : Rest (Ended d p) left rs

-- a list of terms is a first term and what follows it, and so for literals and names
pub term_split : {d : ℕ} {p : Bool} {ts : List Token} {rs : List Role} → Rest (NextTerm d p) ts rs → FirstTerm d p ts rs
term_split (term (Arguments.last t) r) = record { said = _; left = _; rule = t; goes = close r }
term_split (term (Arguments.more t ys) r) = record { said = _; left = _; rule = t; goes = comma (term ys r) }

pub term_joined : {d : ℕ} {p : Bool} {t : Term} {ts us : List Token} {rs : List Role} → TermRule t ts us → Rest (Ended (suc d) p) us rs → Rest (NextTerm d p) ts rs
term_joined t (close r) = term (Arguments.last t) r
term_joined t (comma (term ys r)) = term (Arguments.more t ys) r

pub literal_split : {p : Bool} {ts : List Token} {rs : List Role} → Rest (NextLiteral p) ts rs → FirstLiteral p ts rs
literal_split (literal (Disjunction.last l) r) = record { said = _; left = _; rule = l; goes = around r }
literal_split (literal (Disjunction.more l ls) r) = record { said = _; left = _; rule = l; goes = bar (literal ls r) }

pub literal_joined : {p : Bool} {l : Literal} {ts us : List Token} {rs : List Role} → LiteralRule l ts us → Rest (Ended zero p) us rs → Rest (NextLiteral p) ts rs
literal_joined l (around r) = literal (Disjunction.last l) r
literal_joined l (bar (literal ls r)) = literal (Disjunction.more l ls) r

pub applied_split : {d : ℕ} {p : Bool} {f : List ℕ} {ys : Terms} {w : Token} {ts us : List Token} {rs : List Role} → Applied f ys (w ∷ ts) us → Rest (Ended d p) us rs → Rest (Symbol d p) ts rs
applied_split bare r = alone r
applied_split (applied ys) r = opens (term ys r)

pub applied_joined : {d : ℕ} {p : Bool} {ts : List Token} {rs : List Role} → (f : List ℕ) → Rest (Symbol d p) ts rs → FirstApplied f d p ts rs
applied_joined f (alone r) = record { said = nil; left = _; rule = bare; goes = r }
applied_joined f (opens (term ys r)) = record { said = _; left = _; rule = applied ys; goes = r }

-- a sign leads on where it may follow
abbrev pub Led : List Token → List Role → Option Want → Type 0
Led ts rs (Some v) = Rest v ts rs
Led ts rs None = ⊥

pub never : {A : Type 0} {m : Mark} {w : List ℕ} → mark m ≡ word w → A
never e = let z : ◌≡◌ {A = ℕ} 0 1 = cc in absurd (omega arith)

pub not_both : {A : Type 0} {x w : List ℕ} → capital x ≡ word w → A
not_both e = let z : ◌≡◌ {A = ℕ} 0 1 = cc in absurd (omega arith)

pub applied_first : {f : List ℕ} {ys : Terms} {t : Token} {ts us : List Token} → Applied f ys (t ∷ ts) us → t ≡ word f
applied_first bare = refl
applied_first (applied ys) = refl

clauses_first : {cs : List Clause} {t : Token} {ts : List Token} → Clauses cs (t ∷ ts) → t ≡ word cnf
clauses_first (Clauses.more (clause f) cs) = refl

term_no_sign : {A : Type 0} {y : Term} {m : Mark} {ts us : List Token} → TermRule y (mark m ∷ ts) us → A
term_no_sign (lower a) = never (applied_first a)

tilde_leads : {p : Bool} {l : Literal} {m : Mark} {ts us : List Token} {rs : List Role} (o : Option Want) → LiteralRule l (mark m ∷ ts) us → Rest (Ended zero p) us rs
    → Led ts rs (row m o None None None (Some (Atom p)) None)
unfolding row
tilde_leads o (positive a) r = elim a [ ]
tilde_leads o (negated a) r = atom a r

pub sign_leads : {v : Want} {m : Mark} {ts : List Token} {rs : List Role} → Rest v (mark m ∷ ts) rs → Led ts rs (on_sign v m)
unfolding on_sign on_ended row
sign_leads (clauses cs) = never (clauses_first cs)
sign_leads (opening r) = r
sign_leads (after_name r) = r
sign_leads (after_role r) = r
sign_leads (formula (plain d) r) =
    let f = literal_split (literal d (without r)) in tilde_leads (Some (NextLiteral true)) f.rule f.goes
sign_leads (formula (bracketed d) r) = literal d (inside r)
sign_leads (atom a _) = elim a [ ]
sign_leads (literal d r) = let f = literal_split (literal d r) in tilde_leads None f.rule f.goes
sign_leads (around (inside r)) = r
sign_leads (around (without (closing r))) = r
sign_leads (bar r) = r
sign_leads (close r) = r
sign_leads (comma r) = r
sign_leads (term ys r) = term_no_sign (term_split (term ys r)).rule
sign_leads (alone (around (inside r))) = r
sign_leads (alone (around (without (closing r)))) = r
sign_leads (alone (bar r)) = r
sign_leads (alone (close r)) = r
sign_leads (alone (comma r)) = r
sign_leads (opens r) = r
sign_leads (closing r) = r
sign_leads (stop r) = r

-- and the other way round: before what a sign leads to, the sign may stand
abbrev pub Leading : Want → Mark → Option Want → Type 0
Leading v m (Some u) = (ts : List Token) (rs : List Role) → Rest u ts rs → Rest v (mark m ∷ ts) rs
Leading v m None = Unit {0}

module _ (P : Mark → Option Want → Type 0) where
  pub in_row : (m : Mark) {o c k b t d : Option Want} → P Open o → P Close c → P Comma k → P Bar b → P Tilde t → P Dot d → P m (row m o c k b t d)
  unfolding row
  in_row Open o c k b t d = o
  in_row Close o c k b t d = c
  in_row Comma o c k b t d = k
  in_row Bar o c k b t d = b
  in_row Tilde o c k b t d = t
  in_row Dot o c k b t d = d

close_last : (p : Bool) {ts : List Token} {rs : List Role} → Rest (outside p) ts rs → Rest (Ended zero p) (mark Close ∷ ts) rs
close_last true r = around (inside r)
close_last false r = around (without (closing r))

leading_ended : (d : ℕ) (p : Bool) (m : Mark) → Leading (Ended d p) m (on_ended d p m)
unfolding on_ended
leading_ended zero p m = in_row (Leading (Ended zero p)) m tt (λ ts rs. close_last p) tt (λ ts rs. bar) tt tt
leading_ended (suc d) p m = in_row (Leading (Ended (suc d) p)) m tt (λ ts rs. close) (λ ts rs. comma) tt tt tt

leading_alone : (d : ℕ) (p : Bool) (m : Mark) (v : Option Want) → Leading (Ended d p) m v → Leading (Symbol d p) m v
leading_alone d p m (Some v) f = λ ts rs r. alone (f ts rs r)
leading_alone d p m None f = tt

leading_symbol : (d : ℕ) (p : Bool) (m : Mark) → Leading (Ended d p) m (on_ended d p m) → Leading (Symbol d p) m (row m (Some (NextTerm d p)) (on_ended d p m) (on_ended d p m) (on_ended d p m) (on_ended d p m) (on_ended d p m))
unfolding row
leading_symbol d p Open f = λ ts rs. opens
leading_symbol d p Close f = leading_alone d p Close (on_ended d p Close) f
leading_symbol d p Comma f = leading_alone d p Comma (on_ended d p Comma) f
leading_symbol d p Bar f = leading_alone d p Bar (on_ended d p Bar) f
leading_symbol d p Tilde f = leading_alone d p Tilde (on_ended d p Tilde) f
leading_symbol d p Dot f = leading_alone d p Dot (on_ended d p Dot) f

-- the parentheses around a disjunction, and none
unbracketed : {ts : List Token} {rs : List Role} → Rest (NextLiteral false) ts rs → Rest NextFormula ts rs
unbracketed (literal d (without r)) = formula (plain d) r

in_brackets : {ts : List Token} {rs : List Role} → Rest (NextLiteral true) ts rs → Rest NextFormula (mark Open ∷ ts) rs
in_brackets (literal d (inside r)) = formula (bracketed d) r

tilde : {p : Bool} {ts : List Token} {rs : List Role} → Rest (Atom p) ts rs → Rest (NextLiteral p) (mark Tilde ∷ ts) rs
tilde (atom a r) = literal_joined (negated a) r

pub sign_leading : (v : Want) (m : Mark) → Leading v m (on_sign v m)
unfolding on_sign
sign_leading NextClause m = tt
sign_leading Opening m = in_row (Leading Opening) m (λ ts rs. opening) tt tt tt tt tt
sign_leading Name m = tt
sign_leading AfterName m = in_row (Leading AfterName) m tt tt (λ ts rs. after_name) tt tt tt
sign_leading NextRole m = tt
sign_leading AfterRole m = in_row (Leading AfterRole) m tt tt (λ ts rs. after_role) tt tt tt
sign_leading NextFormula m = in_row (Leading NextFormula) m (λ ts rs. in_brackets) tt tt tt (λ ts rs r. unbracketed (tilde r)) tt
sign_leading (NextLiteral p) m = in_row (Leading (NextLiteral p)) m tt tt tt tt (λ ts rs. tilde) tt
sign_leading (Atom p) m = tt
sign_leading (Symbol d p) m = leading_symbol d p m (leading_ended d p m)
sign_leading (NextTerm d p) m = tt
sign_leading (Ended d p) m = leading_ended d p m
sign_leading Closing m = in_row (Leading Closing) m tt (λ ts rs. closing) tt tt tt tt
sign_leading Stop m = in_row (Leading Stop) m tt tt tt tt tt (λ ts rs. stop)

pub term_capital : {d : ℕ} {p : Bool} {y : Term} {x : List ℕ} {ts us : List Token} {rs : List Role} → TermRule y (capital x ∷ ts) us → Rest (Ended d p) us rs → Rest (Ended d p) ts rs
term_capital upper r = r
term_capital (lower a) r = not_both (applied_first a)

literal_capital : {A : Type 0} {l : Literal} {x : List ℕ} {ts us : List Token} → LiteralRule l (capital x ∷ ts) us → A
literal_capital (positive a) = not_both (applied_first a)

-- after a whole term or atom comes a sign
abbrev is_mark : Token → Bool
is_mark (word w) = false
is_mark (capital x) = false
is_mark (mark m) = true

ended_mark : {d : ℕ} {p : Bool} {t : Token} {ts : List Token} {rs : List Role} → Rest (Ended d p) (t ∷ ts) rs → is_mark t ≡ true
ended_mark (around (inside r)) = refl
ended_mark (around (without (closing r))) = refl
ended_mark (bar r) = refl
ended_mark (close r) = refl
ended_mark (comma r) = refl

-- what may stand before a word that begins lower-case, and where it leads
pub data BeforeWord : Want → List ℕ → List Token → List Role → Type 0 where
  cnf_word : {ts : List Token} {rs : List Role} → Rest Opening ts rs → BeforeWord NextClause cnf ts rs
  name_word : {w : List ℕ} {ts : List Token} {rs : List Role} → Rest AfterName ts rs → BeforeWord Name w ts rs
  role_word : {w : List ℕ} {r : Role} {ts : List Token} {rs : List Role} → w ≡ role_name r → Rest AfterRole ts rs → BeforeWord NextRole w ts (r ∷ rs)
  formula_word : {w : List ℕ} {ts : List Token} {rs : List Role} → Rest (Symbol zero false) ts rs → BeforeWord NextFormula w ts rs
  literal_word_lem : {p : Bool} {w : List ℕ} {ts : List Token} {rs : List Role} → Rest (Symbol zero p) ts rs → BeforeWord (NextLiteral p) w ts rs
  atom_word : {p : Bool} {w : List ℕ} {ts : List Token} {rs : List Role} → Rest (Symbol zero p) ts rs → BeforeWord (Atom p) w ts rs
  term_word : {d : ℕ} {p : Bool} {w : List ℕ} {ts : List Token} {rs : List Role} → Rest (Symbol (suc d) p) ts rs → BeforeWord (NextTerm d p) w ts rs

positive_split : {p : Bool} {l : Literal} {w : List ℕ} {ts us : List Token} {rs : List Role} → LiteralRule l (word w ∷ ts) us → Rest (Ended zero p) us rs → Rest (Symbol zero p) ts rs
positive_split (positive a) r = applied_split a r

lower_split : {d : ℕ} {p : Bool} {y : Term} {w : List ℕ} {ts us : List Token} {rs : List Role} → TermRule y (word w ∷ ts) us → Rest (Ended d p) us rs → Rest (Symbol d p) ts rs
lower_split (lower a) r = applied_split a r

pub word_split : {v : Want} {w : List ℕ} {ts : List Token} {rs : List Role} → Rest v (word w ∷ ts) rs → BeforeWord v w ts rs
unfolding roles
word_split (clauses (Clauses.more (clause f) cs)) =
    cnf_word (opening (name (after_name (role refl (after_role (formula f (closing (stop (clauses cs)))))))))
word_split (name r) = name_word r
word_split (role e r) = role_word e r
word_split (formula (plain d) r) =
    let f = literal_split (literal d (without r)) in formula_word (positive_split f.rule f.goes)
word_split (literal d r) = let f = literal_split (literal d r) in literal_word_lem (positive_split f.rule f.goes)
word_split (atom a r) = atom_word (applied_split a r)
word_split (around r) = false_not_true (ended_mark (around r))
word_split (term ys r) = let f = term_split (term ys r) in term_word (lower_split f.rule f.goes)
word_split (alone r) = false_not_true (ended_mark r)

pub word_joined : {v : Want} {w : List ℕ} {ts : List Token} {rs : List Role} → BeforeWord v w ts rs → Rest v (word w ∷ ts) rs
unfolding roles
word_joined (cnf_word (opening (name (after_name (role {r = r} e (after_role (formula f (closing (stop (clauses cs)))))))))) =
    rw e (clauses (Clauses.more (clause {r = r} f) cs))
word_joined (name_word r) = name r
word_joined (role_word e r) = role e r
word_joined (formula_word {w = w} r) = let f = applied_joined w r in unbracketed (literal_joined (positive f.rule) f.goes)
word_joined (literal_word_lem {w = w} r) = let f = applied_joined w r in literal_joined (positive f.rule) f.goes
word_joined (atom_word {w = w} r) = let f = applied_joined w r in atom f.rule f.goes
word_joined (term_word {w = w} r) = let f = applied_joined w r in term_joined (lower f.rule) f.goes

-- a word that begins upper-case is a term
pub data BeforeCapital : Want → List Token → List Role → Type 0 where
  variable_word_lem : {d : ℕ} {p : Bool} {ts : List Token} {rs : List Role} → Rest (Ended (suc d) p) ts rs → BeforeCapital (NextTerm d p) ts rs

pub capital_split : {v : Want} {x : List ℕ} {ts : List Token} {rs : List Role} → Rest v (capital x ∷ ts) rs → BeforeCapital v ts rs
capital_split (clauses cs) = not_both (clauses_first cs)
capital_split (formula (plain d) r) = literal_capital (literal_split (literal d (without r))).rule
capital_split (literal d r) = literal_capital (literal_split (literal d r)).rule
capital_split (atom a r) = not_both (applied_first a)
capital_split (around r) = false_not_true (ended_mark (around r))
capital_split (term ys r) = let f = term_split (term ys r) in variable_word_lem (term_capital f.rule f.goes)
capital_split (alone r) = false_not_true (ended_mark r)

pub capital_joined : {v : Want} {ts : List Token} {rs : List Role} (x : List ℕ) → BeforeCapital v ts rs → Rest v (capital x ∷ ts) rs
capital_joined x (variable_word_lem r) = term_joined upper r

-- where no token follows, a clause is wanted and no role is to come
abbrev is_nil : List Token → Bool
is_nil [] = true
is_nil (t ∷ ts) = false

applied_begun : {f : List ℕ} {ys : Terms} {ts us : List Token} → Applied f ys ts us → is_nil ts ≡ false
applied_begun bare = refl
applied_begun (applied ys) = refl

term_begun : {y : Term} {ts us : List Token} → TermRule y ts us → is_nil ts ≡ false
term_begun upper = refl
term_begun (lower a) = applied_begun a

literal_begun : {l : Literal} {ts us : List Token} → LiteralRule l ts us → is_nil ts ≡ false
literal_begun (positive a) = applied_begun a
literal_begun (negated a) = refl

closing_begun : {ts : List Token} {rs : List Role} → Rest Closing ts rs → is_nil ts ≡ false
closing_begun (closing r) = refl

ended_begun : {d : ℕ} {p : Bool} {ts : List Token} {rs : List Role} → Rest (Ended d p) ts rs → is_nil ts ≡ false
ended_begun (around (inside r)) = refl
ended_begun (around (without r)) = closing_begun r
ended_begun (bar r) = refl
ended_begun (close r) = refl
ended_begun (comma r) = refl

pub rest_over : {v : Want} {rs : List Role} → Rest v [] rs → (v ≡ NextClause) × (rs ≡ [])
unfolding roles
rest_over (clauses none) = (refl, refl)
rest_over (clauses (Clauses.more c _)) = elim c [ ]
rest_over (formula (plain d) r) = true_not_false (literal_begun (literal_split (literal d (without r))).rule)
rest_over (literal d r) = true_not_false (literal_begun (literal_split (literal d r)).rule)
rest_over (atom a r) = true_not_false (applied_begun a)
rest_over (term ys r) = true_not_false (term_begun (term_split (term ys r)).rule)
rest_over (around r) = true_not_false (ended_begun (around r))
rest_over (alone r) = true_not_false (ended_begun r)

pub nothing_left : Rest NextClause [] []
unfolding roles
nothing_left = clauses none
