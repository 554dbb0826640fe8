-- A permitted text says one thing.
use mathlib.Core.Path.{◌≡◌, refl, sym, ap, ap₂, ◌∙◌}
use mathlib.Core.Bool.{Bool, true, false, cond}
use mathlib.Core.List.{List, [], ◌∷◌}
use Prim.Native.Nat.{ℕ}
use native.Mathlib.Omega.{arith}
use lib.Dec.{eqb}
use Rattle.clausetext.specs.declared.kind.Mark.TheVariants.{Open, Close, Comma, Bar, Tilde, Dot}
use Rattle.clausetext.specs.declared.kind.Kind.{Kind}
use Rattle.clausetext.specs.declared.kind.Kind.TheVariants.{Blank, Percent, Lower, Upper, Further, Sign, Other}
use Rattle.clausetext.specs.Kinds.{kind_of}
use Rattle.clausetext.specs.Syntax.{Term, application, Terms, nil, ◌then◌, Literal, Role, Axiom, Hypothesis, NegatedConjecture, role_name, Clause}
use Rattle.clausetext.specs.Tokens.{Token, word, capital, mark, word_ahead, Word, ends, goes, Spelt, nothing, blank, comment, sign, lower, upper, Remark, stops, closes, further}
use Rattle.clausetext.specs.Grammar.{Applied, bare, applied, TermRule, Arguments, LiteralRule, positive, negated, Disjunction, Formula, plain, bracketed, cnf, ClauseRule, clause, Clauses, none}
use Rattle.clausetext.specs.Texts.{Says}
use Rattle.clausetext.proofs.Following.{applied_first, not_both, never}
use Rattle.clausetext.proofs.Apart.{true_not_false}

-- the tokens of a text that begins with a byte, by the byte's kind
abbrev pub Begins : Kind → ℕ → List Token → List ℕ → Type 0
Begins Blank c ts text = Spelt ts text
Begins Percent c ts text = Remark ts text
Begins Lower c ts text = (w rest : List ℕ) × (us : List Token) × (ts ≡ word (c ∷ w) ∷ us) × Word w text rest × Spelt us rest
Begins Upper c ts text = (w rest : List ℕ) × (us : List Token) × (ts ≡ capital (c ∷ w) ∷ us) × Word w text rest × Spelt us rest
Begins Further c ts text = ⊥
Begins (Sign m) c ts text = (us : List Token) × (ts ≡ mark m ∷ us) × Spelt us text
Begins Other c ts text = ⊥

pub spelt_begins : {c : ℕ} {ts : List Token} {text : List ℕ} → Spelt ts (c ∷ text) → Begins (kind_of c) c ts text
spelt_begins (blank k sp) = rw k sp
spelt_begins (comment k m) = rw k m
spelt_begins (sign k sp) = rw k (_, refl, sp)
spelt_begins (lower k w sp) = rw k (_, _, _, refl, w, sp)
spelt_begins (upper k w sp) = rw k (_, _, _, refl, w, sp)

-- a word ends in one place

pub word_once : {v w text rest left : List ℕ} → Word v text rest → Word w text left → (v ≡ w) × (rest ≡ left)
unfolding word_ahead
word_once (ends a) (ends b) = (refl, refl)
word_once (ends a) (goes k y) = true_not_false (sym k ∙ a)
word_once (goes k x) (ends b) = true_not_false (sym k ∙ b)
word_once (goes {c = c} k x) (goes l y) = let f = word_once x y in (ap (λ (z : List ℕ). c ∷ z) f.0, f.1)

mutual
  pub spelt_once : {ts us : List Token} {text : List ℕ} → Spelt ts text → Spelt us text → ts ≡ us
  spelt_once nothing nothing = refl
  spelt_once (blank k x) y = spelt_once x (rw k at (spelt_begins y))
  spelt_once (comment k x) y = remark_once x (rw k at (spelt_begins y))
  spelt_once {us = us} (sign {c = c} {m = m} {ts = ts} k x) y =
      let f : Begins (Sign m) c us _ = rw k at (spelt_begins y) in
      let g = spelt_once x f.2 in
      cc
  spelt_once {us = us} (lower {c = c} {w = v} {ts = ts} k w x) y =
      let f : Begins Lower c us _ = rw k at (spelt_begins y) in
      let h = word_once w f.4 in
      let g = spelt_once x (rw (sym h.1) at f.5) in
      cc
  spelt_once {us = us} (upper {c = c} {w = v} {ts = ts} k w x) y =
      let f : Begins Upper c us _ = rw k at (spelt_begins y) in
      let h = word_once w f.4 in
      let g = spelt_once x (rw (sym h.1) at f.5) in
      cc

  pub remark_once : {ts us : List Token} {text : List ℕ} → Remark ts text → Remark us text → ts ≡ us
  remark_once stops stops = refl
  remark_once (closes k x) (closes l y) = spelt_once x y
  remark_once (closes k x) (further l y) = absurd (l k)
  remark_once (further k x) (closes l y) = absurd (k l)
  remark_once (further k x) (further l y) = remark_once x y

-- after a name without arguments comes no `(`
abbrev is_open : Token → Bool
is_open (word w) = false
is_open (capital x) = false
is_open (mark Open) = true
is_open (mark Close) = false
is_open (mark Comma) = false
is_open (mark Bar) = false
is_open (mark Tilde) = false
is_open (mark Dot) = false

abbrev starts_open : List Token → Bool
starts_open [] = false
starts_open (t ∷ ts) = is_open t

close_not_comma : {A : Type 0} {us vs : List Token} → mark Close ∷ us ≡ mark Comma ∷ vs → A
close_not_comma e = let z : ◌≡◌ {A = ℕ} 0 1 = cc in absurd (omega arith)

same_rest : {t : Token} {us vs : List Token} → t ∷ us ≡ t ∷ vs → us ≡ vs
same_rest e = cc

mutual
  applied_once : {f g : List ℕ} {ys zs : Terms} {ts us vs : List Token} → Applied f ys ts us → Applied g zs ts vs → starts_open us ≡ false → starts_open vs ≡ false → (f ≡ g) × (ys ≡ zs) × (us ≡ vs)
  applied_once bare bare a b = (refl, refl, refl)
  applied_once bare (applied z) a b = true_not_false a
  applied_once (applied y) bare a b = true_not_false b
  applied_once (applied y) (applied z) a b = let f = arguments_once y z in (refl, f.0, f.1)

  term_once : {s t : Term} {ts us vs : List Token} → TermRule s ts us → TermRule t ts vs → starts_open us ≡ false → starts_open vs ≡ false → (s ≡ t) × (us ≡ vs)
  term_once TermRule.upper TermRule.upper a b = (refl, refl)
  term_once TermRule.upper (TermRule.lower y) a b = not_both (applied_first y)
  term_once (TermRule.lower x) TermRule.upper a b = not_both (applied_first x)
  term_once (TermRule.lower x) (TermRule.lower y) a b = let f = applied_once x y a b in (ap₂ application f.0 f.1, f.2)

  arguments_once : {ys zs : Terms} {ts us vs : List Token} → Arguments ys ts us → Arguments zs ts vs → (ys ≡ zs) × (us ≡ vs)
  arguments_once (Arguments.last x) (Arguments.last y) = let f = term_once x y refl refl in (ap (λ (t : Term). t then nil) f.0, same_rest f.1)
  arguments_once (Arguments.last x) (Arguments.more y z) = close_not_comma (term_once x y refl refl).1
  arguments_once (Arguments.more x w) (Arguments.last y) = close_not_comma (sym (term_once x y refl refl).1)
  arguments_once (Arguments.more x w) (Arguments.more y z) =
      let f = term_once x y refl refl in
      let g = arguments_once w (rw (sym (same_rest f.1)) at z) in
      (ap₂ ◌then◌ f.0 g.0, g.1)

close_not_bar : {A : Type 0} {us vs : List Token} → mark Close ∷ us ≡ mark Bar ∷ vs → A
close_not_bar e = let z : ◌≡◌ {A = ℕ} 0 1 = cc in absurd (omega arith)

abbrev literal_of : Bool → List ℕ → Terms → Literal
literal_of s p ts = record { negative = s; predicate = p; arguments = ts }

literal_once : {k l : Literal} {ts us vs : List Token} → LiteralRule k ts us → LiteralRule l ts vs → starts_open us ≡ false → starts_open vs ≡ false → (k ≡ l) × (us ≡ vs)
literal_once (positive x) (positive y) a b = let f = applied_once x y a b in (ap₂ (literal_of false) f.0 f.1, f.2)
literal_once (positive x) (negated y) a b = never (applied_first x)
literal_once (negated x) (positive y) a b = never (applied_first y)
literal_once (negated x) (negated y) a b = let f = applied_once x y a b in (ap₂ (literal_of true) f.0 f.1, f.2)

disjunction_once : {ks ls : List Literal} {ts us vs : List Token} → Disjunction ks ts (mark Close ∷ us) → Disjunction ls ts (mark Close ∷ vs) → (ks ≡ ls) × (us ≡ vs)
disjunction_once (Disjunction.last x) (Disjunction.last y) =
    let f = literal_once x y refl refl in (ap (λ (l : Literal). l ∷ []) f.0, same_rest f.1)
disjunction_once (Disjunction.last x) (Disjunction.more y z) = close_not_bar (literal_once x y refl refl).1
disjunction_once (Disjunction.more x w) (Disjunction.last y) = close_not_bar (sym (literal_once x y refl refl).1)
disjunction_once (Disjunction.more x w) (Disjunction.more y z) =
    let f = literal_once x y refl refl in
    let g = disjunction_once w (rw (sym (same_rest f.1)) at z) in
    (ap₂ ◌∷◌ f.0 g.0, g.1)

literal_no_open : {A : Type 0} {l : Literal} {ts us : List Token} → LiteralRule l (mark Open ∷ ts) us → A
literal_no_open (positive a) = never (applied_first a)

disjunction_no_open : {A : Type 0} {ls : List Literal} {ts us : List Token} → Disjunction ls (mark Open ∷ ts) us → A
disjunction_no_open (Disjunction.last l) = literal_no_open l
disjunction_no_open (Disjunction.more l ls) = literal_no_open l

formula_once : {ks ls : List Literal} {ts us vs : List Token} → Formula ks ts (mark Close ∷ us) → Formula ls ts (mark Close ∷ vs) → (ks ≡ ls) × (us ≡ vs)
formula_once (plain x) (plain y) = disjunction_once x y
formula_once (plain x) (bracketed y) = disjunction_no_open x
formula_once (bracketed x) (plain y) = disjunction_no_open y
formula_once (bracketed x) (bracketed y) = let f = disjunction_once x y in (f.0, same_rest f.1)

-- a role is known by its name
abbrev first_of : List ℕ → ℕ
first_of [] = 0
first_of (c ∷ cs) = c

abbrev role_from : ℕ → Role
role_from c = cond (eqb c 97) Axiom (cond (eqb c 104) Hypothesis NegatedConjecture)

role_from_lem : (r : Role) → role_from (first_of (role_name r)) ≡ r
role_from_lem Axiom = refl
role_from_lem Hypothesis = refl
role_from_lem NegatedConjecture = refl

role_once : (r s : Role) → role_name r ≡ role_name s → r ≡ s
role_once r s e = sym (role_from_lem r) ∙ ap (λ (n : List ℕ). role_from (first_of n)) e ∙ role_from_lem s

-- the parts of a clause
abbrev clause_of : List ℕ → Role → List Literal → Clause
clause_of n r ls = record { name = n; role = r; literals = ls }

abbrev headed : List ℕ → List ℕ → List Token → List Token
headed n r from = word cnf ∷ mark Open ∷ word n ∷ mark Comma ∷ word r ∷ mark Comma ∷ from

record Parts (c : Clause) (ts us : List Token) : Type 0 where
  pub name : List ℕ
  pub role : Role
  pub literals : List Literal
  pub from : List Token
  pub said : c ≡ clause_of name role literals
  pub taken : ts ≡ headed name (role_name role) from
  pub rule : Formula literals from (mark Close ∷ mark Dot ∷ us)

parts : {c : Clause} {ts us : List Token} → ClauseRule c ts us → Parts c ts us
parts (clause f) = record { name = _; role = _; literals = _; from = _; said = refl; taken = refl; rule = f }

clause_once : {c d : Clause} {ts us vs : List Token} → ClauseRule c ts us → ClauseRule d ts vs → (c ≡ d) × (us ≡ vs)
clause_once x y =
    let p = parts x in
    let q = parts y in
    let e = sym p.taken ∙ q.taken in
    let n : p.name ≡ q.name = cc in
    let r : role_name p.role ≡ role_name q.role = cc in
    let t : p.from ≡ q.from = cc in
    let s = role_once p.role q.role r in
    let f = formula_once p.rule (rw (sym t) at q.rule) in
    let l = f.0 in
    let a = p.said in
    let b = q.said in
    (cc, same_rest f.1)

no_clause : {A : Type 0} {c : Clause} {us : List Token} → ClauseRule c [] us → A
no_clause d = let e = (parts d).taken in let z : ◌≡◌ {A = ℕ} 0 1 = cc in absurd (omega arith)

pub clauses_once : {cs ds : List Clause} {ts : List Token} → Clauses cs ts → Clauses ds ts → cs ≡ ds
clauses_once none none = refl
clauses_once (Clauses.more c x) (Clauses.more d y) =
    let f = clause_once c d in ap₂ ◌∷◌ f.0 (clauses_once x (rw (sym f.1) at y))
clauses_once none (Clauses.more d y) = no_clause d
clauses_once (Clauses.more c x) none = no_clause c

pub one_reading : {text : List ℕ} {cs ds : List Clause} → Says text cs → Says text ds → cs ≡ ds
one_reading x y = clauses_once x.clauses (rw (sym (spelt_once x.spelt y.spelt)) at y.clauses)
