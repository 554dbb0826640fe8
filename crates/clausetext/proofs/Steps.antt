-- One byte of a text: it leads from a state to the next one exactly where it may follow.
use Rattle.std.specs.Prelude.{Option, Some, None}
use Rattle.clausetext.specs.Texts.{counts, Verdict}
use mathlib.Core.Path.{◌≡◌, refl, ap, ◌∙◌}
use mathlib.Core.Bool.{Bool, true, false, cond}
use mathlib.Core.List.{List, [], ◌∷◌}
use Prim.Native.Nat.{ℕ, zero, suc, ◌+◌}
use native.Mathlib.Omega.{arith}
use lib.Dec.{eqb}
use lib.ListN.{drop, get_or}
use native.Mathlib.Numerals.{add-one}
use borrow.Author.Tests.{eqb-true, eqb-false, eq-eqb, ne_eqb}
use Rattle.clausetext.specs.declared.kind.Mark.{Mark}
use Rattle.clausetext.specs.declared.kind.Kind.{Kind}
use Rattle.clausetext.specs.declared.kind.Kind.TheVariants.{Blank, Percent, Lower, Upper, Further, Sign, Other}
use Rattle.clausetext.specs.declared.judge.Want.{Want}
use Rattle.clausetext.specs.declared.judge.Want.TheVariants.{Clause as NextClause, Opening, Name, AfterName, Role as NextRole, AfterRole, Formula as NextFormula, Literal as NextLiteral, Atom, Symbol, Term as NextTerm, Ended, Closing, Stop}
use Rattle.clausetext.specs.declared.judge.Mode.{Mode}
use Rattle.clausetext.specs.declared.judge.Mode.TheVariants.{Between, Comment, Word as InWord, Owed}
use Rattle.clausetext.specs.declared.judge.State.{State}
use Rattle.clausetext.specs.Kinds.{kind_of, sign_kind, goes_on}
use Rattle.clausetext.specs.Syntax.{Role, Axiom, Hypothesis, NegatedConjecture, role_name}
use Rattle.clausetext.specs.Tokens.{Token, mark, word_ahead, Word, ends, goes, Spelt, blank, comment, sign, lower, upper, Remark, closes, further}
use Rattle.clausetext.specs.Judging.{words, owed_at, signed, on_sign, on_role, on_lower, on_upper, on_kind, on_byte, step_of}
use Rattle.clausetext.proofs.Following.{Rest, Led, sign_leads, Leading, sign_leading, BeforeWord, cnf_word, name_word, role_word, formula_word, literal_word_lem, atom_word, term_word, word_split, word_joined, BeforeCapital, variable_word_lem, capital_split, capital_joined}

-- the bytes still owed of a word
unfoldable pub up_to_dot : List ℕ → List ℕ
up_to_dot [] = []
up_to_dot (c ∷ cs) = cond (eqb c 46) [] (c ∷ up_to_dot cs)

unfoldable pub owed_from : ℕ → List ℕ
owed_from i = up_to_dot (drop i words)

-- the bytes that may follow in a state, with the roles still to come
pub data Along : Want → Mode → List ℕ → List Role → Type 0 where
  between : {v : Want} {ts : List Token} {text : List ℕ} {rs : List Role} → Rest v ts rs → Spelt ts text → Along v Between text rs
  remark : {v : Want} {ts : List Token} {text : List ℕ} {rs : List Role} → Rest v ts rs → Remark ts text → Along v Comment text rs
  in_word : {v : Want} {w : List ℕ} {ts : List Token} {text rest : List ℕ} {rs : List Role} → Word w text rest → Rest v ts rs → Spelt ts rest → Along v InWord text rs
  owing : {v : Want} {i : ℕ} {w : List ℕ} {ts : List Token} {text rest : List ℕ} {rs : List Role} → w ≡ owed_from i → Word w text rest → Rest v ts rs → Spelt ts rest → Along v (Owed i) text rs

-- clauses and questions counted on over roles
abbrev pub asked : Role → ℕ → ℕ
asked Axiom q = q
asked Hypothesis q = q
asked NegatedConjecture q = q + 1

unfoldable pub tallied : ℕ → ℕ → List Role → Verdict
tallied n q [] = counts n q
tallied n q (r ∷ rs) = tallied (n + 1) (asked r q) rs

-- the bytes may follow, and the counts are then these
pub record From (s : State) (text : List ℕ) (total : Verdict) : Type 0 where
  pub roles : List Role
  pub along : Along s.want s.mode text roles
  pub tally : tallied s.clauses s.questions roles ≡ total

abbrev pub Goes : List ℕ → Verdict → Option State → Type 0
Goes text total (Some s) = From s text total
Goes text total None = ⊥

-- forwards
module _ (s : State) (text : List ℕ) (total : Verdict) where
  signed-goes : {ts : List Token} (rs : List Role) (u : Option Want) → tallied s.clauses s.questions rs ≡ total → Led ts rs u → Spelt ts text → Goes text total (signed s u)
  unfolding signed
  signed-goes rs (Some u) e r sp = record { roles = rs; along = between r sp; tally = e }
  signed-goes rs None e r sp = r

  role-goes : {c : ℕ} {w rest : List ℕ} {ts : List Token} {rs : List Role} (r : Role) → c ∷ w ≡ role_name r → tallied s.clauses s.questions (r ∷ rs) ≡ total → Rest AfterRole ts rs → Word w text rest → Spelt ts rest
      → Goes text total (on_role s c)
  unfolding on_role tallied owed_from up_to_dot
  role-goes {c = c} {w = w} {rs = rs} Axiom e t a b sp =
      let f : c ≡ 97 = cc in
      let g : w ≡ owed_from 5 = cc in
      rw f (record { roles = rs; along = owing g b a sp; tally = t })
  role-goes {c = c} {w = w} {rs = rs} Hypothesis e t a b sp =
      let f : c ≡ 104 = cc in
      let g : w ≡ owed_from 11 = cc in
      rw f (record { roles = rs; along = owing g b a sp; tally = t })
  role-goes {c = c} {w = w} {rs = rs} NegatedConjecture e t a b sp =
      let f : c ≡ 110 = cc in
      let g : w ≡ owed_from 22 = cc in
      rw f (record { roles = rs; along = owing g b a sp; tally = t })

  word_goes : {v : Want} {c : ℕ} {w rest : List ℕ} {ts : List Token} {rs : List Role} → BeforeWord v (c ∷ w) ts rs → tallied s.clauses s.questions rs ≡ total → Word w text rest → Spelt ts rest
      → Goes text total (on_lower s v c)
  unfolding on_lower owed_from up_to_dot
  word_goes {rs = rs} (cnf_word r) e w sp = record { roles = rs; along = owing refl w r sp; tally = e }
  word_goes {rs = rs} (name_word r) e w sp = record { roles = rs; along = in_word w r sp; tally = e }
  word_goes (role_word {r = r} f a) e w sp = role-goes r f e a w sp
  word_goes {rs = rs} (formula_word r) e w sp = record { roles = rs; along = in_word w r sp; tally = e }
  word_goes {rs = rs} (literal_word_lem r) e w sp = record { roles = rs; along = in_word w r sp; tally = e }
  word_goes {rs = rs} (atom_word r) e w sp = record { roles = rs; along = in_word w r sp; tally = e }
  word_goes {rs = rs} (term_word r) e w sp = record { roles = rs; along = in_word w r sp; tally = e }

  capital-goes : {v : Want} {w rest : List ℕ} {ts : List Token} {rs : List Role} → BeforeCapital v ts rs → tallied s.clauses s.questions rs ≡ total → Word w text rest → Spelt ts rest
      → Goes text total (on_upper s v)
  unfolding on_upper
  capital-goes {rs = rs} (variable_word_lem r) e w sp = record { roles = rs; along = in_word w r sp; tally = e }

  kind-goes : {c : ℕ} {ts : List Token} {rs : List Role} → Rest s.want ts rs → tallied s.clauses s.questions rs ≡ total → Spelt ts (c ∷ text) → Goes text total (on_kind s c (kind_of c))
  unfolding on_kind
  kind-goes {rs = rs} r e (blank k sp) = rw k (record { roles = rs; along = between r sp; tally = e })
  kind-goes {rs = rs} r e (comment k m) = rw k (record { roles = rs; along = remark r m; tally = e })
  kind-goes {rs = rs} r e (sign {m = m} k sp) = rw k (signed-goes rs (on_sign s.want m) e (sign_leads r) sp)
  kind-goes r e (lower k w sp) = rw k (word_goes (word_split r) e w sp)
  kind-goes r e (upper k w sp) = rw k (capital-goes (capital_split r) e w sp)

-- the byte owed and those after it
owed_in : (l : List ℕ) (i : ℕ) → up_to_dot (drop i l) ≡ cond (eqb (get_or l i 46) 46) [] (get_or l i 46 ∷ up_to_dot (drop (suc i) l))
unfolding up_to_dot
owed_in [] zero = refl
owed_in [] (suc i) = refl
owed_in (x ∷ l) zero = refl
owed_in (x ∷ l) (suc i) = owed_in l i

pub owed_is : (i : ℕ) → owed_from i ≡ cond (eqb (owed_at i) 46) [] (owed_at i ∷ owed_from (i + 1))
unfolding owed_from owed_at
owed_is i = rw add-one (owed_in words i)

pub owed_none : (b : Bool) (x : ℕ) (l : List ℕ) → [] ≡ cond b [] (x ∷ l) → b ≡ true
owed_none true x l e = refl
owed_none false x l e = let z : ◌≡◌ {A = ℕ} 0 1 = cc in absurd (omega arith)

owed_byte : (b : Bool) {c x : ℕ} {w l : List ℕ} → c ∷ w ≡ cond b [] (x ∷ l) → (c ≡ x) × (w ≡ l)
owed_byte true e = let z : ◌≡◌ {A = ℕ} 0 1 = cc in absurd (omega arith)
owed_byte false e = (cc, cc)

module _ (s : State) (c : ℕ) (text : List ℕ) (total : Verdict) where
  byte-goes : {rs : List Role} (m : Mode) → tallied s.clauses s.questions rs ≡ total → Along s.want m (c ∷ text) rs → Goes text total (on_byte s c m)
  unfolding on_byte word_ahead
  byte-goes Between e (between r sp) = kind-goes s text total r e sp
  byte-goes {rs = rs} Comment e (remark r (closes k sp)) = rw (eq-eqb c 10 k) (record { roles = rs; along = between r sp; tally = e })
  byte-goes {rs = rs} Comment e (remark r (further k m)) = rw (ne_eqb c 10 k) (record { roles = rs; along = remark r m; tally = e })
  byte-goes InWord e (in_word (ends a) r sp) = rw a (kind-goes s text total r e sp)
  byte-goes {rs = rs} InWord e (in_word (goes k w) r sp) = rw k (record { roles = rs; along = in_word w r sp; tally = e })
  byte-goes (Owed i) e (owing g (ends a) r sp) =
      rw (a, owed_none (eqb (owed_at i) 46) (owed_at i) (owed_from (i + 1)) (g ∙ owed_is i)) (kind-goes s text total r e sp)
  byte-goes {rs = rs} (Owed i) e (owing g (goes k w) r sp) =
      let f = owed_byte (eqb (owed_at i) 46) (g ∙ owed_is i) in
      rw (k, eq-eqb c (owed_at i) f.0) (record { roles = rs; along = owing f.1 w r sp; tally = e })

  pub step_goes : From s (c ∷ text) total → Goes text total (step_of s c)
  unfolding step_of
  step_goes f = byte-goes s.mode f.tally f.along

-- backwards
abbrev pub Before : State → ℕ → Option State → Type 0
Before s c (Some t) = (text : List ℕ) (total : Verdict) → From t text total → From s (c ∷ text) total
Before s c None = Unit {0}

before_cond : (s : State) (c : ℕ) (b : Bool) (x y : Option State) → (b ≡ true → Before s c x) → (b ≡ false → Before s c y) → Before s c (cond b x y)
before_cond s c true x y f g = f refl
before_cond s c false x y f g = g refl

along_blank : {v : Want} {c : ℕ} {text : List ℕ} {rs : List Role} → kind_of c ≡ Blank → Along v Between text rs → Along v Between (c ∷ text) rs
along_blank k (between r sp) = between r (blank k sp)

along_comment : {v : Want} {c : ℕ} {text : List ℕ} {rs : List Role} → kind_of c ≡ Percent → Along v Comment text rs → Along v Between (c ∷ text) rs
along_comment k (remark r m) = between r (comment k m)

along_sign : {v u : Want} {m : Mark} {c : ℕ} {text : List ℕ} {rs : List Role} → kind_of c ≡ Sign m → ((ts : List Token) (rs : List Role) → Rest u ts rs → Rest v (mark m ∷ ts) rs) → Along u Between text rs → Along v Between (c ∷ text) rs
along_sign k f (between r sp) = between (f _ _ r) (sign k sp)

along_word : {v u : Want} {c : ℕ} {text : List ℕ} {rs : List Role} → kind_of c ≡ Lower → ((w : List ℕ) (ts : List Token) → Rest u ts rs → BeforeWord v w ts rs) → Along u InWord text rs → Along v Between (c ∷ text) rs
along_word k f (in_word w r sp) = between (word_joined (f _ _ r)) (lower k w sp)

along_capital : {v u : Want} {c : ℕ} {text : List ℕ} {rs : List Role} → kind_of c ≡ Upper → ((ts : List Token) → Rest u ts rs → BeforeCapital v ts rs) → Along u InWord text rs → Along v Between (c ∷ text) rs
along_capital k f (in_word w r sp) = between (capital_joined _ (f _ r)) (upper k w sp)

along_owing : {v u : Want} {i c : ℕ} {text : List ℕ} {rs qs : List Role} → kind_of c ≡ Lower → ((ts : List Token) → Rest u ts rs → BeforeWord v (c ∷ owed_from i) ts qs) → Along u (Owed i) text rs → Along v Between (c ∷ text) qs
along_owing {c = c} k f (owing g w r sp) =
    between (word_joined (f _ r)) (lower k (rw g at w) sp)

abbrev pub state : Want → Mode → ℕ → ℕ → State
state v m n q = record { want = v; mode = m; clauses = n; questions = q }

module _ (n q c : ℕ) (md : Mode) where
  signed-before : (v : Want) (m : Mark) → kind_of c ≡ Sign m → (u : Option Want) → Leading v m u → Before (state v Between n q) c (signed (state v md n q) u)
  unfolding signed
  signed-before v m k (Some u) l = λ text total f. record { roles = f.roles; along = along_sign k l f.along; tally = f.tally }
  signed-before v m k None l = tt

  role-begun : (r : Role) (i : ℕ) → c ∷ owed_from i ≡ role_name r → kind_of c ≡ Lower → (text : List ℕ) (total : Verdict) → From (state AfterRole (Owed i) (n + 1) (asked r q)) text total → From (state NextRole Between n q) (c ∷ text) total
  unfolding tallied
  role-begun r i e k text total f =
      record { roles = r ∷ f.roles; along = along_owing k (λ ts a. role_word e a) f.along; tally = f.tally }

  role_before : kind_of c ≡ Lower → Before (state NextRole Between n q) c (on_role (state NextRole md n q) c)
  unfolding on_role owed_from up_to_dot
  role_before k =
      before_cond (state NextRole Between n q) c (eqb c 97) _ _ (λ e. role-begun Axiom 5 (ap (λ (x : ℕ). x ∷ owed_from 5) (eqb-true c 97 e)) k)
      (λ _. before_cond (state NextRole Between n q) c (eqb c 104) _ _ (λ e. role-begun Hypothesis 11 (ap (λ (x : ℕ). x ∷ owed_from 11) (eqb-true c 104 e)) k)
      (λ _. before_cond (state NextRole Between n q) c (eqb c 110) _ _ (λ e. role-begun NegatedConjecture 22 (ap (λ (x : ℕ). x ∷ owed_from 22) (eqb-true c 110 e)) k) (λ _. tt)))

  in_word_before : {v u : Want} → ((w : List ℕ) (ts : List Token) (rs : List Role) → Rest u ts rs → BeforeWord v w ts rs) → kind_of c ≡ Lower → (text : List ℕ) (total : Verdict) → From (state u InWord n q) text total → From (state v Between n q) (c ∷ text) total
  in_word_before g k text total f =
      record { roles = f.roles; along = along_word k (λ w ts. g w ts f.roles) f.along; tally = f.tally }

  cnf_before : kind_of c ≡ Lower → c ≡ 99 → (text : List ℕ) (total : Verdict) → From (state Opening (Owed 1) n q) text total → From (state NextClause Between n q) (c ∷ text) total
  unfolding owed_from up_to_dot
  cnf_before k e text total f =
      record { roles = f.roles; along = along_owing k (λ ts r. rw e (cnf_word r)) f.along; tally = f.tally }

  lower_before : (v : Want) → kind_of c ≡ Lower → Before (state v Between n q) c (on_lower (state v md n q) v c)
  unfolding on_lower
  lower_before NextClause k = before_cond (state NextClause Between n q) c (eqb c 99) _ _ (λ e. cnf_before k (eqb-true c 99 e)) (λ _. tt)
  lower_before Opening k = tt
  lower_before Name k = in_word_before (λ w ts rs. name_word) k
  lower_before AfterName k = tt
  lower_before NextRole k = role_before k
  lower_before AfterRole k = tt
  lower_before NextFormula k = in_word_before (λ w ts rs. formula_word) k
  lower_before (NextLiteral p) k = in_word_before (λ w ts rs. literal_word_lem) k
  lower_before (Atom p) k = in_word_before (λ w ts rs. atom_word) k
  lower_before (Symbol d p) k = tt
  lower_before (NextTerm d p) k = in_word_before (λ w ts rs. term_word) k
  lower_before (Ended d p) k = tt
  lower_before Closing k = tt
  lower_before Stop k = tt

  upper_before : (v : Want) → kind_of c ≡ Upper → Before (state v Between n q) c (on_upper (state v md n q) v)
  unfolding on_upper
  upper_before NextClause k = tt
  upper_before Opening k = tt
  upper_before Name k = tt
  upper_before AfterName k = tt
  upper_before NextRole k = tt
  upper_before AfterRole k = tt
  upper_before NextFormula k = tt
  upper_before (NextLiteral p) k = tt
  upper_before (Atom p) k = tt
  upper_before (Symbol d p) k = tt
  upper_before (NextTerm d p) k =
      λ text total f. record { roles = f.roles; along = along_capital k (λ ts. variable_word_lem) f.along; tally = f.tally }
  upper_before (Ended d p) k = tt
  upper_before Closing k = tt
  upper_before Stop k = tt

  kind_before : (v : Want) (k : Kind) → kind_of c ≡ k → Before (state v Between n q) c (on_kind (state v md n q) c k)
  unfolding on_kind
  kind_before v Blank k = λ text total f. record { roles = f.roles; along = along_blank k f.along; tally = f.tally }
  kind_before v Percent k = λ text total f. record { roles = f.roles; along = along_comment k f.along; tally = f.tally }
  kind_before v Lower k = lower_before v k
  kind_before v Upper k = upper_before v k
  kind_before v Further k = tt
  kind_before v (Sign m) k = signed-before v m k (on_sign v m) (sign_leading v m)
  kind_before v Other k = tt

-- a byte in a mode
along_closed : {v : Want} {c : ℕ} {text : List ℕ} {rs : List Role} (b : Bool) → eqb c 10 ≡ b → Along v (cond b Between Comment) text rs → Along v Comment (c ∷ text) rs
along_closed {c = c} true e (between r sp) = remark r (closes (eqb-true c 10 e) sp)
along_closed {c = c} false e (remark r m) = remark r (further (eqb-false c 10 e) m)

along_goes : {v : Want} {c : ℕ} {text : List ℕ} {rs : List Role} → goes_on (kind_of c) ≡ true → Along v InWord text rs → Along v InWord (c ∷ text) rs
along_goes k (in_word w r sp) = in_word (goes k w) r sp

along_ends : {v : Want} {c : ℕ} {text : List ℕ} {rs : List Role} → goes_on (kind_of c) ≡ false → Along v Between (c ∷ text) rs → Along v InWord (c ∷ text) rs
unfolding word_ahead
along_ends k (between r sp) = in_word (ends k) r sp

pub no_dot : {c x : ℕ} → goes_on (kind_of c) ≡ true → c ≡ x → eqb x 46 ≡ false
unfolding kind_of sign_kind
no_dot {c} {x} k e = ne_eqb x 46 (λ h. let d : c ≡ 46 = cc in let f : false ≡ true = rw d at k in let z : ◌≡◌ {A = ℕ} 0 1 = cc in omega arith)

along_owed : {v : Want} {i c : ℕ} {text : List ℕ} {rs : List Role} → goes_on (kind_of c) ≡ true → c ≡ owed_at i → Along v (Owed (i + 1)) text rs → Along v (Owed i) (c ∷ text) rs
along_owed {i = i} {c = c} k e (owing {w = w} g b r sp) =
    let h : c ∷ w ≡ owed_from i = rw (owed_is i, no_dot k e) (cc) in owing h (goes k b) r sp

along_paid : {v : Want} {i c : ℕ} {text : List ℕ} {rs : List Role} → goes_on (kind_of c) ≡ false → eqb (owed_at i) 46 ≡ true → Along v Between (c ∷ text) rs → Along v (Owed i) (c ∷ text) rs
unfolding word_ahead
along_paid {i = i} k e (between r sp) = let h : [] ≡ owed_from i = rw (owed_is i, e) in owing h (ends k) r sp

lifted : (v : Want) (n q c : ℕ) (m : Mode) (t : Option State) → ((text : List ℕ) (rs : List Role) → Along v Between (c ∷ text) rs → Along v m (c ∷ text) rs) → Before (state v Between n q) c t → Before (state v m n q) c t
lifted v n q c m (Some t) g b =
    λ text total f. let a = b text total f in record { roles = a.roles; along = g text a.roles a.along; tally = a.tally }
lifted v n q c m None g b = tt

module _ (v : Want) (n q c : ℕ) where
  owed-before : (i : ℕ) (k : Bool) → goes_on (kind_of c) ≡ k → Before (state v (Owed i) n q) c
      (cond k (cond (eqb c (owed_at i)) (Some (state v (Owed (i + 1)) n q)) None) (cond (eqb (owed_at i) 46) (on_kind (state v (Owed i) n q) c (kind_of c)) None))
  owed-before i true k =
      before_cond (state v (Owed i) n q) c (eqb c (owed_at i)) _ _
      (λ e text total f. record { roles = f.roles; along = along_owed k (eqb-true c (owed_at i) e) f.along; tally = f.tally })
      (λ _. tt)
  owed-before i false k =
      before_cond (state v (Owed i) n q) c (eqb (owed_at i) 46) _ _
      (λ e. lifted v n q c (Owed i) (on_kind (state v (Owed i) n q) c (kind_of c)) (λ text rs. along_paid k e) (kind_before n q c (Owed i) v (kind_of c) refl))
      (λ _. tt)

  word-before : (k : Bool) → goes_on (kind_of c) ≡ k → Before (state v InWord n q) c (cond k (Some (state v InWord n q)) (on_kind (state v InWord n q) c (kind_of c)))
  word-before true k = λ text total f. record { roles = f.roles; along = along_goes k f.along; tally = f.tally }
  word-before false k =
      lifted v n q c InWord (on_kind (state v InWord n q) c (kind_of c)) (λ text rs. along_ends k) (kind_before n q c InWord v (kind_of c) refl)

  byte-before : (m : Mode) → Before (state v m n q) c (on_byte (state v m n q) c m)
  unfolding on_byte
  byte-before Between = kind_before n q c Between v (kind_of c) refl
  byte-before Comment = λ text total f. record { roles = f.roles; along = along_closed (eqb c 10) refl f.along; tally = f.tally }
  byte-before InWord = word-before (goes_on (kind_of c)) refl
  byte-before (Owed i) = owed-before i (goes_on (kind_of c)) refl

pub step_before : (s : State) (c : ℕ) → Before s c (step_of s c)
unfolding step_of
step_before s c = byte-before s.want s.clauses s.questions c s.mode
