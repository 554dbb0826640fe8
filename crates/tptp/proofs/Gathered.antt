-- The tokens of clauses gather their items.
use mathlib.Core.Bool.{Bool, true, false}
use mathlib.Core.List.{List, [], ◌∷◌, ◌++◌, append_assoc, append-nil}
use mathlib.Core.Path.{◌≡◌, refl, ap, ◌∙◌}
use Prim.Native.Nat.{ℕ, suc, ◌+◌, ◌-◌}
use native.Mathlib.Omega.{arith}
use lib.Dec.{leb}
use lib.ListN.{length, length-append}
use Rattle.names.specs.Numbers.{Name}
use Rattle.clausetext.specs.declared.kind.Mark.TheVariants.{Close}
use Rattle.clausetext.specs.Syntax.{Term, Terms, Literal, Role, Axiom, Hypothesis, NegatedConjecture, role_name, Clause}
use Rattle.clausetext.specs.Tokens.{Token, mark}
use Rattle.clausetext.specs.Grammar.{Applied, bare, applied, TermRule, upper, lower, Arguments, LiteralRule, positive, negated, Disjunction, Formula, plain, bracketed, ClauseRule, clause, Clauses, none}
use Rattle.tptp.specs.Sketch.{Item, many, term_items, terms_items, literal_items, literals_items, clause_sort, clause_items, clauses_items, Gathering, with_part, lone, name_sort, role_sort, on_word, on_capital, on_mark, on_token, gather}

abbrev partly : Item → ℕ → Item
partly i n = record { sort = i.sort; parts = i.parts + n; name = i.name }

abbrev amid : List Item → List ℕ → Gathering
amid items inner = record { items = items; inner = inner; stage = 7; negative = false }

with_part_lem : (pre : List Item) (i : Item) (post : List Item) → with_part (pre ++ i ∷ post) (length pre) ≡ pre ++ partly i 1 ∷ post
unfolding with_part
with_part_lem [] i post = refl
with_part_lem (x ∷ pre) i post = ap (λ (l : List Item). x ∷ l) (with_part_lem pre i post)

last_place : (is : List Item) (i : Item) → length (is ++ (i ∷ [])) - 1 ≡ length is
last_place is i = rw (length-append is (i ∷ [])) (omega arith)

more_parts : (i : Item) (n : ℕ) → partly (partly i 1) n ≡ partly i (suc n)
more_parts i n = ap (λ (m : ℕ). record { sort = i.sort; parts = m; name = i.name }) (omega arith)

mutual
  unfolding gather on_token on_word on_capital on_mark term_items terms_items many

  applied_gathers : {f : Name} {ts : Terms} {from rest : List Token} → Applied f ts from rest
      → (pre : List Item) (i : Item) (post : List Item) (st : List ℕ) (stage : ℕ) (negative : Bool) → leb 6 stage ≡ true
      → gather (record { items = pre ++ i ∷ post; inner = length pre ∷ st; stage = stage; negative = negative }) from
      ≡ gather (amid ((pre ++ partly i 1 ∷ post) ++ (record { sort = name_sort (length pre ∷ st) negative; parts = many ts; name = f } ∷ terms_items ts)) (length pre ∷ st)) rest
  applied_gathers (bare {f} {rest}) pre i post st stage negative h = rw (h, with_part_lem pre i post)
  applied_gathers (applied {f} {ts} {from} {rest} a) pre i post st stage negative h =
      rw (h, with_part_lem pre i post, last_place)
      (arguments_gather a (pre ++ partly i 1 ∷ post) (lone (name_sort (length pre ∷ st) negative) f) [] (length pre) st
      ∙ (let z : 0 + many ts ≡ many ts = omega arith in rw z))

  term_gathers : {t : Term} {from rest : List Token} → TermRule t from rest
      → (pre : List Item) (i : Item) (post : List Item) (b : ℕ) (st : List ℕ)
      → gather (amid (pre ++ i ∷ post) (length pre ∷ b ∷ st)) from
      ≡ gather (amid ((pre ++ partly i 1 ∷ post) ++ term_items t) (length pre ∷ b ∷ st)) rest
  term_gathers (upper {x} {rest}) pre i post b st = rw (with_part_lem pre i post)
  term_gathers (lower a) pre i post b st = applied_gathers a pre i post (b ∷ st) 7 false refl

  arguments_gather : {ts : Terms} {from rest : List Token} → Arguments ts from rest
      → (pre : List Item) (i : Item) (post : List Item) (b : ℕ) (st : List ℕ)
      → gather (amid (pre ++ i ∷ post) (length pre ∷ b ∷ st)) from
      ≡ gather (amid (pre ++ partly i (many ts) ∷ (post ++ terms_items ts)) (b ∷ st)) rest
  arguments_gather (Arguments.last {t} r) pre i post b st =
      term_gathers r pre i post b st ∙ rw (append_assoc pre (partly i 1 ∷ post) (term_items t), append-nil (term_items t))
  arguments_gather (Arguments.more {t} {ts} r rs) pre i post b st =
      term_gathers r pre i post b st
      ∙ rw (append_assoc pre (partly i 1 ∷ post) (term_items t))
      (arguments_gather rs pre (partly i 1) (post ++ term_items t) b st
      ∙ rw (more_parts i (many ts), append_assoc post (term_items t) (terms_items ts)))

-- a literal is a part of its clause
literal_gathers : {l : Literal} {from rest : List Token} → LiteralRule l from rest
    → (pre : List Item) (i : Item) (post : List Item) (stage : ℕ) → leb 6 stage ≡ true
    → gather (record { items = pre ++ i ∷ post; inner = length pre ∷ []; stage = stage; negative = false }) from
    ≡ gather (amid ((pre ++ partly i 1 ∷ post) ++ literal_items l) (length pre ∷ [])) rest
unfolding gather on_token on_mark literal_items
literal_gathers (positive a) pre i post stage h = applied_gathers a pre i post [] stage false h
literal_gathers (negated a) pre i post stage h = rw h (applied_gathers a pre i post [] 7 true refl)

disjunction_gathers : {ls : List Literal} {from rest : List Token} → Disjunction ls from rest
    → (pre : List Item) (i : Item) (post : List Item) (stage : ℕ) → leb 6 stage ≡ true
    → gather (record { items = pre ++ i ∷ post; inner = length pre ∷ []; stage = stage; negative = false }) from
    ≡ gather (amid (pre ++ partly i (length ls) ∷ (post ++ literals_items ls)) (length pre ∷ [])) rest
unfolding gather on_token on_mark literals_items
disjunction_gathers (Disjunction.last {l} r) pre i post stage h =
    literal_gathers r pre i post stage h ∙ rw (append_assoc pre (partly i 1 ∷ post) (literal_items l), append-nil (literal_items l))
disjunction_gathers (Disjunction.more {l} {ls} r rs) pre i post stage h =
    literal_gathers r pre i post stage h
    ∙ rw (append_assoc pre (partly i 1 ∷ post) (literal_items l))
    (disjunction_gathers rs pre (partly i 1) (post ++ literal_items l) 7 refl
    ∙ rw (more_parts i (length ls), append_assoc post (literal_items l) (literals_items ls)))

formula_gathers : {ls : List Literal} {from rest : List Token} → Formula ls from (mark Close ∷ rest)
    → (pre : List Item) (i : Item)
    → gather (record { items = pre ++ i ∷ []; inner = length pre ∷ []; stage = 6; negative = false }) from
    ≡ gather (amid (pre ++ partly i (length ls) ∷ literals_items ls) (length pre ∷ [])) rest
unfolding gather on_token on_mark
formula_gathers (plain r) pre i = disjunction_gathers r pre i [] 6 refl
formula_gathers (bracketed r) pre i = disjunction_gathers r pre i [] 7 refl

role_sort_lem : (r : Role) → role_sort (role_name r) ≡ clause_sort r
role_sort_lem Axiom = refl
role_sort_lem Hypothesis = refl
role_sort_lem NegatedConjecture = refl

clause_gathers : {c : Clause} {from rest : List Token} → ClauseRule c from rest → (is : List Item)
    → gather (record { items = is; inner = []; stage = 0; negative = false }) from
    ≡ gather (record { items = is ++ clause_items c; inner = []; stage = 0; negative = false }) rest
unfolding gather on_token on_word on_mark clause_items
clause_gathers (clause {n} {r} {ls} {from} {rest} f) is =
    formula_gathers f is (lone (role_sort (role_name r)) (role_name r))
    ∙ (let z : 0 + length ls ≡ length ls = omega arith in rw (z, role_sort_lem r))

pub clauses_gather : {cs : List Clause} {from : List Token} → Clauses cs from → (is : List Item)
    → gather (record { items = is; inner = []; stage = 0; negative = false }) from
    ≡ record { items = is ++ clauses_items cs; inner = []; stage = 0; negative = false }
unfolding gather clauses_items
clauses_gather none is = rw (append-nil is)
clauses_gather (Clauses.more {c} {cs} r rs) is =
    clause_gathers r is ∙ clauses_gather rs (is ++ clause_items c) ∙ rw (append_assoc is (clause_items c) (clauses_items cs))
