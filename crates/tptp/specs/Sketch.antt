-- The items of a text, one for each word of the file's body: machinery. The names stand in them as the text has them, and each item tells how many
-- literals or arguments it has.
use Rattle.std.specs.Prelude.{Bool, true, false, cond, List, [], ◌∷◌, ◌++◌, ℕ, zero, suc, ◌+◌, ◌-◌, eqb, leb, length, get_or}
use Rattle.names.specs.Numbers.{Name}
use Rattle.clausetext.specs.declared.kind.Mark.{Mark}
use Rattle.clausetext.specs.declared.kind.Mark.TheVariants.{Open, Close, Comma, Bar, Tilde, Dot}
use Rattle.clausetext.specs.Syntax.{Term, variable, application, Terms, nil, ◌then◌, Literal, Role, Axiom, Hypothesis, NegatedConjecture, role_name, Clause}
use Rattle.clausetext.specs.Tokens.{Token, word, capital, mark}

-- what an item is: 0 a variable, 1 a function, 2 and 3 a negative and a positive literal, 4 a clause, 5 the question
pub record Item : Type 0 where
  pub sort : ℕ
  pub parts : ℕ
  pub name : Name

unfoldable pub many : Terms → ℕ
many nil = 0
many (t then ts) = suc (many ts)

unfoldable mutual
  pub term_items : Term → List Item
  term_items (variable x) = record { sort = 0; parts = 0; name = x } ∷ []
  term_items (application f ts) = record { sort = 1; parts = many ts; name = f } ∷ terms_items ts

  pub terms_items : Terms → List Item
  terms_items nil = []
  terms_items (t then ts) = term_items t ++ terms_items ts

abbrev pub literal_sort : Bool → ℕ
literal_sort true = 2
literal_sort false = 3

unfoldable pub literal_items : Literal → List Item
literal_items l = record { sort = literal_sort l.negative; parts = many l.arguments; name = l.predicate } ∷ terms_items l.arguments

unfoldable pub literals_items : List Literal → List Item
literals_items [] = []
literals_items (l ∷ ls) = literal_items l ++ literals_items ls

abbrev pub clause_sort : Role → ℕ
clause_sort Axiom = 4
clause_sort Hypothesis = 4
clause_sort NegatedConjecture = 5

unfoldable pub clause_items : Clause → List Item
clause_items c = record { sort = clause_sort c.role; parts = length c.literals; name = role_name c.role } ∷ literals_items c.literals

unfoldable pub clauses_items : List Clause → List Item
clauses_items [] = []
clauses_items (c ∷ cs) = clause_items c ++ clauses_items cs

-- Gathering the items token by token. `stage` counts the tokens of a clause up to its formula: 0 at `cnf`, 4 at the role, 6 at the formula's first
-- token, 7 after it. `inner` are the positions of the items whose parts are being read, the innermost first.
pub record Gathering : Type 0 where
  pub items : List Item
  pub inner : List ℕ
  pub stage : ℕ
  pub negative : Bool

-- one part more of the item at a position
unfoldable pub with_part : List Item → ℕ → List Item
with_part [] at = []
with_part (i ∷ is) zero = record { sort = i.sort; parts = i.parts + 1; name = i.name } ∷ is
with_part (i ∷ is) (suc at) = i ∷ with_part is at

abbrev pub part_added : List Item → List ℕ → List Item
part_added is [] = is
part_added is (at ∷ more) = with_part is at

abbrev pub lone : ℕ → Name → Item
lone sort name = record { sort = sort; parts = 0; name = name }

-- an item becomes a part of the innermost
abbrev pub gathered : Gathering → ℕ → Name → Gathering
gathered g sort name =
    record { items = part_added g.items g.inner ++ (lone sort name ∷ []); inner = g.inner; stage = 7; negative = false }

-- a name is a predicate where the clause is the innermost
abbrev pub name_sort : List ℕ → Bool → ℕ
name_sort [] negative = literal_sort negative
name_sort (c ∷ []) negative = literal_sort negative
name_sort (a ∷ b ∷ more) negative = 1

-- the role, which is known by its first byte, begins a clause's items
abbrev pub role_sort : Name → ℕ
role_sort name = cond (eqb (get_or name 0 0) 110) 5 4

abbrev pub begun : Gathering → Name → Gathering
begun g name =
    record { items = g.items ++ (lone (role_sort name) name ∷ []); inner = length g.items ∷ []; stage = 5; negative = false }

abbrev pub staged : Gathering → ℕ → Gathering
staged g n = record { items = g.items; inner = g.inner; stage = n; negative = g.negative }

unfoldable pub on_word : Gathering → Name → Gathering
on_word g name =
    cond (leb 6 g.stage) (gathered g (name_sort g.inner g.negative) name) (cond (eqb g.stage 4) (begun g name) (staged g (g.stage + 1)))

unfoldable pub on_capital : Gathering → Name → Gathering
on_capital g name = cond (leb 6 g.stage) (gathered g 0 name) (staged g (g.stage + 1))

-- `(` after a name: its arguments are read; `(` at the formula's beginning is passed over
abbrev pub entered : Gathering → Gathering
entered g = record {
  items = g.items;
  inner = cond (eqb g.stage 6) g.inner ((length g.items - 1) ∷ g.inner);
  stage = 7;
  negative = g.negative;
}

-- `)` after the last argument; any other is passed over
abbrev pub outer : List ℕ → List ℕ
outer [] = []
outer (c ∷ []) = c ∷ []
outer (a ∷ b ∷ more) = b ∷ more

abbrev pub left : Gathering → Gathering
left g = record { items = g.items; inner = outer g.inner; stage = 7; negative = g.negative }

abbrev pub in_formula : Gathering → Mark → Gathering
in_formula g Open = entered g
in_formula g Close = left g
in_formula g Comma = g
in_formula g Bar = g
in_formula g Tilde = record { items = g.items; inner = g.inner; stage = 7; negative = true }
in_formula g Dot = record { items = g.items; inner = []; stage = 0; negative = false }

unfoldable pub on_mark : Gathering → Mark → Gathering
on_mark g m = cond (leb 6 g.stage) (in_formula g m) (staged g (g.stage + 1))

unfoldable pub on_token : Gathering → Token → Gathering
on_token g (word name) = on_word g name
on_token g (capital name) = on_capital g name
on_token g (mark m) = on_mark g m

unfoldable pub gather : Gathering → List Token → Gathering
gather g [] = g
gather g (t ∷ ts) = gather (on_token g t) ts

abbrev pub start : Gathering
start = record { items = []; inner = []; stage = 0; negative = false }
