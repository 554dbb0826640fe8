-- The text of tables, by computation.
use mathlib.Core.Path.{◌≡◌, refl}
use mathlib.Core.Bool.{Bool, true, false}
use mathlib.Core.List.{[], ◌∷◌}
use Prim.Native.Nat.{ℕ}
use Rattle.table.specs.Syntax.{var, app, Terms, nil, ◌then◌, Literal, Clause, Table}
use Rattle.text.specs.Quoted.{bytes}
use Rattle.text.specs.Digits.{digits_of, significant}
use Rattle.table.specs.Encode.{file_words}
use Rattle.table.proofs.Opened.{opened as table-opened}
use Rattle.clauselines.specs.Call.{refused, granted, if_it_fits, write_call}
use Rattle.clauselines.specs.Lines.{term_text, arguments_text, further_text, sign_text, literal_text, alternatives_text, literals_text, role_text, clause_text, axioms_text, table_text}

unfoldable opened : Unit {0}
unfolding digits_of significant term_text arguments_text further_text sign_text literal_text alternatives_text literals_text role_text clause_text axioms_text table_text if_it_fits write_call
opened = tt

abbrev literal : Bool → ℕ → Terms ℕ → Literal ℕ
literal negative predicate arguments = record { negative = negative; predicate = predicate; arguments = arguments }

-- the clause of the order's own sentence
abbrev told : Clause
told = record { restricted = false; variables = 1; literals = literal false 1 (app 1 nil then app 2 nil then nil) ∷ literal true 2 (var 0 then nil) ∷ [] }

abbrev asked : Clause
asked = record { restricted = false; variables = 0; literals = literal true 1 (app 1 nil then nil) ∷ [] }

pub order's_own : clause_text 0 false told ≡ bytes "cnf(c0,axiom,(p1(f1,f2) | ~ p2(X0))).\n"
unfolding opened
order's_own = refl

-- a single literal stands in parentheses too
pub single_literal : clause_text 1 true asked ≡ bytes "cnf(c1,negated_conjecture,(~ p1(f1))).\n"
unfolding opened
single_literal = refl

abbrev table : Table
table = record { clauses = told ∷ []; question = asked }

pub two_lines : table_text table ≡ bytes "cnf(c0,axiom,(p1(f1,f2) | ~ p2(X0))).\ncnf(c1,negated_conjecture,(~ p1(f1))).\n"
unfolding opened
two_lines = refl

-- arity 0, terms in terms, numbers of several digits
pub no_parentheses : literal_text (literal true 4095 nil) ≡ bytes "~ p4095"
unfolding opened
no_parentheses = refl

pub nested : term_text (app 10 (app 7 (var 15 then app 0 nil then nil) then var 3 then nil)) ≡ bytes "f10(f7(X15,f0),X3)"
unfolding opened
nested = refl

-- the call: with just enough room, with a byte too little, and for a file that is no table's
pub just_enough : write_call (file_words table) 77 ≡ granted (table_text table)
unfolding opened table-opened
just_enough = refl

pub byte_short : write_call (file_words table) 76 ≡ refused 16 0
unfolding opened table-opened
byte_short = refl

pub no_room : write_call (file_words table) 0 ≡ refused 16 0
unfolding opened table-opened
no_room = refl

pub cut_short : write_call (0 ∷ []) 77 ≡ refused 4 0
unfolding opened table-opened
cut_short = refl
