-- Words shown in names, by computation.
use mathlib.Core.List.{[], ◌∷◌}
use mathlib.Core.Path.{◌≡◌, refl}
use Rattle.text.specs.Quoted.{bytes}
use Rattle.text.specs.Digits.{digits_of, significant}
use Rattle.naming.specs.Shown.{Names, joint_text, sign_text, closing, closed, opening, opened, shown_by, shown, until_literal, literal_parts, literal_part}

-- document 01's case 1 as a text would name it
abbrev names : Names
names = record {
  functions = bytes "e" ∷ bytes "mat" ∷ bytes "eve" ∷ [];
  predicates = bytes "at" ∷ [];
  variables = [];
}

either : shown names 1 0 [] (0x80002000 ∷ 0x40000000 ∷ 0x40000001 ∷ 0x80002000 ∷ 0x40000000 ∷ 0x40000002 ∷ []) ≡ bytes "at(e,mat)\nor at(e,eve)"
unfolding shown shown_by joint_text sign_text closing closed opening opened
either = refl

-- two atoms a disjunct, a term inside a term, and variables without names
nested : shown names 2 0 [] (0x80001000 ∷ 0x40002000 ∷ 0x40001001 ∷ 0x00000000 ∷ 0x40000002 ∷ 0x80001000 ∷ 0x00000001 ∷ []) ≡ bytes "at(e(mat(X0),eve)) & at(X1)"
unfolding shown shown_by joint_text sign_text closing closed opening opened digits_of significant
nested = refl

-- a negative literal of a clause, with the clause's own name for its variable
own : shown (record { functions = bytes "e" ∷ []; predicates = bytes "at" ∷ []; variables = bytes "Time" ∷ [] }) 0 0 [] (0x8000A000 ∷ 0x40000000 ∷ 0x00000000 ∷ []) ≡ bytes "~ at(e,Time)"
unfolding shown shown_by joint_text sign_text closing closed opening opened
own = refl

second : literal_part (0xC0000602 ∷ 0x80002001 ∷ 0x40000001 ∷ 0x40000002 ∷ 0x80002001 ∷ 0x40000001 ∷ 0x40000003 ∷ []) 1 ≡ 0x80002001 ∷ 0x40000001 ∷ 0x40000003 ∷ []
unfolding literal_parts until_literal
second = refl
