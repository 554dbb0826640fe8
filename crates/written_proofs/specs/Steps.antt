-- A proof as text, a step a line: `reduce 1`, a height; `extend NAME 2`, a clause by its name and the number of its literal, from 0 as in the step's word.
-- A clause whose name stands more than once is told by its number.
use Rattle.std.specs.Prelude.{Bool, true, false, cond, List, [], ◌∷◌, ◌++◌, ℕ, suc, Option, Some, None, eqb, ltb, get_or}
use Rattle.std.specs.Option.{option_eq}
use Rattle.words.specs.declared.Step.{Step}
use Rattle.words.specs.declared.Step.TheVariants.{Reduction, Extension, Restart, Malformed}
use Rattle.words.specs.Steps.{step_of}
use Rattle.names.specs.Numbers.{Name}
use Rattle.names.specs.Noting.{names_at}
use Rattle.requests.specs.Pieces.{same_bytes}
use Rattle.text.specs.Quoted.{bytes}
use Rattle.text.specs.Digits.{decimal_text, hex_text}

-- the names of the clauses, by the places in a text where they stand
abbrev pub names_of : List ℕ → List ℕ → List Name
names_of text places = names_at text places

abbrev pub name_of : List Name → ℕ → Name
name_of ns i = get_or ns i []

-- a name begins with a letter: what begins with a byte up to `9` is none
unfoldable pub begins : Name → Bool
begins [] = false
begins (c ∷ cs) = ltb 57 c

-- a name is one of these
unfoldable pub stands : Name → List Name → Bool
stands name [] = false
stands name (n ∷ ns) = cond (same_bytes n name) true (stands name ns)

-- the clause that alone has a name, the clauses numbered from a number on; none where none has it or several have
unfoldable pub only_from : ℕ → Name → List Name → Option ℕ
only_from i name [] = None
only_from i name (n ∷ ns) = cond (same_bytes n name) (cond (stands name ns) None (Some i)) (only_from (suc i) name ns)

abbrev pub only : List Name → Name → Option ℕ
only ns name = only_from 0 name ns

-- a name tells a clause if it is no number and the clause alone has it
unfoldable pub tells : List Name → Name → ℕ → Bool
tells ns name i = cond (begins name) (option_eq eqb (only ns name) (Some i)) false

-- a clause by its name, or by its number where its name does not tell it
unfoldable pub clause_text : List Name → ℕ → List ℕ
clause_text ns i = cond (tells ns (name_of ns i) i) (name_of ns i) (decimal_text i)

abbrev pub extension_text : List Name → ℕ → ℕ → List ℕ
extension_text ns i j = bytes "extend " ++ clause_text ns i ++ (bytes " " ++ decimal_text j)

-- a step of document 01's rules, none of which is a restart; a word that is none is written as it is, in hexadecimal digits
abbrev pub text_of : List Name → ℕ → Step → List ℕ
text_of ns w (Reduction height) = bytes "reduce " ++ decimal_text height
text_of ns w (Extension i j) = extension_text ns i j
text_of ns w Restart = hex_text w
text_of ns w Malformed = hex_text w

unfoldable pub step_text : List Name → ℕ → List ℕ
step_text ns w = text_of ns w (step_of w)

-- a step a line
unfoldable pub steps_text : List Name → List ℕ → List ℕ
steps_text ns [] = []
steps_text ns (w ∷ ws) = step_text ns w ++ bytes "\n" ++ steps_text ns ws
