-- The examples of specs/Witnesses, computed.
use mathlib.Core.Path.{refl}
use Rattle.naming.specs.Shown.{closing, closed, opening, opened, shown_by, shown}
use Rattle.text.specs.Digits.{digits_of, significant}
use Rattle.tuples.specs.Tuples.{span_of, width, is_next, values_in, after_in, tuples_in, terms_text, each_text, tuples_text, line_text, answers_text}
use Rattle.tuples.specs.Witnesses.{TwoAlternatives, OneAnswer, TwoVariables, NoVariables}

unfoldable computed : Unit {0}
unfolding span_of width is_next values_in after_in tuples_in terms_text each_text tuples_text line_text answers_text shown shown_by closing closed opening opened digits_of significant
computed = tt

pub two_alternatives : TwoAlternatives
unfolding computed TwoAlternatives
two_alternatives = refl

pub one_answer : OneAnswer
unfolding computed OneAnswer
one_answer = refl

pub two_variables : TwoVariables
unfolding computed TwoVariables
two_variables = refl

pub no_variables : NoVariables
unfolding computed NoVariables
no_variables = refl
