-- The examples of specs/Witnesses, computed.
use mathlib.Core.Path.{refl}
use Rattle.names.specs.Numbers.{same_name, noted, known_after}
use Rattle.tptp.specs.Said.{functions_of, functions_in, variables_of, variables_in, predicate_uses, function_uses, variable_uses, of_all}
use Rattle.tptp.specs.Sketch.{many, term_items, terms_items, literal_items, literals_items, clause_items, clauses_items}
use Rattle.limits.specs.Over.{most_parts, own_limit, shared_limit, first_over}
use Rattle.limits.specs.Told.{limit_text, over_text}
use Rattle.limits.specs.Witnesses.{nested, LimitsTold, LimitsExact, ClausesExact}

unfoldable computed : Unit {0}
unfolding first_over own_limit shared_limit most_parts limit_text over_text many term_items terms_items literal_items literals_items clause_items clauses_items functions_of functions_in variables_of variables_in predicate_uses function_uses variable_uses of_all same_name noted known_after
computed = tt

pub limits_told : LimitsTold
unfolding computed LimitsTold
limits_told = (refl, refl, refl, refl, refl)

pub limits_exact : LimitsExact
unfolding computed LimitsExact nested
limits_exact = (refl, refl, refl, refl, refl, refl, refl, refl, refl)

pub clauses_exact : ClausesExact
unfolding computed ClausesExact
clauses_exact = (refl, refl)
