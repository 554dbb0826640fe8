-- The examples of specs/Witnesses, computed.
use mathlib.Core.Path.{refl}
use Rattle.names.specs.Numbers.{same_name, noted, known_after}
use Rattle.tptp.specs.Said.{variables_of, variables_in, variable_uses, stated, asked}
use Rattle.variable_names.specs.Witnesses.{VariablesNamed}

pub variables_named : VariablesNamed
unfolding VariablesNamed variables_of variables_in variable_uses stated asked same_name noted known_after
variables_named = (refl, refl, refl, refl, refl, refl, refl, refl)
