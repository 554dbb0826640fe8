-- The cases, by computation.
use mathlib.Core.Path.{refl}
use Rattle.words.specs.Steps.{step_of}
use Rattle.table.specs.Syntax.{under, literal_under}
use Rattle.table.proofs.Opened.{opened}
use Rattle.rules.specs.Machinery.Unify.{replace, solution, through, follow, occurs, after, unless_occurs, bind, unless_same, same_symbol, if_same, meet_by, each_by, compare_within, height, variables, height_of, variables_of, doubled, enough, unifies, meet, unify}
use Rattle.rules.specs.Tableau.{fresh, copy_of, atom, fits, hang, start, ancestor, others, closing, reduced, questions_with, entered, extended, treated, stepped}
use Rattle.rules.specs.Machinery.Play.{begin, bound_by, newest, performed, perform}
use Rattle.bound_literals.specs.Bound.{onto, play_from, copied_by, copied, literal_of_copy, words_under, words_after, slot, slots_from, slots_of}
use Rattle.bound_literals.specs.BoundCases as Cases

unfoldable computed : Unit {0}
unfolding opened step_of under literal_under replace solution through follow occurs after unless_occurs bind unless_same same_symbol if_same meet_by each_by compare_within height variables height_of variables_of doubled enough unifies meet unify fresh copy_of atom fits hang start ancestor others closing reduced questions_with entered extended treated stepped begin bound_by newest performed perform onto play_from copied_by copied literal_of_copy words_under words_after slot slots_from slots_of
computed = tt

pub mat_or_eve_case : Cases.MatOrEveCase
unfolding computed
mat_or_eve_case = refl

pub two_terms_case : Cases.TwoTermsCase
unfolding computed
two_terms_case = refl

pub not_taken_case : Cases.NotTakenCase
unfolding computed
not_taken_case = refl
