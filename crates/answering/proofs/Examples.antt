-- What `ask` writes, by computation.
use mathlib.Core.Path.{refl}
use Rattle.words.specs.Fingerprint.{product, mixed, fnv}
use Rattle.words.specs.Steps.{step_word, step_of}
use Rattle.table.specs.Syntax.{arity, all_clauses}
use Rattle.table.specs.Encode.{term_words, terms_words, literal_words, literals_words, clause_words, clauses_words, body_words, file_words}
use Rattle.text.specs.Digits.{digits_of, significant}
use Rattle.names.specs.Numbers.{same_name, noted, known_after, number_in}
use Rattle.tptp.specs.Said.{functions_of, functions_in, variables_of, variables_in, predicate_uses, function_uses, variable_uses, of_all, term_said, terms_said, literal_said, literals_said, clause_said, clauses_said, stated, table_said}
use Rattle.tptp.specs.Said as Said
use Rattle.naming.specs.Clauses.{names_of}
use Rattle.naming.specs.Shown.{joint_text, sign_text, closing, closed, opening, opened, shown_by, shown}
use Rattle.tuples.specs.Tuples.{span_of, width, is_next, values_in, after_in, tuples_in, terms_text, each_text, tuples_text, line_text, answers_text}
use Rattle.listing.specs.Behind.{copied_by, if_copied, copied_from, copied, listed}
use Rattle.listing.specs.Behind as Behind
use Rattle.assistant.specs.Results.{cost_text, too_long_text, larger_text, none_text, ran_out_text, szs_text, behind_text}
use Rattle.assistant.specs.Results as Lines
use Rattle.hukolearu.proofs.CallCases.{called}
use Rattle.asking.specs.Program.{asked}
use Rattle.answering.specs.Looking.{look_from, looked}
use Rattle.answering.specs.Results.{paged, answer_text, behind_lines, clauses_text, proof_text, grounds_text, tuples_line, lines_text, found_text, end_text, result_text}
use Rattle.answering.specs.Cases.{FoundOpen, NoneFound, RanOut}

unfoldable printed : Unit {0}
unfolding span_of width is_next values_in after_in tuples_in terms_text each_text tuples_text line_text answers_text called product mixed fnv step_word step_of arity all_clauses term_words terms_words literal_words literals_words clause_words clauses_words body_words file_words digits_of significant same_name noted known_after number_in functions_of functions_in variables_of variables_in predicate_uses function_uses variable_uses of_all term_said terms_said literal_said literals_said clause_said clauses_said stated Said.asked table_said names_of joint_text sign_text closing closed opening opened shown_by shown copied_by if_copied copied_from copied Behind.asked listed cost_text too_long_text larger_text none_text ran_out_text szs_text behind_text Lines.found_text asked look_from looked paged answer_text behind_lines clauses_text proof_text grounds_text tuples_line lines_text found_text end_text result_text
printed = tt

pub found_open : FoundOpen
unfolding printed
found_open = refl

pub none_found : NoneFound
unfolding printed
none_found = refl

pub ran_out : RanOut
unfolding printed
ran_out = refl
