-- The witnesses, computed from the definitions.
use mathlib.Core.Path.{refl}
use Rattle.requests.specs.Pieces.{digit_of, up_to, value_from, number_of, number_at, same_bytes}
use Rattle.text.specs.Digits.{digits_of, significant}
use Rattle.clausetext.specs.Kinds.{letter_kind, sign_kind, kind_of}
use Rattle.clausetext.specs.Judging.{owed_at, row, on_ended, on_sign, signed, on_role, on_lower, on_upper, on_kind, on_byte, step_of}
use Rattle.clausetext.specs.Stuck.{stuck_in}
use Rattle.reports.specs.Clauses.{clauses_from, stated_part, all_stated}
use Rattle.reports.specs.Said.{slot_text, desk_text}
use Rattle.reports.specs.Counts.{ended_text, is_found, status_text}
use Rattle.reports.specs.Records.{is_blank, ends_piece, blanks_in, piece_in, piece_from, number_up_to, slot_named, said_slot, said_house, said_in, lines_of, words_of, words_said, first_fault}
use Rattle.reports.specs.Witnesses.{ClausesCut, LinesRead, TextRead, ResultsTold, QuestionsLeftOut, SlotsTold}

pub clauses_cut : ClausesCut
unfolding ClausesCut clauses_from
clauses_cut = refl

pub lines_read : LinesRead
unfolding LinesRead is_blank ends_piece blanks_in piece_in piece_from number_up_to slot_named said_slot said_house said_in digit_of up_to value_from number_of number_at same_bytes
lines_read = (refl, refl, refl, refl, refl, refl)

pub text_read : TextRead
unfolding TextRead is_blank ends_piece blanks_in piece_in piece_from number_up_to slot_named said_slot said_house said_in digit_of up_to value_from number_of number_at same_bytes lines_of words_of words_said first_fault
text_read = (refl, refl, refl)

pub results_told : ResultsTold
unfolding ResultsTold ended_text is_found status_text
results_told = (refl, refl, refl, refl)

pub questions_left_out : QuestionsLeftOut
unfolding QuestionsLeftOut clauses_from stated_part all_stated stuck_in step_of on_byte on_kind on_upper on_lower on_role signed on_sign on_ended row owed_at letter_kind sign_kind kind_of
questions_left_out = (refl, refl, refl)

pub slots_told : SlotsTold
unfolding SlotsTold slot_text desk_text digits_of significant
slots_told = (refl, refl, refl, refl)
