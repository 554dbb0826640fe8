-- What the program prints, by computation.
use mathlib.Core.Path.{refl}
use Rattle.words.specs.Bytes.{words_of}
use Rattle.words.specs.Fingerprint.{word_bytes, bytes_of}
use Rattle.text.specs.Digits.{digits_of, significant, spaced_text}
use Rattle.hukolearu.proofs.CallCases.{called}
use Rattle.asking.specs.Report.{summary_text, line_text, literals_in, disjunct_length, cut_into, lines_of, disjuncts_text, answer_text, report_text}
use Rattle.asking.specs.Program.{readable, asked, said_of, given_text, ask_text}
use Rattle.asking.specs.Cases.{AsPrinted, SaidOnce, Answered, OneLine}

unfoldable printed : Unit {0}
unfolding called words_of word_bytes bytes_of digits_of significant spaced_text summary_text line_text literals_in disjunct_length cut_into lines_of disjuncts_text answer_text report_text readable asked said_of given_text ask_text
printed = tt

pub as_printed : AsPrinted
unfolding printed
as_printed = refl

pub said_once : SaidOnce
unfolding printed
said_once = refl

pub answered : Answered
unfolding printed
answered = refl

pub one_line : OneLine
unfolding printed
one_line = (refl, refl, refl, refl, refl)
