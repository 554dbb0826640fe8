-- The statuses that the calls give of themselves, each named once with its number (document 01, "What comes back").
-- Statuses 4 to 9 and 21 are the file's own (`table/File.judge`), 12 to 15 and 20 the checker's (`rules/Verdict.statusOf`).
use Rattle.std.specs.Prelude.{ℕ}

abbrev pub done : ℕ
done = 0

abbrev pub work_too_short : ℕ
work_too_short = 1

abbrev pub proof_too_short : ℕ
proof_too_short = 2

abbrev pub bound_too_high : ℕ
bound_too_high = 3

abbrev pub none_found : ℕ
none_found = 10

abbrev pub ran_out : ℕ
ran_out = 11

abbrev pub answer_too_long : ℕ
answer_too_long = 16
