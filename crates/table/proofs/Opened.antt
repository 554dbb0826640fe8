-- One name under which all definitions that judge, read and decode a file unfold, for proofs that compute with a given file.
use Rattle.words.specs.Fields.{function_shaped, literal_shaped, counted, clause_shaped}
use Rattle.words.specs.Fingerprint.{product, mixed, fnv, word_bytes, bytes_of}
use Rattle.table.specs.Reading.{term_arity, after, after_term, after_literal, stops_short, onward, fault, clause_fault}
use Rattle.table.specs.Body.{reading, body_fault, starts, last_of, any_positive}
use Rattle.table.specs.File.{size_fits, trailer_fits, fingerprint_fits, clauses_fit, judge_read, judge_body, judge, clause_part}
use Rattle.table.specs.Decode.{first, rest, before, terms_from, before_literals, literals_from, clause_of, parts_from, clauses_of, with_question, as_table, table_of, terms_at, term_at, head_term}
use Rattle.table.specs.Encode.{term_words, terms_words, literal_words, literals_words, clause_words, clauses_words, body_words, file_words}
use Rattle.table.specs.Syntax.{arity, all_clauses}
use Rattle.table.specs.Seen.{unrestricted_of, unrestricted}

unfoldable pub opened : Unit {0}
unfolding product mixed fnv word_bytes bytes_of size_fits trailer_fits fingerprint_fits clauses_fit judge_read judge_body judge clause_part function_shaped literal_shaped counted clause_shaped term_arity after after_term after_literal stops_short onward fault clause_fault reading body_fault starts last_of any_positive first rest before terms_from before_literals literals_from clause_of parts_from clauses_of with_question as_table table_of terms_at term_at head_term term_words terms_words literal_words literals_words clause_words clauses_words body_words file_words arity all_clauses unrestricted_of unrestricted
opened = tt
