use Rattle.naming.proofs.ClauseNames.{names_over, word_fits, word_falls, capital_falls, sign_falls}
use Rattle.naming.proofs.clauses.put_names.Goals as goal

pub overflow_cast-start : goal.overflow_cast-start
overflow_cast-start c = word_fits c.loop-lexeme.invariant c.in-Some.ensures c.in-Word.is c.requires.0

pub loop-lexeme-smaller-in-Word : goal.loop-lexeme-smaller-in-Word
loop-lexeme-smaller-in-Word c = word_falls c.loop-lexeme.invariant c.in-Some.ensures c.in-Word.is

pub loop-lexeme-smaller-in-Capital : goal.loop-lexeme-smaller-in-Capital
loop-lexeme-smaller-in-Capital c = capital_falls c.loop-lexeme.invariant c.in-Some.ensures c.in-Capital.is

pub loop-lexeme-smaller : goal.loop-lexeme-smaller
loop-lexeme-smaller c = sign_falls c.loop-lexeme.invariant c.in-Some.ensures c.in-Sign.is

pub returns : goal.returns
returns c = names_over c.loop-lexeme.invariant c.in_default.ensures
