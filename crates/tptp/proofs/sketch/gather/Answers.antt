use Rattle.tptp.proofs.Walk.{all_gathered, word_fits, word_ready, word_falls, capital_fits, capital_ready, capital_falls, sign_ready, sign_falls}
use Rattle.tptp.proofs.sketch.gather.Goals as goal

pub overflow_cast-start : goal.overflow_cast-start
overflow_cast-start c = word_fits c.requires.0 c.loop-lexeme.invariant c.in-Some.ensures c.in-Word.is

pub on_word-p-requires : goal.on_word-p-requires
on_word-p-requires c = word_ready c.requires.0 c.loop-lexeme.invariant c.in-Some.ensures c.in-Word.is

pub loop-lexeme-smaller-in-Word : goal.loop-lexeme-smaller-in-Word
loop-lexeme-smaller-in-Word c = word_falls c.requires.0 c.loop-lexeme.invariant c.in-Some.ensures c.in-Word.is

pub overflow_cast-start-in-Capital : goal.overflow_cast-start-in-Capital
overflow_cast-start-in-Capital c = capital_fits c.requires.0 c.loop-lexeme.invariant c.in-Some.ensures c.in-Capital.is

pub on_capital-p-requires : goal.on_capital-p-requires
on_capital-p-requires c = capital_ready c.requires.0 c.loop-lexeme.invariant c.in-Some.ensures c.in-Capital.is

pub loop-lexeme-smaller-in-Capital : goal.loop-lexeme-smaller-in-Capital
loop-lexeme-smaller-in-Capital c = capital_falls c.requires.0 c.loop-lexeme.invariant c.in-Some.ensures c.in-Capital.is

pub on_mark-p-requires : goal.on_mark-p-requires
on_mark-p-requires c = sign_ready c.requires.0 c.loop-lexeme.invariant c.in-Some.ensures c.in-Sign.is

pub loop-lexeme-smaller : goal.loop-lexeme-smaller
loop-lexeme-smaller c = sign_falls c.requires.0 c.loop-lexeme.invariant c.in-Some.ensures c.in-Sign.is

pub returns : goal.returns
returns c = all_gathered c.requires.0 c.loop-lexeme.invariant c.in_default.ensures
