use Rattle.std.proofs.Common.{arith}
use Rattle.index.proofs.Linking.{walk_none, walk_low, walk_reads, walk_found, walk_on, walk_less, numbered_of, numbered_by_none}
use Rattle.index.proofs.links.last_with.Goals as goal

pub word_of-requires : goal.word_of-requires
word_of-requires c = let g = c.requires.2 in (g.indexed.size, walk_low g _ (c.loop-last.invariant _ _ g) c.loop-last-test.true, walk_reads g _ (c.loop-last.invariant _ _ g) c.loop-last-test.true)

pub returns-then-word_of-word : goal.returns-then-word_of-word
returns-then-word_of-word c = λ body from g. numbered_of _ _ (walk_found g _ (c.loop-last.invariant body from g) c.loop-last-test.true c.word_of.ensures c.if-word_of-word.true) c.loop-last-test.true

pub bounds-work-wide-in-loop-last : goal.bounds-work-wide-in-loop-last
bounds-work-wide-in-loop-last c =
    let g = c.requires.2 in
    omega (arith, c.wide-in-loop-last.ensures, walk_low g _ (c.loop-last.invariant _ _ g) c.loop-last-test.true, g.indexed.size)

pub loop-last-smaller : goal.loop-last-smaller
loop-last-smaller c = let g = c.requires.2 in walk_less g _ (c.loop-last.invariant _ _ g) c.loop-last-test.true c.word_of.ensures c.if-word_of-word.false c.wide-in-loop-last.ensures

pub loop-last-preserved : goal.loop-last-preserved
loop-last-preserved c = λ body from g. walk_on g _ (c.loop-last.invariant body from g) c.loop-last-test.true c.word_of.ensures c.if-word_of-word.false c.wide-in-loop-last.ensures

pub returns : goal.returns
returns c = λ body from g. numbered_by_none _ (walk_none g _ (c.loop-last.invariant body from g) (omega (arith, c.loop-last-test.false)))
