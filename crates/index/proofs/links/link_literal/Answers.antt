use Rattle.index.proofs.Linking.{literal_low, literal_reads, link_begun, link_last, link_joined}
use Rattle.index.proofs.links.link_literal.Goals as goal

pub word_of-word-requires : goal.word_of-word-requires
word_of-word-requires c = let g = c.requires.1 in (g.indexed.size, literal_low g.indexed _ c.requires.2, literal_reads g.indexed _ c.requires.2)

pub join_word-requires : goal.join_word-requires
join_word-requires c = let g = c.requires.1 in link_last g c.requires.2 c.word_of-word.ensures (c.in-Some.ensures _ _ g)

pub begin_word-requires : goal.begin_word-requires
begin_word-requires c = let g = c.requires.1 in (g.indexed.size, literal_low g.indexed _ c.requires.2)

pub returns-in-Some : goal.returns-in-Some
returns-in-Some c = λ body g h. link_joined g h c.word_of-word.ensures (c.in-Some.ensures body _ g) c.join_word.ensures

pub returns-in-None : goal.returns-in-None
returns-in-None c = λ body g h. link_begun g h c.word_of-word.ensures (c.in-None.ensures body _ g) c.begin_word.ensures
