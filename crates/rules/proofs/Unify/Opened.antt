-- All that unification unfolds where it computes: `unfolding opened`.
use Rattle.table.specs.Syntax.{arity, under}
use Rattle.rules.specs.Machinery.Unify.{unify_pairs, unify, meet, meet_by, unifies, compare_within, enough, each_by, after, bind, unless_occurs, unless_same, if_same, same_symbol, occurs, height, variables, height_of, variables_of, doubled, replace, solution, through, follow}

unfoldable pub opened : Unit {0}
unfolding arity under unify_pairs unify meet meet_by unifies compare_within enough each_by after bind unless_occurs unless_same if_same same_symbol occurs height variables height_of variables_of doubled replace solution through follow
opened = tt
