-- Machinery: an answer as a list of words whose variables have no number yet, how it is counted and how it is written. No public contract speaks of it.
use Rattle.std.specs.Prelude.{eqb, length, drop, get_or, false, cond, List, [], ◌∷◌, ◌++◌, map, Option, Some, None, ◌≡◌, ℕ, zero, suc, ◌+◌, ◌*◌, ◌-◌, ◌^◌, min, ◌≤◌, ◌<◌}
use Rattle.std.proofs.lemmas.List.Edits.{sets}
use Rattle.words.specs.Fields.{kind_of, number_of, symbol_of, arity_of, sign_of, variable_word, function_word, literal_word}
use Rattle.table.specs.Syntax.{Term, Terms, var, app, nil, ◌then◌, arity, unders, Literal}
use Rattle.table.specs.Encode.{literals_words}
use Rattle.table.specs.Decode.{first, clause_of}
use Rattle.rules.specs.Substitution.{Variable, Substitution}
use Rattle.rules.specs.Machinery.Unify.{solution}
use Rattle.rules.specs.Answer.{disjunct, seen, place_of, numbered, joined}
use Rattle.unification.specs.Places.{most_variables, number_places, kept_places, work_words}
use Rattle.unification.specs.State.{start_at, copies_of, numbered_at, own_words, terms_of, Points, variable_of, bindings_in}
use Rattle.unification.specs.Good.{word_at, Same}
use Rattle.answers.specs.declared.answer.Written.{Written}
use Rattle.answers.specs.declared.answer.Answer.{Answer}

-- a word that stands as it is, or a variable that is yet to be numbered
pub data Item : Type 0 where
  fixed : ℕ → Item
  free : Variable → Item

unfoldable mutual
  pub items_of : Term Variable → List Item
  items_of (var x) = free x ∷ []
  items_of (app f ts) = fixed (function_word f (arity ts)) ∷ items_among ts

  pub items_among : Terms Variable → List Item
  items_among nil = []
  items_among (t then ts) = items_of t ++ items_among ts

unfoldable pub items_of_all : List (Literal Variable) → List Item
items_of_all [] = []
items_of_all (l ∷ ls) =
    fixed (literal_word l.negative l.predicate (arity l.arguments)) ∷ (items_among l.arguments ++ items_of_all ls)

-- the variables seen, with one more
unfoldable pub also : List Variable → Variable → List Variable
also before x = cond (seen x before) before (before ++ (x ∷ []))

-- the words, with each variable numbered as it is met
unfoldable pub words_from : List Variable → List Item → List ℕ
words_from before [] = []
words_from before (fixed w ∷ is) = w ∷ words_from before is
words_from before (free x ∷ is) = variable_word (place_of x (also before x)) ∷ words_from (also before x) is

unfoldable pub seen_after : List Variable → List Item → List Variable
seen_after before [] = before
seen_after before (fixed w ∷ is) = seen_after before is
seen_after before (free x ∷ is) = seen_after (also before x) is

-- a literal's word without its sign; no other word has one
abbrev pub unsigned : ℕ → ℕ
unsigned w = w - sign_of w * 2 ^ 15

-- the word that stands in an answer for a word of this kind, not a variable's
abbrev pub standing : ℕ → ℕ → ℕ
standing zero w = w
standing (suc zero) w = function_word (symbol_of w) (arity_of w)
standing (suc (suc other)) w = literal_word false (symbol_of w) (arity_of w)

-- what a word of a copy's clause stands for, by its kind: a variable for what it is bound to, any other for itself
unfoldable pub items_by_kind : Substitution → ℕ → ℕ → ℕ → List Item
items_by_kind σ copy zero w = items_of (σ (record { copy = copy; number = number_of w }))
items_by_kind σ copy (suc other) w = fixed (standing (suc other) w) ∷ []

abbrev pub word_items : Substitution → ℕ → ℕ → List Item
word_items σ copy w = items_by_kind σ copy (kind_of w) w

unfoldable pub words_items : Substitution → ℕ → List ℕ → List Item
words_items σ copy [] = []
words_items σ copy (w ∷ ws) = word_items σ copy w ++ words_items σ copy ws

abbrev pub resolved : List ℕ → List ℕ → Substitution
resolved f m = solution (bindings_in f m)

-- the first terms from a reference on
unfoldable pub term_items : List ℕ → List ℕ → ℕ → ℕ → List Item
term_items f m r n = items_among (unders (resolved f m) (first n (terms_of f m r)))

-- a copy's literals
unfoldable pub copy_items : List ℕ → List ℕ → ℕ → List Item
copy_items f m copy = words_items (resolved f m) copy (drop 1 (own_words f (start_at m copy)))

-- the copies that are kept among so many, and their literals
abbrev pub kept_at : List ℕ → ℕ → ℕ
kept_at m copy = get_or m (kept_places + copy) 0

unfoldable pub kept_among : List ℕ → ℕ → List ℕ
kept_among m zero = []
kept_among m (suc n) = kept_among m n ++ cond (eqb (kept_at m n) 0) [] (n ∷ [])

unfoldable pub kept_items : List ℕ → List ℕ → ℕ → List Item
kept_items f m zero = []
kept_items f m (suc n) = kept_items f m n ++ cond (eqb (kept_at m n) 0) [] (copy_items f m n)

-- what a copy says, and what the copies say that are kept
abbrev pub disjunct_at : List ℕ → List ℕ → ℕ → List (Literal Variable)
disjunct_at f m copy = disjunct (resolved f m) (clause_of (own_words f (start_at m copy))) copy

unfoldable pub disjuncts_kept : List ℕ → List ℕ → List (List (Literal Variable))
disjuncts_kept f m = map (disjunct_at f m) (kept_among m (copies_of m))

-- the words of an answer (the rules' answer_words), and of the one that is kept
abbrev pub words_of : List (List (Literal Variable)) → List ℕ
words_of ds = literals_words (numbered (joined ds))

abbrev pub answer_held : List ℕ → List ℕ → List ℕ
answer_held f m = words_of (disjuncts_kept f m)

-- so many words fit, and so much room is left; or they do not
abbrev pub Counted : ℕ → ℕ → Option ℕ → Type 0
Counted room needed (Some n) = n + needed ≡ room
Counted room needed None = room < needed

-- a word of a copy's literals stands at a reference: a term's, or a literal's
pub record WordStands (f m : List ℕ) (r w : ℕ) : Type 0 where
  pub word : w ≡ word_at f m r
  pub points : kind_of w ≡ 0 → Points f m r 1
  pub shape : (kind_of w ≡ 0 → ⊥) → w < 2 ^ 32 → unsigned w ≡ standing (kind_of w) w

-- the number of each variable seen, and one; 0 for any other
unfoldable pub mark_of : List Variable → Variable → ℕ
mark_of before x = cond (seen x before) (suc (place_of x before)) 0

pub record Seen (m : List ℕ) (numbered : ℕ) (before : List Variable) : Type 0 where
  pub marks : (v : ℕ) → v < most_variables → numbered_at m v ≡ mark_of before (variable_of v)
  pub count : numbered ≡ length before

-- all words but the numbers of variables are kept
pub record Remarked (m m' : List ℕ) : Type 0 where
  pub lower : Same 0 number_places m m'
  pub upper : Same kept_places work_words m m'

-- there is room for so many words more, in the buffer and in a word; no more variables are numbered than words written
pub record RoomFor (a : List ℕ) (begun : Written) (is : List Item) : Type 0 where
  pub inside : begun.words + length is ≤ length a
  pub small : begun.words + length is ≤ 4294967295
  pub few : begun.numbered ≤ begun.words

-- so much was written
pub record Wrote (m a : List ℕ) (begun : Written) (is : List Item) (m' a' : List ℕ) (written : Written) : Type 0 where
  pub kept : Remarked m m'
  pub words : written.words ≡ begun.words + length is
  pub few : written.numbered + begun.words ≤ begun.numbered + written.words
  pub seen : (before : List Variable) → Seen m begun.numbered before → Seen m' written.numbered (seen_after before is)
  pub answer : (before : List Variable) → Seen m begun.numbered before → a' ≡ sets a begun.words (words_from before is)

-- no variable has a number yet
abbrev pub Unmarked : List ℕ → Type 0
Unmarked m = (v : ℕ) → v < most_variables → numbered_at m v ≡ 0

-- the answer stands at the front of its buffer, and later words are unchanged
pub record Answered (f m a m' a' : List ℕ) (r : Answer) : Type 0 where
  pub kept : Remarked m m'
  pub answer : a' ≡ answer_held f m ++ drop (length (answer_held f m)) a
  pub words : r.words ≡ length (answer_held f m)
  pub disjuncts : r.disjuncts ≡ length (disjuncts_kept f m)
