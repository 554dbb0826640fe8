-- Machinery: where the engine's state stands in the lent work words, and how much of each there may be (docs/MEMORY.md). These are the numbers of
-- `unification::memory`; that the code's are the same is in every contract that reads or writes a place. No public contract speaks of it.
use Rattle.std.specs.Prelude.{ℕ}

-- the words that a call works on
abbrev pub work_words : ℕ
work_words = 16384

-- copies of clauses: the start, and one for each extension or restart
abbrev pub most_copies : ℕ
most_copies = 33

-- variables: 16 for each copy
abbrev pub most_variables : ℕ
most_variables = 528

-- references: 256 for each copy
abbrev pub most_references : ℕ
most_references = 8448

-- leaves, and steps: 7 for each copy
abbrev pub most_leaves : ℕ
most_leaves = 231

-- where each copy's clause begins in the file, by copy; how many copies there are; how many variables are bound
abbrev pub start_places : ℕ
start_places = 0

abbrev pub copies_place : ℕ
copies_place = 33

abbrev pub count_place : ℕ
count_place = 34

-- words that are kept free
abbrev pub spare_places : ℕ
spare_places = 35

-- the variables that are bound, in the order of binding
abbrev pub trail_places : ℕ
trail_places = 64

abbrev pub trail_end : ℕ
trail_end = 592

-- what each variable is bound to
abbrev pub value_places : ℕ
value_places = 640

abbrev pub value_end : ℕ
value_end = 1168

-- the leaves, by number: the literal's reference, the parent, the next open leaf to the right
abbrev pub literal_places : ℕ
literal_places = 1216

abbrev pub parent_places : ℕ
parent_places = 1472

abbrev pub next_places : ℕ
next_places = 1728

-- the steps taken
abbrev pub step_places : ℕ
step_places = 1984

-- while an answer is told: each variable's number in it, and which copies are kept
abbrev pub number_places : ℕ
number_places = 2240

abbrev pub kept_places : ℕ
kept_places = 2768

abbrev pub telling_words : ℕ
telling_words = 576

-- the end of all these
abbrev pub places_end : ℕ
places_end = 2816

-- the notes of a thorough comparison, which are not among the work words: where the marks begin, and how many words there are
abbrev pub mark_places : ℕ
mark_places = 8449

abbrev pub thorough_words : ℕ
thorough_words = 8977
