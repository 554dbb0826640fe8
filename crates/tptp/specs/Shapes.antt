-- The words of the items before their names are numbered: machinery. A mark is an item's sort and eight times the number of its parts.
use Rattle.std.specs.Prelude.{Bool, true, false, ◌&&◌, List, [], ◌∷◌, ◌≡◌, ℕ, zero, suc, ◌/◌, ◌%◌, leb, length}
use Rattle.words.specs.Fields.{variable_word, function_word, literal_word, clause_word}

-- the kind of the word of an item
unfoldable pub sort_kind : ℕ → ℕ
sort_kind zero = 0
sort_kind (suc zero) = 1
sort_kind (suc (suc zero)) = 2
sort_kind (suc (suc (suc zero))) = 2
sort_kind (suc (suc (suc (suc n)))) = 3

-- the word of an item, its number 0; that of a clause without variables and words that follow
unfoldable pub shape_by : ℕ → ℕ → ℕ
shape_by zero parts = variable_word 0
shape_by (suc zero) parts = function_word 0 parts
shape_by (suc (suc zero)) parts = literal_word true 0 parts
shape_by (suc (suc (suc zero))) parts = literal_word false 0 parts
shape_by (suc (suc (suc (suc n)))) parts = clause_word false parts 0 0

-- at most 4 arguments, at most 7 literals
unfoldable pub fits_by : ℕ → ℕ → Bool
fits_by zero parts = leb parts 4
fits_by (suc zero) parts = leb parts 4
fits_by (suc (suc zero)) parts = leb parts 4
fits_by (suc (suc (suc zero))) parts = leb parts 4
fits_by (suc (suc (suc (suc n)))) parts = leb parts 7

abbrev pub shape_of : ℕ → ℕ
shape_of mark = shape_by (mark % 8) (mark / 8)

abbrev pub fits_of : ℕ → Bool
fits_of mark = fits_by (mark % 8) (mark / 8)

unfoldable pub shapes : List ℕ → List ℕ
shapes [] = []
shapes (m ∷ ms) = shape_of m ∷ shapes ms

unfoldable pub all_fit : List ℕ → Bool
all_fit [] = true
all_fit (m ∷ ms) = fits_of m && all_fit ms

-- the words of the marks have been written, unless a mark has too many parts
pub record Shaped (marks words words' : List ℕ) (r : Bool) : Type 0 where
  pub is : r ≡ all_fit marks
  pub written : r ≡ true → words' ≡ shapes marks
  pub long : length words' ≡ length words
