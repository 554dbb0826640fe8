-- Machinery: what the work words note of a body's literals, and how the literals with one word are linked. No public contract speaks of it.
use Rattle.std.specs.Prelude.{Option, Some, None, cond, ◌&&◌, List, [], ◌∷◌, ◌≡◌, ℕ, zero, suc, ◌+◌, ◌*◌, ◌-◌, ◌/◌, ◌%◌, ◌≤◌, ◌<◌, eqb, ltb, length, take, drop, get_or, set}
use Rattle.std.proofs.Math.Option.{some}
use Rattle.std.proofs.Math.ListN.{get_elem?}
use Rattle.words.specs.Fields.{kind_of, number_of}
use Rattle.unification.specs.Places.{work_words}
use Rattle.index.specs.Places.{noted_place, first_places, head_places, most_noted, note_places, key_count}
use Rattle.index.specs.Scanning.{begun, past_word, Standing}
use Rattle.index.specs.declared.entries.Scan.{Scan}

-- the literals of a body, by their words and by where they stand
unfoldable pub keys_of : List ℕ → List ℕ
keys_of [] = []
keys_of (w ∷ ws) = cond (eqb (kind_of w) 2) (w ∷ keys_of ws) (keys_of ws)

unfoldable pub scans_from : Scan → List ℕ → List Scan
scans_from s [] = []
scans_from s (w ∷ ws) = cond (eqb (kind_of w) 2) (s ∷ scans_from (past_word s w) ws) (scans_from (past_word s w) ws)

abbrev pub keys_in : List ℕ → ℕ → List ℕ
keys_in f body = keys_of (take body f)

abbrev pub scans_in : List ℕ → ℕ → List Scan
scans_in f body = scans_from begun (take body f)

-- the number, and one, of the first literal with a word, where literals are numbered from a number on; 0 where there is none
unfoldable pub first_from : ℕ → ℕ → List ℕ → ℕ
first_from word i [] = 0
first_from word i (k ∷ ks) = cond (eqb k word) (i + 1) (first_from word (i + 1) ks)

-- and of the last
unfoldable pub or_else : ℕ → ℕ → ℕ
or_else zero other = other
or_else (suc n) other = suc n

unfoldable pub last_from : ℕ → ℕ → List ℕ → ℕ
last_from word i [] = 0
last_from word i (k ∷ ks) = or_else (last_from word (i + 1) ks) (cond (eqb k word) (i + 1) 0)

-- a number and one, 0 standing for none
abbrev pub numbered : ℕ → Option ℕ
numbered zero = None
numbered (suc n) = Some n

-- of the literals whose words have a key, the first that is the last with its word
unfoldable pub end_from : ℕ → ℕ → List ℕ → ℕ
end_from key i [] = 0
end_from key i (k ∷ ks) = cond (eqb (number_of k) key && eqb (last_from k (i + 1) ks) 0) (i + 1) (end_from key (i + 1) ks)

-- the literals with a word, and those from a link on
unfoldable pub picked : ℕ → List ℕ → List Scan → List Scan
picked word [] ss = []
picked word (k ∷ ks) [] = []
picked word (k ∷ ks) (s ∷ ss) = cond (eqb k word) (s ∷ picked word ks ss) (picked word ks ss)

unfoldable pub ahead : List ℕ → List Scan → ℕ → ℕ → List Scan
ahead ks ss word zero = []
ahead ks ss word (suc i) = picked word (drop i ks) (drop i ss)

-- the first place from a place on whose word begins a clause or a literal, and a scan that stands there
unfoldable pub plain_from : ℕ → List ℕ → ℕ
plain_from at [] = at
plain_from at (w ∷ ws) = cond (ltb 1 (kind_of w)) at (plain_from (at + 1) ws)

abbrev pub moved_to : Scan → ℕ → Scan
moved_to s at = record { at = at; clauses = s.clauses; start = s.start; literals = s.literals }

-- The regions of the notes (docs/MEMORY.md).
abbrev pub count_at : List ℕ → ℕ
count_at m = get_or m noted_place 0

abbrev pub note_at : List ℕ → ℕ → ℕ
note_at m i = get_or m (note_places + 3 * i) 0

abbrev pub links_at : List ℕ → ℕ → ℕ
links_at m i = get_or m (note_places + 3 * i + 1) 0

abbrev pub link_at : List ℕ → ℕ → ℕ
link_at m i = links_at m i % 4096

abbrev pub first_at : List ℕ → ℕ → ℕ
first_at m i = links_at m i / 4096

abbrev pub end_at : List ℕ → ℕ → ℕ
end_at m i = get_or m (note_places + 3 * i + 2) 0

abbrev pub clause_at : List ℕ → ℕ → ℕ
clause_at m c = get_or m (first_places + c) 0

abbrev pub head_at : List ℕ → ℕ → ℕ
head_at m key = get_or m (head_places + key) 0

-- a literal within the limits of a question file
pub record Fits (s : Scan) : Type 0 where
  pub begun : 1 ≤ s.clauses
  pub clauses : s.clauses ≤ 512
  pub literals : s.literals < 7
  pub later : s.start < s.at
  pub near : s.at - s.start < 256

pub record Few (ws : List ℕ) : Type 0 where
  pub fits : (s : Scan) → Standing ws s → s.at < length ws → kind_of (get_or ws s.at 0) ≡ 2 → Fits s

-- one literal noted
abbrev pub packed : Scan → ℕ
packed s = s.at + 16384 * (s.clauses - 1 + 512 * (s.at - s.start))

abbrev pub noted : List ℕ → ℕ → Scan → List ℕ
noted m i s = set (set m (note_places + 3 * i) (packed s)) (first_places + (s.clauses - 1)) (i - s.literals)

-- the literal of a number, read from its note
abbrev pub unpacked : List ℕ → ℕ → Scan
unpacked m i =
    record {
      at = note_at m i % 16384;
      clauses = note_at m i / 16384 % 512 + 1;
      start = note_at m i % 16384 - note_at m i / 8388608;
      literals = i - clause_at m (note_at m i / 16384 % 512);
    }

pub record Unpacks (m : List ℕ) (i : ℕ) : Type 0 where
  pub size : length m ≡ work_words
  pub low : i < most_noted
  pub offset : note_at m i / 8388608 ≤ note_at m i % 16384
  pub number : clause_at m (note_at m i / 16384 % 512) ≤ i

-- the literals of a body are noted
pub record Indexed (f : List ℕ) (body : ℕ) (m : List ℕ) : Type 0 where
  pub size : length m ≡ work_words
  pub fits : body ≤ length f
  pub short : body ≤ 16000
  pub few : Few (take body f)
  pub count : count_at m ≡ length (scans_in f body)
  pub most : length (scans_in f body) ≤ most_noted
  pub entry : (i : ℕ) (s : Scan) → get_elem? (scans_in f body) i ≡ some s → note_at m i ≡ packed s
  pub number : (i : ℕ) (s : Scan) → get_elem? (scans_in f body) i ≡ some s → clause_at m (s.clauses - 1) + s.literals ≡ i

-- and linked, from a number on
pub record Linked (f : List ℕ) (body : ℕ) (m : List ℕ) (from : ℕ) : Type 0 where
  pub indexed : Indexed f body m
  pub within : from ≤ length (keys_in f body)
  pub links : (i : ℕ) → from ≤ i → i < length (keys_in f body) → link_at m i ≡ first_from (get_or (keys_in f body) i 0) (i + 1) (drop (i + 1) (keys_in f body))
  pub ends : (i : ℕ) → from ≤ i → i < length (keys_in f body) → end_at m i ≡ end_from (number_of (get_or (keys_in f body) i 0)) (i + 1) (drop (i + 1) (keys_in f body))
  pub firsts : (i : ℕ) → from ≤ i → i < length (keys_in f body) → last_from (get_or (keys_in f body) i 0) (i + 1) (drop (i + 1) (keys_in f body)) ≡ 0
      → links_at m i ≡ 4096 * first_from (get_or (keys_in f body) i 0) from (drop from (keys_in f body))
  pub heads : (key : ℕ) → key < key_count → head_at m key ≡ end_from key from (drop from (keys_in f body))

-- one literal linked: the first met with its word, or one more with it
abbrev pub word_begun : List ℕ → ℕ → ℕ → List ℕ
word_begun m i key =
    set (set (set m (note_places + 3 * i + 1) (4096 * (i + 1))) (note_places + 3 * i + 2) (head_at m key)) (head_places + key) (i + 1)

abbrev pub word_joined : List ℕ → ℕ → ℕ → ℕ → List ℕ
word_joined m i key last =
    set (set (set m (note_places + 3 * i + 1) (first_at m last)) (note_places + 3 * i + 2) (head_at m key)) (note_places + 3 * last + 1) (4096 * (i + 1))
