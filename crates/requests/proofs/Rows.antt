-- Requests read from a line, one law for each outcome, with premises as the code has them.
use mathlib.Core.Path.{◌≡◌, refl, sym, ap, ◌∙◌}
use mathlib.Core.Bool.{Bool, true, false}
use mathlib.Core.List.{List, [], ◌∷◌}
use Prim.Native.Nat.{ℕ, ◌+◌, ◌*◌, ◌^◌, ◌≤◌, ◌<◌}
use native.Mathlib.Omega.{arith}
use lib.Dec.{ltb}
use lib.ListN.{length, drop, get_or, length-drop, drop_of_length-le}
use lib.Seq.{drop-cons}
use native.Mathlib.Numerals.{add-one}
use mir.Syntax.{w64}
use mir.Val.{Fits}
use borrow.Author.Tests.{lt-ltb, le-ltb, eq-eqb, ne_eqb}
use Rattle.std.specs.Prelude.{Some, None}
use Rattle.text.specs.Quoted.{bytes}
use Rattle.text.specs.Put.{put, Put}
use Rattle.text.proofs.Putting.{Left, begin, further as write-on, finish}
use Rattle.requests.specs.Pieces.{piece_at, pieces_at, decimal_at, same_bytes, is_word, run_from}
use Rattle.requests.specs.Records.{is_record}
use Rattle.requests.specs.Bytes.{bytes_of}
use Rattle.requests.specs.Rows.{number_at, counted, list_at, wholly, bytes_at, barred_at, field_at, ends_with, values_from, asks, values_asked}
use Rattle.requests.specs.declared.piece.Number.{Number as Numbered}
use Rattle.requests.specs.declared.listed.Run.{Run}
use Rattle.requests.specs.declared.request.Field.{Field}
use Rattle.requests.specs.declared.request.Field.TheVariants.{Number, Words, Records, Bytes, Unknown}
use Rattle.requests.specs.declared.request.Said.{Said}
use Rattle.requests.proofs.Lists.{front_length, same_lengths}

-- a number
module _ (limit : ℕ) (line : List ℕ) (at : ℕ) where
  pub number_missing : None ≡ decimal_at 32 line at → None ≡ number_at limit line at
  unfolding number_at
  number_missing e = rw (← e)

  module _ {n : Numbered} (e : Some n ≡ decimal_at 32 line at) where
    pub over_limit : limit < n.value → None ≡ number_at limit line at
    unfolding number_at
    over_limit h = rw (← e, lt-ltb limit n.value h)

    pub number_read : n.value ≤ limit → Some (record { value = n.value; next = n.next }) ≡ number_at limit line at
    unfolding number_at
    number_read h = rw (← e, le-ltb limit n.value h)

-- a mark of one byte stands within the line
pub mark_fits : (line : List ℕ) (at b : ℕ) {q : Bool} → q ≡ same_bytes (piece_at line at) (b ∷ []) → q ≡ true → length line < 2 ^ 63 → Fits w64 (at + 2)
mark_fits line at b e t h =
    let one : length (piece_at line at) ≡ 1 = same_lengths (piece_at line at) (b ∷ []) (sym e ∙ t) in
    record { fits = omega (arith, front_length 32 (drop at line), length-drop at line) }

-- a list of pieces
module _ (room : ℕ) (line : List ℕ) (at : ℕ) (run : Run) {q : Bool} (e : q ≡ same_bytes (piece_at line at) (bytes "-")) where
  pub list_none : q ≡ true → Some (record { value = at; next = at + 2 }) ≡ list_at room line at run
  unfolding list_at
  list_none t = rw (sym e ∙ t)

  pub list_some : q ≡ false → counted room at run ≡ list_at room line at run
  unfolding list_at
  list_some t = rw (sym e ∙ t)

-- bytes
module _ (room : ℕ) (line : List ℕ) (at : ℕ) {q : Bool} (e : q ≡ same_bytes (piece_at line at) (bytes "-")) where
  pub bytes_none : q ≡ true → Some (record { value = at; next = at + 2 }) ≡ bytes_at room line at
  unfolding bytes_at
  bytes_none t = rw (sym e ∙ t)

  module _ (t : q ≡ false) {count : ℕ} (ec : count ≡ length (bytes_of (drop at line))) {own : List ℕ} (eo : own ≡ piece_at line at) where
    is-wholly : wholly room at (length own) count ≡ bytes_at room line at
    unfolding bytes_at
    is-wholly = rw (sym e ∙ t, ec, eo)

    pub no_bytes : count ≡ 0 → None ≡ bytes_at room line at
    no_bytes z = rw (eq-eqb count 0 z) at is-wholly

    module _ (n : count ≡ 0 → ⊥) where
      pub bytes_within : length own ≡ count * 2 → at + length own ≤ length line
      bytes_within d = omega (arith, n, d, ap (λ (l : List ℕ). length l) eo, front_length 32 (drop at line), length-drop at line)

      pub more_than_bytes : (length own ≡ count * 2 → ⊥) → None ≡ bytes_at room line at
      more_than_bytes d = rw (ne_eqb count 0 n, ne_eqb (length own) (count * 2) d) at is-wholly

      module _ (d : length own ≡ count * 2) where
        pub too_many_bytes : room < count → None ≡ bytes_at room line at
        too_many_bytes h = rw (ne_eqb count 0 n, eq-eqb (length own) (count * 2) d, lt-ltb room count h) at is-wholly

        pub bytes_read : count ≤ room → Some (record { value = at; next = at + length own + 1 }) ≡ bytes_at room line at
        bytes_read h = rw (ne_eqb count 0 n, eq-eqb (length own) (count * 2) d, le-ltb room count h) at is-wholly

-- a list comes after a bar
module _ (line : List ℕ) (at : ℕ) {q : Bool} (e : q ≡ same_bytes (piece_at line at) (bytes "/")) where
  pub list_barred : q ≡ true → Some (at + 2) ≡ barred_at line at
  unfolding barred_at
  list_barred t = rw (sym e ∙ t)

  pub no_bar : q ≡ false → None ≡ barred_at line at
  unfolding barred_at
  no_bar t = rw (sym e ∙ t)

-- a field by its kind
module _ (line : List ℕ) (at : ℕ) {kind : Field} where
  pub field_number : {limit : ℕ} → kind ≡ Number limit → number_at limit line at ≡ field_at line at kind
  unfolding field_at
  field_number e = rw e

  pub field_unknown : kind ≡ Unknown → None ≡ field_at line at kind
  unfolding field_at
  field_unknown e = rw e

  module _ (b : None ≡ barred_at line at) where
    pub no_words : {room : ℕ} → kind ≡ Words room → None ≡ field_at line at kind
    unfolding field_at
    no_words e = rw (e, ← b)

    pub no_records : {room : ℕ} → kind ≡ Records room → None ≡ field_at line at kind
    unfolding field_at
    no_records e = rw (e, ← b)

    pub no_barred_bytes : {room : ℕ} → kind ≡ Bytes room → None ≡ field_at line at kind
    unfolding field_at
    no_barred_bytes e = rw (e, ← b)

  module _ {begins : ℕ} (b : Some begins ≡ barred_at line at) {room long : ℕ} (r : long ≡ room) where
    pub field_words : kind ≡ Words room → {run : Run} → run ≡ run_from is_word 0 begins (pieces_at line begins) → list_at long line begins run ≡ field_at line at kind
    unfolding field_at
    field_words e n = rw (e, ← b, r, n)

    pub field_records : kind ≡ Records room → {run : Run} → run ≡ run_from is_record 0 begins (pieces_at line begins) → list_at long line begins run ≡ field_at line at kind
    unfolding field_at
    field_records e n = rw (e, ← b, r, n)

    pub field_bytes : kind ≡ Bytes room → bytes_at long line begins ≡ field_at line at kind
    unfolding field_at
    field_bytes e = rw (e, ← b, r)

-- the fields one after the other
field_there : (row : List Field) (i : ℕ) (d : Field) → i < length row → drop i row ≡ get_or row i d ∷ drop (i + 1) row
field_there row i d h = rw (add-one, drop-cons row i d h)

pub record Reading (line : List ℕ) (from : ℕ) (row : List Field) (first out : List ℕ) (at used i : ℕ) : Type 0 where
  pub ends : ends_with line from row ≡ ends_with line at (drop i row)
  pub left : Left first 0 (values_from line from row) out used (values_from line at (drop i row))

pub read_begin : (line : List ℕ) (from : ℕ) (row : List Field) (out : List ℕ) → Reading line from row out out from 0 0
read_begin line from row out = record { ends = refl; left = begin out 0 (values_from line from row) }

module _ {line : List ℕ} {from : ℕ} {row : List Field} {first out : List ℕ} {at used i : ℕ} (g : Reading line from row first out at used i) where
  pub read_over : length row ≤ i → ltb (length line) at ≡ ends_with line from row
  unfolding ends_with
  read_over h = sym (g.ends ∙ rw (drop_of_length-le row h))

  pub written_over : length row ≤ i → out ≡ put first 0 (values_from line from row)
  unfolding values_from
  written_over h = (finish (rw (drop_of_length-le row h) at g.left)).written

  module _ (h : i < length row) (d : Field) where
    pub read_missing : None ≡ field_at line at (get_or row i d) → false ≡ ends_with line from row
    unfolding ends_with
    read_missing z = sym (g.ends ∙ rw (field_there row i d h, ← z))

    pub written_missing : None ≡ field_at line at (get_or row i d) → out ≡ put first 0 (values_from line from row)
    unfolding values_from
    written_missing z = (finish (rw (field_there row i d h, ← z) at g.left)).written

    pub read_on : {s : Said} → Some s ≡ field_at line at (get_or row i d) → {out' : List ℕ} {used' : ℕ} → Put out used (s.value ∷ []) out' used'
        → Reading line from row first out' s.next used' (i + 1)
    unfolding ends_with values_from
    read_on {s} z q = record {
      ends = g.ends ∙ rw (field_there row i d h, ← z);
      left = write-on (s.value ∷ []) (values_from line s.next (drop (i + 1) row)) (rw (field_there row i d h, ← z) at g.left) q;
    }

-- the verb
module _ (line verb : List ℕ) (row : List Field) {q : Bool} (e : q ≡ same_bytes (piece_at line 0) verb) where
  pub other_verb : q ≡ false → false ≡ asks line verb row
  unfolding asks
  other_verb f = rw (sym e ∙ f)

  pub this_verb : q ≡ true → ends_with line (length verb + 1) row ≡ asks line verb row
  unfolding asks
  this_verb t = rw (sym e ∙ t)

  pub values_left : q ≡ false → (values : List ℕ) → values ≡ put values 0 (values_asked line verb row)
  unfolding values_asked
  values_left f values = rw (sym e ∙ f) (finish (begin values 0 [])).written

  pub values_read : q ≡ true → values_from line (length verb + 1) row ≡ values_asked line verb row
  unfolding values_asked
  values_read t = rw (sym e ∙ t)
