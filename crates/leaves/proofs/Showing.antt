-- Clauses and literals shown: one law for each outcome of the code, with premises as the code has them.
use mathlib.Core.Bool.{Bool, true, false, cond, ◌&&◌}
use mathlib.Core.List.{List, [], ◌∷◌}
use mathlib.Core.Path.{◌≡◌, refl, ap, ◌∙◌}
use Prim.Native.Nat.{ℕ, zero, suc, ◌+◌, ◌-◌, ◌≤◌, ◌<◌}
use native.Mathlib.Numerals.{add-one}
use native.Mathlib.Omega.{arith}
use denote.Ref.{Bor}
use borrow.Author.Tests.{lt-ltb, le-ltb, lt-leb, le-leb, leb-true, leb-false}
use lib.Dec.{eqb, leb, ltb}
use lib.ListN.{length, take, drop, get_or}
use lib.Seq.{take_all}
use Rattle.words.specs.Fields.{kind_of, literals_of}
use Rattle.table.specs.File.{judge, clause_starts, part_from, clause_part, Stands}
use Rattle.text.specs.Put.{put, after, Put}
use Rattle.text.specs.Quoted.{bytes}
use Rattle.text.proofs.Putting.{Left, begin, further, finish, then as joined}
use Rattle.text.proofs.Fitting.{written_whole}
use Rattle.naming.specs.Index.{IsNamed, clause_places, variable_places}
use Rattle.naming.specs.Shown.{names_in, shown, until_literal, literal_parts, literal_part}
use Rattle.leaves.specs.Shown.{clause_in, size_in, sizes_from, sizes_in, question_in, literal_word_in, literal_shown, cut_to, name_cut}

-- nothing put
pub no_bytes : (out : List ℕ) (at : ℕ) → Put out at [] out at
no_bytes out at = finish (begin out at [])

pub take_within : (n : ℕ) (l : List ℕ) → length (take n l) ≤ n
take_within zero l = omega arith
take_within (suc n) [] = omega arith
take_within (suc n) (x ∷ l) = let h = take_within n l in omega arith

-- the words of a clause
few_words : (file : List ℕ) (number : ℕ) → (clause_part file number).count ≤ 256
unfolding clause_part
few_words file number = go (eqb (judge file).status 0 && ltb number (judge file).clauses)
  where
    go : (b : Bool) → (cond b (part_from file (get_or (clause_starts file) number 0)) (record { start = 0; count = 0 })).count ≤ 256
    go true = omega arith
    go false = omega arith

module _ (file : Bor (List ℕ)) (number : ℕ) {r : Bor (List ℕ)} (s : Stands file (clause_part file.now number) r) where
  pub clause_is : r.now ≡ clause_in file.now number
  clause_is = s.words

  pub clause_short : length r.now ≤ 256
  clause_short =
      let h = take_within (clause_part file.now number).count (drop (clause_part file.now number).start file.now) in
      let k : length r.now ≡ length (clause_in file.now number) = ap (λ (l : List ℕ). length l) s.words in
      omega (arith, h, k, few_words file.now number)

pub ruleset clause_laws = (clause_is, clause_short)

-- how many literals there are
module _ (file : List ℕ) (number : ℕ) {own : List ℕ} (e : own ≡ clause_in file number) where
  pub size_none : length own ≡ 0 → 0 ≡ size_in file number
  size_none h = go own h ∙ rw e
    where
      go : (l : List ℕ) → length l ≡ 0 → 0 ≡ literals_of (get_or l 0 0)
      go [] k = refl
      go (x ∷ l) k = absurd (omega (arith, k))

  pub size_some : {r : ℕ} → r ≡ literals_of (get_or own 0 0) → r ≡ size_in file number
  size_some h = h ∙ rw e

pub ruleset size_laws = (size_none, size_some)

pub record Sizing (file first out : List ℕ) (at number : ℕ) : Type 0 where
  pub few : number ≤ 512
  pub left : Left first 0 (sizes_in file) out at (sizes_from file number (512 - number))

pub sizing_begin : (file first : List ℕ) → Sizing file first first 0 0
sizing_begin file first = record { few = omega arith; left = begin first 0 (sizes_in file) }

module _ {file first out : List ℕ} {at number : ℕ} (g : Sizing file first out at number) where
  pub sizing_over : 512 ≤ number → Put first 0 (sizes_in file) out at
  unfolding sizes_from
  sizing_over h = let z : 512 - number ≡ 0 = omega (arith, h) in finish (rw z at g.left)

  pub sizing_on : number < 512 → {s : ℕ} → s ≡ size_in file number → {out' : List ℕ} {at' : ℕ} → Put out at (s ∷ []) out' at' → Sizing file first out' at' (number + 1)
  unfolding sizes_from
  sizing_on h {s} e {out'} {at'} p = record {
    few = omega arith;
    left = let z : 512 - (number + 1) ≡ 511 - number = omega arith in further (s ∷ []) (sizes_from file (number + 1) (512 - (number + 1))) (rw z (turned (511 - number) (omega (arith, h)))) p;
  }
    where
      turned : (k : ℕ) → 512 - number ≡ suc k → Left first 0 (sizes_in file) out at (s ∷ sizes_from file (number + 1) k)
      turned k z = rw (add-one, e) (rw z at g.left)

pub ruleset sizing_laws = (sizing_begin, sizing_over, sizing_on)

-- a text as long as the buffer, or longer, fills it
put_over : (out t : List ℕ) → length out ≤ length t → put out 0 t ≡ take (length out) t
unfolding put
put_over [] t h = refl
put_over (o ∷ out) [] h = absurd (omega (arith, h))
put_over (o ∷ out) (x ∷ t) h = ap (λ (l : List ℕ). x ∷ l) (put_over out t (omega (arith, h)))

many_sizes : (file : List ℕ) (number k : ℕ) → length (sizes_from file number k) ≡ k
unfolding sizes_from
many_sizes file number zero = refl
many_sizes file number (suc k) = ap suc (many_sizes file (suc number) k)

pub sized_whole : (file : List ℕ) {first left : List ℕ} {r : ℕ} → length first ≡ 512 → Put first 0 (sizes_in file) left r → left ≡ sizes_in file
sized_whole file {first} {left} h p =
    let k = many_sizes file 0 512 in
    p.written ∙ put_over first (sizes_in file) (omega (arith, h, k)) ∙ rw h (take_all 512 (sizes_in file) (omega (arith, k)))

module _ (file : List ℕ) where
  pub no_question : length file < 4 → 0 ≡ question_in file
  unfolding question_in
  no_question h = rw (lt-ltb (length file) 4 h)

  pub a_question : 4 ≤ length file → {r : ℕ} → r ≡ get_or file (length file - 4 + 1) 0 - 1 → r ≡ question_in file
  unfolding question_in
  a_question h e = e ∙ rw (le-ltb (length file) 4 h)

pub ruleset question_laws = (no_question, a_question)

-- a literal's words are few
until_within : (ws : List ℕ) → length (until_literal ws) ≤ length ws
unfolding until_literal
until_within [] = omega arith
until_within (w ∷ ws) = go (eqb (kind_of w) 2) (until_within ws)
  where
    go : (b : Bool) → length (until_literal ws) ≤ length ws → length (cond b [] (w ∷ until_literal ws)) ≤ suc (length ws)
    go true h = omega arith
    go false h = omega arith

part_within : (ws : List ℕ) (number : ℕ) → length (literal_part ws number) ≤ length ws
unfolding literal_parts
part_within [] number = omega arith
part_within (w ∷ ws) number = go (eqb (kind_of w) 2) number (λ n. part_within ws n)
  where
    go : (b : Bool) (n : ℕ) → ((m : ℕ) → length (literal_part ws m) ≤ length ws) → length (get_or (cond b ((w ∷ until_literal ws) ∷ literal_parts ws) (literal_parts ws)) n []) ≤ suc (length ws)
    go true zero ih = let h = until_within ws in omega arith
    go true (suc n) ih = let h = ih n in omega arith
    go false n ih = let h = ih n in omega arith

module _ (own : List ℕ) (few : length own ≤ 256) (number : ℕ) {r : List ℕ} (e : r ≡ literal_part own number) where
  pub literal_short : length r ≤ 4096
  literal_short = let k : length r ≡ length (literal_part own number) = ap (λ (l : List ℕ). length l) e in omega (arith, k, part_within own number, few)

module _ (text index file : List ℕ) (clause number : ℕ) where
  pub literal_is : {k : ℕ} → k ≡ clause → {own : List ℕ} → own ≡ clause_in file k → {n : ℕ} → n ≡ number → {ws : List ℕ} → ws ≡ literal_part own n
      → {m : ℕ} → m ≡ clause → {vs : List ℕ} → vs ≡ variable_places index m
      → {out left : List ℕ} {from end : ℕ} → Put out from (shown (names_in text index vs) 1 0 [] ws) left end → Put out from (literal_shown text index file clause number) left end
  unfolding literal_shown
  literal_is ek eo en ew em ev p = rw (ew, eo, ek, en, ev, em) at p

pub ruleset literal_laws = (literal_short, literal_is)

module _ (file : List ℕ) (clause number : ℕ) {k : ℕ} (ek : k ≡ clause) {own : List ℕ} (eo : own ≡ clause_in file k) {n : ℕ} (en : n ≡ number) {ws : List ℕ} (ew : ws ≡ literal_part own n) where
  pub word_none : length ws ≡ 0 → 0 ≡ literal_word_in file clause number
  word_none h = go ws h ∙ rw (ew, eo, ek, en)
    where
      go : (l : List ℕ) → length l ≡ 0 → 0 ≡ get_or l 0 0
      go [] z = refl
      go (x ∷ l) z = absurd (omega (arith, z))

  pub word_some : get_or ws 0 0 ≡ literal_word_in file clause number
  word_some = rw (ew, eo, ek, en)

pub ruleset word_laws = (word_none, word_some)

-- a text cut
module _ (own : List ℕ) (most : ℕ) {o₀ o₁ : List ℕ} {n₀ n₁ : ℕ} where
  pub cut_short : length own ≤ most → Put o₀ n₀ own o₁ n₁ → Put o₀ n₀ (cut_to most own) o₁ n₁
  unfolding cut_to
  cut_short h p = rw (le-leb (length own) most h) p

  pub cut_long : most < length own → {front : List ℕ} → front ≡ take most own → Put o₀ n₀ front o₁ n₁ → {o₂ : List ℕ} {n₂ : ℕ} → Put o₁ n₁ (bytes "...") o₂ n₂
      → Put o₀ n₀ (cut_to most own) o₂ n₂
  unfolding cut_to
  cut_long h e p q = rw (lt-leb (length own) most h) (joined (rw e at p) q)

pub ruleset cut_laws = (cut_short, cut_long)

take_take : (a b : ℕ) (l : List ℕ) → a ≤ b → take a (take b l) ≡ take a l
take_take zero b l h = refl
take_take (suc a) zero l h = absurd (omega (arith, h))
take_take (suc a) (suc b) [] h = refl
take_take (suc a) (suc b) (x ∷ l) h = ap (λ (m : List ℕ). x ∷ m) (take_take a b l (omega (arith, h)))

take_many : (n : ℕ) (l : List ℕ) → n ≤ length l → length (take n l) ≡ n
take_many zero l h = refl
take_many (suc n) [] h = absurd (omega (arith, h))
take_many (suc n) (x ∷ l) h = ap suc (take_many n l (omega (arith, h)))

-- what a buffer of a byte more tells of a text is enough to cut it
module _ (t : List ℕ) {space left : List ℕ} {n : ℕ} (size : length space ≡ 121) (p : Put space 0 t left n) where
  cut_over : 121 < length t → cut_to 120 (take n left) ≡ cut_to 120 t
  unfolding cut_to after
  cut_over h =
      let f : left ≡ take 121 t = p.written ∙ put_over space t (omega (arith, size, h)) ∙ rw size in
      let k : length (take 121 t) ≡ 121 = take_many 121 t (omega (arith, h)) in
      let m : 121 ≤ n = omega (arith, p.ends, size, h) in
      let g : take n left ≡ take 121 t = rw f (take_all n (take 121 t) (omega (arith, k, m))) in
      rw (g, k, lt-leb (length t) 120 (omega (arith, h)), take_take 120 121 t (omega arith))

  cut-within : length t ≤ 121 → cut_to 120 (take n left) ≡ cut_to 120 t
  cut-within h = let k : length t ≤ length space = omega (arith, h, size) in rw (written_whole p k)

  cut-known : cut_to 120 (take n left) ≡ cut_to 120 t
  cut-known = by (leb (length t) 121) refl
    where
      by : (b : Bool) → leb (length t) 121 ≡ b → cut_to 120 (take n left) ≡ cut_to 120 t
      by true e = cut-within (leb-true (length t) 121 e)
      by false e = cut_over (leb-false (length t) 121 e)

  pub literal_cut_is : {front : List ℕ} → front ≡ take n left → {o₀ o₁ : List ℕ} {n₀ n₁ : ℕ} → Put o₀ n₀ (cut_to 120 front) o₁ n₁ → Put o₀ n₀ (cut_to 120 t) o₁ n₁
  literal_cut_is e q = rw (← cut-known, ← e) q

pub name_cut_is : (text : Bor (List ℕ)) (index : List ℕ) (clause : ℕ) {k : ℕ} → k ≡ clause → {r : Bor (List ℕ)} → IsNamed text (clause_places index) k r
    → {o₀ o₁ : List ℕ} {n₀ n₁ : ℕ} → Put o₀ n₀ (cut_to 60 r.now) o₁ n₁ → Put o₀ n₀ (name_cut text.now index clause) o₁ n₁
name_cut_is text index clause e s q = rw (s.bytes, e) at q
