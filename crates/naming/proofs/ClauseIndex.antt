-- The names of clauses in an index, with premises as the code has them.
use mathlib.Core.Bool.{Bool, true, false, cond}
use mathlib.Core.List.{List, [], ◌∷◌, ◌++◌, map-append}
use mathlib.Core.Path.{◌≡◌, refl, sym, ap, ap₂, subst, ◌∙◌}
use Prim.Native.Nat.{ℕ, zero, suc, ◌+◌, ◌≤◌, ◌<◌}
use native.Mathlib.Omega.{arith}
use native.Mathlib.Decide.{dec_lt}
use borrow.Author.Tests.{leb-true, le-leb}
use lib.Dec.{leb}
use lib.ListN.{length, take, drop, get_or, replicate, length-append, length-map, length-drop, length-replicate, get_or-replicate, take-append-drop}
use lib.Seq.{length-take-le, get_or-drop, take-append_seam, drop-append_seam, take-append-le, drop-append-le}
use Rattle.clausetext.specs.Syntax.{Role, Axiom, Hypothesis, NegatedConjecture, Clause}
use Rattle.clausetext.specs.Texts.{Says}
use Rattle.clausetext.proofs.OneReading.{one_reading}
use Rattle.names.specs.Numbers.{Name}
use Rattle.names.specs.Noting.{name_at, names_at}
use Rattle.names.proofs.Same.{no_name}
use Rattle.tptp.proofs.Splits.{split}
use Rattle.tptp.proofs.Answers.{all-count}
use Rattle.text.specs.Put.{Put}
use Rattle.text.proofs.Putting.{then, same_size}
use Rattle.text.proofs.Fitting.{left_whole, fits_exactly}
use Rattle.naming.specs.Index.{name_of, function_places, predicate_places, clause_places}
use Rattle.naming.specs.Clauses.{same, asks, names_of, file_names, NamesPut}
use Rattle.naming.specs.Noting.{Admissible, Listed, ClausesNamed, Indexed}
use Rattle.naming.proofs.Lookups.{named_at, none_named}

-- names with no names after them
blank_after : (xs ys : List Name) → ((k : ℕ) → get_or ys k [] ≡ []) → (n : ℕ) → get_or (xs ++ ys) n [] ≡ get_or xs n []
blank_after [] ys h n = h n
blank_after (x ∷ xs) ys h zero = refl
blank_after (x ∷ xs) ys h (suc n) = blank_after xs ys h n

-- a clause is a question or not
names_count : (cs : List Clause) → length (names_of false cs) + length (names_of true cs) ≡ length cs
unfolding names_of
names_count [] = refl
names_count (c ∷ cs) = go c.role (names_count cs)
  where
    go : (r : Role) → length (names_of false cs) + length (names_of true cs) ≡ length cs
        → length (cond (same (asks r) false) (c.name ∷ names_of false cs) (names_of false cs)) + length (cond (same (asks r) true) (c.name ∷ names_of true cs) (names_of true cs)) ≡ suc (length cs)
    go Axiom h = omega (arith, h)
    go Hypothesis h = omega (arith, h)
    go NegatedConjecture h = omega (arith, h)

module _ (text : List ℕ) {end : ℕ} (e : end ≡ length text) (names : List ℕ) {cleared : List ℕ} (c : cleared ≡ replicate (length names) end) where
  none_left : (k j : ℕ) → name_of text (drop k cleared) j ≡ []
  none_left k j = go (dec_lt j (length (drop k cleared)))
    where
      go : Dec (j < length (drop k cleared)) → name_of text (drop k cleared) j ≡ []
      go (yes h) =
          let size : length cleared ≡ length names = ap (λ (l : List ℕ). length l) c ∙ length-replicate (length names) end in
          let here : get_or cleared (k + j) 0 ≡ length text = ap (λ (l : List ℕ). get_or l (k + j) 0) c ∙ get_or-replicate (length names) (k + j) end 0 (omega (arith, h, length-drop k cleared, size)) ∙ e in
          named_at text (drop k cleared) j h ∙ ap (λ (at : ℕ). name_at text at) (get_or-drop k cleared j 0 ∙ here) ∙ no_name text (length text) (omega arith)
      go (no h) = none_named text (drop k cleared) j (omega (arith, h))

  pub clauses_named : length names ≡ 512 → {one two : List ℕ} {n m : ℕ} → NamesPut text false cleared 0 one n → NamesPut text true one n two m → ClausesNamed text two (leb m 512)
  clauses_named l {one} {two} {n} {m} a b = record { long = same_size both ∙ size; made = few; told = named }
    where
      both : Put cleared 0 (a.places ++ b.places) two m
      both = then a.written b.written

      size : length cleared ≡ 512
      size = ap (λ (l : List ℕ). length l) c ∙ length-replicate (length names) end ∙ l

      few : (cs : List Clause) → Admissible text cs → leb m 512 ≡ true
      few cs w =
          let stated : length a.places ≡ length (names_of false cs)
          = sym (length-map a.places (λ (at : ℕ). name_at text at)) ∙ ap (λ (l : List Name). length l) a.names ∙ ap (λ (ds : List Clause). length (names_of false ds)) (one_reading a.says w.says) in
          let asked : length b.places ≡ length (names_of true cs)
          = sym (length-map b.places (λ (at : ℕ). name_at text at)) ∙ ap (λ (l : List Name). length l) b.names ∙ ap (λ (ds : List Clause). length (names_of true ds)) (one_reading b.says w.says) in
          let all : length (a.places ++ b.places) ≤ 512
          = omega (arith, stated, asked, names_count cs, length-append a.places b.places, all-count cs (split cs w.one), w.fits.within.few) in
          le-leb m 512 ((fits_exactly both 512 (omega (arith, size)) (omega arith)).1 all)

      named : leb m 512 ≡ true → (cs : List Clause) → Says text cs → (k : ℕ) → name_of text two k ≡ get_or (file_names cs) k []
      named t cs says k =
          let fits : length (a.places ++ b.places) ≤ length cleared = rw size ((fits_exactly both 512 (omega (arith, size)) (omega arith)).0 (leb-true m 512 t)) in
          let whole = left_whole both fits in
          let spread : names_at text two ≡ names_at text (a.places ++ b.places) ++ names_at text (drop (length (a.places ++ b.places)) cleared)
          = ap (λ (l : List ℕ). names_at text l) whole ∙ map-append (λ (at : ℕ). name_at text at) (a.places ++ b.places) (drop (length (a.places ++ b.places)) cleared) in
          let stated : names_at text a.places ≡ names_of false cs = a.names ∙ ap (λ (ds : List Clause). names_of false ds) (one_reading a.says says) in
          let asked : names_at text b.places ≡ names_of true cs = b.names ∙ ap (λ (ds : List Clause). names_of true ds) (one_reading b.says says) in
          let told : names_at text (a.places ++ b.places) ≡ file_names cs
          = map-append (λ (at : ℕ). name_at text at) a.places b.places ∙ ap₂ (λ (x y : List Name). x ++ y) stated asked in
          ap (λ (names : List Name). get_or names k []) spread
          ∙ blank_after (names_at text (a.places ++ b.places)) (names_at text (drop (length (a.places ++ b.places)) cleared)) (none_left (length (a.places ++ b.places))) k
          ∙ ap (λ (names : List Name). get_or names k []) told

-- the parts of an index before its clauses
front_functions : (a b : List ℕ) → length a ≡ 8192 → function_places (a ++ b) ≡ take 4096 a
front_functions a b l = take-append-le 4096 a b (omega (arith, l))

front_predicates : (a b : List ℕ) → length a ≡ 8192 → predicate_places (a ++ b) ≡ take 4096 (drop 4096 a)
front_predicates a b l =
    ap (λ (x : List ℕ). take 4096 x) (drop-append-le 4096 a b (omega (arith, l))) ∙ take-append-le 4096 (drop 4096 a) b (omega (arith, l, length-drop 4096 a))

pub all_indexed : {text index names : List ℕ} {r : Bool} → Listed text index true → ClausesNamed text names r
    → Indexed text (take 8192 index ++ (names ++ drop 512 (drop 8192 index))) r
all_indexed {text} {index} {names} {r} w n =
    let rest = drop 512 (drop 8192 index) in
    let front : length (take 8192 index) ≡ 8192 = length-take-le 8192 index (omega (arith, w.long)) in
    let whole : index ≡ take 8192 index ++ drop 8192 index = sym (take-append-drop 8192 index) in
    let f : function_places (take 8192 index ++ (names ++ rest)) ≡ function_places index
    = front_functions (take 8192 index) (names ++ rest) front ∙ sym (ap (λ (l : List ℕ). function_places l) whole ∙ front_functions (take 8192 index) (drop 8192 index) front) in
    let p : predicate_places (take 8192 index ++ (names ++ rest)) ≡ predicate_places index
    = front_predicates (take 8192 index) (names ++ rest) front ∙ sym (ap (λ (l : List ℕ). predicate_places l) whole ∙ front_predicates (take 8192 index) (drop 8192 index) front) in
    let d : drop 8192 (take 8192 index ++ (names ++ rest)) ≡ names ++ rest
    = subst (λ (k : ℕ). drop k (take 8192 index ++ (names ++ rest)) ≡ names ++ rest) front (drop-append_seam (take 8192 index) (names ++ rest)) in
    let c : clause_places (take 8192 index ++ (names ++ rest)) ≡ names
    = ap (λ (l : List ℕ). take 512 l) d ∙ subst (λ (k : ℕ). take k (names ++ rest) ≡ names) n.long (take-append_seam names rest) in
    record {
      long = omega (arith, front, w.long, n.long, length-append (take 8192 index) (names ++ rest), length-append names rest, length-drop 512 (drop 8192 index), length-drop 8192 index);
      made = n.made;
      told = λ e cs says. let t = w.told refl cs says in record {
        functions = λ k. ap (λ (l : List ℕ). name_of text l k) f ∙ t.functions k;
        predicates = λ k. ap (λ (l : List ℕ). name_of text l k) p ∙ t.predicates k;
      };
      clauses = λ e cs says k. ap (λ (l : List ℕ). name_of text l k) c ∙ n.told e cs says k;
    }

pub unindexed : {text index : List ℕ} → length index ≡ 16896 → ((cs : List Clause) → Admissible text cs → ⊥) → Indexed text index false
unindexed l none = record {
  long = l;
  made = λ cs a. absurd (none cs a);
  told = λ e. let z : ◌≡◌ {A = ℕ} 0 1 = cc in absurd (omega (arith, z));
  clauses = λ e. let z : ◌≡◌ {A = ℕ} 0 1 = cc in absurd (omega (arith, z));
}

pub listed_so : {text index : List ℕ} {r : Bool} → Listed text index r → r ≡ true → Listed text index true
listed_so w e = rw e at w

pub never_unlisted : {text index : List ℕ} {r : Bool} → Listed text index r → r ≡ false → (cs : List Clause) → Admissible text cs → ⊥
never_unlisted w e cs a = let t = w.made cs a in let z : ◌≡◌ {A = ℕ} 0 1 = cc in omega (arith, z)
