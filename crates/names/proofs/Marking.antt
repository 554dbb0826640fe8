-- A name entered in the tree byte by byte, and its number noted at its stem, with premises as the code has them.
use mathlib.Core.Bool.{Bool, true, false, cond}
use mathlib.Core.List.{List, [], ◌∷◌, ◌++◌, append-nil}
use mathlib.Core.Path.{◌≡◌, refl, sym, ap, ◌∙◌}
use Prim.Native.Nat.{ℕ, zero, suc, ◌+◌, ◌-◌, max, ◌≤◌, ◌<◌}
use native.Mathlib.Numerals.{add-one}
use native.Mathlib.Omega.{arith}
use borrow.Author.Tests.{eqb-true, eqb-false, eq-eqb, ne_eqb, leb-true, leb-false}
use lib.Dec.{eqb, leb}
use lib.ListN.{length, drop, get_or, set, length-append, drop_of_length-le}
use lib.Seq.{append_snoc, drop-cons, get_or-set_same, get_or-set_other}
use Rattle.names.specs.Numbers.{Name, number_in}
use Rattle.names.specs.Noting.{name_at}
use Rattle.names.specs.Tree.{spelt, mark_at, Tree, Grown, Onward, Entered}
use Rattle.names.specs.Marks.{Marks, Marked, Used}
use Rattle.names.proofs.Notes.{number_within, noted_known, noted_new, name_of, absent_at}
use Rattle.names.proofs.Stems.{spelt_root, apart, spelt_kept, tree_kept}

-- the bytes so far lead to a stem, and those from here on make up the name
pub record Entering (m own : List ℕ) (count : ℕ) (m' : List ℕ) (stem stems i : ℕ) : Type 0 where
  pub grown : Grown m count m' stems
  pub inside : stem ≤ stems
  pub slowly : stems + length (drop i own) ≤ count + length own
  pub spells : spelt m' stems stem ++ drop i own ≡ own
  pub room : count + length own ≤ 65536

module _ {m own : List ℕ} {count : ℕ} where
  pub begin_entering : Tree m count → count + length own ≤ 65536 → Entering m own count m 0 count 0
  begin_entering t r = record {
    grown = record { tree = t; more = omega arith; kept = λ s h. refl; marks = λ s. refl };
    inside = omega arith;
    slowly = omega arith;
    spells = rw (spelt_root m count);
    room = r;
  }

module _ {text m own : List ℕ} {count name : ℕ} (is : own ≡ name_at text name) {m' : List ℕ} {stem stems i : ℕ} (inv : Entering m own count m' stem stems i) where
  pub entered_end : length own ≤ i → Entered text m count name m' stem stems
  entered_end h =
      let none : drop i own ≡ [] = drop_of_length-le own h in
      record {
        grown = inv.grown;
        slowly = omega (arith, inv.slowly, ap length is);
        inside = inv.inside;
        spells = sym (append-nil (spelt m' stems stem)) ∙ (rw none at inv.spells) ∙ is;
      }

module _ {m own : List ℕ} {count : ℕ} {m' : List ℕ} {stem stems i : ℕ} (inv : Entering m own count m' stem stems i) (h : i < length own) where
  goes : drop i own ≡ get_or own i 0 ∷ drop (i + 1) own
  goes = rw (add-one i) (drop-cons own i 0 h)

  left : stems + suc (length (drop (i + 1) own)) ≤ count + length own
  left = rw goes at inv.slowly

  pub entering_room : stems < 65536
  entering_room = omega (arith, left, inv.room)

  pub entering_on : {m'' : List ℕ} {r : ℕ} → Onward m' stems stem (get_or own i 0) m'' r
      → {stems' : ℕ} → stems' ≡ max stems r → Entering m own count m'' r stems' (i + 1)
  entering_on {m''} {r = r} o q = rw q (record {
    grown = record {
      tree = o.grown.tree;
      more = omega (arith, inv.grown.more);
      kept = λ s g. o.grown.kept s (omega (arith, inv.grown.more)) ∙ inv.grown.kept s g;
      marks = λ s. o.grown.marks s ∙ inv.grown.marks s;
    };
    inside = omega arith;
    slowly = omega (arith, left, o.next);
    spells = rw o.name (append_snoc (spelt m' stems stem) (get_or own i 0) (drop (i + 1) own) ∙ (rw goes at inv.spells));
    room = inv.room;
  })

-- the names in front, and the one behind
front : (names more : List Name) (n : ℕ) → n < length names → get_or (names ++ more) n [] ≡ get_or names n []
front [] more n h = absurd (omega arith)
front (x ∷ names) more zero h = refl
front (x ∷ names) more (suc n) h = front names more n (omega arith)

behind : (names : List Name) (name : Name) → get_or (names ++ (name ∷ [])) (length names) [] ≡ name
behind [] name = refl
behind (x ∷ names) name = behind names name

-- two stems of one name are one
one_stem : (m : List ℕ) (stems : ℕ) → Tree m stems → (s t : ℕ) → s ≤ stems → t ≤ stems → spelt m stems s ≡ spelt m stems t → s ≡ t
one_stem m stems tr s t g h e = less (leb (suc s) t) refl
  where
    more : (v : Bool) → leb (suc t) s ≡ v → (s < t → ⊥) → s ≡ t
    more true q d = absurd (apart m stems tr.earlier tr.once t s (leb-true (suc t) s q) g (sym e))
    more false q d = omega (arith, leb-false (suc t) s q)

    less : (u : Bool) → leb (suc s) t ≡ u → s ≡ t
    less true q = absurd (apart m stems tr.earlier tr.once s t (leb-true (suc s) t q) h e)
    less false q = more (leb (suc t) s) refl (λ l. omega (arith, leb-false (suc s) t q))

module _ (mem : List ℕ) (stems : ℕ) (known : List Name) (tr : Tree mem stems) (m : Marks mem stems known) (stem : ℕ) (inside : stem ≤ stems) where
  abbrev name : Name
  name = spelt mem stems stem

  -- a known name's number is noted at its stem
  noted-at : number_in known name < length known → mark_at mem stem ≡ suc (number_in known name)
  noted-at h =
      let k : m.stem (number_in known name) ≡ stem =
      one_stem mem stems tr (m.stem (number_in known name)) stem (m.inside (number_in known name) h) inside
      (sym (m.spells (number_in known name) h) ∙ name_of known name h) in
      rw k at (m.marked (number_in known name) h)

  number-noted : (n : ℕ) → mark_at mem stem ≡ suc n → n ≡ number_in known name
  number-noted n e =
      let there : (n < length known) × (m.stem n ≡ stem) = m.only stem n e in
      let spells : get_or known n [] ≡ name = m.spells n there.0 ∙ ap (λ (s : ℕ). spelt mem stems s) there.1 in
      let z : suc n ≡ suc (number_in known name) = sym e ∙ noted-at (first known n there.0 spells) in omega arith
    where
      first : (known : List Name) (n : ℕ) → n < length known → get_or known n [] ≡ name → number_in known name < length known
      first known n h q = go (leb (suc (number_in known name)) (length known)) refl
        where
          go : (t : Bool) → leb (suc (number_in known name)) (length known) ≡ t → number_in known name < length known
          go true e = leb-true (suc (number_in known name)) (length known) e
          go false e = absurd (absent_at known name (omega (arith, leb-false (suc (number_in known name)) (length known) e, number_within known name)) n h q)

  pub marked_known : (n : ℕ) → mark_at mem stem ≡ suc n → Marked stems known mem name n
  marked_known n e =
      let is : n ≡ number_in known name = number-noted n e in
      let h : number_in known name < length known = omega (arith, (m.only stem n e).0) in
      record { is = is; tree = tr; marks = rw (noted_known known name h) m }

  module _ (none : mark_at mem stem ≡ 0) where
    absent : number_in known name ≡ length known
    absent = go (leb (suc (number_in known name)) (length known)) refl
      where
        go : (t : Bool) → leb (suc (number_in known name)) (length known) ≡ t → number_in known name ≡ length known
        go true e = let z : mark_at mem stem ≡ suc (number_in known name) = noted-at (leb-true (suc (number_in known name)) (length known) e) in absurd (omega arith)
        go false e = omega (arith, leb-false (suc (number_in known name)) (length known) e, number_within known name)

    abbrev stem' : ℕ → ℕ
    stem' n = cond (eqb n (length known)) stem (m.stem n)

    stem_last : stem' (length known) ≡ stem
    stem_last = rw (eq-eqb (length known) (length known) refl)

    stem_first : (n : ℕ) → n < length known → stem' n ≡ m.stem n
    stem_first n h = rw (ne_eqb n (length known) (λ e. omega arith))

    abbrev mem' : List ℕ
    mem' = set mem (196609 + stem) (suc (length known))

    here : mark_at mem' stem ≡ suc (length known)
    here = get_or-set_same mem (196609 + stem) (suc (length known)) 0 (omega (arith, tr.long, tr.few))

    elsewhere : (s : ℕ) → (s ≡ stem → ⊥) → mark_at mem' s ≡ mark_at mem s
    elsewhere s d = get_or-set_other mem (196609 + stem) (196609 + s) (suc (length known)) 0 (λ e. d (omega arith))

    spelt_same : (s : ℕ) → spelt mem' stems s ≡ spelt mem stems s
    spelt_same s = spelt_kept mem stems (196609 + stem) (suc (length known)) (omega (arith, tr.few)) stems s (omega arith)

    other_stem : (n : ℕ) → n < length known → m.stem n ≡ stem → ⊥
    other_stem n h e = let z : mark_at mem stem ≡ suc n = rw e at (m.marked n h) in omega arith

    more : length (known ++ (name ∷ [])) ≡ suc (length known)
    more = length-append known (name ∷ []) ∙ omega arith

    -- the earlier ones, and the last
    each : (P : ℕ → Type 0) → ((n : ℕ) → n < length known → P n) → P (length known) → (n : ℕ) → n < length (known ++ (name ∷ [])) → P n
    each P f g n h = go (eqb n (length known)) refl
      where
        go : (t : Bool) → eqb n (length known) ≡ t → P n
        go true e = rw (eqb-true n (length known) e) g
        go false e = let d : n ≡ length known → ⊥ = eqb-false n (length known) e in f n (omega (arith, more))

    only : (s n : ℕ) → mark_at mem' s ≡ suc n → (n < length (known ++ (name ∷ []))) × (stem' n ≡ s)
    only s n e = go (eqb s stem) refl
      where
        go : (t : Bool) → eqb s stem ≡ t → (n < length (known ++ (name ∷ []))) × (stem' n ≡ s)
        go true q =
            let w : s ≡ stem = eqb-true s stem q in
            let z : suc n ≡ suc (length known) = sym e ∙ ap (λ (x : ℕ). mark_at mem' x) w ∙ here in
            let y : n ≡ length known = omega arith in
            (omega (arith, more), ap (λ (x : ℕ). stem' x) y ∙ stem_last ∙ sym w)
        go false q =
            let there : (n < length known) × (m.stem n ≡ s) = m.only s n (sym (elsewhere s (eqb-false s stem q)) ∙ e) in
            (omega (arith, more, there.0), stem_first n there.0 ∙ there.1)

    pub marked_new : Marked stems known mem' name (length known)
    marked_new = record {
      is = sym absent;
      tree = tree_kept mem stems stem (suc (length known)) tr;
      marks = rw (noted_new known name absent) (record {
        stem = λ n. stem' n;
        inside = each _ (λ n h. rw (stem_first n h) (m.inside n h)) (rw stem_last inside);
        spells = each _
            (λ n h. rw (stem_first n h) (front known (name ∷ []) n h ∙ m.spells n h ∙ sym (spelt_same (m.stem n))))
            (rw stem_last (behind known name ∙ sym (spelt_same stem)));
        marked = each _
            (λ n h. rw (stem_first n h) (elsewhere (m.stem n) (other_stem n h) ∙ m.marked n h))
            (rw stem_last here);
        only = only;
      });
    }

module _ {mem : List ℕ} {stem count : ℕ} where
  pub mark_known : {noted : ℕ} → noted ≡ mark_at mem stem → 0 < noted
      → (stems : ℕ) (known : List Name) → Tree mem stems → stem ≤ stems → Marks mem stems known
      → length known ≡ count → Marked stems known mem (spelt mem stems stem) (noted - 1)
  mark_known {noted} p h stems known t i m l = marked_known mem stems known t m stem i (noted - 1) (omega arith)

  pub mark_new : mark_at mem stem ≤ 0 → {next : ℕ} → next ≡ count + 1
      → (stems : ℕ) (known : List Name) → Tree mem stems → stem ≤ stems → Marks mem stems known
      → length known ≡ count → Marked stems known (set mem (196609 + stem) next) (spelt mem stems stem) count
  mark_new h q stems known t i m l = rw (q, add-one count, ← l) (marked_new mem stems known t m stem i (omega arith))

-- marks stay where the tree grows
kept : (mem : List ℕ) (stems : ℕ) (known : List Name) (mem' : List ℕ) (stems' : ℕ)
    → Grown mem stems mem' stems' → Marks mem stems known → Marks mem' stems' known
kept mem stems known mem' stems' g m = record {
  stem = m.stem;
  inside = λ n h. omega (arith, m.inside n h, g.more);
  spells = λ n h. m.spells n h ∙ sym (g.kept (m.stem n) (m.inside n h));
  marked = λ n h. g.marks (m.stem n) ∙ m.marked n h;
  only = λ s n e. m.only s n (sym (g.marks s) ∙ e);
}

pub use_noted : {text mem : List ℕ} {stems name count : ℕ} {mem' mem'' : List ℕ} {stem stems' number : ℕ}
    → Entered text mem stems name mem' stem stems'
    → ((stems : ℕ) (known : List Name) → Tree mem' stems → stem ≤ stems → Marks mem' stems known
    → length known ≡ count → Marked stems known mem'' (spelt mem' stems stem) number)
    → (known : List Name) → Marks mem stems known → length known ≡ count → Used text stems name known mem'' number stems'
use_noted {text} {mem} {stems} {name} {count} {mem'} {mem''} {stem} {stems'} {number} e f known m l =
    let told : Marked stems' known mem'' (spelt mem' stems' stem) number =
    f stems' known e.grown.tree e.inside (kept mem stems known mem' stems' e.grown m) l in
    record {
      is = rw e.spells at told.is;
      tree = told.tree;
      marks = rw e.spells at told.marks;
      slowly = e.slowly;
    }
