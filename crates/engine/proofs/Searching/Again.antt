-- What stays while more is done, and what is there again when it is taken back.
use mathlib.Core.Path.{◌≡◌, refl, sym, ap, ◌∙◌}
use mathlib.Core.Bool.{Bool, true, false, cond}
use mathlib.Core.List.{List}
use Prim.Native.Nat.{ℕ, zero, suc, ◌+◌, ◌-◌, ◌/◌, ◌≤◌, ◌<◌}
use native.Mathlib.Decide.{dec_lt}
use native.Mathlib.Omega.{arith}
use lib.Dec.{ltb}
use lib.ListN.{length, get_or, set, length-set}
use lib.Seq.{get_or-set_same, get_or-set_other}
use Rattle.rules.specs.Machinery.Play.{Play}
use Rattle.rules.specs.Tableau.{Leaf}
use Rattle.rules.proofs.Unify.Tests.{never}
use Rattle.unification.specs.Places.{most_variables, most_leaves, value_places, value_end, literal_places, parent_places, next_places, step_places, number_places, count_place, trail_places, work_words, most_copies, copies_place, start_places}
use Rattle.unification.specs.State.{start_at, copies_of, count_of, trail_at, bound_at, words_at, term_of, Points, bindings_of, bindings_in}
use Rattle.unification.specs.Good.{LiteralStands, Entry, Held, Good, Undone}
use Rattle.index.specs.Places.{scanned_place, noted_place}
use Rattle.index.specs.Noting.{count_at}
use Rattle.tableaux.specs.Leaves.{leaves_from, questions_among}
use Rattle.tableaux.specs.Ready.{Noted, Ready, Stands, Later}
use Rattle.engine.specs.Searching.{Again, costing}
use Rattle.tableaux.specs.declared.tableau.Place.{Place}
use Rattle.unification.proofs.Bound.{entry_small, free_same, unbound, bindings_length}
use Rattle.tableaux.proofs.Leaves.{SameLeaves, leaves_same, questions_same}

-- how many literals are noted stays with the notes
pub count_kept : {m m' : List ℕ} {place : Place} → Later m m' place → count_at m' ≡ count_at m
count_kept later = later.notes noted_place (omega arith) (omega arith)

-- what stays from one moment to the next, and to the one after it
pub later_then : {m m' m'' : List ℕ} {place next : Place} → place.leaves ≤ next.leaves → place.steps ≤ next.steps → Later m m' place → Later m' m'' next → Later m m'' place
later_then leaves steps a b =
    record {
      more = omega (arith, a.more, b.more);
      trail = λ i l. b.trail i (omega (arith, a.more)) ∙ a.trail i l;
      bound = λ v s l. let same = a.bound v s l in b.bound v s (rw same l) ∙ same;
      copies = omega (arith, a.copies, b.copies);
      starts = λ c l. b.starts c (omega (arith, a.copies)) ∙ a.starts c l;
      literals = λ c l. b.literals c (omega arith) ∙ a.literals c l;
      parents = λ c l. b.parents c (omega arith) ∙ a.parents c l;
      nexts = λ c l. b.nexts c (omega arith) ∙ a.nexts c l;
      steps = λ i l. b.steps i (omega arith) ∙ a.steps i l;
      marks = λ v l. b.marks v l ∙ a.marks v l;
      notes = λ i l h. b.notes i l h ∙ a.notes i l h;
    }

pub later_none : (m : List ℕ) (place : Place) → Later m m place
later_none m place =
    record {
      more = omega arith;
      trail = λ i l. refl;
      bound = λ v s l. refl;
      copies = omega arith;
      starts = λ c l. refl;
      literals = λ c l. refl;
      parents = λ c l. refl;
      nexts = λ c l. refl;
      steps = λ i l. refl;
      marks = λ v l. refl;
      notes = λ i l h. refl;
    }

pub term_stays : (f m m' : List ℕ) (r : ℕ) → start_at m' (r / 256) ≡ start_at m (r / 256) → term_of f m' r ≡ term_of f m r
unfolding term_of words_at
term_stays f m m' r e = rw e

points_stay : (f m m' : List ℕ) (r n : ℕ) → copies_of m ≤ copies_of m' → start_at m' (r / 256) ≡ start_at m (r / 256) → Points f m r n → Points f m' r n
unfolding words_at
points_stay f m m' r n more e h = record { made = omega (arith, h.made); owing = rw e h.owing }

literal_stays : (f m m' : List ℕ) (r : ℕ) → copies_of m ≤ copies_of m' → start_at m' (r / 256) ≡ start_at m (r / 256) → LiteralStands f m r → LiteralStands f m' r
unfolding words_at
literal_stays f m m' r more e h = record { made = omega (arith, h.made); literals = h.literals; place = h.place; sound = rw e h.sound }

pub stands_later : {f m m' : List ℕ} {place : Place} {r : ℕ} → Later m m' place → LiteralStands f m r → LiteralStands f m' r
stands_later {f} {m} {m'} {place} {r} h s = literal_stays f m m' r h.copies (h.starts (r / 256) s.made) s

-- so many bindings, of which the words stay
module _ {f m : List ℕ} {count : ℕ} (held : Held f m count) (m' : List ℕ)
    (trail : (i : ℕ) → i < count → trail_at m' i ≡ trail_at m i)
    (stays : (v : ℕ) → v < most_variables → 0 < bound_at m v → bound_at m' v ≡ bound_at m v)
    (starts : (c : ℕ) → c < copies_of m → start_at m' c ≡ start_at m c) where
  pub bindings_stay : (n : ℕ) → n ≤ count → bindings_of f m' n ≡ bindings_of f m n
  unfolding bindings_of
  bindings_stay zero l = refl
  bindings_stay (suc n) l =
      let e : Entry f m (trail_at m n) = held.entries n (omega arith) in
      let t : trail_at m' n ≡ trail_at m n = trail n (omega arith) in
      let b : bound_at m' (trail_at m n) ≡ bound_at m (trail_at m n) = stays _ (entry_small held.copies e) e.bound in
      rw (t, b, term_stays f m m' (bound_at m (trail_at m n) - 1) (starts _ e.points.made), bindings_stay n (omega arith))

  module _ (size : length m' ≡ work_words) (copies : copies_of m' ≡ copies_of m) (free : (v : ℕ) → v < most_variables → bound_at m v ≡ 0 → bound_at m' v ≡ 0) where
    all_stay : (v : ℕ) → v < most_variables → bound_at m' v ≡ bound_at m v
    all_stay v s = go (dec_lt 0 (bound_at m v))
      where
        go : Dec (0 < bound_at m v) → bound_at m' v ≡ bound_at m v
        go (yes l) = stays v s l
        go (no n) = let z : bound_at m v ≡ 0 = omega arith in free v s z ∙ sym z

    pub held_again : Held f m' count
    held_again =
        record {
          size = size;
          copies = omega (arith, copies, held.copies);
          starts = λ c l. let k : c < copies_of m = omega (arith, copies) in rw (starts c k) (held.starts c k);
          entries = λ i l.
              let e : Entry f m (trail_at m i) = held.entries i l in
              let b : bound_at m' (trail_at m i) ≡ bound_at m (trail_at m i) = all_stay _ (entry_small held.copies e) in
              rw (trail i l)
              (record {
                copy = omega (arith, copies, e.copy);
                bound = rw b e.bound;
                points = rw b (points_stay f m m' (bound_at m (trail_at m i) - 1) 1 (omega (arith, copies)) (starts _ e.points.made) e.points);
              });
          listed = λ v s l. rw (bindings_stay count (omega arith)) (held.listed v s (rw (all_stay v s) at l));
          room = rw (free_same m m' most_variables all_stay) held.room;
          sound = rw (bindings_stay count (omega arith)) held.sound;
        }

-- the open leaves
module _ {f m m' : List ℕ} {place : Place} (noted : Noted f m place.leaves) (later : Later m m' place) where
  pub same_leaves : SameLeaves m m' place.leaves
  same_leaves =
      record {
        literal = later.literals;
        parent = later.parents;
        next = later.nexts;
        start = λ c l. later.starts _ (noted.stands c l).made;
      }

  pub open_stays : (head : ℕ) → leaves_from f m' place.leaves head ≡ leaves_from f m place.leaves head
  open_stays head = leaves_same f same_leaves place.leaves head (omega arith)

module _ {f m m' : List ℕ} {place : Place} (ready : Ready f m place) (again : Again f m m' place) where
  pub ready_again : Ready f m' place
  ready_again =
      let later = again.later in
      let same = open_stays ready.noted later place.head in
      record {
        good = again.good;
        noted =
            record {
              stands = λ c l. rw (later.literals c l) (stands_later later (ready.noted.stands c l));
              up = λ c l. rw (later.parents c l) (ready.noted.up c l);
              right = λ c l. rw (later.nexts c l) (ready.noted.right c l);
            };
        head = ready.head;
        begun = omega (arith, again.copies, ready.begun);
        room = omega (arith, again.copies, ready.room);
        taken = ap (λ (l : List Leaf). place.steps + length l) same ∙ ready.taken;
      }

  pub bound_again : bindings_in f m' ≡ bindings_in f m
  bound_again =
      let later = again.later in
      ap (bindings_of f m') again.count ∙ bindings_stay ready.good m' later.trail later.bound later.starts (count_of m) (omega arith)

  pub stands_again : {question : ℕ} (p : Play) → Stands f m question place p.tableau p.bindings → Stands f m' question place p.tableau p.bindings
  stands_again {question} p stands =
      let later = again.later in
      record {
        leaves = stands.leaves ∙ sym (open_stays ready.noted later place.head);
        bindings = stands.bindings ∙ sym bound_again;
        extensions = stands.extensions ∙ sym again.copies;
        questions =
            stands.questions
            ∙ sym (questions_same m m' question (copies_of m) later.starts)
            ∙ ap (questions_among m' question) (sym again.copies);
      }

pub again_none : {f m : List ℕ} {place : Place} → Good f m → Again f m m place
again_none {f} {m} {place} good = record { good = good; later = later_none m place; count = refl; copies = refl }

pub again_then : {f m m' m'' : List ℕ} {place : Place} → Again f m m' place → Again f m' m'' place → Again f m m'' place
again_then a b =
    record {
      good = b.good;
      later = later_then (omega arith) (omega arith) a.later b.later;
      count = b.count ∙ a.count;
      copies = b.copies ∙ a.copies;
    }

-- the bindings made since are taken back, and the copies
module _ {f m m₂ m₃ : List ℕ} {place : Place} (ready : Ready f m place) (later : Later m m₂ place) (undone : Undone f m₂ m₃ (count_of m)) where
  abbrev m₄ : List ℕ
  m₄ = set m₃ copies_place (copies_of m)

  good : Good f m
  good = ready.good

  few : place.leaves ≤ most_leaves
  few = omega (arith, ready.room, good.copies)

  few_steps : place.steps ≤ most_leaves
  few_steps = omega (arith, few, ready.taken)

  counted : count_of m₃ ≡ count_of m
  counted = sym (bindings_length f m₃ (count_of m₃)) ∙ ap length undone.bindings ∙ bindings_length f m₂ (count_of m)

  other : (i : ℕ) → (i ≡ copies_place → ⊥) → get_or m₄ i 0 ≡ get_or m₃ i 0
  other i d = get_or-set_other m₃ copies_place i (copies_of m) 0 d

  copied : copies_of m₄ ≡ copies_of m
  copied = get_or-set_same m₃ copies_place (copies_of m) 0 (omega (arith, undone.good.size))

  same-bound : bindings_in f m₃ ≡ bindings_in f m
  same-bound = undone.bindings ∙ bindings_stay good m₂ later.trail later.bound later.starts (count_of m) (omega arith)

  stays : (v : ℕ) → v < most_variables → 0 < bound_at m v → bound_at m₄ v ≡ bound_at m v
  stays v s l = other (value_places + v) (λ e. omega arith) ∙ go (dec_lt 0 (bound_at m₃ v))
    where
      go : Dec (0 < bound_at m₃ v) → bound_at m₃ v ≡ bound_at m v
      go (yes k) = undone.stays v s k ∙ later.bound v s l
      go (no n) = absurd (never (good.listed v s l) (rw same-bound at (unbound undone.good v (omega arith))))

  free : (v : ℕ) → v < most_variables → bound_at m v ≡ 0 → bound_at m₄ v ≡ 0
  free v s z = other (value_places + v) (λ e. omega arith) ∙ go (dec_lt 0 (bound_at m₃ v))
    where
      go : Dec (0 < bound_at m₃ v) → bound_at m₃ v ≡ 0
      go (yes k) = absurd (never (rw same-bound at (undone.good.listed v s k)) (unbound good v z))
      go (no n) = omega arith

  trail : (i : ℕ) → i < count_of m → trail_at m₄ i ≡ trail_at m i
  trail i l =
      let n : count_of m ≤ most_variables = omega (arith, good.room) in
      other (trail_places + i) (λ e. omega arith) ∙ undone.trail.words (trail_places + i) (omega arith) (omega arith) ∙ later.trail i l

  starts : (c : ℕ) → c < copies_of m → start_at m₄ c ≡ start_at m c
  starts c l =
      let k : copies_of m ≤ most_copies = good.copies in
      other (start_places + c) (λ e. omega arith) ∙ undone.copies.words (start_places + c) (omega arith) (omega arith) ∙ later.starts c l

  leaf-word : (i : ℕ) → value_end ≤ i → i < work_words → get_or m₄ i 0 ≡ get_or m₂ i 0
  leaf-word i l k = other i (λ e. omega arith) ∙ undone.leaves.words i l k

  pub taken_back : Again f m m₄ place
  taken_back =
      let l = few in
      let s = few_steps in
      let n : count_of m₄ ≡ count_of m = other count_place (λ e. omega arith) ∙ counted in
      record {
        good = rw n (held_again good m₄ trail stays starts (length-set m₃ copies_place (copies_of m) ∙ undone.good.size) copied free);
        later =
            record {
              more = omega (arith, n);
              trail = trail;
              bound = stays;
              copies = omega (arith, copied);
              starts = starts;
              literals = λ c h. leaf-word (literal_places + c) (omega arith) (omega arith) ∙ later.literals c h;
              parents = λ c h. leaf-word (parent_places + c) (omega arith) (omega arith) ∙ later.parents c h;
              nexts = λ c h. leaf-word (next_places + c) (omega arith) (omega arith) ∙ later.nexts c h;
              steps = λ i h. leaf-word (step_places + i) (omega arith) (omega arith) ∙ later.steps i h;
              marks = λ v h. leaf-word (number_places + v) (omega arith) (omega arith) ∙ later.marks v h;
              notes = λ i h k. leaf-word i (omega arith) k ∙ later.notes i h k;
            };
        count = n;
        copies = copied;
      }

-- what the scans have cost is counted, and nothing else changes
module _ {f m : List ℕ} {place : Place} (ready : Ready f m place) where
  noted-cost : (n : ℕ) → Again f m (set m scanned_place n) place
  noted-cost n =
      let held : Good f m = ready.good in
      let k : copies_of m ≤ most_copies = held.copies in
      let c : count_of (set m scanned_place n) ≡ count_of m = apart count_place (λ e. omega arith) in
      record {
        good =
            rw c
            (held_again held (set m scanned_place n)
            (λ i l. apart (trail_places + i) (λ e. omega arith))
            (λ v s l. apart (value_places + v) (λ e. omega arith))
            (λ i l. apart (0 + i) (λ e. omega arith))
            (length-set m scanned_place n ∙ held.size)
            (apart copies_place (λ e. omega arith))
            (λ v s z. apart (value_places + v) (λ e. omega arith) ∙ z));
        later =
            record {
              more = omega (arith, c);
              trail = λ i l. apart (trail_places + i) (λ e. omega arith);
              bound = λ v s l. apart (value_places + v) (λ e. omega arith);
              copies = omega (arith, apart copies_place (λ e. omega arith));
              starts = λ i l. apart (0 + i) (λ e. omega arith);
              literals = λ i l. apart (literal_places + i) (λ e. omega arith);
              parents = λ i l. apart (parent_places + i) (λ e. omega arith);
              nexts = λ i l. apart (next_places + i) (λ e. omega arith);
              steps = λ i l. apart (step_places + i) (λ e. omega arith);
              marks = λ v l. apart (number_places + v) (λ e. omega arith);
              notes = λ i l h. apart i (λ e. omega arith);
            };
        count = c;
        copies = apart copies_place (λ e. omega arith);
      }
    where
      apart : (i : ℕ) → (i ≡ scanned_place → ⊥) → get_or (set m scanned_place n) i 0 ≡ get_or m i 0
      apart i d = get_or-set_other m scanned_place i n 0 d

  pub counted_again : (limit passed : ℕ) {m₁ : List ℕ} → m₁ ≡ costing m limit passed → Again f m m₁ place
  unfolding costing
  counted_again limit passed e = rw e (go (ltb (get_or m scanned_place 0) limit))
    where
      go : (b : Bool) → Again f m (cond b (set m scanned_place (get_or m scanned_place 0 + passed + 16)) m) place
      go true = noted-cost (get_or m scanned_place 0 + passed + 16)
      go false = again_none ready.good
