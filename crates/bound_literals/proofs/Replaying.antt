-- Steps taken again: where that begins, how it goes on and where it ends, one law for each, with premises as the code has them.
use borrow.Author.Tests.{lt-ltb, le-ltb, ltb-true, ltb-false}
use lib.Dec.{ltb}
use lib.ListN.{length, take, drop, get_or, get_elem?, length-append, drop_of_length-le}
use mathlib.Core.Bool.{true}
use mathlib.Core.List.{List, [], ◌∷◌, ◌++◌, append_assoc, append-nil}
use mathlib.Core.Option.{none, some}
use mathlib.Core.Path.{◌≡◌, refl, sym, ◌∙◌, ap}
use native.Mathlib.Omega.{arith}
use Prim.Native.Nat.{ℕ, zero, suc, ◌+◌, ◌≤◌, ◌<◌}
use Rattle.words.specs.declared.Step.{Step}
use Rattle.words.specs.declared.Step.TheVariants.{Reduction, Extension, Restart, Malformed}
use Rattle.table.specs.Syntax.{Clause, Table, all_clauses}
use Rattle.table.specs.Decode.{clause_of}
use Rattle.table.specs.File.{judge, table_in}
use Rattle.table.proofs.Terms.{from_place}
use Rattle.rules.specs.Setting.{profile_of, read_steps}
use Rattle.rules.specs.Machinery.Play.{Play, begin, Performed, perform}
use Rattle.rules.proofs.Unify.Tests.{decide}
use Rattle.unification.specs.State.{start_at, copies_of, own_words}
use Rattle.tableaux.specs.Ready.{Ready, NotesKept, Later, Begun}
use Rattle.tableaux.specs.declared.tableau.Place.{Place}
use Rattle.index.proofs.Linking.{indexed_same}
use Rattle.engine.specs.Ended.{setting_for}
use Rattle.engine.specs.Checking.{NotedFor, Copies, Moved, PlayAt, Says, read_for, Checked}
use Rattle.engine.specs.declared.Conditions.{Conditions}
use Rattle.std.specs.Prelude.{Result, Ok, Err}
use Rattle.engine.specs.declared.check.Refusal.{Refusal}
use Rattle.engine.specs.declared.check.Refusal.TheVariants as refusal
use Rattle.engine.proofs.Checker.Run.{begun_stands}
use Rattle.hukolearu.proofs.DoorLaws.{question_stands}
use Rattle.bound_literals.specs.Bound.{onto, play_from, copied_by, copied, copies}
use Rattle.bound_literals.specs.Held.{clause_held, play_after, Taken}

-- an element by its place in a list with one more at the end
module _ {A : Type 0} where
  before_last : (xs : List A) (a : A) (k : ℕ) → k < length xs → get_elem? (xs ++ (a ∷ [])) k ≡ get_elem? xs k
  before_last [] a k h = absurd (omega arith)
  before_last (x ∷ xs) a zero h = refl
  before_last (x ∷ xs) a (suc k) h = before_last xs a k (omega arith)

  at_last : (xs : List A) (a : A) → get_elem? (xs ++ (a ∷ [])) (length xs) ≡ some a
  at_last [] a = refl
  at_last (x ∷ xs) a = at_last xs a

  after_last : (xs : List A) (a : A) (k : ℕ) → length xs < k → get_elem? (xs ++ (a ∷ [])) k ≡ none
  after_last [] a zero h = absurd (omega arith)
  after_last [] a (suc k) h = refl
  after_last (x ∷ xs) a zero h = absurd (omega arith)
  after_last (x ∷ xs) a (suc k) h = after_last xs a k (omega arith)

  one-there : (xs : List A) (i : ℕ) {a : A} → get_elem? xs i ≡ some a → take 1 (drop i xs) ≡ a ∷ []
  one-there [] i e = let z : ◌≡◌ {A = ℕ} 0 1 = cc in absurd (omega arith)
  one-there (x ∷ xs) zero e = ap (◌∷ []) cc
  one-there (x ∷ xs) (suc i) e = one-there xs i e

copied_both : (t : Table) (a b : List Step) → copied t (a ++ b) ≡ copied t a ++ copied t b
unfolding copied
copied_both t [] b = refl
copied_both t (s ∷ a) b = ap (copied_by t s ++◌) (copied_both t a b) ∙ sym (append_assoc (copied_by t s) (copied t a) (copied t b))

copied_more : (t : Table) (a : List Step) (s : Step) → copies t (a ++ (s ∷ [])) ≡ copies t a ++ copied_by t s
unfolding copied
copied_more t a s = ap (t.question ∷◌) (copied_both t a (s ∷ []) ∙ ap (copied t a ++◌) (append-nil (copied_by t s)))

-- the clauses of the copies are these, in order
pub record Holds (f m : List ℕ) (cs : List Clause) : Type 0 where
  pub count : length cs ≡ copies_of m
  pub clauses : (copy : ℕ) → get_elem? cs copy ≡ clause_held f m copy

module _ (f m : List ℕ) where
  held_there : (copy : ℕ) → copy < copies_of m → clause_held f m copy ≡ some (clause_of (own_words f (start_at m copy)))
  unfolding clause_held
  held_there copy h = rw (lt-ltb copy (copies_of m) h)

  held-not : (copy : ℕ) → copies_of m ≤ copy → clause_held f m copy ≡ none
  unfolding clause_held
  held-not copy h = rw (le-ltb copy (copies_of m) h)

module _ {f m m' : List ℕ} {place : Place} (later : Later m m' place) {cs : List Clause} (h : Holds f m cs) where
  kept : (copy : ℕ) → copy < copies_of m → get_elem? cs copy ≡ some (clause_of (own_words f (start_at m' copy)))
  kept copy l = h.clauses copy ∙ held_there f m copy l ∙ ap (λ (p : ℕ). some (clause_of (own_words f p))) (sym (later.starts copy l))

  no_more : copies_of m' ≡ copies_of m → Holds f m' cs
  no_more e = record {
    count = h.count ∙ sym e;
    clauses = λ copy. decide (ltb copy (copies_of m))
        (λ b. let l = ltb-true copy (copies_of m) b in kept copy l ∙ sym (held_there f m' copy (omega arith)))
        (λ b. let l = ltb-false copy (copies_of m) b in h.clauses copy ∙ held-not f m copy l ∙ sym (held-not f m' copy (omega arith)));
  }

  one_more : copies_of m' ≡ copies_of m + 1 → {c : Clause} → c ≡ clause_of (own_words f (start_at m' (copies_of m))) → Holds f m' (cs ++ (c ∷ []))
  one_more e {c} same = record {
    count = length-append cs (c ∷ []) ∙ omega (arith, h.count);
    clauses = λ copy.
        decide (ltb copy (copies_of m))
        (λ b. let l = ltb-true copy (copies_of m) b in before_last cs c copy (omega (arith, h.count)) ∙ kept copy l ∙ sym (held_there f m' copy (omega arith)))
        (λ b.
        let l = ltb-false copy (copies_of m) b in
        decide (ltb (copies_of m) copy)
        (λ d. let k = ltb-true (copies_of m) copy d in after_last cs c copy (omega (arith, h.count)) ∙ sym (held-not f m' copy (omega arith)))
        (λ d.
        let k = ltb-false (copies_of m) copy d in
        let z : copy ≡ copies_of m = omega arith in
        rw z (ap (get_elem? (cs ++ (c ∷ []))) (sym h.count) ∙ at_last cs c ∙ ap some same ∙ sym (held_there f m' (copies_of m) (omega arith)))));
  }

  -- by the step that was taken
  holds_on : (s : Step) → Copies f m m' s → Holds f m' (cs ++ copied_by (table_in f) s)
  unfolding copied_by
  holds_on (Reduction height) k = rw (append-nil cs) (no_more k)
  holds_on (Extension i j) k = rw (one-there (all_clauses (table_in f)) i k.1) (one_more k.0 refl)
  holds_on Restart k = one_more k.0 k.1
  holds_on Malformed k = absurd k

-- the steps before an index are taken
pub record Replaying (f m : List ℕ) (conditions : Conditions) (steps : List ℕ) (place : Place) (i : ℕ) : Type 0 where
  pub ready : Ready f m place
  pub noted : NotedFor true f m
  pub play : Play
  pub stands : PlayAt f m place play
  pub same : play_after f conditions steps ≡ play_from (setting_for f conditions) play (read_steps (profile_of conditions.restarts) (drop i steps))
  pub done : List Step
  pub parts : done ++ read_steps (profile_of conditions.restarts) (drop i steps) ≡ read_steps (profile_of conditions.restarts) steps
  pub holds : Holds f m (copies (table_in f) done)

module _ (f : List ℕ) (accepts : (judge f).status ≡ 0) {m : List ℕ} {question : ℕ} {place : Place} (e : question ≡ (judge f).question) (b : Begun f m question place) where
  start-holds : Holds f m (copies (table_in f) [])
  unfolding copied
  start-holds = record { count = sym b.copies; clauses = go }
    where
      go : (copy : ℕ) → get_elem? ((table_in f).question ∷ []) copy ≡ clause_held f m copy
      go zero =
          ap some (sym (question_stands f accepts e).1 ∙ ap (λ (p : ℕ). clause_of (own_words f p)) (sym b.start))
          ∙ sym (held_there f m 0 (omega (arith, b.copies)))
      go (suc copy) = sym (held-not f m (suc copy) (omega (arith, b.copies)))

  pub replay_begin : {conditions : Conditions} {m₀ : List ℕ} → NotedFor true f m₀ → NotesKept m₀ m → (steps : List ℕ) → Replaying f m conditions steps place 0
  replay_begin noted kept steps = record {
    ready = b.ready;
    noted = λ some. indexed_same b.ready.good.size kept (noted some);
    play = begin (table_in f);
    stands = begun_stands f accepts e b;
    same = refl;
    done = [];
    parts = refl;
    holds = start-holds;
  }

module _ {f m : List ℕ} {conditions : Conditions} {steps : List ℕ} {place : Place} {i : ℕ} (g : Replaying f m conditions steps place i) where
  module _ (h : i < length steps) where
    abbrev outcome : Performed
    outcome = perform (setting_for f conditions) g.play (read_for conditions (get_or steps i 0))

    same_step : play_after f conditions steps ≡ onto outcome (λ q. play_from (setting_for f conditions) q (read_steps (profile_of conditions.restarts) (drop (i + 1) steps)))
    unfolding play_from
    same_step = g.same ∙ rw (from_place steps i h)

    pub replay_on : {m' : List ℕ} {j : Result Place Refusal} → Checked f m m' conditions place (get_or steps i 0) j → {next : Place} → j ≡ Ok next → Replaying f m' conditions steps next (i + 1)
    unfolding onto
    replay_on {m'} {j} k {next} e =
        let here : Checked f m m' conditions place (get_or steps i 0) (Ok next) = rw e at k in
        let moved : Moved f m m' (read_for conditions (get_or steps i 0)) place next = here.moves in
        let goes = here.says g.play g.stands in
        record {
          ready = moved.ready;
          noted = λ some. indexed_same moved.ready.good.size moved.later.notes (g.noted some);
          play = goes.0;
          stands = goes.2;
          same = same_step ∙ rw goes.1;
          done = g.done ++ (read_for conditions (get_or steps i 0) ∷ []);
          parts =
              append_assoc g.done _ _
              ∙ ap (λ (l : List ℕ). g.done ++ read_steps (profile_of conditions.restarts) l) (sym (from_place steps i h))
              ∙ g.parts;
          holds = rw (copied_more (table_in f) g.done (read_for conditions (get_or steps i 0))) (holds_on moved.later g.holds (read_for conditions (get_or steps i 0)) moved.copies);
        }

    refused : (m' : List ℕ) (j : Result Place Refusal) → Says f m' (read_for conditions (get_or steps i 0)) j outcome → ((next : Place) → j ≡ Ok next → ⊥) → play_after f conditions steps ≡ none
    unfolding onto
    refused m' (Ok next) k n = absurd (n next refl)
    refused m' (Err refusal.Malformed) k n = same_step ∙ rw k.0
    refused m' (Err refusal.NotAllowed) k n = same_step ∙ rw k.0
    refused m' (Err refusal.Clashes) k n = same_step ∙ rw k
    refused m' (Err refusal.Circular) k n = same_step ∙ rw k
    refused m' (Err refusal.LeavesOpen) k n = absurd k

    pub replay_refused : {m' : List ℕ} (j : Result Place Refusal) → Checked f m m' conditions place (get_or steps i 0) j → ((next : Place) → j ≡ Ok next → ⊥) → play_after f conditions steps ≡ none
    replay_refused {m'} j k n = refused m' j (k.says g.play g.stands) n

  pub replay_done : length steps ≤ i → Taken f m conditions steps
  unfolding play_from
  replay_done h =
      let over : drop i steps ≡ [] = drop_of_length-le steps h in
      let all : g.done ≡ read_steps (profile_of conditions.restarts) steps = sym (append-nil g.done) ∙ ap (λ (l : List ℕ). g.done ++ read_steps (profile_of conditions.restarts) l) (sym over) ∙ g.parts in
      record {
        play = g.play;
        comes = g.same ∙ ap (λ (l : List ℕ). play_from (setting_for f conditions) g.play (read_steps (profile_of conditions.restarts) l)) over;
        good = g.ready.good;
        bindings = g.stands.bindings;
        clauses = λ copy. ap (λ (ss : List Step). get_elem? (copies (table_in f) ss) copy) (sym all) ∙ g.holds.clauses copy;
      }
