-- Copies that say the same: the outcomes, one law for each, with premises as the code has them.
use borrow.Author.Tests.{eq-eqb, ne_eqb, eqb-true, eqb-false, not-true, not-false}
use lib.Dec.{eqb}
use lib.ListN.{length, drop, get_or, set, length-set, drop_of_length-le}
use lib.Seq.{get_or-set_same, get_or-set_other}
use mathlib.Core.Bool.{Bool, true, false, cond, not, ◌&&◌}
use mathlib.Core.List.{List, [], ◌∷◌, ◌++◌, map, map-append}
use mathlib.Core.Path.{◌≡◌, refl, sym, ◌∙◌, ap, ap₂}
use native.Mathlib.Numerals.{add-one}
use native.Mathlib.Omega.{arith}
use Prim.Native.Nat.{ℕ, zero, suc, ◌+◌, ◌*◌, ◌-◌, ◌≤◌, ◌<◌}
use Rattle.words.specs.Fields.{kind_of, symbol_of, arity_of, following_of}
use Rattle.table.specs.Syntax.{app, under, unders, Literal, literal_under}
use Rattle.table.specs.Decode.{literal_of, terms_from, literals_from, clause_of}
use Rattle.table.proofs.Decoding.{literals_literal, literals_other}
use Rattle.rules.specs.Substitution.{Variable, Substitution}
use Rattle.rules.specs.Machinery.Unify.{solution, made, clash, circle, unify}
use Rattle.rules.specs.Tableau.{fresh, copy_of, atom}
use Rattle.rules.specs.Answer.{positive, disjunct, same_literal, same_disjunct, seen_by, firsts_after_by, firsts_by}
use Rattle.rules.proofs.Firsts.{seen_with, seen_other, firsts_seen, firsts_new}
use Rattle.rules.proofs.Sameness.{literal_equal, literal_self, disjuncts_told}
use Rattle.rules.proofs.Unify.{unify_answers}
use Rattle.rules.proofs.Unify.Outcome.{Answers}
use Rattle.rules.proofs.Unify.Solution.{solution_satisfies}
use Rattle.rules.proofs.Unify.Tests.{decide, never}
use Rattle.unification.specs.Places.{most_references, value_end, kept_places, count_place, work_words, most_copies, copies_place}
use Rattle.unification.specs.State.{start_at, copies_of, count_of, own_words, literal_at_reference, bindings_of, bindings_in}
use Rattle.unification.specs.Good.{word_at, Inside, Same, Good, Alike, Outcome, Met, Undone}
use Rattle.unification.specs.declared.unify.Unmet.{Unmet}
use Rattle.unification.specs.declared.unify.Unmet.TheVariants.{Clash, Circle}
use Rattle.std.specs.Prelude.{Result, Ok, Err}
use Rattle.unification.proofs.Push.{same_none, same_then}
use Rattle.tableaux.specs.Leaves.{questions_among}
use Rattle.answers.specs.Writing.{resolved, kept_at, kept_among, disjunct_at, disjuncts_kept}
use Rattle.answers.specs.Repeats.{said_at, Still, Compared, Twins, KeptOf, disjuncts_among, disjuncts_held, said_before, Next, Weighed, Chose}
use Rattle.answers.proofs.CopyWords.{own_words_lem, own_drop, Reached, copy_inside, copy_count, copy_reached, offset_inside, offset_small, offset_reached, offset_word, offset_literal, offset_says}
use Rattle.answers.proofs.KeptItems.{good_kept, bound_kept}
use Rattle.tableaux.proofs.Leaves.{questions_same}
use Rattle.answers.proofs.Questions.{another_there, another_other}

-- ATOMS
-- two literals say the same where their atoms are equal
said_equal : (σ : Substitution) (l m : Literal Variable) → under σ (atom l) ≡ under σ (atom m) → literal_under σ (positive l) ≡ literal_under σ (positive m)
unfolding under atom literal_under positive
said_equal σ l m e =
    let p : l.predicate ≡ m.predicate = cc in
    let ts : unders σ l.arguments ≡ unders σ m.arguments = cc in
    λ i. record { negative = false; predicate = p i; arguments = ts i }

equal_said : (σ : Substitution) (l m : Literal Variable) → literal_under σ (positive l) ≡ literal_under σ (positive m) → under σ (atom l) ≡ under σ (atom m)
unfolding under atom literal_under positive
equal_said σ l m e = ap (λ (k : Literal Variable). app k.predicate k.arguments) e

not_so : (b : Bool) → (b ≡ true → ⊥) → false ≡ b
not_so true n = absurd (n refl)
not_so false n = refl

bindings_length : (f m : List ℕ) (n : ℕ) → length (bindings_of f m n) ≡ n
unfolding bindings_of
bindings_length f m zero = refl
bindings_length f m (suc n) = ap suc (bindings_length f m n)

module _ {f m : List ℕ} {l r : ℕ} (h : Good f m) (a : Alike f m l r) {m₁ m' : List ℕ} {met : Result (Unit {0}) Unmet}
    (q : Met f m m₁ met (unify (bindings_in f m) (atom (literal_at_reference f m l)) (atom (literal_at_reference f m r)))) (u : Undone f m₁ m' (count_of m)) where
  abbrev here : Literal Variable
  here = literal_at_reference f m l

  abbrev there : Literal Variable
  there = literal_at_reference f m r

  still : Still f m m'
  still = record {
    good = u.good;
    bindings = u.bindings ∙ q.grown.older (count_of m) (omega arith);
    copies = same_then q.grown.kept.copies u.copies;
    leaves = same_then q.grown.kept.leaves u.leaves;
  }

  answers : Answers (bindings_in f m) (λ σ. under σ (atom here) ≡ under σ (atom there)) (unify (bindings_in f m) (atom here) (atom there))
  answers = unify_answers (bindings_in f m) h.sound (atom here) (atom there)

  equation : same_literal (said_at f m l) (said_at f m r) ≡ true → under (resolved f m) (atom here) ≡ under (resolved f m) (atom there)
  equation e = equal_said (resolved f m) here there (literal_equal (said_at f m l) (said_at f m r) e)

  not_made : (e : Unmet) → met ≡ Err e → same_literal (said_at f m l) (said_at f m r) ≡ true → ⊥
  not_made Clash e s =
      answers.clashes (rw e at q.outcome) (solution (bindings_in f m)) (solution_satisfies (bindings_in f m) h.sound) (equation s)
  not_made Circle e s =
      answers.circles (rw e at q.outcome) (solution (bindings_in f m)) (solution_satisfies (bindings_in f m) h.sound) (equation s)

  -- they cannot be made equal
  pub atoms_apart : {e : Unmet} → met ≡ Err e → Compared f m m' false (same_literal (said_at f m l) (said_at f m r))
  atoms_apart {e} is = record { still = still; outcome = not_so _ (not_made e is) }

  -- something was bound to make them equal
  pub atoms_bound : met ≡ Ok tt → (count_of m₁ ≡ count_of m → ⊥) → Compared f m m' false (same_literal (said_at f m l) (said_at f m r))
  atoms_bound e n =
      let o : unify (bindings_in f m) (atom here) (atom there) ≡ made (bindings_in f m₁) = rw e at q.outcome in
      record {
        still = still;
        outcome = not_so _ (λ s.
            let z = sym o ∙ answers.unchanged (equation s) in
            let same : bindings_in f m₁ ≡ bindings_in f m = cc in
            n (sym (bindings_length f m₁ (count_of m₁)) ∙ ap length same ∙ bindings_length f m (count_of m)));
      }

  -- nothing was
  pub atoms_same : met ≡ Ok tt → count_of m₁ ≡ count_of m → Compared f m m' true (same_literal (said_at f m l) (said_at f m r))
  atoms_same e n =
      let o : unify (bindings_in f m) (atom here) (atom there) ≡ made (bindings_in f m₁) = rw e at q.outcome in
      let same : bindings_in f m₁ ≡ bindings_in f m = ap (bindings_of f m₁) n ∙ q.grown.older (count_of m) (omega arith) in
      let s = (answers.solutions (o ∙ ap made same) (solution (bindings_in f m))).0 (solution_satisfies (bindings_in f m) h.sound) in
      let z : said_at f m l ≡ said_at f m r = said_equal (resolved f m) here there s.1 in
      record { still = still; outcome = sym (ap (same_literal (said_at f m l)) (sym z) ∙ literal_self (said_at f m l)) }

-- WHAT STAYS
pub still_none : {f m : List ℕ} → Good f m → Still f m m
still_none h = record { good = h; bindings = refl; copies = same_none; leaves = same_none }

pub still_then : {f m m' m'' : List ℕ} → Still f m m' → Still f m' m'' → Still f m m''
still_then a b =
    record { good = b.good; bindings = b.bindings ∙ a.bindings; copies = same_then a.copies b.copies; leaves = same_then a.leaves b.leaves }

-- what is read of so many copies is the same
record SameRead (f m m' : List ℕ) (n : ℕ) : Type 0 where
  solved : resolved f m' ≡ resolved f m
  starts : (k : ℕ) → k < n → start_at m' k ≡ start_at m k
  kept : (k : ℕ) → k < n → kept_at m' k ≡ kept_at m k

module _ {f m m' : List ℕ} (s : Still f m m') where
  still-start : {k : ℕ} → k < most_copies → start_at m' k ≡ start_at m k
  still-start {k} l = s.copies.words (0 + k) (omega arith) (omega arith)

  still-copies : copies_of m' ≡ copies_of m
  still-copies = s.copies.words copies_place (omega arith) (omega arith)

  still_kept : {k : ℕ} → k < most_copies → kept_at m' k ≡ kept_at m k
  still_kept {k} l = s.leaves.words (kept_places + k) (omega arith) (omega arith)

  still-solved : resolved f m' ≡ resolved f m
  still-solved = ap solution s.bindings

  still-says : {k : ℕ} → k < most_copies → disjunct_at f m' k ≡ disjunct_at f m k
  still-says l = rw (still-solved, still-start l)

module _ (f m m' : List ℕ) where
  fewer : {n : ℕ} → SameRead f m m' (suc n) → SameRead f m m' n
  fewer s = record { solved = s.solved; starts = λ k l. s.starts k (omega arith); kept = λ k l. s.kept k (omega arith) }

  kept_read : (n : ℕ) → SameRead f m m' n → map (disjunct_at f m') (kept_among m' n) ≡ map (disjunct_at f m) (kept_among m n)
  unfolding kept_among
  kept_read zero s = refl
  kept_read (suc n) s = go (eqb (kept_at m n) 0) (ap (λ (k : ℕ). eqb k 0) (s.kept n (omega arith))) (kept_read n (fewer s))
    where
      says : disjunct_at f m' n ≡ disjunct_at f m n
      says = rw (s.solved, s.starts n (omega arith))

      go : (b : Bool) {c : Bool} → c ≡ b → map (disjunct_at f m') (kept_among m' n) ≡ map (disjunct_at f m) (kept_among m n)
          → map (disjunct_at f m') (kept_among m' n ++ cond c [] (n ∷ [])) ≡ map (disjunct_at f m) (kept_among m n ++ cond b [] (n ∷ []))
      go true e h = rw e (map-append (disjunct_at f m') (kept_among m' n) [] ∙ ap (◌++ []) h ∙ sym (map-append (disjunct_at f m) (kept_among m n) []))
      go false e h =
          rw e
          (map-append (disjunct_at f m') (kept_among m' n) (n ∷ []) ∙ ap₂ (λ (xs : List (List (Literal Variable))) (x : List (Literal Variable)). xs ++ (x ∷ [])) h says
          ∙ sym (map-append (disjunct_at f m) (kept_among m n) (n ∷ [])))

  held-read : (question n : ℕ) → resolved f m' ≡ resolved f m → ((k : ℕ) → k < n → start_at m' k ≡ start_at m k)
      → disjuncts_among f m' question n ≡ disjuncts_among f m question n
  held-read question n solved starts = rw (solved, questions_same m m' question n starts)

-- DISJUNCTS
-- the literals of a copy, as they are said
abbrev pub say_literals : Substitution → ℕ → List (Literal ℕ) → List (Literal Variable)
say_literals σ copy ls = map (λ l. literal_under σ (positive l)) (map (literal_under (fresh copy)) ls)

unfoldable pub same_rest : Substitution → ℕ → ℕ → List ℕ → Bool
same_rest σ copy other ws = same_disjunct (say_literals σ copy (literals_from ws)) (say_literals σ other (literals_from ws))

-- how far the comparison of two copies has come: the words up to an offset are passed
pub record Comparing (f m₀ m : List ℕ) (copy other count i : ℕ) : Type 0 where
  pub still : Still f m₀ m
  pub whole : suc count ≡ length (own_words f (start_at m₀ copy))
  pub reached : Reached f (start_at m₀ copy) i
  pub same : same_disjunct (disjunct_at f m₀ copy) (disjunct_at f m₀ other) ≡ same_rest (resolved f m₀) copy other (drop i (own_words f (start_at m₀ copy)))

module _ {f m₀ : List ℕ} {copy other : ℕ} (t : Twins f m₀ copy other) where
  pub comparing_begin : {w : ℕ} → w ≡ word_at f m₀ (copy * 256) → {count : ℕ} → count ≡ following_of w → Comparing f m₀ m₀ copy other count 1
  unfolding disjunct copy_of same_rest clause_of
  comparing_begin e k = record {
    still = still_none t.good;
    whole = copy_count t.good t.made e k;
    reached = copy_reached t.good t.made;
    same = rw (t.same, own_words_lem (t.good.starts copy t.made));
  }

  module _ {m : List ℕ} {count i : ℕ} (g : Comparing f m₀ m copy other count i) where
    own-start : start_at m copy ≡ start_at m₀ copy
    own-start = still-start g.still (omega (arith, t.made, t.good.copies))

    twin-start : start_at m other ≡ start_at m₀ copy
    twin-start = still-start g.still (omega (arith, t.also_made, t.good.copies)) ∙ t.same

    own-made : copy < copies_of m
    own-made = rw (still-copies g.still) t.made

    twin-made : other < copies_of m
    twin-made = rw (still-copies g.still) t.also_made

    pub comparing_done : count < i → Compared f m₀ m true (same_disjunct (disjunct_at f m₀ copy) (disjunct_at f m₀ other))
    unfolding same_rest literals_from same_disjunct
    comparing_done l =
        let past : length (own_words f (start_at m₀ copy)) ≤ i = omega (arith, g.whole) in
        let z : drop i (own_words f (start_at m₀ copy)) ≡ [] = drop_of_length-le (own_words f (start_at m₀ copy)) past in
        record { still = g.still; outcome = sym (g.same ∙ ap (same_rest (resolved f m₀) copy other) z) }

    module _ (l : i ≤ count) where
      within : i < length (own_words f (start_at m₀ copy))
      within = omega (arith, g.whole)

      own_reached : Reached f (start_at m copy) i
      own_reached = rw own-start g.reached

      own_within : i < length (own_words f (start_at m copy))
      own_within = rw own-start within

      twin_reached : Reached f (start_at m other) i
      twin_reached = rw twin-start g.reached

      twin_within : i < length (own_words f (start_at m other))
      twin_within = rw twin-start within

      pub comparing_word : Inside f m (copy * 256 + i)
      comparing_word = offset_inside g.still.good own-made own_reached own_within

      -- the word there, in the file
      abbrev word : ℕ
      word = get_or f (start_at m₀ copy + i) 0

      abbrev after : List ℕ
      after = drop (i + 1) (own_words f (start_at m₀ copy))

      own_word_is : word_at f m (copy * 256 + i) ≡ word
      own_word_is = offset_word g.still.good own-made own_reached own_within ∙ rw own-start

      twin_word_is : word_at f m (other * 256 + i) ≡ word
      twin_word_is = offset_word g.still.good twin-made twin_reached twin_within ∙ rw twin-start

      reached_on : Reached f (start_at m₀ copy) (i + 1)
      reached_on = rw own-start at (offset_reached g.still.good own-made own_reached own_within)

      rest_is : drop i (own_words f (start_at m₀ copy)) ≡ word ∷ after
      rest_is = own_drop f (start_at m₀ copy) i within

      pub comparing_passes : {w : ℕ} → w ≡ word_at f m (copy * 256 + i) → {k : ℕ} → k ≡ kind_of w → (k ≡ 2 → ⊥) → Comparing f m₀ m copy other count (i + 1)
      unfolding same_rest
      comparing_passes e ek n =
          let other_kind : kind_of word ≡ 2 → ⊥ = λ z. n (ek ∙ ap kind_of (e ∙ own_word_is) ∙ z) in
          record {
            still = g.still;
            whole = g.whole;
            reached = reached_on;
            same = g.same ∙ ap (same_rest (resolved f m₀) copy other) rest_is ∙ rw (literals_other word after other_kind);
          }

      module _ {w : ℕ} (e : w ≡ word_at f m (copy * 256 + i)) {k : ℕ} (ek : k ≡ kind_of w) (two : k ≡ 2) where
        word_two : kind_of word ≡ 2
        word_two = sym (ap kind_of (e ∙ own_word_is)) ∙ sym ek ∙ two

        pub comparing_alike : Alike f m (copy * 256 + i) (other * 256 + i)
        comparing_alike = record {
          left = offset_literal g.still.good own-made own_reached own_within (ap kind_of own_word_is ∙ word_two);
          right = offset_literal g.still.good twin-made twin_reached twin_within (ap kind_of twin_word_is ∙ word_two);
          predicate = ap symbol_of (own_word_is ∙ sym twin_word_is);
          arity = ap arity_of (own_word_is ∙ sym twin_word_is);
        }

        abbrev literal : Literal ℕ
        literal = literal_of word (terms_from after)

        abbrev say_as : ℕ → Literal Variable
        say_as n = literal_under (resolved f m₀) (positive (literal_under (fresh n) literal))

        own_said : said_at f m (copy * 256 + i) ≡ say_as copy
        own_said = rw (still-solved g.still, offset_says g.still.good own-made own_reached own_within, own-start)

        twin_said : said_at f m (other * 256 + i) ≡ say_as other
        twin_said = rw (still-solved g.still, offset_says g.still.good twin-made twin_reached twin_within, twin-start)

        module _ {m' : List ℕ} {b : Bool} (c : Compared f m m' b (same_literal (said_at f m (copy * 256 + i)) (said_at f m (other * 256 + i)))) where
          this_and_rest : same_disjunct (disjunct_at f m₀ copy) (disjunct_at f m₀ other) ≡ b && same_rest (resolved f m₀) copy other after
          unfolding same_rest same_disjunct
          this_and_rest =
              g.same ∙ ap (same_rest (resolved f m₀) copy other) rest_is ∙ rw (literals_literal word after word_two)
              (ap (λ (d : Bool). d && same_rest (resolved f m₀) copy other after) (ap₂ same_literal (sym own_said) (sym twin_said) ∙ sym c.outcome))

          pub comparing_stops : not b ≡ true → Compared f m₀ m' false (same_disjunct (disjunct_at f m₀ copy) (disjunct_at f m₀ other))
          comparing_stops n =
              record { still = still_then g.still c.still; outcome = sym (this_and_rest ∙ ap (λ (d : Bool). d && same_rest (resolved f m₀) copy other after) (not-true b n)) }

          pub comparing_on : not b ≡ false → Comparing f m₀ m' copy other count (i + 1)
          comparing_on n = record {
            still = still_then g.still c.still;
            whole = g.whole;
            reached = reached_on;
            same = this_and_rest ∙ ap (λ (d : Bool). d && same_rest (resolved f m₀) copy other after) (not-false b n);
          }

-- THOSE BEFORE
-- how far the look at those before has come: from so many copies on, no kept one says the same
pub record Looking (f m₀ m : List ℕ) (copy earlier : ℕ) : Type 0 where
  pub still : Still f m₀ m
  pub low : earlier ≤ copy
  pub same : said_before f m₀ copy ≡ seen_by same_disjunct (disjunct_at f m₀ copy) (map (disjunct_at f m₀) (kept_among m₀ earlier))

module _ {f m₀ : List ℕ} {copy : ℕ} (x : Next f m₀ (start_at m₀ copy) copy) where
  copy-low : copy < most_copies
  copy-low = omega (arith, x.made, x.good.copies)

  module _ {m : List ℕ} {earlier : ℕ} (g : Looking f m₀ m copy earlier) where
    pub looking_done : earlier ≡ 0 → Compared f m₀ m false (said_before f m₀ copy)
    unfolding kept_among seen_by
    looking_done z =
        record {
          still = g.still;
          outcome = sym (g.same ∙ ap (λ (n : ℕ). seen_by same_disjunct (disjunct_at f m₀ copy) (map (disjunct_at f m₀) (kept_among m₀ n))) z);
        }

    module _ (some : earlier ≡ 0 → ⊥) where
      abbrev k : ℕ
      k = earlier - 1

      e : earlier ≡ suc (earlier - 1)
      e = omega (arith, some)

      pub k_low : earlier - 1 < most_copies
      k_low = omega (arith, g.low, copy-low)

      kept_is : kept_at m k ≡ kept_at m₀ k
      kept_is = still_kept g.still k_low

      pub looking_passes : {w : ℕ} → w ≡ earlier - 1 → kept_at m w ≡ 0 → Looking f m₀ m copy (earlier - 1)
      looking_passes ew z = record {
        still = g.still;
        low = omega (arith, g.low);
        same = g.same ∙ ap (λ (ns : List ℕ). seen_by same_disjunct (disjunct_at f m₀ copy) (map (disjunct_at f m₀) ns)) (ap (kept_among m₀) e ∙ another_other m₀ k (sym kept_is ∙ ap (kept_at m) (sym ew) ∙ z));
      }

      module _ {w : ℕ} (ew : w ≡ earlier - 1) (nw : kept_at m w ≡ 0 → ⊥) where
        n : kept_at m k ≡ 0 → ⊥
        n z = nw (ap (kept_at m) ew ∙ z)

        one_more : said_before f m₀ copy ≡ seen_by same_disjunct (disjunct_at f m₀ copy) (map (disjunct_at f m₀) (kept_among m₀ k) ++ (disjunct_at f m₀ k ∷ []))
        one_more =
            g.same
            ∙ ap (λ (ns : List ℕ). seen_by same_disjunct (disjunct_at f m₀ copy) (map (disjunct_at f m₀) ns)) (ap (kept_among m₀) e ∙ another_there m₀ k (λ z. n (kept_is ∙ z)))
            ∙ ap (seen_by same_disjunct (disjunct_at f m₀ copy)) (map-append (disjunct_at f m₀) (kept_among m₀ k) (k ∷ []))

        module _ {m' : List ℕ} {b : Bool} (c : Compared f m m' b (same_disjunct (disjunct_at f m copy) (disjunct_at f m (earlier - 1)))) where
          same_is : same_disjunct (disjunct_at f m₀ copy) (disjunct_at f m₀ k) ≡ b
          same_is = ap₂ same_disjunct (sym (still-says g.still copy-low)) (sym (still-says g.still k_low)) ∙ sym c.outcome

          pub looking_found : b ≡ true → Compared f m₀ m' true (said_before f m₀ copy)
          looking_found y =
              record {
                still = still_then g.still c.still;
                outcome = sym (one_more ∙ seen_with disjuncts_told (disjunct_at f m₀ copy) (disjunct_at f m₀ k) (map (disjunct_at f m₀) (kept_among m₀ k)) (same_is ∙ y));
              }

          pub looking_on : b ≡ false → Looking f m₀ m' copy (earlier - 1)
          looking_on y = record {
            still = still_then g.still c.still;
            low = omega (arith, g.low);
            same = one_more ∙ seen_other disjuncts_told (disjunct_at f m₀ copy) (disjunct_at f m₀ k) (map (disjunct_at f m₀) (kept_among m₀ k)) (same_is ∙ y);
          }

-- WHICH ARE KEPT
module _ {f m : List ℕ} {question copy : ℕ} (x : Next f m question copy) where
  pub weighs_other : {w : ℕ} → w ≡ copy → (start_at m w ≡ question → ⊥) → Weighed f m m question copy 0
  weighs_other e n = record { still = still_none x.good; outcome = rw (ne_eqb (start_at m copy) question (λ z. n (ap (start_at m) e ∙ z))) }

  module _ {w : ℕ} (e : w ≡ copy) (z : start_at m w ≡ question) where
    own-question : start_at m copy ≡ question
    own-question = ap (start_at m) (sym e) ∙ z

    pub weighs_next : Next f m (start_at m copy) copy
    weighs_next = record { good = x.good; made = x.made; own = λ k l n. x.own k l n ∙ sym own-question }

    module _ {m' : List ℕ} {b : Bool} (c : Compared f m m' b (said_before f m copy)) where
      pub weighs_said : b ≡ true → Weighed f m m' question copy 0
      weighs_said y = record { still = c.still; outcome = rw (eq-eqb (start_at m copy) question own-question, ← c.outcome, y) }

      pub weighs_new : b ≡ false → Weighed f m m' question copy 1
      weighs_new y = record { still = c.still; outcome = rw (eq-eqb (start_at m copy) question own-question, ← c.outcome, y) }

-- how far the choice has come: so many copies are weighed
pub record Choosing (f m₀ m : List ℕ) (question n : ℕ) : Type 0 where
  pub passed : n ≤ copies_of m₀
  pub good : Good f m
  pub bindings : bindings_in f m ≡ bindings_in f m₀
  pub copies : Same 0 count_place m₀ m
  pub leaves : Same value_end kept_places m₀ m
  pub own : KeptOf m question n
  pub once : map (disjunct_at f m) (kept_among m n) ≡ disjuncts_among f m question n

-- the disjuncts among one copy more
module _ (f m : List ℕ) (question n : ℕ) where
  abbrev says : ℕ → List (Literal Variable)
  says = disjunct (resolved f m) (clause_of (own_words f question))

  among-other : (start_at m n ≡ question → ⊥) → disjuncts_among f m question (suc n) ≡ disjuncts_among f m question n
  unfolding questions_among
  among-other e = rw (ne_eqb (start_at m n) question e)

  module _ (e : start_at m n ≡ question) where
    own-says : disjunct_at f m n ≡ says n
    own-says = rw e

    among-more : disjuncts_among f m question (suc n) ≡ firsts_by same_disjunct (map says (questions_among m question n) ++ (says n ∷ []))
    unfolding questions_among
    among-more = rw (eq-eqb (start_at m n) question e, map-append says (questions_among m question n) (n ∷ []))

    among-said : seen_by same_disjunct (disjunct_at f m n) (disjuncts_among f m question n) ≡ true → disjuncts_among f m question (suc n) ≡ disjuncts_among f m question n
    among-said s = among-more ∙ firsts_seen disjuncts_told (map says (questions_among m question n)) (says n) (rw own-says at s)

    among-new : seen_by same_disjunct (disjunct_at f m n) (disjuncts_among f m question n) ≡ false
        → disjuncts_among f m question (suc n) ≡ disjuncts_among f m question n ++ (disjunct_at f m n ∷ [])
    among-new s =
        among-more ∙ firsts_new disjuncts_told (map says (questions_among m question n)) (says n) (rw own-says at s)
        ∙ ap (λ (d : List (Literal Variable)). disjuncts_among f m question n ++ (d ∷ [])) (sym own-says)

-- a store among the notes of which copies are kept
module _ (m : List ℕ) (n r : ℕ) where
  noted-others : (from to : ℕ) → to ≤ kept_places + n → Same from to m (set m (kept_places + n) r)
  noted-others from to l = record { words = λ i a b. get_or-set_other m (kept_places + n) i r 0 (omega arith) }

  noted_there : kept_places + n < length m → kept_at (set m (kept_places + n) r) n ≡ r
  noted_there l = get_or-set_same m (kept_places + n) r 0 l

module _ {f m₀ : List ℕ} {question : ℕ} (h : Good f m₀) where
  pub choosing_begin : Choosing f m₀ m₀ question 0
  unfolding kept_among questions_among firsts_by firsts_after_by
  choosing_begin =
      record {
        passed = omega arith;
        good = h;
        bindings = refl;
        copies = same_none;
        leaves = same_none;
        own = λ k l. absurd (omega arith);
        once = refl;
      }

  module _ {m : List ℕ} {n : ℕ} (g : Choosing f m₀ m question n) where
    copies_now : copies_of m ≡ copies_of m₀
    copies_now = g.copies.words copies_place (omega arith) (omega arith)

    pub choosing_done : copies_of m₀ ≤ n → Chose f m₀ m question
    unfolding disjuncts_kept disjuncts_held
    choosing_done l =
        let z : n ≡ copies_of m₀ = omega (arith, g.passed) in
        record {
          good = g.good;
          leaves = g.leaves;
          once =
              ap (λ (k : ℕ). map (disjunct_at f m) (kept_among m k)) (copies_now ∙ sym z) ∙ g.once ∙ ap (disjuncts_among f m question) z
              ∙ held-read f m₀ m question (copies_of m₀) (ap solution g.bindings) (λ k b. g.copies.words (0 + k) (omega arith) (omega (arith, h.copies)));
        }

    module _ (l : n < copies_of m₀) where
      n_low : n < most_copies
      n_low = omega (arith, h.copies)

      module _ {m' : List ℕ} {r : ℕ} (w : Weighed f m m' question n r) where
        abbrev stored : List ℕ
        stored = set m' (kept_places + n) r

        noted : kept_at stored n ≡ r
        noted = noted_there m' n r (omega (arith, w.still.good.size))

        lower : Same 0 value_end m' stored
        lower = noted-others m' n r 0 value_end (omega arith)

        long : length stored ≡ length m'
        long = length-set m' (kept_places + n) r

        solved : resolved f stored ≡ resolved f m
        solved = ap solution (bound_kept w.still.good lower long) ∙ still-solved w.still

        starts : (k : ℕ) → k < suc n → start_at stored k ≡ start_at m k
        starts k b = lower.words (0 + k) (omega arith) (omega arith) ∙ still-start w.still (omega (arith, n_low))

        kept : (k : ℕ) → k < n → kept_at stored k ≡ kept_at m k
        kept k b = (noted-others m' n r kept_places (kept_places + n) (omega arith)).words (kept_places + k) (omega arith) (omega arith) ∙ still_kept w.still (omega (arith, n_low))

        read : SameRead f m stored n
        read = record { solved = solved; starts = λ k b. starts k (omega arith); kept = kept }

        kept_says : map (disjunct_at f stored) (kept_among stored n) ≡ disjuncts_among f m question n
        kept_says = kept_read f m stored n read ∙ g.once

        passed_by : kept_at stored n ≡ 0 → disjuncts_among f m question (suc n) ≡ disjuncts_among f m question n
            → map (disjunct_at f stored) (kept_among stored (suc n)) ≡ disjuncts_among f stored question (suc n)
        passed_by z e =
            ap (map (disjunct_at f stored)) (another_other stored n z) ∙ kept_says ∙ sym e ∙ sym (held-read f m stored question (suc n) solved starts)

        taken : (kept_at stored n ≡ 0 → ⊥) → disjuncts_among f m question (suc n) ≡ disjuncts_among f m question n ++ (disjunct_at f m n ∷ [])
            → map (disjunct_at f stored) (kept_among stored (suc n)) ≡ disjuncts_among f stored question (suc n)
        taken z e =
            let here : disjunct_at f stored n ≡ disjunct_at f m n = rw (solved, starts n (omega arith)) in
            ap (map (disjunct_at f stored)) (another_there stored n z) ∙ map-append (disjunct_at f stored) (kept_among stored n) (n ∷ [])
            ∙ ap₂ (λ (ds : List (List (Literal Variable))) (d : List (Literal Variable)). ds ++ (d ∷ [])) kept_says here
            ∙ sym e ∙ sym (held-read f m stored question (suc n) solved starts)

        -- what was said before, among the disjuncts so far
        said_is : {b : Bool} → said_before f m n ≡ b → seen_by same_disjunct (disjunct_at f m n) (disjuncts_among f m question n) ≡ b
        said_is e = ap (seen_by same_disjunct (disjunct_at f m n)) (sym g.once) ∙ e

        record Kept : Type 0 where
          own : (kept_at stored n ≡ 0 → ⊥) → start_at m n ≡ question
          once : map (disjunct_at f stored) (kept_among stored (suc n)) ≡ disjuncts_among f stored question (suc n)

        by_outcome : (b c : Bool) → eqb (start_at m n) question ≡ b → said_before f m n ≡ c → r ≡ cond b (cond c 0 1) 0 → Kept
        by_outcome false c eb ec er =
            record { own = λ z. absurd (z (noted ∙ er)); once = passed_by (noted ∙ er) (among-other f m question n (eqb-false _ _ eb)) }
        by_outcome true true eb ec er =
            record { own = λ z. eqb-true _ _ eb; once = passed_by (noted ∙ er) (among-said f m question n (eqb-true _ _ eb) (said_is ec)) }
        by_outcome true false eb ec er =
            record {
              own = λ z. eqb-true _ _ eb;
              once = taken (λ z. omega (arith, noted, er, z)) (among-new f m question n (eqb-true _ _ eb) (said_is ec));
            }

        weighed : Kept
        weighed = by_outcome (eqb (start_at m n) question) (said_before f m n) refl refl w.outcome

        own_on : KeptOf stored question (suc n)
        own_on k b z =
            decide (eqb k n)
            (λ e. let same : k ≡ n = eqb-true k n e in ap (start_at stored) same ∙ starts n (omega arith) ∙ weighed.own (λ y. z (ap (kept_at stored) same ∙ y)))
            (λ e. let other : k ≡ n → ⊥ = eqb-false k n e in starts k b ∙ g.own k (omega arith) (λ y. z (kept k (omega arith) ∙ y)))

        on : Choosing f m₀ stored question (suc n)
        on = record {
          passed = omega arith;
          good = good_kept w.still.good lower long;
          bindings = bound_kept w.still.good lower long ∙ w.still.bindings ∙ g.bindings;
          copies = same_then g.copies (same_then w.still.copies (noted-others m' n r 0 count_place (omega arith)));
          leaves =
              same_then g.leaves
              (same_then (record { words = λ i a b. w.still.leaves.words i a (omega arith) }) (noted-others m' n r value_end kept_places (omega arith)));
          own = own_on;
          once = weighed.once;
        }

        pub choosing_on : {at : ℕ} → at ≡ n → Choosing f m₀ (set m' (kept_places + at) r) question (n + 1)
        choosing_on e = rw (e, add-one n) on
