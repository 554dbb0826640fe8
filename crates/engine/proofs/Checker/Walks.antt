-- The literal that a step enters, found by a walk: the clause of a number, its literal of a number, and where there is none. One law for each.
use mathlib.Core.Path.{◌≡◌, refl, sym, ap, ◌∙◌}
use mathlib.Core.List.{List, [], ◌∷◌}
use mathlib.Core.Option.{none, some}
use Prim.Native.Nat.{ℕ, zero, suc, ◌+◌, ◌-◌, ◌≤◌, ◌<◌}
use native.Mathlib.Decide.{dec_lt}
use native.Mathlib.Numerals.{add-one}
use native.Mathlib.Omega.{arith}
use lib.ListN.{length, drop, get_or, get_elem?, drop_of_length-le, length-map}
use lib.Seq.{drop-cons}
use Rattle.words.specs.Fields.{kind_of, literals_of}
use Rattle.table.proofs.Bodies.{seek_laws}
use Rattle.table.specs.Body.{body_fault, starts}
use Rattle.table.specs.File.{body_of, judge, table_in}
use Rattle.table.specs.Readers.{BeginsAt}
use Rattle.table.specs.Syntax.{Clause, all_clauses}
use Rattle.table.specs.Decode.{clause_of}
use Rattle.table.proofs.Accepted.{accepted}
use Rattle.table.proofs.AcceptedTable.{body_readable, question_start}
use Rattle.table.proofs.BodyDecoding.{clauses_count}
use Rattle.unification.specs.State.{own_words, ClauseAt}
use Rattle.index.specs.declared.entries.Scan.{Scan}
use Rattle.std.specs.Prelude.{Option, Some, None}
use Rattle.index.specs.Scanning.{IsEntry}
use Rattle.tableaux.specs.Leaves.{literal_offsets, offsets_at}
use Rattle.tableaux.specs.Entering.{literal_from, LiteralAt}
use Rattle.tableaux.proofs.Hanging.{own_small, own_inside, own_word}
use Rattle.tableaux.proofs.Literals.{clause_counted}
use Rattle.index.proofs.Scanned.{elem_some}
use Rattle.engine.specs.Checking.{LocatedAt, Located}
use Rattle.engine.proofs.Literals.Places.{some_length, some_value, clause_numbered, asks_last, table_clauses}
use Rattle.engine.proofs.Literals.Offsets.{offsets_literal, offsets_other, clause_literals, literal_at_lem}
use Rattle.engine.proofs.Literals.Entries.{entry_enters, entry_none}

-- how far the literal of a number was sought
pub record Numbering (f : List ℕ) (start literal offset left : ℕ) : Type 0 where
  pub within : offset ≤ 256
  pub some : left < length (literal_offsets offset (drop offset (own_words f start)))
  pub same : get_elem? (offsets_at f start) literal ≡ get_elem? (literal_offsets offset (drop offset (own_words f start))) left

module _ {f : List ℕ} {start literal : ℕ} where
  pub number_begin : literal < length (offsets_at f start) → Numbering f start literal 1 literal
  number_begin h = record { within = omega arith; some = h; same = refl }

  module _ {offset left : ℕ} (g : Numbering f start literal offset left) where
    unpassed : offset < length (own_words f start)
    unfolding literal_offsets
    unpassed = go (dec_lt offset (length (own_words f start)))
      where
        go : Dec (offset < length (own_words f start)) → offset < length (own_words f start)
        go (yes h) = h
        go (no n) = let none = rw (drop_of_length-le (own_words f start) {i = offset} (omega arith)) at g.some in absurd (omega arith)

    pub number_small : offset + 1 ≤ 256
    number_small = omega (arith, unpassed, own_small f start)

    pub number_less : 256 - (offset + 1) < 256 - offset
    number_less = omega (arith, number_small)

    from_here : drop offset (own_words f start) ≡ get_or f (start + offset) 0 ∷ drop (offset + 1) (own_words f start)
    from_here = rw (drop-cons (own_words f start) offset 0 unpassed, own_word f start offset unpassed, add-one)

    module _ {b : ℕ} (eb : b ≡ offset) where
      pub number_inside : start + b < length f
      number_inside = rw eb (own_inside f start offset unpassed)

      module _ {k : ℕ} (ek : k ≡ kind_of (get_or f (start + b) 0)) where
        pub number_other : (k ≡ 2 → ⊥) → Numbering f start literal (offset + 1) left
        number_other n =
            let other : kind_of (get_or f (start + offset) 0) ≡ 2 → ⊥ = λ z. n (ek ∙ rw eb z) in
            let here : literal_offsets offset (drop offset (own_words f start)) ≡ literal_offsets (offset + 1) (drop (offset + 1) (own_words f start)) =
            ap (literal_offsets offset) from_here ∙ offsets_other offset _ _ other in
            record { within = number_small; some = rw here at g.some; same = g.same ∙ rw here }

        module _ (y : k ≡ 2) where
          here_too : literal_offsets offset (drop offset (own_words f start)) ≡ offset ∷ literal_offsets (offset + 1) (drop (offset + 1) (own_words f start))
          here_too = ap (literal_offsets offset) from_here ∙ offsets_literal offset _ _ (rw eb at (sym ek ∙ y))

          pub number_found : left ≡ 0 → get_elem? (offsets_at f start) literal ≡ some offset
          number_found z = g.same ∙ rw (here_too, z)

          pub number_on : (left ≡ 0 → ⊥) → Numbering f start literal (offset + 1) (left - 1)
          number_on n =
              let one : left ≡ suc (left - 1) = omega arith in
              record {
                within = number_small;
                some = let m = rw here_too at g.some in omega arith;
                same = g.same ∙ ap (λ (os : List ℕ). get_elem? os left) here_too ∙ ap (get_elem? (offset ∷ literal_offsets (offset + 1) (drop (offset + 1) (own_words f start)))) one;
              }

pub ruleset number_laws = (number_begin, number_small, number_less, number_inside, number_other, number_found, number_on)

beyond : {A : Type 0} (xs : List A) (i : ℕ) → length xs ≤ i → get_elem? xs i ≡ none
beyond [] i h = refl
beyond (x ∷ xs) zero h = absurd (omega arith)
beyond (x ∷ xs) (suc i) h = beyond xs i (omega arith)

-- the literal of a number in the clause of a number
module _ (f : List ℕ) (z : (judge f).status ≡ 0) where
  whole : length f - 4 ≤ length f
  whole = omega arith

  pub walk_least : 6 ≤ length f
  walk_least = (accepted f z).least

  pub walk_most : length f ≤ 16000
  walk_most = (accepted f z).most

  table-size : length (all_clauses (table_in f)) ≡ length (starts 0 0 (body_of f))
  table-size = ap length (table_clauses (body_of f) (body_readable f z)) ∙ clauses_count (body_of f)

  module _ (clause literal : ℕ) where
    -- by the notes
    pub walk_noted : (q : Option Scan) → IsEntry (body_of f) clause literal q → Located f clause literal q
    walk_noted (Some s) e = record { enters = rw (question_start f z) at (entry_enters f (length f - 4) whole (body_readable f z) e); clauses = e.clauses; literals = e.literals }
    walk_noted None e = entry_none f (length f - 4) whole (body_readable f z) clause literal e

    pub walk_beyond : get_or f (length f - 4 + 1) 0 ≤ clause → Located f clause literal None
    walk_beyond h c e = absurd (omega (arith, some_length (all_clauses (table_in f)) clause e, table-size, (accepted f z).count))

    module _ (h : clause < get_or f (length f - 4 + 1) 0) where
      clause_there : clause < length (starts 0 0 (body_of f))
      clause_there = omega (arith, (accepted f z).count)

      module _ {number : ℕ} (en : number ≡ clause) where
        pub walk_asks : (body_fault 0 0 (body_of f) ≡ none) × (number < length (starts 0 0 (body_of f)))
        walk_asks = ((accepted f z).sound, rw en clause_there)

      module _ {number start : ℕ} (en : number ≡ clause) (b : BeginsAt (body_of f) number start) where
        placed : get_elem? (starts 0 0 (body_of f)) clause ≡ some start
        placed =
            let there = elem_some (starts 0 0 (body_of f)) clause clause_there in
            there.1 ∙ ap some (sym (some_value (starts 0 0 (body_of f)) clause there.1) ∙ ap (λ (k : ℕ). get_or (starts 0 0 (body_of f)) k 0) (sym en) ∙ sym b.place)

        numbered : ClauseAt f start × (get_elem? (all_clauses (table_in f)) clause ≡ some (clause_of (own_words f start)))
        numbered = clause_numbered f (length f - 4) whole (body_readable f z) clause placed

        pub walk_inside : start < length f
        walk_inside = numbered.0.inside

        pub walk_short : {n : ℕ} → n ≡ literals_of (get_or f start 0) → n ≤ literal → Located f clause literal None
        walk_short el few c e =
            let same : clause_of (own_words f start) ≡ c = the_same (sym numbered.1 ∙ e) in
            let count : length (clause_of (own_words f start)).literals ≡ length (offsets_at f start) =
            ap length (sym (clause_literals (own_words f start))) ∙ length-map (offsets_at f start) (λ (o : ℕ). literal_from (drop o (own_words f start))) in
            rw (← same) (beyond (clause_of (own_words f start)).literals literal (omega (arith, count, clause_counted numbered.0)))
          where
            the_same : {a b : Clause} → some a ≡ some b → a ≡ b
            the_same e = cc

        module _ {n : ℕ} (el : n ≡ literals_of (get_or f start 0)) (more : literal < n) where
          pub walk_some : literal < length (offsets_at f start)
          walk_some = omega (arith, clause_counted numbered.0)

          module _ {offset : ℕ} (eo : get_elem? (offsets_at f start) literal ≡ some offset) where
            there : LiteralAt f start literal offset
            there = literal_at_lem f start numbered.0 literal eo

            pub walk_fits : start + offset < length f
            walk_fits = there.inside

            pub walk_found : LocatedAt f clause literal (record { at = start + offset; clauses = clause + 1; start = start; literals = literal })
            walk_found =
                let back : start + offset - start ≡ offset = omega arith in
                let number : clause + 1 - 1 ≡ clause = omega arith in
                record {
                  enters =
                      record {
                        begins = numbered.0;
                        later = omega (arith, there.least);
                        begun = omega arith;
                        clause = rw number numbered.1;
                        asks = rw number (rw (question_start f z) at (asks_last (body_of f) (body_readable f z) clause placed));
                        offset = rw back eo;
                        literal = rw back there;
                      };
                  clauses = refl;
                  literals = refl;
                }

-- the first words of clauses
pub ruleset start_laws = (seek_laws)

pub ruleset walk_laws = (walk_least, walk_most, walk_beyond, walk_asks, walk_inside, walk_short, walk_some, walk_fits, walk_found)
