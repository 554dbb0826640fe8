-- The body's literals noted one after another, and read again: one law for each outcome, with premises as the code has them.
use mathlib.Core.Path.{◌≡◌, refl, sym, ap, ◌∙◌}
use mathlib.Core.List.{List, [], ◌∷◌}
use mathlib.Core.Option.{none, some}
use Prim.Native.Nat.{ℕ, ◌+◌, ◌*◌, ◌-◌, ◌/◌, ◌%◌, ◌≤◌, ◌<◌}
use native.Mathlib.Omega.{arith}
use lib.Dec.{eqb}
use lib.ListN.{length, take, drop, get_or, set, get_elem?, length-set, length-drop}
use lib.Seq.{get_or-set_same, get_or-set_other}
use borrow.Author.Tests.{eq-eqb, ne_eqb, eqb-true, eqb-false}
use Rattle.words.specs.Fields.{kind_of}
use Rattle.rules.proofs.Unify.Tests.{decide}
use Rattle.unification.specs.Places.{work_words}
use Rattle.index.specs.Places.{noted_place, first_places, most_noted, note_places}
use Rattle.index.specs.declared.entries.Scan.{Scan}
use Rattle.std.specs.Prelude.{None}
use Rattle.index.specs.Scanning.{begun, past_word, Standing, entry_from, EntryAt}
use Rattle.index.specs.Noting.{scans_from, keys_in, scans_in, count_at, note_at, clause_at, Fits, Few, packed, noted, unpacked, Unpacks, Indexed}
use Rattle.index.proofs.Scans.{past_clause, past_literal, past_other, past_at, standing_begin, standing_past, standing_most, body_word, body_inside, body_from, body_end}
use Rattle.index.proofs.Scanned.{elem_some, elem_inside, elem_first, Scanned, scan_at, one_clause, none_entered}

-- how far the noting has come
pub record Noting (f : List ℕ) (body : ℕ) (m : List ℕ) (scan : Scan) (count : ℕ) : Type 0 where
  pub size : length m ≡ work_words
  pub fits : body ≤ length f
  pub short : body ≤ 16000
  pub few : Few (take body f)
  pub standing : Standing (take body f) scan
  pub left : scans_from scan (drop scan.at (take body f)) ≡ drop count (scans_in f body)
  pub within : count ≤ length (scans_in f body)
  pub most : count ≤ most_noted
  pub low : scan.literals ≤ 7
  pub begun : scan.literals ≤ 7 * scan.clauses
  pub room : count ≤ 7 * (scan.clauses - 1) + scan.literals
  pub entry : (i : ℕ) (s : Scan) → i < count → get_elem? (scans_in f body) i ≡ some s → note_at m i ≡ packed s
  pub number : (i : ℕ) (s : Scan) → i < count → get_elem? (scans_in f body) i ≡ some s → clause_at m (s.clauses - 1) + s.literals ≡ i

pub noting_begin : {f m : List ℕ} {body : ℕ} → length m ≡ work_words → body ≤ length f → body ≤ 16000 → Few (take body f) → {scan : Scan} → scan ≡ begun → Noting f body m scan 0
noting_begin {f} {m} {body} size fits short few e =
    rw e
    (record {
      size = size;
      fits = fits;
      short = short;
      few = few;
      standing = standing_begin (take body f);
      left = refl;
      within = omega arith;
      most = omega arith;
      low = omega arith;
      begun = omega arith;
      room = omega arith;
      entry = λ i s l. absurd (omega arith);
      number = λ i s l. absurd (omega arith);
    })

module _ {f m : List ℕ} {body count : ℕ} {scan : Scan} (g : Noting f body m scan count) where
  -- all words are read
  module _ (h : body ≤ scan.at) where
    all : length (scans_in f body) ≡ count
    unfolding scans_from
    all =
        let none : drop count (scans_in f body) ≡ [] = sym g.left ∙ rw (body_end f body g.fits h) in
        omega (arith, g.within, sym (length-drop count (scans_in f body)) ∙ ap length none)

    pub noting_end : Indexed f body (set m noted_place count)
    noting_end =
        let n = all in
        record {
          size = length-set m noted_place count ∙ g.size;
          fits = g.fits;
          short = g.short;
          few = g.few;
          count = get_or-set_same m noted_place count 0 (omega (arith, g.size)) ∙ sym n;
          most = omega (arith, g.most);
          entry = λ i s e. get_or-set_other m noted_place (note_places + 3 * i) count 0 (λ q. omega arith) ∙ g.entry i s (omega (arith, elem_inside (scans_in f body) i e)) e;
          number = λ i s e.
              ap (◌+ s.literals) (get_or-set_other m noted_place (first_places + (s.clauses - 1)) count 0 (λ q. omega arith)) ∙ g.number i s (omega (arith, elem_inside (scans_in f body) i e)) e;
        }

  -- one word more
  module _ (h : scan.at < body) where
    pub noting_reads : {q : ℕ} → q ≡ scan.at → q < length f
    noting_reads e = omega (arith, g.fits)

    pub noting_small : (scan.at < 4294967295) × (scan.clauses ≤ scan.at) × (scan.literals ≤ scan.at)
    noting_small = (omega (arith, g.short), g.standing.clauses, g.standing.literals)

    module _ {q : ℕ} (eq : q ≡ scan.at) where
      abbrev word : ℕ
      word = get_or f q 0

      pub noting_less : {next : Scan} → next ≡ past_word scan word → body - next.at < body - scan.at
      noting_less {next} p = rw p (omega (arith, past_at scan word))

      inside : scan.at < length (take body f)
      inside = body_inside f body g.fits h eq

      here : get_or (take body f) scan.at 0 ≡ word
      here = body_word f body g.fits h eq

      next_stands : Standing (take body f) (past_word scan word)
      next_stands = rw here at (standing_past (take body f) g.standing inside)

      further : drop (past_word scan word).at (take body f) ≡ drop (scan.at + 1) (take body f)
      further = ap (λ (n : ℕ). drop n (take body f)) (past_at scan word)

      from_here : scans_from scan (word ∷ drop (scan.at + 1) (take body f)) ≡ drop count (scans_in f body)
      from_here = rw (body_from f body g.fits h eq) at g.left

      module _ {k : ℕ} (ek : k ≡ kind_of word) where
        module _ (n : k ≡ 2 → ⊥) where
          left_other : scans_from (past_word scan word) (drop (past_word scan word).at (take body f)) ≡ drop count (scans_in f body)
          unfolding scans_from
          left_other = rw further (rw (ne_eqb (kind_of word) 2 (λ p. n (ek ∙ p))) at from_here)

          record Bounds (s : Scan) : Type 0 where
            low : s.literals ≤ 7
            begun : s.literals ≤ 7 * s.clauses
            room : count ≤ 7 * (s.clauses - 1) + s.literals

          bounds : Bounds (past_word scan word)
          bounds =
              decide (eqb (kind_of word) 3)
              (λ d.
              let past = past_clause scan word refl (eqb-true (kind_of word) 3 d) in
              let clauses : (past_word scan word).clauses ≡ scan.clauses + 1 = ap (λ (t : Scan). t.clauses) (sym past) in
              let literals : (past_word scan word).literals ≡ 0 = ap (λ (t : Scan). t.literals) (sym past) in
              record { low = omega arith; begun = omega arith; room = omega (arith, g.room, g.low, g.begun) })
              (λ d.
              let past = past_other scan word refl (eqb-false (kind_of word) 3 d) (λ p. n (ek ∙ p)) in
              let clauses : (past_word scan word).clauses ≡ scan.clauses = ap (λ (t : Scan). t.clauses) (sym past) in
              let literals : (past_word scan word).literals ≡ scan.literals = ap (λ (t : Scan). t.literals) (sym past) in
              record { low = omega (arith, g.low); begun = omega (arith, g.begun); room = omega (arith, g.room) })

          pub noting_other : {next : Scan} → next ≡ past_word scan word → Noting f body m next count
          noting_other p =
              rw p
              (record {
                size = g.size;
                fits = g.fits;
                short = g.short;
                few = g.few;
                standing = next_stands;
                left = left_other;
                within = g.within;
                most = g.most;
                low = bounds.low;
                begun = bounds.begun;
                room = bounds.room;
                entry = g.entry;
                number = g.number;
              })

        module _ (p : k ≡ 2) where
          kind : kind_of word ≡ 2
          kind = sym ek ∙ p

          first : (get_elem? (scans_in f body) count ≡ some scan) × (drop (count + 1) (scans_in f body) ≡ scans_from (past_word scan word) (drop (scan.at + 1) (take body f)))
          unfolding scans_from
          first = elem_first (scans_in f body) count (sym (rw (eq-eqb (kind_of word) 2 kind) at from_here))

          scanned : Scanned (take body f) (keys_in f body) (scans_in f body) begun count scan
          scanned = scan_at (take body f) count first.0

          fitting : Fits scan
          fitting = g.few.fits scan g.standing inside (ap (λ (w : ℕ). kind_of w) here ∙ kind)

          counted : count < most_noted
          counted = omega (arith, g.room, fitting.clauses, fitting.literals)

          pub noting_literal : ((length m ≡ work_words) × (count < most_noted) × Fits scan × (scan.at < 16384) × (scan.literals ≤ count))
          noting_literal = (g.size, counted, fitting, omega (arith, g.short), omega (arith, scanned.few))

          pub noting_count : count < most_noted
          noting_count = counted

          abbrev m₂ : List ℕ
          m₂ = noted m count scan

          abbrev m₁ : List ℕ
          m₁ = set m (note_places + 3 * count) (packed scan)

          note_same : (i : ℕ) → (i ≡ count → ⊥) → i < most_noted → note_at m₂ i ≡ note_at m i
          note_same i n l =
              get_or-set_other m₁ (first_places + (scan.clauses - 1)) (note_places + 3 * i) (count - scan.literals) 0 (λ e. omega arith)
              ∙ get_or-set_other m (note_places + 3 * count) (note_places + 3 * i) (packed scan) 0 (λ e. omega arith)

          note_here : note_at m₂ count ≡ packed scan
          note_here =
              let c = counted in
              get_or-set_other m₁ (first_places + (scan.clauses - 1)) (note_places + 3 * count) (count - scan.literals) 0 (λ e. omega arith)
              ∙ get_or-set_same m (note_places + 3 * count) (packed scan) 0 (omega (arith, g.size))

          clause_here : clause_at m₂ (scan.clauses - 1) ≡ count - scan.literals
          clause_here = get_or-set_same m₁ (first_places + (scan.clauses - 1)) (count - scan.literals) 0 (let s = length-set m (note_places + 3 * count) (packed scan) in omega (arith, g.size, fitting.clauses))

          clause_same : (c : ℕ) → (c ≡ scan.clauses - 1 → ⊥) → clause_at m₂ c ≡ clause_at m c
          clause_same c n =
              let l = counted in
              get_or-set_other m₁ (first_places + (scan.clauses - 1)) (first_places + c) (count - scan.literals) 0 (λ e. n (omega arith))
              ∙ get_or-set_other m (note_places + 3 * count) (first_places + c) (packed scan) 0 (λ e. omega arith)

          entry_of : (i : ℕ) (s : Scan) → i < count + 1 → get_elem? (scans_in f body) i ≡ some s → note_at m₂ i ≡ packed s
          entry_of i s l e =
              let c = counted in
              decide (eqb i count)
              (λ b. let same : i ≡ count = eqb-true i count b in let q : scan ≡ s = the_same (sym first.0 ∙ rw same at e) in rw (same, ← q) note_here)
              (λ b. let n = eqb-false i count b in note_same i n (omega arith) ∙ g.entry i s (omega arith) e)
            where
              the_same : some scan ≡ some s → scan ≡ s
              the_same e = cc

          number_of : (i : ℕ) (s : Scan) → i < count + 1 → get_elem? (scans_in f body) i ≡ some s → clause_at m₂ (s.clauses - 1) + s.literals ≡ i
          number_of i s l e =
              let there = scan_at (take body f) i e in
              let fits = g.few.fits s there.standing there.inside there.kind in
              decide (eqb s.clauses scan.clauses)
              (λ b.
              let same : s.clauses ≡ scan.clauses = eqb-true _ _ b in
              let value : clause_at m₂ (s.clauses - 1) ≡ count - scan.literals = rw same clause_here in
              let apart = one_clause (take body f) i count e first.0 (omega arith) (sym same) in
              let few = scanned.few in
              rw value (omega arith))
              (λ b.
              let n = eqb-false _ _ b in
              let less : i < count = decide (eqb i count)
              (λ c. let same : i ≡ count = eqb-true i count c in let q : scan ≡ s = the_same (sym first.0 ∙ rw same at e) in absurd (n (ap (λ (t : Scan). t.clauses) (sym q))))
              (λ c. let d = eqb-false i count c in omega arith) in
              ap (◌+ s.literals) (clause_same (s.clauses - 1) (λ q. n (omega (arith, fits.begun, fitting.begun)))) ∙ g.number i s less e)
            where
              the_same : some scan ≡ some s → scan ≡ s
              the_same e = cc

          pub noting_on : {next : Scan} → next ≡ past_word scan word → {m' : List ℕ} → m' ≡ noted m count scan → Noting f body m' next (count + 1)
          noting_on e em =
              let past = past_literal scan word refl (λ q. omega (arith, kind)) kind in
              let clauses : (past_word scan word).clauses ≡ scan.clauses = ap (λ (t : Scan). t.clauses) (sym past) in
              let literals : (past_word scan word).literals ≡ scan.literals + 1 = ap (λ (t : Scan). t.literals) (sym past) in
              rw (e, em)
              (record {
                size = length-set m₁ (first_places + (scan.clauses - 1)) (count - scan.literals) ∙ length-set m (note_places + 3 * count) (packed scan) ∙ g.size;
                fits = g.fits;
                short = g.short;
                few = g.few;
                standing = next_stands;
                left = rw further (sym first.1);
                within = omega (arith, elem_inside (scans_in f body) count first.0);
                most = omega (arith, counted);
                low = omega (arith, fitting.literals);
                begun = omega (arith, fitting.literals, fitting.begun);
                room = omega (arith, g.room);
                entry = entry_of;
                number = number_of;
              })

-- a note read again
module _ {f m : List ℕ} {body : ℕ} (g : Indexed f body m) (i : ℕ) {s : Scan} (e : get_elem? (scans_in f body) i ≡ some s) where
  there : Scanned (take body f) (keys_in f body) (scans_in f body) begun i s
  there = scan_at (take body f) i e

  fits : Fits s
  fits = g.few.fits s there.standing there.inside there.kind

  near : s.at < 16384
  near = omega (arith, standing_most f body g.fits there.standing, g.short)

  note : note_at m i ≡ packed s
  note = g.entry i s e

  pub note_place : note_at m i % 16384 ≡ s.at
  note_place = omega (arith, note, near)

  note-clause : note_at m i / 16384 % 512 ≡ s.clauses - 1
  note-clause = omega (arith, note, near, fits.clauses, fits.begun)

  note-offset : note_at m i / 8388608 ≡ s.at - s.start
  note-offset = omega (arith, note, near, fits.clauses, fits.begun)

  note-number : clause_at m (note_at m i / 16384 % 512) + s.literals ≡ i
  note-number = rw note-clause (g.number i s e)

  pub unpacks : Unpacks m i
  unpacks = record {
    size = g.size;
    low = omega (arith, elem_inside (scans_in f body) i e, g.most);
    offset = omega (arith, note-offset, note_place);
    number = omega (arith, note-number);
  }

  same-scan : {a a' c c' p p' l l' : ℕ} → a ≡ a' → c ≡ c' → p ≡ p' → l ≡ l'
      → ◌≡◌ {A = Scan} (record { at = a; clauses = c; start = p; literals = l }) (record { at = a'; clauses = c'; start = p'; literals = l' })
  same-scan ea ec ep el = rw (ea, ec, ep, el)

  pub unpacked_is : unpacked m i ≡ s
  unpacked_is =
      same-scan note_place (omega (arith, note-clause, fits.begun)) (omega (arith, note_place, note-offset, fits.later)) (omega (arith, note-number))

-- the literal of a number in the clause of a number
module _ {f m : List ℕ} {body : ℕ} (g : Indexed f body m) (clause literal : ℕ) where
  missing : ((i : ℕ) (s : Scan) → get_elem? (scans_in f body) i ≡ some s → s.clauses ≡ clause + 1 → clause_at m clause + literal ≡ i → ⊥) → entry_from clause literal begun (take body f) ≡ None
  missing n =
      none_entered clause literal (take body f) begun
      (λ i s e c l.
      let same : s.clauses - 1 ≡ clause = omega arith in
      let number : clause_at m clause + s.literals ≡ i = rw same at (g.number i s e) in
      n i s e c (omega arith))

  module _ {q : ℕ} (eq : q ≡ clause) where
    pub entry_beyond : count_at m ≤ get_or m (first_places + q) 0 → entry_from clause literal begun (take body f) ≡ None
    entry_beyond h =
        let first : count_at m ≤ clause_at m clause = rw eq at h in
        missing (λ i s e c n. omega (arith, elem_inside (scans_in f body) i e, g.count))

    module _ (h : get_or m (first_places + q) 0 < count_at m) where
      pub entry_over : count_at m - get_or m (first_places + q) 0 ≤ literal → entry_from clause literal begun (take body f) ≡ None
      entry_over k =
          let first : count_at m - clause_at m clause ≤ literal = rw eq at k in
          missing (λ i s e c n. omega (arith, elem_inside (scans_in f body) i e, g.count))

      module _ (k : literal < count_at m - get_or m (first_places + q) 0) where
        abbrev number : ℕ
        number = get_or m (first_places + q) 0 + literal

        found : (s : Scan) × (get_elem? (scans_in f body) number ≡ some s)
        found = elem_some (scans_in f body) number (omega (arith, g.count))

        pub entry_unpacks : Unpacks m number
        entry_unpacks = unpacks g number found.1

        module _ {scan : Scan} (es : scan ≡ unpacked m number) where
          is : scan ≡ found.0
          is = es ∙ unpacked_is g number found.1

          numbered : clause_at m (scan.clauses - 1) + scan.literals ≡ number
          numbered = rw is (g.number number found.0 found.1)

          pub entry_other : (scan.clauses ≡ clause + 1 → ⊥) → entry_from clause literal begun (take body f) ≡ None
          entry_other n =
              missing (λ i s e c j.
              let same : number ≡ i = rw eq j in
              let both : found.0 ≡ s = the_same (sym found.1 ∙ rw (same) e) in
              n (rw (is, both) c))
            where
              the_same : {s : Scan} → some found.0 ≡ some s → found.0 ≡ s
              the_same e = cc

          pub entry_is : scan.clauses ≡ clause + 1 → EntryAt (take body f) clause literal scan
          entry_is c =
              let at = scan_at (take body f) number found.1 in
              let same : scan.clauses - 1 ≡ q = omega arith in
              let placed : clause_at m q + scan.literals ≡ number = rw same at numbered in
              record {
                standing = rw is at.standing;
                inside = rw is at.inside;
                kind = rw is at.kind;
                clauses = c;
                literals = omega arith;
              }
