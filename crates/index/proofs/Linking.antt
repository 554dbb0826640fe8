-- The literals with one word linked, from the last literal to the first: one law for each outcome, with premises as the code has them.
use mathlib.Core.Path.{◌≡◌, refl, sym, ap, ◌∙◌}
use mathlib.Core.List.{List, ◌++◌}
use mathlib.Core.Option.{some}
use Prim.Native.Nat.{ℕ, zero, suc, ◌+◌, ◌*◌, ◌-◌, ◌/◌, ◌%◌, ◌≤◌, ◌<◌}
use native.Mathlib.Omega.{arith}
use lib.Dec.{eqb}
use lib.ListN.{length, take, drop, get_or, set, get_elem?, replicate, length-set, drop_of_length-le}
use lib.Seq.{get_or-set_same, get_or-set_other, get_or-take}
use borrow.Author.Tests.{eqb-true, eqb-false}
use Rattle.std.specs.Prelude.{Some, None}
use Rattle.words.specs.Fields.{number_of}
use Rattle.words.proofs.Packed.{bits_small}
use Rattle.rules.proofs.Unify.Tests.{decide}
use Rattle.unification.specs.Places.{work_words}
use Rattle.index.specs.Places.{noted_place, first_places, head_places, most_noted, note_places, key_count}
use Rattle.index.specs.declared.entries.Scan.{Scan}
use Rattle.index.specs.Scanning.{begun}
use Rattle.index.specs.Noting.{keys_in, scans_in, count_at, note_at, links_at, first_at, end_at, clause_at, head_at, first_from, last_from, numbered, end_from, Fits, Indexed, Linked, word_begun, word_joined}
use Rattle.index.proofs.Scans.{body_length}
use Rattle.index.proofs.Listed.{first_none, FirstAt, first_found, EndAt, end_found, no_end, last_is, last_on, first_is, first_on, end_is, end_on_key, end_on, LastAt, last_found, last_alone}
use Rattle.index.proofs.Scanned.{elem_some, elem_inside, same_count, Scanned, scan_at}
use Rattle.index.proofs.Recorded.{note_place}
use Rattle.index.proofs.Cleared.{cleared_below, cleared_zero, cleared_length}

-- the notes depend on their own words alone
pub indexed_kept : {f m m' : List ℕ} {body : ℕ} → Indexed f body m → length m' ≡ work_words → count_at m' ≡ count_at m → ((i : ℕ) → i < most_noted → note_at m' i ≡ note_at m i)
    → ((c : ℕ) → c < 512 → clause_at m' c ≡ clause_at m c) → Indexed f body m'
indexed_kept {f} {m} {m'} {body} g size count notes clauses =
    record {
      size = size;
      fits = g.fits;
      short = g.short;
      few = g.few;
      count = count ∙ g.count;
      most = g.most;
      entry = λ i s e. notes i (low i e) ∙ g.entry i s e;
      number = λ i s e.
          let there = scan_at (take body f) i e in
          let fits : Fits s = g.few.fits s there.standing there.inside there.kind in
          ap (◌+ s.literals) (clauses (s.clauses - 1) (omega (arith, fits.clauses, fits.begun))) ∙ g.number i s e;
    }
  where
    low : (i : ℕ) {s : Scan} → get_elem? (scans_in f body) i ≡ some s → i < most_noted
    low i e = omega (arith, elem_inside (scans_in f body) i e, g.most)

-- a noted literal
module _ {f m : List ℕ} {body : ℕ} (g : Indexed f body m) (i : ℕ) (h : i < length (keys_in f body)) where
  found : (s : Scan) × (get_elem? (scans_in f body) i ≡ some s)
  found = elem_some (scans_in f body) i (rw (same_count (take body f) begun) h)

  at : Scanned (take body f) (keys_in f body) (scans_in f body) begun i found.0
  at = scan_at (take body f) i found.1

  pub literal_low : i < most_noted
  literal_low = omega (arith, same_count (take body f) begun, g.most)

  inside : found.0.at < body
  inside = omega (arith, at.inside, body_length f body g.fits)

  pub literal_reads : note_at m i % 16384 < length f
  literal_reads = omega (arith, note_place g i found.1, inside, g.fits)

  pub literal_word_lem : get_or f (note_at m i % 16384) 0 ≡ get_or (keys_in f body) i 0
  literal_word_lem = rw (note_place g i found.1) (sym (get_or-take body f found.0.at 0 inside) ∙ sym at.key)

pub key_small : (w : ℕ) → number_of w < key_count
key_small w = bits_small 0 10 w

-- how far the walk over the ends of words has come
pub record Walking (ks : List ℕ) (word from last : ℕ) : Type 0 where
  pub at : ℕ
  pub later : from ≤ at
  pub within : at ≤ length ks
  pub here : last ≡ end_from (number_of word) at (drop at ks)
  pub same : last_from word from (drop from ks) ≡ last_from word at (drop at ks)

module _ {f m : List ℕ} {body from : ℕ} (g : Linked f body m from) (word : ℕ) where
  pub walk_begin : {key q : ℕ} → key ≡ number_of word → q ≡ key → Walking (keys_in f body) word from (get_or m (head_places + q) 0)
  walk_begin ek eq =
      record { at = from; later = omega arith; within = g.within; here = rw (eq, ek) (g.heads (number_of word) (key_small word)); same = refl }

  module _ {last : ℕ} (walking : Walking (keys_in f body) word from last) where
    pub walk_none : last ≡ 0 → 0 ≡ last_from word from (drop from (keys_in f body))
    walk_none z = sym (walking.same ∙ no_end (keys_in f body) walking.within (sym walking.here ∙ z) word refl)

    module _ (n : last ≡ 0 → ⊥) where
      ended : EndAt (keys_in f body) (number_of word) walking.at (last - 1)
      ended = end_found (keys_in f body) walking.within (sym walking.here ∙ omega arith)

      pub walk_low : last - 1 < most_noted
      walk_low = literal_low g.indexed (last - 1) ended.inside

      pub walk_reads : note_at m (last - 1) % 16384 < length f
      walk_reads = literal_reads g.indexed (last - 1) ended.inside

      module _ {w : ℕ} (ew : w ≡ get_or f (note_at m (last - 1) % 16384) 0) where
        is_key : w ≡ get_or (keys_in f body) (last - 1) 0
        is_key = ew ∙ literal_word_lem g.indexed (last - 1) ended.inside

        pub walk_found : w ≡ word → last ≡ last_from word from (drop from (keys_in f body))
        walk_found e =
            let here : get_or (keys_in f body) (last - 1) 0 ≡ word = sym is_key ∙ e in
            let one : last - 1 + 1 ≡ last = omega arith in
            sym (walking.same ∙ ended.skips word refl ∙ last_is (keys_in f body) ended.inside word here (rw here at ended.last) ∙ one)

        module _ (d : w ≡ word → ⊥) {q : ℕ} (eq : q ≡ last - 1) where
          next_is : get_or m (note_places + 3 * q + 2) 0 ≡ end_from (number_of word) (last - 1 + 1) (drop (last - 1 + 1) (keys_in f body))
          next_is =
              let here : number_of (get_or (keys_in f body) (last - 1) 0) ≡ number_of word = ended.here in
              rw (eq) (g.ends (last - 1) (omega (arith, ended.from, walking.later)) ended.inside)
              ∙ ap (λ (k : ℕ). end_from k (last - 1 + 1) (drop (last - 1 + 1) (keys_in f body))) here

          pub walk_on : Walking (keys_in f body) word from (get_or m (note_places + 3 * q + 2) 0)
          walk_on =
              record {
                at = last - 1 + 1;
                later = omega (arith, ended.from, walking.later);
                within = omega (arith, ended.inside);
                here = next_is;
                same = walking.same ∙ ended.skips word refl ∙ last_on (keys_in f body) ended.inside word (λ e. d (is_key ∙ e));
              }

          pub walk_less : (4096 - get_or m (note_places + 3 * q + 2) 0) % 4096 < (4096 - last) % 4096
          walk_less =
              let low = walk_low in
              decide (eqb (get_or m (note_places + 3 * q + 2) 0) 0)
              (λ b. let z : get_or m (note_places + 3 * q + 2) 0 ≡ 0 = eqb-true _ 0 b in rw z (omega arith))
              (λ b.
              let z : get_or m (note_places + 3 * q + 2) 0 ≡ 0 → ⊥ = eqb-false _ 0 b in
              let next : EndAt (keys_in f body) (number_of word) (last - 1 + 1) (get_or m (note_places + 3 * q + 2) 0 - 1) =
              end_found (keys_in f body) (omega (arith, ended.inside)) (sym next_is ∙ omega arith) in
              let bounded = literal_low g.indexed (get_or m (note_places + 3 * q + 2) 0 - 1) next.inside in
              omega (arith, next.from))

pub first_most : (ks : List ℕ) (word i : ℕ) → i ≤ length ks → first_from word i (drop i ks) ≤ length ks
first_most ks word i h =
    decide (eqb (first_from word i (drop i ks)) 0)
    (λ b. let z : first_from word i (drop i ks) ≡ 0 = eqb-true _ 0 b in omega arith)
    (λ b.
    let n : first_from word i (drop i ks) ≡ 0 → ⊥ = eqb-false _ 0 b in
    let one : first_from word i (drop i ks) ≡ first_from word i (drop i ks) - 1 + 1 = omega arith in
    let at : FirstAt ks word i (first_from word i (drop i ks) - 1) = first_found ks h one in
    omega (arith, at.inside))

-- one literal more
module _ {f m : List ℕ} {body i : ℕ} (g : Linked f body m (i + 1)) (h : i < length (keys_in f body)) where
  abbrev ks : List ℕ
  ks = keys_in f body

  abbrev own : ℕ
  own = get_or (keys_in f body) i 0

  low : i < most_noted
  low = literal_low g.indexed i h

  few : length (keys_in f body) ≤ most_noted
  few = omega (arith, same_count (take body f) begun, g.indexed.most)

  -- no later literal has its word
  module _ (none : last_from own (i + 1) (drop (i + 1) ks) ≡ 0) where
    abbrev k : ℕ
    k = number_of own

    abbrev m₁ : List ℕ
    m₁ = set m (note_places + 3 * i + 1) (4096 * (i + 1))

    abbrev m₂ : List ℕ
    m₂ = set m₁ (note_places + 3 * i + 2) (head_at m k)

    abbrev m₃ : List ℕ
    m₃ = word_begun m i k

    other : (x : ℕ) → (x ≡ note_places + 3 * i + 1 → ⊥) → (x ≡ note_places + 3 * i + 2 → ⊥) → (x ≡ head_places + k → ⊥) → get_or m₃ x 0 ≡ get_or m x 0
    other x a b c =
        get_or-set_other m₂ (head_places + k) x (i + 1) 0 c
        ∙ get_or-set_other m₁ (note_places + 3 * i + 2) x (head_at m k) 0 b
        ∙ get_or-set_other m (note_places + 3 * i + 1) x (4096 * (i + 1)) 0 a

    size : length m₃ ≡ work_words
    size = simp length-set g.indexed.size

    links-here : links_at m₃ i ≡ 4096 * (i + 1)
    links-here =
        let l = low in
        get_or-set_other m₂ (head_places + k) (note_places + 3 * i + 1) (i + 1) 0 (λ e. omega arith)
        ∙ get_or-set_other m₁ (note_places + 3 * i + 2) (note_places + 3 * i + 1) (head_at m k) 0 (λ e. omega arith)
        ∙ get_or-set_same m (note_places + 3 * i + 1) (4096 * (i + 1)) 0 (omega (arith, g.indexed.size))

    end_here : end_at m₃ i ≡ head_at m k
    end_here =
        let l = low in
        get_or-set_other m₂ (head_places + k) (note_places + 3 * i + 2) (i + 1) 0 (λ e. omega arith)
        ∙ get_or-set_same m₁ (note_places + 3 * i + 2) (head_at m k) 0 (let s = length-set m (note_places + 3 * i + 1) (4096 * (i + 1)) in omega (arith, g.indexed.size))

    head-here : head_at m₃ k ≡ i + 1
    head-here =
        let small = key_small own in
        let s : length m₂ ≡ work_words = simp length-set g.indexed.size in
        get_or-set_same m₂ (head_places + k) (i + 1) 0 (omega arith)

    links_same : (j : ℕ) → (j ≡ i → ⊥) → j < length ks → links_at m₃ j ≡ links_at m j
    links_same j n l = let f = few in other (note_places + 3 * j + 1) (λ e. omega arith) (λ e. omega arith) (λ e. omega arith)

    -- another word's last literal
    apart : (j : ℕ) → i + 1 ≤ j → j < length ks → last_from (get_or ks j 0) (j + 1) (drop (j + 1) ks) ≡ 0 → own ≡ get_or ks j 0 → ⊥
    apart j l inside last e =
        let there : last_from own (i + 1) (drop (i + 1) ks) ≡ j + 1 = last_alone ks l inside (sym e) (rw e last) in
        omega arith

    pub linked_begun : Linked f body m₃ i
    linked_begun =
        let l = low in
        let n = few in
        record {
          indexed =
              indexed_kept g.indexed size
              (other noted_place (λ e. omega arith) (λ e. omega arith) (λ e. omega arith))
              (λ j b. other (note_places + 3 * j) (λ e. omega arith) (λ e. omega arith) (λ e. omega arith))
              (λ c b. other (first_places + c) (λ e. omega arith) (λ e. omega arith) (λ e. omega arith));
          within = omega arith;
          links = λ j a b. decide (eqb j i)
              (λ e. let same : j ≡ i = eqb-true j i e in rw (same, links-here) (multiple i ∙ sym (first_none own (drop (i + 1) ks) (i + 1) none)))
              (λ e. let d = eqb-false j i e in ap (λ (x : ℕ). x % 4096) (links_same j d b) ∙ g.links j (omega arith) b);
          ends = λ j a b. decide (eqb j i)
              (λ e. let same : j ≡ i = eqb-true j i e in rw same (end_here ∙ g.heads k (key_small own)))
              (λ e. let d = eqb-false j i e in other (note_places + 3 * j + 2) (λ q. omega arith) (λ q. omega arith) (λ q. omega arith) ∙ g.ends j (omega arith) b);
          firsts = λ j a b last. decide (eqb j i)
              (λ e. let same : j ≡ i = eqb-true j i e in rw same (links-here ∙ ap (λ (x : ℕ). 4096 * x) (sym (first_is ks h own refl))))
              (λ e.
              let d = eqb-false j i e in
              links_same j d b ∙ g.firsts j (omega arith) b last ∙ ap (λ (x : ℕ). 4096 * x) (sym (first_on ks h (get_or ks j 0) (apart j (omega arith) b last))));
          heads = λ key small. decide (eqb key k)
              (λ e. let same : key ≡ k = eqb-true key k e in rw same (head-here ∙ sym (end_is ks h none)))
              (λ e.
              let d = eqb-false key k e in
              other (head_places + key) (λ q. omega arith) (λ q. omega arith) (λ q. d (omega arith)) ∙ g.heads key small ∙ sym (end_on_key ks h key (λ q. d (sym q))));
        }
      where
        multiple : (n : ℕ) → 4096 * (n + 1) % 4096 ≡ 0
        multiple n = omega arith

  -- the last literal with its word is known
  module _ {L : ℕ} (there : LastAt (keys_in f body) own (i + 1) L) where
    abbrev key' : ℕ
    key' = number_of own

    abbrev n₁ : List ℕ
    n₁ = set m (note_places + 3 * i + 1) (first_at m L)

    abbrev n₂ : List ℕ
    n₂ = set n₁ (note_places + 3 * i + 2) (head_at m key')

    abbrev n₃ : List ℕ
    n₃ = word_joined m i key' L

    some_last : last_from own (i + 1) (drop (i + 1) ks) ≡ L + 1
    some_last = last_alone ks there.from there.inside there.here there.last

    others : (x : ℕ) → (x ≡ note_places + 3 * i + 1 → ⊥) → (x ≡ note_places + 3 * i + 2 → ⊥) → (x ≡ note_places + 3 * L + 1 → ⊥) → get_or n₃ x 0 ≡ get_or m x 0
    others x a b c =
        get_or-set_other n₂ (note_places + 3 * L + 1) x (4096 * (i + 1)) 0 c
        ∙ get_or-set_other n₁ (note_places + 3 * i + 2) x (head_at m key') 0 b
        ∙ get_or-set_other m (note_places + 3 * i + 1) x (first_at m L) 0 a

    sized : length n₃ ≡ work_words
    sized = simp length-set g.indexed.size

    first_of : first_at m L ≡ first_from own (i + 1) (drop (i + 1) ks)
    first_of =
        let v = g.firsts L there.from there.inside (rw there.here there.last) in
        ap (λ (x : ℕ). x / 4096) v ∙ divided (first_from (get_or ks L 0) (i + 1) (drop (i + 1) ks)) ∙ ap (λ (w : ℕ). first_from w (i + 1) (drop (i + 1) ks)) there.here
      where
        divided : (x : ℕ) → 4096 * x / 4096 ≡ x
        divided x = omega arith

    joined_here : links_at n₃ i ≡ first_at m L
    joined_here =
        let l = low in
        get_or-set_other n₂ (note_places + 3 * L + 1) (note_places + 3 * i + 1) (4096 * (i + 1)) 0 (λ e. omega (arith, there.from))
        ∙ get_or-set_other n₁ (note_places + 3 * i + 2) (note_places + 3 * i + 1) (head_at m key') 0 (λ e. omega arith)
        ∙ get_or-set_same m (note_places + 3 * i + 1) (first_at m L) 0 (omega (arith, g.indexed.size))

    joined_end : end_at n₃ i ≡ head_at m key'
    joined_end =
        let l = low in
        get_or-set_other n₂ (note_places + 3 * L + 1) (note_places + 3 * i + 2) (4096 * (i + 1)) 0 (λ e. omega arith)
        ∙ get_or-set_same n₁ (note_places + 3 * i + 2) (head_at m key') 0 (let s = length-set m (note_places + 3 * i + 1) (first_at m L) in omega (arith, g.indexed.size))

    joined_last : links_at n₃ L ≡ 4096 * (i + 1)
    joined_last =
        let n = few in
        let s : length n₂ ≡ work_words = simp length-set g.indexed.size in
        get_or-set_same n₂ (note_places + 3 * L + 1) (4096 * (i + 1)) 0 (omega (arith, there.inside))

    links_kept : (j : ℕ) → (j ≡ i → ⊥) → (j ≡ L → ⊥) → links_at n₃ j ≡ links_at m j
    links_kept j a b = others (note_places + 3 * j + 1) (λ e. omega arith) (λ e. omega arith) (λ e. b (omega arith))

    not_own : (j : ℕ) → i + 1 ≤ j → j < length ks → (j ≡ L → ⊥) → last_from (get_or ks j 0) (j + 1) (drop (j + 1) ks) ≡ 0 → own ≡ get_or ks j 0 → ⊥
    not_own j l inside d last e =
        let alone : last_from own (i + 1) (drop (i + 1) ks) ≡ j + 1 = last_alone ks l inside (sym e) (rw e last) in
        d (omega (arith, some_last))

    pub linked_joined : Linked f body n₃ i
    linked_joined =
        let l = low in
        let n = few in
        record {
          indexed =
              indexed_kept g.indexed sized
              (others noted_place (λ e. omega arith) (λ e. omega arith) (λ e. omega arith))
              (λ j b. others (note_places + 3 * j) (λ e. omega arith) (λ e. omega arith) (λ e. omega arith))
              (λ c b. others (first_places + c) (λ e. omega arith) (λ e. omega arith) (λ e. omega (arith, there.inside)));
          within = omega arith;
          links = λ j a b. decide (eqb j i)
              (λ e.
              let same : j ≡ i = eqb-true j i e in
              let most = first_most ks own (i + 1) (omega arith) in
              rw same (ap (λ (x : ℕ). x % 4096) (joined_here ∙ first_of) ∙ remains (first_from own (i + 1) (drop (i + 1) ks)) (omega arith)))
              (λ e.
              let d = eqb-false j i e in
              decide (eqb j L)
              (λ q.
              let same : j ≡ L = eqb-true j L q in
              rw (same, joined_last) (multiple i ∙ sym (first_none (get_or ks L 0) (drop (L + 1) ks) (L + 1) (rw there.here there.last))))
              (λ q. ap (λ (x : ℕ). x % 4096) (links_kept j d (eqb-false j L q)) ∙ g.links j (omega arith) b));
          ends = λ j a b. decide (eqb j i)
              (λ e. let same : j ≡ i = eqb-true j i e in rw same (joined_end ∙ g.heads key' (key_small own)))
              (λ e. let d = eqb-false j i e in others (note_places + 3 * j + 2) (λ q. omega arith) (λ q. omega arith) (λ q. omega arith) ∙ g.ends j (omega arith) b);
          firsts = λ j a b last. decide (eqb j i)
              (λ e.
              let same : j ≡ i = eqb-true j i e in
              let gone : last_from own (i + 1) (drop (i + 1) ks) ≡ 0 = rw same at last in
              absurd (omega (arith, some_last)))
              (λ e.
              let d = eqb-false j i e in
              decide (eqb j L)
              (λ q.
              let same : j ≡ L = eqb-true j L q in
              rw same (joined_last ∙ ap (λ (x : ℕ). 4096 * x) (sym (first_is ks h (get_or ks L 0) (sym there.here)))))
              (λ q.
              let r = eqb-false j L q in
              links_kept j d r ∙ g.firsts j (omega arith) b last ∙ ap (λ (x : ℕ). 4096 * x) (sym (first_on ks h (get_or ks j 0) (not_own j (omega arith) b r last)))));
          heads = λ key small.
              others (head_places + key) (λ q. omega arith) (λ q. omega arith) (λ q. omega (arith, there.inside))
              ∙ g.heads key small
              ∙ sym (end_on ks h key (λ z. omega (arith, some_last)));
        }
      where
        multiple : (x : ℕ) → 4096 * (x + 1) % 4096 ≡ 0
        multiple x = omega arith

        remains : (x : ℕ) → x < 4096 → x % 4096 ≡ x
        remains x l = omega arith

-- a literal's number, read from such a number and one
pub numbered_of : (n k : ℕ) → n ≡ k → (n ≡ 0 → ⊥) → Some (n - 1) ≡ numbered k
numbered_of zero k e h = absurd (h refl)
numbered_of (suc n) k e h = let z : suc n - 1 ≡ n = omega arith in rw z (ap numbered e)

pub numbered_by_none : (n : ℕ) → 0 ≡ n → None ≡ numbered n
numbered_by_none n e = ap numbered e

pub numbered_none : (n : ℕ) → None ≡ numbered n → n ≡ 0
numbered_none zero e = refl
numbered_none (suc n) e = cc

numbered_some : (n k : ℕ) → Some k ≡ numbered n → n ≡ k + 1
numbered_some zero k e = cc
numbered_some (suc n) k e = let same : k ≡ n = cc in omega arith

-- a literal linked, with premises as the code has them
module _ {f m : List ℕ} {body i : ℕ} (g : Linked f body m (i + 1)) (h : i < length (keys_in f body)) {word : ℕ} (ew : word ≡ get_or f (note_at m i % 16384) 0) where
  is-own : word ≡ get_or (keys_in f body) i 0
  is-own = ew ∙ literal_word_lem g.indexed i h

  pub link_begun : None ≡ numbered (last_from word (i + 1) (drop (i + 1) (keys_in f body))) → {m' : List ℕ} → m' ≡ word_begun m i (number_of word) → Linked f body m' i
  link_begun z e = rw (e, is-own) (linked_begun g h (rw is-own at (numbered_none _ z)))

  module _ {last : ℕ} (el : Some last ≡ numbered (last_from word (i + 1) (drop (i + 1) (keys_in f body)))) where
    last_there : LastAt (keys_in f body) (get_or (keys_in f body) i 0) (i + 1) last
    last_there = last_found (keys_in f body) (omega arith) (rw is-own at (numbered_some _ _ el))

    pub link_last : (length m ≡ work_words) × (i < last) × (last < most_noted)
    link_last = (g.indexed.size, omega (arith, last_there.from), literal_low g.indexed last last_there.inside)

    pub link_joined : {m' : List ℕ} → m' ≡ word_joined m i (number_of word) last → Linked f body m' i
    link_joined e = rw (e, is-own) (linked_joined g h last_there)

-- no literal is linked yet
module _ (m : List ℕ) {m' : List ℕ} (size : length m ≡ work_words) (e : m' ≡ take head_places m ++ replicate key_count 0 ++ drop (head_places + key_count) m) where
  inside-it : head_places + key_count ≤ length m
  inside-it = omega arith

  below : (x : ℕ) → x < head_places → get_or m' x 0 ≡ get_or m x 0
  below x l = cleared_below m head_places key_count inside-it e x l

  pub link_indexed : {f : List ℕ} {body : ℕ} → Indexed f body m → Indexed f body m'
  link_indexed g =
      indexed_kept g (cleared_length m head_places key_count inside-it e ∙ size) (below noted_place (omega arith)) (λ i l. below (note_places + 3 * i) (omega arith)) (λ c l. below (first_places + c) (omega arith))

  pub link_begin : {f : List ℕ} {body : ℕ} → Indexed f body m' → {count : ℕ} → count ≡ count_at m' → Linked f body m' count
  unfolding end_from
  link_begin {f} {body} g {count} ec =
      let n : count ≡ length (keys_in f body) = ec ∙ g.count ∙ same_count (take body f) begun in
      record {
        indexed = g;
        within = omega arith;
        links = λ i a b. absurd (omega arith);
        ends = λ i a b. absurd (omega arith);
        firsts = λ i a b. absurd (omega arith);
        heads = λ key small. cleared_zero m head_places key_count inside-it e key small ∙ sym (ap (end_from key count) (drop_of_length-le (keys_in f body) {i = count} (omega arith)));
      }

-- the first literal with a word, by the last
module _ {f m : List ℕ} {body : ℕ} (g : Linked f body m 0) (word : ℕ) where
  pub first_missing : None ≡ numbered (last_from word 0 (drop 0 (keys_in f body))) → 0 ≡ first_from word 0 (keys_in f body)
  first_missing z = sym (first_none word (keys_in f body) 0 (numbered_none _ z))

  module _ {last : ℕ} (el : Some last ≡ numbered (last_from word 0 (drop 0 (keys_in f body)))) where
    last-is-there : LastAt (keys_in f body) word 0 last
    last-is-there = last_found (keys_in f body) (omega arith) (numbered_some _ _ el)

    pub first_low : (length m ≡ work_words) × (last < most_noted)
    first_low = (g.indexed.size, literal_low g.indexed last last-is-there.inside)

    pub first_by_last : {q : ℕ} → q ≡ last → get_or m (note_places + 3 * q + 1) 0 / 4096 ≡ first_from word 0 (keys_in f body)
    first_by_last eq =
        rw eq
        (ap (λ (x : ℕ). x / 4096) (g.firsts last (omega arith) last-is-there.inside (rw last-is-there.here last-is-there.last))
        ∙ divided (first_from (get_or (keys_in f body) last 0) 0 (keys_in f body))
        ∙ ap (λ (w : ℕ). first_from w 0 (keys_in f body)) last-is-there.here)
      where
        divided : (x : ℕ) → 4096 * x / 4096 ≡ x
        divided x = omega arith

-- notes and links are kept where their words are
module _ {f m m' : List ℕ} {body : ℕ} (size : length m' ≡ work_words) (kept : (i : ℕ) → noted_place ≤ i → i < work_words → get_or m' i 0 ≡ get_or m i 0) where
  pub indexed_same : Indexed f body m → Indexed f body m'
  indexed_same g =
      indexed_kept g size (kept noted_place (omega arith) (omega arith)) (λ i l. kept (note_places + 3 * i) (omega arith) (omega arith)) (λ c l. kept (first_places + c) (omega arith) (omega arith))

  pub linked_same : Linked f body m 0 → Linked f body m' 0
  linked_same g =
      let few : length (keys_in f body) ≤ most_noted = omega (arith, same_count (take body f) begun, g.indexed.most) in
      record {
        indexed = indexed_same g.indexed;
        within = g.within;
        links = λ i a b. ap (λ (x : ℕ). x % 4096) (kept (note_places + 3 * i + 1) (omega arith) (omega arith)) ∙ g.links i a b;
        ends = λ i a b. kept (note_places + 3 * i + 2) (omega arith) (omega arith) ∙ g.ends i a b;
        firsts = λ i a b l. kept (note_places + 3 * i + 1) (omega arith) (omega arith) ∙ g.firsts i a b l;
        heads = λ key small. kept (head_places + key) (omega arith) (omega arith) ∙ g.heads key small;
      }
