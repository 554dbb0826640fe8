-- How tries in vain are seen: the walk up a branch, the first literal that hangs, first symbols. One law for each outcome, with premises as the code has them.
use mathlib.Core.Path.{◌≡◌, refl, sym, ap, ap₂, ◌∙◌}
use mathlib.Core.Bool.{Bool, true, false, cond, not, ◌&&◌}
use mathlib.Core.List.{List, [], ◌∷◌}
use Prim.Native.Nat.{ℕ, zero, suc, ◌+◌, ◌-◌, ◌/◌, ◌%◌, ◌^◌, ◌≤◌, ◌<◌}
use native.Mathlib.Numerals.{add-one}
use native.Mathlib.Omega.{arith}
use borrow.Author.Tests.{eq-eqb, ne_eqb, eqb-true, eqb-false, ltb-true, ltb-false, not-true}
use lib.Dec.{eqb, ltb}
use lib.ListN.{length, drop, get_or, drop_of_length-le}
use lib.Seq.{drop-cons}
use Rattle.words.specs.Fields.{kind_of, arity_of, literals_of, variables_of}
use Rattle.words.specs.declared.Step.{Step}
use Rattle.table.specs.Decode.{first}
use Rattle.rules.proofs.Lists.{All}
use Rattle.rules.specs.Machinery.Unify.{follow}
use Rattle.unification.specs.Places.{most_leaves, work_words}
use Rattle.unification.specs.State.{copies_of, literal_at, parent_at, own_words, terms_of, term_of, Points}
use Rattle.unification.specs.Good.{word_at, Inside, Good, LiteralStands, FollowedTo}
use Rattle.unification.proofs.Atoms.{literal_ahead}
use Rattle.unification.proofs.References.{function_term, function_arity, function_shape, points_fewer, points_inside}
use Rattle.index.specs.Scanning.{other_sign}
use Rattle.tableaux.specs.Leaves.{chain, hangs, hanging}
use Rattle.tableaux.specs.Ready.{open_leaves, Noted, leaf_of, rest_of, Extensible, hanging_at}
use Rattle.tableaux.specs.declared.tableau.Place.{Place}
use Rattle.tableaux.proofs.Chains.{chain_at, chain_past, chain_none}
use Rattle.tableaux.proofs.Hanging.{own_small, own_inside, own_word}
use Rattle.tableaux.proofs.Literals.{ReadsOn, hanging_fewer, clause_some, clause_hanging}
use Rattle.engine.specs.Searching.{without, Treats, Against, Allows, Again, step_by, Attempted}
use Rattle.engine.specs.Nowhere.{words_up, among, stuck_at, dead_end_by, dead_end, clashing, Opening, Parted, Vain}
use Rattle.engine.specs.declared.search.Ending.TheVariants.{Nothing}
use Rattle.engine.specs.declared.search.Move.{Move}
use Rattle.engine.specs.declared.search.Move.TheVariants.{Reduce, Enter}
use Rattle.index.specs.declared.entries.Scan.{Scan}
use Rattle.engine.specs.declared.search.Task.{Task}
use Rattle.engine.proofs.Performed.{open_first, stands_inside}
use Rattle.engine.proofs.Searching.Again.{term_stays, again_none, bound_again}
use Rattle.engine.proofs.Nowhere.Tries.{next_inside, vain_clash, vain_parted, vain_end}
use Rattle.engine.proofs.Searching.Rows.{treats_again, Rowing, rowing_on}

-- a chain from an item on: the item, and the chain from where it leads
chain_up : {A : Type 0} (item : ℕ → A) (link : ℕ → ℕ) (at : ℕ) → 0 < at → link (at - 1) ≤ at - 1
    → chain item link at at ≡ item (at - 1) ∷ chain item link (link (at - 1)) (link (at - 1))
chain_up {A} item link at h low =
    let here : at ≡ suc (at - 1) = omega arith in
    let more : at - 1 ≡ at - 1 - link (at - 1) + link (at - 1) = omega arith in
    ap (λ (n : ℕ). chain item link n n) here
    ∙ chain_at item link (at - 1)
    ∙ ap (λ (l : List A). item (at - 1) ∷ l)
    (ap (λ (n : ℕ). chain item link n (link (at - 1))) more ∙ chain_past item link (link (at - 1)) (at - 1 - link (at - 1)) (link (at - 1)) (omega arith))

noted_below : {f m : List ℕ} {n k : ℕ} → k ≤ n → Noted f m n → Noted f m k
noted_below h noted =
    record {
      stands = λ c l. noted.stands c (omega arith);
      up = λ c l. noted.up c (omega arith);
      right = λ c l. noted.right c (omega arith);
    }

-- how far the walk up a branch has come
pub record Walking (f m : List ℕ) (word head at : ℕ) : Type 0 where
  pub low : at ≤ head
  pub same : among word (words_up f m head) ≡ among word (words_up f m at)

module _ {f m : List ℕ} {word head : ℕ} where
  pub walk_begin : Walking f m word head head
  walk_begin = record { low = omega arith; same = refl }

  module _ (good : Good f m) (noted : Noted f m head) (few : head ≤ most_leaves) {at : ℕ} (walking : Walking f m word head at) where
    pub walk_end : at ≡ 0 → false ≡ among word (words_up f m head)
    unfolding among
    walk_end z =
        let none : words_up f m at ≡ [] = rw z (chain_none (λ c. word_at f m (literal_at m c)) (parent_at m) 0) in
        sym (walking.same ∙ ap (among word) none)

    module _ (some : at ≡ 0 → ⊥) where
      pub walk_small : (length m ≡ work_words) × (0 < at) × (at ≤ most_leaves)
      walk_small = (good.size, omega arith, omega (arith, walking.low))

      inside : at - 1 < head
      inside = omega (arith, walking.low)

      module _ {literal : ℕ} (el : literal ≡ literal_at m (at - 1)) where
        pub walk_inside : Inside f m literal
        walk_inside = rw el (stands_inside f m (literal_at m (at - 1)) good (noted.stands (at - 1) inside))

        module _ {w : ℕ} (ew : w ≡ word_at f m literal) where
          up : words_up f m at ≡ w ∷ words_up f m (parent_at m (at - 1))
          up = chain_up (λ c. word_at f m (literal_at m c)) (parent_at m) at (omega arith) (noted.up (at - 1) inside) ∙ rw (ew, el)

          pub walk_found : w ≡ word → true ≡ among word (words_up f m head)
          unfolding among
          walk_found e = sym (walking.same ∙ rw (up, eq-eqb w word e))

          module _ {next : ℕ} (en : next ≡ parent_at m (at - 1)) where
            pub walk_falls : next < at
            walk_falls = omega (arith, en, noted.up (at - 1) inside)

            pub walk_on : (w ≡ word → ⊥) → Walking f m word head next
            unfolding among
            walk_on n = record { low = omega (arith, walk_falls, walking.low); same = walking.same ∙ rw (up, ne_eqb w word n, en) }

pub ruleset walk_laws = (walk_begin, walk_end, walk_small, walk_inside, walk_found, walk_falls, walk_on)

-- a leaf, and what stands above it
pub stuck_none : (f m : List ℕ) {head : ℕ} → head ≡ 0 → false ≡ stuck_at f m head
unfolding stuck_at
stuck_none f m z = rw z

module _ {f m : List ℕ} {head : ℕ} where
  module _ (good : Good f m) (noted : Noted f m head) (few : head ≤ most_leaves) (some : head ≡ 0 → ⊥) where
    pub stuck_small : (length m ≡ work_words) × (0 < head) × (head ≤ most_leaves)
    stuck_small = (good.size, omega arith, few)

    module _ {parent : ℕ} (ep : parent ≡ parent_at m (head - 1)) where
      pub stuck_low : parent ≤ most_leaves
      stuck_low = omega (arith, ep, noted.up (head - 1) (omega arith))

      pub stuck_noted : Noted f m parent
      stuck_noted = noted_below (omega (arith, ep, noted.up (head - 1) (omega arith))) noted

    module _ {literal : ℕ} (el : literal ≡ literal_at m (head - 1)) where
      pub stuck_inside : Inside f m literal
      stuck_inside = rw el (stands_inside f m (literal_at m (head - 1)) good (noted.stands (head - 1) (omega arith)))

      pub stuck_some : {w wanted parent : ℕ} {q : Bool} → w ≡ word_at f m literal → wanted ≡ other_sign w → parent ≡ parent_at m (head - 1)
          → q ≡ among wanted (words_up f m parent) → not q ≡ stuck_at f m head
      unfolding stuck_at
      stuck_some {q = q} ew eo ep eq = go head (omega arith) refl
        where
          go : (h : ℕ) → 0 < h → head ≡ h → not q ≡ stuck_at f m h
          go zero l e = absurd (omega arith)
          go (suc c) l e =
              let k : head - 1 ≡ c = omega arith in
              rw (eq, eo, ew, el, ep, k)

pub ruleset stuck_laws = (stuck_none, stuck_small, stuck_low, stuck_noted, stuck_inside, stuck_some)

-- how far the first literal that hangs was sought
pub record Seeking (f : List ℕ) (start entered offset : ℕ) : Type 0 where
  pub within : offset ≤ 256
  pub some : 0 < length (hanging_at f start entered)
  pub same : hanging_at f start entered ≡ hanging entered offset (drop offset (own_words f start))

module _ {f : List ℕ} {start entered : ℕ} where
  pub seek_begin : 0 < length (hanging_at f start entered) → Seeking f start entered 1
  seek_begin h = record { within = omega arith; some = h; same = refl }

  module _ {offset : ℕ} (seeking : Seeking f start entered offset) where
    unpassed : offset < length (own_words f start)
    unfolding hanging
    unpassed = go (ltb offset (length (own_words f start))) refl
      where
        go : (b : Bool) → ltb offset (length (own_words f start)) ≡ b → offset < length (own_words f start)
        go true e = ltb-true _ _ e
        go false e =
            let none : length (hanging_at f start entered) ≡ 0 = ap length seeking.same ∙ rw (drop_of_length-le (own_words f start) (ltb-false _ _ e)) in
            absurd (omega (arith, seeking.some))

    pub seek_small : offset < 256
    seek_small = omega (arith, unpassed, own_small f start)

    pub seek_less : 256 - (offset + 1) < 256 - offset
    seek_less = omega (arith, seek_small)

    module _ {a b : ℕ} (ea : a ≡ start) (eb : b ≡ offset) where
      pub seek_inside : a + b < length f
      seek_inside = rw (ea, eb) (own_inside f start offset unpassed)

      module _ {q : Bool} (eq : q ≡ hangs entered offset (get_or f (a + b) 0)) where
        step : hanging_at f start entered ≡ cond q (offset ∷ hanging entered (offset + 1) (drop (offset + 1) (own_words f start))) (hanging entered (offset + 1) (drop (offset + 1) (own_words f start)))
        unfolding hanging
        step =
            let i : offset < length (own_words f start) = unpassed in
            seeking.same ∙ rw (drop-cons (own_words f start) offset 0 i, own_word f start offset i, add-one, eq, ea, eb)

        pub seek_past : q ≡ false → Seeking f start entered (offset + 1)
        seek_past e = record { within = omega (arith, seek_small); some = seeking.some; same = rw e at step }

        pub seek_found : q ≡ true → offset ≡ get_or (hanging_at f start entered) 0 0
        seek_found e =
            let whole : hanging_at f start entered ≡ offset ∷ hanging entered (offset + 1) (drop (offset + 1) (own_words f start)) = rw e at step in
            sym (ap (λ (os : List ℕ). get_or os 0 0) whole)

pub ruleset seek_laws = (seek_begin, seek_small, seek_less, seek_inside, seek_past, seek_found)

-- the leaf that comes first after an extension
module _ {f m : List ℕ} {place : Place} {start offset : ℕ} (x : Extensible f m place start offset) where
  count : length (hanging_at f start offset) ≡ literals_of (get_or f start 0) - 1
  count = hanging_fewer x.openable.clause x.number x.entered

  pub end_start : start < length f
  end_start = x.openable.clause.inside

  few-leaves : place.leaves ≤ most_leaves
  few-leaves = omega (arith, x.openable.ready.room, x.openable.ready.good.copies)

  pub end_few : place.head ≤ most_leaves
  end_few = omega (arith, x.openable.ready.head, few-leaves)

  pub end_noted : Noted f m place.head
  end_noted = noted_below x.openable.ready.head x.openable.ready.noted

  module _ {rest : ℕ} (er : rest ≡ rest_of m place) where
    rest_low : rest ≤ place.leaves
    rest_low =
        let h = x.openable.some_open in
        omega (arith, er, x.openable.ready.head, x.openable.ready.noted.right (place.head - 1) (omega (arith, x.openable.ready.head)))

    pub rest_few : rest ≤ most_leaves
    rest_few = omega (arith, rest_low, few-leaves)

    pub rest_noted : Noted f m rest
    rest_noted = noted_below rest_low x.openable.ready.noted

  module _ {s n : ℕ} (es : s ≡ start) (en : n ≡ literals_of (get_or f s 0)) where
    pub end_alone : n ≡ 1 → {rest : ℕ} {q : Bool} → rest ≡ rest_of m place → q ≡ stuck_at f m rest → q ≡ dead_end f m place start offset
    unfolding dead_end_by
    end_alone e {rest} {q} er eq = go (hanging_at f start offset) (count ∙ omega (arith, en, ap (λ (k : ℕ). literals_of (get_or f k 0)) es))
      where
        go : (os : List ℕ) → length os ≡ 0 → q ≡ dead_end_by f m place start os
        go [] l = rw (← er) eq
        go (o ∷ os) l = absurd (omega arith)

    module _ (more : n ≡ 1 → ⊥) where
      pub end_some : 0 < length (hanging_at f start offset)
      end_some = omega (arith, count, en, ap (λ (k : ℕ). literals_of (get_or f k 0)) es, clause_some x.openable.clause)

      module _ {other : ℕ} (eo : other ≡ get_or (hanging_at f start offset) 0 0) where
        pub end_more : {a b wanted : ℕ} {q : Bool} → a ≡ start → b ≡ other → wanted ≡ other_sign (get_or f (a + b) 0)
            → q ≡ among wanted (words_up f m place.head) → not q ≡ dead_end f m place start offset
        unfolding dead_end_by
        end_more {a} {b} {wanted} {q} ea eb ew eq = go (hanging_at f start offset) eo end_some
          where
            go : (os : List ℕ) → other ≡ get_or os 0 0 → 0 < length os → not q ≡ dead_end_by f m place start os
            go [] e l = absurd (omega arith)
            go (o ∷ os) e l = rw (eq, ew, ea, eb, e)

        pub end_inside : {a b : ℕ} → a ≡ start → b ≡ other → a + b < length f
        unfolding All
        end_inside {a} {b} ea eb = go (hanging_at f start offset) eo end_some (clause_hanging x.openable.clause offset)
          where
            go : (os : List ℕ) → other ≡ get_or os 0 0 → 0 < length os → All (ReadsOn (variables_of (get_or f start 0)) (own_words f start)) os → a + b < length f
            go [] e l r = absurd (omega arith)
            go (o ∷ os) e l r = rw (ea, eb, e) (own_inside f start o r.0.within)

pub ruleset end_laws = (end_start, end_few, end_noted, rest_few, rest_noted, end_alone, end_some, end_more, end_inside)

-- the first argument of a literal
module _ {f m : List ℕ} {literal : ℕ} (good : Good f m) (stands : LiteralStands f m literal) where
  pub symbol_inside : Inside f m literal
  symbol_inside = stands_inside f m literal good stands

  pub symbol_none : Opening f m literal 0
  symbol_none e = absurd (omega (arith, e))

  module _ {w a : ℕ} (ew : w ≡ word_at f m literal) (ea : a ≡ arity_of w) (some : a ≡ 0 → ⊥) where
    positive : 0 < arity_of (word_at f m literal)
    positive = omega (arith, ea, ap arity_of ew)

    pub symbol_points : Points f m (literal + 1) 1
    symbol_points = points_fewer (omega (arith, positive)) (literal_ahead stands positive)

    pub symbol_small : literal < 4294967295
    symbol_small = omega (arith, stands.made, good.copies)

    module _ {to : ℕ} (followed : FollowedTo f m (literal + 1) to) where
      pub symbol_there : Inside f m to
      symbol_there = points_inside followed.points good.size good.copies

      pub symbol_opens : {v : ℕ} → v ≡ word_at f m to → v < 2 ^ 32 → Opening f m literal v
      symbol_opens ev low k =
          let applied : kind_of (word_at f m to) ≡ 0 → ⊥ = λ e. omega (arith, ap kind_of ev, k, e) in
          record {
            some = positive;
            arguments = first (arity_of (word_at f m to)) (terms_of f m (to + 1));
            followed = sym followed.same ∙ rw ev (function_term followed.points applied);
            count = rw ev (function_arity followed.points applied);
            shaped = rw ev (function_shape followed.points applied);
            small = low;
          }

pub ruleset symbol_laws = (symbol_inside, symbol_none, symbol_points, symbol_small, symbol_there, symbol_opens)

-- the first arguments of two literals
pub parted : {f m : List ℕ} {l r s w k j : ℕ} → Opening f m l s → k ≡ kind_of s → k ≡ 1 → Opening f m r w → j ≡ kind_of w → j ≡ 1 → not (eqb w s) ≡ true → Parted f m l r
parted {s = s} {w = w} ol ek k or ej j e =
    record { symbol = s; against = w; left = ol (sym ek ∙ k); right = or (sym ej ∙ j); differ = eqb-false w s (not-true _ e) }

-- two words
pub clash_variable : (s w : ℕ) {k : ℕ} → k ≡ kind_of s → (k ≡ 1 → ⊥) → false ≡ clashing s w
unfolding clashing
clash_variable s w ek n = rw (ne_eqb (kind_of s) 1 (λ e. n (ek ∙ e)))

module _ (f : List ℕ) (s : ℕ) {k at a j : ℕ} (ek : k ≡ kind_of s) (e : k ≡ 1) (ea : a ≡ at) (ej : j ≡ kind_of (get_or f (a + 1) 0)) where
  pub clash_plain : (j ≡ 1 → ⊥) → eqb j 1 ≡ clashing s (get_or f (at + 1) 0)
  unfolding clashing
  clash_plain n = rw (← ea, eq-eqb (kind_of s) 1 (sym ek ∙ e), ← ej, ne_eqb j 1 n)

  pub clash_told : j ≡ 1 → not (eqb (get_or f (a + 1) 0) s) ≡ clashing s (get_or f (at + 1) 0)
  unfolding clashing
  clash_told d = rw (← ea, eq-eqb (kind_of s) 1 (sym ek ∙ e), eq-eqb (kind_of (get_or f (a + 1) 0)) 1 (sym ej ∙ d))

pub clash_inside : (f : List ℕ) (s : ℕ) {k at a : ℕ} → k ≡ kind_of s → k ≡ 1 → (kind_of s ≡ 1 → at + 1 < length f) → a ≡ at → a + 1 < length f
clash_inside f s ek e h ea = rw ea (h (sym ek ∙ e))

pub ruleset clash_laws = (clash_inside, clash_variable, clash_plain, clash_told)

pub clash_known : (s w : ℕ) → true ≡ clashing s w → (kind_of s ≡ 1) × (kind_of w ≡ 1) × (w ≡ s → ⊥)
unfolding clashing
clash_known s w e = go (eqb (kind_of s) 1) refl (eqb (kind_of w) 1) refl (eqb w s) refl e
  where
    go : (a : Bool) → eqb (kind_of s) 1 ≡ a → (b : Bool) → eqb (kind_of w) 1 ≡ b → (c : Bool) → eqb w s ≡ c → true ≡ a && (b && not c) → (kind_of s ≡ 1) × (kind_of w ≡ 1) × (w ≡ s → ⊥)
    go true ea true eb false ec h = (eqb-true _ _ ea, eqb-true _ _ eb, eqb-false _ _ ec)
    go true ea true eb true ec h = let z : ◌≡◌ {A = ℕ} 0 1 = cc in absurd (omega arith)
    go true ea false eb c ec h = let z : ◌≡◌ {A = ℕ} 0 1 = cc in absurd (omega arith)
    go false ea b eb c ec h = let z : ◌≡◌ {A = ℕ} 0 1 = cc in absurd (omega arith)

-- a try in vain is a try that failed
module _ {f m : List ℕ} {task : Task} {place : Place} (treats : Treats f m task place) (some_open : 0 < place.head) where
  attempt-vain : (candidate : Move) → Vain f m task place candidate → (left : ℕ) → Attempted f m m task place candidate left (without Nothing left)
  attempt-vain candidate vain left =
      record {
        leaves = again_none treats.ready.good;
        within = omega arith;
        tells = λ p stands depth enough.
            let some : length (open_leaves f m place) ≡ suc _ = ap length (open_first treats.ready some_open) in
            let deep : suc (depth - 1) ≡ depth = omega (arith, some) in
            rw deep at (vain.says p stands (depth - 1) left);
      }

  pub symbol_asked : {literal : ℕ} → literal ≡ leaf_of m place → Good f m × LiteralStands f m literal
  symbol_asked e = (treats.ready.good, rw e (treats.ready.noted.stands (place.head - 1) (omega (arith, treats.ready.head))))

  pub seen_parted : {leaf literal height : ℕ} → leaf ≡ leaf_of m place → Against f m place literal height → Parted f m leaf literal → Vain f m task place (Reduce literal height)
  seen_parted el against apart = vain_parted treats some_open against (rw el at apart)

module _ {f m₀ m : List ℕ} {task : Task} {place : Place} (treats : Treats f m₀ task place) (some_open : 0 < place.head) where
  pub rowing_vain : {tries left : ℕ} {all rest : List Step} (candidate : Move) → Rowing f m₀ m task place tries left all (step_by candidate ∷ rest) → (left ≡ 0 → ⊥)
      → Vain f m task place candidate → Rowing f m₀ m task place tries (left - 1) all rest
  rowing_vain {left = left} candidate rowing some vain =
      rowing_on treats candidate rowing some (attempt-vain (treats_again treats rowing.again) some_open candidate vain (left - 1)) refl

  pub opening_again : {literal symbol : ℕ} → literal ≡ leaf_of m₀ place → Opening f m₀ literal symbol → Again f m₀ m place → Opening f m (leaf_of m place) symbol
  opening_again {literal} {symbol} el opening again k =
      let opens = opening k in
      let low : place.head - 1 < place.leaves = omega (arith, treats.ready.head, some_open) in
      let stands : LiteralStands f m₀ (leaf_of m₀ place) = treats.ready.noted.stands (place.head - 1) low in
      let same : leaf_of m place ≡ literal = again.later.literals (place.head - 1) low ∙ sym el in
      let word : word_at f m literal ≡ word_at f m₀ literal = rw el (ap (λ (s : ℕ). get_or f (s + leaf_of m₀ place % 256) 0) (again.later.starts (leaf_of m₀ place / 256) stands.made)) in
      let term : term_of f m (literal + 1) ≡ term_of f m₀ (literal + 1) =
      rw el (term_stays f m₀ m (leaf_of m₀ place + 1) (again.later.starts _ (literal_ahead stands (rw el at opens.some)).made)) in
      rw same
      (record {
        some = rw word opens.some;
        arguments = opens.arguments;
        followed = ap₂ follow (bound_again treats.ready again) term ∙ opens.followed;
        count = opens.count;
        shaped = opens.shaped;
        small = opens.small;
      })

-- what the tests show of an extension
module _ {f m : List ℕ} {task : Task} {place : Place} (treats : Treats f m task place) (some_open : 0 < place.head) {scan : Scan} (allows : Allows f m task place (Enter scan)) where
  module _ {symbol : ℕ} (opening : Opening f m (leaf_of m place) symbol) where
    pub seen_inside : kind_of symbol ≡ 1 → scan.at + 1 < length f
    seen_inside k = next_inside treats some_open allows (opening k)

    pub seen_clash : {q : Bool} → q ≡ clashing symbol (get_or f (scan.at + 1) 0) → q ≡ true → Vain f m task place (Enter scan)
    seen_clash eq e =
        let known = clash_known symbol (get_or f (scan.at + 1) 0) (sym e ∙ eq) in
        vain_clash treats some_open allows (opening known.0) known.1 known.2

  pub seen_end : copies_of m ≡ task.bound → {q : Bool} → q ≡ dead_end f m place scan.start (scan.at - scan.start) → q ≡ true → Vain f m task place (Enter scan)
  seen_end used eq e = record { says = λ p stands depth budget. vain_end treats some_open allows p stands used (sym eq ∙ e) depth budget }

pub seen_not : {f m : List ℕ} {task : Task} {place : Place} {candidate : Move} → false ≡ true → Vain f m task place candidate
seen_not e = let z : ◌≡◌ {A = ℕ} 0 1 = cc in absurd (omega arith)

pub ruleset seen_laws = (seen_inside, seen_clash, seen_end, seen_not)
