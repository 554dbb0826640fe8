-- A buffer filled word by word up to its end, and the walk over terms that fills it: one law for each outcome, with premises as the code has them.
use lib.ListN.{length, set, length-append}
use mir.Syntax.{w32}
use mir.Val.{Fits}
use mathlib.Core.List.{List, [], ◌∷◌, ◌++◌, map, map-append, append_assoc, append-nil}
use mathlib.Core.Option.{some}
use mathlib.Core.Path.{◌≡◌, refl, sym, ◌∙◌, ap, ap₂}
use native.Mathlib.Nat.{le_of_suc-le-suc, not-suc-le-zero}
use native.Mathlib.Omega.{arith, min_cases}
use Prim.Native.Nat.{ℕ, zero, suc, ◌+◌, ◌-◌, ◌/◌, ◌^◌, ◌≤◌, ◌<◌}
use Rattle.words.specs.Fields.{kind_of, symbol_of, arity_of, function_word, literal_word}
use Rattle.words.proofs.Packed.{function_word_lem, literal_word_lem}
use Rattle.table.specs.Syntax.{Term, Terms, var, arity, unders, Literal, literal_under}
use Rattle.table.specs.Encode.{literal_words}
use Rattle.table.specs.Decode.{first}
use Rattle.rules.specs.Substitution.{Variable, Substitution}
use Rattle.rules.specs.Tableau.{atom}
use Rattle.text.specs.Put.{put, after}
use Rattle.text.proofs.Putting.{begin, finish, length_put, one, then}
use Rattle.unification.specs.State.{terms_of, literal_at_reference, Points, variable_of}
use Rattle.unification.specs.Good.{word_at, variable_at, arguments_of, Ahead, Inside, LiteralStands, Good, FollowedTo}
use Rattle.unification.proofs.TermLists.{arity_under}
use Rattle.unification.proofs.Words.{function_kind}
use Rattle.unification.proofs.References.{function_shape, points_fewer}
use Rattle.unification.proofs.Atoms.{literal_inside, literal_ahead, literal_atom, literal_arity}
use Rattle.answers.specs.Writing.{Item, fixed, items_among, items_by_kind, word_items, term_items, resolved, WordStands}
use Rattle.answers.proofs.Items.{word_by, terms_words_lem}
use Rattle.answers.proofs.Resolved.{no_items, term_stands}
use Rattle.answers.proofs.Counting.{owed_ahead, owed_items}
use Rattle.answers.proofs.WritingTerms.{write_free, write_function, write_ahead}
use Rattle.engine.proofs.Performed.{literate_sign, stands_literate}
use Rattle.bound_literals.specs.Bound.{tableau_number, words_under}
use Rattle.bound_literals.specs.Held.{Filled, named}

-- nothing is written past the end
past : (out : List ℕ) (at : ℕ) (ws : List ℕ) → length out ≤ at → put out at ws ≡ out
unfolding put
past [] at ws h = refl
past (o ∷ out) zero ws h = absurd (not-suc-le-zero h)
past (o ∷ out) (suc at) ws h = ap (o ∷◌) (past out at ws (le_of_suc-le-suc h))

pub fill_none : (out : List ℕ) (from : ℕ) → from ≤ length out → Filled out from [] out from
fill_none out from h = record { written = (finish (begin out from [])).written; ends = omega arith }

pub fill_one : (out : List ℕ) (from w : ℕ) → from < length out → Filled out from (w ∷ []) (set out from w) (from + 1)
fill_one out from w h = record { written = (one out from w h).written; ends = omega arith }

pub fill_full : (out : List ℕ) (from : ℕ) (ws : List ℕ) → length out ≤ from → from ≤ length out → Filled out from ws out from
fill_full out from ws h k = record { written = sym (past out from ws h); ends = omega arith }

-- one part after another
module _ {out : List ℕ} {from : ℕ} {a mid : List ℕ} {next : ℕ} (k : from ≤ length out) (p : Filled out from a mid next) where
  pub fill_size : length mid ≡ length out
  fill_size = ap length p.written ∙ length_put out from a

  pub fill_inside : next ≤ length mid
  fill_inside = omega (arith, p.ends, fill_size)

  pub fill_low : from ≤ next
  fill_low = omega (arith, p.ends)

  on : (b : List ℕ) → put (put out from a) (after (length out) from (length a)) b ≡ put out from (a ++ b)
  on b = (then {a = a} (record { written = refl; ends = refl }) {b = b} (record { written = refl; ends = refl })).written

  rest-written : (b : List ℕ) → put mid next b ≡ put out from (a ++ b)
  unfolding after
  rest-written b =
      min_cases (from + length a) (length out) _
      (λ h m. let z : next ≡ after (length out) from (length a) = omega (arith, p.ends) in rw (p.written, z) (on b))
      (λ h m.
      past mid next b (omega (arith, p.ends, fill_size))
      ∙ p.written
      ∙ sym (past (put out from a) (after (length out) from (length a)) b (omega (arith, length_put out from a)))
      ∙ on b)

  pub fill_then : {b end : List ℕ} {last : ℕ} → Filled mid next b end last → Filled out from (a ++ b) end last
  fill_then {b} q = record {
    written = q.written ∙ rest-written b;
    ends = omega (arith, q.ends, p.ends, fill_size, length-append a b);
  }

-- a word of a term
module _ {f m : List ℕ} {at w : ℕ} (h : Good f m) (p : Points f m at 1) (ew : w ≡ word_at f m at) where
  word_stands : WordStands f m at w
  word_stands = rw ew (term_stands h p)

  module _ {k : ℕ} (ek : k ≡ kind_of w) where
    -- a function or constant stands as it is
    function-item : (k ≡ 0 → ⊥) → w < 2 ^ 32 → word_items (resolved f m) (at / 256) w ≡ fixed w ∷ []
    unfolding items_by_kind
    function-item n small =
        let s = function_shape p (λ z. n (ek ∙ ap kind_of ew ∙ z)) in
        let kind : kind_of w ≡ 1 = ap kind_of ew ∙ function_kind (word_at f m at) s in
        let same : w ≡ function_word (symbol_of w) (arity_of w) = rw ew (function_word_lem (word_at f m at) s (rw ew at small)) in
        rw kind (ap (λ (x : ℕ). fixed x ∷ []) (sym same))

    pub word_fixed : (k ≡ 0 → ⊥) → w < 2 ^ 32 → {out : List ℕ} {from : ℕ} {left : List ℕ} {next : ℕ} → Filled out from (w ∷ []) left next
        → Filled out from (named (word_items (resolved f m) (at / 256) w)) left next
    unfolding word_by
    word_fixed n small q = rw (function-item n small) q

    module _ (z : k ≡ 0) {q : ℕ} (g : FollowedTo f m at q) {met : ℕ} (em : met ≡ word_at f m q) {k' : ℕ} (ek' : k' ≡ kind_of met) where
      number_of : (v : ℕ) → tableau_number (variable_of v) ≡ v
      number_of v = omega arith

      pub word_free : k' ≡ 0 → {v : ℕ} → v ≡ variable_at q met → {out : List ℕ} {from : ℕ} {left : List ℕ} {next : ℕ} → Filled out from (v ∷ []) left next
          → Filled out from (named (word_items (resolved f m) (at / 256) w)) left next
      unfolding word_by
      word_free z' {v} ev b = rw (write_free h word_stands ek z g em ek' z' ev, number_of v) b

      module _ (n : k' ≡ 0 → ⊥) (small : met < 2 ^ 32) {a : ℕ} (ea : a ≡ arity_of met) where
        pub word_ahead : Ahead f m (q + 1) a
        word_ahead = write_ahead h word_stands ek z g em ek' n small ea

        pub word_function : {out : List ℕ} {from : ℕ} {mid : List ℕ} {next : ℕ} → from ≤ length out → Filled out from (met ∷ []) mid next → {left : List ℕ} {last : ℕ}
            → Filled mid next (named (term_items f m (q + 1) a)) left last → Filled out from (named (word_items (resolved f m) (at / 256) w)) left last
        unfolding word_by
        word_function l b c = rw (write_function h word_stands ek z g em ek' n small ea) (fill_then l b c)

-- how far terms are walked: so many are owed from a place on, and the items before them are written
pub record Walked (f m : List ℕ) (reference count : ℕ) (first : List ℕ) (from : ℕ) (out : List ℕ) (at to owed : ℕ) : Type 0 where
  pub ahead : Ahead f m at owed
  pub done : List Item
  pub items : done ++ term_items f m at owed ≡ term_items f m reference count
  pub begun : from ≤ length first
  pub filled : Filled first from (named done) out to

module _ {f m : List ℕ} {reference count : ℕ} {first : List ℕ} {from : ℕ} where
  pub walk_begin : Ahead f m reference count → from ≤ length first → Walked f m reference count first from first reference from count
  walk_begin a l = record { ahead = a; done = []; items = refl; begun = l; filled = fill_none first from l }

  module _ {out : List ℕ} {at to owed : ℕ} (g : Walked f m reference count first from out at to owed) where
    pub walk_size : length out ≡ length first
    walk_size = fill_size g.begun g.filled

    pub walk_inside : to ≤ length out
    walk_inside = fill_inside g.begun g.filled

    pub walk_low : from ≤ to
    walk_low = fill_low g.begun g.filled

    both : (is js : List Item) → is ++ js ≡ term_items f m reference count → named is ++ named js ≡ named (term_items f m reference count)
    both is js e = sym (map-append (word_by tableau_number) is js) ∙ ap (map (word_by tableau_number)) e

    pub walk_done : owed ≡ 0 → Filled first from (named (term_items f m reference count)) out to
    walk_done e =
        let z : g.done ≡ term_items f m reference count = sym (append-nil g.done) ∙ ap (g.done ++◌) (sym (ap (term_items f m at) e ∙ no_items f m at)) ∙ g.items in
        rw z at g.filled

    pub walk_full : length out ≤ to → Filled first from (named (term_items f m reference count)) out to
    walk_full h =
        rw (both g.done (term_items f m at owed) g.items) at
        (fill_then g.begun g.filled (fill_full out to (named (term_items f m at owed)) h walk_inside))

    module _ (some : owed ≡ 0 → ⊥) where
      pub walk_points : Points f m at 1
      walk_points = points_fewer (omega arith) (g.ahead (omega arith))

      module _ (h : Good f m) {w : ℕ} (ew : w ≡ word_at f m at) where
        pub walk_on : {out' : List ℕ} {to' : ℕ} → Filled out to (named (word_items (resolved f m) (at / 256) w)) out' to'
            → {o : ℕ} → o ≡ owed - 1 + arguments_of (kind_of w) w → Walked f m reference count first from out' (at + 1) to' o
        walk_on q {o} eo =
            let W = word_items (resolved f m) (at / 256) w in
            record {
              ahead = owed_ahead h g.ahead some ew eo;
              done = g.done ++ W;
              items = append_assoc g.done W (term_items f m (at + 1) o) ∙ ap (g.done ++◌) (sym (owed_items h g.ahead some ew eo)) ∙ g.items;
              begun = g.begun;
              filled = rw (sym (map-append (word_by tableau_number) g.done W)) at (fill_then g.begun g.filled q);
            }

pub ruleset walk_laws = (walk_begin, walk_size, walk_inside, walk_low, walk_done, walk_full, walk_points, walk_on)

pub ruleset word_laws = (fill_full, fill_inside, word_fixed, word_free, word_ahead, word_function)

-- a literal's own word, then its arguments
pub literal_fits : {f m : List ℕ} {r : ℕ} → Good f m → LiteralStands f m r → Fits w32 (r + 1)
literal_fits h p = record { fits = omega (arith, p.made, h.copies) }

pub literal_read : {f m : List ℕ} {r : ℕ} → Good f m → LiteralStands f m r → Inside f m r
literal_read h p = literal_inside p h.size h.copies

module _ {f m : List ℕ} {r : ℕ} (p : LiteralStands f m r) (small : word_at f m r < 2 ^ 32) where
  abbrev literal : Literal Variable
  literal = literal_at_reference f m r

  same-predicate : literal.predicate ≡ symbol_of (word_at f m r)
  unfolding atom
  same-predicate = let e = literal_atom p in cc

  same-arguments : literal.arguments ≡ first (arity_of (word_at f m r)) (terms_of f m (r + 1))
  unfolding atom
  same-arguments = let e = literal_atom p in cc

  same_word : (σ : Substitution) (τ : Variable → Term ℕ) → literal_word literal.negative literal.predicate (arity (unders τ (unders σ literal.arguments))) ≡ word_at f m r
  same_word σ τ =
      let shaped = stands_literate f m r p in
      rw (literate_sign shaped, same-predicate, arity_under τ (unders σ literal.arguments), arity_under σ literal.arguments, same-arguments, literal_arity p)
      (sym (literal_word_lem (word_at f m r) shaped.shaped small))

  pub literal_words_lem : words_under (resolved f m) (some literal) ≡ word_at f m r ∷ named (term_items f m (r + 1) (arity_of (word_at f m r)))
  unfolding words_under literal_words literal_under term_items
  literal_words_lem =
      ap₂ ◌∷◌ (same_word (resolved f m) (λ x. var (tableau_number x)))
      (terms_words_lem tableau_number (unders (resolved f m) literal.arguments) ∙ ap (λ (ts : Terms Variable). named (items_among (unders (resolved f m) ts))) same-arguments)

  module _ {w : ℕ} (ew : w ≡ word_at f m r) {a : ℕ} (ea : a ≡ arity_of w) where
    pub literal_next : Ahead f m (r + 1) a
    literal_next = rw (ea, ew) (literal_ahead p)

    pub literal_filled : {out : List ℕ} {mid : List ℕ} {next : ℕ} → Filled out 0 (w ∷ []) mid next → {left : List ℕ} {last : ℕ}
        → Filled mid next (named (term_items f m (r + 1) a)) left last → Filled out 0 (words_under (resolved f m) (some literal)) left last
    literal_filled {out} b c = rw (literal_words_lem, ← ew, ← ea) (fill_then (omega arith) b c)
