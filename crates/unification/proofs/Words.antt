-- Words that go on with terms: the word where a term begins, what is owed after it, and the terms that the words say.
use lib.ListN.{length}
use borrow.Author.Tests.{ltb-true}
use mathlib.Core.Bool.{Bool, true, false, cond}
use mathlib.Core.List.{List, [], ◌∷◌}
use mathlib.Core.Option.{none, some}
use mathlib.Core.Path.{◌≡◌, refl, ap}
use native.Mathlib.Nat.{zero-add, suc-add, add_assoc}
use native.Mathlib.Omega.{arith}
use Prim.Native.Nat.{ℕ, zero, suc, ◌+◌, ◌-◌, ◌≤◌, ◌<◌}
use Rattle.words.specs.Fields.{kind_of, number_of, symbol_of, arity_of, variable_shaped, function_shaped, literal_shaped}
use Rattle.words.proofs.Packed.{plain_kind, function_plain, literal_plain}
use Rattle.table.specs.Syntax.{var, app, nil, ◌then◌, arity, under, unders}
use Rattle.table.specs.Reading.{variable_fits, term_arity, after_term, after_literal, after, stops_short, onward, fault}
use Rattle.table.specs.Decode.{first, rest, before, terms_from}
use Rattle.table.proofs.Bools.{and_left, and_right}
use Rattle.rules.specs.Tableau.{fresh}
use Rattle.rules.specs.Machinery.Unify.{height, height_among}
use Rattle.unification.specs.State.{Owing}
use Rattle.unification.proofs.TermLists.{arity_rest, first_under, rest_under, height_first, height_rest}

-- the word where a term begins, before further terms
pub data Opens (P : ℕ → Type 0) (v n w : ℕ) : Type 0 where
  a_variable : kind_of w ≡ 0 → number_of w < v → P n → Opens P v n w
  a_function : function_shaped w ≡ true → P (arity_of w + n) → Opens P v n w

abbrev pub Begins : ℕ → ℕ → ℕ → List ℕ → Type 0
Begins v n w ws = Opens (λ k. Owing v k ws) v n w

opens : (v l n p w : ℕ) (ws : List ℕ) → fault v l (suc n) p (w ∷ ws) ≡ none → Opens (λ k. fault v l k (p + 1) ws ≡ none) v n w
unfolding fault onward after after_term term_arity
opens v l n p w ws e = go (variable_fits v w) (function_shaped w) refl refl e
  where
    go : (b c : Bool) → variable_fits v w ≡ b → function_shaped w ≡ c
        → onward (after_term l n (cond b (some 0) (cond c (some (arity_of w)) none))) p (λ l t. fault v l t (p + 1) ws) ≡ none
        → Opens (λ k. fault v l k (p + 1) ws ≡ none) v n w
    go true c d q s =
        a_variable (plain_kind 0 10 w (and_left (variable_shaped w) _ d)) (ltb-true _ _ (and_right (variable_shaped w) _ d)) (rw zero-add at s)
    go false true d q s = a_function q s
    go false false d q s = absurd (let z : ◌≡◌ {A = ℕ} 0 1 = cc in omega arith)

pub some_word : {v n : ℕ} → Owing v (suc n) [] → ⊥
unfolding fault stops_short
some_word {v} {n} o = let z : ◌≡◌ {A = ℕ} 0 1 = cc (rw (suc-add n o.more) at o.sound) in omega arith

pub begins : {v n w : ℕ} {ws : List ℕ} → Owing v (suc n) (w ∷ ws) → Begins v n w ws
begins {v} {n} {w} {ws} o = go (opens v o.literals (n + o.more) o.place w ws (rw (suc-add n o.more) at o.sound))
  where
    owing : (k : ℕ) → fault v o.literals (k + o.more) (o.place + 1) ws ≡ none → Owing v k ws
    owing k s = record { more = o.more; literals = o.literals; place = o.place + 1; sound = s }

    go : Opens (λ k. fault v o.literals k (o.place + 1) ws ≡ none) v (n + o.more) w → Begins v n w ws
    go (a_variable k l s) = a_variable k l (owing n s)
    go (a_function k s) = a_function k (owing (arity_of w + n) (rw (add_assoc (arity_of w) n o.more) s))

pub fewer : {v a b : ℕ} {ws : List ℕ} → a ≤ b → Owing v b ws → Owing v a ws
fewer {v} {a} {b} h o =
    let z : b + o.more ≡ a + (b - a + o.more) = omega arith in
    record { more = b - a + o.more; literals = o.literals; place = o.place; sound = rw z at o.sound }

pub function_kind : (w : ℕ) → function_shaped w ≡ true → kind_of w ≡ 1
function_kind w s = plain_kind 1 15 w (function_plain w s)

-- what the words say, by the kind of the first
pub from_variable : (w : ℕ) (ws : List ℕ) → kind_of w ≡ 0 → terms_from (w ∷ ws) ≡ var (number_of w) then terms_from ws
unfolding terms_from before
from_variable w ws e = ap (λ (k : ℕ). before k w (terms_from ws)) e

pub from_function : (w : ℕ) (ws : List ℕ) → kind_of w ≡ 1
    → terms_from (w ∷ ws) ≡ app (symbol_of w) (first (arity_of w) (terms_from ws)) then rest (arity_of w) (terms_from ws)
unfolding terms_from before
from_function w ws e = ap (λ (k : ℕ). before k w (terms_from ws)) e

-- no more terms are owed than there are words, or than the words say
none_owed : {v : ℕ} (n : ℕ) → Owing v n [] → n ≡ 0
none_owed zero o = refl
none_owed (suc n) o = absurd (some_word o)

pub owing_length : {v : ℕ} (ws : List ℕ) (n : ℕ) → Owing v n ws → n ≤ length ws
owing_length [] n o = omega (arith, none_owed n o)
owing_length {v} (w ∷ ws) n o = go n o (owing_length ws)
  where
    more : {n : ℕ} → ((k : ℕ) → Owing v k ws → k ≤ length ws) → Begins v n w ws → suc n ≤ suc (length ws)
    more h (a_variable k l p) = omega (arith, h _ p)
    more h (a_function s p) = omega (arith, h _ p)

    go : (n : ℕ) → Owing v n (w ∷ ws) → ((k : ℕ) → Owing v k ws → k ≤ length ws) → n ≤ suc (length ws)
    go zero o h = omega arith
    go (suc n) o h = more h (begins o)

pub owing_arity : {v : ℕ} (ws : List ℕ) (n : ℕ) → Owing v n ws → n ≤ arity (terms_from ws)
unfolding arity
owing_arity [] n o = omega (arith, none_owed n o)
owing_arity {v} (w ∷ ws) n o = go n o (owing_arity ws)
  where
    more : {n : ℕ} → ((k : ℕ) → Owing v k ws → k ≤ arity (terms_from ws)) → Begins v n w ws → suc n ≤ arity (terms_from (w ∷ ws))
    more h (a_variable k l p) = rw (from_variable w ws k) (omega (arith, h _ p))
    more h (a_function s p) =
        rw (from_function w ws (function_kind w s)) (omega (arith, h _ p, arity_rest (arity_of w) (terms_from ws)))

    go : (n : ℕ) → Owing v n (w ∷ ws) → ((k : ℕ) → Owing v k ws → k ≤ arity (terms_from ws)) → n ≤ arity (terms_from (w ∷ ws))
    go zero o h = omega arith
    go (suc n) o h = more h (begins o)

-- a literal's word, and its arguments
pub from_literal : (w : ℕ) (ws : List ℕ) → literal_shaped w ≡ true → terms_from (w ∷ ws) ≡ nil
unfolding terms_from before
from_literal w ws s = ap (λ (k : ℕ). before k w (terms_from ws)) (plain_kind 2 16 w (literal_plain w s))

pub some_literal : (v l p : ℕ) → fault v (suc l) 0 p [] ≡ none → ⊥
unfolding fault stops_short
some_literal v l p e = let z : ◌≡◌ {A = ℕ} 0 1 = cc in omega arith

pub literal_begins : (v l p w : ℕ) (ws : List ℕ) → fault v (suc l) 0 p (w ∷ ws) ≡ none → (literal_shaped w ≡ true) × (fault v l (arity_of w) (p + 1) ws ≡ none)
unfolding fault onward after after_literal
literal_begins v l p w ws e = go (literal_shaped w) refl e
  where
    go : (b : Bool) → literal_shaped w ≡ b → onward (cond b (some (record { literals = l; terms = arity_of w })) none) p (λ l t. fault v l t (p + 1) ws) ≡ none
        → (literal_shaped w ≡ true) × (fault v l (arity_of w) (p + 1) ws ≡ none)
    go true d s = (d, s)
    go false d s = absurd (let z : ◌≡◌ {A = ℕ} 0 1 = cc in omega arith)

-- words that are well formed to the end say just as many terms as are owed before the next literal
pub exact : (ws : List ℕ) (v l n p : ℕ) → fault v l n p ws ≡ none → arity (terms_from ws) ≡ n
unfolding arity terms_from fault stops_short onward after
exact [] v l n p e = go n e
  where
    go : (n : ℕ) → stops_short l n p ≡ none → 0 ≡ n
    go zero e = refl
    go (suc n) e = absurd (let z : ◌≡◌ {A = ℕ} 0 1 = cc in omega arith)
exact (w ∷ ws) v l n p e = go n l e (exact ws v)
  where
    more : (n l : ℕ) → ((l n p : ℕ) → fault v l n p ws ≡ none → arity (terms_from ws) ≡ n) → Opens (λ k. fault v l k (p + 1) ws ≡ none) v n w → arity (terms_from (w ∷ ws)) ≡ suc n
    more n l h (a_variable k d s) = rw (from_variable w ws k) (ap suc (h l n (p + 1) s))
    more n l h (a_function k s) =
        rw (from_function w ws (function_kind w k)) (omega (arith, h l (arity_of w + n) (p + 1) s, arity_rest (arity_of w) (terms_from ws)))

    go : (n l : ℕ) → fault v l n p (w ∷ ws) ≡ none → ((l n p : ℕ) → fault v l n p ws ≡ none → arity (terms_from ws) ≡ n) → arity (terms_from (w ∷ ws)) ≡ n
    go zero zero e h = absurd (let z : ◌≡◌ {A = ℕ} 0 1 = cc in omega arith)
    go zero (suc l) e h = ap arity (from_literal w ws (literal_begins v l p w ws e).0)
    go (suc n) l e h = more n l h (opens v l n p w ws e)

-- no term is higher than there are words
pub words_height : (copy : ℕ) (ws : List ℕ) → height_among (unders (fresh copy) (terms_from ws)) ≤ length ws
unfolding terms_from before height under fresh
words_height copy [] = omega arith
words_height copy (w ∷ ws) = go (kind_of w) (words_height copy ws)
  where
    go : (k : ℕ) → height_among (unders (fresh copy) (terms_from ws)) ≤ length ws → height_among (unders (fresh copy) (before k w (terms_from ws))) ≤ suc (length ws)
    go zero h = omega arith
    go (suc zero) h =
        rw
        (first_under (fresh copy) (arity_of w) (terms_from ws), rest_under (fresh copy) (arity_of w) (terms_from ws))
        (omega (arith, height_first (arity_of w) (unders (fresh copy) (terms_from ws)), height_rest (arity_of w) (unders (fresh copy) (terms_from ws))))
    go (suc (suc k)) h = omega arith
