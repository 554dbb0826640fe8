-- References: the word that stands at one, the term that it begins, and the reference after it.
use lib.ListN.{length, take, drop, get_or, length-take, length-drop}
use lib.Seq.{drop-cons, get_or-take, get_or-drop}
use mathlib.Core.Bool.{Bool, true, false, cond}
use mathlib.Core.List.{List, ◌∷◌, ◌++◌}
use mathlib.Core.Option.{none, some}
use mathlib.Core.Path.{◌≡◌, refl, sym, ◌∙◌, ap, ap₂}
use native.Mathlib.Nat.{zero-add}
use native.Mathlib.Omega.{arith}
use Prim.Native.Nat.{ℕ, zero, suc, ◌+◌, ◌*◌, ◌-◌, ◌/◌, ◌%◌, ◌≤◌, ◌<◌}
use Rattle.words.specs.Fields.{kind_of, number_of, symbol_of, arity_of, literals_of, variables_of, following_of, function_shaped, clause_shaped}
use Rattle.words.proofs.Packed.{bits_small, clause_variables_small}
use Rattle.table.specs.Syntax.{Terms, var, app, nil, ◌then◌, arity, under, unders}
use Rattle.table.specs.Reading.{fault, clause_fault, clause_fits}
use Rattle.table.specs.Decode.{first, rest, head_term, terms_from}
use Rattle.table.proofs.Bools.{and_left}
use Rattle.rules.specs.Substitution.{Variable}
use Rattle.rules.specs.Tableau.{fresh}
use Rattle.rules.specs.Machinery.Unify.{variables, variables_among, height, height_among}
use Rattle.unification.specs.Places.{work_words, most_copies}
use Rattle.unification.specs.State.{start_at, copies_of, own_words, ClauseAt, words_at, terms_of, term_of, Owing, Points, variable_of}
use Rattle.unification.specs.Good.{word_at, variable_at, arguments_of, variables_here, Inside, Ahead}
use Rattle.unification.proofs.TermLists.{rest_rest, arity_first, arity_under, first_under, rest_under, variables_first}
use Rattle.unification.proofs.Words.{fewer, Begins, a_variable, a_function, begins, function_kind, from_variable, from_function, owing_length, owing_arity, words_height}

-- a variable's copy and number
pub variable_is : (copy number : ℕ) → number < 16 → variable_of (copy * 16 + number) ≡ record { copy = copy; number = number }
variable_is copy number h =
    let c : (copy * 16 + number) / 16 ≡ copy = omega arith in
    let n : (copy * 16 + number) % 16 ≡ number = omega arith in
    λ i. record { copy = c i; number = n i }

-- a clause has at most 16 variables
pub clause_variables : (f : List ℕ) (p : ℕ) → ClauseAt f p → variables_of (get_or f p 0) ≤ 16
unfolding clause_fault
clause_variables f p c = clause_variables_small (get_or f p 0) (and_left (clause_shaped (get_or f p 0)) _ (go (clause_fits (get_or f p 0) (drop (suc p) f)) refl c.sound))
  where
    go : (b : Bool) → clause_fits (get_or f p 0) (drop (suc p) f) ≡ b
        → cond b (fault (variables_of (get_or f p 0)) (literals_of (get_or f p 0)) 0 1 (take (following_of (get_or f p 0)) (drop (suc p) f))) (some 0) ≡ none
        → clause_fits (get_or f p 0) (drop (suc p) f) ≡ true
    go true e s = e
    go false e s = cc

module _ (f m : List ℕ) (r : ℕ) where
  abbrev own : List ℕ
  own = own_words f (start_at m (r / 256))

  -- the words after the one at the reference, and the terms that they say
  abbrev pub further : List ℕ
  further = drop (suc (r % 256)) (own_words f (start_at m (r / 256)))

  abbrev pub variables_at : ℕ
  variables_at = variables_of (get_or f (start_at m (r / 256)) 0)

  unfoldable pub tail_of : Terms Variable
  tail_of = unders (fresh (r / 256)) (terms_from further)

  own_length : length own ≤ 256
  unfolding own_words
  own_length = simp length-take (omega (arith, bits_small 8 8 (get_or f (start_at m (r / 256)) 0)))

  pub own_inside : {i : ℕ} → i < length own → start_at m (r / 256) + i < length f
  unfolding own_words
  own_inside h = omega (arith, simp (length-take, length-drop) at h)

  own_word : {i : ℕ} → i < length own → get_or own i 0 ≡ get_or f (start_at m (r / 256) + i) 0
  unfolding own_words
  own_word {i} h =
      get_or-take (suc (following_of (get_or f (start_at m (r / 256)) 0))) (drop (start_at m (r / 256)) f) i 0 (omega (arith, simp length-take at h)) ∙ get_or-drop (start_at m (r / 256)) f i 0

  pub words_here : r % 256 < length own → words_at f m r ≡ word_at f m r ∷ further
  unfolding words_at
  words_here h = drop-cons own (r % 256) 0 h ∙ ap (◌∷ further) (own_word h)

  words-next : 0 < length further → (words_at f m (r + 1) ≡ further) × ((r + 1) / 256 ≡ r / 256)
  unfolding words_at
  words-next h =
      let k : suc (r % 256) < length own = omega (arith, simp length-drop at h) in
      let d : (r + 1) / 256 ≡ r / 256 = omega (arith, own_length) in
      let e : (r + 1) % 256 ≡ suc (r % 256) = omega (arith, own_length) in
      (rw (d, e), d)

  -- what the word at the reference and the words after it say
  says-variable : r % 256 < length own → kind_of (word_at f m r) ≡ 0 → terms_from (words_at f m r) ≡ var (number_of (word_at f m r)) then terms_from further
  says-variable h e = ap terms_from (words_here h) ∙ from_variable (word_at f m r) further e

  says-function : r % 256 < length own → kind_of (word_at f m r) ≡ 1
      → terms_from (words_at f m r)
      ≡ app (symbol_of (word_at f m r)) (first (arity_of (word_at f m r)) (terms_from further)) then rest (arity_of (word_at f m r)) (terms_from further)
  says-function h e = ap terms_from (words_here h) ∙ from_function (word_at f m r) further e

  -- the terms after the word at the reference
  module _ (k : ℕ) (some : 0 < k) (o : Owing variables_at k further) where
    pub next_points : r / 256 < copies_of m → Points f m (r + 1) k
    next_points made =
        let w = words-next (omega (arith, owing_length further k o)) in
        record { made = rw w.1 made; owing = rw (w.0, w.1) o }

    pub next_terms : terms_of f m (r + 1) ≡ tail_of
    unfolding terms_of tail_of
    next_terms = let w = words-next (omega (arith, owing_length further k o)) in rw (w.0, w.1)

    pub next_copy : (r + 1) / 256 ≡ r / 256
    next_copy = (words-next (omega (arith, owing_length further k o))).1

  pub next_first : (k : ℕ) → Owing variables_at k further → first k tail_of ≡ first k (terms_of f m (r + 1))
  unfolding first
  next_first zero o = refl
  next_first (suc k) o = ap (first (suc k)) (sym (next_terms (suc k) (omega arith) o))

module _ {f m : List ℕ} {r n : ℕ} (p : Points f m r (suc n)) where
  pub some_left : r % 256 < length (own_words f (start_at m (r / 256)))
  unfolding words_at
  some_left = omega (arith, simp length-drop at (owing_length (words_at f m r) (suc n) p.owing))

  here : Begins (variables_at f m r) n (word_at f m r) (further f m r)
  here = begins (rw (words_here f m r some_left) at p.owing)

  pub points_inside : length m ≡ work_words → copies_of m ≤ most_copies → Inside f m r
  points_inside l c = record { size = l; copy = omega (arith, p.made); within = own_inside f m r some_left }

  pub few : suc n ≤ 256
  unfolding words_at
  few = omega (arith, own_length f m r, simp length-drop at (owing_length (words_at f m r) (suc n) p.owing))

  -- a variable's word
  module _ (e : kind_of (word_at f m r) ≡ 0) where
    after-variable : (number_of (word_at f m r) < variables_at f m r) × Owing (variables_at f m r) n (further f m r)
    after-variable = go here
      where
        go : Begins (variables_at f m r) n (word_at f m r) (further f m r) → (number_of (word_at f m r) < variables_at f m r) × Owing (variables_at f m r) n (further f m r)
        go (a_variable k l o) = (l, o)
        go (a_function s o) = absurd (let k = function_kind (word_at f m r) s in omega (arith, k, e))

    module _ (small : variables_at f m r ≤ 16) where
      number_small : number_of (word_at f m r) < 16
      number_small = omega (arith, after-variable.0)

      pub variable_copy : variable_at r (word_at f m r) / 16 ≡ r / 256
      variable_copy = omega (arith, number_small)

      pub variable_terms : terms_of f m r ≡ var (variable_of (variable_at r (word_at f m r))) then tail_of f m r
      unfolding terms_of tail_of under fresh
      variable_terms = rw (says-variable f m r some_left e, variable_is (r / 256) (number_of (word_at f m r)) number_small)

      pub variable_term : term_of f m r ≡ var (variable_of (variable_at r (word_at f m r)))
      unfolding term_of head_term under fresh
      variable_term = rw (says-variable f m r some_left e, variable_is (r / 256) (number_of (word_at f m r)) number_small)

  -- a function's word
  module _ (e : kind_of (word_at f m r) ≡ 0 → ⊥) where
    after-function : (function_shaped (word_at f m r) ≡ true) × Owing (variables_at f m r) (arity_of (word_at f m r) + n) (further f m r)
    after-function = go here
      where
        go : Begins (variables_at f m r) n (word_at f m r) (further f m r) → (function_shaped (word_at f m r) ≡ true) × Owing (variables_at f m r) (arity_of (word_at f m r) + n) (further f m r)
        go (a_variable k l o) = absurd (e k)
        go (a_function s o) = (s, o)

    pub function_shape : function_shaped (word_at f m r) ≡ true
    function_shape = after-function.0

    pub function_terms : terms_of f m r
        ≡ app (symbol_of (word_at f m r)) (first (arity_of (word_at f m r)) (tail_of f m r)) then rest (arity_of (word_at f m r)) (tail_of f m r)
    unfolding terms_of tail_of under
    function_terms =
        rw (says-function f m r some_left (function_kind _ function_shape))
        (ap₂ (λ (ss ts : Terms Variable). app (symbol_of (word_at f m r)) ss then ts)
        (first_under (fresh (r / 256)) (arity_of (word_at f m r)) _) (rest_under (fresh (r / 256)) (arity_of (word_at f m r)) _))

    pub function_arguments : first (arity_of (word_at f m r)) (tail_of f m r) ≡ first (arity_of (word_at f m r)) (terms_of f m (r + 1))
    function_arguments = next_first f m r (arity_of (word_at f m r)) (fewer (omega arith) after-function.1)

    -- the first terms, and those that stand there with the arguments of the first of them in its place
    pub function_first : first (suc n) (terms_of f m r)
        ≡ app (symbol_of (word_at f m r)) (first (arity_of (word_at f m r)) (tail_of f m r)) then first n (rest (arity_of (word_at f m r)) (tail_of f m r))
    unfolding first
    function_first = ap (first (suc n)) function_terms

    pub function_further : first (arity_of (word_at f m r) + n) (tail_of f m r) ≡ first (arity_of (word_at f m r) + n) (terms_of f m (r + 1))
    function_further = next_first f m r (arity_of (word_at f m r) + n) after-function.1

    pub function_term : term_of f m r ≡ app (symbol_of (word_at f m r)) (first (arity_of (word_at f m r)) (terms_of f m (r + 1)))
    unfolding term_of head_term under tail_of
    function_term =
        rw (says-function f m r some_left (function_kind _ function_shape))
        (ap (app (symbol_of (word_at f m r))) (first_under (fresh (r / 256)) (arity_of (word_at f m r)) _ ∙ function_arguments))

    pub function_next : Ahead f m (r + 1) (arity_of (word_at f m r) + n)
    function_next h = next_points f m r (arity_of (word_at f m r) + n) h after-function.1 p.made

    pub function_arity : arity (first (arity_of (word_at f m r)) (terms_of f m (r + 1))) ≡ arity_of (word_at f m r)
    unfolding tail_of
    function_arity =
        ap arity (sym function_arguments)
        ∙ arity_first (arity_of (word_at f m r)) (tail_of f m r)
        (omega (arith, owing_arity (further f m r) (arity_of (word_at f m r)) (fewer (omega arith) after-function.1), arity_under (fresh (r / 256)) (terms_from (further f m r))))

  -- so many arguments follow the word
  module _ (A : ℕ → Type 0) where
    by_kind : (kind_of (word_at f m r) ≡ 0 → A 0) → ((kind_of (word_at f m r) ≡ 0 → ⊥) → A (arity_of (word_at f m r)))
        → A (arguments_of (kind_of (word_at f m r)) (word_at f m r))
    by_kind a b = go here
      where
        go : Begins (variables_at f m r) n (word_at f m r) (further f m r) → A (arguments_of (kind_of (word_at f m r)) (word_at f m r))
        go (a_variable k l o) = rw k (a k)
        go (a_function s o) = let k = function_kind (word_at f m r) s in rw k (b (λ e. omega (arith, k, e)))

  arguments-after : Owing (variables_at f m r) (arguments_of (kind_of (word_at f m r)) (word_at f m r) + n) (further f m r)
  arguments-after =
      by_kind (λ a. Owing (variables_at f m r) (a + n) (further f m r)) (λ e. rw (zero-add n) (after-variable e).1) (λ e. (after-function e).1)

  pub step_points : Ahead f m (r + 1) (arguments_of (kind_of (word_at f m r)) (word_at f m r) + n)
  step_points h = next_points f m r _ h arguments-after p.made

  pub step_copy : 0 < arguments_of (kind_of (word_at f m r)) (word_at f m r) + n → (r + 1) / 256 ≡ r / 256
  step_copy h = next_copy f m r _ h arguments-after

  pub step_terms : 0 < arguments_of (kind_of (word_at f m r)) (word_at f m r) + n → terms_of f m (r + 1) ≡ tail_of f m r
  step_terms h = next_terms f m r _ h arguments-after

  pub step_rest : variables_at f m r ≤ 16 → (k : ℕ) → rest (suc k) (terms_of f m r) ≡ rest (arguments_of (kind_of (word_at f m r)) (word_at f m r) + k) (tail_of f m r)
  unfolding rest
  step_rest small k =
      by_kind
      (λ a. rest (suc k) (terms_of f m r) ≡ rest (a + k) (tail_of f m r))
      (λ e. rw (variable_terms e small, zero-add))
      (λ e. rw (function_terms e) (rest_rest (arity_of (word_at f m r)) k (tail_of f m r)))

  -- the variables of the first terms
  step-variable : kind_of (word_at f m r) ≡ 0 → variables_at f m r ≤ 16
      → variables_among (first (suc n) (terms_of f m r)) ≡ variable_of (variable_at r (word_at f m r)) ∷ variables_among (first n (terms_of f m (r + 1)))
  unfolding first variables
  step-variable e small = rw (variable_terms e small, ← next_first f m r n (after-variable e).1)

  step-function : (kind_of (word_at f m r) ≡ 0 → ⊥)
      → variables_among (first (suc n) (terms_of f m r)) ≡ variables_among (first (arity_of (word_at f m r) + n) (terms_of f m (r + 1)))
  unfolding variables
  step-function e =
      rw (function_first e, ← function_further e)
      (sym (variables_first (arity_of (word_at f m r)) n (tail_of f m r)))

  pub step_variables : variables_at f m r ≤ 16
      → variables_among (first (suc n) (terms_of f m r))
      ≡ variables_here (kind_of (word_at f m r)) r (word_at f m r)
      ++ variables_among (first (arguments_of (kind_of (word_at f m r)) (word_at f m r) + n) (terms_of f m (r + 1)))
  step_variables small = go here
    where
      go : Begins (variables_at f m r) n (word_at f m r) (further f m r) → variables_among (first (suc n) (terms_of f m r))
          ≡ variables_here (kind_of (word_at f m r)) r (word_at f m r)
          ++ variables_among (first (arguments_of (kind_of (word_at f m r)) (word_at f m r) + n) (terms_of f m (r + 1)))
      go (a_variable k l o) = rw (k, zero-add n) (step-variable k small)
      go (a_function s o) = let k = function_kind (word_at f m r) s in rw k (step-function (λ e. omega (arith, k, e)))

-- so many terms are there
pub points_terms : {f m : List ℕ} {r n : ℕ} → Points f m r n → n ≤ arity (terms_of f m r)
unfolding terms_of
points_terms {f} {m} {r} {n} p =
    omega (arith, owing_arity (words_at f m r) n p.owing, arity_under (fresh (r / 256)) (terms_from (words_at f m r)))

pub points_fewer : {f m : List ℕ} {r a b : ℕ} → a ≤ b → Points f m r b → Points f m r a
points_fewer h p = record { made = p.made; owing = fewer h p.owing }

-- the first of them, and the others
pub first_terms : {f m : List ℕ} {r n : ℕ} → Points f m r (suc n) → (k : ℕ) → first (suc k) (terms_of f m r) ≡ term_of f m r then first k (rest 1 (terms_of f m r))
unfolding terms_of term_of first rest head_term under arity
first_terms {f} {m} {r} {n} p k = go (terms_from (words_at f m r)) (owing_arity (words_at f m r) (suc n) p.owing)
  where
    go : (ts : Terms ℕ) → suc n ≤ arity ts
        → first (suc k) (unders (fresh (r / 256)) ts) ≡ under (fresh (r / 256)) (head_term ts) then first k (rest 1 (unders (fresh (r / 256)) ts))
    go nil h = absurd (omega arith)
    go (t then ts) h = refl

-- heights
words_length : (f m : List ℕ) (r : ℕ) → length (words_at f m r) ≤ 256
unfolding words_at
words_length f m r = rw length-drop (omega (arith, own_length f m r))

pub terms_height : (f m : List ℕ) (r : ℕ) → height_among (terms_of f m r) ≤ 256
unfolding terms_of
terms_height f m r = omega (arith, words_height (r / 256) (words_at f m r), words_length f m r)

pub term_height : (f m : List ℕ) (r : ℕ) → height (term_of f m r) ≤ 256
unfolding term_of head_term under height fresh
term_height f m r =
    go (terms_from (words_at f m r)) (omega (arith, words_height (r / 256) (words_at f m r), words_length f m r))
  where
    go : (ts : Terms ℕ) → height_among (unders (fresh (r / 256)) ts) ≤ 256 → height (under (fresh (r / 256)) (head_term ts)) ≤ 256
    go nil h = omega arith
    go (t then ts) h = omega arith
