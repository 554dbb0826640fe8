-- Over a table with other numbers, each once, the same steps make the image of the tableau.
use borrow.Author.Tests.{eqb-true}
use mathlib.Core.Bool.{Bool, true, false, cond}
use mathlib.Core.List.{List, [], ◌∷◌, ◌++◌, map, map-append}
use mathlib.Core.Option
use mathlib.Core.Option.{Option, none, some}
use mathlib.Core.Path.{◌≡◌, refl, sym, ap, ap₂, subst, ◌∙◌}
use Prim.Native.Nat.{ℕ, zero, suc}
use native.Mathlib.Omega.{arith}
use lib.Dec.{eqb}
use lib.ListN.{length, drop, get_or, get_elem?, length-map}
use Rattle.words.specs.declared.Step.{Step}
use Rattle.words.specs.declared.Step.TheVariants.{Reduction, Extension, Restart, Malformed}
use Rattle.table.specs.Syntax.{Term, var, app, Terms, nil, ◌then◌, under, unders, Literal, literal_under, Clause, Table, all_clauses}
use Rattle.rules.specs.Substitution.{Variable}
use Rattle.rules.specs.Setting.{Profile, Setting, over}
use Rattle.rules.specs.Tableau.{fresh, copy_of, ancestor, Leaf, Tableau, start, hang, questions_with, extended, may_extend, after_restart, may_restart, treated, stepped, Made, as_it_stands, by_step, Closed}
use Rattle.rules.proofs.Steps.{Does, reduces, extends, restarts, does}
use Rattle.rules.proofs.Lists.{none_some, some_last, map_nil_back}
use Rattle.rules.proofs.Every.{All, end, ◌also◌, all_append, some_same}
use Rattle.roundtrip.specs.Renumbered.{variable_uses, variables, renamed_term, renamed_terms, renamed_literal}
use Rattle.roundtrip.proofs.Permutations.{Permutation, numbering}
use Rattle.roundtrip.proofs.Images.{elem_map, image, leaf_image, no_pairs, Image, Both, both_some, both_some_back, hang_image, unifiable_forth, unifiable_back, ancestor_image, reduced_image, entered_image, restarted_image}

-- the numbering of a clause's variables
abbrev pub own : Clause → Permutation ℕ
own c = numbering (variable_uses c.literals)

-- a clause and a table with other numbers
unfoldable pub turned_clause : Permutation ℕ → Permutation ℕ → Clause → Clause
turned_clause p f c =
    record { restricted = false; variables = length (variables c); literals = map (renamed_literal p.to f.to (own c).to) c.literals }

unfoldable pub turned_table : Permutation ℕ → Permutation ℕ → Table → Table
turned_table p f t = record { clauses = map (turned_clause p f) t.clauses; question = turned_clause p f t.question }

-- the clauses that steps copy, in turn, after the start
unfoldable pub copied_by : Table → List Step → List Clause
copied_by t [] = []
copied_by t (Reduction height ∷ ss) = copied_by t ss
copied_by t (Extension i j ∷ ss) = get_or (all_clauses t) i t.question ∷ copied_by t ss
copied_by t (Restart ∷ ss) = t.question ∷ copied_by t ss
copied_by t (Malformed ∷ ss) = copied_by t ss

abbrev pub copies_of : Table → List Step → List Clause
copies_of t steps = t.question ∷ copied_by t steps

-- a variable of a copy has the number that its clause gives it
module _ (other : Clause) (copies : List Clause) where
  abbrev numbering_of : ℕ → Permutation ℕ
  numbering_of copy = own (get_or copies copy other)

  unfoldable pub of_copies : Permutation Variable
  of_copies = record {
    to = λ x. record { copy = x.copy; number = (numbering_of x.copy).to x.number };
    from = λ x. record { copy = x.copy; number = (numbering_of x.copy).from x.number };
    back = λ x. ap (λ (n : ℕ). record { copy = x.copy; number = n }) ((numbering_of x.copy).back x.number);
    forth = λ x. ap (λ (n : ℕ). record { copy = x.copy; number = n }) ((numbering_of x.copy).forth x.number);
  }

-- a copy of a clause
module _ (p f : Permutation ℕ) (other : Clause) (copies : List Clause) (copy : ℕ) (c : Clause) (is : get_or copies copy other ≡ c) where
  abbrev v : Permutation Variable
  v = of_copies other copies

  variable-copied : (x : ℕ) → fresh copy ((own c).to x) ≡ renamed_term f.to v.to (fresh copy x)
  unfolding fresh renamed_term of_copies
  variable-copied x = ap (λ (d : Clause). var (record { copy = copy; number = (own d).to x })) (sym is)

  mutual
    unfolding under renamed_term

    term-copied : (t : Term ℕ) → under (fresh copy) (renamed_term f.to (own c).to t) ≡ renamed_term f.to v.to (under (fresh copy) t)
    term-copied (var x) = variable-copied x
    term-copied (app g ts) = ap (app (f.to g)) (terms-copied ts)

    terms-copied : (ts : Terms ℕ) → unders (fresh copy) (renamed_terms f.to (own c).to ts) ≡ renamed_terms f.to v.to (unders (fresh copy) ts)
    terms-copied nil = refl
    terms-copied (t then ts) = ap₂ ◌then◌ (term-copied t) (terms-copied ts)

  literals-copied : (ls : List (Literal ℕ))
      → map (literal_under (fresh copy)) (map (renamed_literal p.to f.to (own c).to) ls) ≡ map (image p f v) (map (literal_under (fresh copy)) ls)
  unfolding literal_under renamed_literal
  literals-copied [] = refl
  literals-copied (l ∷ ls) = rw (terms-copied l.arguments, literals-copied ls)

  pub clause_copied : copy_of copy (turned_clause p f c) ≡ map (image p f v) (copy_of copy c)
  unfolding copy_of turned_clause
  clause_copied = literals-copied c.literals

-- the clause of a number, and lists from a place on
get_d_some : {A : Type 0} (xs : List A) (n : ℕ) (d : A) {x : A} → get_elem? xs n ≡ some x → get_or xs n d ≡ x
get_d_some [] n d e = absurd (none_some e)
get_d_some (y ∷ xs) zero d e = some_same e
get_d_some (y ∷ xs) (suc n) d e = get_d_some xs n d e

drop_head : {A : Type 0} (xs : List A) (n : ℕ) (d : A) {x : A} {rest : List A} → drop n xs ≡ x ∷ rest → get_or xs n d ≡ x
drop_head [] zero d e = let z : ◌≡◌ {A = ℕ} 0 1 = cc in absurd (omega arith)
drop_head [] (suc n) d e = let z : ◌≡◌ {A = ℕ} 0 1 = cc in absurd (omega arith)
drop_head (y ∷ xs) zero d e = cc
drop_head (y ∷ xs) (suc n) d e = drop_head xs n d e

drop_tail : {A : Type 0} (xs : List A) (n : ℕ) {x : A} {rest : List A} → drop n xs ≡ x ∷ rest → drop (suc n) xs ≡ rest
drop_tail [] zero e = let z : ◌≡◌ {A = ℕ} 0 1 = cc in absurd (omega arith)
drop_tail [] (suc n) e = let z : ◌≡◌ {A = ℕ} 0 1 = cc in absurd (omega arith)
drop_tail (y ∷ xs) zero e = cc
drop_tail (y ∷ xs) (suc n) e = drop_tail xs n e

module _ (rules : Profile) (p f : Permutation ℕ) (t : Table) (bound : ℕ) (copies : List Clause) where
  abbrev u : Table
  u = turned_table p f t

  abbrev S : Setting
  S = over rules t bound

  abbrev U : Setting
  U = over rules u bound

  abbrev w : Permutation Variable
  w = of_copies t.question copies

  all-turned : all_clauses u ≡ map (turned_clause p f) (all_clauses t)
  unfolding all_clauses turned_table
  all-turned = sym (map-append (turned_clause p f) t.clauses (t.question ∷ []))

  same-questions : (i copy : ℕ) (questions : List ℕ) → questions_with u i copy questions ≡ questions_with t i copy questions
  unfolding questions_with turned_table
  same-questions i copy questions = rw (length-map t.clauses (turned_clause p f))

  -- one step, where the copy that it makes is the next
  abbrev Next : Tableau → Step → Type 0
  Next x s =
      ((i j : ℕ) (c : Clause) → s ≡ Extension i j → get_elem? (all_clauses t) i ≡ some c → get_or copies (suc x.extensions) t.question ≡ c)
      × (s ≡ Restart → get_or copies (suc x.extensions) t.question ≡ t.question)

  module _ {x y : Tableau} (m : Image p f w x y) where
    extended-image : (leaf : Leaf) (rest : List Leaf) (i j : ℕ) (o : Option Clause) → ((c : Clause) → o ≡ some c → get_or copies (suc x.extensions) t.question ≡ c)
        → Both p f w (extended t x leaf rest i j o) (extended u y (leaf_image p f w leaf) (map (leaf_image p f w) rest) i j (Option.map (turned_clause p f) o))
    unfolding extended Both
    extended-image leaf rest i j none h = tt
    extended-image leaf rest i j (some c) h =
        let copied : copy_of (suc y.extensions) (turned_clause p f c) ≡ map (image p f w) (copy_of (suc x.extensions) c) =
        ap (λ (n : ℕ). copy_of (suc n) (turned_clause p f c)) m.extensions ∙ clause_copied p f t.question copies (suc x.extensions) c (h c refl) in
        let asked : questions_with u i (suc y.extensions) y.questions ≡ questions_with t i (suc x.extensions) x.questions =
        ap₂ (λ (n : ℕ) (qs : List ℕ). questions_with u i (suc n) qs) m.extensions m.questions ∙ same-questions i (suc x.extensions) x.questions in
        rw (copied, asked, elem_map (image p f w) (copy_of (suc x.extensions) c) j)
        (entered_image p f w m leaf rest (questions_with t i (suc x.extensions) x.questions) j (copy_of (suc x.extensions) c) (get_elem? (copy_of (suc x.extensions) c) j))

    sign-image : (leaf : Leaf) → may_extend U y.extensions (leaf_image p f w leaf) ≡ may_extend S x.extensions leaf
    unfolding leaf_image renamed_literal
    sign-image leaf = rw m.extensions

    anew-image : (leaf : Leaf) → may_restart U y.extensions (leaf_image p f w leaf) ≡ may_restart S x.extensions leaf
    unfolding leaf_image renamed_literal
    anew-image leaf = rw m.extensions

    question-copied : get_or copies (suc x.extensions) t.question ≡ t.question
        → copy_of (suc y.extensions) u.question ≡ map (image p f w) (copy_of (suc x.extensions) t.question)
    unfolding turned_table
    question-copied is =
        ap (λ (n : ℕ). copy_of (suc n) (turned_clause p f t.question)) m.extensions ∙ clause_copied p f t.question copies (suc x.extensions) t.question is

    branch-image : (height : ℕ) (leaf : Leaf) → ancestor height (leaf_image p f w leaf).branch ≡ Option.map (image p f w) (ancestor height leaf.branch)
    unfolding leaf_image
    branch-image height leaf = ancestor_image p f w height leaf.branch

    treated-image : (ls : List Leaf) (s : Step) → Next x s → Both p f w (treated S x ls s) (treated U y (map (leaf_image p f w) ls) s)
    unfolding treated Both
    treated-image [] s h = tt
    treated-image (leaf ∷ rest) (Reduction height) h = rw (branch-image height leaf) (reduced_image p f w m leaf rest (ancestor height leaf.branch))
    treated-image (leaf ∷ rest) (Extension i j) h =
        rw (sign-image leaf, all-turned, elem_map (turned_clause p f) (all_clauses t) i) (go (may_extend S x.extensions leaf))
      where
        go : (b : Bool)
            → Both p f w (cond b (extended t x leaf rest i j (get_elem? (all_clauses t) i)) none)
            (cond b (extended u y (leaf_image p f w leaf) (map (leaf_image p f w) rest) i j (Option.map (turned_clause p f) (get_elem? (all_clauses t) i))) none)
        go true = extended-image leaf rest i j (get_elem? (all_clauses t) i) (λ c e. h.0 i j c refl e)
        go false = tt
    treated-image (leaf ∷ rest) Restart h = rw (anew-image leaf) (go (may_restart S x.extensions leaf))
      where
        go : (b : Bool)
            → Both p f w (cond b (some (after_restart t x leaf rest)) none) (cond b (some (after_restart u y (leaf_image p f w leaf) (map (leaf_image p f w) rest))) none)
        go true = restarted_image p f w m leaf rest t u (question-copied (h.1 refl))
        go false = tt
    treated-image (leaf ∷ rest) Malformed h = tt

    stepped-image : (s : Step) → Next x s → Both p f w (stepped S x s) (stepped U y s)
    unfolding stepped
    stepped-image s h =
        subst (λ (ls : List Leaf). Both p f w (treated S x x.leaves s) (treated U y ls s)) (sym m.leaves) (treated-image x.leaves s h)

  -- the copies still to come are those that the steps left make
  abbrev pub Follows : Tableau → List Step → Type 0
  Follows x ss = drop (suc x.extensions) copies ≡ copied_by t ss

  follows_next : (x : Tableau) (s : Step) (ss : List Step) → Follows x (s ∷ ss) → Next x s
  unfolding copied_by
  follows_next x s ss h = (
    λ i j c e k.
        let g : drop (suc x.extensions) copies ≡ get_or (all_clauses t) i t.question ∷ copied_by t ss = rw e at h in
        drop_head copies (suc x.extensions) t.question g ∙ get_d_some (all_clauses t) i t.question k,
    λ e. let g : drop (suc x.extensions) copies ≡ t.question ∷ copied_by t ss = rw e at h in drop_head copies (suc x.extensions) t.question g,
  )

  pub follows_on : {x z : Tableau} {s : Step} (ss : List Step) → Does S x s z → Follows x (s ∷ ss) → Follows z ss
  unfolding copied_by
  follows_on ss (reduces l a g e) h = rw (← e) h
  follows_on {x} ss (extends l b k a g e) h = rw (← e) (drop_tail copies (suc x.extensions) h)
  follows_on {x} ss (restarts l b e) h = rw (← e) (drop_tail copies (suc x.extensions) h)

  pub step_image : {x y : Tableau} → Image p f w x y → (s : Step) (ss : List Step) → Follows x (s ∷ ss) → Both p f w (stepped S x s) (stepped U y s)
  step_image {x} m s ss h = stepped-image m s (follows_next x s ss h)

  -- the tableaux that steps make
  made-forth : {x y z : Tableau} {ss : List Step} → Image p f w x y → Follows x ss → Made S x ss z → (a : Tableau) × Made U y ss a × Image p f w z a
  made-forth {x} {y} m h as_it_stands = (y, as_it_stands, m)
  made-forth {x} {y} m h (by_step {y = x'} {s = s} {ss = ss} e rest) =
      let k = both_some p f w x' (stepped U y s) (rw e at (step_image m s ss h)) in
      let r = made-forth k.2 (follows_on ss (does s e) h) rest in
      (r.0, by_step k.1 r.1, r.2)

  made-back : {x y a : Tableau} {ss : List Step} → Image p f w x y → Follows x ss → Made U y ss a → (z : Tableau) × Made S x ss z × Image p f w z a
  made-back {x} m h as_it_stands = (x, as_it_stands, m)
  made-back {x} {y} m h (by_step {y = y'} {s = s} {ss = ss} e rest) =
      let k = both_some_back p f w (stepped S x s) y' (rw e at (step_image m s ss h)) in
      let r = made-back {x = k.0} k.2 (follows_on ss (does s k.1) h) rest in
      (r.0, by_step k.1 r.1, r.2)

  pub start_image : get_or copies 0 t.question ≡ t.question → Image p f w (start t) (start u)
  unfolding start turned_table
  start_image e = record {
    leaves = ap (λ (ls : List (Literal Variable)). hang [] ls) (clause_copied p f t.question copies 0 t.question e) ∙ hang_image p f w [] (copy_of 0 t.question);
    pairs = no_pairs;
    extensions = refl;
    questions = refl;
  }

  -- the copies of the question are copies of the question
  abbrev Asked : ℕ → Type 0
  Asked copy = get_or copies copy t.question ≡ t.question

  asked-with : (x : Tableau) (i : ℕ) {c : Clause} → get_elem? (all_clauses t) i ≡ some c → get_or copies (suc x.extensions) t.question ≡ c → All Asked x.questions
      → All Asked (questions_with t i (suc x.extensions) x.questions)
  unfolding questions_with all_clauses
  asked-with x i {c} e is a = go (eqb i (length t.clauses)) refl
    where
      go : (b : Bool) → eqb i (length t.clauses) ≡ b → All Asked (cond b (x.questions ++ (suc x.extensions ∷ [])) x.questions)
      go true k =
          let last : get_elem? (t.clauses ++ (t.question ∷ [])) i ≡ some t.question = rw (eqb-true i (length t.clauses) k) (some_last t.clauses t.question) in
          let same : c ≡ t.question = some_same (sym e ∙ last) in
          all_append a ((is ∙ same) also end)
      go false k = a

  does-asked : {x z : Tableau} {s : Step} (ss : List Step) → Does S x s z → Follows x (s ∷ ss) → All Asked x.questions → All Asked z.questions
  does-asked ss (reduces l a g e) h q = rw (← e) q
  does-asked {x} ss (extends {i = i} {j = j} l b k a g e) h q = rw (← e) (asked-with x i k ((follows_next x (Extension i j) ss h).0 i j _ refl k) q)
  does-asked {x} ss (restarts l b e) h q = rw (← e) (all_append q ((follows_next x Restart ss h).1 refl also end))

  made-asked : {x z : Tableau} {ss : List Step} → Made S x ss z → Follows x ss → All Asked x.questions → All Asked z.questions
  made-asked as_it_stands h q = q
  made-asked (by_step {s = s} {ss = ss} e m) h q = made-asked m (follows_on ss (does s e) h) (does-asked ss (does s e) h q)

  -- steps make one tableau
  made-once : {x a b : Tableau} {ss : List Step} → Made U x ss a → Made U x ss b → a ≡ b
  made-once as_it_stands as_it_stands = refl
  made-once (by_step {y = y} e m) (by_step {y = z} g n) = let same : z ≡ y = cc in made-once m (rw same at n)

module _ (rules : Profile) (p f : Permutation ℕ) (t : Table) (bound : ℕ) (steps : List Step) where
  abbrev copies : List Clause
  copies = copies_of t steps

  abbrev x : Permutation Variable
  x = of_copies t.question copies

  began : Image p f x (start t) (start (turned_table p f t))
  began = start_image rules p f t bound copies refl

  follows : Follows rules p f t bound copies (start t) steps
  unfolding start
  follows = refl

  pub closed_forth : Closed (over rules t bound) steps → Closed (over rules (turned_table p f t) bound) steps
  closed_forth c =
      let r = made-forth rules p f t bound copies began follows c.made in
      record {
        tableau = r.0;
        made = r.1;
        no_leaf_open = r.2.leaves ∙ ap (λ (ls : List Leaf). map (leaf_image p f x) ls) c.no_leaf_open;
        unifiable = unifiable_forth p f x r.2.pairs c.unifiable;
      }

  pub closed_back : Closed (over rules (turned_table p f t) bound) steps → Closed (over rules t bound) steps
  closed_back d =
      let r = made-back rules p f t bound copies began follows d.made in
      record {
        tableau = r.0;
        made = r.1;
        no_leaf_open = map_nil_back (leaf_image p f x) r.0.leaves (sym r.2.leaves ∙ d.no_leaf_open);
        unifiable = unifiable_back p f x r.2.pairs d.unifiable;
      }

  module _ (c : Closed (over rules t bound) steps) (d : Closed (over rules (turned_table p f t) bound) steps) where
    pub closed_image : Image p f x c.tableau d.tableau
    closed_image =
        let r = made-forth rules p f t bound copies began follows c.made in
        let same : r.0 ≡ d.tableau = made-once rules p f t bound copies r.1 d.made in
        subst (λ (a : Tableau). Image p f x c.tableau a) same r.2

    pub closed_asked : All (λ copy. get_or copies copy t.question ≡ t.question) c.tableau.questions
    unfolding start
    closed_asked = made-asked rules p f t bound copies c.made follows (refl also end)
