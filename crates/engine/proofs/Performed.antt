-- From a step on the work words to the rules' own: what a step that was taken comes to, for every play that the work words stand for.
use mathlib.Core.Path.{◌≡◌, refl, sym, ap, ◌∙◌}
use mathlib.Core.Bool.{true, cond, not}
use mathlib.Core.List.{List, [], ◌∷◌, ◌++◌}
use mathlib.Core.Option.{none, some}
use Prim.Native.Nat.{ℕ, suc, ◌+◌, ◌*◌, ◌-◌, ◌/◌, ◌%◌, ◌^◌, ◌≤◌, ◌<◌}
use native.Mathlib.Numerals.{add-one}
use native.Mathlib.Omega.{arith}
use borrow.Author.Tests.{eq-eqb}
use lib.Dec.{eqb}
use lib.ListN.{length, drop, get_or, get_elem?}
use Rattle.words.specs.Fields.{arity_of, symbol_of, negative_of, literal_shaped, variables_of}
use Rattle.words.proofs.Packed.{bits_small, literal_predicate, literal_arity}
use Rattle.words.specs.declared.Step.{Step}
use Rattle.words.specs.declared.Step.TheVariants.{Reduction, Restart}
use Rattle.table.specs.Syntax.{Literal, literal_under, Clause}
use Rattle.table.specs.Reading.{fault}
use Rattle.table.specs.Decode.{clause_of}
use Rattle.rules.specs.Setting.{Setting}
use Rattle.rules.specs.Substitution.{Variable}
use Rattle.rules.specs.Tableau.{Leaf, Tableau, atom, fits, ancestor, closing, copy_of, hang, questions_with, after_reduction, after_restart, fresh, stepped}
use Rattle.rules.specs.Machinery.Unify.{Unified, unify}
use Rattle.rules.specs.Machinery.Play.{Play, bound_by, newest, closes_pair, performed, perform}
use Rattle.rules.proofs.Steps.{reduces, extends, restarts, MayExtend, MayRestart, done, after_entry}
use Rattle.unification.specs.State.{start_at, copies_of, next_at, own_words, ClauseAt, words_at, literal_at_reference, bindings_in}
use Rattle.unification.specs.Good.{word_at, Inside, LiteralStands, Good, Outcome}
use Rattle.tableaux.specs.Leaves.{chain, leaf_at, leaves_from, questions_among}
use Rattle.tableaux.specs.Ready.{closed_at, open_leaves, Ready, Stands, Alike, rest_of, Reduced, Hung, OneMore, Extended, Restarted}
use Rattle.engine.specs.Performing.{Comes}
use Rattle.index.specs.Scanning.{other_sign}
use Rattle.tableaux.specs.Entering.{Owes, LiteralAt, Enters, extension_at}
use Rattle.index.specs.declared.entries.Scan.{Scan}
use Rattle.tableaux.specs.declared.tableau.Place.{Place}
use Rattle.std.specs.Prelude.{Result, Ok, Err}
use Rattle.unification.specs.declared.unify.Unmet.{Unmet}
use Rattle.unification.specs.declared.unify.Unmet.TheVariants.{Clash, Circle}
use Rattle.tableaux.proofs.Chains.{chain_at, chain_past}
use Rattle.tableaux.proofs.Leaves.{questions_same}
use Rattle.engine.proofs.Literals.Fitting.{fits_by_word, other_word}
use Rattle.engine.proofs.Literals.Sound.{Sound, literal, sound_word, nothing_owed, owing_arity}
use Rattle.engine.proofs.Literals.Places.{place_word, place_inside}
use Rattle.tableaux.proofs.Hanging.{own_inside, own_word}
use Rattle.tableaux.proofs.Literals.{copy_all, copy_entered, copy_others}

-- a chain from a head on: the head's item, and the chain from where it leads
pub chain_first : {A : Type 0} (item : ℕ → A) (link : ℕ → ℕ) (n head : ℕ) → 0 < head → head ≤ n → link (head - 1) ≤ head - 1
    → chain item link n head ≡ item (head - 1) ∷ chain item link n (link (head - 1))
chain_first {A} item link n head positive few low =
    let h : head ≡ suc (head - 1) = omega arith in
    let k : n ≡ n - head + head = omega arith in
    let j : n ≡ n - (head - 1) + (head - 1) = omega arith in
    let rest : chain item link n (link (head - 1)) ≡ chain item link (head - 1) (link (head - 1)) =
    ap (λ (l : ℕ). chain item link l (link (head - 1))) j ∙ chain_past item link (head - 1) (n - (head - 1)) (link (head - 1)) low in
    ap (λ (l : ℕ). chain item link l head) k
    ∙ chain_past item link head (n - head) head (omega arith)
    ∙ ap (λ (l : ℕ). chain item link l l) h
    ∙ chain_at item link (head - 1)
    ∙ ap (λ (l : List A). item (head - 1) ∷ l) (sym rest)

module _ {f m : List ℕ} {place : Place} (ready : Ready f m place) (some_open : 0 < place.head) where
  -- the leftmost leaf, and the leaves right of it
  pub open_first : open_leaves f m place ≡ leaf_at f m (place.head - 1) ∷ leaves_from f m place.leaves (rest_of m place)
  open_first =
      chain_first (leaf_at f m) (next_at m) place.leaves place.head some_open ready.head
      (ready.noted.right (place.head - 1) (omega (arith, ready.head)))

-- the newest pair decides
module _ (S : Setting) (p : Play) (s : Step) where
  pub performs : {y : Tableau} (l n : Literal Variable) → closes_pair s ≡ true → stepped S p.tableau s ≡ some y → y.pairs ≡ closing l n ∷ p.tableau.pairs
      → perform S p s ≡ bound_by y (unify p.bindings (atom l) (atom n))
  unfolding perform performed newest closing
  performs l n c e h = rw (c, e, h)

comes : (f m : List ℕ) (question : ℕ) (r : Result Place Unmet) (u : Unified) → Outcome f m r u → (y : Tableau)
    → ((next : Place) → r ≡ Ok next → Stands f m question next y (bindings_in f m)) → Comes f m question r (bound_by y u)
unfolding bound_by
comes f m question (Ok next) u o y s = rw o (record { tableau = y; bindings = bindings_in f m }, refl, s next refl)
comes f m question (Err Clash) u o y s = rw o
comes f m question (Err Circle) u o y s = rw o

-- a literal that stands: its word, and its arguments
pub record Literate (f m : List ℕ) (r : ℕ) : Type 0 where
  pub word : get_or (words_at f m r) 0 0 ≡ word_at f m r
  pub shaped : literal_shaped (word_at f m r) ≡ true
  pub owing : Owes (variables_of (get_or f (start_at m (r / 256)) 0)) (arity_of (word_at f m r)) (drop 1 (words_at f m r))

-- its sign
pub literate_sign : {f m : List ℕ} {r : ℕ} → Literate f m r → (literal_at_reference f m r).negative ≡ negative_of (word_at f m r)
unfolding literal_at_reference literal_under
literate_sign l = rw l.word

module _ (f m : List ℕ) (r : ℕ) where
  abbrev starts : ℕ
  starts = start_at m (r / 256)

  literate-words : (own ws : List ℕ) → own ≡ own_words f starts → drop (r % 256) own ≡ ws → (l place : ℕ) → fault (variables_of (get_or f starts 0)) (suc l) 0 place ws ≡ none
      → (get_or ws 0 0 ≡ word_at f m r) × (literal_shaped (word_at f m r) ≡ true) × Owes (variables_of (get_or f starts 0)) (arity_of (word_at f m r)) (drop 1 ws) × (r % 256 < length (own_words f starts))
  literate-words own [] eo ew l place s = absurd (omega (arith, (nothing_owed (variables_of (get_or f starts 0)) (suc l) 0 place s).0))
  literate-words own (w ∷ ws) eo ew l place s = go (sound_word (variables_of (get_or f starts 0)) place w ws (suc l) 0 s)
    where
      inside : r % 256 < length (own_words f starts)
      inside = rw eo at (place_inside own (r % 256) w ws ew)

      word : w ≡ word_at f m r
      word = sym (place_word own (r % 256) w ws ew) ∙ rw eo (own_word f starts (r % 256) inside)

      go : Sound (variables_of (get_or f starts 0)) place w ws (suc l) 0 → (w ≡ word_at f m r) × (literal_shaped (word_at f m r) ≡ true) × Owes (variables_of (get_or f starts 0)) (arity_of (word_at f m r)) ws × (r % 256 < length (own_words f starts))
      go (literal {l} fine e) = let owes : Owes (variables_of (get_or f starts 0)) (arity_of w) ws = record { literals = l; place = place + 1; sound = e } in
          (word, rw word at fine, rw word at owes, inside)

  pub stands_literate : LiteralStands f m r → Literate f m r
  unfolding words_at
  stands_literate h =
      let here = literate-words (own_words f starts) (words_at f m r) refl refl h.literals h.place h.sound in
      record { word = here.0; shaped = here.1; owing = here.2 }

  -- so the word can be read
  pub stands_inside : Good f m → LiteralStands f m r → Inside f m r
  unfolding words_at
  stands_inside good h =
      let here = literate-words (own_words f starts) (words_at f m r) refl refl h.literals h.place h.sound in
      record { size = good.size; copy = omega (arith, h.made, good.copies); within = own_inside f starts (r % 256) here.3 }

-- the literal of a copy
module _ {f : List ℕ} {start number offset : ℕ} (here : LiteralAt f start number offset) (m : List ℕ) (copy : ℕ) (starts : start_at m copy ≡ start) where
  abbrev there : ℕ
  there = copy * 256 + offset

  copied : there / 256 ≡ copy
  copied = omega (arith, here.most)

  away : there % 256 ≡ offset
  away = omega (arith, here.most)

  pub copy_word : word_at f m there ≡ get_or f (start + offset) 0
  copy_word = rw (copied, away, starts)

  pub copy_literate : Literate f m there
  unfolding words_at
  copy_literate =
      record {
        word = rw (copied, away, starts) here.word;
        shaped = rw (copied, away, starts) here.shaped;
        owing = rw (copied, away, starts) here.owing;
      }

-- words that differ in the sign alone are of one predicate and arity
pub alike_other : (u w : ℕ) → literal_shaped u ≡ true → u < 2 ^ 32 → w ≡ other_sign u → Alike u w
alike_other u w shaped small e =
    let same = e ∙ other_word u shaped small in
    record {
      predicate = sym (ap symbol_of same ∙ literal_predicate (symbol_of u) (arity_of u) (bits_small 0 12 u) (bits_small 12 3 u) (not (negative_of u)));
      arity = sym (ap arity_of same ∙ literal_arity (symbol_of u) (arity_of u) (bits_small 0 12 u) (bits_small 12 3 u) (not (negative_of u)));
    }

-- the file's words are words
abbrev pub Small : List ℕ → Type 0
Small f = (i : ℕ) → get_or f i 0 < 2 ^ 32

pub fits_at : {f m m' : List ℕ} {r s : ℕ} → Small f → Literate f m r → Literate f m' s
    → fits (literal_at_reference f m r) (literal_at_reference f m' s) ≡ eqb (word_at f m' s) (other_sign (word_at f m r))
unfolding literal_at_reference
fits_at {f} {m} {m'} {r} {s} small a b =
    rw (a.word, b.word)
    (fits_by_word (word_at f m r) a.shaped (small _) (word_at f m' s) b.shaped (small _) (fresh (r / 256)) (fresh (s / 256)) _ _ (owing_arity a.owing) (owing_arity b.owing))

pub fits_other : {f m m' : List ℕ} {r s : ℕ} → Small f → Literate f m r → Literate f m' s → word_at f m' s ≡ other_sign (word_at f m r)
    → fits (literal_at_reference f m r) (literal_at_reference f m' s) ≡ true
fits_other {f} {m} {m'} {r} {s} small a b e = fits_at small a b ∙ eq-eqb (word_at f m' s) (other_sign (word_at f m r)) e

-- what a reduction comes to
abbrev pub reduced_to : List ℕ → List ℕ → Place → ℕ → Tableau → Tableau
reduced_to f m place other x = after_reduction x (leaf_at f m (place.head - 1)) (leaves_from f m place.leaves (rest_of m place)) (literal_at_reference f m other)

pub reduction_performs : (S : Setting) {f m : List ℕ} {question : ℕ} {place : Place} (other : ℕ) → Ready f m place → 0 < place.head → (p : Play)
    → Stands f m question place p.tableau p.bindings → (height : ℕ) → ancestor height (leaf_at f m (place.head - 1)).branch ≡ some (literal_at_reference f m other)
    → fits (leaf_at f m (place.head - 1)).literal (literal_at_reference f m other) ≡ true
    → perform S p (Reduction height) ≡ bound_by (reduced_to f m place other p.tableau) (unify (bindings_in f m) (atom (leaf_at f m (place.head - 1)).literal) (atom (literal_at_reference f m other)))
reduction_performs S {f} {m} {question} {place} other ready some_open p stands height there fitting =
    performs S p (Reduction height) {y = reduced_to f m place other p.tableau} (leaf_at f m (place.head - 1)).literal (literal_at_reference f m other) refl
    (done (reduces (stands.leaves ∙ open_first ready some_open) there fitting refl)) refl
    ∙ ap (λ bs. bound_by (reduced_to f m place other p.tableau) (unify bs (atom (leaf_at f m (place.head - 1)).literal) (atom (literal_at_reference f m other)))) stands.bindings

-- a reduction that was taken
module _ (S : Setting) {f m m' : List ℕ} {question : ℕ} {place : Place} {other step : ℕ} {r : Result Place Unmet} (ready : Ready f m place) (some_open : 0 < place.head)
    (reduced : Reduced f m m' place other step r) (p : Play) (stands : Stands f m question place p.tableau p.bindings) where
  abbrev leaf : Leaf
  leaf = leaf_at f m (place.head - 1)

  module _ (height : ℕ) (there : ancestor height leaf.branch ≡ some (literal_at_reference f m other))
      (fitting : fits leaf.literal (literal_at_reference f m other) ≡ true) where
    abbrev after : Tableau
    after = reduced_to f m place other p.tableau

    reduction-stands : Stands f m' question (closed_at m place) after (bindings_in f m')
    reduction-stands =
        record {
          leaves = sym reduced.leaves;
          bindings = refl;
          extensions = stands.extensions ∙ sym reduced.copies;
          questions =
              stands.questions
              ∙ sym (questions_same m m' question (copies_of m) reduced.stepping.later.starts)
              ∙ ap (questions_among m' question) (sym reduced.copies);
        }

    pub reduction_comes : Comes f m' question r (perform S p (Reduction height))
    reduction_comes =
        rw (reduction_performs S other ready some_open p stands height there fitting)
        (comes f m' question r _ reduced.outcome after (λ next e. rw (reduced.leads next e) reduction-stands))

-- one copy more of a clause, among the copies of the question
module _ {f m m' : List ℕ} {place : Place} {start step : ℕ} (one : OneMore f m m' place start step) (question : ℕ) where
  pub copies_asked : questions_among m' question (copies_of m') ≡ cond (eqb start question) (questions_among m question (copies_of m) ++ (copies_of m ∷ [])) (questions_among m question (copies_of m))
  unfolding questions_among
  copies_asked = rw (one.copies, add-one, questions_same m m' question (copies_of m) one.stepping.later.starts, one.starts)

-- an extension that was taken
module _ (S : Setting) {f m m' : List ℕ} {question : ℕ} {place : Place} {step : ℕ} {r : Result Place Unmet} (ready : Ready f m place) (some_open : 0 < place.head)
    (scan : Scan) (enters : Enters f S.table question scan) (extended : Extended f m m' place scan.start (scan.at - scan.start) step r)
    (p : Play) (stands : Stands f m question place p.tableau p.bindings) where
  abbrev reference : ℕ
  reference = copies_of m * 256 + (scan.at - scan.start)

  abbrev treated : Leaf
  treated = leaf_at f m (place.head - 1)

  module _ (may : MayExtend S p.tableau treated) (fitting : fits treated.literal (literal_at_reference f m' reference) ≡ true) where
    abbrev clause : Clause
    clause = clause_of (own_words f scan.start)

    abbrev grown : Tableau
    grown = after_entry S.table p.tableau treated (leaves_from f m place.leaves (rest_of m place)) (scan.clauses - 1) scan.literals clause (literal_at_reference f m' reference)

    copy-number : suc p.tableau.extensions ≡ copies_of m
    copy-number = stands.extensions

    asked : questions_with S.table (scan.clauses - 1) (copies_of m) (questions_among m question (copies_of m)) ≡ questions_among m' question (copies_of m')
    unfolding questions_with
    asked = rw (copies_asked extended.copied question, enters.asks)

    extension-stands : {next : Place} → Hung f m m' place next scan.start (scan.at - scan.start) → Stands f m' question next grown (bindings_in f m')
    extension-stands hung =
        record {
          leaves =
              rw copy-number
              (ap (λ (ls : List (Literal Variable)). hang (treated.literal ∷ treated.branch) ls ++ leaves_from f m place.leaves (rest_of m place))
              (sym (copy_others enters.begins m' (copies_of m) extended.copied.starts scan.literals enters.offset))
              ∙ sym hung.leaves);
          bindings = refl;
          extensions = ap suc copy-number ∙ sym (extended.copied.copies ∙ add-one (copies_of m));
          questions = rw (copy-number, stands.questions) asked;
        }

    pub extension_comes : Comes f m' question r (perform S p (extension_at scan))
    extension_comes =
        let literal : get_elem? (copy_of (suc p.tableau.extensions) clause) scan.literals ≡ some (literal_at_reference f m' reference) =
        rw copy-number (copy_entered enters.begins m' (copies_of m) extended.copied.starts scan.literals enters.offset) in
        rw (performs S p (extension_at scan) {y = grown} treated.literal (literal_at_reference f m' reference) refl (done (extends (stands.leaves ∙ open_first ready some_open) may enters.clause literal fitting refl)) refl, stands.bindings)
        (comes f m' question r _ extended.outcome grown (λ next e. extension-stands (extended.hung next e)))

-- a restart that was taken
module _ (S : Setting) {f m m' : List ℕ} {question : ℕ} {place next : Place} {step : ℕ} (ready : Ready f m place) (some_open : 0 < place.head)
    (begins : ClauseAt f question) (asks : S.table.question ≡ clause_of (own_words f question)) (restarted : Restarted f m m' place question step next)
    (p : Play) (stands : Stands f m question place p.tableau p.bindings) where
  abbrev left_open : Leaf
  left_open = leaf_at f m (place.head - 1)

  abbrev begun_again : Tableau
  begun_again = after_restart S.table p.tableau left_open (leaves_from f m place.leaves (rest_of m place))

  restart-stands : Stands f m' question next begun_again p.bindings
  restart-stands =
      record {
        leaves =
            rw (stands.extensions, asks)
            (ap (λ (ls : List (Literal Variable)). hang (left_open.literal ∷ left_open.branch) ls ++ leaves_from f m place.leaves (rest_of m place))
            (sym (copy_all begins m' (copies_of m) restarted.copied.starts))
            ∙ sym restarted.hung.leaves);
        bindings = stands.bindings ∙ sym restarted.bindings;
        extensions = ap suc stands.extensions ∙ sym (restarted.copied.copies ∙ add-one (copies_of m));
        questions = rw (stands.extensions, stands.questions) (sym (copies_asked restarted.copied question ∙ rw (eq-eqb question question refl)));
      }

  pub restart_comes : MayRestart S p.tableau left_open → Comes f m' question (Ok next) (perform S p Restart)
  unfolding perform performed
  restart_comes may =
      let goes : stepped S p.tableau Restart ≡ some begun_again = done (restarts (stands.leaves ∙ open_first ready some_open) may refl) in
      rw goes (record { tableau = begun_again; bindings = p.bindings }, refl, restart-stands)
