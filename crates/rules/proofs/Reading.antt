-- What is read in an answer's words is the answer: its literals are within the limits of words, so the words give them back, and groups of as
-- many literals as the question has are its disjuncts.
use lib.ListN.{length, drop, length-map}
use lib.Seq.{take_at, drop_at}
use mathlib.Core.Bool.{Bool, true, false, cond}
use mathlib.Core.List.{List, [], ◌∷◌, ◌++◌, map, flatten}
use mathlib.Core.Path.{◌≡◌, refl, sym, ◌∙◌, ap, ap₂}
use native.Mathlib.Omega.{arith}
use Prim.Native.Nat.{ℕ, zero, suc, pred, ◌^◌, ◌≤◌, ◌<◌}
use Rattle.words.specs.declared.Step.{Step}
use Rattle.table.specs.Syntax.{Term, var, app, Terms, nil, ◌then◌, arity, under, unders, Literal, literal_under, Clause, Table}
use Rattle.table.specs.Decode.{literals_from}
use Rattle.table.specs.Limits.{TermWithin, TermsWithin, LiteralWithin, Each, Within}
use Rattle.table.proofs.Encoding.{literals_decoded, each_append}
use Rattle.rules.specs.Substitution.{Variable, same_variable, Substitution, MostGeneral}
use Rattle.rules.specs.Setting.{Setting}
use Rattle.rules.specs.Tableau.{copy_of, Tableau, Closed}
use Rattle.rules.specs.Answer.{positive, disjunct, same_disjunct, seen_by, firsts_by, place_by, per_copy, disjuncts, occurring, occurring_in, occurring_all, seen, firsts_after, firsts, place_of, numbered, joined, answer_words, groups_from, disjuncts_in, Reads}
use Rattle.rules.proofs.Substitution.{arity_unders}
use Rattle.rules.proofs.Every.{All, end, ◌also◌, all_first, all_rest, all_left, all_right, true_false}
use Rattle.rules.proofs.Answer.{numbered_disjuncts, numbered_once}
use Rattle.rules.proofs.Firsts.{all_seen, firsts_all}
use Rattle.rules.proofs.Sameness.{variables_told}
use Rattle.rules.proofs.Truth.{answer_words_lem, flat_numbered}
use Rattle.rules.proofs.Variables.{Held, Helds, Ranging, Own, few_in_answer, keeping, question_within}

-- groups of lists that are all of one length
groups_passed : {A : Type 0} (more passing : ℕ) (xs : List A) → groups_from more passing xs ≡ groups_from more 0 (drop passing xs)
unfolding groups_from
groups_passed more zero xs = refl
groups_passed more (suc passing) [] = refl
groups_passed more (suc passing) (x ∷ xs) = groups_passed more passing xs

pub groups_flat : {A : Type 0} (more : ℕ) (ds : List (List A)) → Each (λ d. length d ≡ suc more) ds → groups_from more 0 (flatten ds) ≡ ds
unfolding groups_from Each flatten
groups_flat more [] h = refl
groups_flat more ([] ∷ ds) h = absurd (omega (arith, h.0))
groups_flat {A} more ((x ∷ xs) ∷ ds) h =
    let e : length xs ≡ more = omega (arith, h.0) in
    ap₂ (λ (ys : List A) (es : List (List A)). (x ∷ ys) ∷ es) (take_at xs (flatten ds) more e)
    (groups_passed more more (xs ++ flatten ds) ∙ ap (groups_from more 0) (drop_at xs (flatten ds) more e) ∙ groups_flat more ds h.1)

-- disjuncts that words are read as are found in them
pub read_once : (question : Clause) → 1 ≤ length question.literals → {words : List ℕ} {count : ℕ} {ds : List (List (Literal ℕ))}
    → Reads question words count ds → ds ≡ disjuncts_in question words
unfolding disjuncts_in
read_once question some {ds = ds} r =
    let n : ℕ = length question.literals in
    let e : n ≡ suc (pred n) = omega arith in
    sym (ap (λ (ws : List ℕ). groups_from (pred n) 0 (literals_from ws)) r.whole
    ∙ ap (groups_from (pred n) 0) (literals_decoded (flatten ds) (omega arith) r.within)
    ∙ groups_flat (pred n) ds (rw e at r.alike))

-- the numbered literals of an answer are within the limits: a variable's number is its place among those that occur
place_below : (x : Variable) (ys : List Variable) → seen x ys ≡ true → place_of x ys < length ys
unfolding seen_by place_by
place_below x [] e = true_false e refl
place_below x (y ∷ ys) e = go (same_variable x y) e (place_below x ys)
  where
    go : (b : Bool) → cond b true (seen x ys) ≡ true → (seen x ys ≡ true → place_of x ys < length ys) → cond b zero (suc (place_of x ys)) < suc (length ys)
    go true e f = omega arith
    go false e f = let h = f e in omega arith

module _ (P : Variable → Type 0) (fs : List Variable) (v : ℕ) (few : length fs ≤ v) where
  abbrev place : Variable → Term ℕ
  place x = var (place_of x fs)

  abbrev Placed : List Variable → Type 0
  Placed xs = All (λ x. seen x fs ≡ true) xs

  mutual
    unfolding under Held TermWithin occurring

    term-placed : (t : Term Variable) → Held P t → Placed (occurring t) → TermWithin (under place t) v
    term-placed (var x) h p = let below = place_below x fs (all_first p) in omega arith
    term-placed (app f ts) h p = (h.0, rw (arity_unders place ts) h.1, terms-placed ts h.2 p)

    terms-placed : (ts : Terms Variable) → Helds P ts → Placed (occurring_in ts) → TermsWithin (unders place ts) v
    terms-placed nil h p = tt
    terms-placed (t then ts) h p =
        (term-placed t h.0 (all_left (occurring t) (occurring_in ts) p), terms-placed ts h.1 (all_right (occurring t) (occurring_in ts) p))

  literals-placed : (ls : List (Literal Variable)) → All (Ranging P) ls → Placed (occurring_all ls)
      → Each (LiteralWithin v) (map (literal_under place) ls)
  unfolding Each occurring_all literal_under
  literals-placed [] a p = tt
  literals-placed (l ∷ ls) a p =
      let r : Ranging P l = all_first a in (
        record {
          predicate = r.0;
          arity = rw (arity_unders place l.arguments) r.1;
          arguments = terms-placed l.arguments r.2 (all_left (occurring_in l.arguments) (occurring_all ls) p);
        },
        literals-placed ls (all_rest a) (all_right (occurring_in l.arguments) (occurring_all ls) p),
      )

numbered_within : (P : Variable → Type 0) (ls : List (Literal Variable)) (v : ℕ) → length (firsts (occurring_all ls)) ≤ v → All (Ranging P) ls
    → Each (LiteralWithin v) (numbered ls)
unfolding numbered firsts_by
numbered_within P ls v few a = literals-placed P (firsts_after [] (occurring_all ls)) v few ls a (all_seen variables_told [] (occurring_all ls))

-- each disjunct has as many literals as the question, all positive
disjunct_alike : (σ : Substitution) (question : Clause) (copy : ℕ) → length (disjunct σ question copy) ≡ length question.literals
unfolding disjunct copy_of
disjunct_alike σ question copy = length-map (copy_of copy question) _ ∙ length-map question.literals _

all_map : {A B : Type 0} {P : B → Type 0} (f : A → B) → ((a : A) → P (f a)) → (xs : List A) → All P (map f xs)
all_map f h [] = end
all_map f h (x ∷ xs) = h x also all_map f h xs

disjuncts_all : {P : List (Literal Variable) → Type 0} (σ : Substitution) (t : Table) (x : Tableau) → ((copy : ℕ) → P (disjunct σ t.question copy))
    → All P (disjuncts σ t x)
unfolding disjuncts per_copy firsts_by
disjuncts_all σ t x h = firsts_all same_disjunct [] _ end (all_map (disjunct σ t.question) h x.questions)

numbered_alike : (σ : Substitution) (t : Table) (x : Tableau)
    → Each (λ d. length d ≡ length t.question.literals) (numbered_disjuncts (disjuncts σ t x))
unfolding Each numbered_disjuncts
numbered_alike σ t x = go _ (disjuncts_all σ t x (disjunct_alike σ t.question))
  where
    go : (f : Literal Variable → Literal ℕ) {ds : List (List (Literal Variable))} → All (λ d. length d ≡ length t.question.literals) ds
        → Each (λ d. length d ≡ length t.question.literals) (map (map f) ds)
    go f end = tt
    go f (◌also◌ {a = d} a b) = (length-map d f ∙ a, go f b)

abbrev Positive : {X : Type 0} → List (Literal X) → Type 0
Positive ls = Each (λ l. l.negative ≡ false) ls

positive_under : {X Y : Type 0} (σ : X → Term Y) (ls : List (Literal X)) → Positive ls → Positive (map (literal_under σ) ls)
unfolding Each literal_under
positive_under σ [] p = tt
positive_under σ (l ∷ ls) p = (p.0, positive_under σ ls p.1)

disjunct_positive : (σ : Substitution) (question : Clause) (copy : ℕ) → Positive (disjunct σ question copy)
unfolding Each disjunct literal_under positive
disjunct_positive σ question copy = each (copy_of copy question)
  where
    each : (ls : List (Literal Variable)) → Positive (map (λ l. literal_under σ (positive l)) ls)
    each [] = tt
    each (l ∷ ls) = (refl, each ls)

joined_positive : {ds : List (List (Literal Variable))} → All Positive ds → Positive (joined ds)
unfolding Each joined
joined_positive end = tt
joined_positive (◌also◌ {a = d} {xs = ds} a b) = each_append (λ (l : Literal Variable). l.negative ≡ false) d (joined ds) a (joined_positive b)

numbered_positive : (σ : Substitution) (t : Table) (x : Tableau) → Positive (flatten (numbered_disjuncts (disjuncts σ t x)))
unfolding numbered
numbered_positive σ t x = rw (← flat_numbered (disjuncts σ t x)) (positive_under _ (joined (disjuncts σ t x)) (joined_positive (disjuncts_all σ t x (disjunct_positive σ t.question))))

pub numbered_count : (σ : Substitution) (t : Table) (x : Tableau) → length (numbered_disjuncts (disjuncts σ t x)) ≡ length (disjuncts σ t x)
unfolding numbered_disjuncts
numbered_count σ t x = length-map (disjuncts σ t x) _

module _ (S : Setting) (limits : Within S.table) (low : S.bound ≤ 32) {steps : List Step} (c : Closed S steps) (σ : Substitution) (g : MostGeneral σ c.tableau.pairs) where
  -- the literals of the answer are within the limits of words
  pub answer_within : Each (LiteralWithin (2 ^ 10)) (numbered (joined (disjuncts σ S.table c.tableau)))
  answer_within =
      let k = keeping S limits c in
      let few = few_in_answer S limits c k.by k.general in
      let same = numbered_once S.table c.tableau c.tableau.pairs k.by σ k.general g in
      rw (← same) (numbered_within (Own S limits) (joined (disjuncts k.by S.table c.tableau)) (2 ^ 10) (omega arith) k.answer)

  numbered-reads : Reads S.table.question (answer_words σ S.table c.tableau) (length (disjuncts σ S.table c.tableau)) (numbered_disjuncts (disjuncts σ S.table c.tableau))
  numbered-reads = record {
    counted = numbered_count σ S.table c.tableau;
    alike = numbered_alike σ S.table c.tableau;
    positive = numbered_positive σ S.table c.tableau;
    whole = answer_words_lem σ S.table c.tableau;
    within = rw (flat_numbered (disjuncts σ S.table c.tableau)) at answer_within;
  }

  -- the disjuncts read in its words are its numbered disjuncts
  pub answer_read : disjuncts_in S.table.question (answer_words σ S.table c.tableau) ≡ numbered_disjuncts (disjuncts σ S.table c.tableau)
  answer_read = sym (read_once S.table.question (question_within S.table limits).some numbered-reads)

  pub answer_reads : Reads S.table.question (answer_words σ S.table c.tableau) (length (disjuncts σ S.table c.tableau)) (disjuncts_in S.table.question (answer_words σ S.table c.tableau))
  answer_reads = rw answer_read numbered-reads
