-- The literals of an answer in the names of a text: each name a token, and each with its own number when it is read.
use mathlib.Core.Bool.{Bool, true, false, cond}
use mathlib.Core.List.{List, [], ◌∷◌, ◌++◌, append_assoc, map, flatten, map-append}
use mathlib.Core.Path.{◌≡◌, refl, sym, ap, ap₂, ◌∙◌}
use Prim.Native.Nat.{ℕ, zero, suc, ◌<◌}
use native.Mathlib.Omega.{arith}
use lib.Dec.{eqb}
use lib.ListN.{length, get_or}
use Rattle.table.specs.Syntax.{Term, var, app, Terms, nil, ◌then◌, Literal}
use Rattle.text.specs.Digits.{decimal_text}
use Rattle.clausetext.specs.declared.kind.Kind.TheVariants.{Lower, Upper}
use Rattle.clausetext.specs.Kinds.{kind_of, sign_kind, letter_kind}
use Rattle.clausetext.specs.Syntax as Spoken
use Rattle.names.specs.Numbers as Names
use Rattle.names.specs.Numbers.{Name, same_name, noted, known_after}
use Rattle.tptp.specs.Said as Said
use Rattle.tptp.specs.Said.{predicates, functions, literals_said}
use Rattle.naming.specs.Shown.{Names}
use Rattle.naming.specs.Texts.{going_on, Begins, begins, variable_name, TermNamed, TermsNamed, term_naming, terms_naming, literal_naming, TermKnown, TermsKnown, SaidAgain, OwnNumbers}
use Rattle.naming.proofs.Again.{said_again, own_numbers}
use Rattle.rules.proofs.Every.{All, end, ◌also◌, all_first, all_rest, all_left, all_right, all_then}
use Rattle.roundtrip.specs.Renumbered.{functions_of, functions_in, variables_of, variables_in, predicate_uses, function_uses, variable_uses, first_uses, number_in}
use Rattle.roundtrip.proofs.Decimals.{GoesOn, decimal_goes_on, apart}
use Rattle.roundtrip.proofs.FirstUses.{number_named}
use Rattle.printed.specs.Reading.{answer_said}
use Rattle.printed.specs.Promises.{names_said}
use Rattle.printed.proofs.Lines.{Named, spoken_row, spoken_rows}
use Rattle.printed.proofs.Lowers.{Lowers}
use Rattle.printed.proofs.Symbols.{Below}

-- what holds of all uses of names holds of the names known
all_noted : {P : Name → Type 0} (known : List Name) (name : Name) → All P known → P name → All P (noted known name)
unfolding noted
all_noted [] name a p = p also end
all_noted {P} (k ∷ ks) name a p = go (same_name k name) (all_noted ks name (all_rest a) p)
  where
    go : (b : Bool) → All P (noted ks name) → All P (cond b (k ∷ ks) (k ∷ noted ks name))
    go true rest = a
    go false rest = all_first a also rest

all_known : {P : Name → Type 0} (known uses : List Name) → All P known → All P uses → All P (known_after known uses)
unfolding known_after
all_known known [] a p = a
all_known known (n ∷ ns) a p = all_known (noted known n) ns (all_noted known n a (all_first p)) (all_rest p)

all_at : {P : Name → Type 0} (names : List Name) (n : ℕ) → All P names → n < length names → P (get_or names n [])
all_at [] n a h = absurd (omega arith)
all_at (name ∷ names) zero a h = all_first a
all_at (name ∷ names) (suc n) a h = all_at names n (all_rest a) (omega arith)

lower_at : (uses : List Name) (n : ℕ) → Lowers uses → n < length (Names.first_uses uses) → Begins Lower (get_or (Names.first_uses uses) n [])
lower_at uses n a h = all_at (Names.first_uses uses) n (all_known [] uses end a) h

-- a variable is `X` and its number
digits_go : (w : List ℕ) → All GoesOn w → going_on w ≡ true
unfolding going_on
digits_go [] a = refl
digits_go (c ∷ w) a = rw (all_first a, digits_go w (all_rest a))

module _ (cs : List Spoken.Clause) (lowerPredicates : Lowers (Said.of_all Said.predicate_uses cs)) (lowerFunctions : Lowers (Said.of_all Said.function_uses cs)) where
  variable_named : (x : ℕ) → Begins Upper (variable_name (names_said cs) x)
  unfolding kind_of sign_kind letter_kind
  variable_named x = begins refl (digits_go (decimal_text x) (decimal_goes_on x))

  mutual
    unfolding functions_of functions_in TermNamed TermsNamed

    term-named : (t : Term ℕ) → All (Below (functions cs)) (functions_of t) → TermNamed (names_said cs) t
    term-named (var x) a = variable_named x
    term-named (app f ts) a = (lower_at (Said.of_all Said.function_uses cs) f lowerFunctions (all_first a), terms-named ts (all_rest a))

    terms-named : (ts : Terms ℕ) → All (Below (functions cs)) (functions_in ts) → TermsNamed (names_said cs) ts
    terms-named nil a = tt
    terms-named (t then ts) a = (term-named t (all_left (functions_of t) (functions_in ts) a), terms-named ts (all_right (functions_of t) (functions_in ts) a))

  pub literals_named : (ls : List (Literal ℕ)) → All (Below (predicates cs)) (predicate_uses ls) → All (Below (functions cs)) (function_uses ls) → All (Named (names_said cs)) ls
  unfolding predicate_uses function_uses
  literals_named [] p f = end
  literals_named (l ∷ ls) p f =
      record {
        predicate = lower_at (Said.of_all Said.predicate_uses cs) l.predicate lowerPredicates (all_first p);
        arguments = terms-named l.arguments (all_left (functions_in l.arguments) (function_uses ls) f);
      }
      also literals_named ls (all_rest p) (all_right (functions_in l.arguments) (function_uses ls) f)

-- names read again
module _ (cs : List Spoken.Clause) (vs : List Name) where
  abbrev Own : ℕ → Type 0
  Own x = Names.number_in vs (variable_name (names_said cs) x) ≡ x

  mutual
    unfolding functions_of functions_in variables_of variables_in TermKnown TermsKnown OwnNumbers

    term-known : (t : Term ℕ) → All (Below (functions cs)) (functions_of t) → All Own (variables_of t) → TermKnown (names_said cs) vs t
    term-known (var x) f v = all_first v
    term-known (app g ts) f v = (own_numbers (Said.of_all Said.function_uses cs) g (all_first f), terms-known ts (all_rest f) v)

    terms-known : (ts : Terms ℕ) → All (Below (functions cs)) (functions_in ts) → All Own (variables_in ts) → TermsKnown (names_said cs) vs ts
    terms-known nil f v = tt
    terms-known (t then ts) f v = (
      term-known t (all_left (functions_of t) (functions_in ts) f) (all_left (variables_of t) (variables_in ts) v),
      terms-known ts (all_right (functions_of t) (functions_in ts) f) (all_right (variables_of t) (variables_in ts) v),
    )

  literals-again : (ls : List (Literal ℕ)) → All (Below (predicates cs)) (predicate_uses ls) → All (Below (functions cs)) (function_uses ls) → All Own (variable_uses ls)
      → literals_said (predicates cs) (functions cs) vs (spoken_row (names_said cs) ls) ≡ ls
  unfolding predicate_uses function_uses variable_uses literals_said SaidAgain OwnNumbers
  literals-again [] p f v = refl
  literals-again (l ∷ ls) p f v =
      ap₂ ◌∷◌
      (said_again (names_said cs) vs l (own_numbers (Said.of_all Said.predicate_uses cs) l.predicate (all_first p))
      (terms-known l.arguments (all_left (functions_in l.arguments) (function_uses ls) f) (all_left (variables_in l.arguments) (variable_uses ls) v)))
      (literals-again ls (all_rest p) (all_right (functions_in l.arguments) (function_uses ls) f) (all_right (variables_in l.arguments) (variable_uses ls) v))

-- rows and their literals
map_flatten : {A B : Type 0} (f : A → B) (ds : List (List A)) → flatten (map (map f) ds) ≡ map f (flatten ds)
unfolding flatten
map_flatten f [] = refl
map_flatten f (d ∷ ds) = ap (λ (r : List _). map f d ++ r) (map_flatten f ds) ∙ sym (map-append f d (flatten ds))

of_rows : {A : Type 0} {P : A → Type 0} (uses : List (Literal ℕ) → List A) → ((ls ms : List (Literal ℕ)) → uses (ls ++ ms) ≡ uses ls ++ uses ms)
    → (ds : List (List (Literal ℕ))) → All P (uses (flatten ds)) → All (λ d. All P (uses d)) ds
unfolding flatten
of_rows uses both [] a = end
of_rows {P = P} uses both (d ∷ ds) a =
    let split : All P (uses d ++ uses (flatten ds)) = rw (both d (flatten ds)) at a in
    all_left (uses d) (uses (flatten ds)) split also of_rows uses both ds (all_right (uses d) (uses (flatten ds)) split)

predicates_append : (ls ms : List (Literal ℕ)) → predicate_uses (ls ++ ms) ≡ predicate_uses ls ++ predicate_uses ms
unfolding predicate_uses
predicates_append [] ms = refl
predicates_append (l ∷ ls) ms = ap (λ (r : List ℕ). l.predicate ∷ r) (predicates_append ls ms)

functions_append : (ls ms : List (Literal ℕ)) → function_uses (ls ++ ms) ≡ function_uses ls ++ function_uses ms
unfolding function_uses
functions_append [] ms = refl
functions_append (l ∷ ls) ms =
    ap (λ (r : List ℕ). functions_in l.arguments ++ r) (functions_append ls ms) ∙ sym (append_assoc (functions_in l.arguments) (function_uses ls) (function_uses ms))

variables_append : (ls ms : List (Literal ℕ)) → variable_uses (ls ++ ms) ≡ variable_uses ls ++ variable_uses ms
unfolding variable_uses
variables_append [] ms = refl
variables_append (l ∷ ls) ms =
    ap (λ (r : List ℕ). variables_in l.arguments ++ r) (variables_append ls ms) ∙ sym (append_assoc (variables_in l.arguments) (variable_uses ls) (variable_uses ms))

-- the variables used in what is spoken are those of the literals
module _ (names : Names) where
  mutual
    unfolding term_naming terms_naming variables_of variables_in Said.variables_of Said.variables_in

    variables-spoken : (t : Term ℕ) → Said.variables_of (term_naming names t) ≡ map (variable_name names) (variables_of t)
    variables-spoken (var x) = refl
    variables-spoken (app f ts) = all-spoken ts

    all-spoken : (ts : Terms ℕ) → Said.variables_in (terms_naming names ts) ≡ map (variable_name names) (variables_in ts)
    all-spoken nil = refl
    all-spoken (t then ts) = ap₂ ◌++◌ (variables-spoken t) (all-spoken ts) ∙ sym (map-append (variable_name names) (variables_of t) (variables_in ts))

  uses-spoken : (ls : List (Literal ℕ)) → Said.variable_uses (spoken_row names ls) ≡ map (variable_name names) (variable_uses ls)
  unfolding Said.variable_uses variable_uses
  uses-spoken [] = refl
  uses-spoken (l ∷ ls) = ap₂ ◌++◌ (all-spoken l.arguments) (uses-spoken ls) ∙ sym (map-append (variable_name names) (variables_in l.arguments) (variable_uses ls))

-- An answer: its symbols are the text's, its variables are few and numbered by first use.
pub record InOrder (cs : List Spoken.Clause) (ls : List (Literal ℕ)) : Type 0 where
  pub predicates_below : All (Below (predicates cs)) (predicate_uses ls)
  pub functions_below : All (Below (functions cs)) (function_uses ls)
  pub few : All (λ x. x < 1024) (variable_uses ls)
  pub own : All (λ n. number_in (first_uses (variable_uses ls)) n ≡ n) (variable_uses ls)

module _ (cs : List Spoken.Clause) (ds : List (List (Literal ℕ))) (a : InOrder cs (flatten ds)) where
  abbrev spoken : List (List Spoken.Literal)
  spoken = spoken_rows (names_said cs) ds

  abbrev uses : List ℕ
  uses = variable_uses (flatten ds)

  variables-are : Said.variables (flatten spoken) ≡ Names.first_uses (map (variable_name (names_said cs)) uses)
  variables-are =
      ap (λ (ls : List Spoken.Literal). Said.variables ls) (map_flatten (λ l. literal_naming (names_said cs) l) ds)
      ∙ ap (λ (ns : List Name). Names.first_uses ns) (uses-spoken (names_said cs) (flatten ds))

  names_apart : (m n : ℕ) → m < 1024 → n < 1024 → same_name (variable_name (names_said cs) m) (variable_name (names_said cs) n) ≡ eqb m n
  names_apart m n h k = apart _ m n (omega arith) (omega arith)

  own-number : (x : ℕ) → x < 1024 → number_in (first_uses uses) x ≡ x → Names.number_in (Said.variables (flatten spoken)) (variable_name (names_said cs) x) ≡ x
  own-number x h e = rw variables-are (number_named (λ n. n < 1024) (variable_name (names_said cs)) names_apart uses x a.few h ∙ e)

  both : {P Q : ℕ → Type 0} (xs : List ℕ) → All P xs → All Q xs → All (λ x. P x × Q x) xs
  both [] p q = end
  both (x ∷ xs) p q = (all_first p, all_first q) also both xs (all_rest p) (all_rest q)

  all_own : All (Own cs (Said.variables (flatten spoken))) uses
  all_own = all_then (λ x h. own-number x h.0 h.1) (both uses a.few a.own)

  rows-again : (es : List (List (Literal ℕ))) → All (λ d. All (Below (predicates cs)) (predicate_uses d)) es → All (λ d. All (Below (functions cs)) (function_uses d)) es
      → All (λ d. All (Own cs (Said.variables (flatten spoken))) (variable_uses d)) es
      → map (literals_said (predicates cs) (functions cs) (Said.variables (flatten spoken))) (spoken_rows (names_said cs) es) ≡ es
  rows-again [] p f v = refl
  rows-again (e ∷ es) p f v =
      ap₂ ◌∷◌ (literals-again cs (Said.variables (flatten spoken)) e (all_first p) (all_first f) (all_first v)) (rows-again es (all_rest p) (all_rest f) (all_rest v))

  -- what is spoken is the answer
  pub answer_again : answer_said cs spoken ≡ ds
  unfolding answer_said
  answer_again =
      rows-again ds (of_rows predicate_uses predicates_append ds a.predicates_below) (of_rows function_uses functions_append ds a.functions_below)
      (of_rows variable_uses variables_append ds all_own)
