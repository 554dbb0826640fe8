-- The words of literals are shown as the text of the literals.
use mathlib.Core.Bool.{Bool}
use mathlib.Core.List.{List, [], ◌∷◌, ◌++◌, append_assoc}
use mathlib.Core.Path.{◌≡◌, refl, sym, ap, ◌∙◌}
use Prim.Native.Nat.{ℕ, suc, ◌≤◌, ◌<◌}
use native.Mathlib.Omega.{arith}
use lib.ListN.{get_or}
use Rattle.words.specs.Fields.{variable_word, function_word, literal_word}
use Rattle.words.proofs.Packed.{variable_kind, variable_number, function_kind, function_symbol, function_arity, literal_kind, literal_predicate, literal_arity, literal_negative}
use Rattle.table.specs.Syntax.{Term, var, app, Terms, nil, ◌then◌, arity, Literal}
use Rattle.table.specs.Encode.{term_words, terms_words, literal_words, literals_words}
use Rattle.table.specs.Limits.{TermWithin, TermsWithin, LiteralWithin, Each}
use Rattle.naming.specs.Shown.{Names, or_numbered, joint_text, sign_text, closing, closed, opening, opened, shown_by, shown}
use Rattle.naming.specs.Texts.{term_text, arguments_text, further_text, literal_text, literals_text, WordsShown}

module _ (names : Names) (atoms : ℕ) where
  -- a word by its kind
  variable-shown : (before x : ℕ) → x < 1024 → (lists rest : List ℕ)
      → shown names atoms before lists (variable_word x ∷ rest) ≡ or_numbered x (get_or names.variables x []) ++ (closing lists ++ shown names atoms before (closed lists) rest)
  unfolding shown shown_by
  variable-shown before x h lists rest = rw (variable_kind x h, variable_number x h)

  function-shown : (before f a : ℕ) → f < 4096 → a ≤ 4 → (lists rest : List ℕ)
      → shown names atoms before lists (function_word f a ∷ rest) ≡ get_or names.functions f [] ++ (opening a lists ++ shown names atoms before (opened a lists) rest)
  unfolding shown shown_by
  function-shown before f a h k lists rest =
      rw (function_kind f a h (omega (arith, k)), function_symbol f a h (omega (arith, k)), function_arity f a h (omega (arith, k)))

  literal-shown : (before : ℕ) (n : Bool) (p a : ℕ) → p < 4096 → a ≤ 4 → (rest : List ℕ)
      → shown names atoms before [] (literal_word n p a ∷ rest)
      ≡ joint_text atoms before ++ sign_text n ++ get_or names.predicates p [] ++ (opening a [] ++ shown names atoms (suc before) (opened a []) rest)
  unfolding shown shown_by
  literal-shown before n p a h k rest =
      rw (literal_kind p a h (omega (arith, k)) n, literal_predicate p a h (omega (arith, k)) n, literal_arity p a h (omega (arith, k)) n, literal_negative p a h (omega (arith, k)) n)

  -- a term; a list of arguments after its symbol; what is still to come of a list after a whole term
  mutual
    unfolding term_words terms_words TermWithin TermsWithin term_text arguments_text further_text opening opened closing closed arity

    term-shown : (t : Term ℕ) → TermWithin t 1024 → (before : ℕ) (lists ws : List ℕ)
        → shown names atoms before lists (term_words t ++ ws) ≡ term_text names t ++ (closing lists ++ shown names atoms before (closed lists) ws)
    term-shown (var x) h before lists ws = variable-shown before x h lists ws
    term-shown (app f ts) h before lists ws =
        function-shown before f (arity ts) h.0 h.1 lists (terms_words ts ++ ws)
        ∙ ap (λ (l : List ℕ). get_or names.functions f [] ++ l) (arguments-shown ts h.2 before lists ws)
        ∙ sym (append_assoc (get_or names.functions f []) (arguments_text names ts) (closing lists ++ shown names atoms before (closed lists) ws))

    arguments-shown : (ts : Terms ℕ) → TermsWithin ts 1024 → (before : ℕ) (lists ws : List ℕ)
        → opening (arity ts) lists ++ shown names atoms before (opened (arity ts) lists) (terms_words ts ++ ws)
        ≡ arguments_text names ts ++ (closing lists ++ shown names atoms before (closed lists) ws)
    arguments-shown nil h before lists ws = refl
    arguments-shown (t then ts) h before lists ws =
        ap (λ (l : List ℕ). 40 ∷ shown names atoms before (arity ts ∷ lists) l) (append_assoc (term_words t) (terms_words ts) ws)
        ∙ ap (λ (l : List ℕ). 40 ∷ l)
        (term-shown t h.0 before (arity ts ∷ lists) (terms_words ts ++ ws)
        ∙ ap (λ (l : List ℕ). term_text names t ++ l) (further-shown ts h.1 before lists ws)
        ∙ sym (append_assoc (term_text names t) (further_text names ts) (closing lists ++ shown names atoms before (closed lists) ws)))

    further-shown : (ts : Terms ℕ) → TermsWithin ts 1024 → (before : ℕ) (lists ws : List ℕ)
        → closing (arity ts ∷ lists) ++ shown names atoms before (closed (arity ts ∷ lists)) (terms_words ts ++ ws)
        ≡ further_text names ts ++ (closing lists ++ shown names atoms before (closed lists) ws)
    further-shown nil h before lists ws = refl
    further-shown (t then ts) h before lists ws =
        ap (λ (l : List ℕ). 44 ∷ shown names atoms before (arity ts ∷ lists) l) (append_assoc (term_words t) (terms_words ts) ws)
        ∙ ap (λ (l : List ℕ). 44 ∷ l)
        (term-shown t h.0 before (arity ts ∷ lists) (terms_words ts ++ ws)
        ∙ ap (λ (l : List ℕ). term_text names t ++ l) (further-shown ts h.1 before lists ws)
        ∙ sym (append_assoc (term_text names t) (further_text names ts) (closing lists ++ shown names atoms before (closed lists) ws)))

  regroup : (j s n a t : List ℕ) → j ++ s ++ n ++ (a ++ t) ≡ j ++ (s ++ n ++ a) ++ t
  regroup j s n a t =
      sym (append_assoc (j ++ s ++ n) a t)
      ∙ ap (λ (l : List ℕ). l ++ t) (ap (λ (l : List ℕ). l ++ a) (append_assoc j s n) ∙ append_assoc j (s ++ n) a)

  literals-shown : (ls : List (Literal ℕ)) → Each (LiteralWithin 1024) ls → (before : ℕ)
      → shown names atoms before [] (literals_words ls) ≡ literals_text names atoms before ls
  unfolding literals_words literal_words literals_text literal_text Each shown closing closed
  literals-shown [] h before = refl
  literals-shown (l ∷ ls) h before =
      let rest = literals_words ls in
      literal-shown before l.negative l.predicate (arity l.arguments) h.0.predicate h.0.arity (terms_words l.arguments ++ rest)
      ∙ ap (λ (x : List ℕ). joint_text atoms before ++ sign_text l.negative ++ get_or names.predicates l.predicate [] ++ x)
      (arguments-shown l.arguments h.0.arguments (suc before) [] rest
      ∙ ap (λ (x : List ℕ). arguments_text names l.arguments ++ x) (literals-shown ls h.1 (suc before)))
      ∙ regroup (joint_text atoms before) (sign_text l.negative) (get_or names.predicates l.predicate []) (arguments_text names l.arguments) (literals_text names atoms (suc before) ls)

pub words_shown : WordsShown
unfolding WordsShown
words_shown = λ names atoms ls h. literals-shown names atoms ls h 0
