-- What is shown of a literal, read as clause text, is the literal in those names.
use mathlib.Core.Bool.{Bool, true, false, ◌&&◌}
use mathlib.Core.List.{List, [], ◌∷◌, ◌++◌, append_assoc, append-nil}
use mathlib.Core.Path.{◌≡◌, refl, sym, subst}
use Prim.Native.Nat.{ℕ}
use native.Mathlib.Omega.{arith}
use lib.ListN.{get_or}
use Rattle.clausetext.specs.declared.kind.Kind.TheVariants.{Lower, Upper}
use Rattle.clausetext.specs.declared.kind.Mark.TheVariants.{Open, Close, Comma, Tilde}
use Rattle.clausetext.specs.Kinds.{kind_of, goes_on, sign_kind, letter_kind}
use Rattle.clausetext.specs.Tokens.{Token, word, capital, mark, word_ahead, Word, ends, goes, Spelt, nothing, blank, sign, lower, upper}
use Rattle.clausetext.specs.Grammar.{Applied, bare, applied, TermRule, Arguments, LiteralRule, positive, negated}
use Rattle.clausetext.specs.Grammar as Grammar
use Rattle.table.specs.Syntax.{Term, var, app, Terms, nil, ◌then◌}
use Rattle.naming.specs.Shown.{Names, sign_text}
use Rattle.naming.specs.Texts.{term_text, arguments_text, further_text, literal_text, going_on, Begins, begins, variable_name, TermNamed, TermsNamed, term_naming, terms_naming, ReadAs, ReadsAsShown}

-- a word ends where no letter, digit or `_` comes
whole_word : (w : List ℕ) → going_on w ≡ true → (rest : List ℕ) → word_ahead rest ≡ false → Word w (w ++ rest) rest
unfolding going_on
whole_word [] e rest h = ends h
whole_word (c ∷ w) e rest h = by (goes_on (kind_of c)) refl e (λ g. whole_word w g rest h)
  where
    by : (t : Bool) → goes_on (kind_of c) ≡ t → t && going_on w ≡ true → (going_on w ≡ true → Word w (w ++ rest) rest) → Word (c ∷ w) (c ∷ (w ++ rest)) rest
    by true q x more = goes q (more x)
    by false q x more = let z : ◌≡◌ {A = ℕ} 0 1 = cc in absurd (omega (arith, z))

spelt_word : {name : List ℕ} → Begins Lower name → {rest : List ℕ} → word_ahead rest ≡ false → {ts : List Token} → Spelt ts rest → Spelt (word name ∷ ts) (name ++ rest)
spelt_word (begins {c} {w} k g) {rest} h s = lower k (whole_word w g rest h) s

spelt_capital : {name : List ℕ} → Begins Upper name → {rest : List ℕ} → word_ahead rest ≡ false → {ts : List Token} → Spelt ts rest → Spelt (capital name ∷ ts) (name ++ rest)
spelt_capital (begins {c} {w} k g) {rest} h s = upper k (whole_word w g rest h) s

module _ (names : Names) where
  -- the tokens of what is shown
  unfoldable mutual
    termTokens : Term ℕ → List Token → List Token
    termTokens (var x) ts = capital (variable_name names x) ∷ ts
    termTokens (app f us) ts = word (get_or names.functions f []) ∷ argumentsTokens us ts

    argumentsTokens : Terms ℕ → List Token → List Token
    argumentsTokens nil ts = ts
    argumentsTokens (u then us) ts = mark Open ∷ termTokens u (furtherTokens us ts)

    furtherTokens : Terms ℕ → List Token → List Token
    furtherTokens nil ts = mark Close ∷ ts
    furtherTokens (u then us) ts = mark Comma ∷ termTokens u (furtherTokens us ts)

  further-ahead : (us : Terms ℕ) (rest : List ℕ) → word_ahead (further_text names us ++ rest) ≡ false
  unfolding further_text word_ahead kind_of sign_kind letter_kind
  further-ahead nil rest = refl
  further-ahead (u then us) rest = refl

  arguments-ahead : (us : Terms ℕ) (rest : List ℕ) → word_ahead rest ≡ false → word_ahead (arguments_text names us ++ rest) ≡ false
  unfolding arguments_text word_ahead kind_of sign_kind letter_kind
  arguments-ahead nil rest h = h
  arguments-ahead (u then us) rest h = refl

  mutual
    unfolding TermNamed TermsNamed term_text arguments_text further_text termTokens argumentsTokens furtherTokens kind_of sign_kind letter_kind

    term_spelt : (t : Term ℕ) → TermNamed names t → (rest : List ℕ) → word_ahead rest ≡ false → (ts : List Token) → Spelt ts rest → Spelt (termTokens t ts) (term_text names t ++ rest)
    term_spelt (var x) h rest e ts s = spelt_capital h e s
    term_spelt (app f us) h rest e ts s =
        subst (λ (l : List ℕ). Spelt (word (get_or names.functions f []) ∷ argumentsTokens us ts) l) (sym (append_assoc (get_or names.functions f []) (arguments_text names us) rest))
        (spelt_word h.0 (arguments-ahead us rest e) (arguments_spelt us h.1 rest e ts s))

    arguments_spelt : (us : Terms ℕ) → TermsNamed names us → (rest : List ℕ) → word_ahead rest ≡ false → (ts : List Token) → Spelt ts rest
        → Spelt (argumentsTokens us ts) (arguments_text names us ++ rest)
    arguments_spelt nil h rest e ts s = s
    arguments_spelt (u then us) h rest e ts s =
        sign refl (subst (λ (l : List ℕ). Spelt (termTokens u (furtherTokens us ts)) l) (sym (append_assoc (term_text names u) (further_text names us) rest))
        (term_spelt u h.0 (further_text names us ++ rest) (further-ahead us rest) (furtherTokens us ts) (further_spelt us h.1 rest ts s)))

    further_spelt : (us : Terms ℕ) → TermsNamed names us → (rest : List ℕ) (ts : List Token) → Spelt ts rest → Spelt (furtherTokens us ts) (further_text names us ++ rest)
    further_spelt nil h rest ts s = sign refl s
    further_spelt (u then us) h rest ts s =
        sign refl (subst (λ (l : List ℕ). Spelt (termTokens u (furtherTokens us ts)) l) (sym (append_assoc (term_text names u) (further_text names us) rest))
        (term_spelt u h.0 (further_text names us ++ rest) (further-ahead us rest) (furtherTokens us ts) (further_spelt us h.1 rest ts s)))

  -- and the grammar's rules for them
  mutual
    unfolding termTokens argumentsTokens furtherTokens term_naming terms_naming

    term-rule : (t : Term ℕ) (ts : List Token) → TermRule (term_naming names t) (termTokens t ts) ts
    term-rule (var x) ts = Grammar.upper
    term-rule (app f us) ts = Grammar.lower (applied-rule us (get_or names.functions f []) ts)

    applied-rule : (us : Terms ℕ) (f : List ℕ) (ts : List Token) → Applied f (terms_naming names us) (word f ∷ argumentsTokens us ts) ts
    applied-rule nil f ts = bare
    applied-rule (u then us) f ts = applied (arguments-rule us u (λ l. term-rule u l) ts)

    arguments-rule : (us : Terms ℕ) (u : Term ℕ) → ((ts : List Token) → TermRule (term_naming names u) (termTokens u ts) ts)
        → (ts : List Token) → Arguments (terms_naming names (u then us)) (termTokens u (furtherTokens us ts)) ts
    arguments-rule nil u first ts = Grammar.last (first (mark Close ∷ ts))
    arguments-rule (v then vs) u first ts = Grammar.more (first (mark Comma ∷ termTokens v (furtherTokens vs ts))) (arguments-rule vs v (λ l. term-rule v l) ts)

  literal_read : (n : Bool) (p : List ℕ) (us : Terms ℕ) → Begins Lower p → TermsNamed names us
      → ReadAs (sign_text n ++ p ++ arguments_text names us) (record { negative = n; predicate = p; arguments = terms_naming names us })
  unfolding sign_text kind_of sign_kind letter_kind word_ahead
  literal_read n p us h k = by n
    where
      atom : Spelt (word p ∷ argumentsTokens us []) (p ++ arguments_text names us)
      atom =
          let s = arguments_spelt us k [] refl [] nothing in
          subst (λ (l : List ℕ). Spelt (word p ∷ argumentsTokens us []) (p ++ l)) (append-nil (arguments_text names us)) (spelt_word h (arguments-ahead us [] refl) s)

      by : (n : Bool) → ReadAs (sign_text n ++ p ++ arguments_text names us) (record { negative = n; predicate = p; arguments = terms_naming names us })
      by false = record { tokens = word p ∷ argumentsTokens us []; spelt = atom; rule = positive (applied-rule us p []) }
      by true = record { tokens = mark Tilde ∷ word p ∷ argumentsTokens us []; spelt = sign refl (blank refl atom); rule = negated (applied-rule us p []) }

pub reads_as_shown : ReadsAsShown
unfolding ReadsAsShown literal_text
reads_as_shown = λ names l h k. literal_read names l.negative (get_or names.predicates l.predicate []) l.arguments h k
