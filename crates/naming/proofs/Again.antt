-- The names of a literal numbered again.
use mathlib.Core.List.{List, [], ◌∷◌, ◌++◌}
use mathlib.Core.Path.{◌≡◌, refl, ap, ap₂, ◌∙◌}
use Prim.Native.Nat.{ℕ, zero, suc, ◌<◌}
use native.Mathlib.Omega.{arith}
use native.Mathlib.Decide.{dec_lt}
use lib.ListN.{length, get_or, length-append}
use Rattle.names.specs.Numbers.{Name, noted, known_after, number_in}
use Rattle.names.proofs.Notes.{number_within, noted_known, noted_new, number_stays, number_new}
use Rattle.tptp.specs.Said.{term_said, terms_said, literal_said}
use Rattle.table.specs.Syntax.{Term, var, app, Terms, nil, ◌then◌}
use Rattle.naming.specs.Shown.{Names}
use Rattle.naming.specs.Texts.{term_naming, terms_naming, TermKnown, TermsKnown, SaidAgain, OwnNumbers}

mutual
  unfolding term_said terms_said term_naming terms_naming TermKnown TermsKnown

  term_again : (t : Term ℕ) (names : Names) (vs : List Name) → TermKnown names vs t → term_said names.functions vs (term_naming names t) ≡ t
  term_again (var x) names vs h = ap (λ (n : ℕ). var n) h
  term_again (app f ts) names vs h = ap₂ (λ (n : ℕ) (us : Terms ℕ). app n us) h.0 (terms_again ts names vs h.1)

  terms_again : (ts : Terms ℕ) (names : Names) (vs : List Name) → TermsKnown names vs ts → terms_said names.functions vs (terms_naming names ts) ≡ ts
  terms_again nil names vs h = refl
  terms_again (t then ts) names vs h = ap₂ (λ (u : Term ℕ) (us : Terms ℕ). u then us) (term_again t names vs h.0) (terms_again ts names vs h.1)

pub said_again : SaidAgain
unfolding SaidAgain literal_said
said_again = λ names vs l h k.
    ap₂ (λ (p : ℕ) (ts : Terms ℕ). record { negative = l.negative; predicate = p; arguments = ts }) h (terms_again l.arguments names vs k)

-- each of some names has its own number
abbrev Own : List Name → Type 0
Own known = (n : ℕ) → n < length known → number_in known (get_or known n []) ≡ n

before_last : (known : List Name) (name : Name) (n : ℕ) → n < length known → get_or (known ++ (name ∷ [])) n [] ≡ get_or known n []
before_last [] name n h = absurd (omega (arith, h))
before_last (k ∷ ks) name zero h = refl
before_last (k ∷ ks) name (suc n) h = before_last ks name n (omega (arith, h))

the_last : (known : List Name) (name : Name) → get_or (known ++ (name ∷ [])) (length known) [] ≡ name
the_last [] name = refl
the_last (k ∷ ks) name = the_last ks name

noted_own : (known : List Name) (name : Name) → Own known → Own (noted known name)
noted_own known name own = go (dec_lt (number_in known name) (length known))
  where
    last-own : number_in known name ≡ length known → Own (known ++ (name ∷ []))
    last-own e n h = at (dec_lt n (length known))
      where
        at : Dec (n < length known) → number_in (known ++ (name ∷ [])) (get_or (known ++ (name ∷ [])) n []) ≡ n
        at (yes l) =
            ap (λ (x : Name). number_in (known ++ (name ∷ [])) x) (before_last known name n l)
            ∙ number_stays known (name ∷ []) (get_or known n []) (omega (arith, l, own n l))
            ∙ own n l
        at (no l) =
            let e' : n ≡ length known = omega (arith, l, h, length-append known (name ∷ [])) in
            rw e' (ap (λ (x : Name). number_in (known ++ (name ∷ [])) x) (the_last known name) ∙ number_new known name e)

    go : Dec (number_in known name < length known) → Own (noted known name)
    go (yes h) = rw (noted_known known name h) own
    go (no h) = let e : number_in known name ≡ length known = omega (arith, h, number_within known name) in rw (noted_new known name e) (last-own e)

after_own : (uses known : List Name) → Own known → Own (known_after known uses)
unfolding known_after
after_own [] known own = own
after_own (name ∷ uses) known own = after_own uses (noted known name) (noted_own known name own)

pub own_numbers : OwnNumbers
unfolding OwnNumbers
own_numbers = λ uses. after_own uses [] (λ n h. absurd (omega (arith, h)))
