-- The numbers given as the words are passed are the numbers among all names; every name used has one below their count.
use mathlib.Core.Bool.{Bool, true, false, cond}
use mathlib.Core.List.{List, [], ◌∷◌, ◌++◌}
use mathlib.Core.Path.{◌≡◌, refl, sym, ap, ap₂, ◌∙◌}
use Prim.Native.Nat.{ℕ, suc, ◌+◌, ◌≤◌, ◌<◌}
use native.Mathlib.Omega.{arith}
use borrow.Author.Tests.{leb-true, leb-false}
use lib.Dec.{eqb, leb}
use lib.ListN.{length, length-append}
use Rattle.words.specs.Fields.{kind_of}
use Rattle.names.specs.Numbers.{Name, noted, known_after, number_in}
use Rattle.names.specs.Noting.{uses_of, numbered}
use Rattle.names.proofs.Notes.{number_within, noted_known, noted_new, number_stays, number_new}
use Rattle.table.specs.Limits.{Each}

-- the words with the numbers of all the names of a kind
unfoldable pub zipped : ℕ → List Name → List ℕ → List Name → List ℕ
zipped kind known [] names = []
zipped kind known (w ∷ ws) [] = w ∷ ws
zipped kind known (w ∷ ws) (name ∷ names) = cond (eqb (kind_of w) kind) (w + number_in known name) w ∷ zipped kind known ws names

-- a name that is known keeps its number, and a name that is noted is known
abbrev Known : List Name → Name → Type 0
Known known name = number_in known name < length known

pub record Kept (known later : List Name) (name : Name) : Type 0 where
  pub number : number_in later name ≡ number_in known name
  pub there : number_in later name < length later

noted_keeps : (known : List Name) (other name : Name) → Known known name → Kept known (noted known other) name
noted_keeps known other name h = go (leb (suc (number_in known other)) (length known)) refl
  where
    go : (t : Bool) → leb (suc (number_in known other)) (length known) ≡ t → Kept known (noted known other) name
    go true e = rw (noted_known known other (leb-true _ _ e)) (record { number = refl; there = h })
    go false e =
        let n : noted known other ≡ known ++ (other ∷ []) = noted_new known other (omega (arith, leb-false (suc (number_in known other)) (length known) e, number_within known other)) in
        let s : number_in (known ++ (other ∷ [])) name ≡ number_in known name = number_stays known (other ∷ []) name h in
        rw n (record { number = s; there = omega (arith, s, length-append known (other ∷ [])) })

noted_there : (known : List Name) (name : Name) → Kept known (noted known name) name
noted_there known name = go (leb (suc (number_in known name)) (length known)) refl
  where
    go : (t : Bool) → leb (suc (number_in known name)) (length known) ≡ t → Kept known (noted known name) name
    go true e = rw (noted_known known name (leb-true _ _ e)) (record { number = refl; there = leb-true _ _ e })
    go false e =
        let z : number_in known name ≡ length known = omega (arith, leb-false (suc (number_in known name)) (length known) e, number_within known name) in
        let s : number_in (known ++ (name ∷ [])) name ≡ length known = number_new known name z in
        rw (noted_new known name z) (record { number = s ∙ sym z; there = omega (arith, s, length-append known (name ∷ [])) })

known_keeps : (known uses : List Name) (name : Name) → Known known name → Kept known (known_after known uses) name
unfolding known_after
known_keeps known [] name h = record { number = refl; there = h }
known_keeps known (other ∷ uses) name h =
    let a = noted_keeps known other name h in
    let b = known_keeps (noted known other) uses name a.there in
    record { number = b.number ∙ a.number; there = b.there }

-- a use of a name: its number then is its number at the end
use_kept : (known uses : List Name) (name : Name) → Kept known (known_after (noted known name) uses) name
use_kept known uses name =
    let a = noted_there known name in
    let b = known_keeps (noted known name) uses name a.there in
    record { number = b.number ∙ a.number; there = b.there }

-- the numbers given in passing are those among all names
module _ (kind : ℕ) where
  pub numbered_all : (known : List Name) (ws : List ℕ) (names : List Name) → numbered kind known ws names ≡ zipped kind (known_after known (uses_of kind ws names)) ws names
  unfolding numbered zipped uses_of known_after
  numbered_all known [] names = refl
  numbered_all known (w ∷ ws) [] = refl
  numbered_all known (w ∷ ws) (name ∷ names) = go (eqb (kind_of w) kind) (numbered_all (noted known name) ws names) (numbered_all known ws names)
    where
      go : (t : Bool) → numbered kind (noted known name) ws names ≡ zipped kind (known_after (noted known name) (uses_of kind ws names)) ws names
          → numbered kind known ws names ≡ zipped kind (known_after known (uses_of kind ws names)) ws names
          → cond t ((w + number_in known name) ∷ numbered kind (noted known name) ws names) (w ∷ numbered kind known ws names)
          ≡ cond t (w + number_in (known_after known (cond t (name ∷ uses_of kind ws names) (uses_of kind ws names))) name) w
          ∷ zipped kind (known_after known (cond t (name ∷ uses_of kind ws names) (uses_of kind ws names))) ws names
      go true a b = ap₂ (λ (x : ℕ) (l : List ℕ). x ∷ l) (ap (λ (n : ℕ). w + n) (sym (use_kept known (uses_of kind ws names) name).number)) a
      go false a b = ap (λ (l : List ℕ). w ∷ l) b

-- every name used has a number below the count
pub each_mapped : {A : Type 0} (P Q : A → Type 0) → ((x : A) → P x → Q x) → (xs : List A) → Each P xs → Each Q xs
unfolding Each
each_mapped P Q f [] e = tt
each_mapped P Q f (x ∷ xs) e = (f x e.0, each_mapped P Q f xs e.1)

pub used_below : (known uses : List Name) → Each (λ (n : Name). number_in (known_after known uses) n < length (known_after known uses)) uses
unfolding Each known_after
used_below known [] = tt
used_below known (name ∷ names) = ((use_kept known names name).there, used_below (noted known name) names)

-- and where every number is below a limit, there are no more names than the limit
pub uses_few : (limit : ℕ) (known uses : List Name) → length known ≤ limit → Each (λ (n : Name). number_in (known_after known uses) n < limit) uses
    → length (known_after known uses) ≤ limit
unfolding Each known_after
uses_few limit known [] h e = h
uses_few limit known (name ∷ names) h e = uses_few limit (noted known name) names (go (leb (suc (number_in known name)) (length known)) refl) e.1
  where
    go : (t : Bool) → leb (suc (number_in known name)) (length known) ≡ t → length (noted known name) ≤ limit
    go true q = rw (noted_known known name (leb-true _ _ q)) h
    go false q =
        let z : number_in known name ≡ length known = omega (arith, leb-false (suc (number_in known name)) (length known) q, number_within known name) in
        rw (noted_new known name z, length-append known (name ∷ [])) (omega (arith, e.0, (use_kept known names name).number))
