-- The clauses of a body by the positions of their clause words.
use mathlib.Core.Path.{◌≡◌, refl, sym, ap, ap₂, ◌∙◌}
use mathlib.Core.List.{List, [], ◌∷◌, ◌++◌, map}
use mathlib.Core.Option.{none}
use Prim.Native.Nat.{ℕ, zero, suc, ◌+◌, ◌-◌, ◌≤◌, ◌<◌}
use native.Mathlib.Omega.{arith}
use lib.ListN.{length, take, drop, get_or, length-append, get_or-map}
use lib.Seq.{drop-append_seam, get_or-append_seam, append_snoc}
use Rattle.words.specs.Fields.{following_of}
use Rattle.table.specs.Syntax.{Clause}
use Rattle.table.specs.Reading.{clause_fault}
use Rattle.table.specs.Body.{body_fault, starts, last_of}
use Rattle.table.specs.Decode.{clause_of, parts_from, clauses_of, with_question, as_table, table_of}
use Rattle.table.proofs.BodyDecoding.{clauses_count}
use Rattle.table.proofs.Bodies.{Seeking, seek_begin, seek_next, seek_within, clause_sound, clause_fits_lem, seek_done}

-- the words of the clause that begins at a position
abbrev pub words_from : List ℕ → ℕ → List ℕ
words_from body at = take (suc (following_of (get_or body at 0))) (drop at body)

part_here : (done : List ℕ) (w : ℕ) (ws : List ℕ) → words_from (done ++ w ∷ ws) (length done) ≡ w ∷ take (following_of w) ws
part_here done w ws = rw (get_or-append_seam done w ws 0, drop-append_seam done (w ∷ ws))

parts_on : (done ws : List ℕ) (at passing : ℕ) → length done ≡ at → parts_from passing ws ≡ map (words_from (done ++ ws)) (starts at passing ws)
unfolding parts_from starts
parts_on done [] at passing e = refl
parts_on done (w ∷ ws) at (suc passing) e =
    let more : length (done ++ (w ∷ [])) ≡ at + 1 = omega (arith, length-append done (w ∷ [])) in
    parts_on (done ++ (w ∷ [])) ws (at + 1) passing more ∙ ap (λ (l : List ℕ). map (words_from l) (starts (at + 1) passing ws)) (append_snoc done w ws)
parts_on done (w ∷ ws) at zero e =
    let more : length (done ++ (w ∷ [])) ≡ at + 1 = omega (arith, length-append done (w ∷ [])) in
    ap₂ (λ (p : List ℕ) (ps : List (List ℕ)). p ∷ ps)
    (sym (part_here done w ws) ∙ ap (λ (n : ℕ). words_from (done ++ w ∷ ws) n) e)
    (parts_on (done ++ (w ∷ [])) ws (at + 1) (following_of w) more ∙ ap (λ (l : List ℕ). map (words_from l) (starts (at + 1) (following_of w) ws)) (append_snoc done w ws))

pub parts_by_start : (body : List ℕ) → parts_from 0 body ≡ map (words_from body) (starts 0 0 body)
parts_by_start body = parts_on [] body 0 0 refl

-- a clause's number names the clause that begins where the numbered start says
map_map : {A B C : Type 0} (f : A → B) (g : B → C) (xs : List A) → map g (map f xs) ≡ map (λ x. g (f x)) xs
map_map f g [] = refl
map_map f g (x ∷ xs) = ap (λ (ys : List _). g (f x) ∷ ys) (map_map f g xs)

pub clauses_by_start : (body : List ℕ) → clauses_of body ≡ map (λ at. clause_of (words_from body at)) (starts 0 0 body)
unfolding clauses_of
clauses_by_start body =
    ap (λ (ps : List (List ℕ)). map clause_of ps) (parts_by_start body) ∙ map_map (words_from body) clause_of (starts 0 0 body)

any_default : {A : Type 0} (xs : List A) (n : ℕ) (d e : A) → n < length xs → get_or xs n d ≡ get_or xs n e
any_default [] n d e h = absurd (omega arith)
any_default (x ∷ xs) zero d e h = refl
any_default (x ∷ xs) (suc n) d e h = any_default xs n d e (omega arith)

pub clause_by_number : (body : List ℕ) (number : ℕ) (other : Clause) → number < length (starts 0 0 body) → get_or (clauses_of body) number other ≡ clause_of (words_from body (get_or (starts 0 0 body) number 0))
clause_by_number body number other h =
    let f : ℕ → Clause = λ at. clause_of (words_from body at) in
    any_default (clauses_of body) number other (f 0) (omega (arith, clauses_count body))
    ∙ ap (λ (cs : List Clause). get_or cs number (f 0)) (clauses_by_start body)
    ∙ get_or-map f (starts 0 0 body) number 0

-- the last is the question
pub question_of_map : (f : ℕ → Clause) (other n : ℕ) (ns : List ℕ) → (with_question (f n) (map f ns)).question ≡ f (last_of other (n ∷ ns))
unfolding with_question last_of
question_of_map f other n [] = refl
question_of_map f other n (m ∷ ms) = question_of_map f n m ms

question_of_starts : (f : ℕ → Clause) (ns : List ℕ) → 1 ≤ length ns → (as_table (map f ns)).question ≡ f (last_of 0 ns)
unfolding as_table
question_of_starts f [] h = absurd (omega arith)
question_of_starts f (n ∷ ns) h = question_of_map f 0 n ns

pub question_by_start : (body : List ℕ) → 1 ≤ length (starts 0 0 body) → (table_of body).question ≡ clause_of (words_from body (last_of 0 (starts 0 0 body)))
unfolding table_of
question_by_start body h =
    ap (λ (cs : List Clause). (as_table cs).question) (clauses_by_start body) ∙ question_of_starts (λ at. clause_of (words_from body at)) (starts 0 0 body) h

-- where no word of the body is malformed, each clause stands within the body and has no fault
pub record StandsAt (body : List ℕ) (at : ℕ) : Type 0 where
  pub inside : at < length body
  pub sound : clause_fault (get_or body at 0) (drop (at + 1) body) ≡ none
  pub fits : at + (following_of (get_or body at 0) + 1) ≤ length body

found : {body : List ℕ} {number : ℕ} (left at : ℕ) → Seeking body number at left → StandsAt body (get_or (starts 0 0 body) number 0)
found zero at g =
    rw (← (seek_done g (omega arith)).place) (record { inside = seek_within g; sound = clause_sound g; fits = clause_fits_lem g })
found {body} {number} (suc left) at g =
    let z : suc left - 1 ≡ left = omega arith in
    let next : Seeking body number (at + (following_of (get_or body at 0) + 1)) (suc left - 1) = seek_next g (omega arith) refl refl in
    found left (at + (following_of (get_or body at 0) + 1)) (rw z at next)

pub stands_at : (body : List ℕ) (number : ℕ) → body_fault 0 0 body ≡ none → number < length (starts 0 0 body) → StandsAt body (get_or (starts 0 0 body) number 0)
stands_at body number e h = found number 0 (seek_begin e h)
