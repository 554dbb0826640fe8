-- What the call says, one law for each outcome, with premises as the code has them.
use borrow.Author.Tests.{eqb-true, not-true, not-false}
use lib.Dec.{eqb}
use lib.ListN.{length, get_or, length-append, length-map}
use mathlib.Core.Bool.{Bool, true, false, not, ◌||◌}
use mathlib.Core.List.{List, [], ◌∷◌, ◌++◌, map}
use mathlib.Core.Logic.{inl, inr}
use mathlib.Core.Path.{◌≡◌, refl, sym, ap, ap₂, ◌∙◌, subst}
use native.Mathlib.Omega.{arith}
use Prim.Native.Nat.{ℕ, zero, suc, ◌+◌, ◌-◌, ◌*◌, ◌^◌, ◌≤◌, ◌<◌}
use mir.Syntax.{w32}
use mir.Val.{Fits}
use Rattle.table.specs.Build.{at_front}
use Rattle.words.specs.Steps.{step_of}
use Rattle.words.specs.declared.Step.{Step}
use Rattle.table.specs.File.{judge, table_in}
use Rattle.table.specs.Limits.{Each, ClauseWithin}
use Rattle.table.specs.Syntax.{Clause, Table}
use Rattle.table.proofs.Accepted.{accepted as accepted-file}
use Rattle.table.proofs.AcceptedTable.{words_each}
use Rattle.rules.proofs.Demands.{proof_is_short}
use Rattle.hukolearu.specs.Calls.{check_setting, check_call}
use Rattle.hukolearu.specs.CallDemands.{check_status, FoundStatus}
use Rattle.hukolearu.specs.declared.Outcome.{Outcome}
use Rattle.text.specs.Digits.{decimal_text}
use Rattle.text.specs.Put.{Put}
use Rattle.text.specs.Quoted.{bytes}
use Rattle.slim.specs.Walking.{Ready}
use Rattle.slim.proofs.Walks.{clauses_few, clauses_within, question_within}
use Rattle.clauselines.specs.Call.{refused, if_it_fits}
use Rattle.clauselines.specs.Lines.{clause_text}
use Rattle.clauselines.specs.declared.TextWritten.{TextWritten}
use Rattle.clauselines.proofs.Calls.{counted, fits, fits_not, none_written, all_written}
use Rattle.clauselines.proofs.Short.{decimal_short, clause_short}
use Rattle.listing.specs.Behind.{copied_by, Listed, if_copied, copied_from, copied, asked}
use Rattle.listing.specs.Lines.{line_text, lines_text, listing_text}
use Rattle.listing.specs.Call.{ListingAsked, check_of, accepts, after_check, listing_call}
use Rattle.listing.specs.Counting.{Counted, counted_text}
use Rattle.listing.proofs.Checked.{found_accepted, closed, limits}

-- The listing is short: a line has at most 4,397 bytes, and there are at most 512.
line_short : (question : Bool) (l : Listed) → ClauseWithin l.clause → length (line_text question l) ≤ 4397
unfolding line_text
line_short question l h =
    let n = decimal_text l.number in
    let c = decimal_text l.copies in
    let s : List ℕ = bytes " " in
    let t = clause_text l.number question l.clause in
    omega (
      arith,
      length-append n s,
      length-append (n ++ s) c,
      length-append (n ++ s ++ c) s,
      length-append (n ++ s ++ c ++ s) t,
      decimal_short l.number,
      decimal_short l.copies,
      clause_short l.number question l.clause h,
    )

lines_short : (copies : ℕ → ℕ) (number : ℕ) (cs : List Clause) → Each ClauseWithin cs → length (lines_text (copied_from copies number cs)) ≤ 4397 * length cs
unfolding lines_text copied_from if_copied Each
lines_short copies number [] h = omega arith
lines_short copies number (c ∷ cs) h = more (copies number) (lines_short copies (suc number) cs h.1)
  where
    more : (n : ℕ) → length (lines_text (copied_from copies (suc number) cs)) ≤ 4397 * length cs
        → length (lines_text (if_copied number n c (copied_from copies (suc number) cs))) ≤ 4397 * suc (length cs)
    more zero k = omega arith
    more (suc n) k =
        let l : Listed = record { number = number; copies = suc n; clause = c } in
        omega (arith, k, line_short false l h.0, length-append (line_text false l) (lines_text (copied_from copies (suc number) cs)))

module _ {file : List ℕ} {question : ℕ} (r : Ready file question) (copies : List ℕ) where
  listing-short : length (counted_text copies (table_in file)) < 2 ^ 32
  listing-short =
      let t = table_in file in
      let l : Listed = record { number = length t.clauses; copies = suc (get_or copies (length t.clauses) 0); clause = t.question } in
      omega (
        arith,
        lines_short (λ n. get_or copies n 0) 0 t.clauses (clauses_within file question r),
        line_short true l (question_within file question r),
        length-append (lines_text (copied_from (λ n. get_or copies n 0) 0 t.clauses)) (line_text true l),
        clauses_few file question r,
      )

  module _ {nowhere left : List ℕ} {bytes : ℕ} (p : Put nowhere 0 (counted_text copies (table_in file)) left bytes) where
    bytes_are : bytes ≡ length (counted_text copies (table_in file))
    bytes_are = counted p listing-short

    pub bytes_fit : Fits w32 bytes
    bytes_fit = record { fits = omega (arith, bytes_are, listing-short) }

    pub too_long : {listing : List ℕ} → length listing < bytes → {q : TextWritten} → q ≡ (refused 16 0).outcome
        → (q ≡ (if_it_fits (counted_text copies (table_in file)) (length listing)).outcome) × (listing ≡ at_front (if_it_fits (counted_text copies (table_in file)) (length listing)).text listing)
    too_long {listing} h f =
        none_written (fits_not (counted_text copies (table_in file)) (length listing) (omega (arith, h, bytes_are))) f

    pub written : {listing later : List ℕ} {end : ℕ} → bytes ≤ length listing → Put listing 0 (counted_text copies (table_in file)) later end
        → (record { status = 0; place = 0; bytes = bytes } ≡ (if_it_fits (counted_text copies (table_in file)) (length listing)).outcome)
        × (later ≡ at_front (if_it_fits (counted_text copies (table_in file)) (length listing)).text listing)
    written {listing} h put =
        let k : length (counted_text copies (table_in file)) ≤ length listing = omega (arith, h, bytes_are) in
        all_written (counted_text copies (table_in file)) (fits (counted_text copies (table_in file)) (length listing) k) k bytes_are put

pub ruleset listed_laws = (bytes_fit, too_long, written)

-- counters that say how often the steps copy each clause give the listing
copied_same : (f g : ℕ → ℕ) (number : ℕ) (cs : List Clause) → ((n : ℕ) → n < number + length cs → f n ≡ g n) → copied_from f number cs ≡ copied_from g number cs
unfolding copied_from
copied_same f g number [] h = refl
copied_same f g number (c ∷ cs) h =
    ap₂ (λ (n : ℕ) (ls : List Listed). if_copied number n c ls) (h number (omega arith)) (copied_same f g (suc number) cs (λ n k. h n (omega arith)))

counted_text_lem : (t : Table) (steps : List Step) (copies : List ℕ) → length t.clauses < 512 → Counted steps copies → counted_text copies t ≡ listing_text t steps
unfolding listing_text copied asked
counted_text_lem t steps copies few c =
    ap₂ (λ (ls : List Listed) (n : ℕ). lines_text ls ++ line_text true (record { number = length t.clauses; copies = suc n; clause = t.question }))
    (copied_same (λ n. get_or copies n 0) (copied_by steps) 0 t.clauses (λ n k. c.counts n (omega arith)))
    (c.counts (length t.clauses) few)

-- the public call
pub found_status : (status : ℕ) → accepts status ≡ true → FoundStatus status
found_status status e = go (eqb status 0) (eqb status 16) refl refl e
  where
    go : (a b : Bool) → eqb status 0 ≡ a → eqb status 16 ≡ b → (a || b) ≡ true → FoundStatus status
    go true b p q e = inl (eqb-true status 0 p)
    go false true p q e = inr (eqb-true status 16 q)
    go false false p q e = let z : ◌≡◌ {A = ℕ} 0 1 = cc in absurd (omega arith)

module _ (a : ListingAsked) {o : Outcome} (e : o ≡ (check_call (check_of a 0)).outcome) {b : Bool} (f : b ≡ accepts o.status) where
  pub not_accepted : not b ≡ true → listing_call a ≡ refused o.status o.place
  unfolding listing_call after_check
  not_accepted n = rw (← e, ← f, not-true b n)

  module _ (n : not b ≡ false) where
    accepted : listing_call a ≡ if_it_fits (listing_text (table_in a.file) (map step_of a.offered)) a.listing_room
    unfolding listing_call after_check
    accepted = rw (← e, ← f, not-false b n)

    found : FoundStatus (check_status (check_of a 0))
    found = subst (λ (x : Outcome). FoundStatus x.status) e (found_status o.status (sym f ∙ not-false b n))

    good : (judge a.file).status ≡ 0
    good = (found_accepted (check_of a 0) found).good_file

    pub proof_short : length a.offered ≤ 199
    proof_short =
        let ok = found_accepted (check_of a 0) found in
        omega (
          arith,
          proof_is_short (check_setting (check_of a 0)) (limits (check_of a 0) found) ok.low_bound (map step_of a.offered) (closed (check_of a 0) found),
          length-map a.offered step_of,
        )

    pub file_long : 6 ≤ length a.file
    file_long = (accepted-file a.file good).least

    module _ (small : (i : ℕ) → Fits w32 (get_or a.file i 0)) {word question : ℕ} (w : word ≡ get_or a.file (length a.file - 4) 0) (q : question ≡ word) where
      pub file_ready : Ready a.file question
      file_ready =
          record {
            accepted = good;
            small = words_each a.file (λ i. (small i).fits);
            asks = q ∙ w ∙ ap (λ (i : ℕ). get_or a.file i 0) (omega arith) ∙ sym (accepted-file a.file good).question;
          }

      module _ {copies : List ℕ} (c : Counted (map step_of a.offered) copies) {r : TextWritten} (listing : List ℕ) {listing' : List ℕ} where
        -- what is listed by the counters is what the call gives
        pub told_listed : r ≡ (if_it_fits (counted_text copies (table_in a.file)) a.listing_room).outcome
            → listing' ≡ at_front (if_it_fits (counted_text copies (table_in a.file)) a.listing_room).text listing
            → (r ≡ (listing_call a).outcome) × (listing' ≡ at_front (listing_call a).text listing)
        told_listed told text =
            rw (accepted, ← counted_text_lem (table_in a.file) (map step_of a.offered) copies (clauses_few a.file question file_ready) c) (told, text)
