-- Words that begin neither a clause nor a literal are passed: the place where that ends, and what noting the literals makes of it.
use mathlib.Core.Path.{◌≡◌, refl, sym, ap, subst, ◌∙◌}
use mathlib.Core.Bool.{Bool, true, false, cond}
use mathlib.Core.List.{List, [], ◌∷◌}
use Prim.Native.Nat.{ℕ, ◌+◌, ◌-◌, ◌≤◌, ◌<◌}
use native.Mathlib.Omega.{arith}
use lib.Dec.{ltb}
use lib.ListN.{length, take, drop, get_or, length-take, length-drop}
use borrow.Author.Tests.{lt-ltb, le-ltb, ltb-true, ltb-false}
use Rattle.words.specs.Fields.{kind_of}
use Rattle.index.specs.declared.entries.Scan.{Scan}
use Rattle.index.specs.Scanning.{past_word}
use Rattle.index.specs.Noting.{plain_from, moved_to}
use Rattle.index.proofs.Scans.{past_other, past_at, body_from, body_end}
use Rattle.index.proofs.Recorded.{Noting, noting_other}

-- how far the plain words are passed
pub record Passing (f : List ℕ) (body from at : ℕ) : Type 0 where
  pub low : at ≤ body
  pub same : plain_from from (drop from (take body f)) ≡ plain_from at (drop at (take body f))

module _ {f : List ℕ} {body from : ℕ} (fits : body ≤ length f) where
  pub passing_begin : from ≤ body → Passing f body from from
  passing_begin h = record { low = h; same = refl }

  module _ (s : Scan) {at : ℕ} (passing : Passing f body from at) where
    pub passing_end : body ≤ at → {r : Scan} → r ≡ moved_to s body → r ≡ moved_to s (plain_from from (drop from (take body f)))
    unfolding plain_from
    passing_end n e = let z : body ≡ at = omega (arith, passing.low) in (rw z at e) ∙ ap (moved_to s) (sym (passing.same ∙ rw (body_end f body fits {at = at} n)))

    module _ (h : at < body) where
      pub passing_reads : {q : ℕ} → q ≡ at → q < length f
      passing_reads e = omega (arith, e)

      pub passing_small : at < 4294967295 → at + 1 ≤ 4294967295
      passing_small l = omega arith

      pub passing_less : body - (at + 1) < body - at
      passing_less = omega arith

      module _ {q k : ℕ} (eq : q ≡ at) (ek : k ≡ kind_of (get_or f q 0)) where
        pub passing_found : 1 < k → {r : Scan} → r ≡ moved_to s at → r ≡ moved_to s (plain_from from (drop from (take body f)))
        unfolding plain_from
        passing_found l e =
            e ∙ ap (moved_to s) (sym (passing.same ∙ rw (body_from f body fits h eq, lt-ltb 1 (kind_of (get_or f q 0)) (omega (arith, ek)))))

        pub passing_on : k ≤ 1 → Passing f body from (at + 1)
        unfolding plain_from
        passing_on n =
            record {
              low = omega arith;
              same = passing.same ∙ rw (body_from f body fits h eq, le-ltb 1 (kind_of (get_or f q 0)) (omega (arith, ek)));
            }

pub plain_later : (ws : List ℕ) (at : ℕ) → at ≤ plain_from at ws
unfolding plain_from
plain_later [] at = omega arith
plain_later (w ∷ ws) at = go (ltb 1 (kind_of w)) (plain_later ws (at + 1))
  where
    go : (b : Bool) → at + 1 ≤ plain_from (at + 1) ws → at ≤ cond b at (plain_from (at + 1) ws)
    go true h = omega arith
    go false h = omega arith

-- what holds past each plain word holds past all of them
module _ (f : List ℕ) {body : ℕ} (fits : body ≤ length f) (P : Scan → Type 0)
    (on : (s : Scan) → s.at < body → kind_of (get_or f s.at 0) ≤ 1 → P s → P (past_word s (get_or f s.at 0))) where
  pub past_plains : (ws : List ℕ) (s : Scan) → drop s.at (take body f) ≡ ws → P s → P (moved_to s (plain_from s.at ws))
  unfolding plain_from
  past_plains [] s e g = g
  past_plains (w ∷ ws) s e g = go (ltb 1 (kind_of w)) refl (λ t d n. past_plains ws t d n)
    where
      inside : s.at < body
      inside = omega (arith, simp (length-drop, length-take) at (ap length e))

      here : drop s.at (take body f) ≡ get_or f s.at 0 ∷ drop (s.at + 1) (take body f)
      here = body_from f body fits inside refl

      word : get_or f s.at 0 ≡ w
      word = let both : get_or f s.at 0 ∷ drop (s.at + 1) (take body f) ≡ w ∷ ws = sym here ∙ e in cc

      later : drop (s.at + 1) (take body f) ≡ ws
      later = let both : get_or f s.at 0 ∷ drop (s.at + 1) (take body f) ≡ w ∷ ws = sym here ∙ e in cc

      go : (b : Bool) → ltb 1 (kind_of w) ≡ b → ((t : Scan) → drop t.at (take body f) ≡ ws → P t → P (moved_to t (plain_from t.at ws)))
          → P (moved_to s (cond b s.at (plain_from (s.at + 1) ws)))
      go true d others = g
      go false d others =
          let low : kind_of (get_or f s.at 0) ≤ 1 = omega (arith, ap kind_of word, ltb-false 1 (kind_of w) d) in
          let next : moved_to s (s.at + 1) ≡ past_word s (get_or f s.at 0) = past_other s (get_or f s.at 0) refl (λ q. omega (arith, q)) (λ q. omega (arith, q)) in
          others (moved_to s (s.at + 1)) later (subst P (sym next) (on s inside low g))

-- no literal is passed
module _ {f m : List ℕ} {body count : ℕ} where
  pub noting_passed : {s r : Scan} → r ≡ moved_to s (plain_from s.at (drop s.at (take body f))) → Noting f body m s count → Noting f body m r count
  noting_passed {s} e g =
      rw e
      (past_plains f g.fits (λ (t : Scan). Noting f body m t count) (λ t inside low n. noting_other n inside refl refl (λ q. omega (arith, q)) refl) (drop s.at (take body f)) s refl g)

-- after a word that is no literal's
module _ {f m : List ℕ} {body count : ℕ} {scan : Scan} (g : Noting f body m scan count) (h : scan.at < body) {q : ℕ} (eq : q ≡ scan.at) {next : Scan} (p : next ≡ past_word scan (get_or f q 0)) where
  next_at : next.at ≡ scan.at + 1
  next_at = ap (λ (t : Scan). t.at) p ∙ past_at scan (get_or f q 0)

  pub passed_asked : (next.at ≤ body) × (body ≤ length f)
  passed_asked = (omega (arith, next_at), g.fits)

  module _ {r : Scan} (e : r ≡ moved_to next (plain_from next.at (drop next.at (take body f)))) where
    pub passed_less : body - r.at < body - scan.at
    passed_less = rw e (omega (arith, next_at, plain_later (drop next.at (take body f)) next.at))

    pub passed_on : {k : ℕ} → k ≡ kind_of (get_or f q 0) → (k ≡ 2 → ⊥) → Noting f body m r count
    passed_on ek n = noting_passed e (noting_other g h eq ek n p)
