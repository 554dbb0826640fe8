-- The next literal with a word, sought by a scan: where it begins, goes on, finds it and comes to the end, one law for each.
use mathlib.Core.Path.{◌≡◌, refl, ap, ◌∙◌}
use mathlib.Core.List.{List, []}
use Prim.Native.Nat.{ℕ, ◌+◌, ◌-◌, ◌≤◌, ◌<◌}
use native.Mathlib.Omega.{arith}
use lib.ListN.{length, take, drop, get_or}
use borrow.Author.Tests.{eq-eqb, ne_eqb}
use Rattle.words.specs.Fields.{kind_of}
use Rattle.index.specs.declared.entries.Scan.{Scan}
use Rattle.index.specs.Scanning.{past_word, entries_from, Standing, NextEntry}
use Rattle.index.specs.Noting.{plain_from, moved_to}
use Rattle.index.proofs.Scans.{past_at, standing_past, body_word, body_inside, body_from, body_end}
use Rattle.index.proofs.Plain.{plain_later, past_plains}

-- how far the literal was sought
pub record Sought (f : List ℕ) (body wanted : ℕ) (from s : Scan) : Type 0 where
  pub standing : Standing (take body f) s
  pub later : from.at ≤ s.at
  pub same : entries_from wanted from (drop from.at (take body f)) ≡ entries_from wanted s (drop s.at (take body f))

-- past one word that is not wanted
module _ {f : List ℕ} {body wanted : ℕ} {from s : Scan} (fits : body ≤ length f) (g : Sought f body wanted from s) (h : s.at < body) {q : ℕ} (eq : q ≡ s.at) where
  sought-past : (get_or f q 0 ≡ wanted → ⊥) → Sought f body wanted from (past_word s (get_or f q 0))
  unfolding entries_from
  sought-past n =
      record {
        standing = rw (body_word f body fits h eq) at (standing_past (take body f) g.standing (body_inside f body fits h eq));
        later = omega (arith, past_at s (get_or f q 0), g.later);
        same = g.same ∙ rw (body_from f body fits h eq, ne_eqb (get_or f q 0) wanted n, past_at s (get_or f q 0));
      }

module _ {f : List ℕ} {body wanted : ℕ} {from : Scan} (fits : body ≤ length f) where
  pub sought_begin : Standing (take body f) from → Sought f body wanted from from
  sought_begin g = record { standing = g; later = omega arith; same = refl }

  module _ {s : Scan} (g : Sought f body wanted from s) where
    pub sought_done : body ≤ s.at → entries_from wanted from (drop from.at (take body f)) ≡ []
    unfolding entries_from
    sought_done h = g.same ∙ rw (body_end f body fits {at = s.at} h)

    module _ (h : s.at < body) {q : ℕ} (eq : q ≡ s.at) where
      pub sought_reads : q < length f
      sought_reads = omega (arith, eq)

      pub sought_small : body ≤ 16000 → (s.at < 4294967295) × (s.clauses ≤ s.at) × (s.literals ≤ s.at)
      sought_small short = (omega arith, g.standing.clauses, g.standing.literals)

      pub sought_found : get_or f q 0 ≡ wanted → NextEntry (take body f) wanted from s
      unfolding entries_from
      sought_found e =
          record {
            standing = g.standing;
            later = g.later;
            inside = body_inside f body fits h eq;
            here = body_word f body fits h eq ∙ e;
            first = g.same ∙ rw (body_from f body fits h eq, e, eq-eqb wanted wanted refl);
          }

      module _ {next : Scan} (p : next ≡ past_word s (get_or f q 0)) where
        next_at : next.at ≡ s.at + 1
        next_at = ap (λ (t : Scan). t.at) p ∙ past_at s (get_or f q 0)

        pub sought_low : next.at ≤ body
        sought_low = omega (arith, next_at)

        module _ {r : Scan} (e : r ≡ moved_to next (plain_from next.at (drop next.at (take body f)))) where
          pub sought_less : body - r.at < body - s.at
          sought_less = rw e (omega (arith, next_at, plain_later (drop next.at (take body f)) next.at))

          pub sought_on : kind_of wanted ≡ 2 → (get_or f q 0 ≡ wanted → ⊥) → Sought f body wanted from r
          sought_on kind n =
              rw e
              (past_plains f fits (λ (t : Scan). Sought f body wanted from t)
              (λ t inside low k. sought-past fits k inside refl (λ z. omega (arith, low, kind, ap kind_of z)))
              (drop next.at (take body f)) next refl (rw p (sought-past fits g h eq n)))
