-- The starts of all copies are kept, made or not: every reference keeps what it stands for.
use mathlib.Core.List.{List}
use mathlib.Core.Path.{◌≡◌}
use native.Mathlib.Omega.{arith}
use Prim.Native.Nat.{ℕ, ◌+◌, ◌/◌, ◌≤◌, ◌<◌}
use Rattle.unification.specs.Places.{count_place, most_copies, copies_place, start_places}
use Rattle.unification.specs.State.{start_at, copies_of, words_at, terms_of, term_of, Points}
use Rattle.unification.specs.Good.{Same}

module _ {m m' : List ℕ} (s : Same 0 count_place m m') where
  same_copies : copies_of m' ≡ copies_of m
  same_copies = s.words copies_place (omega arith) (omega arith)

  pub same_start : (copy : ℕ) → copy < most_copies → start_at m' copy ≡ start_at m copy
  same_start copy h = s.words (start_places + copy) (omega arith) (omega arith)

  module _ (f : List ℕ) (r : ℕ) (h : r / 256 < most_copies) where
    same_words_lem : words_at f m' r ≡ words_at f m r
    unfolding words_at
    same_words_lem = rw (same_start (r / 256) h)

    pub same_term : term_of f m' r ≡ term_of f m r
    unfolding term_of
    same_term = rw same_words_lem

    pub same_terms : terms_of f m' r ≡ terms_of f m r
    unfolding terms_of
    same_terms = rw same_words_lem

    pub same_points : {n : ℕ} → Points f m r n → Points f m' r n
    same_points p = record { made = rw same_copies p.made; owing = rw (same_start (r / 256) h, same_words_lem) p.owing }

-- a reference to a term lies in one of the copies
pub in_copies : {f m : List ℕ} {r n : ℕ} → copies_of m ≤ most_copies → Points f m r n → r / 256 < most_copies
in_copies h p = omega (arith, p.made)
