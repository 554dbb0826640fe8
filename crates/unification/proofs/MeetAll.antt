-- Pairs of terms made equal, one after another: the outcomes, one law for each, with premises as the code has them.
use Rattle.std.specs.Prelude.{Result, Ok, Err}
use mathlib.Core.List.{List}
use mathlib.Core.Path.{◌≡◌, refl, sym, ◌∙◌, ap, ap₂, subst}
use native.Mathlib.Omega.{arith}
use Prim.Native.Nat.{ℕ, suc, ◌+◌, ◌*◌, ◌-◌, ◌≤◌, ◌<◌}
use Rattle.words.specs.Fields.{kind_of, symbol_of, arity_of}
use Rattle.table.specs.Syntax.{app, ◌then◌, arity}
use Rattle.table.specs.Decode.{first, rest}
use Rattle.rules.specs.Machinery.Unify.{Unified, made, after, unify, unifies}
use Rattle.rules.proofs.Unify.Laws.{unifies_nil, unifies_then}
use Rattle.unification.specs.Places.{most_references}
use Rattle.unification.specs.State.{Points, term_of, terms_of, bindings_in}
use Rattle.unification.specs.Good.{word_at, arguments_of, Inside, Ahead, Good, Grown, Passed, Outcome}
use Rattle.unification.specs.Thorough.{Quiet, Arguments, pairs_met, Noting, Meets}
use Rattle.unification.specs.declared.unify.Unmet.{Unmet}
use Rattle.unification.specs.declared.unify.Unmet.TheVariants.{Clash, Circle}
use Rattle.unification.proofs.References.{tail_of, few, function_first, function_further, function_next, function_arguments, function_arity, points_fewer, first_terms}
use Rattle.unification.proofs.Walk.{inside, small}
use Rattle.unification.proofs.InPlace.{unifies_in_place}
use Rattle.unification.proofs.KeptStarts.{same_terms, same_points, in_copies}
use Rattle.unification.proofs.Push.{grown_none, grown_then}
use Rattle.unification.proofs.Heft.{heft, heft_of, heft_first, heft_in_place, heft_rest}
use Rattle.unification.proofs.Thorough.{noting_none, noting_then}

-- so many pairs are left, from two references on
pub record Going (f m₀ n₀ : List ℕ) (left right count : ℕ) (m n : List ℕ) (l r more : ℕ) : Type 0 where
  pub grown : Grown f m₀ m
  pub noting : Noting n₀ n
  pub quiet : Quiet f m n
  pub lefts : Ahead f m l more
  pub rights : Ahead f m r more
  pub same : pairs_met f m₀ left right count ≡ pairs_met f m l r more
  pub lighter : heft f m l more ≤ heft f m₀ left count

module _ {f m₀ n₀ : List ℕ} {left right count : ℕ} where
  pub all_start : Good f m₀ → Quiet f m₀ n₀ → Ahead f m₀ left count → Ahead f m₀ right count → Going f m₀ n₀ left right count m₀ n₀ left right count
  all_start h k p q = record { grown = grown_none h; noting = noting_none; quiet = k; lefts = p; rights = q; same = refl; lighter = omega arith }

  module _ {m n : List ℕ} {l r more : ℕ} (g : Going f m₀ n₀ left right count m n l r more) where
    pub all_none : more ≡ 0 → Meets f m₀ m n₀ n (Ok tt) (pairs_met f m₀ left right count)
    unfolding first
    all_none e = record { grown = g.grown; noting = g.noting; on = λ _. g.quiet; outcome = λ _. rw e at g.same ∙ unifies_nil (bindings_in f m) }

    module _ (some : more ≡ 0 → ⊥) where
      one_more : more ≡ suc (more - 1)
      one_more = omega arith

      pub left_points : Points f m l (suc (more - 1))
      left_points = rw one_more at (g.lefts (omega arith))

      pub right_points : Points f m r (suc (more - 1))
      right_points = rw one_more at (g.rights (omega arith))

      pub all_left : Points f m l 1
      all_left = points_fewer (omega arith) left_points

      pub all_right : Points f m r 1
      all_right = points_fewer (omega arith) right_points

      pub all_falls : 3 * heft_of f m l + 2 < 3 * heft f m₀ left count
      all_falls =
          let z : heft f m l more ≡ heft f m l (suc (more - 1)) = ap (heft f m l) one_more in
          omega (arith, heft_first left_points, g.lighter)

      pub all_left_small : l < most_references
      all_left_small = small g.grown.good left_points

      pub all_right_small : r < most_references
      all_right_small = small g.grown.good right_points

      pub all_left_inside : Inside f m l
      all_left_inside = inside g.grown.good left_points

      pub all_right_inside : Inside f m r
      all_right_inside = inside g.grown.good right_points

      pub all_few : more ≤ 256
      all_few = omega (arith, few left_points)

      -- two applications of one symbol
      module _ {v w : ℕ} (ev : v ≡ word_at f m l) (ew : w ≡ word_at f m r) (k : kind_of v ≡ 1) (e : v ≡ w) where
        applied : kind_of (word_at f m l) ≡ 0 → ⊥
        applied z = omega (arith, ap kind_of ev, k, z)

        right-word : word_at f m r ≡ word_at f m l
        right-word = sym ew ∙ sym e ∙ ev

        abbrev args : ℕ
        args = arity_of (word_at f m l)

        right_applied : kind_of (word_at f m r) ≡ 0 → ⊥
        right_applied z = applied (sym (ap kind_of right-word) ∙ z)

        right-first : first (suc (more - 1)) (terms_of f m r)
            ≡ app (symbol_of (word_at f m l)) (first args (tail_of f m r)) then first (more - 1) (rest args (tail_of f m r))
        right-first = rw right-word at (function_first right_points right_applied)

        right-further : first (args + (more - 1)) (tail_of f m r) ≡ first (args + (more - 1)) (terms_of f m (r + 1))
        right-further = rw right-word at (function_further right_points right_applied)

        right-ahead : Ahead f m (r + 1) (args + (more - 1))
        right-ahead = rw right-word at (function_next right_points right_applied)

        right-arity : arity (first args (tail_of f m r)) ≡ args
        right-arity = rw right-word at (ap arity (function_arguments right_points right_applied) ∙ function_arity right_points right_applied)

        in_place : pairs_met f m l r (suc (more - 1)) ≡ pairs_met f m (l + 1) (r + 1) (args + (more - 1))
        in_place =
            ap₂ (unifies (bindings_in f m)) (function_first left_points applied) right-first
            ∙ unifies_in_place (symbol_of (word_at f m l)) args (more - 1) (tail_of f m l) (tail_of f m r) (bindings_in f m) g.grown.good.sound
            (ap arity (function_arguments left_points applied) ∙ function_arity left_points applied ∙ sym right-arity)
            ∙ ap₂ (unifies (bindings_in f m)) (function_further left_points applied) right-further

        pub all_in_place : {o : ℕ} → o ≡ more - 1 + arguments_of (kind_of v) v → Going f m₀ n₀ left right count m n (l + 1) (r + 1) o
        all_in_place {o} eo =
            subst
            (λ (o : ℕ). Going f m₀ n₀ left right count m n (l + 1) (r + 1) o)
            (sym owed)
            (record {
              grown = g.grown;
              noting = g.noting;
              quiet = g.quiet;
              lefts = function_next left_points applied;
              rights = right-ahead;
              same = g.same ∙ ap (pairs_met f m l r) one_more ∙ in_place;
              lighter =
                  let z : heft f m l more ≡ heft f m l (suc (more - 1)) = ap (heft f m l) one_more in
                  omega (arith, heft_in_place left_points applied, g.lighter);
            })
          where
            owed : o ≡ args + (more - 1)
            owed = let z : arguments_of (kind_of v) v ≡ args = rw k (ap arity_of ev) in omega (arith, eo, z)

      split : pairs_met f m₀ left right count
          ≡ after (unify (bindings_in f m) (term_of f m l) (term_of f m r)) (λ bs. unifies bs (first (more - 1) (rest 1 (terms_of f m l))) (first (more - 1) (rest 1 (terms_of f m r))))
      split =
          g.same ∙ ap (pairs_met f m l r) one_more
          ∙ ap₂ (unifies (bindings_in f m)) (first_terms left_points (more - 1)) (first_terms right_points (more - 1))
          ∙ unifies_then (bindings_in f m) (term_of f m l) (term_of f m r) _ _ g.grown.good.sound

      module _ {m' n' : List ℕ} {q : Result (Unit {0}) Unmet} (met : Meets f m m' n n' q (unify (bindings_in f m) (term_of f m l) (term_of f m r))) where
        grown : Grown f m₀ m'
        grown = grown_then g.grown met.grown

        noting : Noting n₀ n'
        noting = noting_then g.noting met.noting

        module _ (e : q ≡ Ok tt) where
          quiet : Quiet f m' n'
          quiet = met.on e

          made_so : pairs_met f m₀ left right count ≡ unifies (bindings_in f m') (first (more - 1) (rest 1 (terms_of f m l))) (first (more - 1) (rest 1 (terms_of f m r)))
          unfolding after
          made_so = let o : Outcome {T = Unit {0}} f m' (Ok tt) (unify (bindings_in f m) (term_of f m l) (term_of f m r)) = rw e at (met.outcome quiet.awake) in rw o at split

          pub all_last : more - 1 ≡ 0 → Meets f m₀ m' n₀ n' (Ok tt) (pairs_met f m₀ left right count)
          unfolding first
          all_last z = record { grown = grown; noting = noting; on = λ _. quiet; outcome = λ _. rw z at made_so ∙ unifies_nil (bindings_in f m') }

          pub still : {k n : ℕ} → Points f m k n → (Points f m' k n) × (terms_of f m' k ≡ terms_of f m k)
          still {k} p =
              let c = in_copies g.grown.good.copies p in
              (same_points met.grown.kept.copies f k c p, same_terms met.grown.kept.copies f k c)

          pub all_left_still : Points f m' l 1
          all_left_still = (still all_left).0

          pub all_right_still : Points f m' r 1
          all_right_still = (still all_right).0

          module _ (others : more - 1 ≡ 0 → ⊥) {l' r' : ℕ} (pl : Passed f m' l l') (pr : Passed f m' r r') where
            two-more : suc (more - 1) ≡ suc (suc (more - 1 - 1))
            two-more = omega arith

            one_fewer : suc (more - 1 - 1) ≡ more - 1
            one_fewer = omega arith

            further : {k k' : ℕ} → Points f m k (suc (more - 1)) → Passed f m' k k' → (Points f m' k' (more - 1)) × (terms_of f m' k' ≡ rest 1 (terms_of f m k))
            further p s =
                let p' = rw two-more at (still p).0 in
                (rw one_fewer at (s.points _ p'), s.terms _ p' ∙ ap (rest 1) (still p).1)

            pub all_on : Going f m₀ n₀ left right count m' n' l' r' (more - 1)
            all_on =
                let a = further left_points pl in
                let b = further right_points pr in
                let lighter : heft f m' l' (more - 1) ≤ heft f m l (suc (more - 1)) = heft_rest l' met.grown left_points a.1 in
                let z : heft f m l more ≡ heft f m l (suc (more - 1)) = ap (heft f m l) one_more in
                record {
                  grown = grown;
                  noting = noting;
                  quiet = quiet;
                  lefts = λ _. a.0;
                  rights = λ _. b.0;
                  same = rw (a.1, b.1) made_so;
                  lighter = omega (arith, g.lighter);
                }

      -- a pair that does not meet is the end
      pub all_stops : {m' n' : List ℕ} {e : Unmet} → Meets f m m' n n' (Err e) (unify (bindings_in f m) (term_of f m l) (term_of f m r))
          → Meets f m₀ m' n₀ n' (Err e) (pairs_met f m₀ left right count)
      unfolding after
      all_stops {m'} {n'} {e} met = record { grown = grown met; noting = noting met; on = met.on; outcome = λ a. go e (met.outcome a) }
        where
          go : (e : Unmet) → Outcome {T = Unit {0}} f m' (Err e) (unify (bindings_in f m) (term_of f m l) (term_of f m r)) → Outcome {T = Unit {0}} f m' (Err e) (pairs_met f m₀ left right count)
          go Clash o = rw o at split
          go Circle o = rw o at split

pub all_begin : {f m n : List ℕ} {left right w a : ℕ} → Good f m → Quiet f m n → Arguments f m left right → w ≡ word_at f m left → a ≡ arity_of w
    → Going f m n (left + 1) (right + 1) (arity_of (word_at f m left)) m n (left + 1) (right + 1) a
all_begin {f} {m} {n} {left} {right} h k p ew ea =
    subst
    (λ (more : ℕ). Going f m n (left + 1) (right + 1) (arity_of (word_at f m left)) m n (left + 1) (right + 1) more)
    (sym (ea ∙ ap arity_of ew))
    (all_start h k p.lefts p.rights)
