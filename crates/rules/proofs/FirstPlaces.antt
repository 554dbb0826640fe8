-- The firsts of a list are its elements in the order of their first places, each once, and no other list is so.
use lib.ListN.{length, length-append}
use mathlib.Core.Bool.{Bool, true, false, cond}
use mathlib.Core.List.{List, [], ◌∷◌, ◌++◌, map, append_assoc, append-nil}
use mathlib.Core.Path.{◌≡◌, refl, sym, ◌∙◌, ap, ap₂, subst}
use native.Mathlib.Omega.{arith}
use Prim.Native.Nat.{ℕ, zero, suc, ◌+◌, ◌<◌}
use Rattle.table.specs.Limits.{Each}
use Rattle.rules.specs.Answer.{seen_by, firsts_after_by, firsts_by, place_by, Ascending}
use Rattle.rules.specs.System.{◌∈◌, first, later}
use Rattle.rules.specs.Demands.{AtFirstPlaces}
use Rattle.rules.proofs.Every.{All, end, ◌also◌, all_first, all_rest, all_append, all_then, true_false, Ordered, done, ◌ahead◌, ordered_append}
use Rattle.rules.proofs.Firsts.{Tells, each_all, all_each, firsts_all, all_seen, all_of_seen, seen_left, seen_last}

module _ {A : Type 0} {same : A → A → Bool} (tells : Tells same) where
  -- a place in a list, and in a longer one
  place_below : (x : A) (ys : List A) → seen_by same x ys ≡ true → place_by same x ys < length ys
  unfolding seen_by place_by
  place_below x [] e = true_false e refl
  place_below x (y ∷ ys) e = go (same x y) e (place_below x ys)
    where
      go : (b : Bool) → cond b true (seen_by same x ys) ≡ true → (seen_by same x ys ≡ true → place_by same x ys < length ys)
          → cond b zero (suc (place_by same x ys)) < suc (length ys)
      go true e f = omega arith
      go false e f = let h = f e in omega arith

  pub place_left : (x : A) (ys zs : List A) → seen_by same x ys ≡ true → place_by same x (ys ++ zs) ≡ place_by same x ys
  unfolding seen_by place_by
  place_left x [] zs e = true_false e refl
  place_left x (y ∷ ys) zs e = go (same x y) e (place_left x ys zs)
    where
      go : (b : Bool) → cond b true (seen_by same x ys) ≡ true → (seen_by same x ys ≡ true → place_by same x (ys ++ zs) ≡ place_by same x ys)
          → cond b zero (suc (place_by same x (ys ++ zs))) ≡ cond b zero (suc (place_by same x ys))
      go true e f = refl
      go false e f = ap suc (f e)

  pub place_last : (x : A) (ys : List A) → seen_by same x ys ≡ false → place_by same x (ys ++ (x ∷ [])) ≡ length ys
  unfolding seen_by place_by
  place_last x [] e = rw (tells.self x)
  place_last x (y ∷ ys) e = go (same x y) e (place_last x ys)
    where
      go : (b : Bool) → cond b true (seen_by same x ys) ≡ false → (seen_by same x ys ≡ false → place_by same x (ys ++ (x ∷ [])) ≡ length ys)
          → cond b zero (suc (place_by same x (ys ++ (x ∷ [])))) ≡ suc (length ys)
      go true e f = true_false refl e
      go false e f = ap suc (f e)

  -- so much of a list is passed, and these are its firsts
  record PassedBy (ks before : List A) : Type 0 where
    there : All (λ y. seen_by same y ks ≡ true) before
    back : All (λ k. seen_by same k before ≡ true) ks
    ordered : Ordered (λ y z. place_by same y ks < place_by same z ks) before

  kept_ordered : (ks zs : List A) {ys : List A} → All (λ y. seen_by same y ks ≡ true) ys → Ordered (λ y z. place_by same y ks < place_by same z ks) ys
      → Ordered (λ y z. place_by same y (ks ++ zs) < place_by same z (ks ++ zs)) ys
  kept_ordered ks zs s done = done
  kept_ordered ks zs (s also ss) (◌ahead◌ {a = y} a o) = go ss a ahead kept_ordered ks zs ss o
    where
      go : {ys : List A} → All (λ z. seen_by same z ks ≡ true) ys → All (λ z. place_by same y ks < place_by same z ks) ys
          → All (λ z. place_by same y (ks ++ zs) < place_by same z (ks ++ zs)) ys
      go end end = end
      go (◌also◌ {a = z} t ts) (b also bs) =
          let h : place_by same y (ks ++ zs) < place_by same z (ks ++ zs) = rw (place_left y ks zs s, place_left z ks zs t) b in
          h also go ts bs

  more_there : (ks : List A) (x : A) {ys : List A} → All (λ y. seen_by same y ks ≡ true) ys → All (λ y. seen_by same y (ks ++ (x ∷ [])) ≡ true) ys
  more_there ks x s = all_then (λ y e. seen_left tells y ks (x ∷ []) e) s

  pass_seen : (ks before : List A) (x : A) → PassedBy ks before → seen_by same x before ≡ true → PassedBy (ks ++ (x ∷ [])) before
  pass_seen ks before x p e = record {
    there = more_there ks x p.there;
    back = all_append p.back (e also end);
    ordered = kept_ordered ks (x ∷ []) p.there p.ordered;
  }

  pass_new : (ks before : List A) (x : A) → PassedBy ks before → seen_by same x before ≡ false → PassedBy (ks ++ (x ∷ [])) (before ++ (x ∷ []))
  pass_new ks before x p e =
      record {
        there = all_append (more_there ks x p.there) (seen_last tells x ks also end);
        back = all_append (all_then (λ k s. seen_left tells k before (x ∷ []) s) p.back) (seen_last tells x before also end);
        ordered =
            ordered_append (kept_ordered ks (x ∷ []) p.there p.ordered) (end ahead done)
            (all_then (λ y s. before_last y s also end) p.there);
      }
    where
      unseen : (b : Bool) → seen_by same x ks ≡ b → seen_by same x ks ≡ false
      unseen true s = true_false (all_of_seen tells x ks p.back s) e
      unseen false s = s

      before_last : (y : A) → seen_by same y ks ≡ true → place_by same y (ks ++ (x ∷ [])) < place_by same x (ks ++ (x ∷ []))
      before_last y s = rw (place_last x ks (unseen (seen_by same x ks) refl), place_left y ks (x ∷ []) s) (place_below y ks s)

  firsts_passed : (xs ks before : List A) → PassedBy ks before → PassedBy (ks ++ xs) (firsts_after_by same before xs)
  unfolding firsts_after_by
  firsts_passed [] ks before p = rw (append-nil ks) p
  firsts_passed (x ∷ xs) ks before p =
      go (seen_by same x before) refl (λ e. firsts_passed xs (ks ++ (x ∷ [])) before (pass_seen ks before x p e))
      (λ e. firsts_passed xs (ks ++ (x ∷ [])) (before ++ (x ∷ [])) (pass_new ks before x p e))
    where
      go : (b : Bool) → seen_by same x before ≡ b
          → (seen_by same x before ≡ true → PassedBy ((ks ++ (x ∷ [])) ++ xs) (firsts_after_by same before xs))
          → (seen_by same x before ≡ false → PassedBy ((ks ++ (x ∷ [])) ++ xs) (firsts_after_by same (before ++ (x ∷ [])) xs))
          → PassedBy (ks ++ (x ∷ xs)) (cond b (firsts_after_by same before xs) (firsts_after_by same (before ++ (x ∷ [])) xs))
      go true e f g = subst (λ (l : List A). PassedBy l (firsts_after_by same before xs)) (append_assoc ks (x ∷ []) xs) (f e)
      go false e f g = subst (λ (l : List A). PassedBy l (firsts_after_by same (before ++ (x ∷ [])) xs)) (append_assoc ks (x ∷ []) xs) (g e)

  seen_in : (x : A) (ys : List A) → seen_by same x ys ≡ true → x ∈ ys
  unfolding seen_by
  seen_in x [] e = true_false e refl
  seen_in x (y ∷ ys) e = go (same x y) refl e (seen_in x ys)
    where
      go : (b : Bool) → same x y ≡ b → cond b true (seen_by same x ys) ≡ true → (seen_by same x ys ≡ true → x ∈ ys) → x ∈ (y ∷ ys)
      go true h e f = rw (tells.equal x y h) first
      go false h e f = later (f e)

  ascending : (p : A → ℕ) {ys : List A} → Ordered (λ y z. p y < p z) ys → Ascending (map p ys)
  unfolding Ascending Each
  ascending p done = tt
  ascending p (◌ahead◌ {a = y} a o) = (go a, ascending p o)
    where
      go : {zs : List A} → All (λ z. p y < p z) zs → Each (λ n. p y < n) (map p zs)
      go end = tt
      go (b also bs) = (b, go bs)

  pub firsts_at_first_places : (xs : List A) → AtFirstPlaces same xs (firsts_by same xs)
  unfolding firsts_by
  firsts_at_first_places xs =
      let p = firsts_passed xs [] [] (record { there = end; back = end; ordered = done }) in
      record {
        all_there = all_each (all_then (λ x e. seen_in x (firsts_after_by same [] xs) e) p.back);
        nothing_else = all_each (all_then (λ x e. seen_in x xs e) p.there);
        in_order = ascending (λ x. place_by same x xs) p.ordered;
      }

in_none : {A : Type 0} {x : A} → x ∈ [] → ⊥
in_none {A} {x} m = in-length m refl
  where
    in-length : {ys : List A} → x ∈ ys → length ys ≡ 0 → ⊥
    in-length first e = omega arith
    in-length (later m) e = omega arith

-- two lists with the same elements, both ascending by a number
module _ {A : Type 0} (p : A → ℕ) where
  abbrev Up : List A → Type 0
  Up xs = Ascending (map p xs)

  above : (x y : A) (xs : List A) → Each (λ n. p x < n) (map p xs) → y ∈ xs → p x < p y
  unfolding Each
  above x y [] h m = elim m [ ]
  above x y (z ∷ xs) h first = h.0
  above x y (z ∷ xs) h (later m) = above x y xs h.1 m

  head-same : (x y : A) (xs ys : List A) → Up (x ∷ xs) → Up (y ∷ ys) → x ∈ (y ∷ ys) → y ∈ (x ∷ xs) → x ≡ y
  unfolding Ascending
  head-same x y xs ys u v first n = refl
  head-same x y xs ys u v (later m) first = refl
  head-same x y xs ys u v (later m) (later n) =
      let a = above y x ys v.0 m in let b = above x y xs u.0 n in absurd (omega arith)

  tail-in : (x : A) (xs ys : List A) → Up (x ∷ xs) → ((z : A) → z ∈ (x ∷ xs) → z ∈ (x ∷ ys)) → (z : A) → z ∈ xs → z ∈ ys
  unfolding Ascending
  tail-in x xs ys u f z m = go z m (f z (later m))
    where
      go : (z : A) → z ∈ xs → z ∈ (x ∷ ys) → z ∈ ys
      go z m first = let a = above x z xs u.0 m in absurd (omega arith)
      go z m (later n) = n

  pub one_ascending : (xs ys : List A) → Up xs → Up ys → ((z : A) → z ∈ xs → z ∈ ys) → ((z : A) → z ∈ ys → z ∈ xs) → xs ≡ ys
  unfolding Ascending
  one_ascending [] [] u v f g = refl
  one_ascending [] (y ∷ ys) u v f g = absurd (in_none (g y first))
  one_ascending (x ∷ xs) [] u v f g = absurd (in_none (f x first))
  one_ascending (x ∷ xs) (y ∷ ys) u v f g =
      let e : x ≡ y = head-same x y xs ys u v (f x first) (g y first) in
      let f' : (z : A) → z ∈ (x ∷ xs) → z ∈ (x ∷ ys) = λ z m. subst (λ (w : A). z ∈ (w ∷ ys)) (sym e) (f z m) in
      let g' : (z : A) → z ∈ (y ∷ ys) → z ∈ (y ∷ xs) = λ z m. subst (λ (w : A). z ∈ (w ∷ xs)) e (g z m) in
      ap₂ ◌∷◌ e (one_ascending xs ys u.1 v.1 (tail-in x xs ys u f') (tail-in y ys xs v g'))

each_in : {A : Type 0} (P : A → Type 0) (xs : List A) → Each P xs → (z : A) → z ∈ xs → P z
unfolding Each
each_in P [] h z m = elim m [ ]
each_in P (x ∷ xs) h z first = h.0
each_in P (x ∷ xs) h z (later m) = each_in P xs h.1 z m

pub one_list_at_first_places : {A : Type 0} {same : A → A → Bool} (long short other : List A) → AtFirstPlaces same long short → AtFirstPlaces same long other → short ≡ other
one_list_at_first_places {same = same} long short other a b =
    one_ascending (λ d. place_by same d long) short other a.in_order b.in_order
    (λ z m. each_in (λ d. d ∈ other) long b.all_there z (each_in (λ d. d ∈ long) short a.nothing_else z m))
    (λ z m. each_in (λ d. d ∈ short) long a.all_there z (each_in (λ d. d ∈ long) other b.nothing_else z m))
