-- Each at its first place: what stands in a list without repeats.
use mathlib.Core.Bool.{Bool, true, false, cond}
use mathlib.Core.List.{List, [], ◌∷◌, ◌++◌, map, append_assoc, append-nil, map-append}
use mathlib.Core.Logic.{◌≢◌}
use mathlib.Core.Path.{◌≡◌, refl, sym, ◌∙◌, ap, ap₂}
use Rattle.table.specs.Limits.{Each}
use Rattle.rules.specs.Answer.{seen_by, firsts_after_by, firsts_by}
use Rattle.rules.proofs.Every.{All, end, ◌also◌, all_first, all_rest, all_append, all_then, true_false, Ordered, done, ◌ahead◌, ordered_append}

-- a test that tells equals
pub record Tells {A : Type 0} (same : A → A → Bool) : Type 0 where
  pub equal : (x y : A) → same x y ≡ true → x ≡ y
  pub self : (x : A) → same x x ≡ true

-- what holds of each, as a list of proofs and back
pub each_all : {A : Type 0} {P : A → Type 0} (xs : List A) → Each P xs → All P xs
unfolding Each
each_all [] h = end
each_all (x ∷ xs) h = h.0 also each_all xs h.1

pub all_each : {A : Type 0} {P : A → Type 0} {xs : List A} → All P xs → Each P xs
unfolding Each
all_each end = tt
all_each (p also ps) = (p, all_each ps)

-- what holds of all holds of the firsts
pub firsts_all : {A : Type 0} (same : A → A → Bool) {P : A → Type 0} (before xs : List A) → All P before → All P xs → All P (firsts_after_by same before xs)
unfolding firsts_after_by
firsts_all same before [] us vs = us
firsts_all {A} same {P} before (x ∷ xs) us vs =
    go (seen_by same x before) (firsts_all same before xs us (all_rest vs))
    (firsts_all same (before ++ (x ∷ [])) xs (all_append us (all_first vs also end)) (all_rest vs))
  where
    go : (b : Bool) → All P (firsts_after_by same before xs) → All P (firsts_after_by same (before ++ (x ∷ [])) xs)
        → All P (cond b (firsts_after_by same before xs) (firsts_after_by same (before ++ (x ∷ [])) xs))
    go true p q = p
    go false p q = q

-- A map, undone by another on some elements, keeps apart what is different there.
module _ {A B : Type 0} {f : A → A → Bool} {g : B → B → Bool} (tells : Tells f) (also-tells : Tells g) (r : A → B) (q : B → A) where
  abbrev pub Undone : A → Type 0
  Undone x = q (r x) ≡ x

  pub same_kept : (x y : A) → Undone x → Undone y → g (r x) (r y) ≡ f x y
  same_kept x y ux uy = go (f x y) refl (g (r x) (r y)) refl
    where
      go : (b : Bool) → f x y ≡ b → (c : Bool) → g (r x) (r y) ≡ c → c ≡ b
      go true e true h = refl
      go true e false h = true_false (ap (λ (z : A). g (r x) (r z)) (sym (tells.equal x y e)) ∙ also-tells.self (r x)) h
      go false e true h =
          let k : x ≡ y = sym ux ∙ ap q (also-tells.equal (r x) (r y) h) ∙ uy in
          true_false (ap (f x) (sym k) ∙ tells.self x) e
      go false e false h = refl

  pub seen_renamed : (x : A) (ys : List A) → Undone x → All Undone ys → seen_by g (r x) (map r ys) ≡ seen_by f x ys
  unfolding seen_by
  seen_renamed x [] u us = refl
  seen_renamed x (y ∷ ys) u us =
      ap₂ (λ (b c : Bool). cond b true c) (same_kept x y u (all_first us)) (seen_renamed x ys u (all_rest us))

  pub firsts_renamed :
      (before xs : List A) → All Undone before → All Undone xs → firsts_after_by g (map r before) (map r xs) ≡ map r (firsts_after_by f before xs)
  unfolding firsts_after_by
  firsts_renamed before [] us vs = refl
  firsts_renamed before (x ∷ xs) us vs =
      go (seen_by f x before) (firsts_after_by f before xs) (firsts_after_by f (before ++ (x ∷ [])) xs) (seen_renamed x before (all_first vs) us) (firsts_renamed before xs us (all_rest vs))
      (ap (λ (l : List B). firsts_after_by g l (map r xs)) (sym (map-append r before (x ∷ [])))
      ∙ firsts_renamed (before ++ (x ∷ [])) xs (all_append us (all_first vs also end)) (all_rest vs))
    where
      go :
          (b : Bool) (m n : List A) {c : Bool} {k l : List B} → c ≡ b → k ≡ map r m → l ≡ map r n
          → cond c k l ≡ map r (cond b m n)
      go true m n e f g = rw e f
      go false m n e f g = rw e g

module _ {A : Type 0} {same : A → A → Bool} (tells : Tells same) where
  -- everything in a list is seen among its firsts, which are all different
  pub seen_left : (x : A) (ys zs : List A) → seen_by same x ys ≡ true → seen_by same x (ys ++ zs) ≡ true
  unfolding seen_by
  seen_left x [] zs e = true_false e refl
  seen_left x (y ∷ ys) zs e = go (same x y) (seen_left x ys zs) e
    where
      go : (b : Bool) → (seen_by same x ys ≡ true → seen_by same x (ys ++ zs) ≡ true) → cond b true (seen_by same x ys) ≡ true → cond b true (seen_by same x (ys ++ zs)) ≡ true
      go true f e = refl
      go false f e = f e

  pub seen_last : (x : A) (ys : List A) → seen_by same x (ys ++ (x ∷ [])) ≡ true
  unfolding seen_by
  seen_last x [] = rw (tells.self x)
  seen_last x (y ∷ ys) = go (same x y) (seen_last x ys)
    where
      go : (b : Bool) → seen_by same x (ys ++ (x ∷ [])) ≡ true → cond b true (seen_by same x (ys ++ (x ∷ []))) ≡ true
      go true f = refl
      go false f = f

  -- one more at the end, the same or another
  pub seen_with : (x y : A) (ys : List A) → same x y ≡ true → seen_by same x (ys ++ (y ∷ [])) ≡ true
  seen_with x y ys e = ap (λ (z : A). seen_by same z (ys ++ (y ∷ []))) (tells.equal x y e) ∙ seen_last y ys

  pub seen_other : (x y : A) (ys : List A) → same x y ≡ false → seen_by same x (ys ++ (y ∷ [])) ≡ seen_by same x ys
  unfolding seen_by
  seen_other x y [] e = rw e
  seen_other x y (z ∷ ys) e = ap (cond (same x z) true) (seen_other x y ys e)

  seen-kept : (x : A) (before xs : List A) → seen_by same x before ≡ true → seen_by same x (firsts_after_by same before xs) ≡ true
  unfolding firsts_after_by
  seen-kept x before [] e = e
  seen-kept x before (y ∷ xs) e = go (seen_by same y before) (seen-kept x before xs e) (seen-kept x (before ++ (y ∷ [])) xs (seen_left x before (y ∷ []) e))
    where
      go : (b : Bool) → seen_by same x (firsts_after_by same before xs) ≡ true → seen_by same x (firsts_after_by same (before ++ (y ∷ [])) xs) ≡ true
          → seen_by same x (cond b (firsts_after_by same before xs) (firsts_after_by same (before ++ (y ∷ [])) xs)) ≡ true
      go true f g = f
      go false f g = g

  pub all_seen : (before xs : List A) → All (λ x. seen_by same x (firsts_after_by same before xs) ≡ true) xs
  unfolding firsts_after_by
  all_seen before [] = end
  all_seen before (x ∷ xs) = go (seen_by same x before) refl (all_seen before xs) (all_seen (before ++ (x ∷ [])) xs)
    where
      go : (b : Bool) → seen_by same x before ≡ b → All (λ y. seen_by same y (firsts_after_by same before xs) ≡ true) xs
          → All (λ y. seen_by same y (firsts_after_by same (before ++ (x ∷ [])) xs) ≡ true) xs
          → All (λ y. seen_by same y (cond b (firsts_after_by same before xs) (firsts_after_by same (before ++ (x ∷ [])) xs)) ≡ true) (x ∷ xs)
      go true e f g = seen-kept x before xs e also f
      go false e f g = seen-kept x (before ++ (x ∷ [])) xs (seen_last x before) also g

  unseen-differs : (x : A) (ys : List A) → seen_by same x ys ≡ false → All (λ y. y ≢ x) ys
  unfolding seen_by
  unseen-differs x [] e = end
  unseen-differs x (y ∷ ys) e = go (same x y) refl (unseen-differs x ys) e
    where
      go : (b : Bool) → same x y ≡ b → (seen_by same x ys ≡ false → All (λ y. y ≢ x) ys) → cond b true (seen_by same x ys) ≡ false → All (λ y. y ≢ x) (y ∷ ys)
      go true f g e = true_false refl e
      go false f g e = (λ h. true_false (ap (same x) h ∙ tells.self x) f) also g e

  pub firsts_differ : (before xs : List A) → Ordered (λ x y. x ≢ y) before → Ordered (λ x y. x ≢ y) (firsts_after_by same before xs)
  unfolding firsts_after_by
  firsts_differ before [] o = o
  firsts_differ before (x ∷ xs) o = go (seen_by same x before) refl (firsts_differ before xs o) (firsts_differ (before ++ (x ∷ [])) xs)
    where
      go : (b : Bool) → seen_by same x before ≡ b → Ordered (λ x y. x ≢ y) (firsts_after_by same before xs)
          → (Ordered (λ x y. x ≢ y) (before ++ (x ∷ [])) → Ordered (λ x y. x ≢ y) (firsts_after_by same (before ++ (x ∷ [])) xs))
          → Ordered (λ x y. x ≢ y) (cond b (firsts_after_by same before xs) (firsts_after_by same (before ++ (x ∷ [])) xs))
      go true e f g = f
      go false e f g = g (ordered_append o (end ahead done) (all_then (λ y h. h also end) (unseen-differs x before e)))

  -- what holds of a list holds of whatever is seen in it; so what holds of the firsts holds of all
  pub all_of_seen : {P : A → Type 0} (x : A) (ys : List A) → All P ys → seen_by same x ys ≡ true → P x
  unfolding seen_by
  all_of_seen x [] ps e = true_false e refl
  all_of_seen {P} x (y ∷ ys) ps e = go (same x y) refl e (all_of_seen x ys (all_rest ps))
    where
      go : (b : Bool) → same x y ≡ b → cond b true (seen_by same x ys) ≡ true → (seen_by same x ys ≡ true → P x) → P x
      go true h e f = rw (tells.equal x y h) (all_first ps)
      go false h e f = f e

  pub all_back : {P : A → Type 0} (xs : List A) → All P (firsts_by same xs) → All P xs
  unfolding firsts_by
  all_back xs ps = all_then (λ x e. all_of_seen x (firsts_after_by same [] xs) ps e) (all_seen [] xs)

  -- the firsts of a list and one more
  pub firsts_append : (before xs ys : List A) → firsts_after_by same before (xs ++ ys) ≡ firsts_after_by same (firsts_after_by same before xs) ys
  unfolding firsts_after_by
  firsts_append before [] ys = refl
  firsts_append before (x ∷ xs) ys = go (seen_by same x before) (firsts_append before xs ys) (firsts_append (before ++ (x ∷ [])) xs ys)
    where
      go : (b : Bool) → firsts_after_by same before (xs ++ ys) ≡ firsts_after_by same (firsts_after_by same before xs) ys
          → firsts_after_by same (before ++ (x ∷ [])) (xs ++ ys) ≡ firsts_after_by same (firsts_after_by same (before ++ (x ∷ [])) xs) ys
          → cond b (firsts_after_by same before (xs ++ ys)) (firsts_after_by same (before ++ (x ∷ [])) (xs ++ ys))
          ≡ firsts_after_by same (cond b (firsts_after_by same before xs) (firsts_after_by same (before ++ (x ∷ [])) xs)) ys
      go true f g = f
      go false f g = g

  pub firsts_seen : (xs : List A) (x : A) → seen_by same x (firsts_by same xs) ≡ true → firsts_by same (xs ++ (x ∷ [])) ≡ firsts_by same xs
  unfolding firsts_by firsts_after_by
  firsts_seen xs x e = firsts_append [] xs (x ∷ []) ∙ ap (λ (b : Bool). cond b (firsts_after_by same [] xs) (firsts_after_by same [] xs ++ (x ∷ []))) e

  pub firsts_new : (xs : List A) (x : A) → seen_by same x (firsts_by same xs) ≡ false → firsts_by same (xs ++ (x ∷ [])) ≡ firsts_by same xs ++ (x ∷ [])
  unfolding firsts_by firsts_after_by
  firsts_new xs x e = firsts_append [] xs (x ∷ []) ∙ ap (λ (b : Bool). cond b (firsts_after_by same [] xs) (firsts_after_by same [] xs ++ (x ∷ []))) e

-- repeats may be left out before a map or after it
module _ {A B : Type 0} {f : A → A → Bool} {g : B → B → Bool} (tells : Tells f) (also-tells : Tells g) (r : A → B) where
  seen-mapped : (x : A) (ys : List A) → seen_by f x ys ≡ true → seen_by g (r x) (map r ys) ≡ true
  unfolding seen_by
  seen-mapped x [] e = true_false e refl
  seen-mapped x (y ∷ ys) e = go (f x y) refl e (g (r x) (r y)) refl (seen-mapped x ys)
    where
      go : (b : Bool) → f x y ≡ b → cond b true (seen_by f x ys) ≡ true → (c : Bool) → g (r x) (r y) ≡ c
          → (seen_by f x ys ≡ true → seen_by g (r x) (map r ys) ≡ true) → cond c true (seen_by g (r x) (map r ys)) ≡ true
      go b h e true k s = refl
      go true h e false k s = true_false (ap (λ (z : A). g (r x) (r z)) (sym (tells.equal x y h)) ∙ also-tells.self (r x)) k
      go false h e false k s = s e

  skipped : (ks : List B) (y : B) (zs : List B) → seen_by g y ks ≡ true → firsts_by g (ks ++ (y ∷ zs)) ≡ firsts_by g (ks ++ zs)
  unfolding firsts_by firsts_after_by
  skipped ks y zs e =
      let seen : seen_by g y (firsts_after_by g [] ks) ≡ true = all_of_seen also-tells y ks (all_seen also-tells [] ks) e in
      firsts_append also-tells [] ks (y ∷ zs)
      ∙ ap (λ (b : Bool). cond b (firsts_after_by g (firsts_after_by g [] ks) zs) (firsts_after_by g (firsts_after_by g [] ks ++ (y ∷ [])) zs)) seen
      ∙ sym (firsts_append also-tells [] ks zs)

  mapped-after : (before xs : List A) → firsts_by g (map r (firsts_after_by f before xs)) ≡ firsts_by g (map r (before ++ xs))
  unfolding firsts_after_by
  mapped-after before [] = ap (λ (l : List A). firsts_by g (map r l)) (sym (append-nil before))
  mapped-after before (x ∷ xs) = go (seen_by f x before) refl (mapped-after before xs) (mapped-after (before ++ (x ∷ [])) xs)
    where
      go : (b : Bool) → seen_by f x before ≡ b → firsts_by g (map r (firsts_after_by f before xs)) ≡ firsts_by g (map r (before ++ xs))
          → firsts_by g (map r (firsts_after_by f (before ++ (x ∷ [])) xs)) ≡ firsts_by g (map r ((before ++ (x ∷ [])) ++ xs))
          → firsts_by g (map r (cond b (firsts_after_by f before xs) (firsts_after_by f (before ++ (x ∷ [])) xs))) ≡ firsts_by g (map r (before ++ (x ∷ xs)))
      go true e h k =
          h ∙ ap (firsts_by g) (map-append r before xs) ∙ sym (skipped (map r before) (r x) (map r xs) (seen-mapped x before e))
          ∙ ap (firsts_by g) (sym (map-append r before (x ∷ xs)))
      go false e h k = k ∙ ap (λ (l : List A). firsts_by g (map r l)) (append_assoc before (x ∷ []) xs)

  pub firsts_mapped : (xs : List A) → firsts_by g (map r (firsts_by f xs)) ≡ firsts_by g (map r xs)
  unfolding firsts_by
  firsts_mapped xs = mapped-after [] xs
