-- The statements of specs/Promises.antt, proved.
use Rattle.std.specs.Prelude.{Ok, Err}
use mathlib.Core.Path.{◌≡◌, refl, sym, ◌∙◌}
use mathlib.Core.List.{List}
use Prim.Native.Nat.{ℕ, ◌≤◌}
use lib.ListN.{length}
use Rattle.clausetext.specs.Texts.{Verdict, Permitted, long, wrong, fine}
use Rattle.clausetext.specs.Judging.{judged}
use Rattle.clausetext.specs.Promises
use Rattle.clausetext.proofs.Judgement.{judged_verdict, only_verdict, short_judged, permitted_read, read_wrong, wrong_not_permitted, one_place, goes_on_in_bytes}
use Rattle.clausetext.proofs.OneReading.{one_reading}

pub long_text_refused : Promises.LongTextRefused
long_text_refused text h = only_verdict (long h)

pub place_exactly : Promises.PlaceExactly
place_exactly text place h =
    (λ e. read_wrong (sym (short_judged text h) ∙ e), λ w. only_verdict (wrong h w))

refused_or_not : (text : List ℕ) (v : Verdict) → judged text ≡ v → length text ≤ 65536 → (Permitted text → ⊥) → (place : ℕ) × (judged text ≡ Err place)
refused_or_not text (Err place) e h n = (place, e)
refused_or_not text (Ok c) e h n = absurd (n (permitted_read (sym (short_judged text h) ∙ e)))

pub refused_exactly : Promises.RefusedExactly
refused_exactly text h =
    (λ r p. wrong_not_permitted ((place_exactly text r.0 h).0 r.1) p, λ n. refused_or_not text (judged text) refl h n)

pub one_place_alone : Promises.OnePlace
one_place_alone text j k a b = one_place a b

pub one_reading_alone : Promises.OneReading
one_reading_alone text cs ds a b = one_reading a b

pub counted_exactly : Promises.CountedExactly
counted_exactly text cs h y = only_verdict (fine h y)

pub verdict_exactly : Promises.VerdictExactly
verdict_exactly text v = (λ e. rw e at (judged_verdict text), λ w. only_verdict w)

pub in_bytes : Promises.GoesOnInBytes
in_bytes begun g = goes_on_in_bytes g
