-- Text written, by computation.
use mathlib.Core.Path.{◌≡◌, refl}
use mathlib.Core.List.{[], ◌∷◌}
use Rattle.text.specs.Quoted.{bytes}
use Rattle.text.specs.Put.{put, after}
use Rattle.text.specs.Digits.{digits_of, significant, hex_text, decimal_text, spaced_text, words_text, pairs_text, bytes_text}

unfoldable opened : Unit {0}
unfolding put after digits_of significant spaced_text words_text pairs_text bytes_text
opened = tt

pub quoted_bytes : bytes "or\n" ≡ 111 ∷ 114 ∷ 10 ∷ []
quoted_bytes = refl

pub largest_decimal : decimal_text 4294967295 ≡ bytes "4294967295"
unfolding opened
largest_decimal = refl

pub zero_decimal : decimal_text 0 ≡ bytes "0"
unfolding opened
zero_decimal = refl

pub eight_digits : hex_text 0xA5 ≡ bytes "000000A5"
unfolding opened
eight_digits = refl

pub two_words : words_text (0x80002001 ∷ 3 ∷ []) ≡ bytes "80002001 00000003"
unfolding opened
two_words = refl

pub no_words : words_text [] ≡ bytes "-"
unfolding opened
no_words = refl

pub run_together : bytes_text (0x63 ∷ 0xA ∷ 0xFF ∷ []) ≡ bytes "630AFF"
unfolding opened
run_together = refl

pub no_bytes : bytes_text [] ≡ bytes "-"
unfolding opened
no_bytes = refl

-- what does not fit is counted
pub cut_short : put (bytes "....") 2 (bytes "text") ≡ bytes "..te"
unfolding opened
cut_short = refl

pub counted_on : after 4 2 4 ≡ 6
unfolding opened
counted_on = refl
