-- The bytes of a text (document 02, order 1): what each is for.
use Rattle.std.specs.Prelude.{Bool, true, false, cond, ◌&&◌, ℕ, eqb, leb}
use Prim.Native.Char.{Char, code}
use Rattle.clausetext.specs.declared.kind.Mark.TheVariants.{Open, Close, Comma, Bar, Tilde, Dot}
use Rattle.clausetext.specs.declared.kind.Kind.{Kind}
use Rattle.clausetext.specs.declared.kind.Kind.TheVariants.{Blank, Percent, Lower, Upper, Further, Sign, Other}

-- a byte is a character of ASCII, or one from a range of them
abbrev pub is : Char → ℕ → Bool
is x c = eqb c (code x)

abbrev pub among : Char → Char → ℕ → Bool
among a z c = leb (code a) c && leb c (code z)

-- lower-case letters, upper-case letters, and digits with `_`; outside comments any other control or non-ASCII byte is wrong
unfoldable pub letter_kind : ℕ → Kind
letter_kind c = cond (among "a" "z" c) Lower (cond (among "A" "Z" c) Upper (cond (among "0" "9" c) Further (cond (is "_" c) Further Other)))

unfoldable pub sign_kind : ℕ → Kind
sign_kind c =
    cond (is "(" c) (Sign Open)
    (cond (is ")" c) (Sign Close)
    (cond (is "," c) (Sign Comma)
    (cond (is "|" c) (Sign Bar) (cond (is "~" c) (Sign Tilde) (cond (is "." c) (Sign Dot) (letter_kind c))))))

-- space, tab, CR, LF; `%`
unfoldable pub kind_of : ℕ → Kind
kind_of c =
    cond (is " " c) Blank
    (cond (is "\t" c) Blank (cond (is "\r" c) Blank (cond (is "\n" c) Blank (cond (is "%" c) Percent (sign_kind c)))))

-- a name or a variable goes on in letters, digits and `_`
abbrev pub goes_on : Kind → Bool
goes_on Blank = false
goes_on Percent = false
goes_on Lower = true
goes_on Upper = true
goes_on Further = true
goes_on (Sign m) = false
goes_on Other = false
