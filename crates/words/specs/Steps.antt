-- A step as a word (document 01, "Tableau rules"): kind 0, bits 0–5 height 1–63; kind 1, bits 0–8 clause, 9–11 literal. Where leaves are restarted
-- (order 11), 80000000 is a restart. Anything else is malformed.
use Rattle.std.specs.Prelude.{ℕ, ◌+◌, ◌*◌, ◌^◌, Bool, true, false, cond, ◌&&◌, ◌==◌, nat_le, nat_lt}
use Rattle.words.specs.Fields.{bits, plain}
use Rattle.words.specs.declared.Step.{Step}
use Rattle.words.specs.declared.Step.TheVariants.{Reduction, Extension, Restart, Malformed}

-- heights 1–63; clauses and literals that nine and three bits hold; a restart where leaves are restarted
unfoldable pub well_formed : Bool → Step → Bool
well_formed restarts (Reduction height) = nat_le 1 height && nat_le height 63
well_formed restarts (Extension clause literal) = nat_lt clause (2 ^ 9) && nat_lt literal (2 ^ 3)
well_formed restarts Restart = restarts
well_formed restarts Malformed = false

-- the word of a well-formed step; that of a malformed one is of kind 3, which no step is in any reading
unfoldable pub step_word : Step → ℕ
step_word (Reduction height) = height
step_word (Extension clause literal) = 2 ^ 30 + literal * 2 ^ 9 + clause
step_word Restart = 0x80000000
step_word Malformed = 0xC0000000

-- every step as a word: a step that is not well formed has no word of its own, and is written as the malformed one
unfoldable pub encoded : Step → ℕ
encoded s = cond (well_formed true s) (step_word s) (step_word Malformed)

-- document 01's reading: bits 6–29 of a reduction are zero and its height is not; bits 12–29 of an extension are zero
unfoldable pub step_of : ℕ → Step
step_of w =
    cond (plain 0 6 w) (cond (bits 0 6 w == 0) Malformed (Reduction (bits 0 6 w)))
    (cond (plain 1 12 w) (Extension (bits 0 9 w) (bits 9 3 w)) Malformed)

-- where leaves are restarted one more word is a step
abbrev pub step_read : Bool → ℕ → Step
step_read restarts w = cond (restarts && w == 0x80000000) Restart (step_of w)
