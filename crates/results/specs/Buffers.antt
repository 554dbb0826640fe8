-- What `calls` looks for in the lent buffers: each is filled with A5A5A5A5, a buffer of bytes with A5, before a call.
use Rattle.std.specs.Prelude.{Bool, true, false, cond, ◌&&◌, List, [], ◌∷◌, ℕ, ◌+◌, eqb, ltb, length, take, drop}

unfoldable pub all_are : ℕ → List ℕ → Bool
all_are value [] = true
all_are value (w ∷ ws) = eqb w value && all_are value ws

unfoldable pub both_untouched : List ℕ → List ℕ → Bool
both_untouched a b = all_are 0xA5A5A5A5 a && all_are 0xA5A5A5A5 b

-- status 1 leaves the work words unchanged; all others leave the first 16,384 zero and the rest unchanged
unfoldable pub work_kept : ℕ → List ℕ → Bool
work_kept status work =
    cond (eqb status 1) (all_are 0xA5A5A5A5 work)
    (cond (ltb (length work) 16384) false (all_are 0 (take 16384 work) && all_are 0xA5A5A5A5 (drop 16384 work)))

-- so are they, and the bytes after a text are unchanged
unfoldable pub text_kept : ℕ → List ℕ → List ℕ → Bool
text_kept status text work = work_kept status work && all_are 0xA5 text

-- so are they, and the words after the proof and after the answer are unchanged
unfoldable pub kept : ℕ → List ℕ → List ℕ → List ℕ → Bool
kept status proof answer work = work_kept status work && all_are 0xA5A5A5A5 proof && all_are 0xA5A5A5A5 answer

-- how many words of a buffer were written: up to the last that is not as it was filled (no word of a proof or of an answer is)
unfoldable pub written : List ℕ → ℕ
written [] = 0
written (w ∷ ws) = cond (all_are 0xA5A5A5A5 (w ∷ ws)) 0 (1 + written ws)
