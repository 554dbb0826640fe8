-- What the program prints, to the letter, from the bytes that it reads.
use Rattle.std.specs.Prelude.{List, [], ◌∷◌, ◌++◌, ◌≡◌, ℕ}
use Rattle.words.specs.Fingerprint.{bytes_of}
use Rattle.text.specs.Quoted.{bytes}
use Rattle.asking.specs.Program.{asked, ask_text}

-- document 01's case 1: at(e,mat) or at(e,eve); ask at(e,X)
abbrev pub case_1 : List ℕ
case_1 =
    0xC0000602 ∷ 0x80002001 ∷ 0x40000001 ∷ 0x40000002 ∷ 0x80002001 ∷ 0x40000001 ∷ 0x40000003
    ∷ 0xC0000309 ∷ 0x8000A001 ∷ 0x40000001 ∷ 0x00000000 ∷ 7 ∷ 2 ∷ 0x1AE33758 ∷ 11 ∷ []

-- as printed in document 01, "The program", whole
abbrev pub AsPrinted : Type 0
AsPrinted =
    ask_text (bytes_of (2 ∷ 3 ∷ case_1))
    ≡ bytes
    "status 0 place 0 tries 3\nproof 40000000 40000001\nor 80002001 40000001 40000002\nor 80002001 40000001 40000003\n"

-- order 3: p(a); r or p(a); r or s; not s; ask p(X) and r
abbrev pub order_3 : List ℕ
order_3 =
    0xC0000201 ∷ 0x80001001 ∷ 0x40000001 ∷ 0xC0000302 ∷ 0x80000002 ∷ 0x80001001 ∷ 0x40000001 ∷ 0xC0000202 ∷ 0x80000002 ∷ 0x80000003
    ∷ 0xC0000101 ∷ 0x80008003 ∷ 0xC000030A ∷ 0x80009001 ∷ 0x00000000 ∷ 0x80008002 ∷ 12 ∷ 5 ∷ 0x2B1B6773 ∷ 16 ∷ []

-- the same alternative twice is one line
abbrev pub SaidOnce : Type 0
SaidOnce =
    ask_text (bytes_of (5 ∷ 100 ∷ order_3))
    ≡ bytes "status 0 place 0 tries 7\nproof 40000000 40000001 40000004 40000002 40000003\nor 80001001 40000001 80000002\n"

-- case 1 has an answer, as the promises ask (Promises.LinesAreDisjuncts, AsManyLines)
abbrev pub Answered : Type 0
Answered = (asked case_1 2 3).outcome.status ≡ 0

-- no answer, and one line: none, ran out, a bound over 32, ragged input, input under 2 words
abbrev pub OneLine : Type 0
OneLine =
    (ask_text (bytes_of (1 ∷ 100 ∷ case_1)) ≡ bytes "status 10 place 0 tries 4\n")
    × (ask_text (bytes_of (2 ∷ 2 ∷ case_1)) ≡ bytes "status 11 place 0 tries 2\n")
    × (ask_text (bytes_of (34 ∷ 3 ∷ case_1)) ≡ bytes "status 3 place 0 tries 0\n")
    × (ask_text (bytes_of (2 ∷ 3 ∷ case_1) ++ (0 ∷ [])) ≡ bytes "status 4 place 0 tries 0\n")
    × (ask_text (bytes_of (2 ∷ [])) ≡ bytes "status 4 place 0 tries 0\n")
