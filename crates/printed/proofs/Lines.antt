-- Rows of literals, read line by line, are the literals in the names that they are shown in.
use mathlib.Core.List.{List, [], ◌∷◌, ◌++◌, append_assoc, map, flatten}
use mathlib.Core.Path.{◌≡◌, refl, sym, ap, subst, ◌∙◌}
use Prim.Native.Char.{code}
use Prim.Native.Nat.{ℕ, suc}
use native.Mathlib.Omega.{arith}
use lib.ListN.{length, get_or}
use Rattle.table.specs.Syntax.{Literal}
use Rattle.table.specs.Limits.{Each}
use Rattle.text.specs.Quoted.{bytes}
use Rattle.clausetext.specs.declared.kind.Kind.TheVariants.{Lower}
use Rattle.clausetext.specs.Kinds.{kind_of, sign_kind, letter_kind}
use Rattle.clausetext.specs.Syntax as Spoken
use Rattle.naming.specs.Shown.{Names}
use Rattle.naming.specs.Texts.{literal_text, literals_text, Begins, TermsNamed, literal_naming, ReadAs, ReadsAsShown}
use Rattle.naming.proofs.ReadBack.{reads_as_shown}
use Rattle.rules.proofs.Every.{All, end, ◌also◌, all_first, all_rest, all_append}
use Rattle.printed.specs.Reading.{cut_at, Conjuncts, LineSays, FurtherLines, Lines, lines, AnswerSays}
use Rattle.printed.proofs.Cutting.{Free, cut_last, cut_first}
use Rattle.printed.proofs.Blanks.{before_blank, after_blank}
use Rattle.printed.proofs.Free.{literal_free}
use Rattle.printed.proofs.Rows.{further_literals, row_text, further_rows, rows_text}

-- the two bytes that a text is cut at
abbrev ampersand : ℕ
ampersand = code "&"

abbrev newline : ℕ
newline = code "\n"

module _ (names : Names) where
  -- a literal each of whose names is a token
  pub record Named (l : Literal ℕ) : Type 0 where
    pub predicate : Begins Lower (get_or names.predicates l.predicate [])
    pub arguments : TermsNamed names l.arguments

  abbrev pub spoken_row : List (Literal ℕ) → List Spoken.Literal
  spoken_row d = map (λ l. literal_naming names l) d

  abbrev pub spoken_rows : List (List (Literal ℕ)) → List (List Spoken.Literal)
  spoken_rows ds = map spoken_row ds

  literal_reads : {l : Literal ℕ} → Named l → ReadAs (literal_text names l) (literal_naming names l)
  unfolding ReadsAsShown
  literal_reads {l} h = reads_as_shown names l h.predicate h.arguments

  no_ampersand : {l : Literal ℕ} → Named l → Free ampersand (literal_text names l)
  unfolding kind_of sign_kind letter_kind
  no_ampersand {l} h = literal_free ampersand refl (refl also refl also refl also refl also refl also end) names l h.predicate h.arguments

  no_newline : {l : Literal ℕ} → Named l → Free newline (literal_text names l)
  unfolding kind_of sign_kind letter_kind
  no_newline {l} h = literal_free newline refl (refl also refl also refl also refl also refl also end) names l h.predicate h.arguments

  -- a part that is a literal, and further literals
  part_says : (part : List ℕ) (l : Spoken.Literal) → ReadAs part l → Free ampersand part → {ls : List (Literal ℕ)} → All Named ls
      → LineSays (part ++ further_literals names ls) (l ∷ spoken_row ls)
  unfolding further_literals
  part_says part l r f end = rw (cut_last ampersand part f) (Conjuncts.more r Conjuncts.none)
  part_says part l r f (◌also◌ {a = m} {xs = ms} h hs) =
      let split : part ++ (32 ∷ ampersand ∷ 32 ∷ (literal_text names m ++ further_literals names ms))
      ≡ (part ++ (32 ∷ [])) ++ (ampersand ∷ ((32 ∷ literal_text names m) ++ further_literals names ms)) = sym (append_assoc part (32 ∷ []) _) in
      let cut : cut_at ampersand (part ++ (32 ∷ ampersand ∷ 32 ∷ (literal_text names m ++ further_literals names ms)))
      ≡ (part ++ (32 ∷ [])) ∷ cut_at ampersand ((32 ∷ literal_text names m) ++ further_literals names ms) =
      ap (λ (t : List ℕ). cut_at ampersand t) split ∙ cut_first ampersand (part ++ (32 ∷ [])) _ (all_append f (refl also end)) in
      subst (λ (parts : List (List ℕ)). Conjuncts parts (l ∷ spoken_row (m ∷ ms))) (sym cut)
      (Conjuncts.more (before_blank r) (part_says (32 ∷ literal_text names m) (literal_naming names m) (after_blank (literal_reads h)) (refl also no_ampersand h) hs))

  row_says : (l : Literal ℕ) (ls : List (Literal ℕ)) → All Named (l ∷ ls) → LineSays (row_text names (l ∷ ls)) (spoken_row (l ∷ ls))
  unfolding row_text
  row_says l ls h = part_says (literal_text names l) (literal_naming names l) (literal_reads (all_first h)) (no_ampersand (all_first h)) (all_rest h)

  further_free : {ls : List (Literal ℕ)} → All Named ls → Free newline (further_literals names ls)
  unfolding further_literals
  further_free end = end
  further_free (h also hs) = refl also refl also refl also all_append (no_newline h) (further_free hs)

  row_free : {ls : List (Literal ℕ)} → All Named ls → Free newline (row_text names ls)
  unfolding row_text
  row_free end = end
  row_free (h also hs) = all_append (no_newline h) (further_free hs)

  -- the lines of rows
  abbrev further_line : List (Literal ℕ) → List ℕ
  further_line d = bytes "or " ++ row_text names d

  rows_cut : (part : List ℕ) → Free newline part → {ds : List (List (Literal ℕ))} → All (λ d. All Named d) ds
      → cut_at newline (part ++ further_rows names ds) ≡ part ∷ map further_line ds
  unfolding further_rows
  rows_cut part f end = cut_last newline part f
  rows_cut part f (◌also◌ {a = d} {xs = ds} h hs) =
      cut_first newline part _ f
      ∙ ap (λ (rest : List (List ℕ)). part ∷ rest) (rows_cut (further_line d) (refl also refl also refl also row_free h) hs)

  rows_say : (more : ℕ) {ds : List (List (Literal ℕ))} → All (λ d. All Named d) ds → Each (λ d. length d ≡ suc more) ds
      → FurtherLines (map further_line ds) (spoken_rows ds)
  unfolding Each
  rows_say more end e = FurtherLines.none
  rows_say more (◌also◌ {a = d} h hs) e = FurtherLines.more (first d h e.0) (rows_say more hs e.1)
    where
      first : (d : List (Literal ℕ)) → All Named d → length d ≡ suc more → LineSays (row_text names d) (spoken_row d)
      first [] h n = absurd (omega (arith, n))
      first (l ∷ ls) h n = row_says l ls h

  pub rows_read : (more : ℕ) (d : List (Literal ℕ)) (ds : List (List (Literal ℕ))) → Each (λ d. length d ≡ suc more) (d ∷ ds) → All (λ d. All Named d) (d ∷ ds)
      → AnswerSays (literals_text names (suc more) 0 (flatten (d ∷ ds))) (spoken_rows (d ∷ ds))
  unfolding Each
  rows_read more [] ds e h = absurd (omega (arith, e.0))
  rows_read more (l ∷ ls) ds e h =
      let cut : cut_at newline (literals_text names (suc more) 0 (flatten ((l ∷ ls) ∷ ds))) ≡ row_text names (l ∷ ls) ∷ map further_line ds =
      ap (λ (t : List ℕ). cut_at newline t) (rows_text names more (l ∷ ls) ds e) ∙ rows_cut (row_text names (l ∷ ls)) (row_free (all_first h)) (all_rest h) in
      subst (λ (parts : List (List ℕ)). Lines parts (spoken_rows ((l ∷ ls) ∷ ds))) (sym cut) (lines (row_says l ls (all_first h)) (rows_say more (all_rest h) e.1))
