-- What the search and the checker know of a noted literal: the extension that it stands for, and where there is none.
use mathlib.Core.Path.{◌≡◌, ap, ◌∙◌}
use mathlib.Core.Bool.{true}
use mathlib.Core.List.{List, map}
use mathlib.Core.Option.{none, some}
use Prim.Native.Nat.{◌≤◌, ℕ, ◌-◌, ◌^◌, ◌<◌}
use native.Mathlib.Omega.{arith}
use lib.ListN.{length, take, drop, get_or, get_elem?}
use lib.Seq.{length-take-le, get_or-take}
use Rattle.words.specs.Fields.{kind_of, arity_of, literal_shaped}
use Rattle.words.proofs.Packed.{bits_small}
use Rattle.table.specs.Syntax.{Term, literal_under, Clause, all_clauses}
use Rattle.table.specs.Body.{starts, last_of}
use Rattle.table.specs.Decode.{terms_from, clauses_of, table_of}
use Rattle.table.specs.Limits.{Words, Readable}
use Rattle.table.proofs.BodyDecoding.{clauses_count}
use Rattle.rules.specs.Substitution.{Variable}
use Rattle.rules.specs.Order.{extensions}
use Rattle.index.specs.declared.entries.Scan.{Scan}
use Rattle.std.specs.Prelude.{None}
use Rattle.tableaux.specs.Leaves.{offsets_at}
use Rattle.index.specs.Scanning.{begun, entries_from, Standing, entry_from, EntryAt, other_sign}
use Rattle.tableaux.specs.Entering.{extension_at, literal_from, Enters, Owes}
use Rattle.index.specs.Noting.{Few}
use Rattle.engine.proofs.Literals.Sound.{owing_arity}
use Rattle.engine.proofs.Literals.Places.{table_clauses, some_length}
use Rattle.engine.proofs.Literals.Extensions.{extensions_listed}
use Rattle.tableaux.proofs.Literals.{clause_counted}
use Rattle.engine.proofs.Literals.Entered.{enters}
use Rattle.engine.proofs.Literals.Absent.{no_entry}

module _ (f : List ℕ) (n : ℕ) (fits : n ≤ length f) (r : Readable (take n f)) where
  -- the extensions of the leaf that begins with a clause's words from a literal on
  pub extensions_begin : Words (take n f) → {v : ℕ} (leaf : List ℕ) → literal_shaped (get_or leaf 0 0) ≡ true → get_or leaf 0 0 < 2 ^ 32 → Owes v (arity_of (get_or leaf 0 0)) (drop 1 leaf)
      → (σ : ℕ → Term Variable) (copy : ℕ)
      → map extension_at (entries_from (other_sign (get_or leaf 0 0)) begun (take n f)) ≡ extensions (literal_under σ (literal_from leaf)) copy 0 (all_clauses (table_of (take n f)))
  extensions_begin words leaf shaped small owing σ copy =
      extensions_listed (get_or leaf 0 0) shaped small σ (terms_from (drop 1 leaf)) (owing_arity owing) copy (take n f) words r

  pub scan_enters : {s : Scan} → Standing (take n f) s → s.at < n → kind_of (get_or f s.at 0) ≡ 2 → Enters f (table_of (take n f)) (last_of 0 (starts 0 0 (take n f))) s
  scan_enters {s} g inside kind =
      enters f n fits r g (rw (length-take-le n f fits) inside) (ap (λ (w : ℕ). kind_of w) (get_or-take n f s.at 0 inside) ∙ kind)

  module _ {clause number : ℕ} {s : Scan} (e : EntryAt (take n f) clause number s) where
    pub entry_enters : Enters f (table_of (take n f)) (last_of 0 (starts 0 0 (take n f))) s
    entry_enters = enters f n fits r e.standing e.inside e.kind

  pub entry_none : (clause number : ℕ) → entry_from clause number begun (take n f) ≡ None → (c : Clause) → get_elem? (all_clauses (table_of (take n f))) clause ≡ some c
      → get_elem? c.literals number ≡ none
  entry_none clause number d c e = no_entry clause number (take n f) r d c e

  -- the numbers have room in a step's word
  module _ {s : Scan} (e : Enters f (table_of (take n f)) (last_of 0 (starts 0 0 (take n f))) s) where
    pub clause_small : s.clauses - 1 < 512
    clause_small =
        let all : length (all_clauses (table_of (take n f))) ≡ length (clauses_of (take n f)) = rw (table_clauses (take n f) r) in
        omega (arith, some_length (all_clauses (table_of (take n f))) (s.clauses - 1) e.clause, clauses_count (take n f), r.few)

    pub literal_small : s.literals < 7
    literal_small =
        omega (arith, some_length (offsets_at f s.start) s.literals e.offset, clause_counted e.begins, bits_small 0 3 (get_or f s.start 0))

  -- the body's literals are within the limits
  pub few_literals : Few (take n f)
  few_literals = record {
    fits = λ s g inside kind.
        let e = enters f n fits r g inside kind in
        record {
          begun = e.begun;
          clauses = omega (arith, clause_small e);
          literals = literal_small e;
          later = e.later;
          near = e.literal.most;
        };
  }
