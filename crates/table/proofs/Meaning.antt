-- What a body and a file are: a body is read without refusal exactly when it is the encoding of a table within document 01's limits, a file is
-- accepted exactly when it is the file of such a table with all literals of the question negative and the question not restricted, and that table is one.
use mathlib.Core.Path.{◌≡◌, sym, ap, ◌∙◌}
use mathlib.Core.Logic.{◌↔◌}
use mathlib.Core.List.{List}
use Prim.Native.Nat.{ℕ}
use Rattle.table.specs.Syntax.{Table, all_clauses}
use Rattle.table.specs.Encode.{body_words, file_words}
use Rattle.table.specs.File.{body_of, judge}
use Rattle.table.specs.Decode.{table_of}
use Rattle.table.specs.Limits.{Within, FileWithin, Words, Readable}
use Rattle.table.specs.declared.Judgement.{Judgement}
use Rattle.table.proofs.BodyDecoding.{table_encoded, table_within}
use Rattle.table.proofs.Encoding.{table_decoded, table_readable, clauses_fit}
use Rattle.table.proofs.FileEncoding.{file_accepted, file_within, file_encoded, file_decoded}

pub read_exactly : (body : List ℕ) → Words body → Readable body ↔ ((t : Table) × Within t × (body ≡ body_words t))
read_exactly body small = (
  λ r. (table_of body, table_within body r, sym (table_encoded body r small)),
  λ e. rw e.2 (table_readable e.0 e.1),
)

-- decoding what was encoded, and encoding what was decoded
pub decode_encode : (t : Table) → Within t → table_of (body_words t) ≡ t
decode_encode = table_decoded

pub encode_decode : (body : List ℕ) → Words body → Readable body → body_words (table_of body) ≡ body
encode_decode body small r = table_encoded body r small

-- the table is one
pub one_table : (s t : Table) → Within s → Within t → body_words s ≡ body_words t → s ≡ t
one_table s t hs ht e = sym (table_decoded s hs) ∙ ap (λ (ws : List ℕ). table_of ws) e ∙ table_decoded t ht

-- the words of a table within the limits are words of 32 bits
pub encoded_words : (t : Table) → Within t → Words (body_words t)
unfolding body_words
encoded_words t h = clauses_fit (all_clauses t) h.clauses

-- a file
pub accepted_exactly : (file : List ℕ) → Words file → (judge file).status ≡ 0 ↔ ((t : Table) × FileWithin t × (file ≡ file_words t))
accepted_exactly file small = (
  λ z. (table_of (body_of file), file_within file small z, file_encoded file small z),
  λ e. rw e.2 (ap (λ (j : Judgement). j.status) (file_accepted e.0 e.1)),
)

pub one_file_table : (s t : Table) → Within s → Within t → file_words s ≡ file_words t → s ≡ t
one_file_table s t hs ht e = sym (file_decoded s hs) ∙ ap (λ (us : List ℕ). table_of (body_of us)) e ∙ file_decoded t ht
