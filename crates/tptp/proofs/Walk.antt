-- The items of a permitted text gathered to the text's end, with premises as the code has them.
use Rattle.std.specs.Prelude.{Some, None}
use mathlib.Core.Bool.{false}
use mathlib.Core.List.{List, [], ◌∷◌}
use mathlib.Core.Path.{◌≡◌, refl, ap, ◌∙◌}
use Prim.Native.Nat.{ℕ, ◌-◌, ◌≤◌, ◌<◌}
use native.Mathlib.Omega.{arith}
use lib.ListN.{length, take, drop}
use mir.Syntax.{w32}
use mir.Val.{Fits}
use Rattle.clausetext.specs.declared.kind.Mark.{Mark}
use Rattle.clausetext.specs.declared.token.Lexeme.{Lexeme}
use Rattle.clausetext.specs.declared.token.Lexeme.TheVariants.{Word, Capital, Sign}
use Rattle.clausetext.specs.Syntax.{Clause}
use Rattle.clausetext.specs.Tokens.{Token, word, capital, mark, Spelt}
use Rattle.clausetext.specs.Texts.{Says, Permitted}
use Rattle.clausetext.specs.Lexemes.{lexeme_at}
use Rattle.clausetext.proofs.Walking.{WordFound, SignFound, Met, over, lettered, titled, single, met}
use Rattle.names.specs.Numbers.{Name}
use Rattle.names.proofs.Same.{run_taken}
use Rattle.names.specs.Noting.{name_at}
use Rattle.tptp.specs.declared.sketch.Progress.{Progress}
use Rattle.tptp.specs.Sketch.{clauses_items, Gathering, on_token, gather}
use Rattle.tptp.specs.Memory.{items_of, inner_of, sketch_of, Small, Ready, Further, word_met, capital_met, mark_met, Signed, Deepening, Empty, Gathered}
use Rattle.tptp.proofs.Gathered.{clauses_gather}
use Rattle.tptp.proofs.Adding.{items_count}

pub name_found : {text : List ℕ} {at : ℕ} {w : Name} {ts : List Token} {from stop : ℕ} → WordFound text at w ts from stop → name_at text from ≡ w
name_found {text} {from = from} f = run_taken (drop from text) ∙ rw f.whole f.bytes

-- what is left to gather gives the items of what the text says
pub record Going (text marks places inner : List ℕ) (p : Progress) (at : ℕ) : Type 0 where
  pub said : List Clause
  pub says : Says text said
  pub left : List Token
  pub spelt : Spelt left (drop at text)
  pub goes : gather (sketch_of text marks places inner p) left ≡ record { items = clauses_items said; inner = []; stage = 0; negative = false }
  pub marks_long : length marks ≡ 65536
  pub places_long : length places ≡ 65536
  pub inner_long : length inner ≡ 65536
  pub small : Small marks p.count
  pub within : at ≤ length text
  pub few : p.count ≤ at
  pub deep : p.depth ≤ at

pub begin_going : {text marks places inner : List ℕ} → Permitted text → Empty marks places inner
    → Going text marks places inner (record { count = 0; depth = 0; stage = 0; negative = false }) 0
unfolding items_of inner_of
begin_going y e = record {
  said = y.said;
  says = y.says;
  left = y.says.tokens;
  spelt = y.says.spelt;
  goes = clauses_gather y.says.clauses [];
  marks_long = e.marks_long;
  places_long = e.places_long;
  inner_long = e.inner_long;
  small = e.small;
  within = omega arith;
  few = omega arith;
  deep = omega arith;
}

-- the token found is the first that is left
pub record Head (text : List ℕ) (at : ℕ) (left : List Token) (from stop : ℕ) (token : Name → Token) : Type 0 where
  pub name : Name
  pub others : List Token
  pub first : left ≡ token name ∷ others
  pub found : WordFound text at name others from stop

pub record SignHead (text : List ℕ) (at : ℕ) (left : List Token) (m : Mark) (next : ℕ) : Type 0 where
  pub others : List Token
  pub first : left ≡ mark m ∷ others
  pub found : SignFound text at others next

pub word_head : {text : List ℕ} {at : ℕ} {left : List Token} {l : Lexeme} {from stop : ℕ} → Met text at left (Some l) → l ≡ Word from stop → Head text at left from stop word
word_head {from = from} {stop = stop} (lettered {w} {ts} {start = a} {stop = b} f) e =
    let x : a ≡ from = cc in let y : b ≡ stop = cc in record { name = w; others = ts; first = refl; found = rw (x, y) at f }
word_head (titled f) e = let z : ◌≡◌ {A = ℕ} 0 1 = cc in absurd (omega arith)
word_head (single f) e = let z : ◌≡◌ {A = ℕ} 0 1 = cc in absurd (omega arith)

pub capital_head : {text : List ℕ} {at : ℕ} {left : List Token} {l : Lexeme} {from stop : ℕ} → Met text at left (Some l) → l ≡ Capital from stop → Head text at left from stop capital
capital_head (lettered f) e = let z : ◌≡◌ {A = ℕ} 0 1 = cc in absurd (omega arith)
capital_head {from = from} {stop = stop} (titled {x = w} {ts} {start = a} {stop = b} f) e =
    let x : a ≡ from = cc in let y : b ≡ stop = cc in record { name = w; others = ts; first = refl; found = rw (x, y) at f }
capital_head (single f) e = let z : ◌≡◌ {A = ℕ} 0 1 = cc in absurd (omega arith)

pub sign_head : {text : List ℕ} {at : ℕ} {left : List Token} {l : Lexeme} {m : Mark} {next : ℕ} → Met text at left (Some l) → l ≡ Sign m next → SignHead text at left m next
sign_head (lettered f) e = let z : ◌≡◌ {A = ℕ} 0 1 = cc in absurd (omega arith)
sign_head (titled f) e = let z : ◌≡◌ {A = ℕ} 0 1 = cc in absurd (omega arith)
sign_head {m = m} {next = next} (single {m = k} {ts} {next = b} f) e =
    let x : k ≡ m = cc in let y : b ≡ next = cc in record { others = ts; first = rw x refl; found = rw y at f }

pub nothing_left : {text : List ℕ} {at : ℕ} {left : List Token} → Met text at left None → left ≡ []
nothing_left over = refl

-- a word in the gathering
module _ {text marks places inner : List ℕ} {p : Progress} {at from stop : ℕ} {token : Name → Token} (short : length text ≤ 65536)
    (inv : Going text marks places inner p at) (h : Head text at inv.left from stop token) where
  head-fits : Fits w32 from
  head-fits = let f = h.found in record { fits = omega (arith, f.some, f.within) }

  head-ready : Ready marks places inner p
  head-ready = let f = h.found in record {
    marks_long = inv.marks_long;
    places_long = inv.places_long;
    inner_long = inv.inner_long;
    small = inv.small;
    few = omega (arith, inv.few, f.after, f.some, f.within);
    deep = omega (arith, inv.deep, f.after, f.some, f.within);
  }

  head-falls : length text - stop < length text - at
  head-falls = let f = h.found in omega (arith, f.after, f.some, f.within)

  head-on : (step : Name → Gathering → Gathering) → ((g : Gathering) (name : Name) → on_token g (token name) ≡ step name g)
      → {marks' places' inner' : List ℕ} {r : Progress} → Further text (step (name_at text from)) marks places inner p marks' places' inner' r
      → Going text marks' places' inner' r stop
  unfolding gather
  head-on step law g =
      let f = h.found in
      record {
        said = inv.said;
        says = inv.says;
        left = h.others;
        spelt = f.left;
        goes = rw (g.same, name_found f, ← law (sketch_of text marks places inner p) h.name) (rw h.first at inv.goes);
        marks_long = g.marks_long;
        places_long = g.places_long;
        inner_long = g.inner_long;
        small = g.small;
        within = f.within;
        few = omega (arith, g.few, inv.few, f.after, f.some);
        deep = omega (arith, g.deep, inv.deep, f.after, f.some);
      }

word_law : (g : Gathering) (name : Name) → on_token g (word name) ≡ word_met name g
unfolding on_token
word_law g name = refl

capital_law : (g : Gathering) (name : Name) → on_token g (capital name) ≡ capital_met name g
unfolding on_token
capital_law g name = refl

module _ {text marks places inner : List ℕ} {p : Progress} {at : ℕ} (short : length text ≤ 65536) (inv : Going text marks places inner p at) where
  pub all_gathered : None ≡ lexeme_at text at → Gathered text marks places p.count
  unfolding gather
  all_gathered e =
      let m : Met text at inv.left None = rw e (met inv.spelt) in
      let none : inv.left ≡ [] = nothing_left m in
      record {
        said = inv.said;
        says = inv.says;
        items = ap (λ (g : Gathering). g.items) (rw none at inv.goes);
        marks_long = inv.marks_long;
        places_long = inv.places_long;
        few = omega (arith, inv.few, inv.within);
      }

  module _ {l : Lexeme} (is : Some l ≡ lexeme_at text at) where
    meets : Met text at inv.left (Some l)
    meets = rw is (met inv.spelt)

    module _ {from stop : ℕ} (e : l ≡ Word from stop) where
      pub word_fits : Fits w32 from
      word_fits = head-fits short inv (word_head meets e)

      pub word_ready : Ready marks places inner p
      word_ready = head-ready short inv (word_head meets e)

      pub word_falls : length text - stop < length text - at
      word_falls = head-falls short inv (word_head meets e)

      pub word_on : {marks' places' inner' : List ℕ} {r : Progress} → Further text (word_met (name_at text from)) marks places inner p marks' places' inner' r
          → Going text marks' places' inner' r stop
      word_on g = head-on short inv (word_head meets e) word_met word_law g

    module _ {from stop : ℕ} (e : l ≡ Capital from stop) where
      pub capital_fits : Fits w32 from
      capital_fits = head-fits short inv (capital_head meets e)

      pub capital_ready : Ready marks places inner p
      capital_ready = head-ready short inv (capital_head meets e)

      pub capital_falls : length text - stop < length text - at
      capital_falls = head-falls short inv (capital_head meets e)

      pub capital_on : {marks' places' inner' : List ℕ} {r : Progress}
          → ((text : List ℕ) → Further text (capital_met (name_at text from)) marks places inner p marks' places' inner' r)
          → Going text marks' places' inner' r stop
      capital_on g = head-on short inv (capital_head meets e) capital_met capital_law (g text)

    module _ {m : Mark} {next : ℕ} (e : l ≡ Sign m next) where
      pub sign_ready : Deepening inner p
      sign_ready = let f = (sign_head meets e).found in record {
        long = inv.inner_long;
        few = omega (arith, inv.few, f.after, f.within);
        deep = omega (arith, inv.deep, f.after, f.within);
      }

      pub sign_falls : length text - next < length text - at
      sign_falls = let f = (sign_head meets e).found in omega (arith, f.after, f.within)

      pub sign_on : {inner' : List ℕ} {r : Progress} → Signed (mark_met m) inner p inner' r → Going text marks places inner' r next
      unfolding gather on_token
      sign_on {inner'} {r} g =
          let h = sign_head meets e in
          let f = h.found in
          let n : length (items_of text (take p.count marks) (take p.count places)) ≡ p.count =
          items_count text marks places p.count inv.marks_long inv.places_long (omega (arith, inv.few, f.after, f.within)) in
          record {
            said = inv.said;
            says = inv.says;
            left = h.others;
            spelt = f.left;
            goes = rw g.count (rw (g.same (items_of text (take p.count marks) (take p.count places)) n) (rw h.first at inv.goes));
            marks_long = inv.marks_long;
            places_long = inv.places_long;
            inner_long = g.long;
            small = rw g.count inv.small;
            within = f.within;
            few = omega (arith, g.count, inv.few, f.after);
            deep = omega (arith, g.deep, inv.deep, f.after);
          }

pub ruleset walk_laws =
    (begin_going, all_gathered, word_fits, word_ready, word_falls, word_on, capital_fits, capital_ready, capital_falls, capital_on, sign_ready, sign_falls, sign_on)
