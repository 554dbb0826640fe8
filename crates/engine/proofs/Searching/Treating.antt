-- A leaf is treated: its reductions, then its restart or its extensions, unless the bound's are used.
use mathlib.Core.Path.{◌≡◌, refl, sym, ap, ap₂, ◌∙◌}
use mathlib.Core.Bool.{Bool, true, false, cond, ◌&&◌}
use mathlib.Core.List.{List, [], ◌∷◌, ◌++◌, map}
use Prim.Native.Nat.{ℕ, suc, ◌+◌, ◌-◌, ◌/◌, ◌%◌, ◌^◌, ◌≤◌, ◌<◌}
use native.Mathlib.Omega.{arith}
use borrow.Author.Tests.{lt-ltb, le-ltb}
use lib.Dec.{ltb}
use lib.ListN.{length, take, drop, get_or}
use Rattle.words.specs.Fields.{kind_of, negative_of, variables_of}
use Rattle.words.specs.declared.Step.{Step}
use Rattle.words.specs.declared.Step.TheVariants.{Restart}
use Rattle.table.specs.Limits.{Words}
use Rattle.table.specs.Syntax.{all_clauses}
use Rattle.table.proofs.AcceptedTable.{words_each}
use Rattle.table.proofs.BodyDecoding.{each_take}
use Rattle.rules.specs.Setting.{profile_of}
use Rattle.rules.specs.Order.{all_closed, candidates, candidates_at, extensions}
use Rattle.rules.specs.Machinery.Play.{Play, at_end, check_from, plays}
use Rattle.rules.specs.Machinery.Run.{Result, after, search, row}
use Rattle.rules.specs.Tableau.{Leaf, fresh}
use Rattle.rules.proofs.System.Steps.{search_done, search_open}
use Rattle.unification.specs.Places.{most_leaves, work_words}
use Rattle.unification.specs.State.{start_at, copies_of, next_at, words_at, literal_at_reference}
use Rattle.unification.specs.Good.{word_at, Inside}
use Rattle.index.specs.Places.{most_noted}
use Rattle.tableaux.specs.Leaves.{leaf_at}
use Rattle.tableaux.specs.Ready.{open_leaves, Stands, leaf_of}
use Rattle.index.specs.Scanning.{begun, past_word, entries_from, Standing, NextEntry, IsNext, other_sign}
use Rattle.tableaux.specs.Entering.{extension_at}
use Rattle.engine.specs.Searching.{without, table_at, setting_at, question_at, room_at, Treats, Wanted, leaf_treated, extends_at, restarts_at, Allows, Again, Leaves, Tells, Treated, Attempted, Rowed, reductions_at, extensions_at, further_at, extensions_from, extensions_ahead, reached_by, costing}
use Rattle.index.specs.declared.entries.Scan.{Scan}
use Rattle.std.specs.Prelude.{Option, Some, None}
use Rattle.engine.specs.declared.search.Ending.{Ending}
use Rattle.engine.specs.declared.search.Ending.TheVariants.{Found, Nothing, Out}
use Rattle.engine.specs.declared.search.Move.TheVariants.{Enter, Renew}
use Rattle.engine.specs.declared.search.Searched.{Searched}
use Rattle.engine.specs.declared.search.Task.{Task}
use Rattle.tableaux.specs.declared.tableau.Place.{Place}
use Rattle.tableaux.proofs.Chains.{chain_none}
use Rattle.index.specs.Noting.{keys_in, scans_in, count_at, link_at, first_from, Unpacks, unpacked, Linked}
use Rattle.index.proofs.Scans.{past_at, standing_begin, standing_past, body_length, body_word}
use Rattle.index.proofs.Linking.{linked_same}
use Rattle.index.proofs.Reached.{Leads, leads_first, all_ahead, lead_low, lead_unpacks, leads_next, lead_less, lead_ahead, lead_stands, lead_inside, lead_word, ahead_none}
use Rattle.engine.proofs.Literals.Entries.{extensions_begin, scan_enters}
use Rattle.engine.proofs.Literals.Fitting.{other_kind}
use Rattle.engine.proofs.Performed.{open_first, Literate, literate_sign, stands_literate, stands_inside}
use Rattle.engine.proofs.Searching.Again.{count_kept, ready_again, stands_again, again_then, counted_again}
use Rattle.engine.proofs.Searching.Attempts.{nothing_told}
use Rattle.engine.proofs.Searching.Climbs.{leaf_stays, leaf_word_stays}
use Rattle.engine.proofs.Profiles.{one_of, other_of}
use Rattle.engine.proofs.Searching.Rows.{row_append, tells_by, room_again, treats_again, Rowing, rowing_begin, rowing_by, rowing_out, rowing_end, rowing_last}

-- the candidates after the reductions, by the leaf and the number of copies
abbrev further_of : List ℕ → Task → Leaf → ℕ → List Step
further_of f task leaf copies =
    cond ((setting_at f task).profile.restarts leaf.literal.negative && ltb (copies - 1) task.bound) (Restart ∷ []) []
    ++ cond ((setting_at f task).profile.extends leaf.literal.negative && ltb (copies - 1) task.bound) (extensions leaf.literal copies 0 (all_clauses (table_at f task))) []

module _ (f m : List ℕ) (task : Task) (place : Place) where
  none-further : task.bound < copies_of m → further_at f m task place ≡ []
  none-further used = rw (le-ltb (copies_of m - 1) task.bound (omega arith)) (go (restarts_at f m task place) (extends_at f m task place))
    where
      go : (a b : Bool) → cond (a && false) (Restart ∷ []) [] ++ cond (b && false) (extensions_at f m task place) [] ≡ []
      go true true = refl
      go true false = refl
      go false true = refl
      go false false = refl

  module _ (unused : copies_of m ≤ task.bound) (begun : 1 ≤ copies_of m) where
    within : ltb (copies_of m - 1) task.bound ≡ true
    within = lt-ltb (copies_of m - 1) task.bound (omega arith)

    all-extensions : restarts_at f m task place ≡ false → extends_at f m task place ≡ true → further_at f m task place ≡ extensions_at f m task place
    all-extensions r e = rw (r, e, within)

    only-restart : restarts_at f m task place ≡ true → extends_at f m task place ≡ false → further_at f m task place ≡ Restart ∷ []
    only-restart r e = rw (r, e, within)

module _ {f m : List ℕ} {task : Task} {place : Place} (treats : Treats f m task place) where
  -- no leaf is open
  module _ (closed : place.head ≡ 0) where
    none_open : open_leaves f m place ≡ []
    none_open = rw closed (chain_none (leaf_at f m) (next_at m) place.leaves)

    pub treat_closed : (left : ℕ) → Treated f m m task place left (record { ending = Found; left = left; steps = place.steps })
    unfolding all_closed check_from at_end
    treat_closed left =
        record {
          leaves =
              record {
                good = treats.ready.good;
                earlier = λ i l. refl;
                marks = λ v l. refl;
              };
          within = omega arith;
          tells = λ p stands depth enough.
              let none : p.tableau.leaves ≡ [] = stands.leaves ∙ none_open in
              record {
                path = [];
                play = p;
                says = search_done (plays (setting_at f task)) depth left p (rw none);
                passes = λ at. rw none;
                bindings = stands.bindings;
                questions = stands.questions;
                count = omega arith;
                noted = refl;
              };
        }

  module _ (some_open : 0 < place.head) where
    leaf_literate : Literate f m (leaf_of m place)
    leaf_literate = stands_literate f m (leaf_of m place) (treats.ready.noted.stands (place.head - 1) (omega (arith, treats.ready.head)))

    pub treat_small : (length m ≡ work_words) × (0 < place.head) × (place.head ≤ most_leaves)
    treat_small = (treats.ready.good.size, some_open, omega (arith, treats.ready.head, treats.ready.room, treats.ready.good.copies))

    pub treat_inside : {literal : ℕ} → literal ≡ leaf_of m place → Inside f m literal
    treat_inside e = rw e (stands_inside f m (leaf_of m place) treats.ready.good (treats.ready.noted.stands (place.head - 1) (omega (arith, treats.ready.head))))

    pub treat_wanted : {literal word wanted : ℕ} → literal ≡ leaf_of m place → word ≡ word_at f m literal → wanted ≡ other_sign word → Wanted f m place wanted
    treat_wanted el ew e = rw (← el, ← ew) e

    -- the candidates of the leaf
    listed : (p : Play) → Stands f m (question_at f task) place p.tableau p.bindings
        → candidates (setting_at f task) p.tableau ≡ reductions_at f m place ++ further_at f m task place
    unfolding candidates candidates_at
    listed p stands =
        let used : copies_of m - 1 ≡ p.tableau.extensions = omega (arith, stands.extensions) in
        rw (stands.leaves, open_first treats.ready some_open, used, stands.extensions)

    searched : (p : Play) → Stands f m (question_at f task) place p.tableau p.bindings → (depth left : ℕ)
        → search (plays (setting_at f task)) (suc depth) left p
        ≡ after (row (plays (setting_at f task)) depth left p (reductions_at f m place)) (λ rest. row (plays (setting_at f task)) depth rest p (further_at f m task place))
    unfolding all_closed
    searched p stands depth left =
        let more : all_closed p.tableau.leaves ≡ false = rw (stands.leaves, open_first treats.ready some_open) in
        search_open (plays (setting_at f task)) depth left p more
        ∙ ap (row (plays (setting_at f task)) depth left p) (listed p stands)
        ∙ row_append (plays (setting_at f task)) depth p (reductions_at f m place) _ left

    module _ {m₁ : List ℕ} {left : ℕ} {r : Searched} (reduced : Rowed f m m₁ task place left r (reductions_at f m place)) where
      -- a reduction found a proof, or the budget ended
      pub treat_ended : (r.ending ≡ Nothing → ⊥) → Treated f m m₁ task place left r
      unfolding after
      treat_ended settled =
          record {
            leaves = reduced.leaves;
            within = reduced.within;
            tells = λ p stands depth enough. go r.ending p depth settled (reduced.tells p stands depth enough) _ (searched p stands depth left);
          }
        where
          go : (e : Ending) (p : Play) (depth : ℕ) → (e ≡ Nothing → ⊥) → Tells e f m₁ task place r p (row (plays (setting_at f task)) depth left p (reductions_at f m place))
              → (others : ℕ → Result Step) → search (plays (setting_at f task)) (suc depth) left p ≡ after (row (plays (setting_at f task)) depth left p (reductions_at f m place)) others
              → Tells e f m₁ task place r p (search (plays (setting_at f task)) (suc depth) left p)
          go Found p depth s h others same = tells_by f m₁ task place r p Found (same ∙ ap (λ (a : Result Step). after a others) h.says ∙ sym h.says) h
          go Nothing p depth s h others same = absurd (s refl)
          go Out p depth s h others same = λ z. same ∙ ap (λ (a : Result Step). after a others) (h z)

      module _ (nothing : r.ending ≡ Nothing) where
        back : Again f m m₁ place
        back = rw nothing at reduced.leaves

        pub treat_again : Treats f m₁ task place
        treat_again = treats_again treats back

        pub treat_room : room_at f m₁ task place ≡ room_at f m task place
        treat_room = room_again task treats.ready back

        pub treat_word_again : {literal word : ℕ} → literal ≡ leaf_of m place → word ≡ word_at f m literal → word ≡ word_at f m₁ (leaf_of m₁ place)
        treat_word_again el ew = ew ∙ ap (word_at f m) el ∙ sym (leaf_word_stays treats.ready some_open back.later)

        same_further : further_at f m task place ≡ further_at f m₁ task place
        same_further = sym (ap₂ (λ (l : Leaf) (n : ℕ). further_of f task l n) (leaf_stays treats.ready some_open back.later) back.copies)

        -- what comes after the reductions ends it
        pub treat_further : {m₂ : List ℕ} {r₂ : Searched} → Rowed f m₁ m₂ task place r.left r₂ (further_at f m₁ task place) → Treated f m m₂ task place left r₂
        unfolding after
        treat_further {m₂} {r₂} further =
            record {
              leaves = go r₂.ending further.leaves;
              within = omega (arith, further.within, reduced.within);
              tells = λ p stands depth enough.
                  let onwards : search (plays (setting_at f task)) (suc depth) left p ≡ row (plays (setting_at f task)) depth r.left p (further_at f m₁ task place) =
                  searched p stands depth left
                  ∙ ap (λ (a : Result Step). after a (λ rest. row (plays (setting_at f task)) depth rest p (further_at f m task place)))
                  (nothing_told f m₁ task place r p _ r.ending nothing (reduced.tells p stands depth enough))
                  ∙ ap (row (plays (setting_at f task)) depth r.left p) same_further in
                  tells_by f m₂ task place r₂ p r₂.ending onwards (further.tells p (stands_again treats.ready back p stands) depth (omega (arith, treat_room)));
            }
          where
            go : (e : Ending) → Leaves e f m₁ m₂ place r₂ → Leaves e f m m₂ place r₂
            go Found l = record { good = l.good; earlier = λ i h. l.earlier i h ∙ back.later.steps i h; marks = λ v h. l.marks v h ∙ back.later.marks v h }
            go Nothing l = again_then back l
            go Out l = λ few. l (omega (arith, few, count_kept back.later))

    -- after the reductions
    module _ {word : ℕ} (ew : word ≡ word_at f m (leaf_of m place)) where
      leaf_sign : (leaf_treated f m place).literal.negative ≡ negative_of word
      leaf_sign = literate_sign leaf_literate ∙ ap negative_of (sym ew)

      pub further_wanted : {wanted : ℕ} → wanted ≡ other_sign word → Wanted f m place wanted
      further_wanted e = rw ew at e

      pub further_used : task.bound < copies_of m → {tries : ℕ} {r : Searched} → r ≡ without Nothing tries → Rowed f m m task place tries r (further_at f m task place)
      further_used used {tries} e =
          rowing_end treats (rowing_by treats (none-further f m task place used) (rowing_begin treats tries (further_at f m task place))) e

      module _ (unused : copies_of m ≤ task.bound) {q : Bool} (eq : q ≡ (profile_of task.restarts).restarts (negative_of word)) where
        restarts_so : restarts_at f m task place ≡ q
        restarts_so = ap (λ (b : Bool). (profile_of task.restarts).restarts b) leaf_sign ∙ sym eq

        pub further_extends : q ≡ false → extends_at f m task place ≡ true
        further_extends n = one_of task.restarts (leaf_treated f m place).literal.negative (restarts_so ∙ n)

        pub further_extended : q ≡ false → {tries : ℕ} {m₁ : List ℕ} {r : Searched} → Rowed f m m₁ task place tries r (extensions_at f m task place) → Rowed f m m₁ task place tries r (further_at f m task place)
        further_extended n extended = rw (all-extensions f m task place unused treats.ready.begun (restarts_so ∙ n) (further_extends n)) extended

        module _ (y : q ≡ true) where
          one_restart : further_at f m task place ≡ Restart ∷ []
          one_restart = only-restart f m task place unused treats.ready.begun (restarts_so ∙ y) (other_of task.restarts (leaf_treated f m place).literal.negative (restarts_so ∙ y))

          restart_row : (tries : ℕ) → Rowing f m m task place tries tries (further_at f m task place) (Restart ∷ [])
          restart_row tries = rowing_by treats one_restart (rowing_begin treats tries (further_at f m task place))

          pub further_allows : Allows f m task place Renew
          further_allows = (unused, restarts_so ∙ y)

          pub further_out : {tries : ℕ} → tries ≡ 0 → {r : Searched} → r ≡ without Out tries → Rowed f m m task place tries r (further_at f m task place)
          further_out {tries} z e = rowing_out treats (restart_row tries) z e

          pub further_restarted : {tries : ℕ} → (tries ≡ 0 → ⊥) → {m₁ : List ℕ} {r : Searched} → Attempted f m m₁ task place Renew (tries - 1) r → Rowed f m m₁ task place tries r (further_at f m task place)
          further_restarted {tries} n attempted = rowing_last treats Renew (restart_row tries) n attempted

    -- the extensions, as a scan of the body meets their literals
    body_small : Words (take task.body f)
    body_small = each_take (λ (w : ℕ). w < 2 ^ 32) task.body f (words_each f treats.asked.small)

    module _ (unused : copies_of m ≤ task.bound) (may : extends_at f m task place ≡ true) {wanted : ℕ} (wants : Wanted f m place wanted) where
      kind : kind_of wanted ≡ 2
      kind = rw wants (other_kind (word_at f m (leaf_of m place)) leaf_literate.shaped (treats.asked.small _))

      all_entries : extensions_at f m task place ≡ map extension_at (entries_from wanted begun (take task.body f))
      unfolding literal_at_reference
      all_entries =
          let l = leaf_literate in
          sym (rw (wants, ← l.word)
          (extensions_begin f task.body treats.asked.fits treats.asked.readable body_small {v = variables_of (get_or f (start_at m (leaf_of m place / 256)) 0)} (words_at f m (leaf_of m place)) (rw l.word l.shaped) (rw l.word (treats.asked.small _)) (rw l.word l.owing) (fresh (leaf_of m place / 256)) (copies_of m)))

      pub wanted_again : {m₁ : List ℕ} → Again f m m₁ place → Wanted f m₁ place wanted
      wanted_again again = wants ∙ ap other_sign (sym (leaf_word_stays treats.ready some_open again.later))

      pub extends_again : {m₁ : List ℕ} → Again f m m₁ place → extends_at f m₁ task place ≡ true
      extends_again again = ap (λ (l : Leaf). (setting_at f task).profile.extends l.literal.negative) (leaf_stays treats.ready some_open again.later) ∙ may

      allowed : {m₁ : List ℕ} → Again f m m₁ place → {entry : Scan} → Standing (take task.body f) entry → entry.at < task.body → get_or f entry.at 0 ≡ wanted → Allows f m₁ task place (Enter entry)
      allowed again stands inside word = (
        scan_enters f task.body treats.asked.fits treats.asked.readable stands inside (ap (λ (w : ℕ). kind_of w) word ∙ kind),
        word ∙ wanted_again again,
        omega (arith, again.copies),
        extends_again again,
      )

      -- by a scan
      pub scan_begin : {scan : Scan} → scan ≡ begun → Standing (take task.body f) scan
      scan_begin e = rw e (standing_begin (take task.body f))

      pub scan_all : {scan : Scan} → scan ≡ begun → {tries : ℕ} {m₁ : List ℕ} {r : Searched} → Rowed f m m₁ task place tries r (extensions_from f task wanted scan) → Rowed f m m₁ task place tries r (extensions_at f m task place)
      scan_all e rowed = rw all_entries (rw e at rowed)

      module _ {m₁ : List ℕ} {tries left : ℕ} {all : List Step} (scan : Scan) (standing : Standing (take task.body f) scan) (rowing : Rowing f m m₁ task place tries left all (extensions_from f task wanted scan)) where
        pub scan_asks : (length m₁ ≡ work_words) × (task.body ≤ length f) × (task.body ≤ 16000) × (kind_of wanted ≡ 2) × Standing (take task.body f) scan
        scan_asks = (rowing.again.good.size, treats.asked.fits, treats.asked.short, kind, standing)

        module _ (found : Option Scan) {m₂ : List ℕ} (so : IsNext (take task.body f) wanted scan found × (m₂ ≡ costing m₁ task.body (reached_by found task.body - scan.at))) where
          pub scan_again : Again f m m₂ place
          scan_again = again_then rowing.again (counted_again (ready_again treats.ready rowing.again) _ _ so.1)

          scan_kept : Rowing f m m₂ task place tries left all (extensions_from f task wanted scan)
          scan_kept = record { again = scan_again; within = rowing.within; same = rowing.same }

          pub scan_end : found ≡ None → {r : Searched} → r ≡ without Nothing left → Rowed f m m₂ task place tries r all
          scan_end is er =
              let none : entries_from wanted scan (drop scan.at (take task.body f)) ≡ [] = rw is at so.0 in
              rowing_end treats (rowing_by treats (ap (map extension_at) none) scan_kept) er

          module _ {entry : Scan} (is : found ≡ Some entry) where
            next : NextEntry (take task.body f) wanted scan entry
            next = rw is at so.0

            inside : entry.at < task.body
            inside = omega (arith, next.inside, body_length f task.body treats.asked.fits)

            pub scan_allows : Allows f m₂ task place (Enter entry)
            scan_allows = allowed scan_again next.standing inside (sym (body_word f task.body treats.asked.fits inside refl) ∙ next.here)

            pub scan_small : (entry.at < 4294967295) × (entry.clauses ≤ entry.at) × (entry.literals ≤ entry.at)
            scan_small = (omega (arith, inside, treats.asked.short), next.standing.clauses, next.standing.literals)

            module _ {past : Scan} (ep : past ≡ past_word entry wanted) where
              past_later : past.at ≡ entry.at + 1
              past_later = ap (λ (s : Scan). s.at) ep ∙ past_at entry wanted

              pub scan_stands : Standing (take task.body f) past
              scan_stands = rw ep (rw next.here at (standing_past (take task.body f) next.standing next.inside))

              pub scan_less : task.body - past.at < task.body - scan.at
              scan_less = omega (arith, past_later, inside, next.later)

              pub scan_next : Rowing f m m₂ task place tries left all (extension_at entry ∷ extensions_from f task wanted past)
              scan_next =
                  rowing_by treats
                  (ap (map extension_at) next.first
                  ∙ ap (λ (k : ℕ). extension_at entry ∷ map extension_at (entries_from wanted (past_word entry wanted) (drop k (take task.body f)))) (sym (past_at entry wanted))
                  ∙ ap (λ (s : Scan). extension_at entry ∷ extensions_from f task wanted s) (sym ep))
                  scan_kept

      -- by the notes of the literals
      module _ (noted : count_at m ≤ most_noted) where
        linked : Linked f task.body m 0
        linked = treats.linked noted

        module _ {link : ℕ} (el : link ≡ first_from wanted 0 (keys_in f task.body)) where
          pub link_begin : Leads f task.body wanted link
          link_begin = leads_first linked wanted el

          pub link_row : (tries : ℕ) → Rowing f m m task place tries tries (extensions_at f m task place) (extensions_ahead f task wanted link)
          link_row tries = rowing_by treats (all_entries ∙ ap (map extension_at) (all_ahead linked wanted el kind)) (rowing_begin treats tries (extensions_at f m task place))

        module _ {m₁ : List ℕ} {tries left : ℕ} {all : List Step} (link : ℕ) (leads : Leads f task.body wanted link) (rowing : Rowing f m m₁ task place tries left all (extensions_ahead f task wanted link)) where
          pub link_end : link ≡ 0 → {r : Searched} → r ≡ without Nothing left → Rowed f m m₁ task place tries r all
          link_end z er = rowing_end treats (rowing_by treats (ap (map extension_at) (ahead_none (keys_in f task.body) (scans_in f task.body) wanted z)) rowing) er

          linked_still : Linked f task.body m₁ 0
          linked_still = linked_same rowing.again.good.size rowing.again.later.notes linked

          module _ (n : link ≡ 0 → ⊥) where
            pub link_low : (length m₁ ≡ work_words) × (link - 1 < most_noted)
            link_low = lead_low linked_still wanted leads n

            pub link_unpacks : Unpacks m₁ (link - 1)
            link_unpacks = lead_unpacks linked_still wanted leads n

            module _ {next : ℕ} (en : next ≡ link_at m₁ (link - 1)) where
              pub link_leads : Leads f task.body wanted next
              link_leads = leads_next linked_still wanted leads n en

              pub link_less : (4096 - next) % 4096 < (4096 - link) % 4096
              link_less = lead_less linked_still wanted leads n en

              module _ {entry : Scan} (es : entry ≡ unpacked m₁ (link - 1)) where
                pub link_next : Rowing f m m₁ task place tries left all (extension_at entry ∷ extensions_ahead f task wanted next)
                link_next = rowing_by treats (ap (map extension_at) (lead_ahead linked_still wanted leads n en es)) rowing

                pub link_allows : Allows f m₁ task place (Enter entry)
                link_allows = allowed rowing.again (lead_stands linked_still wanted leads n en es) (lead_inside linked_still wanted leads n en es) (lead_word linked_still wanted leads n en es)
