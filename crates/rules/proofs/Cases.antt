-- Document 01's questions to try, 1 to 11, cases 5 and 8 as checks (order 5), one question more, and case 1 with restarts (order 11), as one equation
-- between lists, closed by computation over files of words.
use lib.Dec.{eqb}
use lib.ListN.{length}
use mathlib.Core.Bool.{cond}
use mathlib.Core.List.{List, [], ◌∷◌, ◌++◌, map}
use mathlib.Core.Logic.{◌⊎◌}
use mathlib.Core.Path.{◌≡◌, refl}
use Prim.Native.Nat.{ℕ}
use Rattle.words.specs.Fingerprint.{product, mixed, fnv, word_bytes, bytes_of, fingerprint}
use Rattle.words.specs.Steps.{well_formed, step_word, encoded, step_of}
use Rattle.words.specs.declared.Step.{Step}
use Rattle.words.specs.declared.Step.TheVariants.{Extension}
use Rattle.table.specs.declared.Judgement.{Judgement}
use Rattle.table.specs.Syntax.{Table, under, literal_under}
use Rattle.table.specs.Decode.{table_of}
use Rattle.table.specs.File.{body_of, size_fits, trailer_fits, fingerprint_fits, clauses_fit, judge_read, judge_body, judge}
use Rattle.table.proofs.Opened.{opened}
use Rattle.rules.specs.Machinery.Unify.{replace, solution, through, follow, occurs, after, unless_occurs, bind, unless_same, same_symbol, if_same, meet_by, each_by, compare_within, height, variables, height_of, variables_of, doubled, enough, unifies, meet, unify}
use Rattle.rules.specs.Setting.{Profile, every_leaf, one_way, read_steps, Setting, over, base}
use Rattle.rules.specs.Tableau.{fresh, copy_of, atom, fits, hang, start, ancestor, others, closing, reduced, questions_with, entered, extended, treated, stepped, Closed}
use Rattle.rules.specs.Order.{Before, reductions, entries, extensions, candidates_at, candidates, all_closed}
use Rattle.rules.specs.Answer.{positive, disjunct, per_copy, same_term, same_literal, same_disjunct, seen_by, firsts_after_by, firsts_by, place_by, disjuncts, occurring, occurring_all, numbered, joined, answer_words}
use Rattle.rules.specs.Verdict.{status_of, SearchVerdict, finds, finds_none, runs_out}
use Rattle.rules.specs.Machinery.Run as Run
use Rattle.rules.specs.Machinery.Play.{begin, bound_by, newest, performed, perform, Checking, passed, stopped, at_end, refusal, onwards, check_from, check, checked, afterwards, most_added, most_more, steps_left, reported, search_for, answer_of, disjuncts_of}
use Rattle.rules.proofs.System.Clash.{clash}
use Rattle.rules.proofs.Demands.{none_exactly, found_is_first}

-- what comes back: status, place, proof words, disjuncts, answer words, tries
pub record Returned : Type 0 where
  pub status : ℕ
  pub place : ℕ
  pub proof : List ℕ
  pub disjuncts : ℕ
  pub answer : List ℕ
  pub tries : ℕ

-- numbers not named are 0
abbrev pub refused_at : ℕ → ℕ → Returned
refused_at status place = record { status = status; place = place; proof = []; disjuncts = 0; answer = []; tries = 0 }

abbrev pub without : ℕ → ℕ → Returned
without status tries = record { status = status; place = 0; proof = []; disjuncts = 0; answer = []; tries = tries }

abbrev pub with_answer : Table → List ℕ → ℕ → Checking → Returned
with_answer t proof tries (passed p) =
    record { status = 0; place = 0; proof = proof; disjuncts = disjuncts_of t p; answer = answer_of t p; tries = tries }
with_answer t proof tries (stopped r place) = refused_at (status_of r) place

-- a call on a table: a search with a bound and a budget, or a check of a proof with a bound
pub data Call : Type 0 where
  search : ℕ → ℕ → Call
  checking : ℕ → List ℕ → Call

abbrev pub searched : Setting → SearchVerdict → Returned
searched S (finds steps tries) = with_answer S.table (map encoded steps) tries (check S steps)
searched S (finds_none tries) = without 10 tries
searched S (runs_out tries) = without 11 tries

abbrev pub asked : Profile → Table → Call → Returned
asked rules t (search bound budget) = searched (over rules t bound) (search_for (over rules t bound) budget)
asked rules t (checking bound proof) = with_answer t proof 0 (check (over rules t bound) (read_steps rules proof))

-- a file is judged before anything is asked of it
abbrev pub judged : Profile → Judgement → List ℕ → Call → Returned
judged rules j file call = cond (eqb j.status 0) (asked rules (table_of (body_of file)) call) (refused_at j.status j.place)

pub record Question : Type 0 where
  pub rules : Profile
  pub file : List ℕ
  pub call : Call

abbrev pub returned : Question → Returned
returned q = judged q.rules (judge q.file) q.file q.call

-- under document 01's rules, and under order 11's
abbrev pub by_base : List ℕ → Call → Question
by_base file call = record { rules = every_leaf; file = file; call = call }

abbrev pub one_way_lem : List ℕ → Call → Question
one_way_lem file call = record { rules = one_way; file = file; call = call }

-- a body with its trailer: where the question begins, the number of clauses, the fingerprint, the body's length
abbrev pub whole : ℕ → ℕ → List ℕ → List ℕ
whole question clauses body = body ++ (question ∷ clauses ∷ fingerprint body ∷ length body ∷ [])

-- at(e,mat) or at(e,eve); ask at(e,X)
abbrev pub mat_or_eve : List ℕ
mat_or_eve =
    whole 7 2
    (0xC0000602 ∷ 0x80002001 ∷ 0x40000001 ∷ 0x40000002 ∷ 0x80002001 ∷ 0x40000001 ∷ 0x40000003
    ∷ 0xC0000309 ∷ 0x8000A001 ∷ 0x40000001 ∷ 0x00000000 ∷ [])

-- parent(X,mother(X)); ask parent(Y,Y)
abbrev pub own_mother : List ℕ
own_mother =
    whole 5 2
    (0xC0000409 ∷ 0x80002001 ∷ 0x00000000 ∷ 0x40001001 ∷ 0x00000000
    ∷ 0xC0000309 ∷ 0x8000A001 ∷ 0x00000000 ∷ 0x00000000 ∷ [])

-- showing(d,h,mat); ask showing(d,h,eve)
abbrev pub other_time : List ℕ
other_time =
    whole 5 2
    (0xC0000401 ∷ 0x80003001 ∷ 0x40000001 ∷ 0x40000002 ∷ 0x40000003
    ∷ 0xC0000401 ∷ 0x8000B001 ∷ 0x40000001 ∷ 0x40000002 ∷ 0x40000004 ∷ [])

-- p(f(X,g(Y))); ask p(f(g(Z),Z))
abbrev pub two_terms : List ℕ
two_terms =
    whole 6 2
    (0xC0000511 ∷ 0x80001001 ∷ 0x40002001 ∷ 0x00000000 ∷ 0x40001002 ∷ 0x00000001
    ∷ 0xC0000509 ∷ 0x80009001 ∷ 0x40002001 ∷ 0x40001002 ∷ 0x00000000 ∷ 0x00000000 ∷ [])

-- p(f(X,g(X),b)); ask p(f(a,g(Z),Z))
abbrev pub three_terms : List ℕ
three_terms =
    whole 7 2
    (0xC0000609 ∷ 0x80001001 ∷ 0x40003001 ∷ 0x00000000 ∷ 0x40001002 ∷ 0x00000000 ∷ 0x40000004
    ∷ 0xC0000609 ∷ 0x80009001 ∷ 0x40003001 ∷ 0x40000003 ∷ 0x40001002 ∷ 0x00000000 ∷ 0x00000000 ∷ [])

-- p or q; p or not q; ask p
abbrev pub by_reduction : List ℕ
by_reduction = whole 6 3 (0xC0000202 ∷ 0x80000001 ∷ 0x80000002 ∷ 0xC0000202 ∷ 0x80000001 ∷ 0x80008002 ∷ 0xC0000101 ∷ 0x80008001 ∷ [])

-- One case more, with what the others have one at a time: an answer of two variables, a predicate at two arities, a clause of three literals
-- and a question of two goals. p(X,f(Y)) or p(g(Y),X) or not p(Y); p(Z); q(W); ask p(U,V) and q(U), with p = 1, q = 2, f = 1, g = 2
abbrev pub all_at_once : List ℕ
all_at_once =
    whole 17 4
    (0xC0000A13 ∷ 0x80002001 ∷ 0x00000000 ∷ 0x40001001 ∷ 0x00000001 ∷ 0x80002001 ∷ 0x40001002 ∷ 0x00000001 ∷ 0x00000000 ∷ 0x80009001 ∷ 0x00000001
    ∷ 0xC0000209 ∷ 0x80001001 ∷ 0x00000000
    ∷ 0xC0000209 ∷ 0x80001002 ∷ 0x00000000
    ∷ 0xC0000512 ∷ 0x8000A001 ∷ 0x00000000 ∷ 0x00000001 ∷ 0x80009002 ∷ 0x00000000 ∷ [])

-- where no budget is named
abbrev pub ample : ℕ
ample = 4294967295

abbrev pub questions : List Question
questions =
    by_base mat_or_eve (search 2 3)
    ∷ by_base mat_or_eve (search 1 ample)
    ∷ by_base mat_or_eve (search 0 0)
    ∷ by_base mat_or_eve (search 2 2)
    ∷ by_base own_mother (search 1 ample)
    ∷ by_base other_time (search 1 ample)
    ∷ by_base two_terms (search 1 ample)
    ∷ by_base three_terms (search 1 ample)
    ∷ by_base by_reduction (search 2 ample)
    ∷ by_base by_reduction (search 1 ample)
    ∷ by_base mat_or_eve (checking 2 (0x40000000 ∷ 0x40000001 ∷ 0x00000001 ∷ []))
    ∷ by_base mat_or_eve (checking 2 (0x40000000 ∷ []))
    ∷ by_base mat_or_eve (checking 2 (0x80000000 ∷ []))
    ∷ by_base other_time (checking 1 (0x40000000 ∷ []))
    ∷ by_base own_mother (checking 1 (0x40000000 ∷ []))
    ∷ by_base three_terms (checking 1 (0x40000000 ∷ []))
    ∷ by_base all_at_once (search 5 ample)
    ∷ by_base all_at_once (search 4 ample)
    -- order 11: restarted within the bound; none with one extension; accepted; a positive leaf extended, a negative one restarted, restarted past the
    -- bound, and a word of kind 2 that is no restart
    ∷ one_way_lem mat_or_eve (search 2 ample)
    ∷ one_way_lem mat_or_eve (search 1 ample)
    ∷ one_way_lem mat_or_eve (checking 2 (0x40000000 ∷ 0x80000000 ∷ 0x00000001 ∷ []))
    ∷ one_way_lem mat_or_eve (checking 2 (0x40000000 ∷ 0x40000001 ∷ []))
    ∷ one_way_lem mat_or_eve (checking 2 (0x80000000 ∷ []))
    ∷ one_way_lem mat_or_eve (checking 1 (0x40000000 ∷ 0x80000000 ∷ []))
    ∷ one_way_lem mat_or_eve (checking 2 (0x80000001 ∷ []))
    ∷ []

-- "matinee, or evening", by a restart
abbrev pub restarted : ℕ → Returned
restarted tries =
    record {
      status = 0;
      place = 0;
      proof = 0x40000000 ∷ 0x80000000 ∷ 0x00000001 ∷ [];
      disjuncts = 2;
      answer = 0x80002001 ∷ 0x40000001 ∷ 0x40000002 ∷ 0x80002001 ∷ 0x40000001 ∷ 0x40000003 ∷ [];
      tries = tries;
    }

abbrev pub expected : List Returned
expected =
    record {
      status = 0;
      place = 0;
      proof = 0x40000000 ∷ 0x40000001 ∷ [];
      disjuncts = 2;
      answer = 0x80002001 ∷ 0x40000001 ∷ 0x40000002 ∷ 0x80002001 ∷ 0x40000001 ∷ 0x40000003 ∷ [];
      tries = 3;
    }
    ∷ without 10 4
    ∷ without 10 0
    ∷ without 11 2
    ∷ without 10 1
    ∷ without 10 1
    ∷ record {
      status = 0;
      place = 0;
      proof = 0x40000000 ∷ [];
      disjuncts = 1;
      answer = 0x80001001 ∷ 0x40002001 ∷ 0x40001002 ∷ 0x40001002 ∷ 0x00000000 ∷ 0x40001002 ∷ 0x00000000 ∷ [];
      tries = 1;
    }
    ∷ without 10 1
    ∷ record {
      status = 0;
      place = 0;
      proof = 0x40000000 ∷ 0x40000201 ∷ 0x00000002 ∷ [];
      disjuncts = 1;
      answer = 0x80000001 ∷ [];
      tries = 3;
    }
    ∷ without 10 2
    ∷ refused_at 13 2
    ∷ refused_at 15 1
    ∷ refused_at 12 0
    ∷ refused_at 14 0
    ∷ refused_at 20 0
    ∷ refused_at 14 0
    -- p(X,f(Y)) and q(X), or p(g(Y),X) and q(g(Y))
    ∷ record {
      status = 0;
      place = 0;
      proof = 0x40000000 ∷ 0x40000003 ∷ 0x40000002 ∷ 0x40000001 ∷ 0x40000002 ∷ [];
      disjuncts = 2;
      answer =
          0x80002001 ∷ 0x00000000 ∷ 0x40001001 ∷ 0x00000001 ∷ 0x80001002 ∷ 0x00000000
          ∷ 0x80002001 ∷ 0x40001002 ∷ 0x00000001 ∷ 0x00000000 ∷ 0x80001002 ∷ 0x40001002 ∷ 0x00000001 ∷ [];
      tries = 6;
    }
    ∷ without 10 10
    ∷ restarted 4
    ∷ without 10 4
    ∷ restarted 0
    ∷ refused_at 13 1
    ∷ refused_at 13 0
    ∷ refused_at 13 1
    ∷ refused_at 12 0
    ∷ []

unfoldable pub played : Unit {0}
unfolding opened product mixed fnv word_bytes bytes_of well_formed step_word encoded step_of size_fits trailer_fits fingerprint_fits clauses_fit judge_read judge_body judge under literal_under replace solution through follow occurs after unless_occurs bind unless_same same_symbol if_same meet_by each_by compare_within height variables height_of variables_of doubled enough unifies meet unify fresh copy_of atom fits hang start ancestor others closing reduced questions_with entered extended treated stepped reductions entries extensions candidates_at candidates positive disjunct per_copy same_term same_literal same_disjunct seen_by firsts_after_by firsts_by place_by disjuncts occurring occurring_all numbered joined answer_words Run.put Run.after Run.spend Run.enter Run.in_turn Run.visit Run.search begin bound_by newest performed perform at_end refusal onwards check_from check checked afterwards all_closed most_added most_more steps_left reported search_for answer_of disjuncts_of
played = tt

-- the starred cases
pub starred_cases : map returned questions ≡ expected
unfolding played
starred_cases = refl

-- what cases 2 and 1 mean: with one extension there is no closed tableau, with two the steps found are the first
pub none_with_one : (steps : List Step) → ¬ Closed (base (table_of (body_of mat_or_eve)) 1) steps
unfolding played
none_with_one = (none_exactly (base (table_of (body_of mat_or_eve)) 1) 4 (λ (e : finds_none 4 ≡ runs_out 4). clash (cc))).0 (4, refl)

pub first_with_two :
    (other : List Step) → Closed (base (table_of (body_of mat_or_eve)) 2) other
    → (other ≡ Extension 0 0 ∷ Extension 1 0 ∷ []) ⊎ Before (Extension 0 0 ∷ Extension 1 0 ∷ []) other
unfolding played
first_with_two = (found_is_first (base (table_of (body_of mat_or_eve)) 2) 3 (Extension 0 0 ∷ Extension 1 0 ∷ []) 3 refl).1
