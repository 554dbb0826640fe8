-- What a tableau is made over: the table, the bound on extensions (K), and the profile, which says what may be done with a leaf.
use Rattle.std.specs.Prelude.{Bool, true, false, cond, not, ◌||◌, List, map, ℕ, ◌+◌, ◌*◌}
use Rattle.words.specs.Steps.{step_read}
use Rattle.words.specs.declared.Step.{Step}
use Rattle.table.specs.Syntax.{Table}

-- A profile looks at the sign of a leaf's literal alone (true: negative), so no substitution, table or bound changes what it says.
pub record Profile : Type 0 where
  -- may a leaf of this sign be extended
  pub extends : Bool → Bool
  -- may a leaf of this sign be restarted
  pub restarts : Bool → Bool

-- document 01's rules: every leaf may be extended, none restarted
abbrev pub every_leaf : Profile
every_leaf = record { extends = λ negative. true; restarts = λ negative. false }

-- order 11's rules, read one way: a negative leaf may be extended, so by a positive literal, and a positive leaf restarted
abbrev pub one_way : Profile
one_way = record { extends = λ negative. negative; restarts = λ negative. not negative }

-- which of the two is asked for
abbrev pub profile_of : Bool → Profile
profile_of false = every_leaf
profile_of true = one_way

-- some leaves are restarted
abbrev pub restarting : Profile → Bool
restarting rules = rules.restarts true || rules.restarts false

-- how a word is read as a step: 80000000 is a restart where leaves are restarted, and else malformed
abbrev pub read_step : Profile → ℕ → Step
read_step rules w = step_read (restarting rules) w

abbrev pub read_steps : Profile → List ℕ → List Step
read_steps rules words = map (read_step rules) words

-- the most leaves that a step opens below the one it treats, and the most steps that a proof has: 7 + 6 × 32 = 199, with restarts 7 + 7 × 32 = 231
abbrev pub most_opened : Profile → ℕ
most_opened rules = cond (restarting rules) 7 6

abbrev pub longest_proof : Profile → ℕ
longest_proof rules = 7 + most_opened rules * 32

pub record Setting : Type 0 where
  pub table : Table
  pub bound : ℕ
  pub profile : Profile

abbrev pub over : Profile → Table → ℕ → Setting
over p t bound = record { table = t; bound = bound; profile = p }

-- document 01's rules over this table within this bound
abbrev pub base : Table → ℕ → Setting
base t bound = over every_leaf t bound
