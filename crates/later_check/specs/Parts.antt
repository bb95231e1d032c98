-- What the parts of the check of a later piece answer.
use Rattle.std.specs.Prelude.{ℕ, Bool, true, false, List, [], Err}
use Rattle.rules.specs.declared.SolverParam.{SolverParam}
use Rattle.rules.specs.declared.Storage.TheVariants.{Dense}
use Rattle.rules.specs.Blocks.{Word, Block, Bad}
use Rattle.rules.specs.Problem.{Problem, problem_of}
use Rattle.rules.specs.Refusals.{Refusal, Accepted, Refused as TurnedAway}
use Rattle.rules.specs.Demands.{pairs_twice}
use Rattle.piece_rules.specs.declared.LaterRefusal.TheVariants.{Refused, StaleRun}
use Rattle.piece_rules.specs.Pieces.{Later, Taken}

-- a problem with these cone words and parameters: whether a record is stale is told by no other part of it
abbrev pub listed : List ℕ → SolverParam → Problem
listed words par = problem_of 0 0 Dense [] [] [] words par

-- what the six tests say, and what is answered last where they turn nothing away
abbrev pub after_tests : Refusal → Later → Later
after_tests (TurnedAway e) last = Err (Refused e)
after_tests Accepted last = last

abbrev pub by_record : Bool → Later
by_record true = Err StaleRun
by_record false = Taken

-- d(d−1) of a word that says a semidefinite block of order d
abbrev pub pairs_said : Word → ℕ
pairs_said (Block b) = pairs_twice b
pairs_said Bad = 0
