-- `card_answer::solve_head` meets its contract: the head and the lists make the problem that is solved.
use Rattle.card_problem.specs.Problem.{problem_from}
use Rattle.card_answer.proofs.Outcome.{logged_problem, run_outcome}
use Rattle.card_answer.proofs.solve_head.Goals as goal

pub returns : goal.returns
returns c =
    run_outcome (problem_from c.args.head c.args.words.now c.args.numbers.now) _ c.args.period c.args.work.now c.args.log.now
    (logged_problem c.args.head c.stored-stored.result c.args.words.now c.args.numbers.now c.args.period _ _ _ _ _ c.requires.rows_bound c.requires.cols_bound c.stored-stored.ensures.bound c.stored-stored.ensures.value c.numbers_from-c.ensures c.numbers_from-a.ensures c.numbers_from-b.ensures c.parameters-par.ensures c.with_log_period.ensures)
    c.solve_logged.ensures
