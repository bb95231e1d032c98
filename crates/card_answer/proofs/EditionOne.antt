-- Document 02, request (xi): "Cards run edition one, without a progress record."
use mathlib.Core.Path.{◌≡◌, refl}
use Rattle.card.specs.Card.{Card}
use Rattle.card_problem.specs.Problem.{problem_from, problem_of_card}

pub cards_run_edition_one : (k : Card) → (problem_of_card k).par.«edition» ≡ 1
unfolding problem_from
cards_run_edition_one k = refl

pub cards_keep_no_record : (k : Card) → (problem_of_card k).par.log_period ≡ 0
unfolding problem_from
cards_keep_no_record k = refl
