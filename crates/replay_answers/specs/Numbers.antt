-- The number of an answer in the lists: document 01's of a refusal, and after the six of them the row of an ending.
use Rattle.std.specs.Prelude.{ℕ, ◌+◌}
use Rattle.rules.specs.declared.Ending.{Ending}
use Rattle.rules.specs.Outcome.{OnPaper, turned_away, ends, on_paper}

abbrev pub listed : OnPaper → ℕ
listed (turned_away i) = i
listed (ends row criteria failure solution) = 6 + row

abbrev pub number_in_lists : Ending → ℕ
number_in_lists e = listed (on_paper e)
