-- Document 02, (i): "The empty default problem's whole output is the line `Converged 1 0`."
use Rattle.std.specs.Prelude.{ℕ, List, [], ◌∷◌}

-- no rows, no columns, no cone words, max_iter 1,000, sweep limit 64, and the default tolerances
unfoldable pub empty_card : List ℕ
empty_card = 16 ∷ 0 ∷ 0 ∷ 0 ∷ 125 ∷ 16 ∷ 15 ∷ 172 ∷ 49 ∷ 189 ∷ 232 ∷ 45 ∷ 123 ∷ 99 ∷ 79 ∷ 172 ∷ 49 ∷ 189 ∷ 232 ∷ 45 ∷ 123 ∷ 99 ∷ 79 ∷ 92 ∷ 101 ∷ 230 ∷ 96 ∷ 75 ∷ 122 ∷ 132 ∷ 64 ∷ []

-- "Converged 1 0" and the line's end
unfoldable pub the_line : List ℕ
the_line = 67 ∷ 111 ∷ 110 ∷ 118 ∷ 101 ∷ 114 ∷ 103 ∷ 101 ∷ 100 ∷ 32 ∷ 49 ∷ 32 ∷ 48 ∷ 10 ∷ []
