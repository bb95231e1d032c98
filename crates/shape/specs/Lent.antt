-- What a hub hands over, as the rules see it.
use Rattle.std.specs.Prelude.{ℕ, Bool, List, Float}
use Rattle.rules.specs.Problem as rules
use Rattle.rules.specs.Problem.{Slices, slices, Embed, embed_in, problem_in}
use Rattle.shape.specs.declared.Operators.{Operators}
use Rattle.shape.specs.declared.Problem.{Problem}
use Rattle.shape.specs.Fitting.{operators_fit, embed_fits, Fits}

-- A in its two slices
abbrev pub lent_slices : Operators → Slices
lent_slices k = slices k.a1.now k.a2.now

-- whether c, A and b fit, by test and part by part
abbrev pub lent_fit : Operators → Bool
lent_fit k = operators_fit k.shape k.c.now (lent_slices k) k.b.now

abbrev pub LentFits : Operators → Type 0
LentFits k = Fits k.shape k.c.now (lent_slices k) k.b.now

-- .. with a vector like x and one like y
abbrev pub lent_embed_fits : Operators → List Float → List Float → Bool
lent_embed_fits k x y = embed_fits k.shape k.c.now (lent_slices k) k.b.now x y

-- the embedding that they make, with the edition of its sums
abbrev pub lent_embed : ℕ → Operators → Embed
lent_embed edition k = embed_in edition k.shape k.c.now (lent_slices k) k.b.now

-- the problem
abbrev pub lent_problem : Problem → rules.Problem
lent_problem p =
    problem_in p.operators.shape p.operators.c.now (lent_slices p.operators) p.operators.b.now p.words.now p.par
