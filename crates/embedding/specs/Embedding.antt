-- The embedding that a struct holds, as the rules see it, and what its parts and products ask.
use Rattle.std.specs.Prelude.{ℕ, Bool, ◌&&◌, List, eqb, Float, length}
use Rattle.rules.specs.Problem.{Embed, length_x, length_y}
use Rattle.shape.specs.Lent.{lent_embed}
use Rattle.embedding.specs.declared.Embedding.{Embedding}

abbrev pub embed_of : Embedding → Embed
embed_of k = lent_embed k.edition k.operators

-- whether a vector is like x, or like y: the sizes are within the limits, as the operators fit
abbrev pub is_like_x : Embedding → List Float → Bool
is_like_x k x = eqb (length x) (length_x k.operators.shape.rows.0 k.operators.shape.cols.0)

abbrev pub is_like_y : Embedding → List Float → Bool
is_like_y k y = eqb (length y) (length_y k.operators.shape.rows.0 k.operators.shape.cols.0)

-- whether a product's x and y are of these lengths
abbrev pub lengths_fit : ℕ → ℕ → List Float → List Float → Bool
lengths_fit wide high x y = eqb (length x) wide && eqb (length y) high
