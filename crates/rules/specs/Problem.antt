-- Document 01, "What the hub hands over".
use Rattle.std.specs.Prelude.{ℕ, ◌+◌, ◌*◌, cond, List, ◌++◌, Float}
use Rattle.std.specs.Float.Ieee.{eq}
use Rattle.rules.specs.declared.MatType.{MatType}
use Rattle.rules.specs.declared.MatType.TheVariants.{General, SymPack}
use Rattle.rules.specs.declared.Storage.{Storage}
use Rattle.rules.specs.declared.Storage.TheVariants.{Dense, Packed}
use Rattle.rules.specs.declared.Cone.{Cone}
use Rattle.rules.specs.declared.Shape.{Shape}
use Rattle.rules.specs.declared.SolverParam.{SolverParam}
use Rattle.rules.specs.Arithmetic.{+0}
use Rattle.rules.specs.Parameters.{with_eps_zero}
use Rattle.rules.specs.Blocks.{blocks_of}

-- "A problem is c (n numbers), A (m by n, ..), b (m numbers), a cone list and parameters"
pub record Problem : Type 0 where
  pub m : ℕ
  pub n : ℕ
  pub storage : Storage
  pub c : List Float
  pub a : List Float
  pub b : List Float
  pub words : List ℕ
  pub par : SolverParam

-- the problem of these parts
abbrev pub problem_of : ℕ → ℕ → Storage → List Float → List Float → List Float → List ℕ → SolverParam → Problem
problem_of m n storage c a b words par =
    record { m = m; n = n; storage = storage; c = c; a = a; b = b; words = words; par = par }

-- the same problem with these cone words
abbrev pub with_words : List ℕ → Problem → Problem
with_words words p = problem_of p.m p.n p.storage p.c p.a p.b words p.par

-- A as it is lent: in two slices, of which one may be empty
pub record Slices : Type 0 where
  pub first : List Float
  pub rest : List Float

abbrev pub slices : List Float → List Float → Slices
slices first rest = record { first = first; rest = rest }

-- the matrix that they hold, joined
abbrev pub joined : Slices → List Float
joined a = a.first ++ a.rest

-- the problem of these parts, its sizes and storage in one, and its matrix in two slices
abbrev pub problem_in : Shape → List Float → Slices → List Float → List ℕ → SolverParam → Problem
problem_in shape c a b words par =
    problem_of shape.rows.0 shape.cols.0 shape.storage c (joined a) b words par

abbrev pub matrix_of : Storage → ℕ → ℕ → MatType
matrix_of Dense m n = General (record { 0 = m }) (record { 0 = n })
matrix_of Packed m n = SymPack (record { 0 = m })

abbrev pub matrix_in : Shape → MatType
matrix_in shape = matrix_of shape.storage shape.rows.0 shape.cols.0

-- "c and b act as dense matrices of one column"
abbrev pub column : ℕ → MatType
column rows = General (record { 0 = rows }) (record { 0 = 1 })

abbrev pub matrix : Problem → MatType
matrix p = matrix_of p.storage p.m p.n

-- SelfDualEmbed of the Rust: the three operators, with their sizes, and the edition of their sums
pub record Embed : Type 0 where
  pub m : ℕ
  pub n : ℕ
  pub t : MatType
  pub c : List Float
  pub a : List Float
  pub b : List Float
  pub edition : ℕ

abbrev pub embed : Problem → Embed
embed p = record { m = p.m; n = p.n; t = matrix p; c = p.c; a = p.a; b = p.b; edition = p.par.«edition» }

abbrev pub embed_in : ℕ → Shape → List Float → Slices → List Float → Embed
embed_in edition shape c a b =
    record {
      m = shape.rows.0;
      n = shape.cols.0;
      t = matrix_in shape;
      c = c;
      a = joined a;
      b = b;
      edition = edition;
    }

abbrev pub blocks : Problem → List Cone
blocks p = blocks_of p.words

-- "An eps_zero of −0 is read as +0."
unfoldable pub eps_zero : SolverParam → Float
unfolding eq
eps_zero par = cond (eq par.eps_zero +0) +0 par.eps_zero

unfoldable pub as_read : SolverParam → SolverParam
unfolding eps_zero
as_read par = with_eps_zero par (eps_zero par)

-- the lengths of x (n, dual m, primal m, tau) and of y (n, m, 1)
abbrev pub length_x : ℕ → ℕ → ℕ
length_x m n = n + m + m + 1

abbrev pub length_y : ℕ → ℕ → ℕ
length_y m n = n + m + 1

-- "Work: at least 6n + 10m + 6 places."
abbrev pub work_length : ℕ → ℕ → ℕ
work_length m n = 6 * n + 10 * m + 6
