-- Laws of a routine's complete outcome.
use mathlib.Core.Path.{◌≡◌, sym, ◌∙◌, ap}
use mathlib.Core.Bool.{Bool, true, false, cond}
use Rattle.std.specs.Prelude.{Option, Some, None}
use mathlib.Core.List.{List}
use lib.Ieee.{Float}
use Rattle.rules.specs.declared.Projection.{Projection}
use Rattle.rules.specs.declared.Projection.TheVariants.{Done}
use Rattle.rules.specs.declared.Product.{Product}
use Rattle.rules.specs.Outcome.{Outcome}
use Rattle.rules.specs.Projections.{Projected, BlockOutcome, plain, answer_of}
use Rattle.rules.specs.Product.{Passed, ProductOutcome}

-- Any two outcomes that a contract allows coincide: the answer, and each place of the buffer.
pub outcomes_coincide : {fits : Bool} {ruled kept : List Float} {a b : Bool} {x y : List Float} → Outcome fits ruled kept a x → Outcome fits ruled kept b y → (a ≡ b) × (x ≡ y)
outcomes_coincide p q = (p.answered ∙ sym q.answered, p.left ∙ sym q.left)

-- The same where a contract is an equation: what equals one thing is one thing.
pub results_coincide {ℓ} : {A : Type ℓ} {ruled a b : A} → a ≡ ruled → b ≡ ruled → a ≡ b
results_coincide p q = p ∙ sym q

-- The same of a block, with its cone work, and of a list of blocks.
pub block_outcomes_coincide : {fits : Bool} {ruled : Projected} {block work : List Float} {a b : Option Projection} {x y v w : List Float}
    → BlockOutcome fits ruled block work a x v → BlockOutcome fits ruled block work b y w → (a ≡ b) × (x ≡ y) × (v ≡ w)
block_outcomes_coincide p q = (p.answered ∙ sym q.answered, p.block_left ∙ sym q.block_left, p.work_left ∙ sym q.work_left)

pub product_outcomes_coincide : {fits : Bool} {ruled : Passed} {cone work : List Float} {a b : Option Product} {x y v w : List Float}
    → ProductOutcome fits ruled cone work a x v → ProductOutcome fits ruled cone work b y w → (a ≡ b) × (x ≡ y) × (v ≡ w)
product_outcomes_coincide p q = (p.answered ∙ sym q.answered, p.cone_left ∙ sym q.cone_left, p.work_left ∙ sym q.work_left)

-- how a routine shows its outcome
pub refused : {fits : Bool} {ruled kept : List Float} → fits ≡ false → Outcome fits ruled kept false kept
refused {fits} {ruled} {kept} e = record { answered = sym e; left = sym (ap (λ (t : Bool). cond t ruled kept) e) }

pub done : {fits : Bool} {ruled kept buffer : List Float} → fits ≡ true → buffer ≡ ruled → Outcome fits ruled kept true buffer
done {fits} {ruled} {kept} e is = record { answered = sym e; left = is ∙ sym (ap (λ (t : Bool). cond t ruled kept) e) }

-- what a caller whose sizes fit learns
pub ruled_if_fits : {fits : Bool} {ruled kept : List Float} {a : Bool} {x : List Float} → Outcome fits ruled kept a x → fits ≡ true → x ≡ ruled
ruled_if_fits {fits} {ruled} {kept} p e = p.left ∙ ap (λ (t : Bool). cond t ruled kept) e

pub block_refused : {fits : Bool} {ruled : Projected} {block work : List Float} → fits ≡ false → BlockOutcome fits ruled block work None block work
block_refused e = record { answered = rw e; block_left = rw e; work_left = rw e }

-- a block that takes no rotations leaves cone work alone
pub block_done : {fits : Bool} {ruled : Projected} {block work left : List Float} → fits ≡ true → ruled ≡ plain left work → BlockOutcome fits ruled block work (Some (Done 0)) left work
block_done e is = record { answered = rw (e, is); block_left = rw (e, is); work_left = rw (e, is) }

-- what a caller whose sizes fit learns of a block
pub block_answered : {fits : Bool} {ruled : Projected} {block work : List Float} {a : Option Projection} {x v : List Float} → BlockOutcome fits ruled block work a x v → fits ≡ true → a ≡ Some (answer_of ruled)
block_answered p e = rw e at p.answered

pub block_ruled : {fits : Bool} {ruled : Projected} {block work : List Float} {a : Option Projection} {x v : List Float} → BlockOutcome fits ruled block work a x v → fits ≡ true → (x ≡ ruled.block) × (v ≡ ruled.work)
block_ruled p e = (rw e at p.block_left, rw e at p.work_left)

pub product-refused : {fits : Bool} {ruled : Passed} {cone work : List Float} → fits ≡ false → ProductOutcome fits ruled cone work None cone work
product-refused e = record { answered = rw e; cone_left = rw e; work_left = rw e }
