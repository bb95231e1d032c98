-- Document 01, "Worked by hand": the cases marked P, as rows of one table, with the cone word that 01 names and requests (ii), (iv), (vii), (viii), (ix), (x) and (xi) of document 02. `proofs/WorkedByHand.antt` proves the one claim that every row holds.
use Rattle.std.specs.Prelude.{ℕ, zero, suc, ◌+◌, ◌≡◌, List, [], ◌∷◌, pos, negsuc, true, false, length, replicate, take, Float}
use Rattle.std.specs.Float.{nan, inf, fin, binary64}
use Rattle.std.specs.Float.Ieee.{of_bits, of_int, neg}
use Rattle.rules.specs.declared.MatType.{MatType}
use Rattle.rules.specs.declared.MatType.TheVariants.{General, SymPack}
use Rattle.rules.specs.declared.Storage.TheVariants.{Dense}
use Rattle.rules.specs.declared.SolverParam.{SolverParam}
use Rattle.rules.specs.declared.Cone.TheVariants.{SOC}
use Rattle.rules.specs.declared.Answer.{Answer}
use Rattle.rules.specs.declared.Criteria.TheVariants.{Conv, Inf}
use Rattle.rules.specs.declared.Logged.{Logged}
use Rattle.rules.specs.declared.Ending.{Ending}
use Rattle.rules.specs.declared.Ending.TheVariants.{Converged, ExcessIterUnscaled, BadParam, TooLarge, BadCone, WorkShortage}
use Rattle.rules.specs.Arithmetic.{+0, at}
use Rattle.rules.specs.Editions.{sum_by}
use Rattle.rules.specs.Helpers.{larger, smaller}
use Rattle.rules.specs.Vectors.{norm, norm_by, abssum}
use Rattle.rules.specs.Matrices.{opped, trans_opped, trans_opped_by, absadded_rows, absadded_cols}
use Rattle.rules.specs.Projections.{proj_soc}
use Rattle.rules.specs.Blocks.{Block, read_word}
use Rattle.rules.specs.Groups.{plain_words}
use Rattle.rules.specs.Parameters.{one_over, param_of, with_eps_zero, with_edition, defaults}
use Rattle.rules.specs.Outcome.{turned_away, on_paper}
use Rattle.rules.specs.Problem.{Problem}
use Rattle.rules.specs.Prepare.{fr_norm_by, prepared}
use Rattle.rules.specs.Product.{block}
use Rattle.rules.specs.Refusals.{too_large, solved, left_turned_away}
use Rattle.rules.specs.Run.{WholeStep}
use Rattle.rules.specs.Progress.{is_due, row_of, untouched, log_row, log_step, with_log, logged_solved}
use Rattle.rules.specs.Demands.{with_period, due_up_to}
use Rattle.rules.specs.Root.{root}

-- A row says what a term of the rules comes to.
pub data Row : Type 1 where
  ◌comes-to◌ : {A : Type 0} → A → A → Row

infix 75 ◌comes-to◌
abbrev pub Holds : Row → Type 0
Holds (a comes-to b) = a ≡ b

abbrev pub AllHold : List Row → Type 0
AllHold [] = Unit
AllHold (r ∷ rows) = Holds r × AllHold rows

abbrev f64 : ℕ → Float
f64 bits = of_bits binary64 bits

abbrev −0 : Float
−0 = f64 0x8000_0000_0000_0000

-- the whole number n
abbrev whole : ℕ → Float
whole n = of_int binary64 (pos n)

abbrev minus : ℕ → Float
minus n = neg (whole n)

-- 1, 2, 3, 4: two rows and two columns, by columns
abbrev dense : List Float
dense = whole 1 ∷ whole 2 ∷ whole 3 ∷ whole 4 ∷ []

abbrev two_by_two : MatType
two_by_two = General (record { 0 = 2 }) (record { 0 = 2 })

-- −1, 2, −3: the upper triangle of a matrix of order 2
abbrev packed : List Float
packed = minus 1 ∷ whole 2 ∷ minus 3 ∷ []

abbrev symmetric : MatType
symmetric = SymPack (record { 0 = 2 })

abbrev pair : Float → Float → List Float
pair a b = a ∷ b ∷ []

abbrev triple : Float → Float → Float → List Float
triple a b c = a ∷ b ∷ c ∷ []

-- n = m = 0
abbrev listed : List ℕ → SolverParam → Problem
listed words par = record { m = 0; n = 0; storage = Dense; c = []; a = []; b = []; words = words; par = par }

abbrev empty : SolverParam → Problem
empty par = listed [] par

abbrev by_default : Problem
by_default = empty (defaults 1_000_000 64)

-- "the same, eps_zero 0, max_iter 1"
abbrev eps_zero0 : SolverParam → SolverParam
eps_zero0 par = with_eps_zero par +0

-- n = m = 0 by default, but for eps_acc and eps_inf
abbrev with_tolerances : Float → Float → Problem
with_tolerances eps_acc eps_inf = empty (param_of 1_000_000 eps_acc eps_inf (one_over 1_000_000_000_000) 64)

-- −2^−1074
abbrev next_below0 : Float
next_below0 = f64 0x8000_0000_0000_0001

-- so many columns, rows and cone words, and nothing lent for c, A and b: 2 is asked before 3
abbrev sized : ℕ → ℕ → ℕ → Problem
sized n m words = record { m = m; n = n; storage = Dense; c = []; a = []; b = []; words = replicate words 0; par = defaults 1_000_000 64 }

-- a group of so many following words, and n = m = 0 with such a list
abbrev group_of : ℕ → ℕ
group_of following = 0xe000 + following

abbrev grouped : List ℕ → Problem
grouped words = listed words (defaults 1_000_000 64)

-- so many groups, each in the one before it, the last with no word
abbrev nested : ℕ → List ℕ
nested zero = []
nested (suc k) = group_of k ∷ nested k

-- 10^200, rounded once, the largest number, and n times 2^e, for an odd n
abbrev 10^200 : Float
10^200 = f64 0x6974_e718_d7d7_625a

abbrev largest : Float
largest = f64 0x7fef_ffff_ffff_ffff

infix 80 ◌times-2^◌
abbrev ◌times-2^◌ : ℕ → ℕ → Float
n times-2^ e = fin false n (pos e)

-- minimise 0 where x ≤ −10^200, by default
abbrev unmet : Problem
unmet =
    record { m = 1; n = 1; storage = Dense; c = +0 ∷ []; a = whole 1 ∷ []; b = neg 10^200 ∷ []; words = 0x2001 ∷ []; par = defaults 1_000_000 64 }

-- places that held 5 before
abbrev held : ℕ → List Float
held k = replicate k (whole 5)

abbrev answered : Ending → ℕ → ℕ → Answer
answered e k q = record { ending = e; steps = k; rotations = q }

-- the same with the rows of a progress record
abbrev logged_answer : Answer → ℕ → ℕ → Logged
logged_answer answer written dropped = record { answer = answer; written = written; dropped = dropped }

-- 1, 2, 3, 4 as a row of a record, and a step at which a cone failed
abbrev one_to_four : List Float
one_to_four = row_of (whole 1) (Conv (whole 2) (whole 3) (whole 4))

abbrev failing : WholeStep
failing = record { state = prepared by_default; rotations = 0; failure = block 0; criteria = Conv +0 +0 +0 }

-- the sum of a list by an edition; matrices of one column, with one row and with three; and n = m = 0 by default, but for the edition
abbrev summed : ℕ → List Float → Float
summed edition xs = sum_by edition (length xs) (at xs)

abbrev one_by_one : MatType
one_by_one = General (record { 0 = 1 }) (record { 0 = 1 })

abbrev three_by_one : MatType
three_by_one = General (record { 0 = 3 }) (record { 0 = 1 })

abbrev of_edition : ℕ → Problem
of_edition edition = empty (with_edition (defaults 1_000_000 64) edition)

-- 2^512 − 2^459 and seven times 3 * 2^483, whose squares' sum is infinite in edition two alone
abbrev near_largest : List Float
near_largest = 9_007_199_254_740_991 times-2^ 459 ∷ replicate 7 (3 times-2^ 483)

abbrev pub table : List Row
table =
    (root binary64 (whole 4) comes-to whole 2)
    ∷ (root binary64 −0 comes-to −0)
    ∷ (root binary64 (fin false 1 (negsuc 1073)) comes-to fin false 1 (negsuc 536))
    ∷ (root binary64 (whole 2) comes-to f64 0x3ff6_a09e_667f_3bcd)
    ∷ (larger nan +0 comes-to +0)
    -- as request (iv) of document 02 mends it
    ∷ (smaller −0 +0 comes-to −0)
    ∷ (opped two_by_two (whole 1) dense (pair (whole 1) (whole 1)) +0 (pair +0 +0) comes-to pair (whole 4) (whole 6))
    ∷ (trans_opped two_by_two (whole 1) dense (pair (whole 1) (whole 1)) +0 (pair +0 +0) comes-to pair (whole 3) (whole 7))
    ∷ (absadded_cols symmetric packed (pair +0 +0) comes-to pair (whole 3) (whole 5))
    ∷ (absadded_rows symmetric packed (pair +0 +0) comes-to pair (whole 3) (whole 5))
    ∷ (proj_soc 1 (triple +0 (whole 3) (whole 4)) comes-to triple (f64 0x4004_0000_0000_0000) (f64 0x3ff8_0000_0000_0000) (whole 2))
    ∷ (proj_soc 1 (triple (whole 5) (whole 3) (whole 4)) comes-to triple (whole 5) (whole 3) (whole 4))
    ∷ (proj_soc 1 (triple (minus 5) (minus 3) (whole 4)) comes-to triple +0 −0 +0)
    ∷ ((solved by_default (held 6) []).answer comes-to answered (Converged +0 +0 +0) 1 0)
    ∷ ((solved (empty (eps_zero0 (defaults 1 64))) (held 6) []).answer comes-to answered (ExcessIterUnscaled (inf false) (inf false)) 1 0)
    ∷ (solved by_default (held 5) [] comes-to left_turned_away WorkShortage (held 5) [])
    ∷ (on_paper (solved by_default (held 5) []).answer.ending comes-to turned_away 6)
    -- no case of the table, but a sentence of "What the hub hands over"
    ∷ (read_word 0x4003 comes-to Block (SOC 3))
    -- no cases of the table, but request (ii) of document 02
    ∷ (solved (with_tolerances (minus 1) (one_over 1_000_000)) (held 5) [] comes-to left_turned_away BadParam (held 5) [])
    ∷ (solved (with_tolerances (one_over 1_000_000) next_below0) (held 6) [] comes-to left_turned_away BadParam (held 6) [])
    ∷ ((solved (with_tolerances −0 −0) (held 6) []).answer comes-to answered (Converged +0 +0 +0) 1 0)
    -- nor these, but request (iv)
    ∷ (smaller +0 −0 comes-to −0)
    ∷ (larger −0 +0 comes-to +0)
    ∷ (larger +0 −0 comes-to +0)
    ∷ (larger nan nan comes-to nan)
    -- for the case "sizes 256 / 257", request (vii)'s
    ∷ (too_large (sized 1024 1024 128) comes-to false)
    ∷ (solved (sized 1025 0 0) (held 6) [] comes-to left_turned_away TooLarge (held 6) [])
    ∷ (solved (sized 0 1025 0) (held 6) [] comes-to left_turned_away TooLarge (held 6) [])
    ∷ (solved (sized 0 0 129) (held 6) [] comes-to left_turned_away TooLarge (held 6) [])
    -- no cases of the table either, but request (viii): a group with another in it, and a block after both; eight deep, and nine; a group that ends with its enclosing list, and one
    -- that runs past it though a word of the outer list remains; group words counted
    ∷ (plain_words (group_of 3 ∷ 0x2001 ∷ group_of 1 ∷ 0x0002 ∷ 0x4003 ∷ []) comes-to (0x2001 ∷ 0x0002 ∷ 0x4003 ∷ []))
    ∷ ((solved (grouped (nested 8)) (held 6) []).answer comes-to answered (Converged +0 +0 +0) 1 0)
    ∷ (solved (grouped (nested 9)) (held 6) [] comes-to left_turned_away BadCone (held 6) [])
    ∷ ((solved (grouped (group_of 2 ∷ group_of 1 ∷ 0 ∷ [])) (held 6) []).answer comes-to answered (Converged +0 +0 +0) 1 0)
    ∷ (solved (grouped (group_of 1 ∷ group_of 1 ∷ 0 ∷ [])) (held 6) [] comes-to left_turned_away BadCone (held 6) [])
    ∷ ((solved (grouped (replicate 128 (group_of 0))) (held 6) []).answer comes-to answered (Converged +0 +0 +0) 1 0)
    ∷ (solved (grouped (replicate 129 (group_of 0))) (held 6) [] comes-to left_turned_away TooLarge (held 6) [])
    -- nor these, but request (ix): norms of very large numbers, the last two of numbers that are not all finite; a block that has such a norm; the Frobenius norm; and what
    -- a run can come to by it, with x = 0 (docs/FINDINGS.md, 8)
    ∷ (norm (10^200 ∷ []) comes-to 10^200)
    ∷ (norm (pair (3 times-2^ 600) (neg (1 times-2^ 602))) comes-to 5 times-2^ 600)
    ∷ (norm (replicate 4 (1 times-2^ 511)) comes-to 1 times-2^ 512)
    ∷ (norm (largest ∷ []) comes-to largest)
    ∷ (norm (pair largest largest) comes-to inf false)
    ∷ (norm (pair 10^200 (inf true)) comes-to inf false)
    ∷ (norm (pair 10^200 nan) comes-to nan)
    ∷ (proj_soc 1 (triple +0 (3 times-2^ 601) (1 times-2^ 603)) comes-to triple (5 times-2^ 600) (3 times-2^ 600) (1 times-2^ 602))
    ∷ (fr_norm_by 1 (10^200 ∷ []) comes-to inf false)
    ∷ ((solved unmet (held 22) []).answer comes-to answered (Converged +0 +0 +0) 1 0)
    ∷ (take 1 (solved unmet (held 22) []).work comes-to (+0 ∷ []))
    -- nor these, but request (x): steps 1, 4 and 7 are due with a period of 3, none with 0, and the first with the largest; what a row is; a second one that does not fit whole, and one
    -- that does; a step at which a cone fails; and the empty problem's runs: with every step recorded in six places and in three, without one, with tau not above eps_zero, turned away, and of seven steps with a period of 3 in nine places
    ∷ (due_up_to 3 6 comes-to 2)
    ∷ (due_up_to 3 7 comes-to 3)
    ∷ (is_due 3 3 comes-to false)
    ∷ (due_up_to 0 9 comes-to 0)
    ∷ (due_up_to 4_294_967_295 9 comes-to 1)
    ∷ (row_of (whole 1) (Inf (whole 2) (whole 3)) comes-to (whole 1 ∷ whole 2 ∷ whole 3 ∷ +0 ∷ []))
    ∷ (log_row (held 4) (log_row one_to_four (untouched (held 7))) comes-to record { places = whole 1 ∷ whole 2 ∷ whole 3 ∷ whole 4 ∷ held 3; written = 1; dropped = 1 })
    ∷ (log_row one_to_four (log_row (held 4) (untouched (held 9))) comes-to record { places = whole 5 ∷ whole 5 ∷ whole 5 ∷ whole 5 ∷ whole 1 ∷ whole 2 ∷ whole 3 ∷ whole 4 ∷ held 1; written = 2; dropped = 0 })
    ∷ (log_step (with_period 1 by_default) 1 failing (untouched (held 4)) comes-to untouched (held 4))
    ∷ ((logged_solved (with_period 1 by_default) (held 6) [] (held 6)).answer comes-to logged_answer (answered (Converged +0 +0 +0) 1 0) 1 0)
    ∷ ((logged_solved (with_period 1 by_default) (held 6) [] (held 6)).log comes-to (whole 1 ∷ +0 ∷ +0 ∷ +0 ∷ held 2))
    ∷ ((logged_solved (with_period 1 by_default) (held 6) [] (held 3)).answer comes-to logged_answer (answered (Converged +0 +0 +0) 1 0) 0 1)
    ∷ ((logged_solved (with_period 1 by_default) (held 6) [] (held 3)).log comes-to held 3)
    ∷ ((logged_solved by_default (held 6) [] (held 4)).answer comes-to logged_answer (answered (Converged +0 +0 +0) 1 0) 0 0)
    ∷ ((logged_solved (with_period 1 (empty (eps_zero0 (defaults 1 64)))) (held 6) [] (held 4)).log comes-to (+0 ∷ inf false ∷ inf false ∷ +0 ∷ []))
    ∷ (logged_solved (with_period 1 by_default) (held 5) [] (held 4) comes-to with_log (left_turned_away WorkShortage (held 5) []) (untouched (held 4)))
    ∷ ((logged_solved (with_period 3 (empty (eps_zero0 (defaults 7 64)))) (held 6) [] (held 9)).answer comes-to logged_answer (answered (ExcessIterUnscaled (inf false) (inf false)) 7 0) 2 1)
    ∷ ((logged_solved (with_period 3 (empty (eps_zero0 (defaults 7 64)))) (held 6) [] (held 9)).log comes-to (+0 ∷ inf false ∷ inf false ∷ +0 ∷ +0 ∷ inf false ∷ inf false ∷ +0 ∷ held 1))
    -- nor these, but request (xi): sums of none, of −0, of three numbers and of five, and what edition one has of two of these; a product of these three, and their absolute sum, which has no halves; a product of −0; norms, the last two of numbers
    -- whose plain sum is infinite in edition two alone; the editions that are none; and the empty problem in edition two
    ∷ (summed 2 [] comes-to +0)
    ∷ (summed 2 (−0 ∷ []) comes-to −0)
    ∷ (summed 1 (−0 ∷ []) comes-to +0)
    ∷ (summed 2 (triple (1 times-2^ 53) (whole 1) (whole 1)) comes-to 4_503_599_627_370_497 times-2^ 1)
    ∷ (summed 1 (triple (1 times-2^ 53) (whole 1) (whole 1)) comes-to 1 times-2^ 53)
    ∷ (summed 2 (whole 1 ∷ whole 1 ∷ 1 times-2^ 53 ∷ whole 1 ∷ whole 1 ∷ []) comes-to 2_251_799_813_685_249 times-2^ 2)
    ∷ (trans_opped_by 2 three_by_one (whole 1) (triple (1 times-2^ 53) (whole 1) (whole 1)) (replicate 3 (whole 1)) +0 (+0 ∷ []) comes-to (4_503_599_627_370_497 times-2^ 1 ∷ []))
    ∷ (abssum (triple (1 times-2^ 53) (whole 1) (whole 1)) 1 comes-to 1 times-2^ 53)
    ∷ (trans_opped_by 2 one_by_one (whole 1) (−0 ∷ []) (whole 1 ∷ []) +0 (−0 ∷ []) comes-to (−0 ∷ []))
    ∷ (trans_opped_by 1 one_by_one (whole 1) (−0 ∷ []) (whole 1 ∷ []) +0 (−0 ∷ []) comes-to (+0 ∷ []))
    ∷ (proj_soc 2 (triple +0 (3 times-2^ 601) (1 times-2^ 603)) comes-to triple (5 times-2^ 600) (3 times-2^ 600) (1 times-2^ 602))
    ∷ (norm_by 2 near_largest comes-to 1 times-2^ 512)
    ∷ (norm_by 1 near_largest comes-to 9_007_199_254_740_991 times-2^ 459)
    ∷ (solved (of_edition 0) (held 5) [] comes-to left_turned_away BadParam (held 5) [])
    ∷ (solved (of_edition 3) (held 6) [] comes-to left_turned_away BadParam (held 6) [])
    ∷ ((solved (of_edition 2) (held 6) []).answer comes-to answered (Converged +0 +0 +0) 1 0)
    ∷ []
