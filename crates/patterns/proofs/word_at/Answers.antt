-- `patterns::word_at` meets its contract: what the eight bytes are worth is what they spell.
use Rattle.std.proofs.Common.{rules, ◌≡◌, ◌+◌, ◌<◌, get_or, ℕ, List, arith, w64, ◌∙◌}
use Rattle.std.specs.Int.{from_be_bytes}
use Rattle.patterns.specs.Words.{spelled, word_at}
use Rattle.patterns.proofs.word_at.Goals as goal

worth : (bytes ys : List ℕ) (at : ℕ) → ((k : ℕ) → k < 8 → get_or ys k 0 ≡ get_or bytes (at + k) 0) → from_be_bytes w64 ys ≡ word_at bytes at
unfolding word_at spelled
worth bytes ys at each = omega (arith, each 0 (omega arith), each 1 (omega arith), each 2 (omega arith), each 3 (omega arith), each 4 (omega arith), each 5 (omega arith), each 6 (omega arith), each 7 (omega arith))

pub returns : goal.returns
returns c = c.from_be_bytes.ensures ∙ worth c.args.bytes.now c.from_fn.result c.args.at (λ k small. let call = c.from_fn.ensures.items.at k 0 small in search rules)
