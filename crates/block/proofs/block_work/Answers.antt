-- `block::block_work` meets its contract.
use borrow.Author.Rules.{rules}
use Rattle.block.proofs.Sayable.{no_work}
use Rattle.block.proofs.block_work.Goals as goal

pub returns-in_default-2 : goal.returns-in_default-2
returns-in_default-2 c = no_work c.args.cone (λ n e. search rules)
