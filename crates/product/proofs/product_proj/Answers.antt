-- `product::product_proj` meets its contract.
use mathlib.Core.Path.{◌≡◌, sym, ◌∙◌}
use Rattle.rules.proofs.Outcome.{product-refused}
use Rattle.rules.specs.Product.{product_fits}
use mathlib.Core.Bool.{true}
use borrow.Author.Tests.{not-true, not-false}
use Rattle.product.proofs.product_proj.Goals as goal

pub returns-then-not-product_fits : goal.returns-then-not-product_fits
returns-then-not-product_fits c = product-refused (sym c.product_fits.ensures ∙ not-true _ c.if-not-product_fits.true-raw)

pub proj_all-requires : goal.proj_all-requires
proj_all-requires c = sym c.product_fits.ensures ∙ not-false _ c.if-not-product_fits.false-raw

pub returns : goal.returns
returns c = let s : product_fits c.args.par c.args.words.now c.args.x.now c.args.work.now ≡ true = sym c.product_fits.ensures ∙ not-false _ c.if-not-product_fits.false-raw in
    rw s c.proj_all.ensures
