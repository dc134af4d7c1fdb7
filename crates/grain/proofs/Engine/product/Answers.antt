-- `grain::Engine::product` meets its contract.
use mathlib.Core.Path.{◌∙◌}
use mathlib.Core.Bool.{◌&&◌, true}
use borrow.Author.Rules.{rules}
use Rattle.std.proofs.lemmas.Iterator.Consumers.{fold_from_yields_List}
use Rattle.std.proofs.lemmas.Iterator.{YieldsList-from_slice}
use Rattle.grain.specs.Generator.{bit_at}
use Rattle.grain.specs.Stored.{state_of, place_of}
use Rattle.grain.proofs.Table.{product_fold}
use Rattle.grain.proofs.Engine.product.Goals as goal

pub returns : goal.returns
returns c =
    let st = state_of c.args.self in
    let ts = c.args.taps.now in
    fold_from_yields_List _ (λ p t. p && bit_at st (place_of t)) true _ c.fold.ensures.ran (YieldsList-from_slice ts cc) (λ a x b q k. search rules)
    ∙ product_fold ts st true
