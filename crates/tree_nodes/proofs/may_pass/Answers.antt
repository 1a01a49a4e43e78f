-- `may_pass` meets its contract.
use Rattle.model.specs.Scale.{S}
use Rattle.tree_nodes.proofs.NodeLaws.{passes}
use Rattle.tree_nodes.proofs.may_pass.Goals as goal

pub returns : goal.returns
unfolding S
returns c = passes c.args.chance
