-- No node is noted yet.
use Rattle.std.proofs.Common.{refl, ap}
use Rattle.std.proofs.lemmas.List.{get_or-replicate}
use Rattle.procedure.specs.Naming.{after_nodes}
use Rattle.procedure.specs.declared.naming.Naming.TheVariants.{Never}
use Rattle.procedure.proofs.naming.count_namings.Goals as goal

pub loop-n-init : goal.loop-n-init
loop-n-init c = (refl, λ k h. ap (after_nodes k 0 c.args.nodes.now) (get_or-replicate 1024 k Never Never h))
