-- The nodes so far are noted: going on with the rest gives how the whole table names each node.
use Rattle.std.proofs.Common.{◌≡◌, ℕ, ◌<◌, length, get_or, drop}
use Rattle.procedure.specs.Naming.{after_nodes, naming}
use Rattle.procedure.specs.declared.naming.Naming.TheVariants.{Never}
use Rattle.procedure.proofs.naming.count_namings.Given as goal

abbrev pub invariant-loop-n : goal.invariant-loop-n
invariant-loop-n l =
    (length l.namings ≡ 1024)
    × ((k : ℕ) → k < 1024 → after_nodes k l.n (drop l.n l.nodes) (get_or l.namings k Never) ≡ naming l.nodes k)
