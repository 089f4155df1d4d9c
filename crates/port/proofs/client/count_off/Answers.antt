-- A get that answers a number, and one that finds none.
use Rattle.std.proofs.Common.{arith}
use Rattle.port.proofs.Gets.{read_more, read_all}
use Rattle.port.proofs.client.count_off.Goals as goal

pub loop-count-preserved : goal.loop-count-preserved
loop-count-preserved g c = read_more c.loop-count.invariant c.get.ensures.answers c.get.ensures.leaves _ c.in-Some.is

pub returns-in_default : goal.returns-in_default
returns-in_default g c =
    let e = read_all c.loop-count.invariant c.get.ensures.answers c.get.ensures.leaves c.in_default.is c.args.limit (omega arith) in
    record { answers = e.0; leaves = e.1 }
