-- One row more, and none where no value is left.
use Rattle.std.proofs.Common.{◌<◌, length, ap, arith, rules}
use Rattle.std.specs.Iterator.Adapters.{zip_first, zip_second}
use Rattle.std.specs.Slice.Iter.{iter_rest}
use Rattle.machine.specs.Begin.{parameters_left}
use Rattle.machine.proofs.ParameterLists.{none-left, put-taken, put-more, put_all}
use Rattle.machine.proofs.begin.put_rows.Goals as goal

pub loop-n-preserved : goal.loop-n-preserved
loop-n-preserved c =
    let s = c.loop-n.stack in
    let u = c.next.new.self in
    let steps = c.in-Some.ensures.steps in
    let count = length c.args.values.now in
    let ns = ap length steps.0 in
    let vs = ap length steps.1 in
    let room : s.held < count = omega (arith, vs, c.loop-n.invariant.1) in
    let put = put-taken _ _ _ _ (omega arith) c.put.ensures.cases in
    let more = put-more s.held c.args.nodes.now c.in-Some.n (parameters_left (zip_first u)) c.in-Some.value.now (iter_rest (zip_second u)) count s.places.now room (omega arith) in
    search rules

pub returns : goal.returns
returns c =
    let l = c.loop-n.n-iterator in
    let s = c.loop-n.stack in
    let i = c.loop-n.invariant in
    let none = none-left (zip_first l) (zip_second l) c.in-None.ensures.steps i.0 in
    let all = put_all s.held c.args.nodes.now (parameters_left (zip_first l)) (iter_rest (zip_second l)) (length c.args.values.now) s.places.now none i.1 in
    search rules
