-- A get that answers a number, which is written, and one that finds none.
use Rattle.std.proofs.Common.{length, pos, ◌∙◌, arith, w32, SFits, rules}
use Rattle.std.proofs.lemmas.List.{set-get_or}
use Rattle.std.proofs.lemmas.Int.{to_z-of_z}
use Rattle.port.proofs.Gets.{first-left, read_more, read_all, holds_more}
use Rattle.port.proofs.client.read_into.Goals as goal

pub loop-i-preserved : goal.loop-i-preserved
loop-i-preserved g c =
    let so = c.loop-i.invariant.0 in
    let get = c.get.ensures in
    let x = c.in-Some.number in
    let fits : SFits w32 x = search rules in
    let e = holds_more _ c.args.numbers.now c.loop-i.i x (first-left so get.answers get.leaves ∙ c.in-Some.is) c.loop-i-test.true in
    (read_more so get.answers get.leaves x c.in-Some.is, rw (to_z-of_z w32 x fits, c.loop-i.invariant.1) e)

pub returns-in_default : goal.returns-in_default
returns-in_default g c =
    let e = read_all c.loop-i.invariant.0 c.get.ensures.answers c.get.ensures.leaves c.in_default.is (length c.args.numbers.now) (omega arith) in
    record { answers = e.0; leaves = e.1; holds = set-get_or c.loop-i.numbers c.loop-i.i (pos 0) ∙ c.loop-i.invariant.1 }
