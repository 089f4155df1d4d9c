-- The calls left end where all end, their replies go behind those so far, and the places from there on are as they were.
use Rattle.std.proofs.Common.{◌≡◌, ◌++◌, take, drop}
use Rattle.machine.specs.Go.{state_of}
use Rattle.soundness.specs.Sound.{after_calls}
use Rattle.service.specs.Served.{replies_to}
use Rattle.service.proofs.serve.make_calls.Given as goal

abbrev pub invariant-loop-i : goal.invariant-loop-i
invariant-loop-i g l =
    let meaning = g.P.Port.meaning in
    let begun = state_of l.initial.run l.initial.rows l.initial.frames (meaning l.initial.port) in
    let s = state_of l.run l.rows l.frames (meaning l.port) in
    (after_calls l.nodes (drop l.i l.calls) s ≡ after_calls l.nodes l.calls begun)
    × (take l.i l.replies ++ replies_to l.nodes (drop l.i l.calls) s ≡ replies_to l.nodes l.calls begun)
    × (drop l.i l.replies ≡ drop l.i l.initial.replies)
