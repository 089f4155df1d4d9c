-- What is counted since a run began. Assumes nothing.
use Rattle.std.specs.Prelude.{◌+◌, ◌≤◌}
use Rattle.machine.specs.declared.progress.Progress.{Progress}

-- a step gets or puts one number at most, and a run makes at most 1,000,000,000 steps
abbrev pub Counted : Progress → Type 0
Counted p = (p.reads ≤ p.steps) × (p.writes ≤ p.steps) × (p.steps ≤ 1000000000)

-- one step more
abbrev pub one_step : Progress → Progress
one_step p = record {
  outcome = p.outcome;
  cause = p.cause;
  node = p.node;
  at = p.at;
  steps = p.steps + 1;
  reads = p.reads;
  writes = p.writes;
}
