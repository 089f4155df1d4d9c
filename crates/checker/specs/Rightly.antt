-- What a refusal of the check means, by its reason. Assumes nothing.
use Rattle.std.specs.Prelude.{◌≡◌, ℕ, ◌<◌, ◌≤◌, ◌⊎◌, length}
use Rattle.procedure.specs.declared.refusal.Reason.{Reason}
use Rattle.procedure.specs.declared.refusal.Reason.TheVariants.{Bulky, Misshapen, Taken, Unmarked, Unknown, Mismatched, Fixed, Overlong, Cramped, Miscounted, Unfit, Short, Overdrawn, Over, Absent, Unset}
use Rattle.procedure.specs.declared.refusal.Refusal.{Refusal}
use Rattle.procedure.specs.Formed.{Formed, MisshapenAt}
use Rattle.procedure.specs.Limits.{node_limit}
use Rattle.procedure.specs.Table.{Table}
use Rattle.checker.specs.Allowed.{Allowed}
use Rattle.checker.specs.Faults.{FirstFault}
use Rattle.checker.specs.Measure.{sheet_of}

-- a number of nodes that a procedure may have
abbrev pub Sized : Table → Type 0
Sized t = (0 < length t) × (length t ≤ node_limit)

-- the procedure is allowed, but may need too many steps
pub record TooLong (t : Table) : Type 0 where
  pub allowed : Allowed t
  pub few : (sheet_of allowed).rows ≤ 256
  pub long : 1000000000 < (sheet_of allowed).ceiling

-- The refusal e for a reason, of the table t with a working table of w places, is right.
abbrev pub RightFor : Reason → Table → ℕ → Refusal → Type 0
RightFor Bulky t w e = ((length t ≡ 0) ⊎ (node_limit < length t)) × (e.node ≡ 0)
RightFor Short t w e = Sized t × (w < 256) × (e.node ≡ 0)
RightFor Misshapen t w e = Sized t × (256 ≤ w) × MisshapenAt t e.node
RightFor Taken t w e = (256 ≤ w) × Formed t × FirstFault t e
RightFor Unmarked t w e = (256 ≤ w) × Formed t × FirstFault t e
RightFor Unknown t w e = (256 ≤ w) × Formed t × FirstFault t e
RightFor Mismatched t w e = (256 ≤ w) × Formed t × FirstFault t e
RightFor Fixed t w e = (256 ≤ w) × Formed t × FirstFault t e
RightFor Cramped t w e = (256 ≤ w) × Formed t × FirstFault t e
RightFor Overlong t w e = (256 ≤ w) × Formed t × TooLong t × (e.node ≡ 0)
RightFor Miscounted t w e = ⊥
RightFor Unfit t w e = ⊥
RightFor Overdrawn t w e = ⊥
RightFor Over t w e = ⊥
RightFor Absent t w e = ⊥
RightFor Unset t w e = ⊥

abbrev pub RefusedRightly : Table → ℕ → Refusal → Type 0
RefusedRightly t w e = RightFor e.reason t w e
