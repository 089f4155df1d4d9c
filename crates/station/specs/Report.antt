-- What `station form` and `station check` tell of a table. Assumes nothing.
use Rattle.std.specs.Prelude.{ℕ, List, ◌++◌, length, Some, None, Ok, Err, codes, decimal, Option, Result}
use Rattle.std.specs.Option.{option_map}
use Rattle.procedure.specs.declared.form.FormFault.{FormFault}
use Rattle.procedure.specs.declared.form.FormFault.TheVariants.{Bulky, Broken}
use Rattle.checker.specs.declared.answer.Sheet.{Sheet}
use Rattle.checker.specs.Answer.{sheet_text}
use Rattle.checker.specs.Walk.{checked}
use Rattle.procedure.specs.declared.refusal.Refusal.{Refusal}
use Rattle.procedure.specs.Form.{form_fault, refusal_of}
use Rattle.procedure.specs.Kind.{kind_of, kind_word}
use Rattle.procedure.specs.Refusal.{refusal_text}
use Rattle.procedure.specs.RuleText.{rule_text}
use Rattle.procedure.specs.Table.{Table, node}
use Rattle.station.specs.declared.report.BrokenRule.{BrokenRule}
use Rattle.station.specs.declared.report.Formed.{Formed}
use Rattle.station.specs.declared.report.NodeKind.{NodeKind}
use Rattle.station.specs.declared.report.Passed.{Passed}
use Rattle.station.specs.declared.report.Refused.{Refused}

-- the refusal that tells of a fault of the form, and the rule that is broken
abbrev pub refused_for : FormFault → Refused BrokenRule
refused_for Bulky = record { refusal = refusal_of Bulky; detail = None }
refused_for (Broken rule at) = record { refusal = refusal_of (Broken rule at); detail = Some (record { rule = rule }) }

abbrev pub reported : ℕ → Option FormFault → Result Formed (Refused BrokenRule)
reported n None = Ok (record { nodes = n })
reported n (Some fault) = Err (refused_for fault)

-- the form test, and the rule that is broken
abbrev pub form_report : Table → Result Formed (Refused BrokenRule)
form_report t = reported (length t) (form_fault t)

-- the refusal of a procedure, and the kind of the node told
abbrev pub refused_with_kind : Table → Refusal → Refused NodeKind
refused_with_kind t r = record { refusal = r; detail = option_map (λ k. record { node = r.node; kind = k }) (kind_of (node t r.node).kind) }

abbrev pub checked_report : Table → Result Sheet Refusal → Result Passed (Refused NodeKind)
checked_report t (Ok s) = Ok (record { sheet = s })
checked_report t (Err r) = Err (refused_with_kind t r)

-- the check with a working table of 256 places, and the kind of the node told
abbrev pub check_report : Table → Result Passed (Refused NodeKind)
check_report t = checked_report t (checked t 256)

abbrev pub formed_text : Formed → List ℕ
formed_text f = codes "formed: " ++ (decimal f.nodes ++ codes " nodes")

abbrev pub passed_text : Passed → List ℕ
passed_text p = codes "passed: " ++ sheet_text p.sheet

abbrev pub rule_line : BrokenRule → List ℕ
rule_line b = codes "rule " ++ rule_text b.rule

abbrev pub kind_line : NodeKind → List ℕ
kind_line n = codes "node " ++ (decimal n.node ++ (codes ": " ++ kind_word n.kind))

-- a line, and the line beneath it
abbrev pub with_line : {D : Type 0} → (D → Option (List ℕ)) → List ℕ → Option D → Option (List ℕ)
with_line text first None = Some first
with_line text first (Some d) = option_map (λ line. first ++ (codes "\n" ++ line)) (text d)

-- a refusal as it is printed, where the line beneath it has a text
abbrev pub refused_text : {D : Type 0} → (D → Option (List ℕ)) → Refused D → Option (List ℕ)
refused_text text r = with_line text (codes "refused: " ++ refusal_text r.refusal) r.detail
