-- How the program tells why it does not succeed. Assumes nothing.
use Rattle.std.specs.Prelude.{ℕ, List, ◌++◌, Some, None, codes, Option}
use Rattle.files.specs.Message.{number_fault_text, file_fault_text}
use Rattle.procedure.specs.Refusal.{refusal_text}
use Rattle.station.specs.declared.failure.Failure.{Failure}
use Rattle.station.specs.declared.failure.Failure.TheVariants.{Usage, Unread, Faulty, Operand, NotFormed, NotPassed, Unset, Io}
use Rattle.station.specs.Report.{refused_text, rule_line, kind_line}
use Rattle.station.specs.Verb.{usage_text}

-- None where the text is the system's
abbrev pub failure_text : Failure → Option (List ℕ)
failure_text (Usage word fault) =
    Some (codes "station: " ++ (word.now ++ (codes ": " ++ (usage_text fault ++ codes "; 'station help' lists the commands"))))
failure_text (Unread path error) = None
failure_text (Faulty path fault) = Some (codes "station: " ++ (path.now ++ (codes ": " ++ file_fault_text fault)))
failure_text (Operand name word fault) =
    Some (codes "station: calibrate: " ++ (name.now ++ (codes ": " ++ (word.now ++ (codes " " ++ number_fault_text fault)))))
failure_text (NotFormed refused) = refused_text (λ b. Some (rule_line b)) refused
failure_text (NotPassed refused) = refused_text (λ n. Some (kind_line n)) refused
failure_text (Unset refusal) = Some (codes "refused: " ++ refusal_text refusal)
failure_text (Io error) = None
