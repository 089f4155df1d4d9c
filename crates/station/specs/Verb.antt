-- The commands of the program: their words, and how many words follow each. Assumes nothing.
use Rattle.std.specs.Prelude.{ℕ, cond, ◌≡◌, ◌≢◌, List, Ok, Err, codes, Result, nat_lt}
use Rattle.station.specs.declared.verb.Verb.{Verb}
use Rattle.station.specs.declared.verb.Verb.TheVariants.{Help, Form, Check, Calibrate}
use Rattle.station.specs.declared.verb.Operands.{Operands}
use Rattle.station.specs.declared.verb.UsageFault.{UsageFault}
use Rattle.station.specs.declared.verb.UsageFault.TheVariants.{Unknown, Missing, Extra}

abbrev pub word_of : Verb → List ℕ
word_of Help = codes "help"
word_of Form = codes "form"
word_of Check = codes "check"
word_of Calibrate = codes "calibrate"

-- a word is that of the command, or unknown where it is that of none
abbrev pub Spells : List ℕ → Result Verb UsageFault → Type 0
Spells word (Ok v) = word ≡ word_of v
Spells word (Err fault) = (fault ≡ Unknown) × ((v : Verb) → word ≢ word_of v)

-- how many words may follow
abbrev pub operands_of : Verb → Operands
operands_of Help = record { fewest = 0; most = 0 }
operands_of Form = record { fewest = 1; most = 1 }
operands_of Check = record { fewest = 1; most = 1 }
operands_of Calibrate = record { fewest = 3; most = 4 }

-- the command, where as many words follow it as may
abbrev pub taken : Verb → ℕ → Result Verb UsageFault
taken v given =
    cond (nat_lt given (operands_of v).fewest) (Err Missing) (cond (nat_lt (operands_of v).most given) (Err Extra) (Ok v))

abbrev pub usage_text : UsageFault → List ℕ
usage_text Unknown = codes "there is no such command"
usage_text Missing = codes "a word is missing behind the command"
usage_text Extra = codes "too many words follow the command"
