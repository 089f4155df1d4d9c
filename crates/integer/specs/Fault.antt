-- What each fault is told by: its cause and its sentence.
use Rattle.std.specs.Prelude.{ℕ, List, codes}
use Rattle.integer.specs.declared.fault.ArithmeticFault.{ArithmeticFault}
use Rattle.integer.specs.declared.fault.ArithmeticFault.TheVariants.{OutsideInteger, ZeroDivisor}

abbrev pub cause_of : ArithmeticFault → ℕ
cause_of OutsideInteger = 1
cause_of ZeroDivisor = 2

abbrev pub sentence_of : ArithmeticFault → List ℕ
sentence_of OutsideInteger = codes "the result is outside INTEGER"
sentence_of ZeroDivisor = codes "the divisor is zero"
