-- The number, the word and the sentence of each reason to refuse a call. Assumes nothing.
use Rattle.std.specs.Prelude.{ℕ, List, ◌++◌, codes, decimal}
use Rattle.procedure.specs.declared.refusal.Reason.{Reason}
use Rattle.procedure.specs.declared.refusal.Reason.TheVariants.{Bulky, Misshapen, Taken, Unmarked, Unknown, Mismatched, Fixed, Overlong, Cramped, Miscounted, Unfit, Short, Overdrawn, Over, Absent, Unset}
use Rattle.procedure.specs.declared.refusal.Refusal.{Refusal}

-- how a reason is told
pub record Told : Type 0 where
  pub number : ℕ
  pub word : List ℕ
  pub sentence : List ℕ

abbrev pub told : Reason → Told
told Bulky = record { number = 1; word = codes "bulky"; sentence = codes "a procedure has 1 to 1024 nodes" }
told Misshapen = record { number = 2; word = codes "misshapen"; sentence = codes "this is the lowest node that breaks a rule of the table's form" }
told Taken = record { number = 3; word = codes "taken"; sentence = codes "the name is already declared in its region, or the procedure has a predefined name" }
told Unmarked = record { number = 4; word = codes "unmarked"; sentence = codes "the type mark denotes no type" }
told Unknown = record { number = 5; word = codes "unknown"; sentence = codes "the name denotes no object" }
told Mismatched = record { number = 6; word = codes "mismatched"; sentence = codes "an operand or a value is of the wrong type" }
told Fixed = record { number = 7; word = codes "fixed"; sentence = codes "only a parameter or a variable can be given a value" }
told Overlong = record { number = 8; word = codes "overlong"; sentence = codes "the procedure may need more than 1000000000 steps" }
told Cramped = record { number = 9; word = codes "cramped"; sentence = codes "more than 256 declarations would be open together" }
told Miscounted = record { number = 10; word = codes "miscounted"; sentence = codes "the procedure has another number of parameters" }
told Unfit = record { number = 11; word = codes "unfit"; sentence = codes "the value of a BOOLEAN parameter is 0 or 1" }
told Short = record { number = 12; word = codes "short"; sentence = codes "a table that was supplied has too few places" }
told Overdrawn = record { number = 13; word = codes "overdrawn"; sentence = codes "the run would make more than 1000000000 steps" }
told Over = record { number = 14; word = codes "over"; sentence = codes "the run has ended" }
told Absent = record { number = 15; word = codes "absent"; sentence = codes "there is no such row" }
told Unset = record { number = 16; word = codes "unset"; sentence = codes "a limit of the calibrator is out of its range" }

-- the refusal for a reason, about a node
abbrev pub refusal_at : Reason → ℕ → Refusal
refusal_at reason n = record { reason = reason; node = n }

-- a refusal as it is printed
abbrev pub refusal_text : Refusal → List ℕ
refusal_text r =
    decimal (told r.reason).number ++ (codes " " ++ ((told r.reason).word ++ (codes " at node " ++ (decimal r.node ++ (codes ": " ++ (told r.reason).sentence)))))
