-- What a calibrator means: a square wave waits, and it has 256 places of its own. Assumes nothing.
use Rattle.std.specs.Prelude.{◌≡◌, ◌-◌, cond, [], ◌∷◌, length, pos, negsuc, Ok, Err, Result}
use Rattle.procedure.specs.declared.refusal.Reason.TheVariants.{Unset}
use Rattle.procedure.specs.declared.refusal.Refusal.{Refusal}
use Rattle.port.specs.declared.calibrator.Calibrator.{Calibrator}
use Rattle.port.specs.declared.wave.SquareWave.{SquareWave}
use Rattle.port.specs.Meaning.{Meaning, at_start}
use Rattle.port.specs.Wave.{within_limits, square_wave, samples_left}

abbrev pub calibrator_meaning : Calibrator → Meaning
calibrator_meaning c = record { waiting = samples_left c.samples; taken = c.taken.items; places_left = 256 - length c.taken.items }

-- what the making of a calibrator answers, by its meaning
abbrev pub calibration : SquareWave → Result Meaning Refusal
calibration w = cond (within_limits w) (Ok (at_start (square_wave w) 256)) (Err (record { reason = Unset; node = 0 }))

abbrev pub meaning_of : Result Calibrator Refusal → Result Meaning Refusal
meaning_of (Ok c) = Ok (calibrator_meaning c)
meaning_of (Err e) = Err e

-- at amplitude 5, half period 2 and count 5 the numbers 5, 5, -5, -5, 5 wait
abbrev pub wave525 : SquareWave
wave525 = record { amplitude = pos 5; half_period = 2; count = 5 }

abbrev pub Wave525Waits : Type 0
Wave525Waits = calibration wave525 ≡ Ok (at_start (pos 5 ∷ pos 5 ∷ negsuc 4 ∷ negsuc 4 ∷ pos 5 ∷ []) 256)
