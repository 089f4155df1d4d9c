-- A square wave. Assumes nothing.
use Rattle.std.specs.Prelude.{ℕ, ◌-◌, ◌/◌, ◌%◌, Bool, cond, ◌&&◌, List, map, ℤ, pos, neg_ℤ, ◌==◌, int_le, nat_le}
use Rattle.std.specs.List.{range_with_len}
use Rattle.port.specs.declared.wave.SquareWave.{SquareWave}
use Rattle.port.specs.declared.samples.Samples.{Samples}

abbrev pub within_limits : SquareWave → Bool
within_limits w =
    int_le (pos 0) w.amplitude && (int_le w.amplitude (pos 8388607)
    && (nat_le 1 w.half_period && (nat_le w.half_period 10000 && nat_le w.count 1000000)))

-- number i: the amplitude in the even half periods, and its negative in the odd ones
abbrev pub sample : SquareWave → ℕ → ℤ
sample w i = cond (i / w.half_period % 2 == 0) w.amplitude (neg_ℤ w.amplitude)

-- k numbers, from number i on
abbrev pub samples : SquareWave → ℕ → ℕ → List ℤ
samples w i k = map (sample w) (range_with_len i k)

-- the numbers 0 to count - 1
abbrev pub square_wave : SquareWave → List ℤ
square_wave w = samples w 0 w.count

abbrev pub samples_left : Samples → List ℤ
samples_left s = samples s.wave s.next (s.wave.count - s.next)
