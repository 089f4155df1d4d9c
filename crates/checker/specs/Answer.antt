-- What a procedure that passes takes. Assumes nothing.
use Rattle.std.specs.Prelude.{ℕ, List, ◌++◌, codes, decimal}
use Rattle.checker.specs.declared.answer.Sheet.{Sheet}

abbrev pub sheet : ℕ → ℕ → ℕ → Sheet
sheet c r f = record { ceiling = c; rows = r; frames = f }

-- a sheet as it is printed
abbrev pub sheet_text : Sheet → List ℕ
sheet_text s = codes "ceiling " ++ (decimal s.ceiling ++ (codes ", rows " ++ (decimal s.rows ++ (codes ", frames " ++ decimal s.frames))))
