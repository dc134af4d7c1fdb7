-- A line of text in a buffer, as it is printed. Assumes nothing.
use Rattle.std.specs.Prelude.{List, ℕ, set}

-- a text that goes up to a place has its line's end there, 10 in ASCII: a buffer that has no such place stays as it is
abbrev pub ended : List ℕ → ℕ → List ℕ
ended line at = set line at 10
