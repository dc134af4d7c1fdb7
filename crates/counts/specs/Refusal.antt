-- The refusals' numbers (document 01, "Host frames"). Assumes nothing.
use Rattle.std.specs.Prelude.{ℕ}
use Rattle.counts.specs.declared.Refusal.TheVariants.{Short, Count, Unused, Kind, Room}
use Rattle.counts.specs.declared.Refusal.{Refusal}

-- 20 the slice ends too soon; 21 count not shortest, over 2,120, or not 0 for kind 6; 22 unused bits not zero; 23 kind above 6;
-- 24 (writing only) no room from the place
abbrev pub number_of : Refusal → ℕ
number_of Short = 20
number_of Count = 21
number_of Unused = 22
number_of Kind = 23
number_of Room = 24
