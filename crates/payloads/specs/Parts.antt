-- A payload as its fields, which is how it is written. Assumes nothing.
use Rattle.std.specs.Prelude.{Bool, List, ◌≡◌, ◌≤◌}
use Rattle.std.specs.List.{All, flat_map}
use Rattle.bits.specs.Bits.{bits_of}
use Rattle.payloads.specs.declared.Part.{Part}
use Rattle.payloads.specs.declared.Payload.{Payload}
use Rattle.payloads.specs.Payloads.{layout_of}

-- one behind the other
abbrev pub bits_of_parts : List Part → List Bool
bits_of_parts fs = flat_map (λ f. bits_of f.bits f.value) fs

-- fields of a word at most that say a payload
pub record Says (p : Payload) (fs : List Part) : Type 0 where
  pub bits : bits_of_parts fs ≡ layout_of p
  pub words : All (λ f. f.bits ≤ 64) fs
