-- The tag's stored state: its doors. Assumes nothing.
use Rattle.std.specs.Prelude.{Bool, true, false, cond, ℕ}
use Rattle.grain.specs.declared.Engine.{Engine}
use Rattle.grain.specs.declared.Session.{Session}
use Rattle.grain.specs.declared.Method.{Method}
use Rattle.grain.specs.declared.Method.TheVariants.{Ta, Ia, Ma}
use Rattle.payloads.specs.Payloads.{mac_bits}
use Rattle.faces.specs.declared.Name.{Name}
use Rattle.faces.specs.declared.Name.TheVariants.{CsReset, Ta1, Ia1, Ia2, Ma1, Ma2}
use Rattle.faces.specs.declared.Face.{Face}
use Rattle.faces.specs.TagFaces.{bare, face_fits}
use Rattle.states.specs.declared.doors.State.{State}
use Rattle.states.specs.Sessions.{unfilled, empty_session}
use Rattle.states.specs.States.{sound_by}
unfoldable pub use Rattle.states.specs.States.{face_of, secrets_of, stored_of as tag_of, with_session}

-- ---- looking in

-- the tag's face, and its session
abbrev pub TagState : Type 0
TagState = State Face

-- "8 is given exactly when" its parts are against the rules
unfoldable pub sound_of : TagState → Bool
sound_of t = sound_by face_fits bare (λ f. f.width) t

-- ---- the faces of the table's states

-- everything zero but name and flags
abbrev pub bare_face : Name → Bool → Bool → Bool → Bool → Face
bare_face name init ta ia error = record { name = name; init = init; ta = ta; ia = ia; error = error; keyid = 0; options = 0; width = 0 }

-- "Closing sets ERROR, keeps state name and other flags, and zeroes .. width, KeyID and options"
abbrev pub closed_face : Face → Face
closed_face f = bare_face f.name f.init f.ta f.ia true

-- MA.1 or IA.1, "INIT": "KeyID is stored from step 0"
abbrev pub begun_face : Bool → ℕ → Face
begun_face both keyid = record { name = cond both Ma1 Ia1; init = true; ta = false; ia = false; error = false; keyid = keyid; options = 0; width = 0 }

-- "options with the width"
abbrev pub open_face : Name → Bool → Bool → ℕ → ℕ → Face
open_face name ta ia keyid options = record {
  name = name;
  init = true;
  ta = ta;
  ia = ia;
  error = false;
  keyid = keyid;
  options = options;
  width = mac_bits options;
}

-- TA.1, "INIT, TA"; IA.2, "INIT, IA"; MA.2, "INIT, TA, IA"
abbrev pub open_by : Method → ℕ → ℕ → Face
open_by Ta keyid options = open_face Ta1 true false keyid options
open_by Ia keyid options = open_face Ia2 false true keyid options
open_by Ma keyid options = open_face Ma2 true true keyid options

-- ---- the doors

-- "Reset gives CS-Reset with everything false and zero"
unfoldable pub reset_tag : TagState
reset_tag = tag_of (bare_face CsReset false false false false) empty_session

-- "Closing .. zeroes registers, accumulator, register"
unfoldable pub closed_tag : TagState → TagState
closed_tag t = tag_of (closed_face (face_of t)) empty_session

-- "A failed comparison in step 1 leads to IA.2 or MA.2, TA and IA false": MA.2 where `both` says so
unfoldable pub failed_tag : Bool → TagState
failed_tag both = tag_of (bare_face (cond both Ma2 Ia2) true false false true) empty_session

-- after step 0 of IA, or of MA where `both` says so
unfoldable pub begun_tag : Bool → ℕ → Engine → TagState
begun_tag both keyid e = tag_of (begun_face both keyid) (unfilled e)

-- opened, by its method
unfoldable pub open_tag : Method → ℕ → ℕ → Session → TagState
open_tag method keyid options x = tag_of (open_by method keyid options) x
