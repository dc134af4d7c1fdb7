-- The reader's stored state: its doors. Assumes nothing.
use Rattle.std.specs.Prelude.{Bool, cond, ℕ}
use Rattle.grain.specs.declared.Register.{Register}
use Rattle.grain.specs.declared.Session.{Session}
use Rattle.payloads.specs.Payloads.{mac_bits}
use Rattle.faces.specs.declared.Stage.{Stage}
use Rattle.faces.specs.declared.Stage.TheVariants.{Idle, Step0Sent, Step1Sent, Open, Closed}
use Rattle.faces.specs.declared.ReaderFace.{ReaderFace}
use Rattle.faces.specs.ReaderFaces.{reader_bare, reader_fits}
use Rattle.states.specs.declared.doors.State.{State}
use Rattle.states.specs.Sessions.{empty_register, unfilled, empty_session}
use Rattle.states.specs.States.{sound_by}
unfoldable pub use Rattle.states.specs.States.{face_of as reader_face_of, secrets_of as reader_secrets_of, stored_of as reader_of, with_session as with_reader_session}

-- ---- looking in

-- the reader's face, and its session
abbrev pub ReaderState : Type 0
ReaderState = State ReaderFace

-- "8 is given exactly when" its parts are against the rules
unfoldable pub reader_sound : ReaderState → Bool
reader_sound r = sound_by reader_fits reader_bare (λ f. f.width) r

-- ---- the faces of the states

-- nothing but the stage
abbrev pub empty_reader_face : Stage → ReaderFace
empty_reader_face stage = record { stage = stage; method = 0; options = 0; keyid = 0; number = 0; width = 0 }

-- "stores the first four until closed or reset"
abbrev pub begun_reader_face : ℕ → ℕ → ℕ → ℕ → ReaderFace
begun_reader_face method options keyid number = record { stage = Step0Sent; method = method; options = options; keyid = keyid; number = number; width = 0 }

-- the next stage, with a width
abbrev pub moved_face : Stage → ℕ → ReaderFace → ReaderFace
moved_face stage width f = record { stage = stage; method = f.method; options = f.options; keyid = f.keyid; number = f.number; width = width }

-- ---- the doors

-- "Reset makes it idle"
unfoldable pub reset_reader : ReaderState
reset_reader = reader_of (empty_reader_face Idle) empty_session

-- "A closed reader keeps nothing but that it is closed"
unfoldable pub closed_reader : ReaderState
closed_reader = reader_of (empty_reader_face Closed) empty_session

-- step 0 sent: "with the key as b and s zero"
unfoldable pub begun_reader : ℕ → ℕ → ℕ → ℕ → Register → ReaderState
begun_reader method options keyid number key =
    reader_of (begun_reader_face method options keyid number) (unfilled (record { b = key; s = empty_register }))

-- the response to step 0 has filled the session: open (TA) where `opens` says so, and else step 1 sent (IA, MA)
unfoldable pub filled_reader : Bool → ReaderState → Session → ReaderState
filled_reader opens r x = reader_of (moved_face (cond opens Open Step1Sent) (mac_bits (reader_face_of r).options) (reader_face_of r)) x

-- the response to step 1 opens it
unfoldable pub opened_reader : ReaderState → Session → ReaderState
opened_reader r x = reader_of (moved_face Open (reader_face_of r).width (reader_face_of r)) x
