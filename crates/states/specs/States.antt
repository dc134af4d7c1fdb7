-- A stored state of either machine. It has public parts, its face, and secret ones, its session, and every call goes in and out by the
-- doors below and those of `TagStates` and `ReaderStates`: nothing else knows what a state is made of. Assumes nothing.
use Rattle.std.specs.Prelude.{Bool, ◌&&◌, ℕ}
use Rattle.grain.specs.declared.Session.{Session}
use Rattle.states.specs.declared.doors.State.{State}
use Rattle.states.specs.Sessions.{session_fits}

-- the public parts: what a call's checks see of the state
unfoldable pub face_of : {F : Type 0} → State F → F
face_of t = t.face

-- "registers, accumulator, register"
unfoldable pub secrets_of : {F : Type 0} → State F → Session
secrets_of t = t.session

-- a state of any parts, sound or not
unfoldable pub stored_of : {F : Type 0} → F → Session → State F
stored_of f x = record { face = f; session = x }

-- "8 is given exactly when" its parts are against the rules: `fits`, `bare` and `width` say those of its face
abbrev pub sound_by : {F : Type 0} → (F → Bool) → (F → Bool) → (F → ℕ) → State F → Bool
sound_by fits bare width t = fits (face_of t) && session_fits (bare (face_of t)) (width (face_of t)) (secrets_of t)

-- a message moves the session alone: "the next message goes on from it", and nothing else of the state changes
unfoldable pub with_session : {F : Type 0} → State F → Session → State F
with_session t x = stored_of (face_of t) x
