-- The doors of the reader's state: what each shows. Assumes nothing.
use mathlib.Core.Path.{◌≡◌}
use mathlib.Core.Bool.{Bool, cond}
use Prim.Native.Nat.{ℕ}
use Rattle.grain.specs.declared.Register.{Register}
use Rattle.grain.specs.declared.Session.{Session}
use Rattle.payloads.specs.Payloads.{mac_bits}
use Rattle.faces.specs.declared.Stage.TheVariants.{Idle, Step1Sent, Open, Closed}
use Rattle.states.specs.Sessions.{empty_register, unfilled}
use Rattle.states.specs.ReaderStates.{ReaderState, reader_face_of, reader_secrets_of, empty_reader_face, begun_reader_face, moved_face, reset_reader, closed_reader, begun_reader, filled_reader, opened_reader}
pub use Rattle.states.proofs.States.{face-of as reader-face-of, secrets_of_lem as reader_secrets_of_lem, parts_of_lem as reader_parts_of, face_with as face-moved, with_of as reader_with_of}

pub face-idle : reader_face_of reset_reader ≡ empty_reader_face Idle
unfolding reset_reader
face-idle = reader-face-of _ _

pub face-shut : reader_face_of closed_reader ≡ empty_reader_face Closed
unfolding closed_reader
face-shut = reader-face-of _ _

pub face_asked : (m o k n : ℕ) (key : Register) → reader_face_of (begun_reader m o k n key) ≡ begun_reader_face m o k n
unfolding begun_reader
face_asked m o k n key = reader-face-of _ _

pub secrets_asked : (m o k n : ℕ) (key : Register) → reader_secrets_of (begun_reader m o k n key) ≡ unfilled (record { b = key; s = empty_register })
unfolding begun_reader
secrets_asked m o k n key = reader_secrets_of_lem _ _

pub face-filled : (opens : Bool) (r : ReaderState) (x : Session)
    → reader_face_of (filled_reader opens r x) ≡ moved_face (cond opens Open Step1Sent) (mac_bits (reader_face_of r).options) (reader_face_of r)
unfolding filled_reader
face-filled opens r x = reader-face-of _ _

pub secrets_filled : (opens : Bool) (r : ReaderState) (x : Session) → reader_secrets_of (filled_reader opens r x) ≡ x
unfolding filled_reader
secrets_filled opens r x = reader_secrets_of_lem _ _

pub face-opened : (r : ReaderState) (x : Session) → reader_face_of (opened_reader r x) ≡ moved_face Open (reader_face_of r).width (reader_face_of r)
unfolding opened_reader
face-opened r x = reader-face-of _ _
