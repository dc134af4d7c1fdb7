-- The doors of either machine's state: what each shows. Assumes nothing.
use mathlib.Core.Path.{◌≡◌, refl}
use Rattle.grain.specs.declared.Session.{Session}
use Rattle.states.specs.declared.doors.State.{State}
use Rattle.states.specs.States.{face_of, secrets_of, stored_of, with_session}

pub face-of : {F : Type 0} (f : F) (x : Session) → face_of (stored_of f x) ≡ f
unfolding face_of stored_of
face-of f x = refl

pub secrets_of_lem : {F : Type 0} (f : F) (x : Session) → secrets_of (stored_of f x) ≡ x
unfolding secrets_of stored_of
secrets_of_lem f x = refl

pub parts_of_lem : {F : Type 0} (t : State F) → stored_of (face_of t) (secrets_of t) ≡ t
unfolding face_of secrets_of stored_of
parts_of_lem t = refl

pub face_with : {F : Type 0} (t : State F) (x : Session) → face_of (with_session t x) ≡ face_of t
unfolding with_session
face_with t x = face-of _ _

pub with_of : {F : Type 0} (f : F) (x y : Session) → with_session (stored_of f x) y ≡ stored_of f y
unfolding with_session
with_of f x y = rw (face-of f x)
