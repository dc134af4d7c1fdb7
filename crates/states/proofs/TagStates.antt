-- The doors of the tag's state: what each shows. Assumes nothing.
use mathlib.Core.Path.{◌≡◌, ap}
use mathlib.Core.Bool.{Bool, true, false, cond}
use Prim.Native.Nat.{ℕ}
use Rattle.grain.specs.declared.Engine.{Engine}
use Rattle.grain.specs.declared.Method.{Method}
use Rattle.grain.specs.declared.Session.{Session}
use Rattle.faces.specs.declared.Face.{Face}
use Rattle.faces.specs.declared.Name.TheVariants.{CsReset, Ia2, Ma2}
use Rattle.states.specs.Sessions.{unfilled, empty_session}
use Rattle.states.specs.TagStates.{TagState, face_of, secrets_of, tag_of, bare_face, closed_face, begun_face, open_by, reset_tag, closed_tag, failed_tag, begun_tag, open_tag}
pub use Rattle.states.proofs.States.{face-of, secrets_of_lem, parts_of_lem, face_with, with_of}

pub face-reset : face_of reset_tag ≡ bare_face CsReset false false false false
unfolding reset_tag
face-reset = face-of _ _

pub face-closed : (t : TagState) → face_of (closed_tag t) ≡ closed_face (face_of t)
unfolding closed_tag
face-closed t = face-of _ _

-- a closed state depends on the public parts alone
pub closed_same : (s t : TagState) → face_of s ≡ face_of t → closed_tag s ≡ closed_tag t
unfolding closed_tag
closed_same s t e = ap (λ (f : Face). tag_of (closed_face f) empty_session) e

pub face-failed : (both : Bool) → face_of (failed_tag both) ≡ bare_face (cond both Ma2 Ia2) true false false true
unfolding failed_tag
face-failed both = face-of _ _

pub face-begun : (both : Bool) (k : ℕ) (e : Engine) → face_of (begun_tag both k e) ≡ begun_face both k
unfolding begun_tag
face-begun both k e = face-of _ _

pub secrets_begun : (both : Bool) (k : ℕ) (e : Engine) → secrets_of (begun_tag both k e) ≡ unfilled e
unfolding begun_tag
secrets_begun both k e = secrets_of_lem _ _

pub face-open : (m : Method) (k o : ℕ) (x : Session) → face_of (open_tag m k o x) ≡ open_by m k o
unfolding open_tag
face-open m k o x = face-of _ _

pub secrets_open : (m : Method) (k o : ℕ) (x : Session) → secrets_of (open_tag m k o x) ≡ x
unfolding open_tag
secrets_open m k o x = secrets_of_lem _ _
