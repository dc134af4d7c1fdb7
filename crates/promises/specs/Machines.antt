-- A machine is its states, what each public call gives, and what a state is: its face, its session and whether it is sound. The
-- statements of the demands are made of any machine. Assumes nothing.
use Rattle.std.specs.Prelude.{Bool, List, ℕ}
use Rattle.grain.specs.declared.Session.{Session}
use Rattle.faces.specs.declared.Face.{Face}
use Rattle.faces.specs.declared.ReaderFace.{ReaderFace}
use Rattle.rules.specs.Calls.{Command, Message, Begin}

-- what a call gives: the next state, the answer's number, the reply's bit count, and the lent buffer as it is left
pub record Given (S : Type 0) : Type 0 where
  pub next : S
  pub answer : ℕ
  pub bits : ℕ
  pub buffer : List ℕ

-- each call with the lent buffer as it is found; "The error type is .. from state and flags". The face is name, flags, KeyID, options
-- and width, the session "registers, accumulator, register"
pub record TagMachine : Type 1 where
  pub State : Type 0
  pub reset : List ℕ → Given State
  pub command : State → Command → List ℕ → Given State
  pub response : State → Message → List ℕ → Given State
  pub close : State → State
  pub error_type : State → ℕ
  pub face : State → Face
  pub session : State → Session
  pub sound : State → Bool

-- the authentication response comes as bytes and a bit count; the face is the stage, begin's "first four" and the width
pub record ReaderMachine : Type 1 where
  pub State : Type 0
  pub reset : List ℕ → Given State
  pub begin : State → Begin → List ℕ → Given State
  pub replied : State → List ℕ → ℕ → List ℕ → Given State
  pub send : State → Message → List ℕ → Given State
  pub receive : State → Message → List ℕ → Given State
  pub face : State → ReaderFace
  pub session : State → Session
  pub sound : State → Bool
