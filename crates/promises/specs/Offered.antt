-- Document 02, Req 01, "A tag that says it can't": "The reader is to hold them against the method too: TA needs bit 0, IA bit 1, and MA
-- none"; "the reader's 4 also covers the method, in its old place". Said of any reader; and what it moved in ours. Assumes nothing.
use Rattle.std.specs.Prelude.{Bool, true, false, not, cond, ◌&&◌, List, ◌++◌, ◌⊎◌, ◌≡◌, ℕ, ◌*◌, ◌≤◌, eqb, length, drop, replicate}
use Rattle.bits.specs.Bytes.{bits_of_bytes}
use Rattle.payloads.specs.Payloads.{features_in, offers, supports}
use Rattle.faces.specs.declared.Stage.TheVariants.{Step0Sent, Closed}
use Rattle.faces.specs.ReaderFaces.{stage_row}
use Rattle.rules.specs.declared.Answer.TheVariants.{Unsupported}
use Rattle.rules.specs.Calls.{Begin}
use Rattle.rules.specs.Results.{refused_by}
use Rattle.states.specs.ReaderStates.{ReaderState, reader_face_of, closed_reader}
use Rattle.promises.specs.Machines.{Given, ReaderMachine}
use Rattle.promises.specs.Ours.{given, our_reader}
use Rattle.promises.specs.Order.{no_session}
use Rattle.promises.specs.ReaderTable.{bare_face}
use Rattle.promises.specs.Settings.{Roomy}
use Rattle.promises.specs.Wrong.{passes}
use Rattle.promises.specs.WrongRules.{method_unheld}

-- the features that a response says
abbrev pub heard_in : List ℕ → ℕ
heard_in slice = features_in (bits_of_bytes slice)

-- the bits of a well-formed response of step 0: "TA 120 bits"; "IA and MA step 0, 56 bits"
abbrev pub response_bits : ℕ → ℕ
response_bits method = cond (eqb method 0) 120 56

module _ (R : ReaderMachine) where
  -- a begun reader takes a response that stands in its slice, with room for the reply
  pub record Takes (r : R.State) (slice : List ℕ) (count : ℕ) (buffer : List ℕ) : Type 0 where
    pub sound : R.sound r ≡ true
    pub stage : (R.face r).stage ≡ Step0Sent
    pub within : count ≤ 8 * length slice
    pub room : Roomy buffer

  -- 4, "closed": "A closed reader keeps nothing but that it is closed"; the reply has no bits, and its area is zeros
  pub record TurnsAway (before : List ℕ) (g : Given R.State) : Type 0 where
    pub answer : g.answer ≡ 4
    pub face : R.face g.next ≡ bare_face Closed
    pub session : R.session g.next ≡ no_session
    pub bits : g.bits ≡ 0
    pub area : g.buffer ≡ replicate 265 0 ++ drop 265 before

  -- what the reader makes of the features that it hears
  module _ (r : R.State) (slice : List ℕ) (count : ℕ) (b : List ℕ) where
    -- it goes on: to step 1 in IA and MA, to the comparison in TA, which may fail
    abbrev pub GoesOn : Type 0
    GoesOn = ((R.replied r slice count b).answer ≡ 0) ⊎ (((R.face r).method ≡ 0) × ((R.replied r slice count b).answer ≡ 10))

    pub record Hears : Type 0 where
      -- without its method's bit, whatever its options, key and number
      pub lacking : count ≡ response_bits (R.face r).method → offers (heard_in slice) (R.face r).method ≡ false → TurnsAway b (R.replied r slice count b)
      -- the options' own check, as before: "Received features must support the chosen options, else 4"
      pub unsupported : count ≡ response_bits (R.face r).method → supports (heard_in slice) (R.face r).options ≡ false → TurnsAway b (R.replied r slice count b)
      -- where they do both
      pub supported : count ≡ response_bits (R.face r).method → offers (heard_in slice) (R.face r).method ≡ true
          → supports (heard_in slice) (R.face r).options ≡ true → GoesOn
      -- "in its old place": 6 stands before it, whatever the features
      pub wrong_length : (count ≡ response_bits (R.face r).method → ⊥) → (R.replied r slice count b).answer ≡ 6

  -- of every begun reader; and so of one that was begun just now, by any begin that was answered 0
  pub record HoldsMethod : Type 0 where
    pub hears : (r : R.State) (slice : List ℕ) (count : ℕ) (b : List ℕ) → Takes r slice count b → Hears r slice count b
    pub begun : (r : R.State) (i : Begin) (c slice : List ℕ) (b : List ℕ) → (R.begin r i c).answer ≡ 0 → response_bits i.method ≤ 8 * length slice → Roomy b
        → offers (heard_in slice) i.method ≡ false → TurnsAway b (R.replied (R.begin r i c).next slice (response_bits i.method) b)

-- ---- what moved

-- a response of step 0 is waited for, and this one's features lack the method's bit
abbrev pub lacks : ReaderState → List ℕ → Bool
lacks r slice = let f = reader_face_of r in (stage_row f.stage).asked && not (offers (heard_in slice) f.method)

-- our reader takes every response as the one that does not hold the method, but that it answers 4 where that one goes on without the bit
abbrev pub Moved : Type 0
Moved = (r : ReaderState) (slice : List ℕ) (count : ℕ) (b : List ℕ)
    → let g = method_unheld.replied r slice count b in
    our_reader.replied r slice count b ≡ cond (lacks r slice && passes g) (given (refused_by closed_reader Unsupported) b) g
