-- Runs that show a leak: commands that differ in what is not public, from reset through step 0. Assumes nothing.
use mathlib.Core.Path.{◌≡◌, refl, sym}
use mathlib.Core.Bool.{Bool, true, false, not, true≢false}
use mathlib.Core.List.{List, [], ◌∷◌}
use Prim.Native.Nat.{ℕ, ◌+◌, ◌*◌, ◌≤◌, ◌<◌}
use lib.ListN.{length, take, replicate}
use Rattle.bits.specs.Bits.{bits_of, digit, num_of}
use Rattle.bits.specs.Bytes.{bits_of_bytes, padded, field_of}
use Rattle.grain.specs.declared.Engine.{Engine}
use Rattle.grain.specs.declared.Method.{Method}
use Rattle.grain.specs.declared.Method.TheVariants.{Ta, Ia, Ma}
use Rattle.book.specs.Book as Book
use Rattle.faces.specs.TagFaces.{face_fits}
use Rattle.rules.specs.Answers.{verdict_of, closing_of, if_sound}
use Rattle.rules.specs.Calls.{Command}
use Rattle.rules.specs.Results.{said, decided, Outcome}
use Rattle.rules.specs.TagRules.{key_under, shown_of, command_verdict, command_work}
use Rattle.states.specs.Sessions.{key_in, begun_engine, filled_session, chosen_width, session_fits}
use Rattle.states.specs.TagStates.{TagState, face_of, secrets_of, tag_of, sound_of, reset_tag}
use Rattle.machines.specs.TagWork.{challenged, command_of, carried_of, worked_of, start_of, started_by, ta_started}
use Rattle.promises.specs.Machines.{TagMachine}
use Rattle.promises.specs.Silence.{together, Silent}
use Rattle.promises.specs.Demand3 as Demand3
use Rattle.promises.specs.Demand3.{public_bits, message_kind, eight_bits, AlikeCommands, resets, tag_runs, Demand3}

-- a book of one key, whose first byte is k, under KeyID 5
abbrev pub book : ℕ → List ℕ
book k = 5 ∷ k ∷ replicate 15 0

abbrev pub buffer : List ℕ
buffer = replicate 265 0

-- a command to a tag of the features n
abbrev pub called : ℕ → ℕ → ℕ → List ℕ → ℕ → Command
called n k kind payload count = record { kind = kind; payload = payload; count = count; features = n; book = book k; number = 0 }

abbrev pub call : Command → Demand3.Call
call c = Demand3.command c buffer

-- a command with two keys, whose first bits differ
abbrev pub keyed : (ℕ → Command) → Demand3.Call × Demand3.Call
keyed c = (call (c 0), call (c 128))

-- commands that differ in their payloads and keys alone
pub alike_but : (w n k l kind : ℕ) (xs ys : List ℕ) (count : ℕ) → length xs ≡ length ys
    → (kind ≡ 0 → take (public_bits count) (bits_of_bytes xs) ≡ take (public_bits count) (bits_of_bytes ys))
    → (message_kind kind ≡ true → 0 < w → 8 + w ≤ count → eight_bits w (called n k kind xs count) ≡ eight_bits w (called n l kind ys count))
    → AlikeCommands w (called n k kind xs count) (called n l kind ys count) buffer buffer
unfolding Book.ids_of Book.key_ids
alike_but w n k l kind xs ys count size authentication zeros = record {
  kind = refl;
  count = refl;
  size = size;
  room = refl;
  features = refl;
  number = refl;
  book_size = refl;
  key_ids = refl;
  authentication = authentication;
  zeros = zeros;
}

-- in their keys alone
pub alike_keys : (w n k l kind : ℕ) (xs : List ℕ) (count : ℕ) → AlikeCommands w (called n k kind xs count) (called n l kind xs count) buffer buffer
alike_keys w n k l kind xs count = alike_but w n k l kind xs xs count refl (λ z. refl) (λ z p q. refl)

-- a bit is not the other one
pub differ : (c : Bool) → c ≡ not c → ⊥
differ true h = true≢false h
differ false h = true≢false (sym h)

-- what is claimed of runs from reset
pub from_reset : (M : TagMachine) → Demand3 M → (ps : List (Demand3.Call × Demand3.Call))
    → Silent (tag_runs M) together (M.reset []).next (M.reset []).next ps
unfolding Silent
from_reset M d ps = (d (M.reset []).next (M.reset []).next ((Demand3.reset [], Demand3.reset []) ∷ ps) (resets refl)).1

-- ---- step 0 of each method, with no options

abbrev pub number : Method → ℕ
number Ta = 0
number Ia = 1
number Ma = 2

-- the features that it needs: TA and MAC32, IA, none
abbrev pub needed : Method → ℕ
needed Ta = 5
needed Ia = 2
needed Ma = 0

abbrev pub opening : Method → ℕ → Command
opening m k = called (needed m) k 0 (64 * number m ∷ 5 ∷ replicate 6 0) 64

abbrev pub engine : Method → ℕ → Engine
engine m k = begun_engine (key_in (Book.key_of 5 (book k))) (number m) 0 0

abbrev pub began : Method → ℕ → Outcome TagState
began Ta k = ta_started 5 0 5 0 (filled_session (chosen_width 0) (engine Ta k))
began Ia k = challenged false 5 2 0 (engine Ia k)
began Ma k = challenged true 5 0 0 (engine Ma k)

pub opens : (m : Method) (k : ℕ) → command_of reset_tag (opening m k) 265 ≡ said (began m k)
unfolding command_of if_sound carried_of decided command_verdict command_work worked_of start_of started_by shown_of key_under verdict_of closing_of
    sound_of face_fits session_fits face_of secrets_of tag_of reset_tag Book.sound_of Book.known_of Book.ids_of Book.key_ids Book.place_in Book.rising
    bits_of_bytes bits_of digit num_of padded field_of
opens Ta k = refl
opens Ia k = refl
opens Ma k = refl
