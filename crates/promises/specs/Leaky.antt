-- Tags that leak, each made from ours by changing one thing: `proofs/Leaks`, `LeaksData` and `LeaksKey` show that demand 3 fails of
-- each. Assumes nothing.
use Rattle.std.specs.Prelude.{Bool, false, not, cond, ◌&&◌, List, [], ◌∷◌, ℕ, suc, eqb, take, drop, get_or}
use Rattle.std.specs.Bool.{beq}
use Rattle.bits.specs.Bits.{num, bits_of}
use Rattle.bits.specs.Area.{shown}
use Rattle.bits.specs.Bytes.{bits_of_bytes}
use Rattle.grain.specs.Stored.{width_of}
use Rattle.payloads.specs.Payloads.{options_in, data_bits, zeros_of}
use Rattle.faces.specs.declared.Face.{Face}
use Rattle.rules.specs.Calls.{Command}
use Rattle.states.specs.Sessions.{chosen_width, stored_width, filled_session, next_keystream, data_of}
use Rattle.states.specs.TagStates.{TagState, face_of, secrets_of, tag_of}
use Rattle.promises.specs.Machines.{Given, TagMachine}
use Rattle.promises.specs.Silence.{reply_of}
use Rattle.promises.specs.Ours.{our_tag}
use Rattle.promises.specs.Wrong.{with_command, answering}

-- ours, but that what a command gives is changed
abbrev pub changing : (TagState → Command → List ℕ → Given TagState → Given TagState) → TagMachine
changing change = with_command (λ t c buffer. change t c buffer (our_tag.command t c buffer))

-- with other bits in the place of the reply
abbrev pub replying : List Bool → List ℕ → Given TagState → Given TagState
replying reply buffer g = record { next = g.next; answer = g.answer; bits = g.bits; buffer = shown reply buffer }

-- ---- where a comparison fails: "their replies and whole stored states are equal"

-- an answer of 10 is changed
abbrev pub on_mismatch : (TagState → Command → List ℕ → Given TagState → Given TagState) → TagMachine
on_mismatch change = changing (λ t c buffer g. cond (eqb g.answer 10) (change t c buffer g) g)

-- leaves what came in
abbrev pub with_input : TagState → Command → List ℕ → Given TagState → Given TagState
with_input t c buffer g = replying (bits_of_bytes c.payload) buffer g

-- leaves what came in where the reply should be
abbrev pub leaves_input : TagMachine
leaves_input = on_mismatch with_input

-- what a message says, whether or not its MAC is right
abbrev pub said_by : TagState → Command → List Bool
said_by t c =
    let v = stored_width (face_of t).width in
    data_of v (eqb c.kind 2) (take (data_bits (width_of v) c.count) (bits_of_bytes c.payload)) (secrets_of t)

-- leaves what it decrypted of a message whose MAC is wrong
abbrev pub with_data : TagState → Command → List ℕ → Given TagState → Given TagState
with_data t c buffer g = cond (eqb c.kind 0) g (replying (said_by t c) buffer g)

-- "Leaving decrypted bits behind when the MAC differs"
abbrev pub leaves_decrypted : TagMachine
leaves_decrypted = on_mismatch with_data

-- how many bits agree before the first that does not
unfoldable pub agreed : List Bool → List Bool → ℕ
agreed [] ys = 0
agreed (x ∷ xs) [] = 0
agreed (x ∷ xs) (y ∷ ys) = cond (beq x y) (suc (agreed xs ys)) 0

-- the keystream that a step 1 command is compared with
unfoldable pub expected : TagState → List Bool → List Bool
expected t l = bits_of 64 (next_keystream (filled_session (chosen_width (options_in l)) (secrets_of t).engine).engine).word

-- a number in the accumulator, which the face does not show
abbrev pub placed : ℕ → TagState → TagState
placed n t = let x = secrets_of t in tag_of (face_of t) (record { engine = x.engine; acc = n; reg = x.reg })

-- stops comparing at the first wrong bit, and keeps the place
abbrev pub with_place : TagState → Command → List ℕ → Given TagState → Given TagState
with_place t c buffer g = record {
  next = placed (agreed (expected t (bits_of_bytes c.payload)) (drop 16 (bits_of_bytes c.payload))) g.next;
  answer = g.answer;
  bits = g.bits;
  buffer = g.buffer;
}

-- keeps how far the guess was right
abbrev pub keeps_place : TagMachine
keeps_place = on_mismatch with_place

-- ---- where nothing is compared: they "answer alike"

-- the first bit of the first key in a command's book
abbrev pub key_bit : Command → Bool
key_bit c = get_or (bits_of_bytes c.book) 8 false

-- answers 10 for n where the key's first bit is 1
abbrev pub tells_for : ℕ → TagMachine
tells_for n = changing (λ t c buffer g. cond (eqb g.answer n && key_bit c) (answering 10 g) g)

-- for 3, a command that is not for the state
abbrev pub tells_key : TagMachine
tells_key = tells_for 3

-- for 6, a payload of a wrong length, also where one of the right length would be compared
abbrev pub tells_early : TagMachine
tells_early = tells_for 6

-- looks at the eight bits of a key update, kind 3, too: no bit of it is public
abbrev pub tells_zeros : TagMachine
tells_zeros =
    changing (λ t c buffer g. cond (eqb c.kind 3 && not (zeros_of (face_of t).width c.count (bits_of_bytes c.payload))) (answering 6 g) g)

-- sends the key's first bit as the first of its features, which is one of those that "are sent on and change nothing"
abbrev pub marks_features : TagMachine
marks_features = changing (λ t c buffer g. cond (eqb g.bits 56) (replying (key_bit c ∷ drop 1 (reply_of g)) buffer g) g)

-- says what the lent buffer held, where a command with the features of IA alone is done: an earlier board's bits
abbrev pub leaves_earlier : TagMachine
leaves_earlier =
    changing (λ t c buffer g. cond (eqb c.features 2 && eqb g.answer 0) (replying (take g.bits (bits_of_bytes buffer)) buffer g) g)

-- ---- ours, with the first bit of the key in its last command's book

-- the tag, and the bit
pub record Knowing : Type 0 where
  pub tag : TagState
  pub bit : Bool

-- what our tag gives, beside a bit
abbrev pub beside : Bool → Given TagState → Given Knowing
beside bit g = record { next = record { tag = g.next; bit = bit }; answer = g.answer; bits = g.bits; buffer = g.buffer }

-- by what it keeps of the bit where a comparison fails, how it closes, and what it tells as its error type
abbrev pub knowing : (Bool → Bool) → (Knowing → TagState) → (Knowing → ℕ) → TagMachine
knowing keeps closing telling = record {
  State = Knowing;
  reset = λ buffer. beside false (our_tag.reset buffer);
  command = λ k c buffer. let g = our_tag.command k.tag c buffer in beside (cond (eqb g.answer 10) (keeps (key_bit c)) (key_bit c)) g;
  response = λ k m buffer. beside k.bit (our_tag.response k.tag m buffer);
  close = λ k. record { tag = closing k; bit = false };
  error_type = telling;
  face = λ k. face_of k.tag;
  session = λ k. secrets_of k.tag;
  sound = λ k. our_tag.sound k.tag;
}

-- nothing
abbrev pub forgets : Bool → Bool
forgets bit = false

-- still knows it where a comparison has failed
abbrev pub keeps_key : TagMachine
keeps_key = knowing (λ bit. bit) (λ k. our_tag.close k.tag) (λ k. our_tag.error_type k.tag)

-- tells it as the error type of an open tag, which is 0
abbrev pub error_tells : TagMachine
error_tells = knowing forgets (λ k. our_tag.close k.tag) (λ k. cond (face_of k.tag).error (our_tag.error_type k.tag) (num k.bit))

-- with another KeyID
abbrev pub named : ℕ → Face → Face
named n f = record { name = f.name; init = f.init; ta = f.ta; ia = f.ia; error = f.error; keyid = n; options = f.options; width = f.width }

-- leaves it as the KeyID of a tag that is closed
abbrev pub close_tells : TagMachine
close_tells =
    knowing forgets (λ k. let t = our_tag.close k.tag in tag_of (named (num k.bit) (face_of t)) (secrets_of t)) (λ k. our_tag.error_type k.tag)
