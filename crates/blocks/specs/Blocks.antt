-- The lent block that holds a machine's state (include/kusarehyon.h): eight bytes, then numbers of eight bytes each, the highest
-- byte first. Assumes nothing.
use Rattle.std.specs.Prelude.{Bool, cond, ◌&&◌, List, [], ◌∷◌, ◌++◌, ℕ, ◌*◌, ◌<◌, ◌^◌, eqb, ltb, length, get_or, Option, Some, None}
use Rattle.bits.specs.Bits.{bits_of, num}
use Rattle.bits.specs.Bytes.{bits_of_bytes, bytes_of, field_of}
use Rattle.grain.specs.declared.Session.{Session}
use Rattle.faces.specs.declared.Name.{Name}
use Rattle.faces.specs.declared.Name.TheVariants.{CsReset, Ta1, Ia1, Ia2, Ma1, Ma2}
use Rattle.faces.specs.declared.Face.{Face}
use Rattle.faces.specs.declared.Stage.{Stage}
use Rattle.faces.specs.declared.Stage.TheVariants.{Idle, Step0Sent, Step1Sent, Open, Closed}
use Rattle.faces.specs.declared.ReaderFace.{ReaderFace}
use Rattle.faces.specs.TagFaces.{name_number}
use Rattle.faces.specs.ReaderFaces.{stage_number}
use Rattle.states.specs.TagStates.{TagState, face_of, secrets_of, tag_of}
use Rattle.states.specs.ReaderStates.{ReaderState, reader_face_of, reader_secrets_of, reader_of}

-- ---- parts

-- the byte at a place, 0 past the end
abbrev pub byte_at : ℕ → List ℕ → ℕ
byte_at i block = get_or block i 0

-- the number whose eight bytes begin at a place
unfoldable pub number_at : ℕ → List ℕ → ℕ
number_at at block = field_of (8 * at) 64 (bits_of_bytes block)

-- the eight bytes of a number
unfoldable pub number_bytes : ℕ → List ℕ
number_bytes n = bytes_of 8 (bits_of 64 n)

-- the session stands in the same place of both blocks
unfoldable pub session_in : List ℕ → Session
session_in block = record {
  engine = record {
    b = record { first = number_at 8 block; last = number_at 16 block };
    s = record { first = number_at 24 block; last = number_at 32 block };
  };
  acc = number_at 40 block;
  reg = number_at 48 block;
}

-- bytes 8 to 55 of either block
unfoldable pub session_bytes : Session → List ℕ
session_bytes x =
    number_bytes x.engine.b.first
    ++ (number_bytes x.engine.b.last
    ++ (number_bytes x.engine.s.first
    ++ (number_bytes x.engine.s.last
    ++ (number_bytes x.acc
    ++ number_bytes x.reg))))

-- a block of another length takes no state
abbrev pub stored_in : ℕ → List ℕ → List ℕ → List ℕ
stored_in bytes state block = cond (eqb (length block) bytes) state block

-- of a machine's state: its block's length, whether a block spells one, which, and its block
pub record Blocks (S : Type 0) : Type 0 where
  pub bytes : ℕ
  pub spells : List ℕ → Bool
  pub state_in : List ℕ → S
  pub block_of : S → List ℕ

-- some block "spells no state"
abbrev pub spelled_in : {S : Type 0} → Blocks S → List ℕ → Option S
spelled_in b block = cond (b.spells block) (Some (b.state_in block)) None

-- eight bytes hold a number below 2 ^ 64
abbrev pub Word : ℕ → Type 0
Word n = n < 2 ^ 64

-- so that what is written is read back
pub record Words (x : Session) : Type 0 where
  pub b_first : Word x.engine.b.first
  pub b_last : Word x.engine.b.last
  pub s_first : Word x.engine.s.first
  pub s_last : Word x.engine.s.last
  pub acc : Word x.acc
  pub reg : Word x.reg

-- ---- the tag

-- "tag, 56 bytes"
abbrev pub tag_bytes : ℕ
tag_bytes = 56

-- the header's "name", the first byte, read: 6 and more spell no state
unfoldable pub name_of : ℕ → Name
name_of n = cond (eqb n 0) CsReset (cond (eqb n 1) Ta1 (cond (eqb n 2) Ia1 (cond (eqb n 3) Ia2 (cond (eqb n 4) Ma1 Ma2))))

-- the length, a name, and four flags that are 0 or 1
unfoldable pub spells_tag : List ℕ → Bool
spells_tag block =
    eqb (length block) tag_bytes
    && ltb (byte_at 0 block) 6
    && ltb (byte_at 1 block) 2
    && ltb (byte_at 2 block) 2
    && ltb (byte_at 3 block) 2
    && ltb (byte_at 4 block) 2

-- the first eight bytes
abbrev pub tag_face_in : List ℕ → Face
tag_face_in block = record {
  name = name_of (byte_at 0 block);
  init = eqb (byte_at 1 block) 1;
  ta = eqb (byte_at 2 block) 1;
  ia = eqb (byte_at 3 block) 1;
  error = eqb (byte_at 4 block) 1;
  keyid = byte_at 5 block;
  options = byte_at 6 block;
  width = byte_at 7 block;
}

-- "A BLOCK holds a machine's whole state"
unfoldable pub tag_in : List ℕ → TagState
tag_in block = tag_of (tag_face_in block) (session_in block)

-- the eight bytes of a face
abbrev pub tag_head : Face → List ℕ
tag_head f =
    name_number f.name ∷ num f.init ∷ num f.ta ∷ num f.ia ∷ num f.error ∷ f.keyid ∷ f.options ∷ f.width ∷ []

-- "eight bytes, then numbers of eight bytes each, the highest byte first"
unfoldable pub tag_block : TagState → List ℕ
tag_block t = tag_head (face_of t) ++ session_bytes (secrets_of t)

-- the four of a tag's state
abbrev pub tag_blocks : Blocks TagState
tag_blocks = record { bytes = tag_bytes; spells = spells_tag; state_in = tag_in; block_of = tag_block }

-- ---- the reader

-- "reader, 64 bytes"
abbrev pub reader_bytes : ℕ
reader_bytes = 64

-- "stage: 0 idle, 1 step 0 sent, 2 step 1 sent, 3 open, 4 closed", read: 5 and more spell no state
unfoldable pub stage_of : ℕ → Stage
stage_of n = cond (eqb n 0) Idle (cond (eqb n 1) Step0Sent (cond (eqb n 2) Step1Sent (cond (eqb n 3) Open Closed)))

-- the length, a stage, and three zeros
unfoldable pub spells_reader : List ℕ → Bool
spells_reader block =
    eqb (length block) reader_bytes
    && ltb (byte_at 0 block) 5
    && ltb (byte_at 5 block) 1
    && ltb (byte_at 6 block) 1
    && ltb (byte_at 7 block) 1

-- the first eight bytes, and the reader's number behind the session
abbrev pub reader_face_in : List ℕ → ReaderFace
reader_face_in block = record {
  stage = stage_of (byte_at 0 block);
  method = byte_at 1 block;
  options = byte_at 2 block;
  keyid = byte_at 3 block;
  number = number_at 56 block;
  width = byte_at 4 block;
}

-- "A BLOCK holds a machine's whole state"
unfoldable pub reader_in : List ℕ → ReaderState
reader_in block = reader_of (reader_face_in block) (session_in block)

-- the eight bytes of a face but for its number
abbrev pub reader_head : ReaderFace → List ℕ
reader_head f = stage_number f.stage ∷ f.method ∷ f.options ∷ f.keyid ∷ f.width ∷ 0 ∷ 0 ∷ 0 ∷ []

-- "eight bytes, then numbers of eight bytes each, the highest byte first"
unfoldable pub reader_block : ReaderState → List ℕ
reader_block r = reader_head (reader_face_of r) ++ (session_bytes (reader_secrets_of r) ++ number_bytes (reader_face_of r).number)

-- the four of a reader's state
abbrev pub reader_blocks : Blocks ReaderState
reader_blocks = record { bytes = reader_bytes; spells = spells_reader; state_in = reader_in; block_of = reader_block }
