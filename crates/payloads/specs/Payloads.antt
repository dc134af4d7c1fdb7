-- Document 01, "Payloads, first bit highest in its byte": layouts, their fields, and the tables of options and features.
-- Assumes nothing.
use Rattle.std.specs.Prelude.{Bool, false, not, cond, ◌&&◌, ◌||◌, List, [], ◌++◌, ℕ, ◌+◌, ◌-◌, ◌*◌, ◌/◌, ◌%◌, ◌^◌, ltb, leb, eqb, length, replicate}
use Rattle.bits.specs.Bits.{bits_of}
use Rattle.bits.specs.Bytes.{field_of}
use Rattle.payloads.specs.declared.Fields.{Fields}
use Rattle.payloads.specs.declared.Payload.{Payload}
use Rattle.payloads.specs.declared.Payload.TheVariants.{StepZero, StepOne, TagProof, TagChallenge, Status, MutualProof, Nothing}

-- ---- authentication commands

-- "Step 0 command, 64 bits: method 2, step 2 (00), options 4, KeyID 8, reader's number 48"
unfoldable pub step_zero : ℕ → ℕ → ℕ → ℕ → List Bool
step_zero method options key_id number = bits_of 2 method ++ (bits_of 2 0 ++ (bits_of 4 options ++ (bits_of 8 key_id ++ bits_of 48 number)))

-- "Step 1 command, 80 bits: method, step 01, options, KeyID, IKeystream 64"
unfoldable pub step_one : ℕ → ℕ → ℕ → ℕ → List Bool
step_one method options key_id keystream = bits_of 2 method ++ (bits_of 2 1 ++ (bits_of 4 options ++ (bits_of 8 key_id ++ bits_of 64 keystream)))

-- "method 2", in either command
abbrev pub method_in : List Bool → ℕ
method_in l = field_of 0 2 l

-- "step 2 (00)", and "step 01" in step 1
abbrev pub step_in : List Bool → ℕ
step_in l = field_of 2 2 l

-- "options 4", in either command
abbrev pub options_in : List Bool → ℕ
options_in l = field_of 4 4 l

-- "KeyID 8", in either command
abbrev pub key_id_in : List Bool → ℕ
key_id_in l = field_of 8 8 l

-- the fields that both commands begin with
abbrev pub fields_in : List Bool → Fields
fields_in l = record { method = method_in l; step = step_in l; options = options_in l; keyid = key_id_in l }

-- "reader's number 48", in step 0
abbrev pub reader_number_in : List Bool → ℕ
reader_number_in l = field_of 16 48 l

-- a number has 48 bits: one "at or above 2^48" is refused
abbrev pub number_limit : ℕ
number_limit = 2 ^ 48

-- "IKeystream 64", in step 1
abbrev pub reader_keystream_in : List Bool → ℕ
reader_keystream_in l = field_of 16 64 l

-- ---- authentication responses

-- "Responses: TA 120 bits (features 8, tag's number 48, 64 keystream bits)"; of the features,
-- "bits 5 to 7 are sent on and change nothing"
unfoldable pub tag_proof : ℕ → ℕ → ℕ → List Bool
tag_proof features number keystream = bits_of 8 features ++ (bits_of 48 number ++ bits_of 64 keystream)

-- "IA and MA step 0, 56 bits"
unfoldable pub tag_challenge : ℕ → ℕ → List Bool
tag_challenge features number = bits_of 8 features ++ bits_of 48 number

-- "IA step 1, one bit": 0, or 1 on failure
unfoldable pub status : ℕ → List Bool
status s = bits_of 1 s

-- "MA step 1, bit 0 and keystream bits 64..127"
unfoldable pub mutual_proof : ℕ → List Bool
mutual_proof keystream = bits_of 1 0 ++ bits_of 64 keystream

-- "features 8", in either response to step 0
abbrev pub features_in : List Bool → ℕ
features_in l = field_of 0 8 l

-- "tag's number 48", in either response to step 0
abbrev pub tag_number_in : List Bool → ℕ
tag_number_in l = field_of 8 48 l

-- "64 keystream bits", in TA's
abbrev pub tag_keystream_in : List Bool → ℕ
tag_keystream_in l = field_of 56 64 l

-- "one bit", the first of every response to step 1
abbrev pub status_in : List Bool → ℕ
status_in l = field_of 0 1 l

-- "keystream bits 64..127", in MA's
abbrev pub mutual_keystream_in : List Bool → ℕ
mutual_keystream_in l = field_of 1 64 l

-- ---- a payload by its fields

-- each layout above, and none
unfoldable pub layout_of : Payload → List Bool
layout_of (StepZero method options keyid number) = step_zero method options keyid number
layout_of (StepOne method options keyid keystream) = step_one method options keyid keystream
layout_of (TagProof features number keystream) = tag_proof features number keystream
layout_of (TagChallenge features number) = tag_challenge features number
layout_of (Status s) = status s
layout_of (MutualProof keystream) = mutual_proof keystream
layout_of Nothing = []

-- ---- communication

-- "Communication: 0 to 2,048 data bits, eight zero bits, MAC of w bits. The zero bits are neither encrypted nor in the MAC"
unfoldable pub message : List Bool → ℕ → ℕ → List Bool
message body w mac = body ++ (replicate 8 false ++ bits_of w mac)

-- "0 to 2,048 data bits"
abbrev pub data_limit : ℕ
data_limit = 2048

-- how many of a message's bits are data: the eight zero bits and the MAC are not
abbrev pub data_bits : ℕ → ℕ → ℕ
data_bits w count = count - (8 + w)

-- whether the "eight zero bits" of a message are zero
unfoldable pub zeros_of : ℕ → ℕ → List Bool → Bool
zeros_of w count l = eqb (field_of (data_bits w count) 8 l) 0

-- a message's length: "0 to 2,048 data bits, eight zero bits, MAC of w bits"
abbrev pub length_fits : ℕ → ℕ → Bool
length_fits w count = leb (8 + w) count && leb count (data_limit + 8 + w)

-- ---- Options (Table 4): "bit 0 chooses MAC64, bit 1 secure messages (acts in MA only), bits 2 and 3 must be 0"

-- Tables 4 and 5 number their bits from the lowest
abbrev pub has_bit : ℕ → ℕ → Bool
has_bit k n = eqb (n / 2 ^ k % 2) 1

-- "bit 0 chooses MAC64"
abbrev pub mac64 : ℕ → Bool
mac64 options = has_bit 0 options

-- the w that options choose: 64 or 32
abbrev pub mac_bits : ℕ → ℕ
mac_bits options = cond (mac64 options) 64 32

-- "bit 1 secure messages"; that it "acts in MA only" is kept by `row_of` and `may_talk`
abbrev pub securing : ℕ → Bool
securing options = has_bit 1 options

-- ---- Features (Table 5): "bit 0 TA, 1 IA, 2 MAC32, 3 MAC64, 4 secure"

-- "Options bit 0 needs feature 3 if 1, feature 2 if 0; options bit 1 needs feature 4, in every method"; "bits 2 and 3 must be 0"
abbrev pub supports : ℕ → ℕ → Bool
supports features options =
    ltb options 4
    && ((mac64 options && has_bit 3 features) || (not (mac64 options) && has_bit 2 features))
    && (not (securing options) || has_bit 4 features)

-- "the method's own bit"; document 02, Req 01: "TA needs bit 0, IA bit 1, and MA none"
abbrev pub offers : ℕ → ℕ → Bool
offers features method = (eqb method 0 && has_bit 0 features) || (eqb method 1 && has_bit 1 features) || eqb method 2

-- step 0: "the method's own bit is held at step 0 only"; options as TA asks, and "0000 for IA and MA"
abbrev pub supports_start : ℕ → ℕ → ℕ → Bool
supports_start features method options =
    offers features method && ((eqb method 0 && supports features options) || (not (eqb method 0) && eqb options 0))

-- ---- a payload in a lent slice

-- "bit count beyond the lent slice"
abbrev pub beyond_of : List ℕ → ℕ → Bool
beyond_of bytes count = ltb (8 * length bytes) count
