-- Host frames (document 01, "Host frames"). Assumes nothing.
use Rattle.std.specs.Prelude.{ℕ, ◌+◌, ◌-◌, cond, List, [], ◌∷◌, ◌++◌, Result, Ok, Err, eqb, ltb, length, get_or, take, drop}
use Rattle.std.proofs.lemmas.List.Edits.{sets}
use Rattle.counts.specs.Count.{count_bytes, count_at}
use Rattle.counts.specs.Payload.{size_of, check_of}
use Rattle.counts.specs.declared.Counted.{Counted}
use Rattle.counts.specs.declared.Refusal.{Refusal}
use Rattle.counts.specs.declared.Refusal.TheVariants.{Short, Kind, Room}
use Rattle.frames.specs.declared.Frame.{Frame}

-- kinds: 0 auth, 1 comm, 2 secure, 3 key update, 4 comm response wanted, 5 secure response wanted, 6 reset
abbrev pub reset : ℕ
reset = 6

-- kind byte, bit count, bytes
unfoldable pub frame_of : ℕ → ℕ → List ℕ → List ℕ
frame_of kind count payload = (kind ∷ count_bytes count) ++ take (size_of count) payload

-- the count is at most 2,120
abbrev pub most_bits : ℕ
most_bits = 2120

-- 21 over 2,120, or not 0 for kind 6
unfoldable pub limit_of : ℕ → ℕ
limit_of kind = cond (eqb kind reset) 0 most_bits

-- ---- reading

-- behind the count the payload begins, and behind the payload the next frame
unfoldable pub framed : ℕ → Counted → Result (Unit {0}) Refusal → Result Frame Refusal
framed kind c (Err why) = Err why
framed kind c (Ok fine) = Ok (record { kind = kind; count = c.count; start = c.next; end = c.next + size_of c.count })

-- the rules on a count and what stands behind it
unfoldable pub after_count : List ℕ → ℕ → Result Counted Refusal → Result Frame Refusal
after_count s kind (Err why) = Err why
after_count s kind (Ok c) = framed kind c (check_of (limit_of kind) c.count (drop c.next s))

-- an empty slice is 20; 23 kind above 6; then the count and what follows it
unfoldable pub scan_of : List ℕ → Result Frame Refusal
scan_of s =
    cond (eqb (length s) 0) (Err Short)
    (cond (ltb reset (get_or s 0 0)) (Err Kind)
    (after_count s (get_or s 0 0) (count_at s 1 most_bits)))

-- the part that a scan names: an empty one where it is refused
unfoldable pub part_of : List ℕ → Result Frame Refusal → List ℕ
part_of s (Err why) = []
part_of s (Ok frame) = take (frame.end - frame.start) (drop frame.start s)

-- reading hands back the payload as a part of the lent slice
unfoldable pub payload_of : List ℕ → List ℕ
payload_of s = part_of s (scan_of s)

-- ---- writing

-- 24 no room from the place: the frame would end at `next` of a buffer of `len` bytes
unfoldable pub placed : ℕ → ℕ → Result (Unit {0}) Refusal → Result ℕ Refusal
placed len next (Err why) = Err why
placed len next (Ok fine) = cond (ltb len next) (Err Room) (Ok next)

-- 23 kind above 6; then the count and the payload; then the room
unfoldable pub written_of : ℕ → ℕ → ℕ → ℕ → List ℕ → Result ℕ Refusal
written_of len at kind count payload =
    cond (ltb reset kind) (Err Kind)
    (placed len (at + length (frame_of kind count payload)) (check_of (limit_of kind) count payload))

-- a refused write changes nothing, a done one only the frame's own bytes
unfoldable pub changed : List ℕ → ℕ → List ℕ → Result ℕ Refusal → List ℕ
changed out at frame (Err why) = out
changed out at frame (Ok next) = sets out at frame

-- writing goes from a given place in the middle of a lent buffer to its end
unfoldable pub out_after : List ℕ → ℕ → ℕ → ℕ → List ℕ → List ℕ
out_after out at kind count payload =
    changed out at (frame_of kind count payload) (written_of (length out) at kind count payload)
