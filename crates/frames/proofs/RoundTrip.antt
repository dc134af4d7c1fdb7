-- What is written reads back the same, equal contents give equal bytes, and a frame that is read and written again gives the same
-- bytes. Assumes nothing.
use Prim.Native.Nat.{ℕ, ◌+◌, ◌-◌, ◌≤◌}
use mathlib.Core.List.{List, [], ◌∷◌, ◌++◌, append_assoc, append-nil}
use mathlib.Core.Path.{◌≡◌, refl, ap, sym, ◌∙◌}
use native.Mathlib.Nat.{zero-add}
use native.Mathlib.Numerals.{one-add}
use native.Mathlib.Omega.{arith}
use lib.Dec.{eqb, eqb-suc-zero}
use lib.ListN.{length, take, drop, length-drop}
use lib.Seq.{length-take-le, drop-append_seam, take_at, take-take, take-append-add, sets-eq}
use borrow.Author.Tests.{le-ltb}
use Rattle.bits.proofs.Bytes.{Octets}
use Rattle.bits.specs.Bytes.{bits_of_bytes}
use Rattle.counts.specs.Count.{count_bytes}
use Rattle.counts.specs.Payload.{size_of, unused_of, check_of}
use Rattle.std.specs.Prelude.{Ok}
use Rattle.std.proofs.lemmas.Bool.{cond_both}
use Rattle.counts.proofs.Counts.{count_back}
use Rattle.counts.proofs.Payloads.{Fit, fine_of, fit_front, front_bits, same-payload}
use Rattle.counts.proofs.Tails.{drop-run}
use Rattle.frames.specs.Frame.{reset, most_bits, limit_of, framed, after_count, scan_of, part_of, payload_of, frame_of, placed, written_of, changed, out_after}
use Rattle.frames.proofs.Answers.{FrameRead, frame_read, frame_within, frame_length, FrameWritten, frame_written}

limit-le : (kind : ℕ) → limit_of kind ≤ most_bits
unfolding limit_of
limit-le kind = cond_both (eqb kind reset) _ _ (λ (n : ℕ). n ≤ most_bits) (λ _. omega arith) (λ _. omega arith)

-- ---- what is written reads back the same

module _ (kind count : ℕ) (p rest : List ℕ) (low : kind ≤ reset) (f : Fit (limit_of kind) count p) where
  -- a frame, whatever follows it
  pub scan_back : scan_of (frame_of kind count p ++ rest)
      ≡ Ok (record { kind = kind; count = count; start = length (kind ∷ count_bytes count); end = length (frame_of kind count p) })
  unfolding scan_of after_count framed frame_of
  scan_back =
      let head : List ℕ = kind ∷ count_bytes count in
      let body : List ℕ = take (size_of count) p ++ rest in
      let most : count ≤ most_bits = omega (arith, f.small, limit-le kind) in
      let read = count_back (head ++ body) 1 most_bits count body refl most in
      let behind = ap (check_of (limit_of kind) count) (drop-append_seam (count_bytes count) body) ∙ fine_of (limit_of kind) count body (fit_front (limit_of kind) count p rest f) in
      rw (append_assoc head (take (size_of count) p) rest, frame_length kind count p f.long)
      (simp (eqb-suc-zero, le-ltb _ _ low, read, one-add) (ap (framed kind (record { count = count; next = length head })) behind))

  -- and its payload
  pub payload_back : payload_of (frame_of kind count p ++ rest) ≡ take (size_of count) p
  unfolding payload_of part_of frame_of
  payload_back =
      let head : List ℕ = kind ∷ count_bytes count in
      let own : List ℕ = take (size_of count) p in
      let size : length (frame_of kind count p) - length head ≡ size_of count = omega (arith, frame_length kind count p f.long) in
      rw (scan_back, size, append_assoc head own rest, drop-append_seam (count_bytes count) (own ++ rest))
      (take_at own rest (size_of count) (length-take-le (size_of count) p f.long))

-- from the place of a buffer where it was written: kind, count, bytes and bits
module _ (out : List ℕ) (at kind count : ℕ) (p : List ℕ) (next : ℕ)
    (done : written_of (length out) at kind count p ≡ Ok next) where
  written : FrameWritten (length out) at kind count p next
  written = frame_written (length out) at kind count p next done

  rest : List ℕ
  rest = drop (length (frame_of kind count p)) (drop at out)

  stands : drop at (out_after out at kind count p) ≡ frame_of kind count p ++ rest
  unfolding out_after changed rest
  stands =
      let frame : List ℕ = frame_of kind count p in
      let room : 0 + length frame ≤ length (drop at out) = rw length-drop (omega (arith, written.ends, written.room)) in
      rw (done, drop-run out at frame, sets-eq frame (drop at out) 0 room, zero-add)

  pub scan_written : scan_of (drop at (out_after out at kind count p))
      ≡ Ok (record { kind = kind; count = count; start = length (kind ∷ count_bytes count); end = next - at })
  scan_written =
      let end : length (frame_of kind count p) ≡ next - at = omega (arith, written.ends) in
      rw (stands, scan_back kind count p rest written.low written.fit, end)

  pub payload_written : payload_of (drop at (out_after out at kind count p)) ≡ take (size_of count) p
  payload_written = rw stands (payload_back kind count p rest written.low written.fit)

  pub bits_written : take count (bits_of_bytes (payload_of (drop at (out_after out at kind count p)))) ≡ take count (bits_of_bytes p)
  bits_written = rw payload_written (front_bits count p)

-- ---- equal contents give equal bytes

pub same_bytes : (kind count : ℕ) (p q : List ℕ) → Octets p → Octets q → size_of count ≤ length p → size_of count ≤ length q
    → unused_of count p ≡ 0 → unused_of count q ≡ 0 → take count (bits_of_bytes p) ≡ take count (bits_of_bytes q)
    → frame_of kind count p ≡ frame_of kind count q
unfolding frame_of
same_bytes kind count p q g h lp lq zp zq e =
    ap (λ (l : List ℕ). (kind ∷ count_bytes count) ++ l) (same-payload count p q g h lp lq zp zq e)

-- ---- a frame that is read and written again gives the same bytes

module _ (s : List ℕ) (kind count start end : ℕ) (b : Octets s) (frame : scan_of s ≡ Ok (record { kind = kind; count = count; start = start; end = end })) where
  read : FrameRead s kind count start end
  read = frame_read s kind count start end b frame

  own : payload_of s ≡ take (size_of count) (drop start s)
  unfolding payload_of part_of
  own = let size : end - start ≡ size_of count = omega (arith, read.ends) in rw (frame, size)

  pub bytes_again : frame_of kind count (payload_of s) ≡ take end s
  unfolding frame_of
  bytes_again =
      let head : List ℕ = kind ∷ count_bytes count in
      let n : ℕ = size_of count in
      let e : end ≡ length head + n = omega (arith, read.ends, read.starts) in
      let whole = ap (λ (l : List ℕ). take (length head + n) l) read.head ∙ take-append-add head (drop start s) n in
      rw (own, take-take n n (drop start s) (omega arith), e) (sym whole)

  pub written_again : (len at : ℕ) → at + end ≤ len → written_of len at kind count (payload_of s) ≡ Ok (at + end)
  unfolding written_of placed
  written_again len at room =
      let f = rw append-nil at (fit_front (limit_of kind) count (drop start s) [] read.fit) in
      let fine = fine_of (limit_of kind) count (payload_of s) (rw own f) in
      let size = ap length bytes_again ∙ length-take-le end s (frame_within s kind count start end read).1 in
      simp (le-ltb _ _ read.low, fine, size, le-ltb _ _ room)
