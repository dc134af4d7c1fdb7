-- What is known of a frame from the answer that it got. Assumes nothing.
use Prim.Native.Nat.{ℕ, suc, ◌+◌, ◌≤◌, ◌<◌}
use mathlib.Core.List.{List, [], ◌∷◌, ◌++◌}
use mathlib.Core.Path.{◌≡◌, refl, ap, sym, ◌∙◌, subst}
use native.Mathlib.Numerals.{add-one}
use native.Mathlib.Omega.{arith}
use lib.Dec.{eqb, ltb}
use lib.ListN.{length, get_or, take, drop, length-append}
use lib.Seq.{drop-cons, drop-drop, length-take-le, sets}
use borrow.Author.Tests.{ltb-false, eqb-false}
use Rattle.bits.proofs.Bytes.{Octets}
use Rattle.bits.proofs.Lists.{sets-append}
use Rattle.counts.specs.Count.{count_bytes, count_at}
use Rattle.counts.specs.Payload.{size_of, check_of}
use Rattle.counts.specs.declared.Counted.{Counted}
use Rattle.counts.specs.declared.Refusal.{Refusal}
use Rattle.std.specs.Prelude.{Result, Ok, Err, IfOk}
use Rattle.std.proofs.lemmas.Bool.{cond_both}
use Rattle.counts.proofs.Counts.{CountRead, count-read, count_few}
use Rattle.counts.proofs.Payloads.{Fit, fit_of}
use Rattle.frames.specs.Frame.{reset, most_bits, limit_of, framed, after_count, scan_of, frame_of, placed, written_of}
use Rattle.frames.specs.declared.Frame.{Frame}

-- ---- a frame that is read

pub record FrameRead (s : List ℕ) (kind count start end : ℕ) : Type 0 where
  pub low : kind ≤ reset
  pub head : s ≡ (kind ∷ count_bytes count) ++ drop start s
  pub starts : start ≡ length (kind ∷ count_bytes count)
  pub fit : Fit (limit_of kind) count (drop start s)
  pub ends : end ≡ start + size_of count

abbrev ReadIf : List ℕ → Result Frame Refusal → Type 0
ReadIf s r = IfOk r (λ f. FrameRead s f.kind f.count f.start f.end)

module _ (s : List ℕ) (b : Octets s) (some : 0 < length s) (low : get_or s 0 0 ≤ reset) where
  read-framed : (count start : ℕ) → count_at s 1 most_bits ≡ Ok (record { count = count; next = start }) → (r : Result (Unit {0}) Refusal)
      → check_of (limit_of (get_or s 0 0)) count (drop start s) ≡ r → ReadIf s (framed (get_or s 0 0) (record { count = count; next = start }) r)
  unfolding framed
  read-framed count start e (Err why) f = tt
  read-framed count start e (Ok fine) f =
      let r : CountRead 1 most_bits count start (drop 1 s) = count-read s 1 most_bits count start b e in
      let starts : start ≡ suc (length (count_bytes count)) = omega (arith, r.place) in
      let rest = drop-drop (length (count_bytes count)) 1 s ∙ ap (λ (k : ℕ). drop k s) (sym r.place) in
      record {
        low = low;
        head = drop-cons s 0 0 some ∙ ap (λ (l : List ℕ). get_or s 0 0 ∷ l) (rw rest at r.bytes);
        starts = starts;
        fit = fit_of (limit_of (get_or s 0 0)) count (drop start s) f;
        ends = refl;
      }

  read-counted : (r : Result Counted Refusal) → count_at s 1 most_bits ≡ r → ReadIf s (after_count s (get_or s 0 0) r)
  unfolding after_count
  read-counted (Err why) e = tt
  read-counted (Ok c) e = read-framed c.count c.next e (check_of (limit_of (get_or s 0 0)) c.count (drop c.next s)) refl

pub frame_read : (s : List ℕ) (kind count start end : ℕ) → Octets s → scan_of s ≡ Ok (record { kind = kind; count = count; start = start; end = end })
    → FrameRead s kind count start end
unfolding scan_of
frame_read s kind count start end b e = subst (ReadIf s) e told
  where
    told : ReadIf s (scan_of s)
    told =
        cond_both (eqb (length s) 0) _ _ (ReadIf s) (λ _. tt)
        (λ n. cond_both (ltb reset (get_or s 0 0)) _ _ (ReadIf s) (λ _. tt)
        (λ k. read-counted s b (omega (arith, eqb-false (length s) 0 n)) (ltb-false _ _ k) (count_at s 1 most_bits) refl))

-- it lies within its slice
pub frame_within : (s : List ℕ) (kind count start end : ℕ) → FrameRead s kind count start end → (start ≤ end) × (end ≤ length s)
frame_within s kind count start end r =
    let size = rw length-append at (ap length r.head) in
    (omega (arith, r.ends), omega (arith, size, r.starts, r.ends, r.fit.long))

-- ---- a frame that is written

pub frame_length : (kind count : ℕ) (payload : List ℕ) → size_of count ≤ length payload
    → length (frame_of kind count payload) ≡ suc (length (count_bytes count)) + size_of count
unfolding frame_of
frame_length kind count payload h =
    length-append (kind ∷ count_bytes count) (take (size_of count) payload)
    ∙ ap (λ (n : ℕ). suc (length (count_bytes count)) + n) (length-take-le (size_of count) payload h)

-- so long, if it is fine
pub fine_length : (kind count : ℕ) (payload : List ℕ) → check_of (limit_of kind) count payload ≡ Ok tt
    → length (frame_of kind count payload) ≡ suc (length (count_bytes count)) + size_of count
fine_length kind count payload e = frame_length kind count payload (fit_of (limit_of kind) count payload e).long

-- so few bytes, too, that the sums with their number fit
pub ruleset frame_sizes = (fine_length, count_few)

-- its parts, one behind the other
pub frame_runs : (out : List ℕ) (at kind count : ℕ) (payload : List ℕ)
    → (let counted : List ℕ = sets (sets out at (kind ∷ [])) (at + 1) (count_bytes count) in
    sets counted (at + 1 + length (count_bytes count)) (take (size_of count) payload) ≡ sets out at (frame_of kind count payload))
unfolding frame_of
frame_runs out at kind count payload =
    let e : at + 1 + length (count_bytes count) ≡ at + suc (length (count_bytes count)) = omega arith in
    rw (e, add-one at) (sym (sets-append out at (kind ∷ count_bytes count) (take (size_of count) payload)))

pub record FrameWritten (len at kind count : ℕ) (payload : List ℕ) (next : ℕ) : Type 0 where
  pub low : kind ≤ reset
  pub fit : Fit (limit_of kind) count payload
  pub ends : next ≡ at + length (frame_of kind count payload)
  pub room : next ≤ len

pub frame_written : (len at kind count : ℕ) (payload : List ℕ) (next : ℕ)
    → written_of len at kind count payload ≡ Ok next → FrameWritten len at kind count payload next
unfolding written_of placed
frame_written len at kind count payload next e = subst P e told
  where
    P : Result ℕ Refusal → Type 0
    P r = IfOk r (FrameWritten len at kind count payload)

    after : (r : Result (Unit {0}) Refusal) → kind ≤ reset → check_of (limit_of kind) count payload ≡ r
        → P (placed len (at + length (frame_of kind count payload)) r)
    after (Err why) k f = tt
    after (Ok fine) k f =
        cond_both (ltb len (at + length (frame_of kind count payload))) _ _ P (λ _. tt)
        (λ r. record { low = k; fit = fit_of (limit_of kind) count payload f; ends = refl; room = ltb-false _ _ r })

    told : P (written_of len at kind count payload)
    told = cond_both (ltb reset kind) _ _ P (λ _. tt) (λ k. after (check_of (limit_of kind) count payload) (ltb-false _ _ k) refl)
