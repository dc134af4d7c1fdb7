-- The cipher's states keep their size through the start, the fill and every message, so that what is stored as words is read back as
-- it was. Assumes nothing.
use mathlib.Core.Path.{◌≡◌, sym, ap, ◌∙◌}
use mathlib.Core.Bool.{Bool}
use mathlib.Core.List.{List, [], ◌∷◌}
use Prim.Native.Nat.{ℕ, ◌<◌}
use lib.ListN.{length, length-append, length-drop}
use Rattle.bits.specs.Bits.{bits_of, num_of}
use Rattle.bits.proofs.Numbers.{length-bits_of, bits_of-num_of}
use Rattle.grain.specs.declared.Method.{Method}
use Rattle.grain.specs.Generator.{State}
use Rattle.grain.specs.Start.{iv, loaded, started}
use Rattle.grain.specs.Mac.{Mac, filled, taken, absorbed, authenticated}
use Rattle.grain.specs.Stored.{mac_of, session_of}
use Rattle.grain.proofs.Words.{Sized, state_of-engine_of}
use Rattle.grain.proofs.Runs.{sized_starts, sized_runs, sized_paired}
use Rattle.grain.proofs.Widths.{Wide, wide-filled, wide-authenticated}

pub sized_loaded : (m : Method) (key : List Bool) (reader tag : ℕ) → length key ≡ 128 → Sized (loaded m key reader tag)
unfolding loaded iv
sized_loaded m key reader tag e = (e, simp (length-append, length-drop, length-bits_of))

pub sized_started : (st : State) → Sized st → Sized (started st)
unfolding started
sized_started st h = sized_starts 256 st h

-- registers, accumulator and shift register have their bits
abbrev pub Whole : ℕ → Mac → Type 0
Whole w x = Sized x.st × Wide w x

pub whole-filled : (w : ℕ) (st : State) → Sized st → Whole w (filled w st)
unfolding filled
whole-filled w st h = (sized_runs w _ (sized_runs w st h), wide-filled w st)

sized_absorbed : (ms : List Bool) (x : Mac) → Sized x.st → Sized (absorbed ms x).st
unfolding absorbed taken
sized_absorbed [] x h = h
sized_absorbed (m ∷ ms) x h = sized_absorbed ms (taken m x) (sized_paired x.st h)

pub whole-authenticated : (w : ℕ) → 0 < w → (ms : List Bool) (x : Mac) → Whole w x → Whole w (authenticated ms x)
unfolding authenticated taken
whole-authenticated w p ms x h = (sized_paired _ (sized_absorbed ms x h.0), wide-authenticated w p ms x h.1)

pub word_back : (w : ℕ) (l : List Bool) → length l ≡ w → bits_of w (num_of l) ≡ l
word_back w l e = ap (λ (k : ℕ). bits_of k (num_of l)) (sym e) ∙ bits_of-num_of l

pub mac_of-session_of : (w : ℕ) (x : Mac) → Whole w x → mac_of w (session_of x) ≡ x
unfolding mac_of session_of
mac_of-session_of w x h =
    λ i. record { st = state_of-engine_of x.st h.0 i; acc = word_back w x.acc h.1.0 i; reg = word_back w x.reg h.1.1 i }
