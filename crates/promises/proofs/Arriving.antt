-- A message of any body, with any word for its MAC, as it is delivered: its zero bits are zero, and a receiver in the same session
-- compares the word with the body's MAC. Assumes nothing.
use mathlib.Core.Path.{◌≡◌, refl, ◌∙◌}
use mathlib.Core.Bool.{Bool, true, cond}
use mathlib.Core.List.{List}
use Prim.Native.Nat.{ℕ, ◌+◌, ◌^◌, ◌<◌}
use native.Mathlib.Omega.{arith}
use lib.Dec.{eqb}
use lib.ListN.{length, take}
use borrow.Author.Tests.{eq-eqb}
use Rattle.bits.specs.Bits.{num_of}
use Rattle.bits.proofs.Fields.{field-of}
use Rattle.grain.specs.declared.Session.{Session}
use Rattle.grain.specs.declared.Width.{Width}
use Rattle.grain.specs.Mac.{Mac, authenticated, decrypted}
use Rattle.grain.specs.Stored.{width_of, session_of}
use Rattle.grain.proofs.Back.{Whole}
use Rattle.payloads.specs.Payloads.{message, data_bits, zeros_of}
use Rattle.payloads.proofs.Reading.{message-zeros, message-mac, message_body}
use Rattle.rules.specs.Results.{compared_by}
use Rattle.states.specs.Sessions.{after_message, data_of, same_mac}
use Rattle.states.proofs.Stored.{message-stored, data_stored}

-- delivered in bits l
module _ (v : Width) (x : Mac) (whole : Whole (width_of v) x) (body : List Bool) (guess : ℕ) (small : guess < 2 ^ width_of v) (l : List Bool)
    (same : take (length body + 8 + width_of v) l ≡ message body (width_of v) guess) where
  abbrev came : ℕ
  came = length body + 8 + width_of v

  data_count : data_bits (width_of v) came ≡ length body
  data_count = omega arith

  body_is : take (length body) l ≡ body
  body_is = message_body body (length body) (width_of v) guess refl l came (omega arith) same

  pub zeros_are : zeros_of (width_of v) came l ≡ true
  unfolding zeros_of
  zeros_are =
      rw data_count
      (eq-eqb _ _ (field-of (length body) 8 came l _ same (omega arith) ∙ message-zeros body (length body) (width_of v) guess refl))

  mac_is : same_mac v l came (session_of x) ≡ eqb (num_of (authenticated body x).acc) guess
  unfolding same_mac session_of
  mac_is =
      rw (
        data_count,
        body_is,
        message-stored v x whole body,
        field-of (length body + 8) (width_of v) came l _ same (omega arith) ∙ message-mac body (length body) (width_of v) guess refl small,
      )

  -- at a machine whose state the message moves to `moved`
  pub compared : {S : Type 0} (secure : Bool) (moved : Session → S) (closed : S)
      → compared_by (same_mac v l came (session_of x)) (moved (after_message v (take (data_bits (width_of v) came) l) (session_of x)))
      (data_of v secure (take (data_bits (width_of v) came) l) (session_of x)) closed
      ≡ compared_by (eqb (num_of (authenticated body x).acc) guess) (moved (session_of (authenticated body x)))
      (cond secure (decrypted body x) body) closed
  compared secure moved closed = rw (mac_is, data_count, body_is, message-stored v x whole body, data_stored v x whole secure body)
