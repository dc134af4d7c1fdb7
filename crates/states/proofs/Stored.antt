-- What the machines store is the cipher's: each step of `Sessions`, from what a state of the cipher is stored as, gives what the cipher's
-- next state is stored as. Assumes nothing.
use mathlib.Core.Path.{◌≡◌, sym, ap, ap₂, ◌∙◌}
use mathlib.Core.Bool.{Bool, cond}
use mathlib.Core.List.{List, [], ◌++◌, append-nil}
use Prim.Native.Nat.{ℕ}
use native.Mathlib.Omega.{arith}
use lib.ListN.{length, drop}
use Rattle.bits.specs.Bytes.{bits_of_bytes, padded, field_of}
use Rattle.bits.proofs.Bytes.{length-bits_of_bytes, length-padded, padded-add, padded_at}
use Rattle.grain.specs.declared.Width.{Width}
use Rattle.grain.specs.Generator.{State}
use Rattle.grain.specs.Start.{loaded, started}
use Rattle.grain.specs.Mac.{Mac, filled, authenticated, encrypted, decrypted}
use Rattle.grain.specs.Stored.{width_of, bits_r, engine_of, session_of, keystream_of}
use Rattle.grain.proofs.Words.{Sized, state_of-engine_of}
use Rattle.grain.proofs.Back.{Whole, word_back, sized_loaded, mac_of-session_of}
use Rattle.states.specs.Sessions.{method_of, key_in, begun_engine, filled_session, next_keystream, after_message, body_of, data_of}

-- ---- the start

module _ (key : List ℕ) (e : length key ≡ 16) where
  pub key-size : length (bits_of_bytes key) ≡ 128
  key-size = rw (length-bits_of_bytes key) (omega arith)

  pub key-stored : bits_r (key_in key) ≡ bits_of_bytes key
  unfolding bits_r field_of
  key-stored =
      let l = bits_of_bytes key in
      ap₂ (λ (x y : List Bool). x ++ y) (word_back 64 _ (length-padded 64 l)) (word_back 64 _ (length-padded 64 (drop 64 l))) ∙ sym (padded-add 64 64 l)
      ∙ ap (padded 128) (sym (append-nil l)) ∙ padded_at l [] 128 key-size

  pub begun-stored : (method reader tag : ℕ)
      → begun_engine (key_in key) method reader tag ≡ engine_of (started (loaded (method_of method) (bits_of_bytes key) reader tag))
  unfolding begun_engine
  begun-stored method reader tag =
      let st = loaded (method_of method) (bits_of_bytes key) reader tag in
      rw (key-stored, state_of-engine_of st (sized_loaded (method_of method) (bits_of_bytes key) reader tag key-size))

module _ (st : State) (h : Sized st) where
  pub filled-stored : (v : Width) → filled_session v (engine_of st) ≡ session_of (filled (width_of v) st)
  unfolding filled_session
  filled-stored v = rw (state_of-engine_of st h)

  pub keystream-stored : next_keystream (engine_of st) ≡ keystream_of 64 st
  unfolding next_keystream
  keystream-stored = rw (state_of-engine_of st h)

-- ---- messages

module _ (v : Width) (x : Mac) (h : Whole (width_of v) x) where
  pub message-stored : (body : List Bool) → after_message v body (session_of x) ≡ session_of (authenticated body x)
  unfolding after_message
  message-stored body = rw (mac_of-session_of (width_of v) x h)

  pub body_stored : (secure : Bool) (ms : List Bool) → body_of v secure ms (session_of x) ≡ cond secure (encrypted ms x) ms
  unfolding body_of
  body_stored secure ms = rw (mac_of-session_of (width_of v) x h)

  pub data_stored : (secure : Bool) (cs : List Bool) → data_of v secure cs (session_of x) ≡ cond secure (decrypted cs x) cs
  unfolding data_of
  data_stored secure cs = rw (mac_of-session_of (width_of v) x h)
