-- What a done call says, at either machine: its public bits, and so many secret ones. Assumes nothing.
use mathlib.Core.Path.{◌≡◌, refl, sym, ap, ◌∙◌}
use mathlib.Core.Bool.{Bool, true, false, cond}
use mathlib.Core.List.{List, [], ◌++◌, append-nil}
use Prim.Native.Nat.{ℕ, ◌+◌, ◌-◌, ◌≤◌}
use native.Mathlib.Omega.{arith}
use lib.Dec.{eqb}
use lib.ListN.{length, take, replicate}
use Rattle.bits.specs.Bits.{bits_of}
use Rattle.bits.specs.Bytes.{bits_of_bytes}
use Rattle.bits.proofs.Numbers.{length-bits_of}
use Rattle.bits.proofs.Replies.{length_first}
use Rattle.grain.specs.declared.Session.{Session}
use Rattle.grain.specs.declared.Width.{Width}
use Rattle.grain.specs.Stored.{width_of}
use Rattle.payloads.specs.Payloads.{message, data_bits}
use Rattle.rules.specs.Calls.{Message}
use Rattle.rules.specs.Results.{done_by, compared_by}
use Rattle.rules.proofs.TagLaws.{Receivable, Sendable}
use Rattle.states.specs.Sessions.{stored_width, body_of, data_of, sent_bits}
use Rattle.states.proofs.Sessions.{width-stored, length-body_of, received_bits}
use Rattle.promises.specs.Order.{received_leads, sent_leads, Leads, done, failed}
use Rattle.promises.proofs.Fitting.{Whole, received_fits, sent_fits}
use Rattle.promises.proofs.Ordered.{Works}

-- a reply is its public bits, a secret of n bits, zeros, and a MAC of w
pub record Split (reply says : List Bool) (n zeros w : ℕ) : Type 0 where
  pub secret : List Bool
  pub secret_bits : length secret ≡ n
  pub mac : List Bool
  pub mac_bits : length mac ≡ w
  pub said : reply ≡ says ++ (secret ++ (replicate zeros false ++ mac))

-- it ends with a secret, or has none
pub ends_secret : (reply says secret : List Bool) (n : ℕ) → length secret ≡ n → reply ≡ says ++ secret → Split reply says n 0 0
ends_secret reply says secret n e h = record { secret = secret; secret_bits = e; mac = []; mac_bits = refl; said = h ∙ ap (λ (l : List Bool). says ++ l) (sym (append-nil secret)) }

pub all_public : (l : List Bool) → Split l l 0 0 0
all_public l = ends_secret l l [] 0 refl (sym (append-nil l))

pub all_secret : (l : List Bool) (n : ℕ) → length l ≡ n → Split l [] n 0 0
all_secret l n e = ends_secret l [] l n e refl

module _ {S F : Type 0} (face : S → F) (is_sound : S → Bool) (s closed : S) (b : List ℕ) where
  -- a done result, whose reply has the form that the table says
  pub done_works : (p : Leads F) (t : S) (l : List Bool) → face t ≡ p.done → Whole l b → Split l p.says p.secret p.zeros p.mac → Works face is_sound p s closed b (done_by t l)
  done_works p t l f w q = record {
    fits = w;
    worked = λ z. done (record { answer = refl; next = f; sound = z; secret = q.secret; secret_bits = q.secret_bits; mac = q.mac; mac_bits = q.mac_bits; said = q.said });
  }

  -- ---- a message that came

  module _ (f g : F) (w : ℕ) (m : Message) (x : Session) (r : Receivable w m.count (length m.payload)) (room : 265 ≤ length b) where
    abbrev v : Width
    v = stored_width w

    abbrev cs : List Bool
    cs = take (data_bits (width_of v) m.count) (bits_of_bytes m.payload)

    received_split : (secure : Bool)
        → Split (data_of v secure cs x) (cond secure [] (take (m.count - (8 + w)) (bits_of_bytes m.payload))) (cond secure (m.count - (8 + w)) 0) 0 0
    received_split true =
        all_secret _ _ (received_bits v true m.count m.payload x r.within ∙ ap (λ (n : ℕ). data_bits n m.count) (width-stored w r.wide r.width))
    received_split false = unfold data_of in rw (width-stored w r.wide r.width) (all_public _)

    pub received_works : (same : Bool) (next shut : S) → face next ≡ f → face shut ≡ g
        → Works face is_sound (received_leads f g w m) s closed b (compared_by same next (data_of v (eqb m.kind 2) cs x) shut)
    unfolding compared_by
    received_works true next shut e h = done_works _ next _ e (received_fits b room w (eqb m.kind 2) m.count m.payload x r) (received_split (eqb m.kind 2))
    received_works false next shut e h = record {
      fits = omega arith;
      worked = λ z. failed (record { compared = refl; answer = refl; next = h; sound = z; said = refl });
    }

  -- ---- a message that is sent

  module _ (f g : F) (w secure : ℕ) (m : Message) (x : Session) (wide : Bool) (e : w ≡ cond wide 64 32) (r : Sendable (length b) m.count (length m.payload)) where
    abbrev ms : List Bool
    ms = take m.count (bits_of_bytes m.payload)

    sent_split : (z : Bool) → Split (sent_bits (stored_width w) z ms x) (cond z [] ms) (cond z m.count 0) 8 w
    unfolding sent_bits message
    sent_split true = record {
      secret = body_of (stored_width w) true ms x;
      secret_bits = length-body_of (stored_width w) true ms x ∙ length_first m.count m.payload r.within;
      mac = bits_of (width_of (stored_width w)) _;
      mac_bits = length-bits_of _ _ ∙ width-stored w wide e;
      said = refl;
    }
    sent_split false = unfold body_of in record {
      secret = [];
      secret_bits = refl;
      mac = bits_of (width_of (stored_width w)) _;
      mac_bits = length-bits_of _ _ ∙ width-stored w wide e;
      said = refl;
    }

    pub sent_works : (next : S) → face next ≡ f → Works face is_sound (sent_leads f g w secure m) s closed b (done_by next (sent_bits (stored_width w) (eqb m.kind secure) ms x))
    sent_works next h = done_works _ next _ h (sent_fits (stored_width w) (eqb m.kind secure) m.count m.payload x b r) (sent_split (eqb m.kind secure))
