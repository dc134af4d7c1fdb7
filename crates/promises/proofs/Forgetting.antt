-- Nothing of an earlier board is left in what a call gives, and our tag ignores bits beyond the given count. Assumes nothing.
use mathlib.Core.Path.{◌≡◌, refl, sym, ap, ◌∙◌}
use mathlib.Core.Bool.{Bool, true, false, not, cond, ◌&&◌, true≢false}
use mathlib.Core.List.{List}
use Prim.Native.Nat.{ℕ, ◌+◌, ◌-◌, ◌*◌, ◌≤◌, min}
use native.Mathlib.Decide.{dec_le}
use native.Mathlib.Omega.{arith}
use lib.Dec.{eqb}
use lib.ListN.{length, take, length-take}
use lib.Seq.{take-take}
use borrow.Author.Tests.{eqb-true, le-ltb, lt-ltb, not-false}
use Rattle.std.specs.declared.result.Result.TheVariants.{Ok, Err}
use Rattle.bits.specs.Bytes.{bits_of_bytes, field_of}
use Rattle.bits.proofs.Bools.{neither}
use Rattle.bits.proofs.Fields.{field-same}
use Rattle.bits.proofs.Bytes.{length-bits_of_bytes}
use Rattle.bits.proofs.Replies.{area_same, length_first}
use Rattle.book.specs.Book as Book
use Rattle.grain.specs.declared.Session.{Session}
use Rattle.grain.specs.declared.Width.{Width}
use Rattle.grain.specs.Stored.{width_of}
use Rattle.payloads.specs.Payloads.{key_id_in, data_bits, beyond_of, zeros_of}
use Rattle.faces.specs.declared.Face.{Face}
use Rattle.faces.specs.declared.Name.{Name}
use Rattle.faces.specs.declared.Name.TheVariants.{CsReset, Ta1, Ia1, Ia2, Ma1, Ma2}
use Rattle.faces.specs.TagFaces.{row_of, fresh}
use Rattle.rules.specs.declared.Shown.{Shown}
use Rattle.rules.specs.declared.Work.TheVariants.{Start, Prove, Receive}
use Rattle.rules.specs.Answers.{Verdict, if_sound}
use Rattle.rules.specs.Calls.{Command, Message}
use Rattle.rules.specs.Results.{Result, said, decided, compared_by}
use Rattle.rules.specs.TagRules.{key_under, shown_of, command_verdict, command_work}
use Rattle.rules.proofs.Verdicts.{sound_goes}
use Rattle.rules.proofs.TagLaws.{command_passed, command_receivable}
use Rattle.states.specs.Sessions.{stored_width, after_message, data_of, same_mac}
use Rattle.states.specs.TagStates.{TagState, face_of, secrets_of, sound_of, closed_tag, with_session}
use Rattle.states.proofs.Sessions.{width-stored}
use Rattle.machines.specs.TagWork.{start_of, prove_of, receive_of, worked_of, carried_of, command_of, send_of, response_of}
use Rattle.machines.proofs.TagSound.{face-sound}
use Rattle.promises.specs.Ours.{given}
use Rattle.promises.specs.Order.{Settled}
use Rattle.promises.specs.TagTable.{takes}
use Rattle.promises.specs.Demand1.{AlikeTo, with_slice, message_with}
use Rattle.promises.proofs.Public.{Told, verdict-same}
use Rattle.promises.proofs.TagRows.{takes-row}

-- ---- a result, shown in buffers of one length

pub given_settled : {S : Type 0} (r : Result S) (b e : List ℕ) → length b ≡ length e → Settled (given r b) (given r e)
given_settled r b e h = record { next = refl; answer = refl; bits = refl; area = area_same r.reply b e h }

-- of a call that looks at the length of its buffer
pub room_settled : {S : Type 0} (call : ℕ → Result S) (b e : List ℕ) → length b ≡ length e → Settled (given (call (length b)) b) (given (call (length e)) e)
room_settled call b e h = rw h (given_settled (call (length e)) b e h)

-- ---- slices alike in their first bits

module _ {count : ℕ} {xs ys : List ℕ} (a : AlikeTo count xs ys) where
  pub field_alike : (at w : ℕ) → at + w ≤ count → field_of at w (bits_of_bytes xs) ≡ field_of at w (bits_of_bytes ys)
  field_alike at w h = field-same at w count _ _ h a.bits

  pub take_alike : (n : ℕ) → n ≤ count → take n (bits_of_bytes xs) ≡ take n (bits_of_bytes ys)
  take_alike n h = sym (take-take n count _ h) ∙ ap (take n) a.bits ∙ take-take n count _ h

-- both hold the count, or neither does
within_alike : {count : ℕ} {xs ys : List ℕ} → AlikeTo count xs ys → count ≤ 8 * length xs → count ≤ 8 * length ys
within_alike {count} {xs} {ys} a h =
    let n : length (take count (bits_of_bytes ys)) ≡ count = ap length (sym a.bits) ∙ length_first count xs h in
    let m : min count (length (bits_of_bytes ys)) ≡ count = sym (length-take count (bits_of_bytes ys)) ∙ n in
    let z = length-bits_of_bytes ys in
    omega (arith, m, z)

pub beyond_alike : {count : ℕ} {xs ys : List ℕ} → AlikeTo count xs ys → beyond_of xs count ≡ beyond_of ys count
beyond_alike {count} {xs} {ys} a =
    elim (dec_le count (8 * length xs)) [
      | yes h ↦ le-ltb _ _ h ∙ sym (le-ltb _ _ (within_alike a h))
      | no h ↦ elim (dec_le count (8 * length ys)) [
        | yes g ↦ absurd (h (within_alike (record { bits = sym a.bits }) g))
        | no g ↦ lt-ltb (8 * length xs) count (omega arith) ∙ sym (lt-ltb (8 * length ys) count (omega arith))
      ]
    ]

-- one verdict, and the same work where it goes
pub decided-same : {S : Type 0} (u v : Verdict) (s closed : S) (x y : Result S) → u ≡ v → (u ≡ Ok tt → x ≡ y) → decided u s closed x ≡ decided v s closed y
unfolding decided
decided-same u v s closed x y e go = rw (← e) (at u refl)
  where
    at : (w : Verdict) → u ≡ w → decided w s closed x ≡ decided w s closed y
    at (Err r) h = refl
    at (Ok tt) h = go h

-- ---- a message that came, at either machine

module _ {S : Type 0} (moved : Session → S) (closed : S) (v : Width) (secure : Bool) (x : Session) {count : ℕ} {xs ys : List ℕ} (a : AlikeTo count xs ys)
    (long : 8 + width_of v ≤ count) where
  abbrev taken : List ℕ → Result S
  taken zs =
      let l = bits_of_bytes zs in
      let cs = take (data_bits (width_of v) count) l in
      compared_by (same_mac v l count x) (moved (after_message v cs x)) (data_of v secure cs x) closed

  pub taken-same : taken xs ≡ taken ys
  unfolding same_mac
  taken-same = rw (take_alike a (data_bits (width_of v) count) (omega arith), field_alike a (data_bits (width_of v) count + 8) (width_of v) (omega arith))

-- ---- a command

module _ (t : TagState) (c : Command) (slice b : List ℕ) (a : AlikeTo c.count c.payload slice) where
  abbrev f : Face
  f = face_of t

  abbrev d : Command
  d = with_slice c slice

  abbrev l : List Bool
  l = bits_of_bytes c.payload

  abbrev r : List Bool
  r = bits_of_bytes slice

  abbrev p : Shown
  p = shown_of f.width c (length b)

  abbrev q : Shown
  q = shown_of f.width d (length b)

  -- they show the same, where there is something to show
  shown_alike : Told f.width p q
  unfolding shown_of zeros_of
  shown_alike = record {
    kind = refl;
    count = refl;
    beyond = beyond_alike a;
    features = refl;
    number = refl;
    room = refl;
    book = refl;
    fields = λ k h.
        let id = field_alike a 8 8 (omega arith) in
        record {
          fields = rw (field_alike a 0 2 (omega arith), field_alike a 2 2 (omega arith), field_alike a 4 4 (omega arith), id);
          known = ap (λ (n : ℕ). eqb c.kind 0 && Book.known_of n c.book) id;
        };
    zeros = λ k i h. ap (λ (n : ℕ). eqb n 0) (field_alike a (c.count - (8 + f.width)) 8 (omega arith));
  }

  judged_same : (s : Bool) → sound_of t ≡ s → if_sound s (command_verdict f p) ≡ if_sound s (command_verdict f q)
  unfolding if_sound
  judged_same true e = verdict-same f (face-sound t e) p q shown_alike
  judged_same false e = refl

  -- the work of a command that has passed, by the state's name and whether it is an authentication
  module _ (well : sound_of t ≡ true) (go : command_verdict f p ≡ Ok tt) where
    abbrev key : List Bool → List ℕ
    key m = key_under c.kind (key_id_in m) c.book

    -- an authentication has its state's length
    length_is : (n : Name) → f.name ≡ n → eqb c.kind 0 ≡ true → c.count ≡ (row_of n).bits
    unfolding shown_of
    length_is n e k =
        let h = (neither (eqb c.kind 0 && not (eqb c.count (row_of f.name).bits)) _ (command_passed f p go).length).0 in
        eqb-true _ _ (not-false _ (rw (k, e) at h))

    start-same : 64 ≤ c.count → start_of p (key l) c.payload ≡ start_of q (key r) slice
    unfolding start_of shown_of
    start-same h =
        rw (field_alike a 0 2 (omega arith), field_alike a 8 8 (omega arith), field_alike a 4 4 (omega arith), field_alike a 16 48 (omega arith))

    prove-same : 80 ≤ c.count → prove_of t p c.payload ≡ prove_of t q slice
    unfolding prove_of shown_of
    prove-same h = rw (field_alike a 4 4 (omega arith), field_alike a 16 64 (omega arith))

    receive-same : eqb c.kind 0 ≡ false → receive_of t p c.payload ≡ receive_of t q slice
    unfolding receive_of shown_of
    receive-same k =
        let m = command_receivable f (face-sound t well) p (length c.payload) refl go k in
        let long : 8 + width_of (stored_width f.width) ≤ c.count = rw (width-stored f.width m.wide m.width) m.least in
        taken-same (with_session t) (closed_tag t) (stored_width f.width) (eqb c.kind 2) (secrets_of t) a long

    work-same : (n : Name) (x : Bool) → f.name ≡ n → eqb c.kind 0 ≡ x → takes n f.options c.kind ≡ true
        → worked_of (cond x (cond (fresh (row_of n)) Start Prove) Receive) t p (key l) c.payload
        ≡ worked_of (cond x (cond (fresh (row_of n)) Start Prove) Receive) t q (key r) slice
    unfolding worked_of
    work-same n false e k h = receive-same k
    work-same CsReset true e k h = let z = length_is CsReset e k in ap said (start-same (omega arith))
    work-same Ta1 true e k h = absurd (true≢false (sym h))
    work-same Ia1 true e k h = let z = length_is Ia1 e k in ap said (prove-same (omega arith))
    work-same Ia2 true e k h = absurd (true≢false (sym (rw (eqb-true c.kind 0 k) at h)))
    work-same Ma1 true e k h = let z = length_is Ma1 e k in ap said (prove-same (omega arith))
    work-same Ma2 true e k h = absurd (true≢false (sym (rw (eqb-true c.kind 0 k) at h)))

    command-work-same : worked_of (command_work f c.kind) t p (key l) c.payload ≡ worked_of (command_work f c.kind) t q (key r) slice
    unfolding command_work shown_of
    command-work-same =
        work-same f.name (eqb c.kind 0) refl refl (sym (takes-row f.name f.options c.kind) ∙ not-false _ (command_passed f p go).kind)

  pub command_ignores : command_of t c (length b) ≡ command_of t d (length b)
  unfolding command_of carried_of
  command_ignores =
      decided-same _ _ t (closed_tag t) _ _ (judged_same (sound_of t) refl)
      (λ v. let g = sound_goes _ _ v in unfold shown_of in command-work-same g.0 g.1)

-- ---- data that is to be sent: only its first bits and the slice's length are looked at

pub response_ignores : (t : TagState) (m : Message) (slice : List ℕ) (room : ℕ) → AlikeTo m.count m.payload slice → response_of t m room ≡ response_of t (message_with m slice) room
unfolding response_of send_of
response_ignores t m slice room a = rw (beyond_alike a, a.bits)
