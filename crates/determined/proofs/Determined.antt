-- Every public function of the cellar, by its own name: two outcomes that meet its contract are equal. Each contract is an equation
-- with a definition of specs/ for the result, and one for each lent memory; the two laws below are the whole argument. Assumes nothing.
use mathlib.Core.Path.{◌≡◌, refl, sym, ap, ap₂, ◌∙◌}
use mathlib.Core.List.{List}
use Prim.Native.Nat.{ℕ, zero, suc}
use Rattle.bits.proofs as Bits
use Rattle.bits.specs.contracts as BitsContracts
use Rattle.text.proofs as Text
use Rattle.text.specs.contracts as TextContracts
use Rattle.text.specs.Text.{Writes}
use Rattle.text.specs.declared.Line.{Line}
use Rattle.console.proofs as Console
use Rattle.console.specs.contracts as ConsoleContracts
use Rattle.counts.proofs as Counts
use Rattle.counts.specs.contracts as CountsContracts
use Rattle.book.proofs as Book
use Rattle.book.specs.contracts as BookContracts
use Rattle.frames.proofs as Frames
use Rattle.frames.specs.contracts as FramesContracts
use Rattle.payloads.proofs as Payloads
use Rattle.payloads.specs.contracts as PayloadsContracts
use Rattle.std.specs.Option.{option_copied}
use denote.RattleType.{RattleType}
use denote.Param.{number}
use denote.Param.Laws.{Laws}
use mir.Syntax.{Dict, w64}
use mir.Val.{Fits}
use Rattle.std.specs.declared.io.Print
use Rattle.determined.specs.Determined.{Determines, DeterminesShown}

-- ---- the argument: what is equal to one thing is equal, part by part; `refl` for parameters that lend nothing

pub part : {A B : Type 0} {x y : A × B} {e : A} → x.0 ≡ e → y.0 ≡ e → x.1 ≡ y.1 → x ≡ y
part p q r = ap₂ (λ a b. (a, b)) (p ∙ sym q) r

-- n parameters that lend nothing, before others
abbrev pub Past : ℕ → Type 0 → Type 0
Past zero B = B
Past (suc n) B = Unit {0} × Past n B

abbrev pub after : (n : ℕ) (B : Type 0) → Past n B → B
after zero B x = x
after (suc n) B x = after n B x.1

pub past : (n : ℕ) (B : Type 0) {x y : Past n B} → after n B x ≡ after n B y → x ≡ y
past zero B e = e
past (suc n) B e = ap (λ b. (tt, b)) (past n B e)

-- ---- bits

pub byte_at_lem : Determines BitsContracts.byte_at.ended Bits.byte_at.Reads.Post
byte_at_lem κs a x y p q = part p q refl

pub bit_at_lem : Determines BitsContracts.bit_at.ended Bits.bit_at.Reads.Post
bit_at_lem κs a x y p q = part p q refl

pub bits_in : Determines BitsContracts.bits_in.ended Bits.bits_in.Reads.Post
bits_in κs a x y p q = part p q refl

pub word_bits_lem : Determines BitsContracts.word_bits.ended Bits.word_bits.Reads.Post
word_bits_lem κs a x y p q = part p q refl

pub field : Determines BitsContracts.field.ended Bits.field.Reads.Post
field κs a x y p q = part p q refl

pub set-bit : Determines BitsContracts.set_bit.ended Bits.set_bit.Reads.Post
set-bit κs a x y p q = part refl refl (part p q refl)

pub bits_put : Determines BitsContracts.put.ended Bits.put.Reads.Post
bits_put κs a x y p q = part refl refl (part p q refl)

pub show : Determines BitsContracts.show.ended Bits.show.Reads.Post
show κs a x y p q = part refl refl (part p q refl)

pub clear : Determines BitsContracts.clear.ended Bits.clear.Reads.Post
clear κs a x y p q = part refl refl (part p q refl)

-- ---- text

writes : {W : Type 0} {text before : List ℕ} {at : ℕ} {x y : ℕ × (List ℕ × W)}
    → Writes text before at x.1.0 x.0 → Writes text before at y.1.0 y.0 → x.1.1 ≡ y.1.1 → x ≡ y
writes p q r = part p.place q.place (part p.bytes q.bytes r)

pub text_put : Determines TextContracts.put.ended Text.put.Reads.Post
text_put κs a x y p q = writes p q refl

pub decimal : Determines TextContracts.decimal.ended Text.decimal.Reads.Post
decimal κs a x y p q = writes p q refl

pub hex : Determines TextContracts.hex.ended Text.hex.Reads.Post
hex κs a x y p q = writes p q refl

pub spaced : Determines TextContracts.spaced.ended Text.spaced.Reads.Post
spaced κs a x y p q = writes p q refl

pub reply : Determines TextContracts.reply.ended Text.reply.Reads.Post
reply κs a x y p q = writes p q refl

-- a line of any length that a `usize` can be
module _ (n : ℕ) (fits : Fits w64 n) where
  abbrev line : List ℕ → ℕ → Line n
  line bytes at = record { bytes = bytes; at = at }

  lined : {W : Type 0} {text before : List ℕ} {at : ℕ} {x y : Unit {0} × (Line n × W)}
      → Writes text before at x.1.0.bytes x.1.0.at → Writes text before at y.1.0.bytes y.1.0.at → x.1.1 ≡ y.1.1 → x ≡ y
  lined p q r = part refl refl (part (ap₂ line p.bytes p.place) (ap₂ line q.bytes q.place) r)

  pub line_new : Determines (TextContracts.Line.new.ended (number n)) (Text.Line.new.Reads.Post n fits)
  line_new κs a x y p q = part p q refl

  pub line_put : Determines (TextContracts.Line.put.ended (number n)) (Text.Line.put.Reads.Post n fits)
  line_put κs a x y p q = lined p q refl

  pub line_decimal : Determines (TextContracts.Line.decimal.ended (number n)) (Text.Line.decimal.Reads.Post n fits)
  line_decimal κs a x y p q = lined p q refl

  pub line_hex : Determines (TextContracts.Line.hex.ended (number n)) (Text.Line.hex.Reads.Post n fits)
  line_hex κs a x y p q = lined p q refl

  pub line_spaced : Determines (TextContracts.Line.spaced.ended (number n)) (Text.Line.spaced.Reads.Post n fits)
  line_spaced κs a x y p q = lined p q refl

  pub line_reply : Determines (TextContracts.Line.reply.ended (number n)) (Text.Line.reply.Reads.Post n fits)
  line_reply κs a x y p q = lined p q refl

-- ---- console

-- whatever it is that takes the bytes
module _ (R : RattleType) (laws : Laws R) (print-ghosts : Print.Ghosts R.Denot) (dict : Dict) where
  pub print : Determines (ConsoleContracts.print.ended R print-ghosts dict) (Console.print.Reads.Post R laws print-ghosts dict)
  print κs a x y p q = part refl refl (past 1 _ (part p q refl))

  pub print_line : (n : ℕ) (fits : Fits w64 n)
      → Determines (ConsoleContracts.print_line.ended (number n) R print-ghosts dict)
      (Console.print_line.Reads.Post n R fits laws print-ghosts dict)
  print_line n fits κs a x y p q = part refl refl (past 1 _ (part p q refl))

-- ---- counts

pub refusal_number : Determines CountsContracts.U8FromRefusal.from.ended Counts.U8FromRefusal.from.Reads.Post
refusal_number κs a x y p q = part p q refl

pub count-read : Determines CountsContracts.read.ended Counts.read.Reads.Post
count-read κs a x y p q = part p q refl

pub count-check : Determines CountsContracts.check.ended Counts.check.Reads.Post
count-check κs a x y p q = part p q refl

pub count-size : Determines CountsContracts.size.ended Counts.size.Reads.Post
count-size κs a x y p q = part p q refl

pub count-groups : Determines CountsContracts.groups.ended Counts.groups.Reads.Post
count-groups κs a x y p q = part p q refl

pub count-put : Determines CountsContracts.put.ended Counts.put.Reads.Post
count-put κs a x y p q = part refl refl (part p q refl)

-- ---- book

pub sound : Determines BookContracts.sound.ended Book.sound.Reads.Post
sound κs a x y p q = part p q refl

pub find : DeterminesShown BookContracts.find.ended Book.find.Reads.Post (λ κs r. option_copied r)
find κs a x y p q = (p ∙ sym q, refl)

-- ---- frames

pub scan : Determines FramesContracts.scan.ended Frames.scan.Reads.Post
scan κs a x y p q = part p q refl

pub payload : DeterminesShown FramesContracts.payload.ended Frames.payload.Reads.Post (λ κs r. r.now)
payload κs a x y p q = (p ∙ sym q, refl)

pub write : Determines FramesContracts.write.ended Frames.write.Reads.Post
write κs a x y p q = part p.0 q.0 (part p.1 q.1 refl)

-- ---- payloads

pub beyond : Determines PayloadsContracts.beyond.ended Payloads.beyond.Reads.Post
beyond κs a x y p q = part p q refl

pub first_fields_lem : Determines PayloadsContracts.first_fields.ended Payloads.first_fields.Reads.Post
first_fields_lem κs a x y p q = part p q refl

pub features : Determines PayloadsContracts.features.ended Payloads.features.Reads.Post
features κs a x y p q = part p q refl

pub status : Determines PayloadsContracts.status.ended Payloads.status.Reads.Post
status κs a x y p q = part p q refl

pub payload-write : Determines PayloadsContracts.write.ended Payloads.write.Reads.Post
payload-write κs a x y p q = part p.0 q.0 (past 1 _ (part p.1 q.1 refl))

pub data_bits_lem : Determines PayloadsContracts.data_bits.ended Payloads.data_bits.Reads.Post
data_bits_lem κs a x y p q = part p q refl

pub zeros : Determines PayloadsContracts.zeros.ended Payloads.zeros.Reads.Post
zeros κs a x y p q = part p q refl

pub length-fits : Determines PayloadsContracts.length_fits.ended Payloads.length_fits.Reads.Post
length-fits κs a x y p q = part p q refl

pub mac-bits : Determines PayloadsContracts.mac_bits.ended Payloads.mac_bits.Reads.Post
mac-bits κs a x y p q = part p q refl

pub secure : Determines PayloadsContracts.secure.ended Payloads.secure.Reads.Post
secure κs a x y p q = part p q refl

pub supported : Determines PayloadsContracts.supported.ended Payloads.supported.Reads.Post
supported κs a x y p q = part p q refl

pub offered : Determines PayloadsContracts.offered.ended Payloads.offered.Reads.Post
offered κs a x y p q = part p q refl

pub start-supported : Determines PayloadsContracts.start_supported.ended Payloads.start_supported.Reads.Post
start-supported κs a x y p q = part p q refl
