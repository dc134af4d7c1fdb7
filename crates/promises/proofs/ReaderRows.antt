-- The demand's table of the reader and that of `rules` say the same, stage by stage: a call is refused by the same check. Assumes nothing.
use mathlib.Core.Path.{◌≡◌, refl, sym, ap, ◌∙◌}
use mathlib.Core.Bool.{Bool, not-not, true, false, not, cond, ◌&&◌, ◌||◌, and-true, or-false}
use mathlib.Core.List.{List}
use Prim.Native.Nat.{ℕ}
use lib.Dec.{eqb, ltb}
use Rattle.bits.specs.Bytes.{bits_of_bytes}
use Rattle.payloads.specs.Payloads.{number_limit, status_in, zeros_of, supports, offers}
use Rattle.faces.specs.declared.ReaderFace.{ReaderFace}
use Rattle.faces.specs.declared.Stage.{Stage}
use Rattle.faces.specs.declared.Stage.TheVariants.{Idle, Step0Sent, Step1Sent, Open, Closed}
use Rattle.faces.specs.ReaderFaces.{stage_row, reader_width, reader_fits}
use Rattle.rules.specs.Answers.{verdict_of, if_sound}
use Rattle.rules.specs.Calls.{Message, Begin, message_shown}
use Rattle.rules.specs.ReaderRules.{begin_shown, begin_keeping, begin_closing, reply_shown, reply_length, reply_keeping, reply_closing, reply_verdict, send_keeping, send_closing, send_verdict, receive_keeping, receive_closing, receive_verdict}
use Rattle.promises.specs.Order.{first_of}
use Rattle.promises.specs.ReaderTable.{width_at, stage_fits, reader_face_fits, bare_stage, is_idle, begin_checks, waits, reply_right, features_right, status_right, reply_checks, is_open, send_checks, receive_checks}
use Rattle.promises.proofs.Ordered.{number_in, first_is}

-- ---- the columns

-- what holds of each row holds of every stage
every : (P : Stage → Type 0) → P Idle → P Step0Sent → P Step1Sent → P Open → P Closed → (n : Stage) → P n
every P a b c d e Idle = a
every P a b c d e Step0Sent = b
every P a b c d e Step1Sent = c
every P a b c d e Open = d
every P a b c d e Closed = e

idle-row : (n : Stage) → (stage_row n).idle ≡ is_idle n
idle-row = every (λ n. (stage_row n).idle ≡ is_idle n) refl refl refl refl refl

waits-row : (n : Stage) → ((stage_row n).asked || (stage_row n).proving) ≡ waits n
waits-row = every (λ n. ((stage_row n).asked || (stage_row n).proving) ≡ waits n) refl refl refl refl refl

open_row : (n : Stage) → (stage_row n).opened ≡ is_open n
open_row = every (λ n. (stage_row n).opened ≡ is_open n) refl refl refl refl refl

-- a length is one method's or another's
chosen : (a x y : Bool) → ((a && x) || (not a && y)) ≡ cond a x y
chosen true x y = or-false x
chosen false x y = refl

sent_length : (a : Bool) (count : ℕ) → cond a (eqb count 120) (eqb count 56) ≡ eqb count (cond a 120 56)
sent_length true count = refl
sent_length false count = refl

pub reply-row : (n : Stage) (m c s : ℕ) → reply_length (stage_row n) m c s ≡ reply_right n m c s
reply-row n m c s =
    every (λ n. reply_length (stage_row n) m c s ≡ reply_right n m c s) refl
    (or-false _ ∙ chosen (eqb m 0) (eqb c 120) (eqb c 56) ∙ sent_length (eqb m 0) c) (chosen (eqb m 1) _ _) refl refl n

features-row : (n : Stage) (x m o : ℕ) → ((stage_row n).asked && not (offers x m && supports x o)) ≡ not (features_right n x m o)
features-row n x m o = every (λ n. ((stage_row n).asked && not (offers x m && supports x o)) ≡ not (features_right n x m o)) refl refl refl refl refl n

pub status-row : (n : Stage) (s : ℕ) → ((stage_row n).proving && eqb s 1) ≡ not (status_right n s)
status-row n s = every (λ n. ((stage_row n).proving && eqb s 1) ≡ not (status_right n s)) refl refl (sym (not-not (eqb s 1))) refl refl n

-- ---- the faces

pub stage-bare : (n : Stage) → not ((stage_row n).asked || (stage_row n).proving || (stage_row n).opened) ≡ bare_stage n
stage-bare = every (λ n. not ((stage_row n).asked || (stage_row n).proving || (stage_row n).opened) ≡ bare_stage n) refl refl refl refl refl

width-row : (n : Stage) (o : ℕ) → reader_width (stage_row n) o ≡ width_at n o
width-row n o = every (λ n. reader_width (stage_row n) o ≡ width_at n o) refl refl refl refl refl n

stage-row : (x : Bool) (n : Stage) (f : ReaderFace)
    → ((x && not ((stage_row n).proving && eqb f.method 0)) && (not (bare_stage n) || (eqb f.method 0 && eqb f.options 0 && eqb f.keyid 0 && eqb f.number 0)))
    ≡ (x && stage_fits n f)
stage-row x Idle f = simp and-true
stage-row x Step0Sent f = simp and-true
stage-row x Step1Sent f = simp and-true
stage-row x Open f = simp and-true
stage-row x Closed f = simp and-true

pub reader-fits-same : (f : ReaderFace) → reader_fits f ≡ reader_face_fits f
unfolding reader_fits
reader-fits-same f =
    rw (width-row, stage-bare)
    (stage-row (ltb f.options 4 && eqb f.width (width_at f.stage f.options) && ltb f.method 3 && ltb f.number number_limit) f.stage f)

-- ---- the checks

pub begin_first : (sound : Bool) (f : ReaderFace) (i : Begin) (room : ℕ)
    → first_of (begin_checks sound f i room) ≡ number_in (if_sound sound (verdict_of (begin_keeping (stage_row f.stage) (begin_shown i room)) (begin_closing (begin_shown i room)))) 0
begin_first sound f i room = ap first_of (rw idle-row) ∙ first_is sound (begin_keeping (stage_row f.stage) (begin_shown i room)) (begin_closing (begin_shown i room)) false

pub reply_first : (sound : Bool) (f : ReaderFace) (payload : List ℕ) (count room : ℕ)
    → first_of (reply_checks sound f payload count room)
    ≡ number_in (if_sound sound (reply_verdict f (reply_shown payload count room))) (cond ((stage_row f.stage).proving && eqb (status_in (bits_of_bytes payload)) 1) 10 0)
unfolding reply_verdict
reply_first sound f payload count room =
    let p = reply_shown payload count room in
    let row = stage_row f.stage in
    ap first_of (rw (waits-row, reply-row, features-row, status-row)) ∙ first_is sound (reply_keeping row p) (reply_closing row f p) (row.proving && eqb (status_in (bits_of_bytes payload)) 1)

pub send_first : (sound : Bool) (f : ReaderFace) (m : Message) (room : ℕ)
    → first_of (send_checks sound f m room) ≡ number_in (if_sound sound (send_verdict f (message_shown m room))) 0
unfolding send_verdict
send_first sound f m room = ap first_of (rw open_row) ∙ first_is sound (send_keeping (stage_row f.stage) f (message_shown m room)) send_closing false

pub receive_first : (sound : Bool) (f : ReaderFace) (m : Message) (room : ℕ)
    → first_of (receive_checks sound f m room)
    ≡ number_in (if_sound sound (receive_verdict f (message_shown m room) (zeros_of f.width m.count (bits_of_bytes m.payload)))) 0
unfolding receive_verdict zeros_of
receive_first sound f m room =
    let zeros = zeros_of f.width m.count (bits_of_bytes m.payload) in
    ap first_of (rw open_row)
    ∙ first_is sound (receive_keeping (stage_row f.stage) f (message_shown m room)) (receive_closing f (message_shown m room) zeros) false
