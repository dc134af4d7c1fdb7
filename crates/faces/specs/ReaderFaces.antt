-- Document 01, "Reader machine": its states, and what the public parts of a stored state must be. Assumes nothing.
use Rattle.std.specs.Prelude.{Bool, true, false, not, cond, ◌&&◌, ◌||◌, ℕ, ltb, eqb, Result, Ok, Err}
use Rattle.payloads.specs.Payloads.{mac_bits, number_limit}
use Rattle.faces.specs.declared.Stage.{Stage}
use Rattle.faces.specs.declared.Stage.TheVariants.{Idle, Step0Sent, Step1Sent, Open, Closed}
use Rattle.faces.specs.declared.StageRow.{StageRow}
use Rattle.faces.specs.declared.ReaderFace.{ReaderFace}
use Rattle.faces.specs.declared.Unnumbered.{Unnumbered}

-- "States: idle, step 0 sent, step 1 sent (IA, MA), open, closed"
abbrev pub stage_row : Stage → StageRow
stage_row Idle = record { idle = true; asked = false; proving = false; opened = false }
stage_row Step0Sent = record { idle = false; asked = true; proving = false; opened = false }
stage_row Step1Sent = record { idle = false; asked = false; proving = true; opened = false }
stage_row Open = record { idle = false; asked = false; proving = false; opened = true }
stage_row Closed = record { idle = false; asked = false; proving = false; opened = false }

-- the stages' numbers, in that order
abbrev pub stage_number : Stage → ℕ
stage_number Idle = 0
stage_number Step0Sent = 1
stage_number Step1Sent = 2
stage_number Open = 3
stage_number Closed = 4

-- the stage that a number is of, if it is any's
abbrev pub stage_numbered : ℕ → Result Stage Unnumbered
stage_numbered n =
    cond (eqb n 0) (Ok Idle)
    (cond (eqb n 1) (Ok Step0Sent)
    (cond (eqb n 2) (Ok Step1Sent)
    (cond (eqb n 3) (Ok Open)
    (cond (eqb n 4) (Ok Closed)
    (Err (record {}))))))

-- ---- what the public parts of a stored state must be: "At the reader: .."

-- "the width being 0 before step 1 sent or open", and there as options bit 0 says
abbrev pub reader_width : StageRow → ℕ → ℕ
reader_width row options = cond (row.proving || row.opened) (mac_bits options) 0

-- "idle or closed": nothing but zeros is held
abbrev pub reader_bare : ReaderFace → Bool
reader_bare f = not ((stage_row f.stage).asked || (stage_row f.stage).proving || (stage_row f.stage).opened)

-- "options are 4 or more; width ..; method above 2; number at or above 2^48; step 1 sent under TA; idle or closed with anything
-- but zeros"
unfoldable pub reader_fits : ReaderFace → Bool
reader_fits f =
    ltb f.options 4
    && eqb f.width (reader_width (stage_row f.stage) f.options)
    && ltb f.method 3
    && ltb f.number number_limit
    && not ((stage_row f.stage).proving && eqb f.method 0)
    && (not (reader_bare f) || (eqb f.method 0 && eqb f.options 0 && eqb f.keyid 0 && eqb f.number 0))
