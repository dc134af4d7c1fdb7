-- Document 01, "Tag machine": the table of states, what the public parts of a stored state must be, and Annex B's error types.
-- Assumes nothing.
use Rattle.std.specs.Prelude.{Bool, true, false, not, cond, ◌&&◌, ◌||◌, ℕ, ltb, eqb, Result, Ok, Err}
use Rattle.std.specs.Bool.{beq}
use Rattle.payloads.specs.Payloads.{mac_bits}
use Rattle.faces.specs.declared.Name.{Name}
use Rattle.faces.specs.declared.Name.TheVariants.{CsReset, Ta1, Ia1, Ia2, Ma1, Ma2}
use Rattle.faces.specs.declared.Row.{Row}
use Rattle.faces.specs.declared.Unnumbered.{Unnumbered}
use Rattle.faces.specs.declared.Face.{Face}

-- the table, a row for each state: its open flags (INIT, TA, IA); whether its two flags may both be false when closed; whether
-- accumulator and register are filled; the authentication that it takes (method, step and bits), 0 bits where it takes none;
-- whether comm commands are taken, or are 9; whether secure messages may be enabled; whether responses are given. Method 3 and
-- step 3 mean none; in CS-Reset method 3 means none of its own: its step 0 may be of method 0, 1 or 2, as `step_wanted` says.
-- "9 in this table is our reading where the standard is silent"
abbrev pub row_of : Name → Row
row_of CsReset = record { init = false; ta = false; ia = false; fails = false; filled = false; method = 3; step = 0; bits = 64; comm = false; idle = false; secure = false; responds = false }
row_of Ta1 = record { init = true; ta = true; ia = false; fails = false; filled = true; method = 3; step = 3; bits = 0; comm = false; idle = true; secure = false; responds = true }
row_of Ia1 = record { init = true; ta = false; ia = false; fails = false; filled = false; method = 1; step = 1; bits = 80; comm = false; idle = false; secure = false; responds = false }
row_of Ia2 = record { init = true; ta = false; ia = true; fails = true; filled = true; method = 3; step = 3; bits = 0; comm = true; idle = false; secure = false; responds = false }
row_of Ma1 = record { init = true; ta = false; ia = false; fails = false; filled = false; method = 2; step = 1; bits = 80; comm = false; idle = false; secure = false; responds = false }
row_of Ma2 = record { init = true; ta = true; ia = true; fails = true; filled = true; method = 3; step = 3; bits = 0; comm = true; idle = false; secure = true; responds = true }

-- the names' numbers, a method's states after one another
abbrev pub name_number : Name → ℕ
name_number CsReset = 0
name_number Ta1 = 1
name_number Ia1 = 2
name_number Ia2 = 3
name_number Ma1 = 4
name_number Ma2 = 5

-- the name that a number is of, if it is any's
abbrev pub name_numbered : ℕ → Result Name Unnumbered
name_numbered n =
    cond (eqb n 0) (Ok CsReset)
    (cond (eqb n 1) (Ok Ta1)
    (cond (eqb n 2) (Ok Ia1)
    (cond (eqb n 3) (Ok Ia2)
    (cond (eqb n 4) (Ok Ma1)
    (cond (eqb n 5) (Ok Ma2)
    (Err (record {})))))))

-- CS-Reset, the one state that takes step 0
abbrev pub fresh : Row → Bool
fresh row = eqb row.step 0

-- whose step 1 a state waits for: MA's, or else IA's
abbrev pub mutually : Face → Bool
mutually f = eqb (row_of f.name).method 2

-- ---- what the public parts of a stored state must be: "8 is given exactly when" they are not, or its secrets are not

-- "name and flags fit no row (IA.2 and MA.2, when closed, may also have TA and IA both false)"
abbrev pub flags_fit : Row → Face → Bool
flags_fit row f =
    beq f.init row.init
    && ((beq f.ta row.ta && beq f.ia row.ia) || (row.fails && f.error && not f.ta && not f.ia))

-- "the width isn't 0 in CS-Reset, IA.1, MA.1 and closed, or elsewhere 32 or 64 as options bit 0 says"
abbrev pub width_wanted : Row → Bool → ℕ → ℕ
width_wanted row error options = cond (row.filled && not error) (mac_bits options) 0

-- "options are 4 or more, or not 0 in IA.1 or MA.1"
abbrev pub options_fit : Row → ℕ → Bool
options_fit row options = ltb options 4 && (row.filled || eqb options 0)

-- "CS-Reset or closed": nothing but zeros is held "beside name and flags"
abbrev pub bare : Face → Bool
bare f = fresh (row_of f.name) || f.error

-- the four rules on public parts
unfoldable pub face_fits : Face → Bool
face_fits f =
    flags_fit (row_of f.name) f
    && eqb f.width (width_wanted (row_of f.name) f.error f.options)
    && options_fit (row_of f.name) f.options
    && (not (bare f) || (eqb f.keyid 0 && eqb f.options 0))

-- ---- Annex B's table, "from state and flags: 0 when ERROR is false"

-- "by Annex B's table, not its text": the text has a payload error in IA.1 or MA.1 as type 1, the table as type 3
unfoldable pub error_type : Face → ℕ
error_type f =
    cond f.error (cond (fresh (row_of f.name)) 1 (cond ((row_of f.name).fails && (not f.ta && not f.ia)) 2 3)) 0
