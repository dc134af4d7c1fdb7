-- Document 01, "Replies and refusals": the numbers and their one order. Assumes nothing.
use Rattle.std.specs.Prelude.{Bool, true, false, cond, ℕ, Result, Ok, Err, ⊤}
use Rattle.rules.specs.declared.Answer.{Answer}
use Rattle.rules.specs.declared.Answer.TheVariants.{Done, BadBook, SmallBuffer, WrongKind, Unsupported, UnknownKey, WrongLength, Closed, BadState, NoWork, Mismatch, BadArgument}
use Rattle.rules.specs.declared.Refused.{Refused}
use Rattle.rules.specs.declared.Keeping.{Keeping}
use Rattle.rules.specs.declared.Closing.{Closing}

-- the table's numbers
abbrev pub number_of : Answer → ℕ
number_of Done = 0
number_of BadBook = 1
number_of SmallBuffer = 2
number_of WrongKind = 3
number_of Unsupported = 4
number_of UnknownKey = 5
number_of WrongLength = 6
number_of Closed = 7
number_of BadState = 8
number_of NoWork = 9
number_of Mismatch = 10
number_of BadArgument = 11

-- what the checks say: go on, or refuse
abbrev pub Verdict : Type 0
Verdict = Result ⊤ Refused

-- refused, and the state kept
abbrev pub keep : Answer → Verdict
keep a = Err (record { closes = false; answer = a })

-- refused, and the state closed
abbrev pub close : Answer → Verdict
close a = Err (record { closes = true; answer = a })

-- "kind (3), length and zero bits (6), method and step (3), KeyID (5), method and options support (4)": these close
unfoldable pub closing_of : Closing → Verdict
closing_of c =
    cond c.kind (close WrongKind)
    (cond c.length (close WrongLength)
    (cond c.step (close WrongKind)
    (cond c.key (close UnknownKey)
    (cond c.support (close Unsupported)
    (Ok tt)))))

-- "Order: 8, 2, 11, 1, 7, 9": these keep the state, and stand before those that close it
unfoldable pub verdict_of : Keeping → Closing → Verdict
verdict_of k c =
    cond k.buffer (keep SmallBuffer)
    (cond k.argument (keep BadArgument)
    (cond k.book (keep BadBook)
    (cond k.error (keep Closed)
    (cond k.work (keep NoWork)
    (closing_of c)))))

-- "closed (begin: kept)": the same refusals, and each keeps the state
unfoldable pub kept : Verdict → Verdict
kept (Ok tt) = Ok tt
kept (Err r) = keep r.answer

-- 8, "a stored state against the rules", stands first. It asks about the stored state alone, and so stands around the other checks,
-- which speak of sound states
unfoldable pub if_sound : Bool → Verdict → Verdict
if_sound sound v = cond sound v (keep BadState)
