-- Document 01, "Tag machine" and "Replies and refusals": what is refused, all on public parts. A message, kinds 1 and 2, has data
-- bits where an authentication has method, step, options and KeyID: the checks look at these under kind 0 alone. Assumes nothing.
use Rattle.std.specs.Prelude.{Bool, false, not, cond, ◌&&◌, ◌||◌, List, [], ℕ, ltb, eqb, Option, None}
use Rattle.bits.specs.Bytes.{bits_of_bytes}
use Rattle.book.specs.Book as Book
use Rattle.payloads.specs.Payloads.{data_limit, securing, supports, supports_start, fields_in, key_id_in, zeros_of, length_fits, beyond_of}
use Rattle.faces.specs.declared.Row.{Row}
use Rattle.faces.specs.declared.Face.{Face}
use Rattle.rules.specs.declared.Shown.{Shown}
use Rattle.rules.specs.declared.ShownMessage.{ShownMessage}
use Rattle.rules.specs.declared.Keeping.{Keeping}
use Rattle.rules.specs.declared.Closing.{Closing}
use Rattle.rules.specs.declared.Work.{Work}
use Rattle.rules.specs.declared.Work.TheVariants.{Start, Prove, Receive}
use Rattle.faces.specs.TagFaces.{row_of, fresh}
use Rattle.rules.specs.Answers.{Verdict, verdict_of}
use Rattle.rules.specs.Calls.{Command, small_room, big_number}

-- ---- what a command shows

-- the key under a command's KeyID: only an authentication, kind 0, has one to look for in the book
unfoldable pub key_under : ℕ → ℕ → List ℕ → List ℕ
key_under kind keyid book = cond (eqb kind 0) (Book.key_of keyid book) []

-- whether there is one, and which
unfoldable pub found_under : ℕ → ℕ → List ℕ → Option (List ℕ)
found_under kind keyid book = cond (eqb kind 0) (Book.found_of keyid book) None

-- to a state of the width w: of the payload the fields of an authentication but its keystream bits, and whether the eight bits are
-- zero; of the book whether it is sound, and has the command's KeyID
unfoldable pub shown_of : ℕ → Command → ℕ → Shown
shown_of w c room =
    let l = bits_of_bytes c.payload in
    record {
      kind = c.kind;
      count = c.count;
      beyond = beyond_of c.payload c.count;
      features = c.features;
      number = c.number;
      room = room;
      fields = fields_in l;
      zeros = zeros_of w c.count l;
      book = Book.sound_of c.book;
      known = eqb c.kind 0 && Book.known_of (key_id_in l) c.book;
    }

-- ---- what is refused, check by check

-- "length wrong, or the eight bits not zero": an authentication has the state's own length, a message a fitting one
abbrev pub wrong_length : Row → ℕ → Shown → Bool
wrong_length row w p =
    (eqb p.kind 0 && not (eqb p.count row.bits)) || (not (eqb p.kind 0) && not (length_fits w p.count && p.zeros))

-- "auth step 0", "auth step 1"; "comm; secure if enabled, else 3; others 3"
abbrev pub kind_wanted : Row → ℕ → ℕ → Bool
kind_wanted row options kind =
    (eqb kind 0 && ltb 0 row.bits) || (eqb kind 1 && row.comm) || (eqb kind 2 && (row.secure && securing options))

-- step 0 of the methods 0, 1 and 2 in CS-Reset, and else the row's own: "Method 11 is 3 at the tag"
abbrev pub step_wanted : Row → ℕ → ℕ → Bool
step_wanted row method step = eqb step row.step && ((fresh row && not (eqb method 3)) || (not (fresh row) && eqb method row.method))

-- "KeyID not in the book (step 0, begin), or not step 0's (step 1)"
abbrev pub key_fits : Row → ℕ → Shown → Bool
key_fits row stored p = (fresh row && p.known) || (not (fresh row) && eqb p.fields.keyid stored)

-- "This is held at step 0 in TA, at step 1 in IA and MA, whose step 0 asks only for 0000"
abbrev pub options_supported : Row → Shown → Bool
options_supported row p =
    (fresh row && supports_start p.features p.fields.method p.fields.options)
    || (not (fresh row) && supports p.features p.fields.options)

-- each check is true where it refuses: 11 "number at or above 2^48, kind above 3"; 7 "ERROR already set (tag)", and
-- "Only a reset opens it"; 9 "no work in this state", a comm command in TA.1
abbrev pub command_keeping : Row → Face → Shown → Keeping
command_keeping row f p = record {
  buffer = small_room p.room;
  argument = p.beyond || big_number p.number || ltb 3 p.kind;
  book = not p.book;
  error = f.error;
  work = row.idle && eqb p.kind 1;
}

-- 6 "length wrong, or the eight bits not zero"
abbrev pub command_closing : Row → Face → Shown → Closing
command_closing row f p = record {
  kind = not (kind_wanted row f.options p.kind);
  length = wrong_length row f.width p;
  step = eqb p.kind 0 && not (step_wanted row p.fields.method p.fields.step);
  key = eqb p.kind 0 && not (key_fits row f.keyid p);
  support = eqb p.kind 0 && not (options_supported row p);
}

-- of the payload only what `shown_of` shows: no secret chooses the verdict
unfoldable pub command_verdict : Face → Shown → Verdict
command_verdict f p = verdict_of (command_keeping (row_of f.name) f p) (command_closing (row_of f.name) f p)

-- what is done where nothing is refused: step 0, step 1, or a message
unfoldable pub command_work : Face → ℕ → Work
command_work f kind = cond (eqb kind 0) (cond (fresh (row_of f.name)) Start Prove) Receive

-- ---- a response call: kinds 4 (comm) and 5 (secure)

-- 11 "response calls: not 4 or 5", "data to send over 2,048 bits"; 7 "ERROR already set (tag)"; 9 as "Responses wanted" says
abbrev pub response_keeping : Row → Face → ShownMessage → Keeping
response_keeping row f p = record {
  buffer = small_room p.room;
  argument = p.beyond || not (eqb p.kind 4 || eqb p.kind 5) || ltb data_limit p.count;
  book = false;
  error = f.error;
  work = not row.responds;
}

-- "secure 3", "secure if enabled, else 3"
abbrev pub response_closing : Row → Face → ShownMessage → Closing
response_closing row f p = record {
  kind = eqb p.kind 5 && not (row.secure && securing f.options);
  length = false;
  step = false;
  key = false;
  support = false;
}

-- of the data to send only the bit count is looked at
unfoldable pub response_verdict : Face → ShownMessage → Verdict
response_verdict f p = verdict_of (response_keeping (row_of f.name) f p) (response_closing (row_of f.name) f p)
