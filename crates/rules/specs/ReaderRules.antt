-- Document 01, "Reader machine" and "Replies and refusals": what is refused, all on public parts. Assumes nothing.
use Rattle.std.specs.Prelude.{Bool, false, not, cond, ◌&&◌, ◌||◌, List, ℕ, ltb, leb, eqb}
use Rattle.bits.specs.Bytes.{bits_of_bytes}
use Rattle.book.specs.Book as Book
use Rattle.payloads.specs.Payloads.{data_limit, securing, supports, offers, features_in, status_in, length_fits, beyond_of}
use Rattle.faces.specs.declared.StageRow.{StageRow}
use Rattle.faces.specs.declared.ReaderFace.{ReaderFace}
use Rattle.rules.specs.declared.ShownBegin.{ShownBegin}
use Rattle.rules.specs.declared.ShownReply.{ShownReply}
use Rattle.rules.specs.declared.ShownMessage.{ShownMessage}
use Rattle.rules.specs.declared.Keeping.{Keeping}
use Rattle.rules.specs.declared.Closing.{Closing}
use Rattle.rules.specs.declared.ReplyWork.{ReplyWork}
use Rattle.rules.specs.declared.ReplyWork.TheVariants.{Compare, Answer, Fail, Accept, Confirm}
use Rattle.faces.specs.ReaderFaces.{stage_row}
use Rattle.rules.specs.Answers.{Verdict, verdict_of, kept}
use Rattle.rules.specs.Calls.{Begin, small_room, big_number}

-- ---- begin: "only when idle, else 9"; "A method of 3 or more, or options of 4 or more, is 4"

-- of the book only whether it is sound and has the KeyID
abbrev pub begin_shown : Begin → ℕ → ShownBegin
begin_shown i room = record {
  method = i.method;
  options = i.options;
  number = i.number;
  book = Book.sound_of i.book;
  known = Book.known_of i.keyid i.book;
  room = room;
}

-- 11 "number at or above 2^48"; 9 "no work in this state"
abbrev pub begin_keeping : StageRow → ShownBegin → Keeping
begin_keeping row p = record {
  buffer = small_room p.room;
  argument = big_number p.number;
  book = not p.book;
  error = false;
  work = not row.idle;
}

-- 5 "KeyID not in the book (step 0, begin)"; 4 as above
abbrev pub begin_closing : ShownBegin → Closing
begin_closing p = record {
  kind = false;
  length = false;
  step = false;
  key = not p.known;
  support = leb 3 p.method || leb 4 p.options;
}

-- no key chooses a refusal, and none closes: "closed (begin: kept)"
unfoldable pub begin_verdict : ReaderFace → ShownBegin → Verdict
begin_verdict f p = kept (verdict_of (begin_keeping (stage_row f.stage) p) (begin_closing p))

-- ---- the authentication response

-- a response begins with its features in step 0, with its status in step 1, and MA's with keystream bits behind it: the checks look at
-- the features in step 0 alone
abbrev pub reply_shown : List ℕ → ℕ → ℕ → ShownReply
reply_shown payload count room = record {
  count = count;
  beyond = beyond_of payload count;
  features = features_in (bits_of_bytes payload);
  status = status_in (bits_of_bytes payload);
  room = room;
}

-- its length: TA 120 bits, IA and MA step 0 56; IA step 1 one bit; "In MA a one-bit answer with status 0, or a 65-bit one with
-- status 1, is 6"
abbrev pub reply_length : StageRow → ℕ → ℕ → ℕ → Bool
reply_length row method count status =
    (row.asked && ((eqb method 0 && eqb count 120) || (not (eqb method 0) && eqb count 56)))
    || (row.proving && ((eqb method 1 && eqb count 1) || (not (eqb method 1) && ((eqb count 1 && eqb status 1) || (eqb count 65 && eqb status 0)))))

-- 9 where no response is waited for
abbrev pub reply_keeping : StageRow → ShownReply → Keeping
reply_keeping row p = record {
  buffer = small_room p.room;
  argument = p.beyond;
  book = false;
  error = false;
  work = not (row.asked || row.proving);
}

-- "Received features must support the chosen options, else 4"; Req 01: "The reader is to hold them against the method too"
abbrev pub reply_closing : StageRow → ReaderFace → ShownReply → Closing
reply_closing row f p = record {
  kind = false;
  length = not (reply_length row f.method p.count p.status);
  step = false;
  key = false;
  support = row.asked && not (offers p.features f.method && supports p.features f.options);
}

-- of the response only its features and its status: no secret chooses the verdict
unfoldable pub reply_verdict : ReaderFace → ShownReply → Verdict
reply_verdict f p = verdict_of (reply_keeping (stage_row f.stage) p) (reply_closing (stage_row f.stage) f p)

-- what is done where nothing is refused: TA's comparison, the step 1 command, a failure, IA's status, MA's comparison. "Status 1 or
-- unequal bits are 10"
unfoldable pub reply_work : ReaderFace → ℕ → ReplyWork
reply_work f status =
    cond (stage_row f.stage).asked (cond (eqb f.method 0) Compare Answer)
    (cond (eqb status 1) Fail (cond (eqb f.method 1) Accept Confirm))

-- ---- messages: "it sends in IA and MA, receives in TA and MA, secure in MA only and if enabled; other calls are 9"

-- in every method but `silent`; "secure in MA only and if enabled"
abbrev pub may_talk : StageRow → ReaderFace → ℕ → ℕ → Bool
may_talk row f silent kind = row.opened && not (eqb f.method silent) && (not (eqb kind 2) || (eqb f.method 2 && securing f.options))

-- 11 "reader's messages, sent or received: not 1 or 2", "data to send over 2,048 bits"; TA (0) does not send
abbrev pub send_keeping : StageRow → ReaderFace → ShownMessage → Keeping
send_keeping row f p = record {
  buffer = small_room p.room;
  argument = p.beyond || not (eqb p.kind 1 || eqb p.kind 2) || ltb data_limit p.count;
  book = false;
  error = false;
  work = not (may_talk row f 0 p.kind);
}

-- nothing that is to be sent closes
abbrev pub send_closing : Closing
send_closing = record { kind = false; length = false; step = false; key = false; support = false }

-- of the data to send only the bit count is looked at
unfoldable pub send_verdict : ReaderFace → ShownMessage → Verdict
send_verdict f p = verdict_of (send_keeping (stage_row f.stage) f p) send_closing

-- IA (1) does not receive
abbrev pub receive_keeping : StageRow → ReaderFace → ShownMessage → Keeping
receive_keeping row f p = record {
  buffer = small_room p.room;
  argument = p.beyond || not (eqb p.kind 1 || eqb p.kind 2);
  book = false;
  error = false;
  work = not (may_talk row f 1 p.kind);
}

-- 6 "length wrong, or the eight bits not zero"
abbrev pub receive_closing : ReaderFace → ShownMessage → Bool → Closing
receive_closing f p zeros = record {
  kind = false;
  length = not (length_fits f.width p.count && zeros);
  step = false;
  key = false;
  support = false;
}

-- of the message only its bit count and "the eight zero bits" are looked at
unfoldable pub receive_verdict : ReaderFace → ShownMessage → Bool → Verdict
receive_verdict f p zeros = verdict_of (receive_keeping (stage_row f.stage) f p) (receive_closing f p zeros)
