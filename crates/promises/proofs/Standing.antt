-- What the states of our machines are: a face and a session, sound where document 01 says so. Assumes nothing.
use mathlib.Core.Path.{◌≡◌, refl, sym, ap, ap₂, ◌∙◌}
use mathlib.Core.Bool.{true, cond}
use Prim.Native.Nat.{ℕ}
use lib.ListN.{length}
use Rattle.std.specs.declared.result.Result.TheVariants.{Ok, Err}
use Rattle.book.specs.Book as Book
use Rattle.rules.specs.Answers.{Verdict, number_of}
use Rattle.rules.specs.Calls.{Begin}
use Rattle.rules.specs.Results.{Result, decided}
use Rattle.rules.specs.ReaderRules.{begin_verdict}
use Rattle.rules.proofs.Verdicts.{kept_decides}
use Rattle.states.specs.Sessions.{session_fits}
use Rattle.states.specs.TagStates.{face_of, tag_of, sound_of, reset_tag, closed_tag}
use Rattle.states.specs.ReaderStates.{ReaderState, reader_face_of, reader_secrets_of, reader_of, reader_sound, reset_reader, closed_reader}
use Rattle.states.proofs.TagStates.{parts_of_lem, secrets_of_lem, face-reset, face-closed}
use Rattle.states.proofs.ReaderStates.{reader_parts_of, reader_secrets_of_lem, face-idle, face-shut, secrets_asked}
use Rattle.machines.specs.TagWork.{error_type_of}
use Rattle.machines.specs.ReaderWork.{begin_of}
use Rattle.promises.specs.Ours.{our_tag, our_reader}
use Rattle.promises.specs.ReaderTable.{key_session}
use Rattle.promises.specs.Demand1.{TagStands, ReaderStands}
use Rattle.promises.proofs.Ordered.{right, always_right, refuses}
use Rattle.promises.proofs.TagRows.{fits-same, bare-row, error-same}
use Rattle.promises.proofs.ReaderRows.{stage-bare, reader-fits-same}

pub tag-stands : TagStands our_tag
unfolding sound_of session_fits reset_tag closed_tag error_type_of
tag-stands = record {
  whole = λ s t e h. sym (parts_of_lem s) ∙ ap₂ tag_of e h ∙ parts_of_lem t;
  sound = λ s. rw (fits-same (face_of s), bare-row (face_of s).name (face_of s));
  fresh = λ b. (face-reset, secrets_of_lem _ _);
  close = λ s. (face-closed s, secrets_of_lem _ _);
  error_type = λ s. ap (λ (n : ℕ). cond (sound_of s) n 0) (error-same (face_of s));
}

-- what answers 0 was not refused
done_goes : {S : Type 0} (v : Verdict) (s closed : S) (work : Result S) → right v ≡ true → number_of (decided v s closed work).answer ≡ 0 → v ≡ Ok tt
unfolding decided
done_goes (Err r) s closed work h e = absurd (refuses r h e)
done_goes (Ok tt) s closed work h e = refl

-- "with the key as b and s zero"
begun : (r : ReaderState) (i : Begin) (room : ℕ) → number_of (begin_of r i room).answer ≡ 0
    → reader_secrets_of (begin_of r i room).next ≡ key_session (Book.key_of i.keyid i.book)
unfolding begin_of begin_verdict
begun r i room e =
    let h = rw kept_decides at e in
    let v = done_goes _ r r _ (always_right _ _ _) h in
    rw (kept_decides, v) (unfold decided in secrets_asked _ _ _ _ _)

pub reader-stands : ReaderStands our_reader closed_reader
unfolding reader_sound session_fits reset_reader closed_reader
reader-stands = record {
  whole = λ s t e h. sym (reader_parts_of s) ∙ ap₂ reader_of e h ∙ reader_parts_of t;
  sound = λ s. rw (reader-fits-same (reader_face_of s), stage-bare (reader_face_of s).stage);
  idle = λ b. (face-idle, reader_secrets_of_lem _ _);
  shut = (face-shut, reader_secrets_of_lem _ _);
  begun = λ s i b. begun s i (length b);
}
