-- Every public function on public parts, by its own name: two outcomes that meet its contract are equal. Assumes nothing.
use mathlib.Core.Path.{refl, sym, ◌∙◌}
use Rattle.faces.proofs as Faces
use Rattle.faces.specs.contracts as FacesContracts
use Rattle.rules.proofs as Rules
use Rattle.rules.specs.contracts as RulesContracts
use Rattle.std.specs.Option.{option_copied}
use Rattle.determined.specs.Determined.{Determines, DeterminesShown}
use Rattle.determined.proofs.Determined.{part}

-- ---- faces

pub name-number : Determines FacesContracts.U8FromName.from.ended Faces.U8FromName.from.Reads.Post
name-number κs a x y p q = part p q refl

pub name-numbered : Determines FacesContracts.NameTryFromU8.try_from.ended Faces.NameTryFromU8.try_from.Reads.Post
name-numbered κs a x y p q = part p q refl

pub row_of_lem : Determines FacesContracts.tag.row_of.ended Faces.tag.row_of.Reads.Post
row_of_lem κs a x y p q = part p q refl

pub face-fits : Determines FacesContracts.tag.FacePublicParts.fits.ended Faces.tag.FacePublicParts.fits.Reads.Post
face-fits κs a x y p q = part p q refl

pub face-bare : Determines FacesContracts.tag.FacePublicParts.bare.ended Faces.tag.FacePublicParts.bare.Reads.Post
face-bare κs a x y p q = part p q refl

pub face-width : Determines FacesContracts.tag.FacePublicParts.width.ended Faces.tag.FacePublicParts.width.Reads.Post
face-width κs a x y p q = part p q refl

pub face-mutually : Determines FacesContracts.tag.mutually.ended Faces.tag.mutually.Reads.Post
face-mutually κs a x y p q = part p q refl

pub face-error_type : Determines FacesContracts.tag.error_type.ended Faces.tag.error_type.Reads.Post
face-error_type κs a x y p q = part p q refl

pub stage-number : Determines FacesContracts.U8FromStage.from.ended Faces.U8FromStage.from.Reads.Post
stage-number κs a x y p q = part p q refl

pub stage-numbered : Determines FacesContracts.StageTryFromU8.try_from.ended Faces.StageTryFromU8.try_from.Reads.Post
stage-numbered κs a x y p q = part p q refl

pub stage-row : Determines FacesContracts.reader.stage_row.ended Faces.reader.stage_row.Reads.Post
stage-row κs a x y p q = part p q refl

pub reader-fits : Determines FacesContracts.reader.ReaderFacePublicParts.fits.ended Faces.reader.ReaderFacePublicParts.fits.Reads.Post
reader-fits κs a x y p q = part p q refl

pub reader-bare : Determines FacesContracts.reader.ReaderFacePublicParts.bare.ended Faces.reader.ReaderFacePublicParts.bare.Reads.Post
reader-bare κs a x y p q = part p q refl

pub reader-width : Determines FacesContracts.reader.ReaderFacePublicParts.width.ended Faces.reader.ReaderFacePublicParts.width.Reads.Post
reader-width κs a x y p q = part p q refl

-- ---- rules

pub if_sound_lem : Determines RulesContracts.if_sound.ended Rules.if_sound.Reads.Post
if_sound_lem κs a x y p q = part p q refl

pub message-shown : Determines RulesContracts.message_shown.ended Rules.message_shown.Reads.Post
message-shown κs a x y p q = part p q refl

pub answer-number : Determines RulesContracts.U8FromAnswer.from.ended Rules.U8FromAnswer.from.Reads.Post
answer-number κs a x y p q = part p q refl

pub key_under_lem : DeterminesShown RulesContracts.tag.key_under.ended Rules.tag.key_under.Reads.Post (λ κs r. option_copied r)
key_under_lem κs a x y p q = (p ∙ sym q, refl)

pub command-verdict : Determines RulesContracts.tag.command_verdict.ended Rules.tag.command_verdict.Reads.Post
command-verdict κs a x y p q = part p q refl

pub command-work : Determines RulesContracts.tag.command_work.ended Rules.tag.command_work.Reads.Post
command-work κs a x y p q = part p q refl

pub response-verdict : Determines RulesContracts.tag.response_verdict.ended Rules.tag.response_verdict.Reads.Post
response-verdict κs a x y p q = part p q refl

pub reply-shown : Determines RulesContracts.reader.reply_shown.ended Rules.reader.reply_shown.Reads.Post
reply-shown κs a x y p q = part p q refl

pub begin-verdict : Determines RulesContracts.reader.begin_verdict.ended Rules.reader.begin_verdict.Reads.Post
begin-verdict κs a x y p q = part p q refl

pub reply-verdict : Determines RulesContracts.reader.reply_verdict.ended Rules.reader.reply_verdict.Reads.Post
reply-verdict κs a x y p q = part p q refl

pub reply-work : Determines RulesContracts.reader.reply_work.ended Rules.reader.reply_work.Reads.Post
reply-work κs a x y p q = part p q refl

pub send-verdict : Determines RulesContracts.reader.send_verdict.ended Rules.reader.send_verdict.Reads.Post
send-verdict κs a x y p q = part p q refl

pub receive-verdict : Determines RulesContracts.reader.receive_verdict.ended Rules.reader.receive_verdict.Reads.Post
receive-verdict κs a x y p q = part p q refl
