-- What a verdict on the reader's face tells: every check before the work has passed. Assumes nothing.
use mathlib.Core.Path.{◌≡◌, sym, ◌∙◌}
use mathlib.Core.Bool.{Bool, true, not, ◌&&◌, ◌||◌, or-true}
use Prim.Native.Nat.{ℕ, ◌*◌, ◌≤◌}
use lib.Dec.{ltb, eqb}
use borrow.Author.Tests.{ltb-false, not-false}
use Rattle.std.specs.declared.result.Result.TheVariants.{Ok}
use Rattle.bits.proofs.Bools.{and_left, neither}
use Rattle.payloads.specs.Payloads.{mac64}
use Rattle.faces.specs.declared.ReaderFace.{ReaderFace}
use Rattle.rules.specs.declared.ShownMessage.{ShownMessage}
use Rattle.faces.specs.ReaderFaces.{stage_row, reader_fits}
use Rattle.rules.specs.ReaderRules.{may_talk, send_keeping, send_closing, send_verdict, receive_keeping, receive_closing, receive_verdict}
use Rattle.faces.proofs.Fits.{full_width}
use Rattle.rules.proofs.Verdicts.{Passed, passed}
use Rattle.rules.proofs.TagLaws.{Receivable, receivable, Sendable, sendable}

-- who may talk is open
pub talking : (f : ReaderFace) (silent kind : ℕ) → may_talk (stage_row f.stage) f silent kind ≡ true → (stage_row f.stage).opened ≡ true
talking f silent kind h = and_left _ _ (and_left ((stage_row f.stage).opened && not (eqb f.method silent)) _ h)

-- ---- messages

module _ (f : ReaderFace) (p : ShownMessage) where
  module _ (e : send_verdict f p ≡ Ok tt) where
    pub send_passed : Passed (send_keeping (stage_row f.stage) f p) send_closing
    unfolding send_verdict
    send_passed = passed _ _ e

    pub send_sendable : (size : ℕ) → p.beyond ≡ ltb (8 * size) p.count → Sendable p.room p.count size
    send_sendable size b = sendable p.room p.count size _ send_passed.kept.buffer (rw b at send_passed.kept.argument)

  module _ (zeros : Bool) (e : receive_verdict f p zeros ≡ Ok tt) where
    pub receive_passed : Passed (receive_keeping (stage_row f.stage) f p) (receive_closing f p zeros)
    unfolding receive_verdict
    receive_passed = passed _ _ e

    pub receive-room : 265 ≤ p.room
    receive-room = ltb-false _ _ receive_passed.kept.buffer

    pub receive_receivable : reader_fits f ≡ true → (size : ℕ) → p.beyond ≡ ltb (8 * size) p.count → Receivable f.width p.count size
    receive_receivable s size b =
        let c = receive_passed in
        let opened = talking f 1 p.kind (not-false _ c.kept.work) in
        let full : ((stage_row f.stage).proving || (stage_row f.stage).opened) ≡ true = rw (opened, or-true) in
        receivable f.width (mac64 f.options) p.count size (full_width f s full) (and_left _ _ (not-false _ c.length))
        (sym b ∙ (neither _ _ c.kept.argument).0)
