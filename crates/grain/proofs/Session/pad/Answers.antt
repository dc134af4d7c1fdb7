-- `grain::Session::pad` meets its contract.
use mathlib.Core.Path.{◌≡◌, sym, ap, ◌∙◌}
use Rattle.grain.specs.Stored.{state_of, engine_of, mac_of, session_of, width_of}
use Rattle.grain.proofs.Words.{width_small, engine_of-state_of}
use borrow.Author.Rules.{rules}
use Rattle.grain.proofs.Session.pad.Goals as goal

pub returns : goal.returns
unfolding session_of mac_of
returns c =
    let a = c.args in
    let x = c.step-x in
    let h = width_small a.width in
    let e = ap session_of (sym (x.ensures (width_of a.width) h.0 h.1)) in
    let f : engine_of (state_of x.result.engine) ≡ x.result.engine = engine_of-state_of x.result.engine (search rules) (search rules) (search rules) (search rules) in
    sym (e ∙ rw (f, ← c.narrow.ensures, ← c.narrow-2.ensures))
