-- What a verdict on the tag's face tells: every check before the work has passed. Assumes nothing.
use mathlib.Core.Path.{◌≡◌, refl, sym, ap, ◌∙◌}
use mathlib.Core.Bool.{Bool, true, false, not, cond, ◌&&◌, ◌||◌, true≢false}
use mathlib.Core.List.{List, []}
use Prim.Native.Nat.{ℕ, ◌+◌, ◌*◌, ◌≤◌}
use native.Mathlib.Omega.{arith}
use lib.Dec.{ltb, leb, eqb}
use borrow.Author.Tests.{ltb-false, leb-true, not-false}
use Rattle.std.specs.Prelude.{None, is_some, unwrap_or}
use Rattle.std.specs.declared.result.Result.TheVariants.{Ok}
use Rattle.bits.proofs.Bools.{and_left, and_right, neither, unless}
use Rattle.book.specs.Book as Book
use Rattle.book.proofs.Laws.{found-some, found_key}
use Rattle.payloads.specs.Payloads.{mac64, length_fits, data_limit}
use Rattle.faces.specs.declared.Name.{Name}
use Rattle.faces.specs.declared.Name.TheVariants.{CsReset, Ta1, Ia1, Ia2, Ma1, Ma2}
use Rattle.faces.specs.declared.Face.{Face}
use Rattle.rules.specs.declared.Shown.{Shown}
use Rattle.rules.specs.declared.ShownMessage.{ShownMessage}
use Rattle.rules.specs.declared.Work.{Work}
use Rattle.rules.specs.declared.Work.TheVariants.{Start, Prove, Receive}
use Rattle.rules.specs.Calls.{small_room}
use Rattle.faces.specs.TagFaces.{row_of, fresh, face_fits}
use Rattle.rules.specs.TagRules.{key_under, found_under, kind_wanted, command_keeping, command_closing, command_verdict, command_work, response_keeping, response_closing, response_verdict}
use Rattle.faces.proofs.Fits.{open-width}
use Rattle.rules.proofs.Verdicts.{Passed, passed}

-- ---- messages, at either machine

-- what a message is that may be taken in: of a length that leaves its data room, where the width w is stored
pub record Receivable (w count size : ℕ) : Type 0 where
  pub wide : Bool
  pub width : w ≡ cond wide 64 32
  pub least : 8 + w ≤ count
  pub most : count ≤ 2120
  pub within : count ≤ 8 * size

width_at_most : (o : Bool) → cond o 64 32 ≤ 64
width_at_most true = omega arith
width_at_most false = omega arith

pub receivable : (w : ℕ) (wide : Bool) (count size : ℕ) → w ≡ cond wide 64 32 → length_fits w count ≡ true → ltb (8 * size) count ≡ false → Receivable w count size
receivable w wide count size e long b =
    let small : w ≤ 64 = rw e (width_at_most wide) in
    let low : 8 + w ≤ count = leb-true _ _ (and_left _ _ long) in
    let high : count ≤ 2048 + 8 + w = leb-true _ _ (and_right (leb (8 + w) count) _ long) in
    record { wide = wide; width = e; least = low; most = omega arith; within = ltb-false _ _ b }

-- what data is that may be sent
pub record Sendable (room count size : ℕ) : Type 0 where
  pub roomy : 265 ≤ room
  pub most : count ≤ 2048
  pub within : count ≤ 8 * size

pub sendable : (room count size : ℕ) (kind : Bool) → small_room room ≡ false → ((ltb (8 * size) count || kind) || ltb data_limit count) ≡ false → Sendable room count size
sendable room count size kind r e =
    let a = neither _ _ e in
    record { roomy = ltb-false _ _ r; most = ltb-false _ _ a.1; within = ltb-false _ _ (neither _ _ a.0).0 }

-- ---- a command

module _ (f : Face) (p : Shown) (e : command_verdict f p ≡ Ok tt) where
  pub command_passed : Passed (command_keeping (row_of f.name) f p) (command_closing (row_of f.name) f p)
  unfolding command_verdict
  command_passed = passed _ _ e

  pub command-room : 265 ≤ p.room
  command-room = ltb-false _ _ command_passed.kept.buffer

-- the states that take messages have their accumulator filled
no_message : (a b d : Bool) → a ≡ false → (((a && true) || (b && false)) || (d && false)) ≡ true → ⊥
no_message true b d g i = true≢false g
no_message false true true g i = true≢false (sym i)
no_message false true false g i = true≢false (sym i)
no_message false false true g i = true≢false (sym i)
no_message false false false g i = true≢false (sym i)

pub filled_row : (n : Name) (o k : ℕ) → eqb k 0 ≡ false → kind_wanted (row_of n) o k ≡ true → (row_of n).filled ≡ true
filled_row CsReset o k h e = absurd (no_message (eqb k 0) (eqb k 1) (eqb k 2) h e)
filled_row Ta1 o k h e = refl
filled_row Ia1 o k h e = absurd (no_message (eqb k 0) (eqb k 1) (eqb k 2) h e)
filled_row Ia2 o k h e = refl
filled_row Ma1 o k h e = absurd (no_message (eqb k 0) (eqb k 1) (eqb k 2) h e)
filled_row Ma2 o k h e = refl

-- ---- a sound face

module _ (f : Face) (s : face_fits f ≡ true) where
  pub command_receivable : (p : Shown) (size : ℕ) → p.beyond ≡ ltb (8 * size) p.count → command_verdict f p ≡ Ok tt → eqb p.kind 0 ≡ false
      → Receivable f.width p.count size
  command_receivable p size b e auth =
      let row = row_of f.name in
      let c = command_passed f p e in
      let full : row.filled ≡ true = filled_row f.name f.options p.kind auth (not-false _ c.kind) in
      let fits : (length_fits f.width p.count && p.zeros) ≡ true
      = unless (eqb p.kind 0) _ auth (neither (eqb p.kind 0 && not (eqb p.count row.bits)) _ c.length).1 in
      receivable f.width (mac64 f.options) p.count size (open-width f s full c.kept.error) (and_left _ _ fits)
      (sym b ∙ (neither _ _ (neither _ _ c.kept.argument).0).0)

-- ---- a response

module _ (f : Face) (p : ShownMessage) (e : response_verdict f p ≡ Ok tt) where
  pub response_passed : Passed (response_keeping (row_of f.name) f p) (response_closing (row_of f.name) f p)
  unfolding response_verdict
  response_passed = passed _ _ e

  pub response_sendable : (size : ℕ) → p.beyond ≡ ltb (8 * size) p.count → Sendable p.room p.count size
  response_sendable size b = sendable p.room p.count size _ response_passed.kept.buffer (rw b at response_passed.kept.argument)

-- ---- a command's key

module _ (kind keyid : ℕ) (book : List ℕ) where
  -- one is found exactly where an authentication's KeyID is in the book
  pub key_known : is_some (found_under kind keyid book) ≡ (eqb kind 0 && Book.known_of keyid book)
  unfolding found_under
  key_known = at (eqb kind 0)
    where
      at : (b : Bool) → is_some (cond b (Book.found_of keyid book) None) ≡ (b && Book.known_of keyid book)
      at true = found-some keyid book
      at false = refl

  pub key_found : unwrap_or (found_under kind keyid book) [] ≡ key_under kind keyid book
  unfolding found_under key_under
  key_found = at (eqb kind 0)
    where
      at : (b : Bool) → unwrap_or (cond b (Book.found_of keyid book) None) [] ≡ cond b (Book.key_of keyid book) []
      at true = found_key keyid book
      at false = refl

-- ---- a command's work

-- only a message is received
abbrev takes_message : Work → Bool
takes_message Start = false
takes_message Prove = false
takes_message Receive = true

pub receives : (f : Face) (kind : ℕ) → command_work f kind ≡ Receive → eqb kind 0 ≡ false
unfolding command_work
receives f kind e = at (eqb kind 0) (fresh (row_of f.name)) e
  where
    at : (a b : Bool) → cond a (cond b Start Prove) Receive ≡ Receive → a ≡ false
    at true true e = absurd (true≢false (sym (ap takes_message e)))
    at true false e = absurd (true≢false (sym (ap takes_message e)))
    at false b e = refl
