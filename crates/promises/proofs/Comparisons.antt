-- What demand 3 says is compared is what our tag compares: step 1's keystream bits and a message's MAC. Assumes nothing.
use mathlib.Core.Path.{◌≡◌, refl, sym, ap, ◌∙◌}
use mathlib.Core.Bool.{Bool, true, false, ◌&&◌, ◌||◌, true≢false, and-false}
use mathlib.Core.List.{List}
use Prim.Native.Nat.{ℕ}
use lib.Dec.{eqb}
use lib.ListN.{length}
use borrow.Author.Tests.{eqb-true, not-false}
use Rattle.bits.proofs.Bools.{and_left, only}
use Rattle.payloads.specs.Payloads.{securing}
use Rattle.faces.specs.declared.Face.{Face}
use Rattle.faces.specs.declared.Name.{Name}
use Rattle.faces.specs.declared.Name.TheVariants.{CsReset, Ta1, Ia1, Ia2, Ma1, Ma2}
use Rattle.faces.specs.TagFaces.{row_of, fresh, face_fits}
use Rattle.rules.specs.Answers.{Verdict, if_sound}
use Rattle.rules.specs.Calls.{Command}
use Rattle.rules.specs.TagRules.{shown_of, kind_wanted, command_verdict}
use Rattle.rules.proofs.Verdicts.{Passed, goes}
use Rattle.promises.specs.Order.{first_of}
use Rattle.promises.specs.TagTable.{command_checks}
use Rattle.promises.specs.Demand3.{command, compares_at, compares}
use Rattle.promises.proofs.Public.{keeping, closing}
use Rattle.promises.proofs.Ordered.{number_in}
use Rattle.promises.proofs.TagRows.{command_first}

-- step 1 is taken in IA.1 and MA.1 alone
step-compares : (n : Name) (o : ℕ) → fresh (row_of n) ≡ false → kind_wanted (row_of n) o 0 ≡ true → compares_at n 0 ≡ true
step-compares CsReset o h k = absurd (true≢false h)
step-compares Ta1 o h k = absurd (true≢false (sym k))
step-compares Ia1 o h k = refl
step-compares Ia2 o h k = absurd (true≢false (sym k))
step-compares Ma1 o h k = refl
step-compares Ma2 o h k = absurd (true≢false (sym k))

none-taken : (d g : Bool) → ((d && false) || (g && false)) ≡ true → ⊥
none-taken d g h = true≢false (sym (rw (and-false d, and-false g) at h))

-- a message is taken in IA.2 and MA.2 alone
message-compares : (n : Name) (o k : ℕ) → eqb k 0 ≡ false → kind_wanted (row_of n) o k ≡ true → compares_at n k ≡ true
message-compares CsReset o k a h = absurd (none-taken (eqb k 1) (eqb k 2) (rw a at h))
message-compares Ta1 o k a h = absurd (none-taken (eqb k 1) (eqb k 2) (rw a at h))
message-compares Ia1 o k a h = absurd (none-taken (eqb k 1) (eqb k 2) (rw a at h))
message-compares Ia2 o k a h = and_left (eqb k 1) true (only _ (eqb k 2 && false) (and-false (eqb k 2)) (rw a at h))
message-compares Ma1 o k a h = absurd (none-taken (eqb k 1) (eqb k 2) (rw a at h))
message-compares Ma2 o k a h = either_taken (eqb k 1) (eqb k 2) (securing o) (rw a at h)
  where
    either_taken : (d g z : Bool) → ((d && true) || (g && z)) ≡ true → (d || g) ≡ true
    either_taken true g z h = refl
    either_taken false true z h = refl
    either_taken false false z h = h

-- the order's number is its verdict's
pub order_of : (f : Face) (c : Command) (room : ℕ) (v : Verdict) → command_verdict f (shown_of f.width c room) ≡ v
    → first_of (command_checks true f c room) ≡ number_in v 0
unfolding if_sound
order_of f c room v e = command_first f c room true ∙ ap (λ (x : Verdict). number_in x 0) e

-- a command that is not refused: only step 0 compares nothing
module _ (f : Face) (z : face_fits f ≡ true) (c : Command) (b : List ℕ)
    (h : Passed (keeping f z (shown_of f.width c (length b))) (closing f z (shown_of f.width c (length b)))) where
  passing : eqb (first_of (command_checks true f c (length b))) 0 ≡ true
  unfolding command_verdict
  passing = ap (λ (n : ℕ). eqb n 0) (order_of f c (length b) _ (goes _ _ h))

  wanted : kind_wanted (row_of f.name) f.options c.kind ≡ true
  unfolding shown_of
  wanted = not-false _ h.kind

  pub proof_compared : eqb c.kind 0 ≡ true → fresh (row_of f.name) ≡ false → compares f (command c b) ≡ true
  proof_compared k n =
      let none : c.kind ≡ 0 = eqb-true _ _ k in
      let at : compares_at f.name c.kind ≡ true = ap (compares_at f.name) none ∙ step-compares f.name f.options n (rw none at wanted) in
      rw at passing

  pub message-compared : eqb c.kind 0 ≡ false → compares f (command c b) ≡ true
  message-compared k = rw (message-compares f.name f.options c.kind k wanted) passing
