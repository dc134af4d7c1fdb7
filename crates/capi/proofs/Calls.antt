-- What a call leaves, by what its parts gave. Assumes nothing.
use mathlib.Core.Path.{◌≡◌, refl, sym, ap, ◌∙◌}
use mathlib.Core.Bool.{Bool, true, false}
use mathlib.Core.List.{List, []}
use Prim.Native.Nat.{ℕ, ◌*◌}
use lib.ListN.{length, take}
use lib.Seq.{take_all}
use native.Mathlib.Omega.{arith}
use borrow.Author.Tests.{eq-eqb}
use Rattle.std.specs.Prelude.{Option, is_some, unwrap_or}
use Rattle.bits.specs.Bytes.{bits_of_bytes}
use Rattle.bits.specs.Area.{shown}
use Rattle.bits.proofs.Bytes.{length-bits_of_bytes}
use Rattle.book.specs.Book.{known_of, key_of, found_of}
use Rattle.book.proofs.Laws.{known_key, found-some, found_key}
use Rattle.rules.specs.declared.Answer.TheVariants.{Done}
use Rattle.rules.specs.Answers.{number_of}
use Rattle.rules.specs.Results.{Result, Gives}
use Rattle.suite.specs.declared.Step.{Step}
use Rattle.suite.specs.Steps.{step_of}
use Rattle.std.specs.Prelude.{cond, Some, None}
use Rattle.std.proofs.lemmas.Option.{none-some}
use Rattle.blocks.specs.Blocks.{Blocks, stored_in}
use Rattle.capi.specs.Calls.{Leaves, kept_with, gave, key_given}

-- a test and its denial
pub denied : (s : Bool) {b : Bool} → s ≡ b → s ≡ false → b ≡ false
denied s e h = sym e ∙ h

pub granted : (s : Bool) {b : Bool} → s ≡ b → s ≡ true → b ≡ true
granted s e h = sym e ∙ h

-- what the worker of a refusal leaves
abbrev pub Refused : ℕ → ℕ → ℕ → List ℕ → List ℕ → Type 0
Refused answer r bits before after = record { value : r ≡ answer; bits_after : bits ≡ 0; reply_after : after ≡ shown [] before }

pub refused : (answer r bits : ℕ) (block before after : List ℕ) → Refused answer r bits before after → Leaves (kept_with answer block) r bits block before after
refused answer r bits block before after e = record { answered = e.value; counted = e.bits_after; stored = refl; replied = e.reply_after }

-- a block that spells no state
pub cond-none : {A : Type 0} (b : Bool) (x : A) → cond b (Some x) None ≡ None → b ≡ false
cond-none false x e = refl
cond-none true x e = absurd (none-some x (sym e))

-- ---- over a block

-- what the worker of a step leaves
abbrev pub Stored : {S : Type 0} → Blocks S → Step S → ℕ → ℕ → List ℕ → List ℕ → Type 0
Stored b s r bits block stored =
    record { value : r ≡ number_of s.answer; bits_after : bits ≡ s.bits; state_after : stored ≡ stored_in b.bytes (b.block_of s.next.state) block }

module _ {S : Type 0} (b : Blocks S) (block : List ℕ) (r bits : ℕ) (before after : List ℕ) where
  pub stepped : (x : Result S) (s : Step S) (stored : List ℕ) → length block ≡ b.bytes → Gives step_of x s before after
      → Stored b s r bits block stored → Leaves (gave b x) r bits stored before after
  stepped x s stored size g e = record {
    answered = e.value ∙ ap (λ (t : Step S). number_of t.answer) g.step;
    counted = e.bits_after ∙ ap (λ (t : Step S). t.bits) g.step;
    stored = rw (eq-eqb _ _ size) at e.state_after ∙ ap (λ (t : Step S). b.block_of t.next.state) g.step;
    replied = g.reply;
  }

-- ---- a key that was looked for

module _ (keyid : ℕ) (book : List ℕ) where
  -- it is in the book exactly where one is found
  pub known : (o : Option (List ℕ)) → o ≡ found_of keyid book → known_of keyid book ≡ is_some o
  known o found = sym (found-some keyid book) ∙ ap is_some (sym found)

  pub key-given : (key : List ℕ) → Some key ≡ found_of keyid book → (r : ℕ) (before after : List ℕ) → r ≡ number_of Done
      → after ≡ shown (take 128 (bits_of_bytes key)) before → Leaves (key_given (key_of keyid book)) r 128 [] before after
  key-given key found r before after done shows =
      let is : key ≡ key_of keyid book = ap (λ o. unwrap_or o []) found ∙ found_key keyid book in
      let some : length key ≡ 16 = ap length is ∙ known_key keyid book (known (Some key) found) in
      let n : length (bits_of_bytes key) ≡ 128 = length-bits_of_bytes key ∙ ap (λ (k : ℕ). 8 * k) some in
      rw (← is) record {
        answered = done;
        counted = sym n;
        stored = refl;
        replied = shows ∙ ap (λ (l : List Bool). shown l before) (take_all 128 (bits_of_bytes key) (omega (arith, n)));
      }
