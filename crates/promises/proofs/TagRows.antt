-- The demand's table of the tag and that of `rules` say the same, name by name: a call is refused by the same check. Assumes nothing.
use mathlib.Core.Path.{◌≡◌, refl, sym, ap, ◌∙◌}
use mathlib.Core.Bool.{Bool, true, false, not, cond, ◌&&◌, ◌||◌, true≢false, and-true, and-false, or-false}
use mathlib.Core.List.{List}
use Prim.Native.Nat.{ℕ}
use lib.Dec.{eqb}
use borrow.Author.Tests.{eqb-true, not-false}
use Rattle.bits.specs.Bytes.{bits_of_bytes}
use Rattle.payloads.specs.Payloads.{method_in, step_in, securing, zeros_of}
use Rattle.faces.specs.declared.Face.{Face}
use Rattle.faces.specs.declared.Name.{Name}
use Rattle.faces.specs.declared.Name.TheVariants.{CsReset, Ta1, Ia1, Ia2, Ma1, Ma2}
use Rattle.faces.specs.TagFaces as Faces
use Rattle.faces.specs.TagFaces.{row_of, fresh}
use Rattle.rules.specs.declared.Shown.{Shown}
use Rattle.rules.specs.Calls.{Command, Message, message_shown}
use Rattle.rules.specs.TagRules.{shown_of, kind_wanted, step_wanted, key_fits, options_supported, command_keeping, command_closing, command_verdict, response_keeping, response_closing, response_verdict}
use Rattle.rules.specs.Answers.{if_sound}
use Rattle.promises.specs.Order.{Checks, first_of}
use Rattle.promises.specs.TagTable.{flags_fit, opened, holds_nothing, face_fits, error_type, takes, no_work, command_bits, step_right, key_right, support_right, command_checks, responds, secures, response_checks}
use Rattle.promises.proofs.Ordered.{number_in, checks_of, first_is}

-- ---- the columns

-- what holds of each row holds of every name
every : (P : Name → Type 0) → P CsReset → P Ta1 → P Ia1 → P Ia2 → P Ma1 → P Ma2 → (n : Name) → P n
every P a b c d e f CsReset = a
every P a b c d e f Ta1 = b
every P a b c d e f Ia1 = c
every P a b c d e f Ia2 = d
every P a b c d e f Ma1 = e
every P a b c d e f Ma2 = f

pub takes-row : (n : Name) (o k : ℕ) → kind_wanted (row_of n) o k ≡ takes n o k
takes-row CsReset o k = simp (and-true, and-false, or-false)
takes-row Ta1 o k = simp (and-false, or-false)
takes-row Ia1 o k = simp (and-true, and-false, or-false)
takes-row Ia2 o k = simp (and-true, and-false, or-false)
takes-row Ma1 o k = simp (and-true, and-false, or-false)
takes-row Ma2 o k = simp (and-true, and-false)

work-row : (n : Name) (k : ℕ) → ((row_of n).idle && eqb k 1) ≡ no_work n k
work-row n k = every (λ n. ((row_of n).idle && eqb k 1) ≡ no_work n k) refl refl refl refl refl refl n

bits-row : (n : Name) → (row_of n).bits ≡ command_bits n
bits-row = every (λ n. (row_of n).bits ≡ command_bits n) refl refl refl refl refl refl

responds-row : (n : Name) → (row_of n).responds ≡ responds n
responds-row = every (λ n. (row_of n).responds ≡ responds n) refl refl refl refl refl refl

secures-row : (n : Name) (o : ℕ) → ((row_of n).secure && securing o) ≡ secures n o
secures-row n o = every (λ n. ((row_of n).secure && securing o) ≡ secures n o) refl refl refl refl refl refl n

flags-row : (n : Name) (f : Face) → Faces.flags_fit (row_of n) f ≡ flags_fit n f
flags-row n f = every (λ n. Faces.flags_fit (row_of n) f ≡ flags_fit n f) refl refl refl refl refl refl n

filled_row : (n : Name) → (row_of n).filled ≡ opened n
filled_row = every (λ n. (row_of n).filled ≡ opened n) refl refl refl refl refl refl

pub bare-row : (n : Name) (f : Face) → (fresh (row_of n) || f.error) ≡ holds_nothing n f
bare-row n f = every (λ n. (fresh (row_of n) || f.error) ≡ holds_nothing n f) refl refl refl refl refl refl n

pub fits-same : (f : Face) → Faces.face_fits f ≡ face_fits f
unfolding Faces.face_fits
fits-same f = rw (flags-row, filled_row, bare-row)

one_flag : (a b : Bool) → cond (not a && not b) 2 3 ≡ cond {A = ℕ} (a || b) 3 2
one_flag true b = refl
one_flag false true = refl
one_flag false false = refl

error-row : (n : Name) (f : Face)
    → cond f.error (cond (fresh (row_of n)) 1 (cond ((row_of n).fails && (not f.ta && not f.ia)) 2 3)) 0 ≡ error_type n f
error-row CsReset f = refl
error-row Ta1 f = refl
error-row Ia1 f = refl
error-row Ia2 f = ap (λ (x : ℕ). cond f.error x 0) (one_flag f.ta f.ia)
error-row Ma1 f = refl
error-row Ma2 f = ap (λ (x : ℕ). cond f.error x 0) (one_flag f.ta f.ia)

pub error-same : (f : Face) → Faces.error_type f ≡ error_type f.name f
unfolding Faces.error_type
error-same f = error-row f.name f

-- ---- the checks of a command

-- an authentication that is taken is taken in CS-Reset, IA.1 or MA.1
by_auth : (P : Name → Type 0) (n : Name) (o k : ℕ) → eqb k 0 ≡ true → takes n o k ≡ true → P CsReset → P Ia1 → P Ma1 → P n
by_auth P n o k z e a b c = at n (rw (eqb-true k 0 z) at e)
  where
    at : (n : Name) → takes n o 0 ≡ true → P n
    at CsReset e = a
    at Ta1 e = absurd (true≢false (sym e))
    at Ia1 e = b
    at Ia2 e = absurd (true≢false (sym e))
    at Ma1 e = c
    at Ma2 e = absurd (true≢false (sym e))

-- the checks with others behind that of the length
abbrev with_tail : Checks → Bool → Bool → Bool → Checks
with_tail c step key support = record {
  state = c.state;
  buffer = c.buffer;
  argument = c.argument;
  book = c.book;
  error = c.error;
  work = c.work;
  kind = c.kind;
  length = c.length;
  step = step;
  key = key;
  support = support;
  status = c.status;
}

-- these matter only where the kind is taken
tail_same : (c : Checks) (x y z u v w : Bool) → (c.kind ≡ false → (x ≡ u) × (y ≡ v) × (z ≡ w)) → first_of (with_tail c x y z) ≡ first_of (with_tail c u v w)
unfolding first_of
tail_same c x y z u v w h = at c.kind refl
  where
    at : (b : Bool) → c.kind ≡ b → first_of (with_tail c x y z) ≡ first_of (with_tail c u v w)
    at true e = rw e
    at false e = let g = h e in rw (g.0, g.1, g.2)

-- a length is an authentication's or a message's
pick : (a x y : Bool) → ((a && not x) || (not a && not y)) ≡ not (cond a x y)
pick true x y = or-false (not x)
pick false x y = refl

module _ (f : Face) (c : Command) (room : ℕ) where
  abbrev n : Name
  n = f.name

  abbrev shows : Shown
  shows = shown_of f.width c room

  -- where the kind is taken, an authentication's columns agree
  module _ (taken : takes n f.options c.kind ≡ true) where
    abbrev l : List Bool
    l = bits_of_bytes c.payload

    columns : (P : Name → Bool) (Q : Name → Bool) → (eqb c.kind 0 ≡ true → (P CsReset ≡ Q CsReset) × (P Ia1 ≡ Q Ia1) × (P Ma1 ≡ Q Ma1))
        → (eqb c.kind 0 && not (P n)) ≡ (eqb c.kind 0 && not (Q n))
    columns P Q h = at (eqb c.kind 0) refl
      where
        at : (a : Bool) → eqb c.kind 0 ≡ a → (a && not (P n)) ≡ (a && not (Q n))
        at true e = let g = h e in ap not (by_auth (λ n. P n ≡ Q n) n f.options c.kind e taken g.0 g.1 g.2)
        at false e = refl

    step_same : (eqb c.kind 0 && not (step_right n l)) ≡ (eqb c.kind 0 && not (step_wanted (row_of n) (method_in l) (step_in l)))
    step_same =
        columns (λ n. step_right n l) (λ n. step_wanted (row_of n) (method_in l) (step_in l)) (λ e. (rw (or-false (not (eqb (method_in l) 3))), refl, refl))

    key-same : (eqb c.kind 0 && not (key_right n f.keyid l c.book)) ≡ (eqb c.kind 0 && not (key_fits (row_of n) f.keyid shows))
    unfolding shown_of
    key-same = columns (λ n. key_right n f.keyid l c.book) (λ n. key_fits (row_of n) f.keyid shows) (λ e. (rw e (sym (or-false _)), refl, refl))

    support-same : (eqb c.kind 0 && not (support_right n c.features l)) ≡ (eqb c.kind 0 && not (options_supported (row_of n) shows))
    unfolding shown_of
    support-same = columns (λ n. support_right n c.features l) (λ n. options_supported (row_of n) shows) (λ e. (sym (or-false _), refl, refl))

  pub command_first : (sound : Bool) → first_of (command_checks sound f c room) ≡ number_in (if_sound sound (command_verdict f shows)) 0
  unfolding command_verdict shown_of zeros_of
  command_first sound =
      let k = command_keeping (row_of n) f shows in
      let d = command_closing (row_of n) f shows in
      let mine = command_checks sound f c room in
      let same : with_tail mine d.step d.key d.support ≡ checks_of sound k d false = rw (takes-row, work-row, pick, bits-row) in
      tail_same mine mine.step mine.key mine.support d.step d.key d.support
      (λ e. let t = not-false _ e in (step_same t, key-same t, support-same t))
      ∙ ap first_of same ∙ first_is sound k d false

-- ---- the checks of a response

pub response_first : (sound : Bool) (f : Face) (m : Message) (room : ℕ)
    → first_of (response_checks sound f m room) ≡ number_in (if_sound sound (response_verdict f (message_shown m room))) 0
unfolding response_verdict
response_first sound f m room =
    ap first_of (rw (responds-row, secures-row)) ∙ first_is sound (response_keeping (row_of f.name) f (message_shown m room)) (response_closing (row_of f.name) f (message_shown m room)) false
