-- Demand 3 has force: tags that leak where a comparison fails are refuted. Assumes nothing.
use mathlib.Core.Path.{◌≡◌, refl, sym, ap, subst, ◌∙◌}
use mathlib.Core.Bool.{Bool, true, false, not, cond, true≢false}
use mathlib.Core.List.{List, [], ◌∷◌}
use Prim.Native.Nat.{ℕ}
use native.Mathlib.Omega.{arith}
use lib.Dec.{eqb}
use lib.ListN.{drop, get_or, replicate}
use borrow.Author.Tests.{ne_eqb}
use Rattle.std.specs.declared.result.Result.TheVariants.{Ok}
use Rattle.bits.specs.Area.{shown}
use Rattle.bits.specs.Bits.{bits_of, digit, num_of}
use Rattle.bits.specs.Bytes.{bits_of_bytes, bytes_of, padded, field_of}
use Rattle.grain.specs.declared.Method.TheVariants.{Ia}
use Rattle.grain.specs.declared.Session.{Session}
use Rattle.book.specs.Book as Book
use Rattle.payloads.specs.Payloads.{options_in, reader_keystream_in}
use Rattle.rules.specs.Answers.{verdict_of, closing_of}
use Rattle.rules.specs.Calls.{Command}
use Rattle.rules.specs.Results.{said, decided}
use Rattle.rules.specs.TagRules.{shown_of, command_verdict, command_work}
use Rattle.rules.proofs.Verdicts.{soundly}
use Rattle.states.specs.Sessions.{filled_session, next_keystream, chosen_width}
use Rattle.states.specs.TagStates.{TagState, secrets_of, sound_of, begun_face, begun_tag}
use Rattle.states.proofs.TagStates.{secrets_of_lem, face-begun, secrets_begun}
use Rattle.machines.specs.TagWork.{failed, command_of, carried_of, worked_of, prove_of, proved_by}
use Rattle.machines.proofs.TagSound.{begun-sound}
use Rattle.promises.specs.Machines.{Given}
use Rattle.promises.specs.Ours.{given}
use Rattle.promises.specs.Silence as Silence
use Rattle.promises.specs.Silence.{Runs, Standing, together, Claimed, Silent, WholeAlike}
use Rattle.promises.specs.Demand3 as Demand3
use Rattle.promises.specs.Demand3.{AlikeCommands, commands, tag_runs, Demand3}
use Rattle.promises.specs.Leaky.{on_mismatch, with_input, leaves_input, agreed, expected, placed, with_place, keeps_place, Knowing, keeps_key}
use Rattle.promises.proofs.Comparisons.{order_of}
use Rattle.promises.proofs.LeakRuns.{differ, buffer, called, call, keyed, alike_but, alike_keys, from_reset, opening, engine, opens}

-- ---- IA's step 1, with a guess of the keystream whose first byte is x and whose others are 0

abbrev pub guess : ℕ → ℕ → Command
guess k x = called 31 k 0 (80 ∷ 5 ∷ x ∷ replicate 7 0) 80

-- the keystream that is asked for: it is never computed here
abbrev word : ℕ → ℕ
word k = (next_keystream (filled_session (chosen_width 0) (engine Ia k)).engine).word

abbrev pub tag : ℕ → TagState
tag k = begun_tag false 5 (engine Ia k)

abbrev asked : ℕ → ℕ
asked x = reader_keystream_in (bits_of_bytes (guess 0 x).payload)

abbrev pub Wrong : ℕ → ℕ → Type 0
Wrong k x = eqb (word k) (asked x) ≡ false

no_options : (x : ℕ) → options_in (bits_of_bytes (guess 0 x).payload) ≡ 0
unfolding bits_of_bytes bits_of digit num_of padded field_of
no_options x = refl

pub goes : (k x : ℕ) → command_verdict (begun_face false 5) (shown_of 0 (guess k x) 265) ≡ Ok tt
unfolding command_verdict shown_of verdict_of closing_of Book.sound_of Book.ids_of Book.key_ids Book.rising bits_of_bytes bits_of digit num_of padded field_of
goes k x = refl

proves : (k x : ℕ) → Wrong k x → said (prove_of (tag k) (shown_of 0 (guess k x) 265) (guess k x).payload) ≡ said (failed false)
unfolding prove_of proved_by shown_of
proves k x e = rw (face-begun, secrets_begun, no_options x, e)

pub mismatch : (k x : ℕ) → Wrong k x → command_of (tag k) (guess k x) 265 ≡ said (failed false)
unfolding command_of carried_of decided command_work worked_of shown_of
mismatch k x e = rw (soundly (sound_of (tag k)) _ (begun-sound false 5 (engine Ia k)), face-begun, goes k x) (proves k x e)

alike_guesses : (k l x y : ℕ) → AlikeCommands 0 (guess k x) (guess l y) buffer buffer
unfolding bits_of_bytes bits_of digit
alike_guesses k l x y = alike_but 0 31 k l 0 _ _ 80 refl (λ z. refl) (λ z w c. absurd (true≢false (sym z)))

-- ---- two wrong guesses are alike in all public parts: so the whole answers are

module _ (change : TagState → Command → List ℕ → Given TagState → Given TagState) (d : Demand3 (on_mismatch change))
    (x y : ℕ) (u : Wrong 0 x) (v : Wrong 0 y) where
  abbrev left : ℕ → Given TagState
  left n = change (tag 0) (guess 0 n) buffer (given (said (failed false)) buffer)

  abbrev M : Runs
  M = tag_runs (on_mismatch change)

  both : (left x).answer ≡ 10 → (left y).answer ≡ 10 → WholeAlike M (begun_face false 5) (call (guess 0 x)) (left x) (left y)
  unfolding Silent
  both p q =
      let calls : List (Demand3.Call × Demand3.Call) = (call (opening Ia 0), call (opening Ia 0)) ∷ (call (guess 0 x), call (guess 0 y)) ∷ [] in
      let h = (from_reset (on_mismatch change) d calls (commands (alike_keys _ 2 0 0 0 _ 64))).1 in
      let k = rw (opens Ia 0, face-begun) at h in
      let m = (k (commands (alike_guesses 0 0 x y))).0 in
      let n = rw (mismatch 0 x u, mismatch 0 y v) at m in
      let z : Silence.next M (begun_face false 5) (call (guess 0 x)) together (left x) (left y) ≡ Silence.failed = rw (p, q, order_of (begun_face false 5) (guess 0 x) 265 _ (goes 0 x)) refl in
      (subst (λ (s : Standing). Claimed M (begun_face false 5) (call (guess 0 x)) s (left x) (left y)) z n).1

-- ---- the keystream's first two bits, whatever they are, say what guesses are wrong

wrong : (k x i : ℕ) (b : Bool) → digit i (word k) ≡ b → digit i (asked x) ≡ not b → Wrong k x
wrong k x i b e f = ne_eqb _ _ (λ q. differ b (sym e ∙ ap (digit i) q ∙ f))

abbrev third : List ℕ → ℕ
third l = get_or l 2 0

-- two guesses with the wrong first bit
pub leaves_input_lem : Demand3 leaves_input → ⊥
unfolding digit bits_of_bytes bits_of num_of padded field_of shown bytes_of
leaves_input_lem d = at (digit 63 (word 0)) refl
  where
    at : (b : Bool) → digit 63 (word 0) ≡ b → ⊥
    at true e =
        let h : ◌≡◌ {A = ℕ} 0 64 = ap third (both with_input d 0 64 (wrong 0 0 63 true e refl) (wrong 0 64 63 true e refl) refl refl).area in
        omega (arith, h)
    at false e =
        let h : ◌≡◌ {A = ℕ} 128 192
        = ap third (both with_input d 128 192 (wrong 0 128 63 false e refl) (wrong 0 192 63 false e refl) refl refl).area in
        omega (arith, h)

-- ---- a guess with the wrong first bit, and one with the right first and the wrong second

module _ (d : Demand3 keeps_place) (p q : Bool) (e : digit 63 (word 0) ≡ p) (f : digit 62 (word 0) ≡ q) where
  abbrev guessed : ℕ → List Bool
  guessed x = bits_of_bytes (guess 0 x).payload

  abbrev place : ℕ → ℕ
  place x = agreed (p ∷ q ∷ bits_of 62 (word 0)) (drop 16 (guessed x))

  place_is : (x : ℕ) → agreed (expected (tag 0) (guessed x)) (drop 16 (guessed x)) ≡ place x
  place_is x = ap (λ (l : List Bool). agreed l (drop 16 (guessed x))) expects
    where
      expects : expected (tag 0) (guessed x) ≡ p ∷ q ∷ bits_of 62 (word 0)
      expects = unfold expected bits_of in rw (secrets_begun, no_options x, e, f) refl

  is_placed : (n : ℕ) (t : TagState) → (secrets_of (placed n t)).acc ≡ n
  is_placed n t = ap (λ (x : Session). x.acc) (secrets_of_lem _ _)

  clash : (x y : ℕ) → digit 63 (asked x) ≡ not p → digit 62 (asked y) ≡ not q → place x ≡ 0 → place y ≡ 1 → ⊥
  clash x y u v zero one =
      let h = (both with_place d x y (wrong 0 x 63 p e u) (wrong 0 y 62 q f v) refl refl).state in
      let k = sym zero ∙ sym (place_is x) ∙ sym (is_placed _ _) ∙ ap (λ (t : TagState). (secrets_of t).acc) h ∙ is_placed _ _ ∙ place_is y ∙ one in
      omega (arith, k)

pub keeps_place_lem : Demand3 keeps_place → ⊥
unfolding digit bits_of_bytes bits_of num_of padded field_of agreed
keeps_place_lem d = at (digit 63 (word 0)) (digit 62 (word 0)) refl refl
  where
    at : (p q : Bool) → digit 63 (word 0) ≡ p → digit 62 (word 0) ≡ q → ⊥
    at true true e f = clash d true true e f 0 128 refl refl refl refl
    at true false e f = clash d true false e f 0 192 refl refl refl refl
    at false true e f = clash d false true e f 128 0 refl refl refl refl
    at false false e f = clash d false false e f 128 64 refl refl refl refl

-- ---- two keys, each with a wrong guess

-- the first byte of one
abbrev pub off : ℕ → ℕ
off k = cond (digit 63 (word k)) 0 128

pub off_wrong : (k : ℕ) → Wrong k (off k)
unfolding digit bits_of_bytes bits_of num_of padded field_of
off_wrong k = at (digit 63 (word k)) refl
  where
    at : (b : Bool) → digit 63 (word k) ≡ b → Wrong k (cond b 0 128)
    at true e = wrong k 0 63 true e refl
    at false e = wrong k 128 63 false e refl

pub keeps_key_lem : Demand3 keeps_key → ⊥
unfolding Silent
keeps_key_lem d =
    let h = (from_reset keeps_key d (keyed (opening Ia) ∷ keyed (λ k. guess k (off k)) ∷ []) (commands (alike_keys _ 2 0 128 0 _ 64))).1 in
    let k = rw (opens Ia 0, opens Ia 128, face-begun) at h in
    let m = (k (commands (alike_guesses 0 128 (off 0) (off 128)))).0 in
    let n = rw (mismatch 0 (off 0) (off_wrong 0), mismatch 128 (off 128) (off_wrong 128), order_of (begun_face false 5) (guess 0 (off 0)) 265 _ (goes 0 (off 0))) at m in
    unfold bits_of_bytes bits_of digit in true≢false (sym (ap (λ (k : Knowing). k.bit) n.1.state))
