-- IA and MA from step 1 on, call by call: what each says, and that of the words that come to be compared one alone is taken. Assumes
-- nothing.
use mathlib.Core.Path.{◌≡◌, refl, ap, ◌∙◌}
use mathlib.Core.Bool.{Bool, not-not, true, false, cond, not, ◌&&◌, ◌||◌}
use mathlib.Core.List.{List, []}
use Prim.Native.Nat.{ℕ, ◌*◌, ◌^◌, ◌≤◌, ◌<◌}
use native.Mathlib.Omega.{arith}
use lib.Dec.{eqb}
use lib.ListN.{length}
use borrow.Author.Tests.{lt-ltb, le-ltb, lt-leb, eq-eqb}
use Rattle.bits.specs.Bytes.{bits_of_bytes}
use Rattle.bits.proofs.Fields.{field-of, field-whole}
use Rattle.grain.specs.declared.Method.TheVariants.{Ia, Ma}
use Rattle.grain.specs.declared.Session.{Session}
use Rattle.grain.specs.Mac.{Mac}
use Rattle.grain.specs.Stored.{session_of}
use Rattle.book.specs.Book as Book
use Rattle.payloads.specs.Payloads.{status, mutual_proof, layout_of, options_in, reader_keystream_in, status_in}
use Rattle.payloads.proofs.Layouts.{length-status, length_mutual, length_one}
use Rattle.payloads.proofs.Reading.{Fields, one_fields, status-bit, mutual_status, mutual_keystream}
use Rattle.faces.specs.declared.Name.TheVariants.{Ia1, Ma1}
use Rattle.faces.specs.declared.ReaderFace.{ReaderFace}
use Rattle.faces.specs.declared.Stage.TheVariants.{Step1Sent}
use Rattle.faces.specs.TagFaces.{row_of, mutually}
use Rattle.faces.specs.ReaderFaces.{stage_row, reader_fits}
use Rattle.rules.specs.declared.Answer.TheVariants.{Mismatch}
use Rattle.rules.specs.declared.ReplyWork.TheVariants.{Accept, Confirm}
use Rattle.rules.specs.Results.{done_by, refused_by, compared_by, said}
use Rattle.rules.specs.TagRules.{shown_of, command_verdict, command_work}
use Rattle.rules.specs.ReaderRules.{reply_length, reply_work}
use Rattle.rules.proofs.Verdicts.{works}
use Rattle.states.specs.Sessions.{chosen_width, filled_session, next_keystream, with_engine, session_fits}
use Rattle.states.specs.TagStates.{TagState, face_of, secrets_of, begun_tag, open_tag}
use Rattle.states.specs.ReaderStates.{ReaderState, reader_face_of, reader_sound, begun_reader_face, moved_face, closed_reader, filled_reader, opened_reader}
use Rattle.states.proofs.TagStates.{face-begun, secrets_begun}
use Rattle.states.proofs.ReaderStates.{face_asked, face-filled, secrets_filled}
use Rattle.machines.specs.TagWork.{command_of, carried_of, worked_of, started_by, prove_of, proved_by, failed}
use Rattle.machines.specs.ReaderWork.{begin_options, replied_of, answered_by, confirm_of}
use Rattle.machines.proofs.TagSound.{begun-sound}
use Rattle.promises.specs.Settings.{Setting, Honest, Supporting}
use Rattle.promises.specs.Transcript.{width, begun_mac, first_word, second_word, open_mac, challenge_bits, step_one_bits, last_bits}
use Rattle.promises.specs.Demand2.{Carries}
use Rattle.promises.proofs.Transcripts.{filled, proved, spent, word_of, word_stored, spent_stored, words-stored, first_is, second_is, second-small, open_is, engine, begun-whole, spent_whole, filled_is}
use Rattle.promises.proofs.Talking.{reader_at, tag_at}
use Rattle.promises.proofs.Opening.{heard, compared_is, asking, answers_later}

-- IA, and MA where b says so
module _ (s : Setting) (h : Honest s) (b : Bool) (m : s.method ≡ cond b 2 1) where
  -- a test of the method, by what it says of 2 and of 1
  tested : (test : ℕ → Bool) (says : Bool → Bool) → test 2 ≡ says true → test 1 ≡ says false → test s.method ≡ says b
  tested test says e f = rw m (at b)
    where
      at : (x : Bool) → test (cond x 2 1) ≡ says x
      at true = e
      at false = f

  pub not_ta : eqb s.method 0 ≡ false
  not_ta = tested (λ k. eqb k 0) (λ x. false) refl refl

  ia_alone : eqb s.method 1 ≡ not b
  ia_alone = tested (λ k. eqb k 1) not refl refl

  both : eqb s.method 2 ≡ b
  both = tested (λ k. eqb k 2) (λ x. x) refl refl

  abbrev pub waiting : TagState
  waiting = begun_tag b s.keyid (engine s h)

  pub starts_later : said (started_by s.method s.keyid (begin_options s.method s.options) s.features s.tag_number (engine s h))
      ≡ done_by waiting (challenge_bits s)
  unfolding started_by layout_of
  starts_later = rw (not_ta, ia_alone, not-not b)

  abbrev pub proving : ReaderState
  proving = filled_reader false (asking s h) (proved s)

  pub answers : Supporting s s.features → (slice : List ℕ) (room : ℕ) → 265 ≤ room → Carries (challenge_bits s) slice
      → replied_of (asking s h) slice (length (challenge_bits s)) room ≡ done_by proving (step_one_bits s (first_word s))
  answers q slice room r c = answers_later s h slice room r q not_ta c

  -- ---- step 1 at the tag, with any word for the first

  -- what follows its comparison
  proved_is : (same : Bool)
      → said (proved_by b same s.keyid s.options (next_keystream (filled s).engine).engine (filled s))
      ≡ cond same (done_by (tag_at s (open_mac s)) (last_bits s)) (said (failed b))
  proved_is same = rw (open_is s b both, not_ta, ia_alone, both, second_is s) (at b same)
    where
      first_engine : (next_keystream (filled s).engine).engine ≡ (proved s).engine
      first_engine = ap (λ (y : Session). y.engine) (spent_stored (begun_mac s) (begun-whole s h).0)

      again : with_engine (filled s) (next_keystream (proved s).engine).engine ≡ session_of (spent (spent (begun_mac s)))
      again = unfold session_of in spent_stored (spent (begun_mac s)) (spent_whole s h).0

      at : (x same : Bool)
          → said (proved_by x same s.keyid s.options (next_keystream (filled s).engine).engine (filled s))
          ≡ cond same
          (done_by (open_tag (cond (not x) Ia Ma) s.keyid s.options (session_of (cond x (spent (spent (begun_mac s))) (spent (begun_mac s)))))
          (cond x (mutual_proof (word_of (spent (begun_mac s)))) (status 0)))
          (said (failed x))
      at true false = unfold proved_by in refl
      at false false = unfold proved_by in refl
      at true true = unfold proved_by layout_of in rw (first_engine, again, word_stored (spent (begun_mac s)) (spent_whole s h).0)
      at false true = unfold proved_by layout_of in rw (spent_stored (begun_mac s) (begun-whole s h).0)

  module _ (guess : ℕ) (small : guess < 2 ^ 64) (slice : List ℕ) (c : Carries (step_one_bits s guess) slice) where
    count_is : length (step_one_bits s guess) ≡ 80
    count_is = length_one s.method s.options s.keyid guess

    fields : Fields s.method 1 s.options s.keyid 64 guess (bits_of_bytes slice)
    fields = one_fields _ _ _ _ (bits_of_bytes slice) (rw count_is at c.same) h.method h.options h.keyid small

    abbrev session : Session
    session = filled_session (chosen_width (options_in (bits_of_bytes slice))) (secrets_of waiting).engine

    -- a tag that compares by `same`: ours by `eqb`
    pub proves_with : (same : ℕ → ℕ → Bool)
        → said (proved_by (mutually (face_of waiting)) (same (next_keystream session.engine).word (reader_keystream_in (bits_of_bytes slice)))
        (face_of waiting).keyid (options_in (bits_of_bytes slice)) (next_keystream session.engine).engine session)
        ≡ cond (same (first_word s) guess) (done_by (tag_at s (open_mac s)) (last_bits s)) (said (failed b))
    proves_with same =
        rw (
          face-begun,
          secrets_begun,
          mutually_is b,
          fields.options,
          fields.last,
          filled_is s h,
          word_stored (begun_mac s) (begun-whole s h).0,
          first_is s,
        )
        (proved_is _)
      where
        mutually_is : (x : Bool) → eqb (row_of (cond x Ma1 Ia1)).method 2 ≡ x
        mutually_is true = refl
        mutually_is false = refl

    pub proves : (features : ℕ) → Supporting s features → (book : List ℕ) (number room : ℕ) → Book.sound_of book ≡ true → number < 2 ^ 48 → 265 ≤ room
        → command_of waiting
        (record { kind = 0; payload = slice; count = length (step_one_bits s guess); features = features; book = book; number = number }) room
        ≡ cond (eqb (first_word s) guess) (done_by (tag_at s (open_mac s)) (last_bits s)) (said (failed b))
    unfolding command_of carried_of command_verdict command_work shown_of worked_of prove_of
    proves features z book number room q v r =
        let inside : 80 ≤ 8 * length slice = rw count_is at c.within in
        rw (count_is, face-begun)
        (works _ _ _ waiting _ _ (begun-sound b s.keyid (engine s h))
        (record {
          kept = record {
            buffer = le-ltb _ _ r;
            argument = rw (le-ltb _ _ inside, lt-leb _ _ v);
            book = ap not q;
            error = refl;
            work = rw (row_is b);
          };
          kind = rw (row_is b);
          length = rw (row_is b);
          step = rw (row_is b, fields.step, fields.method, m, eq-eqb (cond b 2 1) (cond b 2 1) refl);
          key = rw (row_is b, fields.keyid, eq-eqb s.keyid s.keyid refl);
          support = rw (row_is b, fields.options, z.options);
        })
        ∙ rw (row_is b) (proves_with eqb))
      where
        row_is : (x : Bool) → row_of (cond x Ma1 Ia1)
            ≡ record {
              init = true;
              ta = false;
              ia = false;
              fails = false;
              filled = false;
              method = cond x 2 1;
              step = 1;
              bits = 80;
              comm = false;
              idle = false;
              secure = false;
              responds = false;
            }
        row_is true = refl
        row_is false = refl

  -- ---- the reader, step 1 sent

  proving-sound : reader_sound proving ≡ true
  unfolding reader_sound reader_fits session_fits
  proving-sound =
      rw (
        face-filled,
        secrets_filled,
        face_asked,
        lt-ltb _ _ h.options,
        eq-eqb (width s) (width s) refl,
        words-stored (width s) (spent (begun_mac s)) (spent_whole s h),
        lt-ltb _ _ h.method,
        lt-ltb _ _ h.reader_number,
        not_ta,
      )

  abbrev proving_face : ReaderFace
  proving_face = moved_face Step1Sent (width s) (begun_reader_face s.method s.options s.keyid s.reader_number)

  proving-face : reader_face_of proving ≡ proving_face
  proving-face = face-filled false (asking s h) _ ∙ rw face_asked

  -- what opens it
  opened_at : (x : Mac) → opened_reader proving (session_of x) ≡ reader_at s x
  unfolding opened_reader
  opened_at x = rw proving-face

  module _ (slice : List ℕ) (room : ℕ) (r : 265 ≤ room) where
    learns : (n : ℕ) → n ≤ 8 * length slice → status_in (bits_of_bytes slice) ≡ 0 → reply_length (stage_row Step1Sent) s.method n 0 ≡ true
        → replied_of proving slice n room ≡ said (answered_by (cond (eqb s.method 1) Accept Confirm) proving (bits_of_bytes slice))
    unfolding reply_work
    learns n inside e fits = heard proving proving_face slice n room proving-face proving-sound r inside refl (rw e fits) refl ∙ rw e

    -- the tag's failure
    pub fails : Carries (status 1) slice → replied_of proving slice (length (status 1)) room ≡ refused_by closed_reader Mismatch
    unfolding reply_work answered_by layout_of status
    fails c =
        let n = length-status 1 in
        let one = field-of 0 1 1 (bits_of_bytes slice) _ (rw n at c.same) (omega arith) ∙ field-whole 1 1 (omega arith) in
        rw n
        (heard proving proving_face slice 1 room proving-face proving-sound r (rw n at c.within) refl (rw (one, ia_alone) (fits b)) refl ∙ rw one)
      where
        fits : (x : Bool) → ((not x && true) || (not (not x) && true)) ≡ true
        fits true = refl
        fits false = refl

    accepts : b ≡ false → Carries (status 0) slice → replied_of proving slice (length (status 0)) room ≡ done_by (reader_at s (open_mac s)) []
    unfolding answered_by layout_of
    accepts e c =
        let one : eqb s.method 1 ≡ true = ia_alone ∙ ap not e in
        let z = field-of 0 1 1 (bits_of_bytes slice) _ (rw (length-status 0) at c.same) (omega arith) ∙ status-bit in
        rw (length-status 0, open_is s false (both ∙ e))
        (learns 1 (rw (length-status 0) at c.within) z (rw one refl) ∙ rw (one, secrets_filled, opened_at))

    -- MA's response, with any word for the second
    pub confirms : b ≡ true → (guess : ℕ) → guess < 2 ^ 64 → Carries (mutual_proof guess) slice
        → replied_of proving slice (length (mutual_proof guess)) room
        ≡ compared_by (eqb (second_word s) guess) (reader_at s (open_mac s)) [] closed_reader
    unfolding answered_by confirm_of
    confirms e guess small c =
        let one : eqb s.method 1 ≡ false = ia_alone ∙ ap not e in
        let n = length_mutual guess in
        let same = rw n at c.same in
        let z = field-of 0 1 65 (bits_of_bytes slice) _ same (omega arith) ∙ mutual_status guess in
        let f = field-of 1 64 65 (bits_of_bytes slice) _ same (omega arith) ∙ mutual_keystream guess small in
        let w = spent_whole s h in
        rw (n, open_is s true (both ∙ e), second_is s)
        (learns 65 (rw n at c.within) z (rw one refl)
        ∙ rw (one, secrets_filled, f, word_stored (spent (begun_mac s)) w.0, spent_stored (spent (begun_mac s)) w.0, opened_at) (compared_is _ _))

    -- the tag's last response opens it
    pub lasts : Carries (last_bits s) slice → replied_of proving slice (length (last_bits s)) room ≡ done_by (reader_at s (open_mac s)) []
    unfolding compared_by
    lasts = rw both (at b refl)
      where
        at : (x : Bool) → b ≡ x → Carries (cond x (mutual_proof (second_word s)) (status 0)) slice
            → replied_of proving slice (length (cond x (mutual_proof (second_word s)) (status 0))) room ≡ done_by (reader_at s (open_mac s)) []
        at true e c = confirms e (second_word s) (second-small s) c ∙ rw (eq-eqb (second_word s) (second_word s) refl)
        at false e c = accepts e c
