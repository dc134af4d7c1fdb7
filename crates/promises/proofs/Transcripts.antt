-- The sessions of the transcript, and what our machines store of them. Assumes nothing.
use mathlib.Core.Path.{◌≡◌, refl, ◌∙◌}
use mathlib.Core.Bool.{Bool, true, false, cond}
use Prim.Native.Nat.{ℕ, ◌^◌, ◌<◌}
use lib.Dec.{eqb}
use lib.ListN.{length}
use borrow.Author.Tests.{lt-ltb}
use Rattle.bits.specs.Bits.{num_of}
use Rattle.bits.proofs.Bools.{either}
use Rattle.bits.proofs.Numbers.{num_of-lt}
use Rattle.book.specs.Book as Book
use Rattle.book.proofs.Laws.{known_key}
use Rattle.grain.specs.declared.Engine.{Engine}
use Rattle.grain.specs.declared.Register.{Register}
use Rattle.grain.specs.declared.Session.{Session}
use Rattle.grain.specs.Generator.{State}
use Rattle.grain.specs.Mac.{Mac, keystream, pairs}
use Rattle.grain.specs.Stored.{engine_of, session_of, keystream_of}
use Rattle.grain.proofs.Words.{Sized, width_small}
use Rattle.grain.proofs.Runs.{length-keystream, sized_pairs}
use Rattle.grain.proofs.Widths.{wide_fits}
use Rattle.grain.proofs.Back.{Whole, sized_loaded, sized_started, whole-filled}
use Rattle.states.specs.Sessions.{chosen_width, key_in, begun_engine, filled_session, next_keystream, with_engine, words_fit}
use Rattle.states.proofs.Sessions.{width_chosen}
use Rattle.states.proofs.Stored.{key-size, begun-stored, filled-stored, keystream-stored}
use Rattle.promises.specs.Settings.{Setting, Honest}
use Rattle.promises.specs.Transcript.{width, begun, begun_mac, first_word, second_word, open_mac}

-- ---- 64 pairs of an authentication

-- a session whose next 64 keystream bits are used, their MAC bits thrown away
abbrev pub spent : Mac → Mac
spent x = record { st = pairs 64 x.st; acc = x.acc; reg = x.reg }

whole_spent : (w : ℕ) (x : Mac) → Whole w x → Whole w (spent x)
whole_spent w x h = (sized_pairs 64 x.st h.0, h.1)

-- the word that is said of them
abbrev pub word_of : Mac → ℕ
word_of x = num_of (keystream 64 x.st)

word_small : (x : Mac) → word_of x < 2 ^ 64
word_small x = rw length-keystream at (num_of-lt (keystream 64 x.st))

module _ (x : Mac) (h : Sized x.st) where
  pub word_stored : (next_keystream (session_of x).engine).word ≡ word_of x
  unfolding session_of keystream_of
  word_stored = rw (keystream-stored x.st h)

  pub spent_stored : with_engine (session_of x) (next_keystream (session_of x).engine).engine ≡ session_of (spent x)
  unfolding session_of keystream_of
  spent_stored = rw (keystream-stored x.st h)

-- what is stored of a session is sound
pub words-stored : (w : ℕ) (x : Mac) → Whole w x → words_fit w (session_of x) ≡ true
words-stored w x h = let f = wide_fits w x h.1 in rw (lt-ltb _ _ f.acc, lt-ltb _ _ f.reg)

module _ (s : Setting) where
  pub width_positive : 0 < width s
  width_positive = rw (← width_chosen s.options) (width_small (chosen_width s.options)).0

  -- what both ends store: the session filled, and after its first 64 pairs
  abbrev pub filled : Session
  filled = session_of (begun_mac s)

  abbrev pub proved : Session
  proved = session_of (spent (begun_mac s))

  -- ---- the words and the open session, by their sessions

  pub first_is : first_word s ≡ word_of (begun_mac s)
  unfolding first_word
  first_is = refl

  pub second_is : second_word s ≡ word_of (spent (begun_mac s))
  unfolding second_word
  second_is = refl

  pub first_small : first_word s < 2 ^ 64
  first_small = rw first_is (word_small (begun_mac s))

  pub second-small : second_word s < 2 ^ 64
  second-small = rw second_is (word_small (spent (begun_mac s)))

  pub open_is : (b : Bool) → eqb s.method 2 ≡ b → open_mac s ≡ cond b (spent (spent (begun_mac s))) (spent (begun_mac s))
  unfolding open_mac
  open_is true e = rw e refl
  open_is false e = rw e refl

  -- ---- the start

  module _ (h : Honest s) where
    -- the one key, as our machines store it
    abbrev pub key : Register
    key = key_in (Book.key_of s.keyid s.reader_book)

    key-length : length (Book.key_of s.keyid s.reader_book) ≡ 16
    key-length = known_key s.keyid s.reader_book h.reader_knows

    begun_sized : Sized (begun s)
    unfolding begun
    begun_sized = sized_started _ (sized_loaded _ _ _ _ (key-size _ key-length))

    -- the engine that both ends start
    abbrev pub engine : Engine
    engine = begun_engine key s.method s.reader_number s.tag_number

    pub engine_is : engine ≡ engine_of (begun s)
    unfolding begun
    engine_is = begun-stored _ key-length s.method s.reader_number s.tag_number

    pub begun-whole : Whole (width s) (begun_mac s)
    unfolding begun_mac
    begun-whole = whole-filled (width s) (begun s) begun_sized

    pub spent_whole : Whole (width s) (spent (begun_mac s))
    spent_whole = whole_spent (width s) (begun_mac s) begun-whole

    pub open-whole : Whole (width s) (open_mac s)
    unfolding open_mac
    open-whole =
        (either (λ (st : State). Sized st) (eqb s.method 2) _ _ (sized_pairs 64 _ spent_whole.0) spent_whole.0, begun-whole.1)

    pub filled_is : filled_session (chosen_width s.options) engine ≡ filled
    unfolding begun_mac
    filled_is = rw engine_is (filled-stored (begun s) begun_sized (chosen_width s.options) ∙ rw (width_chosen s.options))
