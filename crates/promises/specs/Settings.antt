-- Demand 2's premises: who talks with which key, and what is said. Assumes nothing.
use Rattle.std.specs.Prelude.{Bool, true, cond, not, ◌&&◌, ◌||◌, List, ◌≡◌, ℕ, ◌*◌, ◌^◌, ◌≤◌, ◌<◌, eqb, length}
use Rattle.book.specs.Book as Book
use Rattle.payloads.specs.Payloads.{securing, supports, supports_start, data_limit}

-- "Demand 2's one key stands under the begun KeyID in the reader's book at begin and in the tag's at step 0"; the rest of the books
-- is free, and so are the numbers below 2^48; the features are the tag's at step 0
pub record Setting : Type 0 where
  pub method : ℕ
  pub options : ℕ
  pub keyid : ℕ
  pub features : ℕ
  pub reader_number : ℕ
  pub tag_number : ℕ
  pub reader_book : List ℕ
  pub tag_book : List ℕ

-- no call is "answered 1, 2 or 11" for its book or number; the key is one; method and options are as step 0 asks
pub record Honest (s : Setting) : Type 0 where
  pub method : s.method < 3
  pub options : s.options < 4
  pub keyid : s.keyid < 256
  pub features : s.features < 256
  pub reader_number : s.reader_number < 2 ^ 48
  pub tag_number : s.tag_number < 2 ^ 48
  pub reader_sound : Book.sound_of s.reader_book ≡ true
  pub tag_sound : Book.sound_of s.tag_book ≡ true
  pub reader_knows : Book.known_of s.keyid s.reader_book ≡ true
  pub tag_knows : Book.known_of s.keyid s.tag_book ≡ true
  pub one_key : Book.key_of s.keyid s.reader_book ≡ Book.key_of s.keyid s.tag_book
  pub offered : supports_start s.features s.method (cond (eqb s.method 0) s.options 0) ≡ true

-- a features byte that supports the options: in IA and MA the reader holds the tag's of step 0, and the tag any that it has at step 1.
-- Document 01's "one features byte" is the case where step 1's is step 0's
pub record Supporting (s : Setting) (features : ℕ) : Type 0 where
  pub byte : features < 256
  pub options : supports features s.options ≡ true

-- a buffer that no call answers with 2
abbrev pub Roomy : List ℕ → Type 0
Roomy buffer = 265 ≤ length buffer

-- a message: its direction, whether it is secure, and its data; and the features, book and number of the tag's call, if any
pub record Talk : Type 0 where
  pub to_tag : Bool
  pub secure : Bool
  pub payload : List ℕ
  pub count : ℕ
  pub features : ℕ
  pub book : List ℕ
  pub number : ℕ

-- "messages both machines allow, none answered 1, 2 or 11"
pub record Allowed (s : Setting) (m : Talk) : Type 0 where
  pub direction : (cond m.to_tag (not (eqb s.method 0)) (not (eqb s.method 1))) ≡ true
  pub secrecy : (not m.secure || (eqb s.method 2 && securing s.options)) ≡ true
  pub limit : m.count ≤ data_limit
  pub within : m.count ≤ 8 * length m.payload
  pub book : Book.sound_of m.book ≡ true
  pub number : m.number < 2 ^ 48
