-- The key book (document 01, "Replies and refusals"). A book is the list of its bytes. Assumes nothing.
use Rattle.std.specs.Prelude.{Bool, true, cond, ◌&&◌, List, [], ◌∷◌, ℕ, zero, suc, ◌+◌, ◌*◌, ◌/◌, ◌%◌, leb, ltb, eqb, length, get_or, take, drop, Option, Some, None}

-- "A book record is a KeyID and a 16-byte key"
abbrev pub key_bytes : ℕ
key_bytes = 16

-- "whole 17-byte records"
abbrev pub record_bytes : ℕ
record_bytes = 17

-- "over 16": no sound book has more records
abbrev pub book_limit : ℕ
book_limit = 16

-- how many whole records a book has
abbrev pub records_of : List ℕ → ℕ
records_of b = length b / record_bytes

-- the KeyIDs of the first n records
unfoldable pub key_ids : ℕ → List ℕ → List ℕ
key_ids zero b = []
key_ids (suc n) b = get_or b 0 0 ∷ key_ids n (drop record_bytes b)

-- "the book's KeyIDs"
unfoldable pub ids_of : List ℕ → List ℕ
ids_of b = key_ids (records_of b) b

-- "KeyIDs not rising": they rise where each is above the one before
unfoldable pub rising : List ℕ → Bool
rising [] = true
rising (x ∷ []) = true
rising (x ∷ y ∷ ys) = ltb x y && rising (y ∷ ys)

-- refusal 1, "book not whole 17-byte records, over 16, or KeyIDs not rising", denied: the length and the KeyIDs alone decide
unfoldable pub sound_of : List ℕ → Bool
sound_of b = eqb (length b % record_bytes) 0 && leb (records_of b) book_limit && rising (ids_of b)

-- where a KeyID first stands in a list of KeyIDs: the list's length where it is not there
unfoldable pub place_in : ℕ → List ℕ → ℕ
place_in id [] = 0
place_in id (x ∷ xs) = cond (eqb x id) 0 (suc (place_in id xs))

-- refusal 5, "KeyID not in the book", denied: the length and the KeyIDs alone decide
unfoldable pub known_of : ℕ → List ℕ → Bool
known_of id b = ltb (place_in id (ids_of b)) (records_of b)

-- the 16 bytes of the key under a KeyID: none where the KeyID is not there
unfoldable pub key_of : ℕ → List ℕ → List ℕ
key_of id b = cond (known_of id b) (take key_bytes (drop (record_bytes * place_in id (ids_of b) + 1) b)) []

-- what is found under a KeyID: its key, where the KeyID is in the book
unfoldable pub found_of : ℕ → List ℕ → Option (List ℕ)
found_of id b = cond (known_of id b) (Some (key_of id b)) None
