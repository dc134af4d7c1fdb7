-- Reading a block back gives what was stored. Assumes nothing.
use mathlib.Core.Path.{◌≡◌, refl, sym, ap, ap₂, ◌∙◌}
use mathlib.Core.Bool.{Bool, true, false}
use mathlib.Core.List.{List, [], ◌++◌, append_assoc, append-nil}
use Prim.Native.Nat.{ℕ, ◌+◌}
use lib.Dec.{eqb, ltb}
use lib.ListN.{length, length-append}
use Rattle.bits.specs.Bits.{num}
use Rattle.grain.specs.declared.Session.{Session}
use Rattle.faces.specs.declared.Name.{Name}
use Rattle.faces.specs.declared.Name.TheVariants.{CsReset, Ta1, Ia1, Ia2, Ma1, Ma2}
use Rattle.faces.specs.declared.Face.{Face}
use Rattle.faces.specs.declared.Stage.{Stage}
use Rattle.faces.specs.declared.Stage.TheVariants.{Idle, Step0Sent, Step1Sent, Open, Closed}
use Rattle.faces.specs.declared.ReaderFace.{ReaderFace}
use Rattle.faces.specs.TagFaces.{name_number}
use Rattle.faces.specs.ReaderFaces.{stage_number}
use Rattle.states.specs.TagStates.{TagState, face_of, secrets_of}
use Rattle.states.specs.ReaderStates.{ReaderState, reader_face_of, reader_secrets_of}
use Rattle.states.proofs.TagStates.{parts_of_lem}
use Rattle.states.proofs.ReaderStates.{reader_parts_of}
use Rattle.blocks.specs.Blocks.{number_at, number_bytes, Word, Words, session_in, session_bytes, name_of, spells_tag, tag_face_in, tag_in, tag_head, tag_block, stage_of, spells_reader, reader_face_in, reader_in, reader_head, reader_block}
use Rattle.blocks.proofs.Numbers.{length-number, number_back, length-session}

-- where a list ends once a number more is put behind it
module _ (p : List ℕ) (at : ℕ) (e : length p ≡ at) (n : ℕ) where
  further : length (p ++ number_bytes n) ≡ at + 8
  further = length-append p (number_bytes n) ∙ ap₂ (λ (i j : ℕ). i + j) e (length-number n)

session_back : (p q : List ℕ) (x : Session) → length p ≡ 8 → Words x → session_in (p ++ (session_bytes x ++ q)) ≡ x
unfolding session_in session_bytes
session_back p q x e w =
    let a : List ℕ = number_bytes x.engine.b.first in
    let b : List ℕ = number_bytes x.engine.b.last in
    let c : List ℕ = number_bytes x.engine.s.first in
    let d : List ℕ = number_bytes x.engine.s.last in
    let f : List ℕ = number_bytes x.acc in
    let g : List ℕ = number_bytes x.reg in
    let p1 : List ℕ = p ++ a in
    let p2 : List ℕ = p1 ++ b in
    let p3 : List ℕ = p2 ++ c in
    let p4 : List ℕ = p3 ++ d in
    let p5 : List ℕ = p4 ++ f in
    let l : List ℕ = p ++ ((a ++ (b ++ (c ++ (d ++ (f ++ g))))) ++ q) in
    let l0 : l ≡ p ++ (a ++ (b ++ (c ++ (d ++ (f ++ (g ++ q)))))) = simp append_assoc in
    let l1 : l ≡ p1 ++ (b ++ (c ++ (d ++ (f ++ (g ++ q))))) = l0 ∙ sym (append_assoc p a (b ++ (c ++ (d ++ (f ++ (g ++ q)))))) in
    let l2 : l ≡ p2 ++ (c ++ (d ++ (f ++ (g ++ q)))) = l1 ∙ sym (append_assoc p1 b (c ++ (d ++ (f ++ (g ++ q))))) in
    let l3 : l ≡ p3 ++ (d ++ (f ++ (g ++ q))) = l2 ∙ sym (append_assoc p2 c (d ++ (f ++ (g ++ q)))) in
    let l4 : l ≡ p4 ++ (f ++ (g ++ q)) = l3 ∙ sym (append_assoc p3 d (f ++ (g ++ q))) in
    let l5 : l ≡ p5 ++ (g ++ q) = l4 ∙ sym (append_assoc p4 f (g ++ q)) in
    let e1 : length p1 ≡ 16 = further p 8 e x.engine.b.first in
    let e2 : length p2 ≡ 24 = further p1 16 e1 x.engine.b.last in
    let e3 : length p3 ≡ 32 = further p2 24 e2 x.engine.s.first in
    let e4 : length p4 ≡ 40 = further p3 32 e3 x.engine.s.last in
    let e5 : length p5 ≡ 48 = further p4 40 e4 x.acc in
    let n0 : number_at 8 l ≡ x.engine.b.first = ap (number_at 8) l0 ∙ number_back p _ 8 x.engine.b.first e w.b_first in
    let n1 : number_at 16 l ≡ x.engine.b.last = ap (number_at 16) l1 ∙ number_back p1 _ 16 x.engine.b.last e1 w.b_last in
    let n2 : number_at 24 l ≡ x.engine.s.first = ap (number_at 24) l2 ∙ number_back p2 _ 24 x.engine.s.first e2 w.s_first in
    let n3 : number_at 32 l ≡ x.engine.s.last = ap (number_at 32) l3 ∙ number_back p3 _ 32 x.engine.s.last e3 w.s_last in
    let n4 : number_at 40 l ≡ x.acc = ap (number_at 40) l4 ∙ number_back p4 _ 40 x.acc e4 w.acc in
    let n5 : number_at 48 l ≡ x.reg = ap (number_at 48) l5 ∙ number_back p5 _ 48 x.reg e5 w.reg in
    rw (n0, n1, n2, n3, n4, n5)

-- ---- names, stages and flags

name_back : (n : Name) → (name_of (name_number n) ≡ n) × (ltb (name_number n) 6 ≡ true)
unfolding name_of
name_back CsReset = (refl, refl)
name_back Ta1 = (refl, refl)
name_back Ia1 = (refl, refl)
name_back Ia2 = (refl, refl)
name_back Ma1 = (refl, refl)
name_back Ma2 = (refl, refl)

stage_back : (s : Stage) → (stage_of (stage_number s) ≡ s) × (ltb (stage_number s) 5 ≡ true)
unfolding stage_of
stage_back Idle = (refl, refl)
stage_back Step0Sent = (refl, refl)
stage_back Step1Sent = (refl, refl)
stage_back Open = (refl, refl)
stage_back Closed = (refl, refl)

flag_back : (b : Bool) → (eqb (num b) 1 ≡ b) × (ltb (num b) 2 ≡ true)
flag_back false = (refl, refl)
flag_back true = (refl, refl)

-- ---- the tag

pub tag_spelled : (t : TagState) → spells_tag (tag_block t) ≡ true
unfolding spells_tag tag_block
tag_spelled t =
    let f : Face = face_of t in
    rw (length-session (secrets_of t), (name_back f.name).1, (flag_back f.init).1, (flag_back f.ta).1, (flag_back f.ia).1, (flag_back f.error).1)

tag-face_back : (f : Face) (l : List ℕ) → tag_face_in (tag_head f ++ l) ≡ f
tag-face_back f l =
    rw ((name_back f.name).0, (flag_back f.init).0, (flag_back f.ta).0, (flag_back f.ia).0, (flag_back f.error).0)

pub tag_back : (t : TagState) → Words (secrets_of t) → tag_in (tag_block t) ≡ t
unfolding tag_in tag_block
tag_back t w =
    let p : List ℕ = tag_head (face_of t) in
    let s : session_in (p ++ session_bytes (secrets_of t)) ≡ secrets_of t = ap (λ (l : List ℕ). session_in (p ++ l)) (sym (append-nil (session_bytes (secrets_of t)))) ∙ session_back p [] (secrets_of t) refl w in
    rw (s, tag-face_back (face_of t) (session_bytes (secrets_of t))) (parts_of_lem t)

-- ---- the reader

pub reader_spelled : (r : ReaderState) → spells_reader (reader_block r) ≡ true
unfolding spells_reader reader_block
reader_spelled r =
    rw (length-append (session_bytes (reader_secrets_of r)) (number_bytes (reader_face_of r).number), length-session (reader_secrets_of r), length-number (reader_face_of r).number, (stage_back (reader_face_of r).stage).1)

reader-face_back : (f : ReaderFace) (l : List ℕ) → number_at 56 (reader_head f ++ l) ≡ f.number → reader_face_in (reader_head f ++ l) ≡ f
reader-face_back f l n = rw (n, (stage_back f.stage).0)

pub reader_back : (r : ReaderState) → Words (reader_secrets_of r) → Word (reader_face_of r).number → reader_in (reader_block r) ≡ r
unfolding reader_in reader_block
reader_back r w h =
    let f : ReaderFace = reader_face_of r in
    let p : List ℕ = reader_head f in
    let s : List ℕ = session_bytes (reader_secrets_of r) in
    let m : List ℕ = number_bytes f.number in
    let l : p ++ (s ++ m) ≡ (p ++ s) ++ (m ++ []) = sym (append_assoc p s m) ∙ ap (λ (t : List ℕ). (p ++ s) ++ t) (sym (append-nil m)) in
    let k : length (p ++ s) ≡ 56 = rw (length-session (reader_secrets_of r)) in
    let n : number_at 56 (p ++ (s ++ m)) ≡ f.number = ap (number_at 56) l ∙ number_back (p ++ s) [] 56 f.number k h in
    rw (session_back p m (reader_secrets_of r) refl w, reader-face_back f (s ++ m) n) (reader_parts_of r)
