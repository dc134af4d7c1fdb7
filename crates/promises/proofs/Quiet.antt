-- One induction for every machine: what one call to two of it must be, for the machine to be silent. Assumes nothing.
use mathlib.Core.Path.{◌≡◌, refl, sym, ap, subst, ◌∙◌}
use Prim.Native.Nat.{ℕ}
use lib.Dec.{eqb}
use mathlib.Core.Bool.{Bool, true, false, not, cond, ◌&&◌, true≢false}
use mathlib.Core.List.{List, [], ◌∷◌}
use lib.ListN.{take}
use Rattle.bits.specs.Area.{area_bytes}
use Rattle.promises.specs.Machines.{Given}
use Rattle.promises.specs.Silence.{Runs, Standing, together, failed, apart, fails, after, next, reply_of, SeenAlike, Claimed, Silent, Silence}

-- what is known of a state inside: that it is sound, that it is closed
pub record Inside (M : Runs) : Type 1 where
  pub Sound : M.State → Type 0
  pub Closed : M.State → Type 0

module _ (M : Runs) (I : Inside M) where
  -- what is said is the same to the last bit
  pub record Says (g h : Given M.State) : Type 0 where
    pub answer : g.answer ≡ h.answer
    pub bits : g.bits ≡ h.bits
    pub area : take area_bytes g.buffer ≡ take area_bytes h.buffer
    pub reply : reply_of g ≡ reply_of h

  -- two states that show the same
  pub record Pair (s t : M.State) : Type 0 where
    pub seen : M.seen s ≡ M.seen t
    pub left : I.Sound s
    pub right : I.Sound t

  -- of a call c to states that show v
  module _ (v : M.Shown) (c : M.Call) where
    -- from an open state: they show the same, a comparison failed in both and they are the same, or the comparisons came out unlike
    pub data Worked (g h : Given M.State) : Type 0 where
      alike : fails M v c g ≡ false → SeenAlike M v c g h → Worked g h
      fail : fails M v c g ≡ true → I.Closed g.next → g.next ≡ h.next → Says g h → Worked g h
      unlike : fails M v c g ≡ not (fails M v c h) → Worked g h

    -- from any state: answered alike and kept, or closed, or else the state was open
    pub data Agree (s t : M.State) (g h : Given M.State) : Type 0 where
      kept : fails M v c g ≡ false → g.next ≡ s → h.next ≡ t → Says g h → Agree s t g h
      shut : fails M v c g ≡ false → I.Closed g.next → g.next ≡ h.next → Says g h → Agree s t g h
      worked : (I.Closed s → ⊥) → Worked g h → Agree s t g h

-- what a machine has to show of one call
pub record Quiet (M : Runs) (I : Inside M) : Type 0 where
  pub anew : (s t : M.State) (c d : M.Call) → M.is_reset c ≡ true → M.Alike (M.seen s) c d
      → SeenAlike M (M.seen s) c (M.give s c) (M.give t d) × Pair M I (M.give s c).next (M.give t d).next
  pub sound : (s : M.State) (c : M.Call) → I.Sound s → I.Sound (M.give s c).next
  pub agree : (s t : M.State) (c d : M.Call) → Pair M I s t → M.is_reset c ≡ false → M.Alike (M.seen s) c d
      → Agree M I (M.seen s) c s t (M.give s c) (M.give t d)

module _ (M : Runs) (I : Inside M) (Q : Quiet M I) where
  -- together they show the same; once a comparison has failed in both they are the same closed state
  abbrev pub Known : Standing → M.State → M.State → Type 0
  Known together s t = Pair M I s t
  Known failed s t = Pair M I s t × (s ≡ t) × I.Closed s
  Known apart s t = Unit {0}

  module _ (v : M.Shown) (c : M.Call) where
    abbrev pub Holds : Standing → Given M.State → Given M.State → Type 0
    Holds z g h = Claimed M v c z g h × Known z g.next h.next

    module _ (g h : Given M.State) (left : I.Sound g.next) (right : I.Sound h.next) where
      -- the same answer fails in both or in neither
      fails_too : (b : Bool) → g.answer ≡ h.answer → fails M v c g ≡ b → fails M v c h ≡ b
      fails_too b e n = ap (λ (x : ℕ). eqb x 10 && M.compares v c) (sym e) ∙ n

      alike_holds : fails M v c g ≡ false → SeenAlike M v c g h → Holds (after together (fails M v c g) (fails M v c h)) g h
      alike_holds n w = rw (n, fails_too false w.answer n) (w, record { seen = w.seen; left = left; right = right })

      seen_alike : M.seen g.next ≡ M.seen h.next → Says M I g h → SeenAlike M v c g h
      seen_alike e w = record { answer = w.answer; seen = e; bits = w.bits; reply = ap (M.public_reply v c) w.reply }

      same-holds : I.Closed g.next → g.next ≡ h.next → Says M I g h → Holds failed g h
      same-holds x e w =
          let f : M.seen g.next ≡ M.seen h.next = ap M.seen e in
          ((seen_alike f w, record { state = e; bits = w.bits; area = w.area }), (record { seen = f; left = left; right = right }, e, x))

      unlike_holds : (x y : Bool) → x ≡ not y → Holds (after together x y) g h
      unlike_holds true true n = absurd (true≢false n)
      unlike_holds true false n = (tt, tt)
      unlike_holds false true n = (tt, tt)
      unlike_holds false false n = absurd (true≢false (sym n))

      together-next : (s t : M.State) → M.seen s ≡ M.seen t → Agree M I v c s t g h → Holds (after together (fails M v c g) (fails M v c h)) g h
      together-next s t k (kept n x y w) = alike_holds n (seen_alike (ap M.seen x ∙ k ∙ ap M.seen (sym y)) w)
      together-next s t k (shut n x e w) = alike_holds n (seen_alike (ap M.seen e) w)
      together-next s t k (worked o (alike n w)) = alike_holds n w
      together-next s t k (worked o (fail n x e w)) = rw (n, fails_too true w.answer n) (same-holds x e w)
      together-next s t k (worked o (unlike n)) = unlike_holds (fails M v c g) (fails M v c h) n

      failed-next : (s t : M.State) → s ≡ t → I.Closed s → Agree M I v c s t g h → Holds failed g h
      failed-next s t k i (kept n x y w) = same-holds (subst I.Closed (sym x) i) (x ∙ k ∙ sym y) w
      failed-next s t k i (shut n x e w) = same-holds x e w
      failed-next s t k i (worked o w) = absurd (o i)

  step : (z : Standing) (s t : M.State) (c d : M.Call) → Known z s t → M.Alike (M.seen s) c d
      → Holds (M.seen s) c (next M (M.seen s) c z (M.give s c) (M.give t d)) (M.give s c) (M.give t d)
  step z s t c d k a = go (M.is_reset c) refl z k
    where
      v : M.Shown
      v = M.seen s

      g : Given M.State
      g = M.give s c

      h : Given M.State
      h = M.give t d

      go : (b : Bool) → M.is_reset c ≡ b → (z : Standing) → Known z s t → Holds v c (cond b together (after z (fails M v c g) (fails M v c h))) g h
      go true e z k = Q.anew s t c d e a
      go false e together k = together-next v c g h (Q.sound s c k.left) (Q.sound t d k.right) s t k.seen (Q.agree s t c d k e a)
      go false e failed k =
          failed-next v c g h (Q.sound s c k.0.left) (Q.sound t d k.0.right) s t k.1 k.2 (Q.agree s t c d k.0 e a)
      go false e apart k = (tt, tt)

  silent : (ps : List (M.Call × M.Call)) (z : Standing) (s t : M.State) → Known z s t → Silent M z s t ps
  unfolding Silent
  silent [] z s t k = tt
  silent (p ∷ ps) z s t k = λ a. let h = step z s t p.0 p.1 k a in (h.0, silent ps _ _ _ h.1)

  pub quiet : Silence M
  quiet s t ps = silent ps apart s t tt
