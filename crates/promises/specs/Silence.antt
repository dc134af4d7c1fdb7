-- Silence, of any machine: two of it "run from reset alike in all public parts answer alike while their comparisons come out alike,
-- and once a comparison fails their replies and whole stored states are equal until the next reset." Assumes nothing.
use Rattle.std.specs.Prelude.{Bool, true, false, cond, ◌&&◌, List, [], ◌∷◌, ◌≡◌, eqb, take}
use Rattle.bits.specs.Area.{area_bytes}
use Rattle.bits.specs.Bytes.{bits_of_bytes}
use Rattle.promises.specs.Machines.{Given}

-- a machine as its runs see it: each call with the buffer that it is lent, and what a state shows. Of a call to a state that shows so:
-- when another is alike in all public parts, whether something is compared, and which bits of its reply are public
pub record Runs : Type 1 where
  pub State : Type 0
  pub Call : Type 0
  pub Shown : Type 0
  pub give : State → Call → Given State
  pub seen : State → Shown
  pub is_reset : Call → Bool
  pub Alike : Shown → Call → Call → Type 0
  pub compares : Shown → Call → Bool
  pub public_reply : Shown → Call → List Bool → List Bool

-- how two runs stand
pub data Standing : Type 0 where
  -- since the last reset every comparison came out alike, and held
  together : Standing
  -- one has failed in both
  failed : Standing
  -- not reset yet, or one has failed in one of them alone
  apart : Standing

-- how they stand after a call, by whether a comparison failed in the one and in the other
abbrev pub after : Standing → Bool → Bool → Standing
after together true true = failed
after together true false = apart
after together false true = apart
after together false false = together
after failed a b = failed
after apart a b = apart

-- the reply's bits
abbrev pub reply_of : {S : Type 0} → Given S → List Bool
reply_of g = take g.bits (bits_of_bytes g.buffer)

-- a call c of the one run and one alike of the other, which gave g and h: both are judged by c and by what the one run shows, v
module _ (M : Runs) (v : M.Shown) (c : M.Call) where
  -- 10, "comparison failed", where something is compared: elsewhere 10 is an answer like any other
  abbrev pub fails : Given M.State → Bool
  fails g = eqb g.answer 10 && M.compares v c

  -- with each reset the runs begin anew
  abbrev pub next : Standing → Given M.State → Given M.State → Standing
  next z g h = cond (M.is_reset c) together (after z (fails g) (fails h))

  -- "answer alike": the answer, what the machine then shows, and of the reply its length and its public bits
  pub record SeenAlike (g h : Given M.State) : Type 0 where
    pub answer : g.answer ≡ h.answer
    pub seen : M.seen g.next ≡ M.seen h.next
    pub bits : g.bits ≡ h.bits
    pub reply : M.public_reply v c (reply_of g) ≡ M.public_reply v c (reply_of h)

  -- "their replies and whole stored states are equal"
  pub record WholeAlike (g h : Given M.State) : Type 0 where
    pub state : g.next ≡ h.next
    pub bits : g.bits ≡ h.bits
    pub area : take area_bytes g.buffer ≡ take area_bytes h.buffer

  -- what is claimed of a call after which two runs stand so: nothing while they are apart
  abbrev pub Claimed : Standing → Given M.State → Given M.State → Type 0
  Claimed together g h = SeenAlike g h
  Claimed failed g h = SeenAlike g h × WholeAlike g h
  Claimed apart g h = Unit {0}

module _ (M : Runs) where
  -- two runs of lists of calls, resets among them, alike call by call
  unfoldable pub Silent : Standing → M.State → M.State → List (M.Call × M.Call) → Type 0
  Silent z s t [] = Unit {0}
  Silent z s t (p ∷ ps) =
      let g = M.give s p.0 in
      let h = M.give t p.1 in
      let y = next M (M.seen s) p.0 z g h in
      M.Alike (M.seen s) p.0 p.1 → Claimed M (M.seen s) p.0 y g h × Silent y g.next h.next ps

-- of any two states: before their first reset nothing is claimed
abbrev pub Silence : Runs → Type 0
Silence M = (s t : M.State) (ps : List (M.Call × M.Call)) → Silent M apart s t ps
