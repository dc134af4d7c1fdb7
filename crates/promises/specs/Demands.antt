-- The three demands of one pair: "demand 3 speaks of demand 2's machine". Assumes nothing.
use Rattle.promises.specs.Machines.{TagMachine, ReaderMachine}
use Rattle.promises.specs.Demand1.{Demand1Tag, Demand1Reader}
use Rattle.promises.specs.Demand2.{Demand2}
use Rattle.promises.specs.Demand3.{Demand3}

-- a reader and a tag
pub record Demands (R : ReaderMachine) (T : TagMachine) : Type 0 where
  pub reader : Demand1Reader R
  pub tag : Demand1Tag T
  pub delivery : Demand2 R T
  pub silence : Demand3 T
