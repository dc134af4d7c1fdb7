-- The three demands hold of our reader and our tag. Assumes nothing.
use Rattle.promises.specs.Ours.{our_tag, our_reader}
use Rattle.promises.specs.Demands.{Demands}
use Rattle.promises.proofs.Answering.{demand1_tag, demand1_reader}
use Rattle.promises.proofs.Delivery.{demand2}
use Rattle.promises.proofs.Silence.{demand3}

pub demands : Demands our_reader our_tag
demands = record { reader = demand1_reader; tag = demand1_tag; delivery = demand2; silence = demand3 }
