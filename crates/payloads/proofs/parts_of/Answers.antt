-- `payloads::parts_of` meets its contract.
use native.Mathlib.Omega.{arith}
use Rattle.payloads.proofs.Layouts.{says, said-zero, said_one, said_proof, said-challenge, said-status, said_mutual, said_nothing}
use Rattle.payloads.specs.Payloads.{layout_of}
use Rattle.payloads.proofs.parts_of.Goals as goal

pub returns-in-StepZero : goal.returns-in-StepZero
unfolding layout_of
returns-in-StepZero c = rw (c.command.ensures, c.new.ensures, c.in-StepZero.is) (says _ _ _ _ (said-zero _ _ _ _ _ c.head.ensures) (omega arith) (omega arith) (omega arith))

pub returns-in-StepOne : goal.returns-in-StepOne
unfolding layout_of
returns-in-StepOne c = rw (c.command-in-StepOne.ensures, c.new-in-StepOne.ensures, c.in-StepOne.is) (says _ _ _ _ (said_one _ _ _ _ _ c.head-in-StepOne.ensures) (omega arith) (omega arith) (omega arith))

pub returns-in-TagProof : goal.returns-in-TagProof
unfolding layout_of
returns-in-TagProof c = rw (c.challenge.ensures, c.new-in-TagProof.ensures, c.in-TagProof.is) (says _ _ _ _ (said_proof _ _ _) (omega arith) (omega arith) (omega arith))

pub returns-in-TagChallenge : goal.returns-in-TagChallenge
unfolding layout_of
returns-in-TagChallenge c = rw (c.challenge-in-TagChallenge.ensures, c.in-TagChallenge.is) (says _ _ _ _ (said-challenge _ _ _) (omega arith) (omega arith) (omega arith))

pub returns-in-Status : goal.returns-in-Status
unfolding layout_of
returns-in-Status c = rw (c.new-in-Status.ensures, c.in-Status.is) (says _ _ _ _ (said-status _ _ _) (omega arith) (omega arith) (omega arith))

pub returns-in-MutualProof : goal.returns-in-MutualProof
unfolding layout_of
returns-in-MutualProof c = rw (c.new-in-MutualProof.ensures, c.new-in-MutualProof-2.ensures, c.in-MutualProof.is) (says _ _ _ _ (said_mutual _ _) (omega arith) (omega arith) (omega arith))

pub returns-in-Nothing : goal.returns-in-Nothing
unfolding layout_of
returns-in-Nothing c = rw c.in-Nothing.is (says _ _ _ _ (said_nothing _ _ _) (omega arith) (omega arith) (omega arith))
