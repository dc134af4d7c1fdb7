-- Determined contracts, the tie from `suite` to the demands' machines, and the table.
pub mod Determined
pub mod DeterminedRules
pub mod DeterminedMachines
pub mod DeterminedCalls
pub mod Tied
pub mod Worked
