-- Private names (demand 3), proved: `demand-3`, of what crate private_names says phrase by phrase, from `private-names`, of what it says as
-- a test. The two runs go side by side from the form on, as crate simulation has it. Read in this order: Reach, what a run reaches outside
-- results; OwnNames, the own name of a binding; Renumber, a table with a new number; Paths, the place of a form in a tree; Before, the run
-- up to the form (`before-agree`); Renamed, the two expressions; Taken, the renaming that the statement takes; Claim; Said. Invariants has
-- the invariants of one run by name, with witnesses.
pub mod Reach
pub mod Paths
pub mod Renamed
pub mod Said
pub mod Invariants
pub mod InvariantWitnesses
