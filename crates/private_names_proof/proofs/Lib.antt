-- Laws of the definitions in specs/.
pub mod Reach
pub mod OwnNames
pub mod Renumber
pub mod Members
pub mod PathsLaws
pub mod Before
pub mod RenamedLaws
pub mod Renamed
pub mod Taken
pub mod Claim
pub mod SaidLaws
pub mod InvariantsLaws
pub mod Invariants
pub mod InvariantWitnessesLaws
