-- Laws of the definitions in specs/.
pub mod InstancesLaws
pub mod Claim
pub mod Said
