pub mod FaultRow
pub mod NameList
pub mod RunFaults
pub mod Signs
pub mod SpecKinds
