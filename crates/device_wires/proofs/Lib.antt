pub mod InOrder
pub mod KeyOrder
pub mod SoFar
pub mod SameMembers
pub mod SlotWires
