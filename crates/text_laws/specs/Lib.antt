pub mod Printed
pub mod SameButLines
pub mod ConfigOrder
pub mod Formed
