pub mod MaskBits
pub mod Masked
pub mod EachHalf
pub mod EachLane
pub mod LaneBytes
pub mod LaneMasks
pub mod LaneTests
pub mod Placing
