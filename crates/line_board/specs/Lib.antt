pub use Rattle.qolb_model.specs.Views
pub use Rattle.qolb_model.specs.Ends
pub mod Board
pub mod Law
pub mod PutsAndTakes
pub mod Calls
pub mod Laws
