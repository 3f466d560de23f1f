pub use Rattle.lent_board.specs.Plays
pub use Rattle.lent_board.specs.Of
pub use Rattle.lent_board.specs.Calls
pub use Rattle.lent_board.specs.Seats
pub use Rattle.lent_board.specs.PortViews
