pub mod SeatPorts
pub mod SeatRows
