pub mod SeatShares
