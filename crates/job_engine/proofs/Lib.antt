mod NewSeats
mod Overs
