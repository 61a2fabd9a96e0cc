-- SPDX-License-Identifier: GPL-2.0-only
mod Common
pub mod Laying
pub mod Uses
pub mod Ordering
pub mod Ranking
pub mod References
pub mod InUse
pub mod Frames
pub mod Marking
pub mod Rooming
pub mod Tracing
pub mod Births
pub mod Options
pub mod Listing
pub mod Claiming
pub mod Owning
pub mod Turning
pub mod Dating
pub mod Unregistering
pub mod Packing
pub mod PoolLengths
pub mod Loads
pub mod Bits
pub mod LookupSteps
pub mod Lasting
pub mod AgainSteps
pub mod RoomSteps
pub mod Emptiness
pub mod Stores
pub mod Seats
pub mod Calls
pub mod Fronts
pub mod Openings
pub mod Endings
pub mod Closing
pub mod Alone
pub mod Left
pub mod Hands
pub mod Storing
pub mod Gains
pub mod Owing
mod KnownValues
mod GainedValues
mod OrderValues
