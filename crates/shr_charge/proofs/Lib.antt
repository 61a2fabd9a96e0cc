-- SPDX-License-Identifier: GPL-2.0-only
mod Common
pub mod Listing
pub mod Numbering
pub mod Pacing
pub mod Entries
pub mod Journaling
pub mod Frames
pub mod Moves
pub mod Seating
pub mod SeatLaws
pub mod FirstWords
pub mod Beginnings
pub mod Finals
pub mod Ways
pub mod Climbs
pub mod Refusals
pub mod Holding
pub mod Searches
pub mod Giving
pub mod TreeFacts
pub mod States
mod KnownValues
