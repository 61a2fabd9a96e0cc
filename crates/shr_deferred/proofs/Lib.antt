-- SPDX-License-Identifier: GPL-2.0-only
mod Common
pub mod Words
pub mod Strands
pub mod Renamed
pub mod Frames
pub mod Steps
pub mod Seating
pub mod Amounts
pub mod SeatLaws
mod KnownValues
