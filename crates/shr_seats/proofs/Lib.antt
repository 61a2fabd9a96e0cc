-- SPDX-License-Identifier: GPL-2.0-only
mod Common
pub mod Sums
pub mod Seating
pub mod Lining
pub mod Weighing
pub mod Changed
pub mod RowLaws
mod KnownValues
mod RoomsCommon
pub mod RoomParts
pub mod Room
pub mod RoomTelling
pub mod RoomSteps
pub mod RoomEnds
pub mod RoomOpenings
mod RoomValues
