-- SPDX-License-Identifier: GPL-2.0-only
mod Common
pub mod Searches
pub mod Adds
pub mod Meetings
pub mod Givings
pub mod Agains
pub mod Registers
pub mod Empties
pub mod Retires
pub mod Endings
pub mod Restings
mod KnownValues
