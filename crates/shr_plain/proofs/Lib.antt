-- SPDX-License-Identifier: GPL-2.0-only
mod Common
pub mod FreeLaws
pub mod Holding
pub mod SeatLaws
pub mod Scanning
pub mod Passing
pub mod Trying
pub mod Beginnings
pub mod Endings
mod KnownValues
