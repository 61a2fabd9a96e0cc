-- SPDX-License-Identifier: GPL-2.0-only
mod Common
mod NodeValues
pub mod Gaining
pub mod Climbing
pub mod Looks
pub mod BelowClosed
pub mod Acting
pub mod Places
pub mod Keeping
pub mod Marking
pub mod Draws
pub mod Storing
pub mod Pairing
pub mod Closing
pub mod ClosingOne
pub mod Splices
