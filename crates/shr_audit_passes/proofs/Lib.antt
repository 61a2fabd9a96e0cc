-- SPDX-License-Identifier: GPL-2.0-only
mod Common
mod Rising
mod Tried
mod Arithmetic
pub mod Parts
pub mod Scanned
pub mod Ranged
mod Counted
pub mod ShapedLaw
mod WalksValues
pub mod Answered
