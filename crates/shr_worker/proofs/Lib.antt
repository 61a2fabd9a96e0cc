-- SPDX-License-Identifier: GPL-2.0-only
mod Common
pub mod Within
pub mod Pooled
pub mod Drained
pub mod Worked
pub mod Ended
mod KnownValues
pub mod Resting
