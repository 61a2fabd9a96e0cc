-- SPDX-License-Identifier: GPL-2.0-only
pub mod Tasks
pub mod Joins
pub mod Sweeps
pub mod Made
