-- SPDX-License-Identifier: GPL-2.0-only
pub mod Trimming
pub mod Bounded
pub mod Squeezing
