-- SPDX-License-Identifier: GPL-2.0-only
pub mod Moves
pub mod Joins
