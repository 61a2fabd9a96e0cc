-- SPDX-License-Identifier: GPL-2.0-only
pub mod Variants
pub mod Words
pub mod ReadWords
pub mod ReadLines
pub mod Printing
pub mod Body
pub mod Same
