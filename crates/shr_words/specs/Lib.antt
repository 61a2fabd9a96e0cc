-- SPDX-License-Identifier: GPL-2.0-only
pub mod Classes
pub mod WordReading
pub mod Runs
