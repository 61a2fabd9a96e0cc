-- SPDX-License-Identifier: GPL-2.0-only
mod Common
pub mod Weighing
pub mod Filling
mod Keeping
pub mod Working
pub mod Once
mod SweepValues
mod Turning
