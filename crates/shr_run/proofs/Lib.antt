-- SPDX-License-Identifier: GPL-2.0-only
mod Common
pub mod Splitting
pub mod Parting
pub mod Passing
pub mod Here
pub mod Swept
pub mod Ending
