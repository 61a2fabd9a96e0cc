-- SPDX-License-Identifier: GPL-2.0-only
mod Common
pub mod Turning
pub mod ByLaw
