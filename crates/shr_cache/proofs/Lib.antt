-- SPDX-License-Identifier: GPL-2.0-only
mod Common
pub mod Stays
pub mod Links
pub mod Told
pub mod Charged
