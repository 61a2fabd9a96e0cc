-- SPDX-License-Identifier: GPL-2.0-only
pub mod Visiting
pub mod Isolating
pub mod Lawful
