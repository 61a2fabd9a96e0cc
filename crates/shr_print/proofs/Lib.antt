-- SPDX-License-Identifier: GPL-2.0-only
pub mod Cutting
pub mod Runs
pub mod Bodies
