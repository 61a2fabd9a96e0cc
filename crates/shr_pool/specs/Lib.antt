-- SPDX-License-Identifier: GPL-2.0-only
pub mod Lines
pub mod Rule
pub mod Known
pub mod Passes
pub mod Worked
pub mod Helping
