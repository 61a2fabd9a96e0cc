-- SPDX-License-Identifier: GPL-2.0-only
pub mod Faking
pub mod Seating
