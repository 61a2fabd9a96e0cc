-- SPDX-License-Identifier: GPL-2.0-only
pub mod Gathered
pub mod Lawful
pub mod Right
pub mod Commands
