-- SPDX-License-Identifier: GPL-2.0-only
pub mod Seen
pub mod Fields
pub mod Scans
pub mod Kinds
pub mod Counts
pub mod Commands
