-- SPDX-License-Identifier: GPL-2.0-only
pub mod Script
pub mod Verdict
pub mod Given
