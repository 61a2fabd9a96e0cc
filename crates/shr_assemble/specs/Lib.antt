-- SPDX-License-Identifier: GPL-2.0-only
pub mod Ends
pub mod Makes
pub mod Noting
pub mod Putting
