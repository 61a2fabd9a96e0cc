-- SPDX-License-Identifier: GPL-2.0-only
pub mod Replies
pub mod Uncharging
pub mod Commands
pub mod Plain
pub mod Isolating
pub mod Chain
pub mod Tasks
