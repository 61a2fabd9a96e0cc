-- SPDX-License-Identifier: GPL-2.0-only
pub mod Heads
pub mod Answers
pub mod Cited
pub mod Rising
pub mod Law
pub mod Lent
pub mod Once
