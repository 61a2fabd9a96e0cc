-- SPDX-License-Identifier: GPL-2.0-only
pub mod Answers
pub mod Meanings
pub mod Passes
