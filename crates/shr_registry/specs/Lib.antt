-- SPDX-License-Identifier: GPL-2.0-only
pub mod Adding
pub mod Answers
pub mod Ending
