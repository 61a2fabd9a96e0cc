-- SPDX-License-Identifier: GPL-2.0-only
pub mod Outside
pub mod Fakes
pub mod Writing
pub mod Paper
