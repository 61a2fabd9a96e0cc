-- SPDX-License-Identifier: GPL-2.0-only
mod Common
mod Making
mod Texts
mod Validity
mod FormsCommon
pub mod Reading
pub mod Splitting
pub mod Matching
pub mod OneForm
