-- SPDX-License-Identifier: GPL-2.0-only
mod Common
pub mod Noting
pub mod Treeing
mod Wearing
pub mod Phases
mod Behinds
mod Making
mod CausesValues
mod SpentCommon
mod Counting
mod Finding
mod SpentValues
