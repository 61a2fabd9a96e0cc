-- SPDX-License-Identifier: GPL-2.0-only
mod Common
pub mod Known
pub mod Complete
pub mod Answering
pub mod GeneratedCommands
pub mod GeneratedPuts
pub mod Splits
pub mod OneSplit
pub mod Judging
mod AuditValues
