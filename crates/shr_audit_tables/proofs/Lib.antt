-- SPDX-License-Identifier: GPL-2.0-only
mod Common
pub mod Amounts
pub mod Words
pub mod Steps
mod Carried
pub mod States
mod Replay
mod TablesValues
mod Rows
mod DrawsLaw
mod DrawnParts
mod IdleLaw
mod LookupsCommon
mod LookupsDeciding
mod LookupsWhole
