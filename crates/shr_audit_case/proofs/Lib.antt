-- SPDX-License-Identifier: GPL-2.0-only
mod Common
pub mod Order
pub mod Firsts
pub mod Eachs
mod Replaying
pub mod Telling
mod CaseValues
mod SumsCommon
mod Settling
pub mod Gaining
pub mod WordsLaw
mod SumsValues
mod ReplayCommon
mod Listing
mod Matching
mod Moving
mod Taking
mod Following
mod Climbing
mod ReplayValues
mod RegistrationsCommon
pub mod Living
pub mod Merging
pub mod Noting
mod RegistrationsValues
mod Spanning
pub mod Upto
