-- SPDX-License-Identifier: GPL-2.0-only
mod Onto
mod ReaderValues
mod Common
pub mod Linking
pub mod Leads
pub mod Flat
pub mod Lasts
pub mod ListsLead
pub mod WalksLead
pub mod WorkersLead
pub mod Whole
pub mod Steps
mod DraftValues
pub mod Tight
