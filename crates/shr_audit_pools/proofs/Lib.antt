-- SPDX-License-Identifier: GPL-2.0-only
mod Common
mod Journaled
mod Shelved
mod Loops
mod Stocked
mod Reclaimed
mod Tried
mod Moving
pub mod Risen
mod Versed
mod Lawed
mod DueCommon
pub mod Dues
pub mod DueLoops
