-- SPDX-License-Identifier: GPL-2.0-only
mod Common
mod Pushed
mod HistoryLaw
mod OwnLaw
mod TreeLaw
pub mod PathsLaw
mod BalanceLaw
pub mod LeftLaw
mod NetsLaw
mod Workers
mod NetsWhole
mod WholeLaw
mod ChargesValues
