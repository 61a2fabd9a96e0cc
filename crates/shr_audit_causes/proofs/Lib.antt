-- SPDX-License-Identifier: GPL-2.0-only
pub mod Few
mod Fields
mod Whole
mod OfflinesCommon
mod AboveLaws
pub mod CarriedLaws
mod MovedLaws
mod OfflinesValues
mod PathLaws
mod OfflineRowLaws
mod SplicedLaws
mod TreeLaws
mod UnregistersCommon
mod BeganLaws
mod UnregisterRowLaws
pub mod SumsLaws
mod UnregistersValues
