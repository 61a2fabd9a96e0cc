-- SPDX-License-Identifier: GPL-2.0-only
mod Common
pub mod ClassLaws
pub mod DigitLaws
pub mod ItemLaws
pub mod NamesLaws
pub mod PathLaws
pub mod RunLaws
pub mod TakenLaws
