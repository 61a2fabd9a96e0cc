-- SPDX-License-Identifier: GPL-2.0-only
mod Common
pub mod SplicesLaws
pub mod CarriesLaws
pub mod Handing
pub mod Handed
