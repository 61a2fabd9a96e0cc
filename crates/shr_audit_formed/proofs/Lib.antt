-- SPDX-License-Identifier: GPL-2.0-only
mod Common
pub mod Eachs
pub mod Strip
pub mod WellParts
mod FormedValues
