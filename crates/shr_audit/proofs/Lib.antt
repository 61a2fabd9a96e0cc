-- SPDX-License-Identifier: GPL-2.0-only
mod Common
pub mod Order
pub mod OneScript
pub mod OneReport
pub mod OneVerdict
pub mod Premises
mod VerdictValues
