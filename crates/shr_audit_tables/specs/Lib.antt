-- SPDX-License-Identifier: GPL-2.0-only
pub mod Deferred
pub mod Draws
pub mod Idle
pub mod Lookups
pub mod Registrations
pub mod Found
pub mod Met
