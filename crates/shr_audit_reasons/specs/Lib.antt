-- SPDX-License-Identifier: GPL-2.0-only
pub mod Walks
pub mod Cites
pub mod Behind
pub mod Trees
pub mod Registrations
pub mod Counted
pub mod Passes
