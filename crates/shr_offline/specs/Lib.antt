-- SPDX-License-Identifier: GPL-2.0-only
pub mod Splices
pub mod Carries
pub mod Offlined
