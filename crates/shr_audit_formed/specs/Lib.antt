-- SPDX-License-Identifier: GPL-2.0-only
pub mod Each
pub mod Stripped
pub mod Formed
