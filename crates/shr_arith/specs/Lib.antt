-- SPDX-License-Identifier: GPL-2.0-only

pub mod Losing
pub mod Passes
