-- SPDX-License-Identifier: GPL-2.0-only
pub mod Rising
pub mod Floors
pub mod Firsts
pub mod Started
pub mod Worker
