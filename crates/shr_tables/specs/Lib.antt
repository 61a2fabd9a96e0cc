-- SPDX-License-Identifier: GPL-2.0-only
pub mod First
pub mod Firsts
pub mod Opened
pub mod Parted
