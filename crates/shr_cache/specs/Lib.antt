-- SPDX-License-Identifier: GPL-2.0-only
pub mod Charges
pub mod Replies
pub mod Gets
pub mod Pins
pub mod Dels
pub mod Puts
pub mod Opening
