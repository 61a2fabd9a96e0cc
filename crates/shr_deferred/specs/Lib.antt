-- SPDX-License-Identifier: GPL-2.0-only
pub mod Moves
pub mod Rule
pub mod Seat
pub mod Left
pub mod History
pub mod Alone
