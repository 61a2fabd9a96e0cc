-- SPDX-License-Identifier: GPL-2.0-only
pub mod Bytes
pub mod Sending
pub mod Printing
mod KnownValues
