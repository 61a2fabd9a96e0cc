-- SPDX-License-Identifier: GPL-2.0-only
mod Common
pub mod Entering
pub mod First
pub mod Pooling
