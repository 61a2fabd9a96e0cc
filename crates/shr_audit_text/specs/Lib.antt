-- SPDX-License-Identifier: GPL-2.0-only
pub mod Reads
pub mod Kinds
pub mod Said
pub mod Draft
pub mod Reading
