-- SPDX-License-Identifier: GPL-2.0-only
pub mod Generated
pub mod Forms
pub mod CommandLine
