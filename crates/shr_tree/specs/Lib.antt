-- SPDX-License-Identifier: GPL-2.0-only
pub mod Children
pub mod Tree
