-- SPDX-License-Identifier: GPL-2.0-only
mod Common
pub mod ChildrenLaws
pub mod TreeLaws
