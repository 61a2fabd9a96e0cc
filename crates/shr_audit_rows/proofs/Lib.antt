-- SPDX-License-Identifier: GPL-2.0-only
mod Common
mod AskedLaws
mod GroupLaws
pub mod KnownLaws
pub mod MomentsLaws
mod OverLaws
mod PooledLaws
mod RowLaws
mod TriedLaws
