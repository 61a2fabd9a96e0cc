-- SPDX-License-Identifier: GPL-2.0-only
mod Common
pub mod LineFeeds
pub mod PutLaws
pub mod LineLaws
pub mod CommandLaws
pub mod ScriptLaws
pub mod RunLaws
pub mod MadeLaws
pub mod ContentLaws
pub mod SaidLaws
pub mod CommandBounds
pub mod BoundsLaws
mod KnownBounds
pub mod GrowthLaws
pub mod GroupLaws
pub mod HierarchyLaws
pub mod ReadLaws
mod KnownValues
mod KnownLines
