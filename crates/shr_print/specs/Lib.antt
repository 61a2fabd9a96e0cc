-- SPDX-License-Identifier: GPL-2.0-only
pub mod Runs
pub mod Cuts
pub mod Joined
pub mod Then
pub mod ThenLaws
