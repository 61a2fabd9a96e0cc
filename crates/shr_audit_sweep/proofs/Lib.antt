-- SPDX-License-Identifier: GPL-2.0-only
mod Common
mod Marking
mod Sweeping
