-- SPDX-License-Identifier: GPL-2.0-only
mod Common
mod Options
mod Gathering
mod Lists
mod Meeting
mod Commanded
