-- SPDX-License-Identifier: GPL-2.0-only
mod Common
mod Loops
mod Journals
mod Beginning
mod Pairing
mod Allowing
mod Whole
mod ListsValues
mod BagCommon
mod BagLaw
mod BitsCommon
mod Wording
mod Phasing
mod Setting
mod SerialsCommon
mod Distinct
mod Sorting
