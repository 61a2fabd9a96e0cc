-- SPDX-License-Identifier: GPL-2.0-only
mod Common
pub mod Lists
pub mod Booleans
pub mod Numbers
pub mod ItemsLaws
pub mod ListLaws
pub mod ObjectLaws
pub mod TenantLaws
pub mod BagLaws
pub mod Weights
pub mod Members
pub mod PiecesLaws
pub mod GroupsLaws
pub mod MovesLaws
pub mod LegalBag
pub mod PlacesLaws
pub mod GroupsOrder
pub mod ScanLaws
pub mod PoolLaws
pub mod PoolValues
pub mod PassLaws
pub mod PassValues
pub mod ChargeLaws
pub mod ChargeValues
pub mod FamilyLaws
mod KnownPaths
mod KnownValues
mod KnownTenants
pub mod UnitsLaws
mod WalkValues
mod LegalValues
mod JournalValues
mod UnitsValues
