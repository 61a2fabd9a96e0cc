-- SPDX-License-Identifier: GPL-2.0-only
mod Common
mod NumeralValues
pub mod SecondReport
mod ReportValues
pub mod NotLawful
pub mod SmallReports
pub mod SecondCases
mod SecondLawful
pub mod ScansReport
pub mod OfflineReport
pub mod OverReport
pub mod UnregisterReport
pub mod GoneReport
mod MoreValues
mod MoreBreaks
mod LastBreaks
pub mod FirstReport
pub mod FirstLawful
pub mod ThirdReport
mod FieldBreaks
mod ThirdValues
mod CutsValues
mod ClimbsValues
mod TriesValues
mod BitsToldValues
mod InUseValues
mod OneOrderValues
mod TakesValues
pub mod FaithfulValues
pub mod MadeReport
mod MadeValues
mod PutsValues
pub mod QuietParts
pub mod QuietPools
mod QuietIsolations
pub mod QuietSweep
pub mod PlaceOrder
pub mod WellFormedValues
mod PoolsFormValues
pub mod PoolsReport
mod PoolsLawful
mod PoolsBreaks
pub mod PoolsCauses
mod IsolatedValues
mod SweptValues
mod NumbersValues
mod ItemsValues
