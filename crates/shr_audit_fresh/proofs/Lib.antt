-- SPDX-License-Identifier: GPL-2.0-only
mod Common
mod Answering
mod RisingLaws
mod FloorLaws
mod WalkFloors
pub mod FirstLaws
mod OnLaws
mod RefusedLaws
mod MadeLaws
mod StartedLaws
mod Workers
mod FreshValues
