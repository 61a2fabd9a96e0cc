-- SPDX-License-Identifier: GPL-2.0-only
-- How the process ends.
use Rattle.std.specs.Prelude.{◌≡◌, ℕ}
use Rattle.shr_tool.specs.declared.status.Status.{Status}
use Rattle.shr_tool.specs.Statuses.{status_number}

-- the number of some status
pub record IsStatusNumber (number : ℕ) : Type 0 where
  pub status : Status
  pub is : number ≡ status_number status
