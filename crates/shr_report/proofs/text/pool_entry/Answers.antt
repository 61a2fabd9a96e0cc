-- SPDX-License-Identifier: GPL-2.0-only
use Rattle.shr_report.proofs.text.pool_entry.Goals as goal

pub returns-in-Registered : goal.returns-in-Registered
returns-in-Registered g c = rw c.in-Registered.is c.put_line.ensures

pub returns-in-Unregistered : goal.returns-in-Unregistered
returns-in-Unregistered g c = rw c.in-Unregistered.is c.put_line-in-Unregistered.ensures
