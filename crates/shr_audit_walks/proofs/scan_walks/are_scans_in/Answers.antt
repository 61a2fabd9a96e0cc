-- SPDX-License-Identifier: GPL-2.0-only
use Rattle.shr_audit_walks.proofs.ScansCommon.{ap, WalkRecord}
use Rattle.shr_audit_walks.proofs.scan_walks.are_scans_in.Goals as goal

pub returns : goal.returns
returns c = rw (ap (λ (w : WalkRecord). w.priority) c.walk.view_is) at c.are_scans_of-told.ensures
