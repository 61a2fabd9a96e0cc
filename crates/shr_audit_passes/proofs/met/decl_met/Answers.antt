-- SPDX-License-Identifier: GPL-2.0-only
use Rattle.shr_audit_passes.proofs.met.decl_met.Goals as goal

pub returns : goal.returns
returns c = c.decl.ensures c.args.report.now.pool.items c.requires
