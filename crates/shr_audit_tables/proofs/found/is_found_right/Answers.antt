-- SPDX-License-Identifier: GPL-2.0-only
use Rattle.std.proofs.Common.{arith}
use Rattle.shr_audit_tables.proofs.LookupsDeciding.{found_decided}
use Rattle.shr_audit_tables.proofs.found.is_found_right.Goals as goal

pub returns : goal.returns
returns c =
    found_decided c.args.report.now c.args.decl c.args.found c.at-live.result c.is_live_right-right.result (omega arith) (c.at-live.ensures c.args.report.now.pool.items c.requires (omega arith)) c.is_live_right-right.ensures
