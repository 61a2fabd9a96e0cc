-- SPDX-License-Identifier: GPL-2.0-only
use Rattle.shr_audit_reasons.proofs.SpentCommon.{pool_place, IsTrySpent}
use Rattle.shr_audit_reasons.proofs.plain.is_try_caused.Goals as goal
use Rattle.shr_audit_formed.proofs.Eachs.{at_some}

pub returns-in-Some : goal.returns-in-Some
returns-in-Some c = at_some _ _ (λ d. IsTrySpent c.args.report.now (pool_place c.args.script.now c.args.pool c.args.node) c.args.tried.now) c.is_try_spent.result c.in-Some.ensures c.is_try_spent.ensures
