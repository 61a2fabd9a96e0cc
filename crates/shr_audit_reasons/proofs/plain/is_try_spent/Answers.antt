-- SPDX-License-Identifier: GPL-2.0-only
use Rattle.shr_audit_reasons.proofs.SpentCommon.{ap, sym, pool_place, IsEndSpent, pass_in}
use Rattle.shr_base.specs.declared.walks.PassRecord.{PassRecord}
use Rattle.shr_audit_reasons.proofs.plain.is_try_spent.Goals as goal
use Rattle.shr_audit_formed.proofs.Eachs.{at_some}

pub returns-in-Ran : goal.returns-in-Ran
returns-in-Ran c = at_some (pass_in c.args.tried.now) c.in-Ran.pass (λ (p : PassRecord). IsEndSpent c.args.report.now (pool_place c.args.script.now c.args.pool c.args.node) p.ending) c.is_end_spent.result
    (sym (ap pass_in c.in-Ran.is)) c.is_end_spent.ensures
