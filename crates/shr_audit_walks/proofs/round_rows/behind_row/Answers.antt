-- SPDX-License-Identifier: GPL-2.0-only
use Rattle.shr_audit_walks.specs.RoundRows.{job_with, jobs_made}
use Rattle.shr_audit_walks.proofs.Begun.{behind_none, groups_all, groups_fail, groups_more}
use Rattle.shr_audit_walks.proofs.round_rows.behind_row.Goals as goal

pub loop-group-init : goal.loop-group-init
loop-group-init c = behind_none c.args.whole (jobs_made c.args.walks.now)

pub returns-in_default-clause-none : goal.returns-in_default-clause-none
returns-in_default-clause-none c = groups_fail (job_with c.args.control) c.args.groups.now c.loop-group.group-index c.args.whole (jobs_made c.args.walks.now) (jobs_made c.loop-group.rest.now) c.loop-group-test.true c.loop-group.invariant c.in_default.ensures.none

pub loop-group-preserved : goal.loop-group-preserved
loop-group-preserved c = groups_more (job_with c.args.control) c.args.groups.now c.loop-group.group-index c.args.whole (jobs_made c.args.walks.now) (jobs_made c.loop-group.rest.now) (jobs_made c.in-Some.more.now) c.loop-group-test.true c.loop-group.invariant c.in-Some.ensures.some

pub returns-clause-some : goal.returns-clause-some
returns-clause-some c = groups_all (job_with c.args.control) c.args.groups.now c.loop-group.group-index c.args.whole (jobs_made c.args.walks.now) (jobs_made c.loop-group.rest.now) c.loop-group-test.false c.loop-group.invariant
