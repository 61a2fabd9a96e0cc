-- SPDX-License-Identifier: GPL-2.0-only
use Rattle.shr_audit_walks.proofs.RoundsCommon.{sym, ap, ◌∙◌, length-map, job_of, jobs_made, jobs_over, ◌==◌, ℕ}
use Rattle.shr_audit_walks.proofs.Begun.{made_behind, not_made}
use Rattle.shr_audit_walks.proofs.round_rows.is_row_made.Goals as goal

pub returns-in-Some : goal.returns-in-Some
returns-in-Some c = made_behind c.args.whole (jobs_over c.args.control c.args.groups.now) (jobs_made c.args.walks.now) (jobs_made c.in-Some.rest.now) c.is_empty.result c.in-Some.ensures.some (c.is_empty.ensures ∙ ap (λ (n : ℕ). n == 0) (sym (length-map c.in-Some.rest.now job_of)))

pub returns-in-None : goal.returns-in-None
returns-in-None c = not_made c.args.whole (jobs_over c.args.control c.args.groups.now) (jobs_made c.args.walks.now) c.in-None.ensures.none
