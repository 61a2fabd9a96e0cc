-- SPDX-License-Identifier: GPL-2.0-only
use Rattle.shr_audit_lists.proofs.Pairing.{paired_of}
use Rattle.shr_audit_lists.proofs.paired.are_journals_paired.Goals as goal

pub returns : goal.returns
returns c = paired_of c.args.parents.now c.args.report.now c.are_lists_paired-paired.result c.are_lists_paired-paired.ensures
