-- SPDX-License-Identifier: GPL-2.0-only
use Rattle.shr_audit_lists.proofs.Setting.{bits_of}
use Rattle.shr_audit_lists.proofs.bits.are_bits_lawful.Goals as goal

pub returns : goal.returns
returns c = bits_of c.args.script.now c.args.report.now c.args.case.now.parents.items c.requires.replayed.parents c.are_lists_set-set.result c.are_lists_set-set.ensures
