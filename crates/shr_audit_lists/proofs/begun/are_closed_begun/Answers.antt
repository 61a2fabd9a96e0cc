-- SPDX-License-Identifier: GPL-2.0-only
use Rattle.shr_audit_lists.proofs.Common.{List, Bool, sym, subst, TreeEntry, AreBegun}
use Rattle.shr_audit_lists.proofs.Beginning.{begun_of}
use Rattle.shr_audit_lists.proofs.begun.are_closed_begun.Goals as goal

pub returns : goal.returns
returns c = begun_of c.args.parents.now c.args.report.now c.are_lists_begun-so.result (c.are_lists_begun-so.ensures c.args.parents.now
    (subst (λ (xs : List Bool). AreBegun c.args.parents.now c.args.report.now.tree.items xs) (sym c.as_slice-2.ensures.value)
    (subst (λ (tree : List TreeEntry). AreBegun c.args.parents.now tree c.in_ok-begun.begun.items) c.as_slice.ensures c.in_ok-begun.ensures.each)))
