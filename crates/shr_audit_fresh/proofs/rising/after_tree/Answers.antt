-- SPDX-License-Identifier: GPL-2.0-only
use Rattle.shr_audit_fresh.proofs.Common.{List, ℕ, subst, After}
use Rattle.shr_audit_fresh.proofs.rising.after_tree.Goals as goal

pub returns : goal.returns
returns c = subst (λ (ns : List ℕ). After c.args.low ns c.after.result) c.tree_told.ensures c.after.ensures
