-- SPDX-License-Identifier: GPL-2.0-only
use Rattle.std.proofs.Common.{◌∙◌, arith}
use Rattle.shr_audit_case.proofs.Telling.{count_within, count_past}
use Rattle.shr_audit_case.proofs.case.count_in.Goals as goal

pub returns-then-entries-len : goal.returns-then-entries-len
returns-then-entries-len c = λ moved es printed r.
    c.index.ensures ∙ count_within c.args.told.now moved es printed r c.args.entries c.index.result.now (omega (arith, c.if-entries-len.true, c.len.ensures, c.args.told.now.lens.ok.0))

pub returns-else-entries-len : goal.returns-else-entries-len
returns-else-entries-len c = λ moved es printed r.
    let e = count_past c.args.told.now moved es printed r c.args.entries (omega (arith, c.if-entries-len.false, c.len.ensures, c.args.told.now.lens.ok.0)) in
    omega (arith, c.len-else-entries-len.ensures, c.args.told.now.left.ok.0, e)
