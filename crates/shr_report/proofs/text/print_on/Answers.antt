-- SPDX-License-Identifier: GPL-2.0-only
use Rattle.shr_report.proofs.Common.{[], sym, append-nil, text}
use Rattle.shr_report.proofs.text.print_on.Goals as goal

pub returns-clause-written : goal.returns-clause-written
returns-clause-written g c =
    let left = rw (sym (append-nil (text c.args.report.now))) at c.requires.left in
    rw (append-nil (text c.args.report.now)) at (c.finish.ensures.ends _ (c.lines.ensures.printed.1 _ [] left)).0

pub returns-clause-later : goal.returns-clause-later
returns-clause-later g c = (c.finish.ensures.ends _ (c.lines.ensures.printed.1 _ [] (rw (sym (append-nil (text c.args.report.now))) at c.requires.left))).1
