-- SPDX-License-Identifier: GPL-2.0-only
use Rattle.shr_outside.proofs.Printing.{prints_as}
use Rattle.shr_print.proofs.Bodies.{body_text, body_known}
use Rattle.shr_print.proofs.printing.CrewPrinter.body.Goals as goal

pub returns-clause-printed : goal.returns-clause-printed
returns-clause-printed g c = prints_as _ _ _ _ _ _ (rw (c.as_slice.ensures, c.as_slice-2.ensures, c.as_slice-3.ensures) at c.print_section.ensures.printed) (body_text c.args.report.now)

pub returns-clause-numbers : goal.returns-clause-numbers
returns-clause-numbers g c = body_known c.args.report.now (rw (c.as_slice.ensures, c.as_slice-2.ensures, c.as_slice-3.ensures) at c.print_section.ensures.known)
