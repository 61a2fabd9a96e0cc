-- SPDX-License-Identifier: GPL-2.0-only
use Rattle.shr_tool.proofs.GeneratedPuts.{is_summary}
use Rattle.shr_tool.proofs.summary.run_generated.Goals as goal

pub returns-then-write_all-clause-written : goal.returns-then-write_all-clause-written
returns-then-write_all-clause-written g c =
    let made = c.in-Ok-run_and_report.ensures in
    let out = rw c.as_slice.ensures.value at c.if-write_all.ensures.output in
    let summed = is_summary c.in-Ok.script c.in-Ok-run_and_report.report c.args.numbers.seed c.args.numbers.workers c.args.numbers.commands c.in-Ok-five_lines.text.items
    c.requires c.in-Ok.ensures.script made.lawful made.faithful made.well_formed made.made made.sums made.puts made.add_up c.in-Ok-five_lines.ensures in
    record { answer = c.in-Ok-five_lines.text.items; summary = summed; written = out }

pub returns-else-write_all-clause-written : goal.returns-else-write_all-clause-written
returns-else-write_all-clause-written g c =
    let made = c.in-Ok-run_and_report.ensures in
    let out = rw c.as_slice.ensures.value at c.if-write_all.ensures.output in
    let summed = is_summary c.in-Ok.script c.in-Ok-run_and_report.report c.args.numbers.seed c.args.numbers.workers c.args.numbers.commands c.in-Ok-five_lines.text.items
    c.requires c.in-Ok.ensures.script made.lawful made.faithful made.well_formed made.made made.sums made.puts made.add_up c.in-Ok-five_lines.ensures in
    record { rose = out.0; answer = c.in-Ok-five_lines.text.items; summary = summed; part = out.1 }
