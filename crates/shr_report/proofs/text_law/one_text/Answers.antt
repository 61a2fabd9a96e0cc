-- SPDX-License-Identifier: GPL-2.0-only
use Rattle.shr_report.proofs.ReportBack.{once}
use Rattle.shr_report.proofs.text_law.one_text.Goals as goal

pub returns : goal.returns
returns c = once
