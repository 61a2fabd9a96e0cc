-- SPDX-License-Identifier: GPL-2.0-only
use Rattle.std.proofs.Common.{◌∙◌, sym}
use Rattle.shr_script.specs.Content.{content_of, lines_of}
use Rattle.shr_script.proofs.ContentLaws.{same_content}
use Rattle.shr_script.proofs.GrowthLaws.{short_script}
use Rattle.shr_script.proofs.ReadLaws.{faultless}
use Rattle.shr_reading.proofs.reading.read_on_threads.Goals as goal

pub returns-in-Some-clause-only : goal.returns-in-Some-clause-only
returns-in-Some-clause-only g c = let read = c.in-Some.ensures in
    λ t spelled. same_content (content_of c.in-Some.script) t read.valid spelled.valid (sym read.spelled ∙ spelled.spelled)

pub returns-in-Some-clause-told : goal.returns-in-Some-clause-told
returns-in-Some-clause-told g c = λ line code fault. faultless c.args.bytes.now (content_of c.in-Some.script) line code c.in-Some.ensures fault

pub returns-in-Some-clause-short : goal.returns-in-Some-clause-short
returns-in-Some-clause-short g c = short_script (lines_of (content_of c.in-Some.script)) c.in-Some.ensures.valid.lines
