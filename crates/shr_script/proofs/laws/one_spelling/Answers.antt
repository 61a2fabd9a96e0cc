-- SPDX-License-Identifier: GPL-2.0-only
use Rattle.shr_script.proofs.ContentLaws.{same_content}
use Rattle.shr_script.proofs.laws.one_spelling.Goals as goal

pub returns : goal.returns
returns c = same_content
