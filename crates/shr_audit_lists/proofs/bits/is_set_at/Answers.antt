-- SPDX-License-Identifier: GPL-2.0-only
use Rattle.std.proofs.Common.{sym, ap, ◌∙◌}
use Rattle.std.specs.Prelude.{option_copied}
use Rattle.shr_audit_lists.proofs.Wording.{bit_none, bit_some}
use Rattle.shr_audit_lists.proofs.bits.is_set_at.Goals as goal

pub returns-in-None : goal.returns-in-None
returns-in-None c = bit_none c.args.report.now c.args.place c.args.words.now c.word_key-key.result c.requires.numbers c.requires.words c.word_key-key.ensures.key c.word_key-key.ensures.group c.word_key-key.ensures.unit
    (sym c.get.ensures.value ∙ ap option_copied c.in-None.is)

pub returns-in-Some : goal.returns-in-Some
returns-in-Some c = c.is_set.ensures ∙ bit_some c.args.report.now c.args.place c.args.words.now c.word_key-key.result c.requires.numbers c.requires.words c.word_key-key.ensures.key c.word_key-key.ensures.group c.word_key-key.ensures.unit
    c.in-Some.bits.now (sym c.get.ensures.value ∙ ap option_copied c.in-Some.is)
