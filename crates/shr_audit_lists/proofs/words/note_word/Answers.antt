-- SPDX-License-Identifier: GPL-2.0-only
use Rattle.std.proofs.Common.{sym, ◌∙◌}
use Rattle.shr_audit_lists.proofs.Wording.{words_kept, words_more}
use Rattle.shr_audit_lists.proofs.words.note_word.Goals as goal

pub returns-then-contains_key : goal.returns-then-contains_key
returns-then-contains_key c = λ maps are. words_kept maps c.args.map.now c.args.words.now c.word_key-key.result are c.word_key-key.ensures.key (sym c.contains_key.ensures ∙ c.if-contains_key.true)

pub returns : goal.returns
returns c = λ maps are. words_more maps c.args.map.now c.args.words.now c.word_key-key.result are c.word_key-key.ensures.key c.insert.new.self (sym c.contains_key.ensures ∙ c.if-contains_key.false) c.in_ok-insert.ensures.updates.0
