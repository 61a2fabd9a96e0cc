-- SPDX-License-Identifier: GPL-2.0-only
use Rattle.shr_core.proofs.Common.{ℕ, ◌+◌, ◌*◌, ap, ◌∙◌, slots_items, LookupWord, looks_in, lookups_of}
use Rattle.shr_core.proofs.Endings.{word_is, lookups_none, lookups_next}
use Rattle.shr_core.proofs.ending.read_lookups.Goals as goal

pub loop-id-init : goal.loop-id-init
loop-id-init c = c.new-log.ensures.items ∙ lookups_none (looks_in (slots_items c.args.ended.now.words))

pub loop-id-preserved : goal.loop-id-preserved
loop-id-preserved c = let look = looks_in (slots_items c.args.ended.now.words) in let id : ℕ = c.loop-id.id in
    lookups_next id c.unpack.result.lookups look c.loop-id.log.items _ c.loop-id.invariant (ap (λ (w : LookupWord). w.lookups) c.unpack.ensures ∙ ap lookups_of (word_is (slots_items c.args.ended.now.words) _ (8 * id + 3) c.word-word.result c.lookup_word.ensures c.word-word.ensures)) c.in_ok-add.ensures.added
