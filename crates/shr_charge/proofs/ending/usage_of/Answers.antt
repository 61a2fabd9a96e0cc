-- SPDX-License-Identifier: GPL-2.0-only
use Rattle.shr_charge.proofs.Common.{sym, ap, ◌∙◌, ◌++◌, ◌∷◌, [], ◌+◌, ◌*◌, List, ℕ, map, arith, range_with_len, slots_items, usage_in}
use Rattle.std.proofs.lemmas.List.FromFn.{map-range_with_len_more}
use Rattle.shr_charge.proofs.ending.usage_of.Goals as goal
use Rattle.shr_model.proofs.Lists.{word_of}

pub loop-group-preserved : goal.loop-group-preserved
loop-group-preserved c = let words = slots_items c.args.closed.now.words in let g = c.loop-group.group in
    c.in_ok-add.ensures.added ∙ (ap (λ (l : List ℕ). l ++ c.word.result ∷ []) c.loop-group.invariant
    ∙ (ap (λ (w : ℕ). map (usage_in words) (range_with_len 0 g) ++ w ∷ []) (sym (word_of words (8 * g + 1) c.word.result c.word.ensures)) ∙ sym (map-range_with_len_more (usage_in words) 0 g g (omega arith))))
