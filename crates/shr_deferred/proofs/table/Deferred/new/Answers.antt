-- SPDX-License-Identifier: GPL-2.0-only
use Rattle.shr_deferred.proofs.Common.{◌∙◌, ℕ, ap, replicate}
use Rattle.shr_deferred.proofs.Seating.{begins}
use Rattle.shr_deferred.proofs.table.Deferred.new.Goals as goal

pub of_words-requires : goal.of_words-requires
of_words-requires c = begins c.args.sizes c.deref.result.now (c.deref.ensures.value ∙ (c.in_ok-words.ensures ∙ ap (λ (n : ℕ). replicate {A = ℕ} n 0) c.rows.ensures.rows))
