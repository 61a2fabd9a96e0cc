-- SPDX-License-Identifier: GPL-2.0-only
use Rattle.shr_audit_reasons.proofs.SpentCommon.{ℕ, ◌+◌, List, length, sym, subst, ap, ◌∙◌, filter, sum_by, Command, WorkerScript, is_put, IsCapped}
use Rattle.std.proofs.lemmas.List.Sums.{sum_by_push}
use Rattle.shr_audit_reasons.proofs.counted.add_worker.Goals as goal

abbrev puts_in : WorkerScript → ℕ
puts_in w = length (filter is_put w.commands.items)

pub returns : goal.returns
returns c = λ before h. subst (IsCapped c.add_puts.result) (ap (λ (cs : List Command). sum_by puts_in before + length (filter is_put cs)) c.as_slice.ensures ∙ sym (sum_by_push puts_in before c.args.worker.now)) (c.add_puts.ensures (sum_by puts_in before) h)
