-- SPDX-License-Identifier: GPL-2.0-only
use Rattle.shr_audit_reasons.proofs.Common.{◌∙◌, ap, take_all}
use Rattle.shr_audit_reasons.proofs.Making.{on_counted, on_in}
use Rattle.shr_audit_reasons.proofs.registrations.count_on.Goals as goal

pub returns : goal.returns
returns c =
    c.loop-cache.invariant.count
    ∙ ap on_in (take_all c.loop-cache.cache-index c.as_slice-cache-items.result.now c.loop-cache-test.false ∙ c.as_slice-cache-items.ensures)
    ∙ on_counted 0 c.args.script.now.caches.items
