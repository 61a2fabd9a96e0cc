-- SPDX-License-Identifier: GPL-2.0-only
use Rattle.shr_audit_case.proofs.RegistrationsCommon.{◌+◌, ℕ, ap, ◌∙◌, ◌&&◌, nat_le, nat_lt, entry_key, lookup_key}
use Rattle.shr_audit_case.proofs.Spanning.{entry_has}
use Rattle.shr_audit_case.proofs.live.live_span.Goals as goal

pub returns-clause-entries : goal.returns-clause-entries
returns-clause-entries c = λ i entry few.
    ap (λ (k : ℕ). nat_le k (lookup_key i entry) && nat_lt (lookup_key i entry) c.end_key-end.result) c.entry_key-begin.ensures
    ∙ ap (λ (k : ℕ). nat_le (entry_key c.args.id (c.args.at + 1)) (lookup_key i entry) && nat_lt (lookup_key i entry) k) c.end_key-end.ensures
    ∙ entry_has c.args.id i c.args.at entry c.args.end few
