-- SPDX-License-Identifier: GPL-2.0-only
use Rattle.shr_audit_rows.proofs.Common.{◌≡◌, subst, sym, PoolEntry, decl_after, id_of}
use Rattle.shr_audit_rows.proofs.PooledLaws.{decl_registered}
use Rattle.shr_audit_rows.proofs.pooled.decl_after.Goals as goal

pub returns-in-Registered : goal.returns-in-Registered
returns-in-Registered c = subst (λ (e : PoolEntry). c.in-Registered.decl ≡ decl_after (id_of e) c.args.before e) (sym c.in-Registered.is) (decl_registered c.in-Registered.decl c.in-Registered.id c.in-Registered.from c.args.before)
