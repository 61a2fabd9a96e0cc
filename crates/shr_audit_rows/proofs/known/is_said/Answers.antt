-- SPDX-License-Identifier: GPL-2.0-only
use Rattle.shr_audit_rows.proofs.Common.{Bool, subst, sym, take, Decides, IsSaid}
use Rattle.shr_audit_rows.proofs.KnownLaws.{said_cached, said_full, said_uncached}
use Rattle.shr_audit_rows.proofs.known.is_said.Goals as goal

pub returns-in-Uncached : goal.returns-in-Uncached
returns-in-Uncached c = let s = c.args.script.now in let r = c.args.report.now in let at = take c.args.asked.entry r.pool.items in
    said_uncached s r c.args.decl c.args.asked.entry c.requires.known c.is_live-live.result c.has_free-free.result (c.is_live-live.ensures at c.requires.stands) (c.has_free-free.ensures at c.requires.stands) c.args.asked.said c.in-Uncached.is

pub returns-in-Cached : goal.returns-in-Cached
returns-in-Cached c = let s = c.args.script.now in let r = c.args.report.now in let at = take c.args.asked.entry r.pool.items in
    said_cached s r c.args.decl c.args.asked.entry c.requires.known c.is_live-live.result c.has_free-free.result (c.is_live-live.ensures at c.requires.stands) (c.has_free-free.ensures at c.requires.stands) c.args.asked.said c.in-Cached.is

pub returns-in-Full : goal.returns-in-Full
returns-in-Full c = let s = c.args.script.now in let r = c.args.report.now in let at = take c.args.asked.entry r.pool.items in
    subst (λ (b : Bool). Decides b (IsSaid s r c.args.asked.said c.args.decl c.args.asked.entry)) (sym c.is_neither.ensures)
    (said_full s r c.args.decl c.args.asked.entry c.requires.known c.is_live-live.result c.has_free-free.result (c.is_live-live.ensures at c.requires.stands) (c.has_free-free.ensures at c.requires.stands) c.args.asked.said c.in-Full.is)
