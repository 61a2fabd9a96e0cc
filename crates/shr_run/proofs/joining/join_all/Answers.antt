-- SPDX-License-Identifier: GPL-2.0-only
use Rattle.shr_run.proofs.Common.{◌≡◌, List, [], ◌∷◌, length, refl, sym, ◌∙◌, arith, held_by, WorkerResult, WorkerLog, log_of}
use Rattle.shr_run.proofs.Parting.{own_at_end, joined_all, first_joined, still_joined, still_parted, still_whole, still_at_end, still_logged}
use Rattle.shr_run.proofs.joining.join_all.Goals as goal

none_left : (l : List WorkerResult) → length l ≡ 0 → l ≡ []
none_left [] e = refl
none_left (w ∷ ws) e = absurd (omega (arith, e))

pub loop-worker-preserved : goal.loop-worker-preserved
loop-worker-preserved c = let i = c.loop-worker.invariant in let next = c.in-Some.ensures.steps.0 in let joins = c.join-walks.ensures in let w = c.in-Some.worker in
    let old = c.args.first.now in let first = c.loop-worker.first in let new = c.join-walks.new.self in let left = c.loop-worker.worker-iterator.rest.items in
    let rest = c.next.new.self.rest.items in let all = c.args.results.items in
    let log : WorkerLog = record { answers = w.answers; walks = c.join-walks.result.walks; carries = c.join-walks.result.carries; uses = c.join-walks.result.uses; plain = c.join-walks.result.plain; isolations = w.isolations } in
    let same : log ≡ log_of w = (let walks = joins.walks in let carries = joins.carries in let uses = joins.uses in let plain = joins.plain_walks in λ j. record { answers = w.answers; walks = walks j; carries = carries j; uses = uses j; plain = plain j; isolations = w.isolations }) in record {
      next = tt;
      finite = tt;
      tables = joins.joined.tables ∙ i.tables;
      first = first_joined first new w joins.joined i.first;
      rest = still_at_end old first new w left rest all next joins.joined (held_by old) i.rest;
      joined = still_joined old first new w left rest all next joins.joined i.joined;
      parted = still_parted old first new w left rest all next joins.joined i.parted;
      whole = still_whole old first new w left rest all next joins.joined c.if-not-whole.false i.whole;
      logs = still_logged old first new w left rest all next joins.joined c.loop-worker.logs.items c.push.new.self.items log c.in_ok-push.ensures.items same i.logs;
    }

pub join-walks-requires-clause-tables : goal.join-walks-requires-clause-tables
join-walks-requires-clause-tables c = (own_at_end (held_by c.args.first.now) c.in-Some.worker c.loop-worker.worker-iterator.rest.items c.next.new.self.rest.items c.in-Some.ensures.steps.0 c.loop-worker.invariant.rest).tables ∙ sym c.loop-worker.invariant.tables

pub join-walks-requires-clause-rest : goal.join-walks-requires-clause-rest
join-walks-requires-clause-rest c = (own_at_end (held_by c.args.first.now) c.in-Some.worker c.loop-worker.worker-iterator.rest.items c.next.new.self.rest.items c.in-Some.ensures.steps.0 c.loop-worker.invariant.rest).rest

pub returns-clause-joined : goal.returns-clause-joined
returns-clause-joined c = let i = c.loop-worker.invariant in let empty = c.in-None.ensures.steps.0 in let same = c.loop-worker.worker-iterator.rest.ok.0 in
    joined_all c.args.first.now c.loop-worker.first c.args.results.items c.loop-worker.worker-iterator.rest.items (none_left c.loop-worker.worker-iterator.rest.items (omega (arith, empty, same))) i.tables i.joined i.parted
