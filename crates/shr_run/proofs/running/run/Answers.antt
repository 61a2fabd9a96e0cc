-- SPDX-License-Identifier: GPL-2.0-only
use Rattle.shr_run.proofs.Common.{sym, ap, subst, ◌∙◌, WorkerLog, AreEnds, List, view_of}
use Rattle.shr_walk.specs.declared.seats.Seats.{Seats}
use Rattle.shr_run.proofs.Ending.{all_tasks, all_done, swept_at_end, MayEnd, may_end, ends_of}
use Rattle.shr_run.proofs.Splitting.{split_none}
use Rattle.shr_run.proofs.running.run.Given as given
use Rattle.shr_run.proofs.running.run.Goals as goal

pub at-crew-requires : goal.at-crew-requires
at-crew-requires g c = record { first = record { caches = c.in_ok-tables.ensures.ready.first; plain = c.in_ok-tables.ensures.plain.first } }

pub split_all-requires-clause-first : goal.split_all-requires-clause-first
split_all-requires-clause-first g c = let opened = c.in_ok-tables.ensures in
    split_none c.in_ok-tables.tables c.in_ok-tables.first opened.ready opened.plain c.at-crew.result c.at-crew.ensures.caches c.at-crew.ensures.plain

pub run_all-requires-clause-tasks : goal.run_all-requires-clause-tasks
run_all-requires-clause-tasks g c κs within = all_tasks c.in_ok-tables.tables (view_of c.at-crew.result.seats.cache.core) c.in_ok-starts.starts.items c.in_ok-starts.ensures.tasks

pub sweep_if-requires-clause-count : goal.sweep_if-requires-clause-count
sweep_if-requires-clause-count g c κs within = c.in_ok-results.ensures.len ∙ c.in_ok-starts.ensures.len

pub sweep_if-requires-clause-done : goal.sweep_if-requires-clause-done
sweep_if-requires-clause-done g c κs within = all_done c.in_ok-tables.tables (view_of c.at-crew.result.seats.cache.core) c.in_ok-starts.starts.items c.in_ok-starts.ensures.tasks c.in_ok-tables.ensures.shared c.in_ok-results.results.items
    (sym c.in_ok-results.results.ok.0 ∙ (c.in_ok-results.ensures.len ∙ c.in_ok-starts.starts.ok.0)) c.in_ok-results.ensures.run

pub join_all-requires-clause-results : goal.join_all-requires-clause-results
join_all-requires-clause-results g c = let tasks = c.in_ok-starts.ensures in let run = c.in_ok-results.ensures in
    swept_at_end c.in_ok-tables.tables (view_of c.at-crew.result.seats.cache.core) c.split_all.new.first c.split_all.new.first c.in_ok-starts.starts.items c.in_ok-results.results.items c.in_ok-swept.swept.items
    (sym c.in_ok-starts.starts.ok.0 ∙ tasks.len) tasks.tasks (sym c.in_ok-results.results.ok.0 ∙ (run.len ∙ c.in_ok-starts.starts.ok.0)) run.run c.in_ok-swept.ensures c.split_all.new.first tasks.first.tables

-- as many seats are joined as were split off
ending : (g : given.Over) (c : goal.After-leave-first g) → MayEnd c.in_ok-tables.tables c.leave-first.result
ending g c = let tasks = c.in_ok-starts.ensures in let run = c.in_ok-results.ensures in let joins = c.in_ok-logs.ensures in
    may_end c.in_ok-tables.tables (view_of c.at-crew.result.seats.cache.core) c.split_all.new.first c.join_all.new.first c.in_ok-starts.starts.items c.in_ok-results.results.items c.in_ok-swept.swept.items
    (sym c.in_ok-starts.starts.ok.0 ∙ tasks.len) tasks.tasks (sym c.in_ok-results.results.ok.0 ∙ (run.len ∙ c.in_ok-starts.starts.ok.0)) run.run c.in_ok-swept.ensures joins.whole tasks.first joins.joined c.leave-first.result c.leave-first.ensures.caches c.leave-first.ensures.plain

pub finish-requires-clause-first : goal.finish-requires-clause-first
finish-requires-clause-first g c = (ending g c).first

pub finish-requires-clause-core : goal.finish-requires-clause-core
finish-requires-clause-core g c = (ending g c).core

pub finish-requires-clause-charge : goal.finish-requires-clause-charge
finish-requires-clause-charge g c = (ending g c).charge

pub finish-requires-clause-deferred : goal.finish-requires-clause-deferred
finish-requires-clause-deferred g c = (ending g c).deferred

pub finish-requires-clause-pools : goal.finish-requires-clause-pools
finish-requires-clause-pools g c = (ending g c).pools

pub returns-clause-ran : goal.returns-clause-ran
returns-clause-ran g c = let opened = c.in_ok-tables.ensures in let tasks = c.in_ok-starts.ensures in let run = c.in_ok-results.ensures in let joins = c.in_ok-logs.ensures in let ended = c.in_ok-ends.ensures in
    subst (λ (logs : List WorkerLog). AreEnds logs c.in_ok-ends.ends) (sym joins.logs)
    (ends_of c.in_ok-tables.tables (view_of c.at-crew.result.seats.cache.core) c.split_all.new.first c.join_all.new.first c.in_ok-starts.starts.items c.in_ok-results.results.items c.in_ok-swept.swept.items
    (sym c.in_ok-starts.starts.ok.0 ∙ tasks.len) tasks.tasks (sym c.in_ok-results.results.ok.0 ∙ (run.len ∙ c.in_ok-starts.starts.ok.0)) run.run c.in_ok-swept.ensures joins.whole tasks.first joins.joined c.leave-first.result c.leave-first.ensures.caches c.leave-first.ensures.plain
    opened.shared opened.from_start opened.pools c.in_ok-tables.first opened.ready (ap (λ (s : Seats). view_of s.cache.core) c.at-crew.ensures.caches)
    c.in_ok-ends.ends ended.script ended.core ended.deferred ended.history ended.charge ended.words ended.pools)
