-- SPDX-License-Identifier: GPL-2.0-only
use Rattle.shr_run.proofs.Common.{ℕ, ◌∷◌, [], List, length, length-append, sym, ap, subst, arith, view_of, Starting, CrewSeats, IsTaskOf, AreTasks, none-some}
use Rattle.shr_run.proofs.Splitting.{workers_few, split_more, new_task, tasks_more}
use Rattle.shr_run.proofs.starting.split_all.Goals as goal

pub loop-number-init : goal.loop-number-init
loop-number-init g c = let x = c.args.tables.now in record {
  first = c.requires.first;
  count = ap (λ (l : List Starting). length l) c.new-starts.ensures.items;
  tasks = subst (AreTasks x (view_of c.args.first.now.seats.cache.core)) (sym c.new-starts.ensures.items) (λ i t at. absurd (none-some t at));
}

pub split-requires-clause-few_cores : goal.split-requires-clause-few_cores
split-requires-clause-few_cores g c = let splits = c.loop-number.invariant.first.parted.core_splits in let few = workers_few c.args.tables.now.shared c.requires.shared in
    let lt = c.loop-number-test.true in let len = c.len-number-end.ensures in omega (arith, splits, few, lt, len)

pub split-requires-clause-few_charges : goal.split-requires-clause-few_charges
split-requires-clause-few_charges g c = let splits = c.loop-number.invariant.first.parted.charge_splits in let few = workers_few c.args.tables.now.shared c.requires.shared in
    let lt = c.loop-number-test.true in let len = c.len-number-end.ensures in omega (arith, splits, few, lt, len)

pub overflow_cast-task : goal.overflow_cast-task
overflow_cast-task g c = let few = workers_few c.args.tables.now.shared c.requires.shared in let lt = c.loop-number-test.true in let len = c.len-number-end.ensures in omega (arith, few, lt, len)

pub loop-number-preserved : goal.loop-number-preserved
loop-number-preserved g c = let x = c.args.tables.now in let opened = view_of c.args.first.now.seats.cache.core in
    let i = c.loop-number.invariant in let made = c.in_ok-seats.ensures in let items = c.in_ok-push.ensures.items in
    let lt = c.loop-number-test.true in let len = c.len-number-end.ensures in let count = i.count in let n = c.loop-number.number in
    let seats : CrewSeats = record { seats = c.in_ok-seats.field-0.seats; plain = c.in_ok-seats.field-0.plain } in
    let task : Starting = record { shared = x.shared; task = record { number = n; seats = seats.seats; plain = seats.plain } } in
    let one : IsTaskOf x opened n task = new_task x opened n c.loop-number.first c.split.new.self seats i.first made.split made.new c.requires.shared c.requires.pools (omega (arith, lt, len)) in record {
      first = split_more x opened n c.loop-number.first c.split.new.self seats i.first made.split made.new;
      count = let long = ap (λ (l : List Starting). length l) items in let parts = length-append c.loop-number.starts.items (task ∷ []) in omega (arith, long, parts, count);
      tasks = subst (AreTasks x opened) (sym items)
          (tasks_more x opened c.loop-number.starts.items task i.tasks (subst (λ (n : ℕ). IsTaskOf x opened n task) (sym count) one));
    }
