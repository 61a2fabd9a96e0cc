-- SPDX-License-Identifier: GPL-2.0-only
use Rattle.shr_run.proofs.Common.{◌≡◌, ℕ, ◌∙◌, ◌+◌, ◌<◌, List, map, sym, ap, length, arith, Result, Ok, Err, IfOk, flat_map, length-map, PassView, queue_line, parents_of, WorkerResult, Helped, helped_of, worker_of, popped_of, AreOnce, HaveSwept, Global, OnOk, Vec, vec_len}
use Rattle.shr_pool.specs.Passes as passes
use Rattle.shr_run.proofs.Splitting.{workers_few}
use Rattle.shr_run.proofs.Swept.{urgent, all_ready, all_back, have_swept, nodes_there, groups_there, groups_are}
use Rattle.shr_run.proofs.sweeping.sweep_all.Goals as goal

pub hand_out-requires-clause-few : goal.hand_out-requires-clause-few
hand_out-requires-clause-few g c = let few = workers_few c.args.shared.now c.requires.shared in let count = c.requires.count in omega (arith, few, count)

pub help_all-requires-clause-priority : goal.help_all-requires-clause-priority
help_all-requires-clause-priority g c κs within = (urgent c.args.shared.now c.requires.shared c.args.sweep c.requires.sweep).0

pub help_all-requires-clause-ready : goal.help_all-requires-clause-ready
help_all-requires-clause-ready g c κs within = let x = c.args.shared.now in let handed = c.in_ok-helpers.ensures in let filled = c.in_ok-jobs.ensures in
    all_ready x c.hand_out.new.jobs.queue x.script.nodes (length x.script.groups.items + 1) (passes.pass_view c.in_ok-jobs.jobs.first).pushed c.args.results.items c.in_ok-helpers.helpers.items (filled.line ∙ ap (λ n. queue_line x.script.nodes (n + 1)) c.len.ensures)
    (nodes_there x c.requires.shared) (groups_there x c.requires.shared) handed.workers c.requires.done handed.whole handed.passes

pub join_passes-requires-clause-back : goal.join_passes-requires-clause-back
join_passes-requires-clause-back g c = all_back c.hand_out.new.jobs.queue c.args.sweep c.in_ok-helpers.helpers.items c.in_ok-helped.helped.items
    (let h = c.in_ok-helped.helped.ok.0 in let k = c.in_ok-helpers.helpers.ok.0 in let same = c.in_ok-helped.ensures.len in omega (arith, h, k, same)) c.in_ok-helped.ensures.helped

given_both : {T E : Type 0} (P Q : T → Type 0) (R : Type 0) → ((t : T) → P t → R → Q t) → (r : Result T E) → IfOk r P → OnOk r R → IfOk r Q
given_both P Q R f (Ok t) p r = f t p r
given_both P Q R f (Err e) p r = tt

abbrev AllOnce : PassView → Vec Helped Global → Type 0
AllOnce start ks = (nodes groups : ℕ) → 0 < vec_len ks → start.pushed ≡ queue_line nodes groups → AreOnce nodes groups (flat_map popped_of ks.items)

pub returns : goal.returns
returns g c = let x = c.args.shared.now in let z = c.args.sweep in let hs = c.in_ok-helpers.helpers.items in let ks = c.in_ok-helped.helped.items in let handed = c.in_ok-helpers.ensures in
    let start = passes.pass_view c.hand_out.new.jobs.first in let parents = length (parents_of x.script) in
    let filled = c.in_ok-jobs.ensures.line ∙ ap (λ n. queue_line x.script.nodes (n + 1)) c.len.ensures in
    let ready = all_ready x c.hand_out.new.jobs.queue x.script.nodes (length x.script.groups.items + 1) (passes.pass_view c.in_ok-jobs.jobs.first).pushed c.args.results.items hs filled
    (nodes_there x c.requires.shared) (groups_there x c.requires.shared) handed.workers c.requires.done handed.whole handed.passes in
    let long = length-map hs worker_of in let many = ap (λ (l : List WorkerResult). length l) handed.workers in let same = c.in_ok-helped.ensures.len in let count = c.requires.count in
    let given = c.in_ok-helpers.helpers.ok.0 in let back = c.in_ok-helped.helped.ok.0 in let asked = c.args.results.ok.0 in
    let joined : length ks ≡ length hs = omega (arith, given, back, same) in
    let some = (urgent x c.requires.shared z c.requires.sweep).1 in
    let line : start.pushed ≡ queue_line x.script.nodes parents = ap (λ (v : PassView). v.pushed) handed.view ∙ (filled ∙ ap (queue_line x.script.nodes) (sym (groups_are x c.requires.shared))) in
    given_both (λ (swept : Vec WorkerResult Global). swept.items ≡ map helped_of ks) (λ (swept : Vec WorkerResult Global). HaveSwept x z c.args.results.items swept.items) (AllOnce start c.in_ok-helped.helped)
    (λ swept new once. have_swept x c.hand_out.new.jobs.queue z (passes.pass_view c.in_ok-jobs.jobs.first).pushed c.args.results.items swept.items hs ks handed.workers new joined handed.passes ready handed.whole c.in_ok-helped.ensures.helped
    (once x.script.nodes parents (omega (arith, long, many, joined, back, asked, count, some)) line))
    c.join_passes.result c.join_passes.ensures.workers c.join_passes.ensures.once
