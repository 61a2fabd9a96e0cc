-- SPDX-License-Identifier: GPL-2.0-only
use Rattle.shr_audit_fresh.proofs.Common.{◌<◌, ℕ, List, length, get_or, ap, ◌∙◌, subst, arith, option_to_list, get_or_default, WalkRecord, walk_cited, FloorWith}
use Rattle.shr_audit_fresh.proofs.WalkFloors.{no_command, one_noted, other_worker}
use Rattle.shr_audit_fresh.proofs.floors.note_walk.Goals as goal

pub returns-then-by-worker-clause-noted : goal.returns-then-by-worker-clause-noted
returns-then-by-worker-clause-noted c = let worker = ap (λ (w : WalkRecord). w.by.worker) c.walk.view_is in
    other_worker c.args.worker c.args.walk.now c.args.floors.now.items (rw worker at c.if-by-worker.true)

pub returns-then-command-len-clause-noted : goal.returns-then-command-len-clause-noted
returns-then-command-len-clause-noted c =
    let w = c.args.walk.now in
    let worker = ap (λ (w : WalkRecord). w.by.worker) c.walk.view_is in
    let command = ap (λ (w : WalkRecord). w.by.command) c.walk.view_is in
    let floors = c.args.floors.now.items in
    let l = c.len.ensures in
    let ok = c.args.floors.now.ok.0 in
    let lt = c.if-command-len.true in
    let there : w.by.command < length floors = omega (arith, l, ok, lt, command) in
    let cited = c.walk_cited.ensures ∙ ap walk_cited c.answer.ensures in
    rw command (one_noted c.args.worker w floors c.floor_with-floor.result (rw worker at c.if-by-worker.false) there
    (subst (λ (ns : List ℕ). FloorWith (get_or floors w.by.command 0) ns c.floor_with-floor.result) cited
    (subst (λ (n : ℕ). FloorWith n (option_to_list c.walk_cited.result) c.floor_with-floor.result) ((rw command at c.index.ensures) ∙ get_or_default floors w.by.command c.index.result.now 0 there) c.floor_with-floor.ensures)))

pub returns-else-command-len-clause-noted : goal.returns-else-command-len-clause-noted
returns-else-command-len-clause-noted c = no_command c.args.worker c.args.walk.now c.args.floors.now.items (let command = ap (λ (w : WalkRecord). w.by.command) c.walk.view_is in let l = c.len.ensures in let ok = c.args.floors.now.ok.0 in let le = c.if-command-len.false in omega (arith, l, ok, le, command))
