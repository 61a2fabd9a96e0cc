-- SPDX-License-Identifier: GPL-2.0-only
use Rattle.shr_audit_walks.proofs.RoundsCommon.{ℕ, Bool, List, sym, subst, Decides, Command, preorder_of, IsCommandMade, is_whole, refused_groups, IsMadeAsDue, jobs_made, jobs_over, IfOk}
use Rattle.shr_audit_walks.specs.declared.round_rows.Control.{Control}
use Rattle.shr_audit_walks.proofs.commands.is_command_made.Goals as goal

pub returns-in-Put : goal.returns-in-Put
returns-in-Put c =
    subst (λ (x : Command). IfOk c.is_put_made.result (λ b. Decides b (IsCommandMade c.args.dues.now.subtrees.parents.items c.args.dues.now.nodes (refused_groups c.args.refusals.now) x c.args.reply.now (jobs_made c.args.walks.now)))) (sym c.in-Put.is) c.is_put_made.ensures

pub returns-in-Balance : goal.returns-in-Balance
returns-in-Balance c =
    let parents = c.args.dues.now.subtrees.parents.items in
    let walks = jobs_made c.args.walks.now in
    let b = c.is_row_made-in-Balance.result in
    let control : Control = record { node = c.in-Balance.node; priority = c.in-Balance.priority; nofs = c.in-Balance.nofs } in
    let made : Decides b (IsMadeAsDue (is_whole c.args.reply.now) (jobs_over control (preorder_of parents 0)) walks) =
    subst (λ (w : Bool). Decides b (IsMadeAsDue w (jobs_over control (preorder_of parents 0)) walks)) c.is_whole-whole.ensures
    (subst (λ (gs : List ℕ). Decides b (IsMadeAsDue c.is_whole-whole.result (jobs_over control gs) walks)) c.order.ensures c.is_row_made-in-Balance.ensures) in
    subst (λ (x : Command). Decides b (IsCommandMade parents c.args.dues.now.nodes (refused_groups c.args.refusals.now) x c.args.reply.now walks)) (sym c.in-Balance.is) made
