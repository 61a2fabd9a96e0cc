-- SPDX-License-Identifier: GPL-2.0-only
use Rattle.shr_audit_walks.proofs.RoundsCommon.{◌≡◌, ◌<◌, ℕ, List, Vec, length, refl, sym, ap, subst, ◌∙◌, Global, AllByRecursion, UseStep, parents_of, Refusal, AreRefusals}
use Rattle.shr_audit_walks.proofs.Refusing.{there}
use Rattle.shr_audit_walks.proofs.commands.dues_of.Goals as goal

pub returns : goal.returns
returns c =
    let s = c.args.script.now in
    let uses = c.args.report.now.uses.items in
    let refusals = c.in_ok-refusals.refusals.items in
    let parents : c.in_ok-subtrees.subtrees.parents.items ≡ parents_of s = ap (λ (v : Vec ℕ Global). v.items) c.in_ok-subtrees.ensures.parents ∙ c.in_ok-parents.ensures in
    let are : AreRefusals s uses refusals = subst (λ (ops : List UseStep). AreRefusals s ops refusals) c.as_slice.ensures c.in_ok-refusals.ensures.same in
    record {
      nodes = refl;
      parents = parents;
      refusals = are;
      can = record {
        nodes = c.requires.nodes;
        subtrees = c.in_ok-subtrees.ensures.are;
        order = c.in_ok-refusals.ensures.order;
        there = subst (λ (n : ℕ). AllByRecursion (λ (x : Refusal). x.group < n) refusals) (sym (ap length parents)) (there s uses refusals are);
      };
    }
