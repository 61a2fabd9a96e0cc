-- SPDX-License-Identifier: GPL-2.0-only
use Rattle.shr_list.proofs.Common.{◌≡◌, ◌∙◌, sym, Some, None, rules, print_of, entry_at, in_nodes}
use Rattle.shr_list.proofs.Fitting.{vacant_finds}
use Rattle.shr_list.proofs.Lookups.{looked}
use Rattle.shr_list.proofs.queue.names.Names.get.Goals as goal
use Rattle.shr_list.proofs.queue.names.Names.get.Goals.{in_default-via-in-Some+else-has_name, in_default-via-in_default}

pub has_name-requires : goal.has_name-requires
has_name-requires c =
    let nodes = c.args.links.now.nodes in
    let is : entry_at c.args.self.now (print_of c.args.birth c.args.key.now) ≡ Some c.in-Some.node.now = search rules in
    let at = looked c.args.self.now nodes (c.args.birth, c.args.key.now) c.in-Some.node.now c.requires is in
    (at.before, at.object, at.after, at.split)

pub returns-in-Some : goal.returns-in-Some
returns-in-Some c =
    let nodes = c.args.links.now.nodes in
    let is : entry_at c.args.self.now (print_of c.args.birth c.args.key.now) ≡ Some c.in-Some.node.now = search rules in
    let at = looked c.args.self.now nodes (c.args.birth, c.args.key.now) c.in-Some.node.now c.requires is in
    sym (at.hit (sym (c.has_name.ensures at.before at.object at.after at.split) ∙ c.if-has_name.true))

pub returns-in_default : goal.returns-in_default
returns-in_default c =
    let nodes = c.args.links.now.nodes in
    elim c.in_default.branch [
      | in_default-via-in-Some+else-has_name w ↦
          let is : entry_at c.args.self.now (print_of c.args.birth c.args.key.now) ≡ Some w.in-Some.node.now = search rules in
          let at = looked c.args.self.now nodes (c.args.birth, c.args.key.now) w.in-Some.node.now c.requires is in
          c.get-in_default.ensures ∙ sym (at.miss (sym (w.has_name.ensures at.before at.object at.after at.split) ∙ w.if-has_name.false))
      | in_default-via-in_default w ↦
          let none : entry_at c.args.self.now (print_of c.args.birth c.args.key.now) ≡ None = search rules in
          c.get-in_default.ensures ∙ sym (vacant_finds c.args.self.now (in_nodes nodes) c.requires.fits (c.args.birth, c.args.key.now) none)
    ]
