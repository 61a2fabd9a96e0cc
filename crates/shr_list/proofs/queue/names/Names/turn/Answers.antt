-- SPDX-License-Identifier: GPL-2.0-only
use Rattle.shr_list.proofs.Common.{◌≡◌, refl, Some, None, rules, IsSome, Names, found_clash, print_of}
use Rattle.shr_list.proofs.Fitting.{SetsEntry, turns_clash, turns_entry}
use Rattle.shr_list.proofs.queue.names.Names.turn.Goals as goal

pub returns-then-is_some : goal.returns-then-is_some
returns-then-is_some c =
    let old = c.args.self.now in
    let new : Names = record { prints = old.prints; clashes = c.turn.new.self } in
    let some : IsSome (found_clash old.clashes (c.args.birth, c.args.key.now)) = search rules in
    turns_clash old new (c.args.birth, c.args.key.now) (Some c.args.node) some (λ print. refl) c.turn.ensures

pub returns-in-Some : goal.returns-in-Some
returns-in-Some c =
    let old = c.args.self.now in
    let new : Names = record { prints = c.get_mut.follows.lender c.args.node; clashes = old.clashes } in
    let alone : found_clash old.clashes (c.args.birth, c.args.key.now) ≡ None = search rules in
    let sets : SetsEntry old new (print_of c.args.birth c.args.key.now) (Some c.args.node) = rw (← c.print_of.ensures) ((c.get_mut.follows.holds c.args.node).3 (search rules)) in
    turns_entry old new (c.args.birth, c.args.key.now) (Some c.args.node) alone sets (λ name. refl)
