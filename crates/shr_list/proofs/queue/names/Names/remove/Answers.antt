-- SPDX-License-Identifier: GPL-2.0-only
use Rattle.shr_list.proofs.Common.{◌≡◌, refl, None, rules, IsSome, Names, found_clash, print_of}
use Rattle.shr_list.proofs.Fitting.{SetsEntry, turns_clash, turns_entry}
use Rattle.shr_list.proofs.queue.names.Names.remove.Goals as goal

pub returns-then-is_some : goal.returns-then-is_some
returns-then-is_some c =
    let old = c.args.self.now in
    let new : Names = record { prints = old.prints; clashes = c.remove.new.self } in
    let some : IsSome (found_clash old.clashes (c.args.birth, c.args.key.now)) = search rules in
    turns_clash old new (c.args.birth, c.args.key.now) None some (λ print. refl) c.remove.ensures

pub returns-else-is_some : goal.returns-else-is_some
returns-else-is_some c =
    let old = c.args.self.now in
    let new : Names = record { prints = c.remove-else-is_some.new.self; clashes = old.clashes } in
    let alone : found_clash old.clashes (c.args.birth, c.args.key.now) ≡ None = search rules in
    let sets : SetsEntry old new (print_of c.args.birth c.args.key.now) None = search rules in
    turns_entry old new (c.args.birth, c.args.key.now) None alone sets (λ name. refl)
