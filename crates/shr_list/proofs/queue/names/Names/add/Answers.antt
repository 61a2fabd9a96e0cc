-- SPDX-License-Identifier: GPL-2.0-only
use Rattle.shr_list.proofs.Common.{◌≡◌, ◌∙◌, sym, refl, Some, None, rules, IsSome, found_clash, Name, print_of, entry_at, in_nodes}
use Rattle.shr_list.proofs.Fitting.{vacant_finds, fits_kept, on_err, gains_entry}
use Rattle.shr_list.proofs.Lookups.{looked, told_clash, kept_clash}
use Rattle.shr_list.proofs.queue.names.Names.add.Goals as goal

pub returns-in_err-place-clause-kept : goal.returns-in_err-place-clause-kept
returns-in_err-place-clause-kept c =
    let old = c.args.self.now in
    on_err c.from_residual.result _ (fits_kept old (record { prints = _; clashes = old.clashes }) (λ print. search rules) (λ name. refl))

pub returns-then-is_some-clause-told : goal.returns-then-is_some-clause-told
returns-then-is_some-clause-told c =
    let old = c.args.self.now in
    let nodes = c.args.links.now.nodes in
    let name : Name = (c.args.birth, c.args.key.now) in
    let free : entry_at old (print_of c.args.birth c.args.key.now) ≡ None = search rules in
    let there : IsSome (found_clash old.clashes (c.args.birth, c.args.key.now)) = search rules in (
      rw (vacant_finds old (in_nodes nodes) c.requires.fits name free) there,
      fits_kept old (record { prints = _; clashes = old.clashes }) (λ print. search rules) (λ name. refl),
    )

pub has_name-requires : goal.has_name-requires
has_name-requires c =
    let nodes = c.args.links.now.nodes in
    let is : entry_at c.args.self.now (print_of c.args.birth c.args.key.now) ≡ Some c.get-in-Occupied.result.now = search rules in
    let at = looked c.args.self.now nodes (c.args.birth, c.args.key.now) c.get-in-Occupied.result.now c.requires is in
    (at.before, at.object, at.after, at.split)

pub returns-then-has_name-clause-told : goal.returns-then-has_name-clause-told
returns-then-has_name-clause-told c =
    let old = c.args.self.now in
    let nodes = c.args.links.now.nodes in
    let is : entry_at old (print_of c.args.birth c.args.key.now) ≡ Some c.get-in-Occupied.result.now = search rules in
    let at = looked old nodes (c.args.birth, c.args.key.now) c.get-in-Occupied.result.now c.requires is in
    let named = c.has_name.ensures at.before at.object at.after at.split in
    let there : IsSome (in_nodes nodes (c.args.birth, c.args.key.now)) = rw (at.hit (sym named ∙ c.if-has_name.true)) refl in
    (there, fits_kept old (record { prints = _; clashes = old.clashes }) (λ print. search rules) (λ name. refl))

pub returns-else-is_some-clause-told : goal.returns-else-is_some-clause-told
returns-else-is_some-clause-told c =
    let old = c.args.self.now in
    let nodes = c.args.links.now.nodes in
    let name : Name = (c.args.birth, c.args.key.now) in
    let free : entry_at old (print_of c.args.birth c.args.key.now) ≡ None = search rules in
    let alone : found_clash old.clashes (c.args.birth, c.args.key.now) ≡ None = search rules in (
      vacant_finds old (in_nodes nodes) c.requires.fits name free ∙ alone,
      gains_entry old (record { prints = _; clashes = old.clashes }) name c.args.node free (search rules) (λ name. refl),
    )

pub returns-else-has_name-clause-told : goal.returns-else-has_name-clause-told
returns-else-has_name-clause-told c =
    let old = c.args.self.now in
    let nodes = c.args.links.now.nodes in
    let name : Name = (c.args.birth, c.args.key.now) in
    let is : entry_at old (print_of c.args.birth c.args.key.now) ≡ Some c.get-in-Occupied.result.now = search rules in
    let at = looked old nodes name c.get-in-Occupied.result.now c.requires is in
    let miss = at.miss (sym (c.has_name.ensures at.before at.object at.after at.split) ∙ c.if-has_name.false) in
    let taken : IsSome (entry_at old (print_of c.args.birth c.args.key.now)) = rw is refl in
    told_clash old (record { prints = _; clashes = c.add.new.self }) (λ print. search rules) nodes name c.args.node c.add.result taken miss c.add.ensures.told

pub returns-else-has_name-clause-kept : goal.returns-else-has_name-clause-kept
returns-else-has_name-clause-kept c =
    let old = c.args.self.now in
    kept_clash old (record { prints = _; clashes = c.add.new.self }) (λ print. search rules) c.add.result c.add.ensures.kept
