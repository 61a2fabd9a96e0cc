-- SPDX-License-Identifier: GPL-2.0-only
use Rattle.shr_list.proofs.Common.{◌≡◌, refl, None, rules, IsSome, Name, Crowded, AddsClash, print_of, entry_at}
use Rattle.shr_list.proofs.Fitting.{fits_kept, on_err, gains_entry, gains_told}
use Rattle.shr_list.proofs.queue.names.Names.put.Goals as goal

pub returns-in_err-place-clause-kept : goal.returns-in_err-place-clause-kept
returns-in_err-place-clause-kept c =
    let old = c.args.self.now in
    on_err c.from_residual.result _ (fits_kept old (record { prints = _; clashes = old.clashes }) (λ print. search rules) (λ name. refl))

pub returns-in-Vacant-clause-put : goal.returns-in-Vacant-clause-put
returns-in-Vacant-clause-put c =
    let old = c.args.self.now in
    let free : entry_at old (print_of c.args.birth c.args.key.now) ≡ None = search rules in
    gains_entry old (record { prints = _; clashes = old.clashes }) (c.args.birth, c.args.key.now) c.args.node free (search rules) (λ name. refl)

pub returns-in_err-add-in-Occupied-clause-kept : goal.returns-in_err-add-in-Occupied-clause-kept
returns-in_err-add-in-Occupied-clause-kept c =
    let kept = fits_kept c.args.self.now in
    search (rules, kept)

pub returns-in-New : goal.returns-in-New
returns-in-New c =
    let old = c.args.self.now in
    let name : Name = (c.args.birth, c.args.key.now) in
    let added = c.in_ok-add-in-Occupied.field-0 in
    let adds : AddsClash old.clashes c.add.new.self name c.args.node added = search rules in
    record { put = gains_told old (record { prints = _; clashes = c.add.new.self }) name c.args.node added (λ print. search rules) c.in-New.is adds; kept = tt }

pub returns-in-Crowded-clause-put : goal.returns-in-Crowded-clause-put
returns-in-Crowded-clause-put c =
    let old = c.args.self.now in
    let name : Name = (c.args.birth, c.args.key.now) in
    let adds : AddsClash old.clashes c.add.new.self name c.args.node Crowded = search rules in
    let taken : IsSome (entry_at old (print_of c.args.birth c.args.key.now)) = search rules in
    (record { first = taken; second = adds.1 }, fits_kept old (record { prints = _; clashes = c.add.new.self }) (λ print. search rules) adds.2)
