-- SPDX-License-Identifier: GPL-2.0-only
use Rattle.shr_list.proofs.Common.{◌≡◌, ◌<◌, ◌∙◌, sym, subst, arith, rules, false, is_some, None, Name, New, Index, AddsName, IsIndexed, KnowsNames, in_nodes}
use Rattle.shr_list.proofs.Known.{made_gains, unmade_gains}
use Rattle.shr_model.proofs.Booleans.{none_unless}
use Rattle.shr_list.proofs.queue.index.Index.admit.Goals as goal

pub returns-in_default : goal.returns-in_default
returns-in_default c =
    let name : Name = (c.args.birth, c.args.key.now) in
    let nodes = c.args.links.now.nodes in
    let off : is_some c.find.result ≡ false = search rules in
    let none : in_nodes nodes name ≡ None = sym c.find.ensures ∙ none_unless c.find.result off in
    let room : 0 < c.reserve.new.self.spare = omega (arith, c.in_ok-reserve.ensures.spare) in
    record {
      told = rw c.reserve.ensures.nodes (none, room, unmade_gains c.args.self.now nodes name c.reserve.new.self.vacant c.in_default.not-Made c.requires none);
      nodes = c.reserve.ensures.nodes;
      kept = tt;
    }

pub returns-in-New-clause-told : goal.returns-in-New-clause-told
returns-in-New-clause-told c =
    let name : Name = (c.args.birth, c.args.key.now) in
    let nodes = c.reserve-2.new.self.nodes in
    let node = c.reserve-2.new.self.vacant in
    let old = c.in-Made.names.value in
    let indexed : IsIndexed old nodes = rw c.reserve-2.ensures.nodes (subst (λ (i : Index). KnowsNames i c.args.links.now.nodes) c.in-Made.is c.requires) in
    let key : c.in-Some.node ≡ node = search rules in
    let adds : AddsName old c.add.new.self nodes name node New = rw (← key) (search rules) in
    let room : 0 < c.reserve-2.new.self.spare = omega (arith, c.in_ok-reserve-2.ensures.spare) in
    (adds.0, room, made_gains old c.add.new.self nodes name node indexed adds.0 adds.1)
