-- SPDX-License-Identifier: GPL-2.0-only
use Rattle.shr_audit_charges.proofs.Common.{◌++◌, ◌<◌, ℕ, sym, ap, subst, length, arith, path_of, keys_with}
use Rattle.shr_audit_charges.proofs.PathsLaw.{start_there, climbed, on_top}
use Rattle.shr_audit_charges.proofs.climb.note_path.Goals as goal

pub loop-group-init : goal.loop-group-init
loop-group-init c =
    let e = c.start_of-group.ensures in
    record { within = subst (λ (g : ℕ). g < length c.args.parents.now) (sym e) (start_there c.args.parents.now c.args.birth c.requires); keys = ap (λ (g : ℕ). c.args.keys.now.items ++ keys_with c.args.by (path_of c.args.parents.now g)) e }

pub loop-group-preserved : goal.loop-group-preserved
loop-group-preserved c =
    let low = c.requires.lower c.loop-group.group c.loop-group-test.true c.loop-group.invariant.within in
    record { within = omega (arith, low, c.loop-group.invariant.within); keys = climbed c.args.parents.now c.args.by _ c.loop-group.keys.items c.push.new.self.items c.loop-group.group c.own_key-key.result c.requires c.loop-group-test.true c.loop-group.invariant.within c.own_key-key.ensures.key c.loop-group.invariant.keys c.in_ok-push.ensures.items }

pub loop-group-smaller : goal.loop-group-smaller
loop-group-smaller c = let low = c.requires.lower c.loop-group.group c.loop-group-test.true c.loop-group.invariant.within in omega (arith, low)

pub returns : goal.returns
returns c = on_top c.args.parents.now c.args.by _ c.loop-group.keys.items c.push-2.new.self.items c.loop-group.group c.own_key-root.result c.loop-group-test.false c.own_key-root.ensures.key c.loop-group.invariant.keys c.in_ok-push-2.ensures.items
