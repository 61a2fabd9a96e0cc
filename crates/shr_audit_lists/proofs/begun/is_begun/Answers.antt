-- SPDX-License-Identifier: GPL-2.0-only
use Rattle.shr_audit_lists.proofs.Common.{◌≡◌, ℕ, ◌<◌, Bool, true, false, length, refl, sym, subst, arith, Contains, Decides, Begin, parent_of, HasBegunAbove, slice_index_or}
use Rattle.shr_audit_lists.proofs.Beginning.{root_decided, own_begun, below_decided}
use Rattle.shr_audit_lists.proofs.begun.is_begun.Goals as goal

pub returns-then-is_begin : goal.returns-then-is_begin
returns-then-is_begin c = (λ t. own_begun c.args.parents.now c.args.tree.now c.requires.tree (length c.args.begun.now) c.requires.there (c.is_begin.ensures.0 c.if-is_begin.true), λ h. refl)

pub returns-then-group-eq0 : goal.returns-then-group-eq0
returns-then-group-eq0 c = subst (λ (n : ℕ). Decides false (HasBegunAbove c.args.parents.now c.args.tree.now n)) (sym c.if-group-eq0.true)
    (root_decided c.args.parents.now c.args.tree.now (subst (λ (n : ℕ). Decides false (Contains c.args.tree.now (Begin n))) c.if-group-eq0.true
    (subst (λ (b : Bool). Decides b (Contains c.args.tree.now (Begin (length c.args.begun.now)))) c.if-is_begin.false c.is_begin.ensures)))

pub returns : goal.returns
returns c =
    let parents = c.args.parents.now in
    let g = length c.args.begun.now in
    let some = c.if-group-eq0.false in
    let above : 0 < g = omega arith in
    let lower : parent_of parents g < g = c.requires.tree.lower g above c.requires.there in
    below_decided parents c.args.tree.now c.requires.tree g above c.requires.there (λ own. clash c.is_begin.result (c.is_begin.ensures.1 own) c.if-is_begin.false)
    (slice_index_or c.args.begun.now (parent_of parents g) false) (c.requires.before (parent_of parents g) lower)
  where
    clash : (b : Bool) → b ≡ true → b ≡ false → ⊥
    clash b x y = cc
