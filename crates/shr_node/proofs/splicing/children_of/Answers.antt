-- SPDX-License-Identifier: GPL-2.0-only
use Rattle.shr_node.proofs.Common.{◌≡◌, ℕ, ◌+◌, ◌<◌, true, List, length, get_or, set, sym, ap, subst, ◌∙◌, arith, length-set, get_or-set_same, get_or-set_other, dite, ℕ_discrete, Shape, is_child, parent_of, child_again, child_takes, groups_in, shape_of}
use Rattle.shr_node.proofs.splicing.children_of.Goals as goal

-- each of the first so many numbers is that of a child
abbrev EachIs : List ℕ → ℕ → List ℕ → ℕ → Type 0
EachIs parents group found count = (i : ℕ) → i < count → is_child parents group (get_or found i 0) ≡ true

-- and each child below a number is among them
abbrev AllAre : List ℕ → ℕ → List ℕ → ℕ → ℕ → Type 0
AllAre parents group found count top = (child : ℕ) → child < top → is_child parents group child ≡ true → (i : ℕ) × (i < count) × (get_or found i 0 ≡ child)

module _ (parents : List ℕ) (group : ℕ) (found : List ℕ) (count at : ℕ) where
  -- the next group is a child
  each_more : count < length found → is_child parents group at ≡ true → EachIs parents group found count → EachIs parents group (set found count at) (count + 1)
  each_more room is each i lt = dite (ℕ_discrete i count)
      (λ same. subst (λ (x : ℕ). is_child parents group x ≡ true) (sym (ap (λ (n : ℕ). get_or (set found count at) n 0) same ∙ get_or-set_same found count at 0 room)) is)
      (λ other. subst (λ (x : ℕ). is_child parents group x ≡ true) (sym (get_or-set_other found count i at 0 other)) (each i (omega (arith, lt, other))))

  all_more : count < length found → AllAre parents group found count at → AllAre parents group (set found count at) (count + 1) (at + 1)
  all_more room all child lt is = dite (ℕ_discrete child at)
      (λ same. (count, omega arith, get_or-set_same found count at 0 room ∙ sym same))
      (λ other. let old = all child (omega (arith, lt, other)) is in let low = old.1 in (old.0, omega (arith, low), get_or-set_other found count old.0 at 0 (λ e. omega (arith, low, e)) ∙ old.2))

  -- the next group is none
  all_past : (parent_of parents at ≡ group → ⊥) → AllAre parents group found count at → AllAre parents group found count (at + 1)
  all_past isnt all child lt is = dite (ℕ_discrete child at)
      (λ same. absurd (isnt (ap (λ (x : ℕ). parent_of parents x) (sym same) ∙ (child_takes parents group child is).parent)))
      (λ other. all child (omega (arith, lt, other)) is)

pub loop-at-preserved-then-parents-at : goal.loop-at-preserved-then-parents-at
loop-at-preserved-then-parents-at c = let core = c.args.core.now in let inv = c.loop-at.invariant in let few = inv.few in
    let is : c.as_slice-parents.result.now ≡ (shape_of core).parents.items = c.as_slice-parents.ensures ∙ ap (λ (s : Shape). s.parents.items) c.shape.ensures in record {
      long = inv.long;
      few = omega (arith, few);
      room = inv.room;
      each = inv.each;
      all = all_past (shape_of core).parents.items c.args.group c.loop-at.children.groups c.loop-at.children.count c.loop-at.at (λ e. c.if-parents-at.true (ap (λ (ps : List ℕ). parent_of ps c.loop-at.at) is ∙ e)) inv.all;
    }

pub loop-at-preserved : goal.loop-at-preserved
loop-at-preserved c = let core = c.args.core.now in let inv = c.loop-at.invariant in let few = inv.few in let long = inv.long in let low = c.loop-at.auto.at in let test = c.loop-at-test.true in let most = core.limits.4 in
    let is : c.as_slice-parents.result.now ≡ (shape_of core).parents.items = c.as_slice-parents.ensures ∙ ap (λ (s : Shape). s.parents.items) c.shape.ensures in
    let far : length c.as_slice-parents.result.now ≡ groups_in (shape_of core) = ap (λ (ps : List ℕ). length ps) is in record {
      long = length-set c.loop-at.children.groups c.loop-at.children.count c.loop-at.at ∙ inv.long;
      few = omega (arith, few);
      room = omega (arith, few, test, far, most);
      each = each_more (shape_of core).parents.items c.args.group c.loop-at.children.groups c.loop-at.children.count c.loop-at.at (omega (arith, few, test, far, most, long))
          (child_again (shape_of core).parents.items c.args.group c.loop-at.at (record { above = omega (arith, low); there = omega (arith, test, far); parent = ap (λ (ps : List ℕ). parent_of ps c.loop-at.at) (sym is) ∙ c.if-parents-at.false })) inv.each;
      all = all_more (shape_of core).parents.items c.args.group c.loop-at.children.groups c.loop-at.children.count c.loop-at.at (omega (arith, few, test, far, most, long)) inv.all;
    }

pub returns : goal.returns
returns c = let core = c.args.core.now in let inv = c.loop-at.invariant in let test = c.loop-at-test.false in let long = inv.long in let room = inv.room in
    let far : length c.as_slice-parents.result.now ≡ groups_in (shape_of core) = ap (λ (ps : List ℕ). length ps) (c.as_slice-parents.ensures ∙ ap (λ (s : Shape). s.parents.items) c.shape.ensures) in record {
      children = record {
        few = omega (arith, long, room);
        each = inv.each;
        all = λ child is. inv.all child (let there = (child_takes (shape_of core).parents.items c.args.group child is).there in omega (arith, there, far, test)) is;
      };
    }
