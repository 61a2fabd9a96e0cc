-- SPDX-License-Identifier: GPL-2.0-only
use Rattle.shr_audit_case.proofs.ReplayCommon.{slice_set, at_group, Replayed, length-set, length-append, List, [], ◌∷◌, ◌≡◌, ◌∙◌, ℕ, ◌+◌, ◌-◌, ◌<◌, ◌≤◌, length, sym, ap, subst, arith, Place, Family, AreJournals, AreReplayed, printed_entries, option_copied, printed_items}
use Rattle.shr_audit_case.proofs.Climbing.{AreClimbed, climbed_none, climbed_more, one_told, one_given}
use Rattle.shr_audit_case.proofs.groups.replay_groups.Goals as goal

pub loop-k-init : goal.loop-k-init
loop-k-init c = (
  c.in_ok-lists.ensures,
  ap length c.new-told.ensures.items,
  λ family printed place js ps.
      let all : length c.args.parents.now ≡ length c.args.parents.now - 0 = omega arith in
      subst (λ (n : ℕ). AreClimbed c.args.parents.now family printed place n c.in_ok-lists.lists.items c.new-told.result.items) all (climbed_none c.args.parents.now family printed place c.in_ok-lists.lists.items c.new-told.result.items c.new-told.ensures.items),
)

pub returns : goal.returns
returns c = λ family printed place js ps. record {
  count = omega (arith, c.loop-k.invariant.1, c.loop-k-test.false, c.loop-k.auto.k-end);
  each = (c.loop-k.invariant.2 family printed place js ps).each;
}

pub loop-k-preserved : goal.loop-k-preserved
loop-k-preserved c =
    let group : ℕ = length c.args.parents.now - 1 - c.loop-k.k in
    let within : group < length c.args.parents.now = omega (arith, c.loop-k-test.true) in
    let pushed = c.in_ok-push.ensures.items in (
      length-set c.replay_end.new.lists.items group c.in_ok-replayed.given ∙ (c.in_ok-replayed.ensures.others.count ∙ c.loop-k.invariant.0),
      ap length pushed ∙ (length-append c.loop-k.told.items (c.in_ok-replayed.replayed ∷ []) ∙ ap (λ (n : ℕ). n + 1) c.loop-k.invariant.1),
      λ family printed place js ps.
          let here : family (at_group place group) ≡ printed_entries (option_copied c.end_at.result) = js group within ∙ ap printed_entries (sym c.end_at.ensures) in
          let there : printed (at_group place group) ≡ printed_items (option_copied c.end_at.result) = ps group within ∙ ap printed_items (sym c.end_at.ensures) in
          let low : length c.args.parents.now - c.loop-k.k ≡ group + 1 = omega (arith, c.loop-k-test.true) in
          let next : group ≡ length c.args.parents.now - (c.loop-k.k + 1) = omega (arith, c.loop-k-test.true) in
          let before : AreClimbed c.args.parents.now family printed place (group + 1) c.loop-k.lists.items c.loop-k.told.items = subst (λ (n : ℕ). AreClimbed c.args.parents.now family printed place n c.loop-k.lists.items c.loop-k.told.items) low (c.loop-k.invariant.2 family printed place js ps) in
          let more = climbed_more c.args.parents.now c.requires.tree family printed place group within c.loop-k.lists.items c.replay_end.new.lists.items c.loop-k.told.items before c.in_ok-replayed.replayed c.in_ok-replayed.given
          (one_told c.args.parents.now c.requires.tree family printed place group within c.loop-k.lists.items c.replay_end.new.lists.items c.loop-k.told.items before c.in_ok-replayed.replayed _ _ here there c.in_ok-replayed.ensures.replayed)
          (one_given c.args.parents.now c.requires.tree family printed place group within c.loop-k.lists.items c.replay_end.new.lists.items c.loop-k.told.items before _ _ here c.in_ok-replayed.ensures.given)
          c.loop-k.invariant.0 c.in_ok-replayed.ensures.others (omega (arith, c.loop-k.invariant.1, c.loop-k-test.true)) in
          subst (λ (n : ℕ). AreClimbed c.args.parents.now family printed place n (slice_set c.replay_end.new.lists.items group c.in_ok-replayed.given) c.push.new.self.items) next
          (subst (λ (told : List Replayed). AreClimbed c.args.parents.now family printed place group (slice_set c.replay_end.new.lists.items group c.in_ok-replayed.given) told) (sym pushed) more),
    )
