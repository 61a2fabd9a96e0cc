-- SPDX-License-Identifier: GPL-2.0-only
-- What was carried for a group that was found done was carried by a worker that hadn't done it, of a run.
use Rattle.shr_lawful.proofs.Common.{◌≡◌, ℕ, ◌<◌, ◌≤◌, ⊎_elim, true, false, List, length, sym, ap, subst, ◌∙◌, arith, length-append, slice_get, Some, option_and_then, AllByRecursion, IsSomeAnd, cases_lt, eqb-true, same_Some, slice_get_within, dite, ℕ_discrete, Done, Serial, Reply, Script, Carry, group_named, done_at, Report, serial_of, reply_at, all_carries, is_done_by, StandsInTree, IsCausedBy, IsDoneKnown, DidCarry, IsEnded, IsEntryOf, Step, IsAmong, steps_of, IsRun, by_slices, some_at, IsDoneElsewhere}
use Rattle.shr_base.specs.declared.replies.Reply.TheVariants as reply
use Rattle.shr_charge.specs.Views as charge
use Rattle.shr_lawful.proofs.Listed.{all_carries_are, all_among, begins_slice, slice_begins}
use Rattle.shr_lawful.proofs.Gathering.{has_step, same_step, grows, reply_is}
use Rattle.shr_lawful.proofs.JournalsLaw.{EntryMaker, entry_maker, tree_stands}

-- a worker knows at a command's end the Done that its answer tells as its own
knows_done : (s : Script) (y : Step) (n : ℕ) (x : Reply) → is_done_by n x ≡ true → IsCausedBy s y x → n < length y.after.tree.known
knows_done s y n (reply.OfflineDone entry moved deferred) is h = let lt = h.known in let e = eqb-true entry n is in omega (arith, lt, e)
knows_done s y n x is h = absurd (let t : false ≡ true = is in cc)

module _ (s : Script) (r : Report) (workers : List (List Step)) (run : IsRun s r workers) where
  -- a step that carried, and found its group done
  module _ (worker k : ℕ) (x : Step) (at : slice_get (steps_of workers worker) k ≡ Some x) (c : Carry) (d : DidCarry s x c) (entry : ℕ) (answer : x.answered.reply ≡ reply.AlreadyDone entry) where
    was_done : IsDoneKnown x entry
    was_done = subst (IsCausedBy s x) answer (run.steps.each worker k x at).did.cause

    known : slice_get x.after.tree.known entry ≡ Some (Done was_done.group)
    known = done_at x.after.tree.known was_done.group entry was_done.done

    within : entry < length x.after.tree.known
    within = slice_get_within x.after.tree.known entry (Done was_done.group) known

    group_is : was_done.group ≡ c.place.group
    group_is = same_Some was_done.group c.place.group (sym was_done.named ∙ ap (option_and_then group_named) d.command)

    stands : StandsInTree r entry (Done c.place.group)
    stands = tree_stands s r workers run worker k x at entry (Done was_done.group) known ∙ ap (λ g. Some (Done g)) group_is

    made_by : EntryMaker s r workers run entry (Done c.place.group)
    made_by = entry_maker s r workers run entry (Done c.place.group) stands

    of : (entry_from : length made_by.step.before.tree.known ≤ made_by.made.number) × IsEntryOf s made_by.step made_by.made.number made_by.made.entry
    of = all_among (λ (z : charge.TreeMade). (length made_by.step.before.tree.known ≤ z.number) × IsEntryOf s made_by.step z.number z.entry) made_by.step.work.tree made_by.made
        (run.steps.each made_by.worker made_by.k made_by.step made_by.at).did.tree.each made_by.among

    cited : is_done_by entry made_by.step.answered.reply ≡ true
    cited = let ended : IsEnded s made_by.step c.place.group made_by.made.number = subst (IsEntryOf s made_by.step made_by.made.number) made_by.entry of.1 in subst (λ i. is_done_by i made_by.step.answered.reply ≡ true) made_by.number ended.answer

    -- the worker's earlier commands didn't make it
    not_before : made_by.worker ≡ worker → made_by.k < k → ⊥
    not_before same lt =
        let y = made_by.step in
        let at_y : slice_get (steps_of workers worker) made_by.k ≡ Some y = subst (λ w. slice_get (steps_of workers w) made_by.k ≡ Some y) same made_by.at in
        let long = knows_done s y entry y.answered.reply cited (run.steps.each worker made_by.k y at_y).did.cause in
        let there = slice_begins y.after.tree.known r.tree.items entry (Done c.place.group) (run.steps.shown worker made_by.k y at_y).tree long stands in
        d.undone entry (begins_slice y.after.tree.known x.before.tree.known entry (Done c.place.group) (grows s r workers run worker made_by.k k y x lt at_y at).tree there)

    -- nor did its later ones
    not_after : made_by.worker ≡ worker → k < made_by.k → ⊥
    not_after same lt =
        let y = made_by.step in
        let at_y : slice_get (steps_of workers worker) made_by.k ≡ Some y = subst (λ w. slice_get (steps_of workers w) made_by.k ≡ Some y) same made_by.at in
        let g = (grows s r workers run worker k made_by.k x y lt at at_y).tree in
        let from = of.0 in let number = made_by.number in
        omega (arith, within, from, number, ap (λ l. length l) g.1, length-append x.after.tree.known g.0)

    -- nor did this one
    not_now : made_by.worker ≡ worker → made_by.k ≡ k → ⊥
    not_now w e =
        let same : made_by.step ≡ x = same_step workers made_by.worker made_by.k worker k made_by.step x made_by.at at w e in
        let is : is_done_by entry (reply.AlreadyDone entry) ≡ true = subst (λ (z : Reply). is_done_by entry z ≡ true) (ap (λ (z : Step). z.answered.reply) same ∙ answer) cited in
        let no : false ≡ true = is in absurd (cc)

    elsewhere : IsDoneElsewhere r worker entry
    elsewhere = record {
      by = serial_of made_by.worker made_by.k;
      apart = λ same. ⊎_elim (λ lt. not_before same lt) (λ le. dite (ℕ_discrete made_by.k k) (λ e. not_now same e) (λ ne. not_after same (omega (arith, le, ne)))) (cases_lt made_by.k k);
      cited = subst (λ o. IsSomeAnd o (λ z. is_done_by entry z ≡ true)) (sym (reply_is s r workers run made_by.worker made_by.k made_by.step made_by.at)) cited;
    }

  pub handed : AllByRecursion (λ (c : Carry). (entry : ℕ) → reply_at r c.by ≡ Some (reply.AlreadyDone entry) → IsDoneElsewhere r c.by.worker entry) (all_carries r)
  handed = by_slices (λ (c : Carry). (entry : ℕ) → reply_at r c.by ≡ Some (reply.AlreadyDone entry) → IsDoneElsewhere r c.by.worker entry) (all_carries r) (λ j c e entry answer.
      let of = has_step (λ (x : Step). x.work.carries) workers c (subst (λ l. IsAmong c l) (all_carries_are s r workers run) (j, some_at (all_carries r) j c e)) in
      let is = run.steps.each of.worker of.k of.step of.at in
      let d = all_among (DidCarry s of.step) of.step.work.carries c is.did.moves.carries of.has in
      let by : c.by ≡ serial_of of.worker of.k = d.by ∙ is.by in
      let replied : of.step.answered.reply ≡ reply.AlreadyDone entry = same_Some of.step.answered.reply (reply.AlreadyDone entry) (sym (ap (reply_at r) by ∙ reply_is s r workers run of.worker of.k of.step of.at) ∙ answer) in
      subst (λ (b : Serial). IsDoneElsewhere r b.worker entry) (sym by) (elsewhere of.worker of.k of.step of.at c d entry replied))
