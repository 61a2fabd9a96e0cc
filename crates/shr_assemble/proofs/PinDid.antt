-- SPDX-License-Identifier: GPL-2.0-only
-- What a set_pin did.
use Rattle.shr_assemble.proofs.Common.{◌≡◌, ℕ, ◌<◌, Bool, true, false, List, length, refl, ap, arith, Option, Some, None, Object, Serial, Target, At, Entry, Pin, Answered, Found, Reply, Spent, Command, On, SetPin, is_named, holds, pinned_object, length_change_first, View, shape_of, Listed, IsObjectWithin, content_of, Shared, WorkerState, parents_of, is_past_group, same_Some, none-some, pin_entry}
use Rattle.shr_base.specs.declared.replies.Reply.TheVariants as reply
use Rattle.shr_base.specs.declared.replies.Spent.TheVariants as spent
use Rattle.shr_node.specs.declared.answers.NodeAnswer.{NodeAnswer}
use Rattle.shr_node.specs.declared.answers.NodeAnswer.TheVariants as answers
use Rattle.shr_node.specs.Answers as lists
use Rattle.shr_cache.specs.Opening.{OnCache}
use Rattle.shr_cache.specs.Pins.{SetPinGives}
use Rattle.shr_cache.specs.Replies.{answer_reply, pin_says}
use Rattle.shr_assemble.proofs.QuietSteps.{HasDid, some_met, AreTables}
use Rattle.shr_assemble.proofs.QuietTenant.{IsTenant, group_in, asked_did, acted_did, stood_did, cites_is, full_did}

module _ (x : Shared) (tables : AreTables x) (by : Serial) (to : Target) (key : List ℕ) (pinned : Bool) (within : IsObjectWithin (content_of x.script) to key) where
  abbrev command : Command
  command = On to key (SetPin pinned)

  tenant : IsTenant x.script by command to.group to.decl
  tenant = assumption (same_Some to.group, (λ (r : Reply). some_met (is_past_group r) to.group), none-some {A = ℕ})

  -- what a set_pin asks of its list, and the entry that it makes there
  abbrev pinning : Found → NodeAnswer Bool → View → View → Type 0
  pinning f answer v w = lists.PinGives (shape_of x.core) v f.id to.node by to.group key pinned answer w

  abbrev pins_so : Listed → Entry
  pins_so old = pin_entry old by to.group key pinned

  there : to.group < length (parents_of x.script)
  there = group_in x to.group within.in_group

  module _ (f : Found) (s t : WorkerState) where
    abbrev Pins : NodeAnswer Bool → Type 0
    Pins a = OnCache x to.group to.decl f (pinning f a) s t

    done : (c : At) → Pins (answers.Told c true) → HasDid x.script by command (record { reply = reply.Done c; found = Some f }) s t
    done c o =
        let a = o.calls.made in
        let call : View → View → Type 0 = pinning f (answers.Told c true) in
        let so : List Object → Type 0 = λ items. holds to.group key items ≡ true in
        acted_did x tables by command to.group to.node to.decl tenant f call (reply.Done c) s t o to.group c so pins_so a within.on_node there refl (λ told. told)
        (λ family stands. cites_is x tables by command to.group to.node to.decl tenant f call (reply.Done c) s t o to.group c so pins_so a within.on_node there family (Pin by to.group key pinned true) stands (ap (Pin by to.group key pinned) a.before))
        refl (λ e. cc) (λ g. refl) (λ g. refl) refl refl tt

    miss : (c : At) → Pins (answers.Told c false) → HasDid x.script by command (record { reply = reply.Miss c; found = Some f }) s t
    miss c o =
        let a = o.calls.made in
        let call : View → View → Type 0 = pinning f (answers.Told c false) in
        let so : List Object → Type 0 = λ items. holds to.group key items ≡ false in
        acted_did x tables by command to.group to.node to.decl tenant f call (reply.Miss c) s t o to.group c so pins_so a within.on_node there refl (λ told. told)
        (λ family stands. cites_is x tables by command to.group to.node to.decl tenant f call (reply.Miss c) s t o to.group c so pins_so a within.on_node there family (Pin by to.group key pinned false) stands (ap (Pin by to.group key pinned) a.before))
        refl (λ e. cc) (λ g. refl) (λ g. refl) refl refl tt

    worn : (w : Spent) → Pins (answers.Worn w) → HasDid x.script by command (record { reply = reply.Worn w; found = Some f }) s t
    worn (spent.Lookups id seen) o = absurd o.calls.made
    worn (spent.Charges charges uncharges) o = absurd o.calls.made
    worn (spent.List place entries items) o = let a = o.calls.made in
        full_did x tables by command to.group to.node to.decl tenant f (pinning f (answers.Worn (spent.List place entries items))) entries items place s t o pins_so a within.on_node there (λ family. tt) (let n = a.full.worn.items_then in let same = length_change_first (is_named to.group key) (pinned_object pinned) a.old.items in omega (arith, n, same))

    lacking : Pins answers.Memory → HasDid x.script by command (record { reply = reply.Memory; found = Some f }) s t
    lacking o = stood_did x tables by command to.group to.node to.decl tenant f (pinning f answers.Memory) reply.Memory s t o o.calls.made.free.gains (λ family. tt) refl refl refl tt

    each : (a : NodeAnswer Bool) → Pins a → HasDid x.script by command (record { reply = answer_reply pin_says a; found = Some f }) s t
    each (answers.Told c true) o = done c o
    each (answers.Told c false) o = miss c o
    each (answers.Worn w) o = worn w o
    each answers.Memory o = lacking o

  pub pin_did : (a : Answered) (s t : WorkerState) → SetPinGives x by to.group to.node to.decl key pinned a s t → HasDid x.script by command a s t
  pin_did a s t h = asked_did x tables by command to.group to.decl tenant pin_says (λ id v answer w. lists.PinGives (shape_of x.core) v id to.node by to.group key pinned answer w) a.found a.reply s t (λ f b o. each f s t b o) h
