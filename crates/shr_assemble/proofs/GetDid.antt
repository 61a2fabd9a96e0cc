-- SPDX-License-Identifier: GPL-2.0-only
-- What a get did.
use Rattle.shr_assemble.proofs.Common.{◌≡◌, ℕ, ◌<◌, true, false, List, length, refl, sym, ap, ◌∙◌, arith, Option, Some, None, is_some, option_map, same_Some, none-some, Object, Serial, Target, At, Entry, Look, Answered, Found, Reply, Spent, Command, On, Get, is_named, holds, named_in, marked_object, length_change_first, View, shape_of, Listed, IsObjectWithin, content_of, Shared, WorkerState, parents_of, is_past_group, is_some_find, look_entry, LookGives}
use Rattle.shr_base.specs.declared.replies.Reply.TheVariants as reply
use Rattle.shr_base.specs.declared.replies.Spent.TheVariants as spent
use Rattle.shr_node.specs.declared.answers.NodeAnswer.{NodeAnswer}
use Rattle.shr_node.specs.declared.answers.NodeAnswer.TheVariants as answers
use Rattle.shr_cache.specs.Opening.{OnCache}
use Rattle.shr_cache.specs.Gets.{GetGives}
use Rattle.shr_cache.specs.Replies.{answer_reply, look_says}
use Rattle.shr_assemble.proofs.QuietSteps.{HasDid, some_met, AreTables}
use Rattle.shr_assemble.proofs.QuietTenant.{IsTenant, group_in, asked_did, acted_did, stood_did, cites_is, items_is, full_did}

-- a key is held if it has a value
is_held : (birth : ℕ) (key : List ℕ) (items : List Object) (value : Option (List ℕ)) → option_map (λ (o : Object). o.value) (named_in birth key items) ≡ value → holds birth key items ≡ is_some value
is_held birth key items value h = sym (is_some_find (is_named birth key) items) ∙ (mapped (named_in birth key items) ∙ ap is_some h) where
  mapped : (o : Option Object) → is_some o ≡ is_some (option_map (λ (y : Object). y.value) o)
  mapped None = refl
  mapped (Some y) = refl

module _ (x : Shared) (tables : AreTables x) (by : Serial) (to : Target) (key : List ℕ) (within : IsObjectWithin (content_of x.script) to key) where
  abbrev command : Command
  command = On to key Get

  tenant : IsTenant x.script by command to.group to.decl
  tenant = assumption (same_Some to.group, (λ (r : Reply). some_met (is_past_group r) to.group), none-some {A = ℕ})

  -- what a look asks of its list, and the entry that it makes there
  abbrev looks : Found → NodeAnswer (Option (List ℕ)) → View → View → Type 0
  looks f answer v w = LookGives (shape_of x.core) v f.id to.node by to.group key answer w

  abbrev looked : Listed → Entry
  looked old = look_entry old by to.group key

  there : to.group < length (parents_of x.script)
  there = group_in x to.group within.in_group

  module _ (f : Found) (s t : WorkerState) where
    abbrev LooksUp : NodeAnswer (Option (List ℕ)) → Type 0
    LooksUp a = OnCache x to.group to.decl f (looks f a) s t

    hit : (c : At) (value : List ℕ) → LooksUp (answers.Told c (Some value)) → HasDid x.script by command (record { reply = reply.Hit c value; found = Some f }) s t
    hit c value o =
        let a = o.calls.made in
        let call : View → View → Type 0 = looks f (answers.Told c (Some value)) in
        let so : List Object → Type 0 = λ items. option_map (λ (y : Object). y.value) (named_in to.group key items) ≡ Some value in
        let h : holds to.group key a.old.items ≡ true = is_held to.group key a.old.items (Some value) a.before in
        acted_did x tables by command to.group to.node to.decl tenant f call (reply.Hit c value) s t o to.group c so looked a within.on_node there refl (λ told. told)
        (λ family stands. (
          cites_is x tables by command to.group to.node to.decl tenant f call (reply.Hit c value) s t o to.group c so looked a within.on_node there family (Look by to.group key true) stands (ap (Look by to.group key) h),
          ap (λ items. option_map (λ (y : Object). y.value) (named_in to.group key items)) (items_is x tables by command to.group to.node to.decl tenant f call (reply.Hit c value) s t o to.group c so looked a within.on_node there family stands) ∙ a.before,
        ))
        refl (λ e. cc) (λ g. refl) (λ g. refl) refl refl tt

    miss : (c : At) → LooksUp (answers.Told c None) → HasDid x.script by command (record { reply = reply.Miss c; found = Some f }) s t
    miss c o =
        let a = o.calls.made in
        let call : View → View → Type 0 = looks f (answers.Told c None) in
        let so : List Object → Type 0 = λ items. option_map (λ (y : Object). y.value) (named_in to.group key items) ≡ None in
        acted_did x tables by command to.group to.node to.decl tenant f call (reply.Miss c) s t o to.group c so looked a within.on_node there refl (λ told. told)
        (λ family stands. cites_is x tables by command to.group to.node to.decl tenant f call (reply.Miss c) s t o to.group c so looked a within.on_node there family (Look by to.group key false) stands (ap (Look by to.group key) (is_held to.group key a.old.items None a.before)))
        refl (λ e. cc) (λ g. refl) (λ g. refl) refl refl tt

    worn : (w : Spent) → LooksUp (answers.Worn w) → HasDid x.script by command (record { reply = reply.Worn w; found = Some f }) s t
    worn (spent.Lookups id seen) o = absurd o.calls.made
    worn (spent.Charges charges uncharges) o = absurd o.calls.made
    worn (spent.List place entries items) o = let a = o.calls.made in
        full_did x tables by command to.group to.node to.decl tenant f (looks f (answers.Worn (spent.List place entries items))) entries items place s t o looked a within.on_node there (λ family. tt) (let n = a.full.worn.items_then in let same = length_change_first (is_named to.group key) marked_object a.old.items in omega (arith, n, same))

    lacking : LooksUp answers.Memory → HasDid x.script by command (record { reply = reply.Memory; found = Some f }) s t
    lacking o = stood_did x tables by command to.group to.node to.decl tenant f (looks f answers.Memory) reply.Memory s t o o.calls.made.free.gains (λ family. tt) refl refl refl tt

    each : (a : NodeAnswer (Option (List ℕ))) → LooksUp a → HasDid x.script by command (record { reply = answer_reply look_says a; found = Some f }) s t
    each (answers.Told c (Some value)) o = hit c value o
    each (answers.Told c None) o = miss c o
    each (answers.Worn w) o = worn w o
    each answers.Memory o = lacking o

  pub get_did : (a : Answered) (s t : WorkerState) → GetGives x by to.group to.node to.decl key a s t → HasDid x.script by command a s t
  get_did a s t h = asked_did x tables by command to.group to.decl tenant look_says (λ id v answer w. LookGives (shape_of x.core) v id to.node by to.group key answer w) a.found a.reply s t (λ f b o. each f s t b o) h
