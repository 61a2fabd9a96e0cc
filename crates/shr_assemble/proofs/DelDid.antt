-- SPDX-License-Identifier: GPL-2.0-only
-- What a del did.
use Rattle.shr_assemble.proofs.Common.{◌≡◌, ℕ, ◌+◌, ◌<◌, inl, inr, Bool, true, false, cond, ◌==◌, List, [], ◌∷◌, length, refl, sym, ap, subst, ◌∙◌, arith, Option, Some, None, bytes_eq, same_Some, none-some, and_parts, eqb-true, append-nil, sum_by-cons, DropKind, born_below, path_of, drop_kind_of, dropped_of, Made, Turns, spent_by, Uses, within_of_valid, does_then, is_past_group, added_below, made_freed_below, Step, Object, Serial, Target, At, Entry, Drop, Answered, Found, Reply, Spent, Command, On, Del, is_named, named_in, View, shape_of, Listed, IsObjectWithin, content_of, Shared, WorkerState, Work, no_work, then_work, Does, parents_of, length_after_drop, drop_entry, DropGives, not_spent}
use Rattle.shr_base.specs.declared.journals.DropKind.TheVariants as kind
use Rattle.shr_charge.specs.declared.answers.GroupState.TheVariants as state
use Rattle.shr_base.specs.declared.replies.Reply.TheVariants as reply
use Rattle.shr_base.specs.declared.replies.Spent.TheVariants as spent
use Rattle.shr_node.specs.declared.answers.NodeAnswer.{NodeAnswer}
use Rattle.shr_node.specs.declared.answers.NodeAnswer.TheVariants as answers
use Rattle.shr_cache.specs.Opening.{MayCharge, OnCache, RefusedAs, Uncharges}
use Rattle.shr_cache.specs.Dels.{Drops, DroppedAs, DelGives}
use Rattle.shr_cache.specs.Replies.{UnchargesIf, answer_reply, drop_says, has_dropped}
use Rattle.shr_assemble.proofs.QuietTenant.{brings_of, IsTenant, group_in, refused_did, acted_did, stood_did, cites_is, cited_is, place_same, entry, bits, without, one_entry, is_told, found_lookups, own_online, own_met, full_did}
use Rattle.shr_assemble.proofs.QuietSteps.{step_of, HasDid, still_pool, still_tree, some_met, meets_none, quiet_did, AreTables, tree_is, on_list, on_list_does, on_list_online, found_entry, found_by}
use Rattle.shr_assemble.proofs.QuietCharges.{nothing_did, charges_worn, uncharging, does_uncharge, uncharged_charges}

-- the object that a drop names, where it takes it out
pub record IsTakenOut (birth : ℕ) (o : Option Object) : Type 0 where
  pub object : Object
  pub alone : dropped_of o ≡ object ∷ []
  pub born : object.birth ≡ birth

named_birth : (birth : ℕ) (key : List ℕ) (items : List Object) (y : Object) → named_in birth key items ≡ Some y → y.birth ≡ birth
named_birth birth key [] y e = absurd (none-some y e)
named_birth birth key (z ∷ items) y e = by_test (is_named birth key z) refl e (named_birth birth key items y) where
  by_test : (b : Bool) → is_named birth key z ≡ b → cond b (Some z) (named_in birth key items) ≡ Some y → (named_in birth key items ≡ Some y → y.birth ≡ birth) → y.birth ≡ birth
  by_test true t h more = ap (λ (o : Object). o.birth) (sym (same_Some z y h)) ∙ eqb-true z.birth birth (and_parts (z.birth == birth) (bytes_eq z.key key) t).0
  by_test false t h more = more h

taken_out : (birth : ℕ) (o : Option Object) → ((y : Object) → o ≡ Some y → y.birth ≡ birth) → drop_kind_of o ≡ kind.Dropped → IsTakenOut birth o
taken_out birth None born e = absurd (cc)
taken_out birth (Some y) born e = let t = (elim y.pinned as (λ (b : Bool). cond b kind.Pinned kind.Dropped ≡ kind.Dropped → (object : Object) × (cond b [] (y ∷ []) ≡ object ∷ []) × (object.birth ≡ birth)) [ true ↦ λ h. absurd (cc) | false ↦ λ h. (y, refl, born y refl) ]) e in record { object = t.0; alone = t.1; born = t.2 }

-- an object that stays is not taken out
stays : (o : Option Object) (k : DropKind) → drop_kind_of o ≡ k → (k ≡ kind.Dropped → ⊥) → dropped_of o ≡ []
stays None k e apart = refl
stays (Some y) k e apart = (elim y.pinned as (λ (b : Bool). cond b kind.Pinned kind.Dropped ≡ k → cond b [] (y ∷ []) ≡ []) [ true ↦ λ h. refl | false ↦ λ h. absurd (apart (sym h)) ]) e

module _ (x : Shared) (tables : AreTables x) (by : Serial) (to : Target) (key : List ℕ) (within : IsObjectWithin (content_of x.script) to key) where
  abbrev command : Command
  command = On to key Del

  tenant : IsTenant x.script by command to.group to.decl
  tenant = assumption (same_Some to.group, (λ (r : Reply). some_met (is_past_group r) to.group), none-some {A = ℕ})

  abbrev drops : Found → NodeAnswer DropKind → View → View → Type 0
  drops f answer v w = DropGives (shape_of x.core) v f.id to.node by to.group key answer w

  abbrev dropping : Listed → Entry
  dropping old = drop_entry old by to.group key

  abbrev IsKind : DropKind → List Object → Type 0
  IsKind k items = drop_kind_of (named_in to.group key items) ≡ k

  there : to.group < length (parents_of x.script)
  there = group_in x to.group within.in_group

  module _ (f : Found) (s t : WorkerState) where
    abbrev Asks : NodeAnswer DropKind → WorkerState → Type 0
    Asks a u = OnCache x to.group to.decl f (drops f a) s u

    pinned : (c : At) → Asks (answers.Told c kind.Pinned) t → HasDid x.script by command (record { reply = reply.Pinned c; found = Some f }) s t
    pinned c o =
        let a = o.calls.made in
        let call : View → View → Type 0 = drops f (answers.Told c kind.Pinned) in
        acted_did x tables by command to.group to.node to.decl tenant f call (reply.Pinned c) s t o to.group c (IsKind kind.Pinned) dropping a within.on_node there refl (λ told. told)
        (λ family stands. cites_is x tables by command to.group to.node to.decl tenant f call (reply.Pinned c) s t o to.group c (IsKind kind.Pinned) dropping a within.on_node there family (Drop by to.group key kind.Pinned) stands (ap (Drop by to.group key) a.before))
        refl (λ e. cc) (λ g. ap (born_below (parents_of x.script) g) (stays (named_in to.group key a.old.items) kind.Pinned a.before (λ e. cc))) (λ g. refl) refl refl tt

    miss : (c : At) → Asks (answers.Told c kind.Miss) t → HasDid x.script by command (record { reply = reply.Miss c; found = Some f }) s t
    miss c o =
        let a = o.calls.made in
        let call : View → View → Type 0 = drops f (answers.Told c kind.Miss) in
        acted_did x tables by command to.group to.node to.decl tenant f call (reply.Miss c) s t o to.group c (IsKind kind.Miss) dropping a within.on_node there refl (λ told. told)
        (λ family stands. cites_is x tables by command to.group to.node to.decl tenant f call (reply.Miss c) s t o to.group c (IsKind kind.Miss) dropping a within.on_node there family (Drop by to.group key kind.Miss) stands (ap (Drop by to.group key) a.before))
        refl (λ e. cc) (λ g. ap (born_below (parents_of x.script) g) (stays (named_in to.group key a.old.items) kind.Miss a.before (λ e. cc))) (λ g. refl) refl refl tt

    worn : (w : Spent) → Asks (answers.Worn w) t → HasDid x.script by command (record { reply = reply.Worn w; found = Some f }) s t
    worn (spent.Lookups id seen) o = absurd o.calls.made
    worn (spent.Charges charges uncharges) o = absurd o.calls.made
    worn (spent.List place entries items) o = let a = o.calls.made in
        full_did x tables by command to.group to.node to.decl tenant f (drops f (answers.Worn (spent.List place entries items))) entries items place s t o dropping a within.on_node there (λ family. tt) (let n = a.full.worn.items_then in let same = length_after_drop to.group key a.old.items in omega (arith, n, same))

    lacking : Asks answers.Memory t → HasDid x.script by command (record { reply = reply.Memory; found = Some f }) s t
    lacking o = stood_did x tables by command to.group to.node to.decl tenant f (drops f answers.Memory) reply.Memory s t o o.calls.made.free.gains (λ family. tt) refl refl refl tt

    dropped : (c : At) (after : WorkerState) → MayCharge s → Asks (answers.Told c kind.Dropped) after → Uncharges x by to.group after t → HasDid x.script by command (record { reply = reply.Dropped c; found = Some f }) s t
    dropped c after charges o back =
        let a = o.calls.made in
        let call : View → View → Type 0 = drops f (answers.Told c kind.Dropped) in
        let r : Reply = reply.Dropped c in
        let so : List Object → Type 0 = IsKind kind.Dropped in
        let ps : List ℕ = parents_of x.script in
        let m : Made = entry x tables by command to.group to.node to.decl tenant f call r s after o to.group c so dropping a within.on_node there in
        let set : List ℕ = bits x tables by command to.group to.node to.decl tenant f call r s after o to.group c so dropping a within.on_node there in
        let first : Work = on_list to.group to.decl f o.holds.answers.gains.words (m ∷ []) set in
        let work : Work = then_work first (uncharging back.ops) in
        let z : Step = step_of by command (record { reply = r; found = Some f }) s t work in
        let does_first : Does s after first = on_list_does x to.group to.decl f call s after o (m ∷ []) set a.gains in
        let same : after.uses.uncharges ≡ s.uses.uncharges + 0 = ap (λ (u : Uses). u.uncharges) does_first.uses in
        let few = not_spent s.uses charges in
        let does : Does s t work = does_then s after t first (uncharging back.ops) does_first (does_uncharge x by to.group after t back (omega (arith, few, same))) in
        let out : IsTakenOut to.group (named_in to.group key a.old.items) = taken_out to.group (named_in to.group key a.old.items) (λ y e. named_birth to.group key a.old.items y e) a.before in
        let pool_same : t.core.turns ≡ after.core.turns = ap (λ (u : WorkerState). u.core.turns) back.rest in
        let tree = (within_of_valid (content_of x.script) tables.shared.script).tree in
        let born = out.born in
        quiet_did work tt (record { walks = refl; seen = refl; maps = refl; cleared = refl; takes = refl; gives = refl; carries = refl })
        (brings_of does)
        (one_entry x.script z m c refl (append-nil set) (is_told z m c (place_same x tables by command to.group to.node to.decl tenant f call r s after o to.group c so dropping a within.on_node there) (sym a.number) refl)
        (λ family stands. cites_is x tables by command to.group to.node to.decl tenant f call r s after o to.group c so dropping a within.on_node there family (Drop by to.group key kind.Dropped) stands (ap (Drop by to.group key) a.before))
        refl (cited_is x tables by command to.group to.node to.decl tenant f call r s after o to.group c so dropping a within.on_node there z refl (ap (λ (u : WorkerState). u.core.traces.known) back.rest) refl (0, refl) (λ added below empty. absurd (cc))))
        (found_lookups x.script z to.decl f refl refl refl (found_by x to.group to.decl f call s after o (m ∷ []) set a.gains z pool_same (0, refl)))
        (uncharged_charges x.script z (out.object ∷ []) tree (record {
          born = (omega (arith, born, there), tt);
          downs = record { at = back.downs.at ∙ (ap (λ (l : List ℕ). path_of l to.group) (tree_is x tables.shared) ∙ (ap (path_of ps) (sym out.born) ∙ sym (append-nil (path_of ps out.object.birth)))); each = back.downs.each };
          charges = refl;
          uncharges = refl;
          freed = λ g. omega (arith, sum_by-cons (made_freed_below ps g) m [], ap (born_below ps g) out.alone);
          added = λ g. omega (arith, sum_by-cons (λ (y : Made). added_below ps g y.entry) m []);
          charged = λ g. refl;
        }))
        (still_pool x.script z does.core.pool (record { turns = refl; made = refl }) (found_entry x to.group to.decl f call s after o (m ∷ []) set a.gains ∙ ap (λ (y : Turns). length y.known) (sym pool_same)))
        (still_tree x.script z refl (λ g asked above. inr (own_online x tables by command to.group to.decl tenant s.tree (on_list_online x to.group to.decl f call s after o (m ∷ []) set a.gains) g asked)) (own_met x tables by command to.group to.decl tenant z state.Online refl refl (0, refl) (λ g e. absurd (cc))))
        tt

    -- where nothing is uncharged
    still : (a : NodeAnswer DropKind) (after : WorkerState) → t ≡ after → Asks a after → Asks a t
    still a after rest o = subst (λ (u : WorkerState). Asks a u) (sym rest) o

    each : (a : NodeAnswer DropKind) (after : WorkerState) → MayCharge s → Asks a after → UnchargesIf x by to.group (has_dropped (answer_reply drop_says a)) after t → HasDid x.script by command (record { reply = answer_reply drop_says a; found = Some f }) s t
    each (answers.Told c kind.Dropped) after charges o back = dropped c after charges o back
    each (answers.Told c kind.Pinned) after charges o rest = pinned c (still (answers.Told c kind.Pinned) after rest o)
    each (answers.Told c kind.Miss) after charges o rest = miss c (still (answers.Told c kind.Miss) after rest o)
    each (answers.Worn w) after charges o rest = worn w (still (answers.Worn w) after rest o)
    each answers.Memory after charges o rest = lacking (still answers.Memory after rest o)

    from : (r : Reply) → Drops x by to.group to.node to.decl key (Some f) r s t → HasDid x.script by command (record { reply = r; found = Some f }) s t
    from r h = subst (λ (y : Reply). UnchargesIf x by to.group (has_dropped y) h.after t → HasDid x.script by command (record { reply = y; found = Some f }) s t) (sym h.asked.told) (each h.asked.answer h.after h.charges h.asked.did) h.uncharged

  -- a command that was refused drops nothing
  refused : (r : Reply) (s after t : WorkerState) → RefusedAs x to.group to.decl r s after → UnchargesIf x by to.group (has_dropped r) after t → RefusedAs x to.group to.decl r s t
  refused (reply.Dropped c) s after t h back = absurd h
  refused r s after t h rest = subst (λ (u : WorkerState). RefusedAs x to.group to.decl r s u) (sym rest) h

  as_found : (found : Option Found) (r : Reply) (s t : WorkerState) → DroppedAs x by to.group to.node to.decl key found r s t → HasDid x.script by command (record { reply = r; found = found }) s t
  as_found None (reply.Worn (spent.Charges charges uncharges)) s t h = nothing_did x.script by command (reply.Worn (spent.Charges charges uncharges)) s t h.rest tt (λ family. tt) refl (λ g. refl) refl refl (λ g asked above. inl tt)
      (meets_none x.script (step_of by command (without (reply.Worn (spent.Charges charges uncharges))) s t no_work) (λ g e. absurd (cc)) (λ g e. none-some g e))
      (charges_worn (step_of by command (without (reply.Worn (spent.Charges charges uncharges))) s t no_work) charges uncharges (ap (λ (u : WorkerState). spent_by u.uses) h.rest ∙ h.numbers))
  as_found None reply.Memory s t h = nothing_did x.script by command reply.Memory s t h.rest tt (λ family. tt) refl (λ g. refl) refl refl (λ g asked above. inl tt) (meets_none x.script (step_of by command (without reply.Memory) s t no_work) (λ g e. absurd (cc)) (λ g e. none-some g e)) tt
  as_found None r s t h = refused_did x tables by command to.group to.decl tenant r s t (refused r s h.after t h.asked h.uncharged)
  as_found (Some f) r s t h = from f s t r h

  pub del_did : (a : Answered) (s t : WorkerState) → DelGives x by to.group to.node to.decl key a s t → HasDid x.script by command a s t
  del_did a s t h = as_found a.found a.reply s t h
