-- SPDX-License-Identifier: GPL-2.0-only
use Rattle.shr_charge.proofs.Common.{◌<◌, ℕ, Bool, List, [], ◌∷◌, ◌++◌, length, ap, subst, sym, ◌∙◌, arith, is_some, IsSome, Option, TreeEntry, ChargeSeated, ChargeToken, Done, MayBeDone, begin_of, done_of, hierarchy_of, opens, tree_of}
use Rattle.shr_charge.specs.Answers.{DoneTells, KnowsTree}
use Rattle.shr_charge.specs.declared.answers.DoneAnswer.TheVariants as ended
use Rattle.shr_charge.proofs.Listing.{some_is}
use Rattle.shr_charge.proofs.Entries.{opens_some, opens_done}
use Rattle.shr_charge.proofs.Holding.{still_holds}
use Rattle.shr_charge.proofs.Giving.{given_token, done_token, begun_there, already_knows, done_tells, done_shows}
use Rattle.shr_charge.proofs.table.ChargeSeat.done_offline.Goals as goal

pub returns-in-Some-clause-knows : goal.returns-in-Some-clause-knows
returns-in-Some-clause-knows g c = let new = c.give_tree.new.token in
    subst (λ (v : ChargeSeated). KnowsTree (hierarchy_of v.charge.shape) (tree_of v) new.me.0.tree) c.self.view_is
    (already_knows (hierarchy_of c.self.inside.charge.now.shape) c.self.inside.token.me.0.tree new.me.0.tree c.take_tree-room.result c.args.group c.take_tree-room.ensures.shown c.in-Some.entry
    (ap (λ l. done_of l c.args.group) (sym c.as_slice.ensures) ∙ (sym c.done_in.ensures.done ∙ c.in-Some.is)) (ap (λ (t : ChargeToken). t.me.0.tree) (given_token c.self.inside.token c.done_in.new.token new c.take_tree-room.result.items (still_holds _ _ _ _ c.take_tree-room.ensures.room c.done_in.ensures.same) c.give_tree.ensures.given)))

pub push-requires : goal.push-requires
push-requires g c = let shown = c.take_tree-room.ensures.shown in let spare = shown.spare in let begun = some_is _ (subst (λ (v : ChargeSeated). IsSome (begin_of (tree_of v).known c.args.group)) (sym c.self.view_is) c.requires.begun) in
    let none = ap (λ l. done_of l c.args.group) (sym c.as_slice.ensures) ∙ (sym c.done_in.ensures.done ∙ c.in_default.is) in
    let low = subst (λ (v : ChargeSeated). c.args.group < length v.charge.shape.parents.items) (sym c.self.view_is) c.requires.group in
    let opened = opens_some c.take_tree-room.result.items c.args.group _ low begun.0 (begun_there _ _ _ shown _ _ begun.1) none in omega (arith, spare, opened)

pub give_done-requires-clause-may : goal.give_done-requires-clause-may
give_done-requires-clause-may g c = let has = still_holds _ _ _ _ c.take_tree-room.ensures.room c.done_in.ensures.same in let shown = c.take_tree-room.ensures.shown in let begun = some_is _ (subst (λ (v : ChargeSeated). IsSome (begin_of (tree_of v).known c.args.group)) (sym c.self.view_is) c.requires.begun) in
    let none = ap (λ l. done_of l c.args.group) (sym c.as_slice.ensures) ∙ (sym c.done_in.ensures.done ∙ c.in_default.is) in
    subst (λ (l : List TreeEntry). MayBeDone l c.args.group) (sym (ap (λ (t : ChargeToken). t.me.0.tree.hand) has.now))
    (record { begun = ap {B = Bool} (λ (x : Option ℕ). is_some x) (begun_there _ _ _ shown _ _ begun.1); once = none })

pub give_done-requires-clause-home : goal.give_done-requires-clause-home
give_done-requires-clause-home g c = let has = still_holds _ _ _ _ c.take_tree-room.ensures.room c.done_in.ensures.same in let shown = c.take_tree-room.ensures.shown in let spare = shown.spare in let begun = some_is _ (subst (λ (v : ChargeSeated). IsSome (begin_of (tree_of v).known c.args.group)) (sym c.self.view_is) c.requires.begun) in
    let none = ap (λ l. done_of l c.args.group) (sym c.as_slice.ensures) ∙ (sym c.done_in.ensures.done ∙ c.in_default.is) in
    let low = subst (λ (v : ChargeSeated). c.args.group < length v.charge.shape.parents.items) (sym c.self.view_is) c.requires.group in
    let done = opens_done c.take_tree-room.result.items c.args.group _ low begun.0 (begun_there _ _ _ shown _ _ begun.1) none in
    let hand = ap (λ (t : ChargeToken). t.me.0.tree.hand ++ Done c.args.group ∷ []) has.now in let pushed = c.push.ensures.spare in
    record {
      items = c.push.ensures.items ∙ sym hand;
      spare = let same = ap {B = ℕ} (λ (l : List TreeEntry). opens (length c.self.inside.charge.now.shape.parents.items) l) hand in omega (arith, same, done, spare, pushed);
    }

pub returns-clause-tells : goal.returns-clause-tells
returns-clause-tells g c = let shown = c.take_tree-room.ensures.shown in let begun = some_is _ (subst (λ (v : ChargeSeated). IsSome (begin_of (tree_of v).known c.args.group)) (sym c.self.view_is) c.requires.begun) in
    let none = ap (λ l. done_of l c.args.group) (sym c.as_slice.ensures) ∙ (sym c.done_in.ensures.done ∙ c.in_default.is) in let new = c.give_done.new.token in
    subst (λ (v : ChargeSeated). DoneTells (hierarchy_of v.charge.shape) c.args.group (ended.Done c.len-entry.result) (tree_of v) new.me.0.tree.known) c.self.view_is
    (done_tells (hierarchy_of c.self.inside.charge.now.shape) c.self.inside.token.me.0.tree new.me.0.tree c.take_tree-room.result c.args.group shown c.len-entry.result c.len-entry.ensures
    (record { begun = ap {B = Bool} (λ (x : Option ℕ). is_some x) (begun_there _ _ _ shown _ _ begun.1); once = none }) (ap (λ (t : ChargeToken). t.me.0.tree) (done_token c.self.inside.token c.done_in.new.token new c.take_tree-room.result.items c.args.group (still_holds _ _ _ _ c.take_tree-room.ensures.room c.done_in.ensures.same) c.give_done.ensures.given)))

pub returns-clause-knows : goal.returns-clause-knows
returns-clause-knows g c = let shown = c.take_tree-room.ensures.shown in let begun = some_is _ (subst (λ (v : ChargeSeated). IsSome (begin_of (tree_of v).known c.args.group)) (sym c.self.view_is) c.requires.begun) in
    let none = ap (λ l. done_of l c.args.group) (sym c.as_slice.ensures) ∙ (sym c.done_in.ensures.done ∙ c.in_default.is) in let new = c.give_done.new.token in
    subst (λ (v : ChargeSeated). KnowsTree (hierarchy_of v.charge.shape) (tree_of v) new.me.0.tree) c.self.view_is
    (done_shows (hierarchy_of c.self.inside.charge.now.shape) c.self.inside.token.me.0.tree new.me.0.tree c.take_tree-room.result c.args.group shown c.len-entry.result c.len-entry.ensures
    (record { begun = ap {B = Bool} (λ (x : Option ℕ). is_some x) (begun_there _ _ _ shown _ _ begun.1); once = none }) (ap (λ (t : ChargeToken). t.me.0.tree) (done_token c.self.inside.token c.done_in.new.token new c.take_tree-room.result.items c.args.group (still_holds _ _ _ _ c.take_tree-room.ensures.room c.done_in.ensures.same) c.give_done.ensures.given)))
