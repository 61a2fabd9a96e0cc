-- SPDX-License-Identifier: GPL-2.0-only
use Rattle.shr_list.proofs.Common.{◌≡◌, ◌≢◌, Bool, true, false, Option, Some, None, refl, rules, if◌then◌else◌, Object, named_in, length_after_drop, loose_of}
use Rattle.shr_base.specs.declared.journals.DropKind.TheVariants.{Dropped, Pinned, Miss}
use Rattle.shr_model.specs.Items.{drop_kind_of}
use Rattle.shr_list.specs.Answers.{drop_entry}
use Rattle.shr_list.proofs.Keeping.{kept_taken}
use Rattle.shr_list.proofs.list.List.drop_key.Goals as goal
use Rattle.shr_list.proofs.list.List.drop_key.Goals.{in-Some, in-None, in-None-2}

-- an object that is taken out was there and not pinned
loose_some : (found : Option Object) (o : Object) → loose_of found ≡ Some o → (found ≡ Some o) × (o.pinned ≡ false)
loose_some None o is = absurd (cc)
loose_some (Some p) o is = go p.pinned refl is
  where
    go : (pinned : Bool) → p.pinned ≡ pinned → (if pinned then None else Some p) ≡ Some o → (Some p ≡ Some o) × (o.pinned ≡ false)
    go true was same = absurd (cc)
    go false was same = let e : p ≡ o = cc in (same, rw (← e) was)

-- where none is taken out and none is pinned there is none
none_loose : (found : Option Object) → loose_of found ≡ None → drop_kind_of found ≢ Pinned → drop_kind_of found ≡ Miss
none_loose None is other = refl
none_loose (Some p) is other = go p.pinned is other
  where
    go : (pinned : Bool) → (if pinned then None else Some p) ≡ None → (if pinned then Pinned else Dropped) ≢ Pinned → (if pinned then Pinned else Dropped) ≡ Miss
    go true same other = absurd (other refl)
    go false same other = absurd (cc)

pub returns-then-entry-self : goal.returns-then-entry-self
returns-then-entry-self c =
    let shorter = length_after_drop c.args.birth c.args.key.now c.args.self.now.items in
    search rules

pub returns-in_default : goal.returns-in_default
returns-in_default c =
    let shorter = length_after_drop c.args.birth c.args.key.now c.args.self.now.items in
    search rules

pub returns-then-is_err : goal.returns-then-is_err
returns-then-is_err c =
    let shorter = length_after_drop c.args.birth c.args.key.now c.args.self.now.items in
    search rules

pub invariant_of-self-2 : goal.invariant_of-self-2
invariant_of-self-2 c =
    let shorter = length_after_drop c.args.birth c.args.key.now c.args.self.now.items in
    kept_taken _ _ _ _ (drop_entry c.args.self.now c.args.by c.args.birth c.args.key.now) c.self.invariant (search rules) (search rules) (search rules) (search rules) refl refl

pub returns : goal.returns
returns c =
    let found = named_in c.args.birth c.args.key.now c.args.self.now.items in
    let shorter = length_after_drop c.args.birth c.args.key.now c.args.self.now.items in
    elim c.match-object.branch [
      | in-Some w ↦
          let both = loose_some found w.in-Some.object (search rules) in
          rw w.result-is (search rules)
      | in-None w ↦ rw w.result-is (search rules)
      | in-None-2 w ↦
          let kind : drop_kind_of found ≡ Miss = none_loose found (search rules) (search rules) in
          rw w.result-is (search rules)
    ]
