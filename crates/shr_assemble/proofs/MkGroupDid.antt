-- SPDX-License-Identifier: GPL-2.0-only
-- What a mkgroup did.
use Rattle.shr_assemble.proofs.Common.{◌≡◌, ℕ, ◌≤◌, Bool, not, ◌||◌, inr, false, true, List, [], ◌∷◌, length, length-append, Option, refl, sym, ap, subst, ◌∙◌, arith, Some, None, All, All-nil, All-from_recursion, none-some, same_Some, TreeEntry, Serial, Answered, Reply, Command, Family, Hierarchy, parent_of, is_later, begin_of, is_made, hierarchy_of, shape_of, gave, IsNamed, TreeView, Shared, WorkerState, unfound, parents_of, cited_by, pool_told, pool_made, made_shown, IsReply, Step, IsCausedBy, IsEntryOf, KnowsUnmade, MeetsGroups, MakeTells, MakeLeaves, KnowsTree, made_new, make_reply, made_of, TreeMade, LoadedState}
use Rattle.std.specs.Option.{is_some}
use Rattle.shr_base.specs.declared.journals.TreeEntry.TheVariants.{Made as MadeEntry}
use Rattle.shr_base.specs.declared.replies.Reply.TheVariants as reply
use Rattle.shr_base.specs.declared.scripts.Command.TheVariants as command
use Rattle.shr_charge.specs.declared.answers.MakeAnswer.{MakeAnswer}
use Rattle.shr_charge.specs.declared.answers.MakeAnswer.TheVariants as make
use Rattle.shr_worker.specs.Commands as worker
use Rattle.shr_assemble.proofs.QuietTenant.{brings_of, without, no_entries, unfound_lookups}
use Rattle.shr_assemble.proofs.QuietSteps.{step_of, HasDid, still_charges, still_pool, IsToldOnce, meets_none, quiet_did, AreTables, tree_is, hierarchy_is, known_meets}
use Rattle.shr_assemble.proofs.OfflineDid.{IsHandless, giving, does_give, unmade_before, unmade_late}

-- a group that has a Made is made
made_among : (h : Hierarchy) (es : List TreeEntry) (group n : ℕ) → made_of es group ≡ Some n → is_made h es group ≡ true
made_among h es group n at = ap {B = Bool} (λ (m : Option ℕ). not (is_later h.later group) || is_some m) at ∙ (elim (not (is_later h.later group)) as (λ (b : Bool). (b || true) ≡ true) [ true ↦ refl | false ↦ refl ])

module _ (x : Shared) (tables : AreTables x) (by : Serial) (group : ℕ) (s t : WorkerState) (home : IsHandless s.tree) (knows : KnowsTree (hierarchy_of (shape_of x.core)) s.tree t.tree) (rest : t ≡ record s { tree = t.tree }) where
  abbrev asked : Command
  asked = command.MkGroup group

  abbrev hierarchy : Hierarchy
  hierarchy = hierarchy_of (shape_of x.core)

  abbrev making : Reply → List TreeMade → Step
  making r made = step_of by asked (without r) s t (giving made)

  -- the room was given back, with these entries more
  gave_did : (r : Reply) (made : List TreeMade) → t.tree ≡ gave s.tree made t.tree.known → ((family : Family) → IsReply (parents_of x.script) family by asked None r) → cited_by r ≡ None → pool_told r ≡ [] → pool_made r ≡ []
      → All (λ (m : TreeMade). (length s.tree.known ≤ m.number) × IsEntryOf x.script (making r made) m.number m.entry) made → MeetsGroups x.script (making r made) → IsCausedBy x.script (making r made) r → HasDid x.script by asked (without r) s t
  gave_did r made gives row uncited untold unmade each meets cause =
      let z : Step = making r made in
      let does = does_give s t made home gives knows.grows rest in
      quiet_did (giving made) tt (record { walks = refl; seen = refl; maps = refl; cleared = refl; takes = refl; gives = refl; carries = refl })
      (brings_of does) (no_entries x.script z refl refl row uncited) (unfound_lookups x.script z refl refl)
      (still_charges x.script z (record { ops = refl; charges = refl; uncharges = refl; freed = λ g. refl; added = λ g. refl; charged = λ g. refl }))
      (still_pool x.script z does.core.pool (record { turns = refl; made = unmade }) (subst (IsToldOnce z) (sym untold) tt))
      (record { each = each; online = λ g asks above. absurd (none-some g asks); meets = meets }) cause

  -- no entry was made
  looked_did : (r : Reply) → t.tree ≡ gave s.tree [] t.tree.known → ((family : Family) → IsReply (parents_of x.script) family by asked None r) → cited_by r ≡ None → pool_told r ≡ [] → pool_made r ≡ []
      → MeetsGroups x.script (making r []) → IsCausedBy x.script (making r []) r → HasDid x.script by asked (without r) s t
  looked_did r gives row uncited untold unmade meets cause = gave_did r [] gives row uncited untold unmade (All-nil (λ (m : TreeMade). (length s.tree.known ≤ m.number) × IsEntryOf x.script (making r []) m.number m.entry)) meets cause

  -- the parent is that of the script
  parent_is : parent_of hierarchy.parents group ≡ parent_of (parents_of x.script) group
  parent_is = ap (λ (ps : List ℕ). parent_of ps group) (tree_is x tables.shared)

  -- the group is known to be made by this entry
  met : (r : Reply) (made : List TreeMade) (n : ℕ) → made_of t.tree.known group ≡ Some n → ((g : ℕ) → made_shown asked r ≡ Some g → group ≡ g) → ((g : ℕ) → r ≡ reply.NotMade g → ⊥) → MeetsGroups x.script (making r made)
  met r made n at own apart = known_meets x tables.shared (making r made) group (made_among hierarchy t.tree.known group n at) own apart

  by_answer : (answer : MakeAnswer) → MakeTells hierarchy group answer s.tree t.tree.known → MakeLeaves group answer s.tree t.tree → HasDid x.script by asked (unfound (make_reply answer)) s t
  by_answer (make.AlreadyMade entry) tells leaves = looked_did (reply.AlreadyMade entry) leaves (λ family. tt) refl refl refl
      (met (reply.AlreadyMade entry) [] entry tells (λ g e. same_Some group g e) (λ g e. absurd (cc)))
      (record { group = group; named = refl; made = tells })
  by_answer (make.NotMade g) tells leaves = looked_did (reply.NotMade g) leaves (λ family. tt) refl refl refl
      (record {
        unmade = λ n e. let named : g ≡ n = cc in subst (λ (q : Hierarchy). KnowsUnmade q s.tree n) (hierarchy_is x tables.shared)
            (unmade_before hierarchy n s.tree t.tree.known (subst (λ m. is_made hierarchy t.tree.known m ≡ false) named tells.not_made) knows.grows (subst (λ (l : List LoadedState). All (IsNamed hierarchy t.tree.known) l) (ap (λ (y : TreeView). y.loaded) leaves) knows.seen.loaded));
        met = λ n e. absurd (none-some n e);
      })
      (record { met = ap Some (sym (tells.parent ∙ parent_is)); late = subst (λ (q : Hierarchy). is_later q.later g ≡ true) (hierarchy_is x tables.shared) (unmade_late hierarchy t.tree.known g tells.not_made) })
  by_answer (make.Offline entry) tells leaves = looked_did (reply.Offline entry) leaves (λ family. tt) refl refl refl
      (meets_none x.script (making (reply.Offline entry) []) (λ g e. absurd (cc)) (λ g e. none-some g e))
      (record { group = parent_of (parents_of x.script) group; met = refl; told = inr (subst (λ p. begin_of t.tree.known p ≡ Some entry) parent_is tells.begun) })
  by_answer make.Memory tells leaves = looked_did reply.Memory leaves (λ family. tt) refl refl refl (meets_none x.script (making reply.Memory []) (λ g e. absurd (cc)) (λ g e. none-some g e)) tt
  by_answer (make.Made entry) tells leaves =
      let mark : TreeMade = record { number = entry; entry = MadeEntry group } in
      let r : Reply = reply.Made entry in
      let number = tells.gains.number_is in
      let longer = tells.seen.known in
      let now : made_of t.tree.known group ≡ Some entry = ap (λ (l : List TreeEntry). made_of l group) tells.gains.whole ∙ (made_new tells.before group tells.may.once ∙ ap Some (sym number)) in
      gave_did r (mark ∷ []) leaves (λ family. tt) refl refl refl
      (All-from_recursion (λ (m : TreeMade). (length s.tree.known ≤ m.number) × IsEntryOf x.script (making r (mark ∷ [])) m.number m.entry) (mark ∷ [])
      ((omega (arith, number, ap (λ (l : List TreeEntry). length l) longer.1, length-append s.tree.known longer.0), record { command = refl; answer = refl }), tt))
      (met r (mark ∷ []) entry now (λ g e. same_Some group g e) (λ g e. absurd (cc)))
      (record { group = group; named = refl; made = (0, refl); known = omega (arith, number, ap (λ (l : List TreeEntry). length l) tells.gains.whole, length-append tells.before (MadeEntry group ∷ [])) })

-- a mkgroup
pub mkgroup_did : (x : Shared) (tables : AreTables x) (by : Serial) (group : ℕ) (s t : WorkerState) → IsHandless s.tree → (a : Answered) → worker.MakesGroup x group a s t → HasDid x.script by (command.MkGroup group) a s t
mkgroup_did x tables by group s t home a h = subst (λ (b : Answered). HasDid x.script by (command.MkGroup group) b s t) (sym h.told) (by_answer x tables by group s t home h.knows h.rest h.answer h.tells h.leaves)
