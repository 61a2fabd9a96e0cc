-- SPDX-License-Identifier: GPL-2.0-only
-- What an offline did whose call handed all over, whatever the end of it answered.
use Rattle.shr_assemble.proofs.Common.{◌≡◌, ℕ, ◌<◌, ◌≤◌, List, [], ◌∷◌, ◌++◌, length, map, refl, sym, ap, subst, ◌∙◌, arith, true, inr, ◌*◌, ◌/◌, None, slice_get, Contains, All, sum, sum_by, ◌%◌, ◌^◌, Some, AllByRecursion, range_with_len, All-append, All-from_recursion, Contains-append_left, none-some, PlaceAmount, TreeEntry, Begin, Done, Place, Serial, Reply, Carry, Family, IsTree, given_at, Begins, Shape, View, nothing, groups_in, hierarchy_of, shape_of, gave, TreeView, Moves, both, carry_moves, carries_noted, AreSpliced, IsWithin, content_of, within_of_valid, is_made, is_made_grows, Shared, WorkerState, Work, no_work, then_work, Does, does_none, does_then, parents_of, cited_by, IsThere, MayHaveBegun, HasCarried, pool_told, pool_made, is_past_group, IsReply, Step, IsCausedBy, DidCarry, MayMakeEntry, IsEntryOf, places_offlined, TreeMade, amount_taken, place_by_number, count_of_places, all_places, length-append, take, eq-eqb, All-nil, Hierarchy, KnowsClosed, MayBegin, IsTreeJournal, place_number, group_place, Answered}
use Rattle.shr_assemble.proofs.ScriptGroups.{sized_of}
use Rattle.shr_base.specs.declared.scripts.Command.TheVariants as command
use Rattle.shr_core.specs.Parts as core
use Rattle.shr_charge.specs.declared.answers.DoneAnswer.{DoneAnswer}
use Rattle.shr_offline.specs.Carries as carry
use Rattle.shr_offline.specs.Offlined.{AreClosed, HandsOver}
use Rattle.shr_assemble.proofs.QuietTenant.{brings_of, without, unfound_lookups}
use Rattle.shr_assemble.proofs.QuietSteps.{step_of, HasDid, calm_walks, still_charges, still_pool, IsToldOnce, some_met, AreTables, tree_is, known_meets}
use Rattle.shr_assemble.proofs.QuietSplices.{each_rec, IsSpliceEntry, IsSplicedTo, spliced_all}
use Rattle.shr_assemble.proofs.Filling.{set_filled}
use Rattle.shr_assemble.proofs.QuietCarries.{carried_taken, carried_given, told_handed, takes_are}
use Rattle.shr_assemble.proofs.OfflineDid.{giving, HasBegunTo, spliced_freed, spliced_may, IsHandless}
use Rattle.shr_assemble.proofs.HandedMoved.{moved_by, moved_sum}
use Rattle.shr_assemble.proofs.HandedCarries.{IsCarryAt, AreInRow, in_row, each_in_row, rising, row_of, carried_sum}
use Rattle.shr_base.specs.declared.replies.Reply.TheVariants as reply
use Rattle.shr_charge.specs.declared.answers.DoneAnswer.TheVariants as ended
use Rattle.shr_offline.specs.Offlined as offlined
use Rattle.shr_lawful.proofs.Gathering.{among_right}
use Rattle.shr_lawful.proofs.Listed.{contains_slice}
use Rattle.shr_lawful.proofs.FreshLaw.{begins_length}
use Rattle.shr_worker.specs.Commands as worker
use Rattle.shr_assemble.proofs.OfflineDid as by_end

-- lists were spliced, deferred work was carried, and entries of the journal of the tree were made
abbrev pub handing : List core.Made → List ℕ → Moves → List Carry → List TreeMade → Work
handing made sets moves carries tree = record no_work { core = record nothing { made = made; sets = sets }; tree = tree; gives = 1; moves = moves; carries = carries }

-- all was handed over, with these entries of the journal of the tree
pub record IsHandedTo (x : Shared) (by : Serial) (group moved deferred : ℕ) (made : List TreeMade) (u t : WorkerState) : Type 0 where
  pub spliced : IsSplicedTo (parents_of x.script) group u.core t.core
  pub moved_is : moved ≡ sum_by (moved_by group) spliced.made
  pub closed : AreClosed (shape_of x.core) group t.core
  pub amounts : List PlaceAmount
  pub places : map carry.amount_place amounts ≡ all_places (shape_of x.core) group
  pub moves : t.moves ≡ both u.moves (carry_moves (shape_of x.core) amounts)
  pub carries : t.carries ≡ u.carries ++ carries_noted by amounts
  pub deferred_is : deferred ≡ sum (map amount_taken amounts) % 2 ^ 64
  pub tree : t.tree ≡ gave u.tree made t.tree.known
  pub grows : Begins u.tree.known t.tree.known
  pub rest : t ≡ record u { core = t.core; tree = t.tree; moves = t.moves; carries = t.carries }

-- ---- what the tables say

module _ (x : Shared) (tables : AreTables x) where
  abbrev shape : Shape
  shape = shape_of x.core

  pub script_within : IsWithin (content_of x.script)
  script_within = within_of_valid (content_of x.script) tables.shared.script

  pub is_tree : IsTree (shape_of x.core).parents.items
  is_tree = subst IsTree (sym (tree_is x tables.shared)) script_within.tree

  pub same_groups : groups_in (shape_of x.core) ≡ length (parents_of x.script)
  same_groups = ap (λ (l : List ℕ). length l) (tree_is x tables.shared)

  few_groups : groups_in shape ≤ 256
  few_groups = let same = same_groups in let most = (sized_of x tables.shared).groups in omega (arith, same, most)

  -- the places of a group, as a report tells them
  pub places_same : (group : ℕ) → all_places (shape_of x.core) group ≡ places_offlined x.script (Some (command.Offline group))
  places_same group = let ids = tables.shared.ids in let nodes = tables.shared.nodes in λ i. map (λ (n : ℕ). record { id = n / nodes i; node = n % nodes i; group = group }) (range_with_len 0 (ids i * nodes i))

  few_nodes : shape.nodes ≤ 4
  few_nodes = let same = tables.shared.nodes in let most = script_within.nodes in omega (arith, same, most)

  some_nodes : 0 < shape.nodes
  some_nodes = let same = tables.shared.nodes in let some = script_within.some_node in omega (arith, same, some)

  pub handed_to : (by : Serial) (group moved deferred : ℕ) (answer : DoneAnswer) (made : List TreeMade) (u t : WorkerState) (h : HandsOver x by group moved deferred answer u t) → t.tree ≡ gave h.carried.tree made t.tree.known → IsHandedTo x by group moved deferred made u t
  handed_to by group moved deferred answer made u t h leaves =
      let core_is : t.core ≡ h.listed.core = ap (λ (v : WorkerState). v.core) h.ends.rest ∙ ap (λ (v : WorkerState). v.core) h.carries.rest in
      let moves_is : t.moves ≡ h.carried.moves = ap (λ (v : WorkerState). v.moves) h.ends.rest in
      let carries_is : t.carries ≡ h.carried.carries = ap (λ (v : WorkerState). v.carries) h.ends.rest in
      let moves_were : h.listed.moves ≡ u.moves = ap (λ (v : WorkerState). v.moves) h.splices.rest in
      let carries_were : h.listed.carries ≡ u.carries = ap (λ (v : WorkerState). v.carries) h.splices.rest in
      let tree_was : h.carried.tree ≡ u.tree = ap (λ (v : WorkerState). v.tree) h.carries.rest ∙ ap (λ (v : WorkerState). v.tree) h.splices.rest in
      let all : AreSpliced shape (all_places shape group) moved u.core t.core = subst (λ (v : View). AreSpliced shape (all_places shape group) moved u.core v) (sym core_is) h.splices.spliced in
      let c = h.carries.carried in
      let sp : IsSplicedTo (parents_of x.script) group u.core t.core = subst (λ (l : List ℕ). IsSplicedTo l group u.core t.core) (tree_is x tables.shared) (spliced_all shape is_tree few_groups group (range_with_len 0 (count_of_places shape)) moved u.core t.core all) in
      record {
        spliced = sp;
        moved_is = moved_sum shape group (parents_of x.script) (range_with_len 0 (count_of_places shape)) moved u.core t.core all sp;
        closed = subst (λ (v : View). AreClosed shape group v) (sym core_is) h.closed;
        amounts = c.amounts;
        places = c.places;
        moves = moves_is ∙ (c.moved ∙ ap (λ (m : Moves). both m (carry_moves shape c.amounts)) moves_were);
        carries = carries_is ∙ (c.noted ∙ ap (λ (l : List Carry). l ++ carries_noted by c.amounts) carries_were);
        deferred_is = c.total_is;
        tree = leaves ∙ ap (λ (y : TreeView). gave y made t.tree.known) tree_was;
        grows = subst (λ (y : TreeView). Begins y.known t.tree.known) tree_was h.ends.knows.grows;
        rest = h.ends.rest ∙ (ap (λ (v : WorkerState). record v { tree = t.tree }) h.carries.rest
            ∙ (ap (λ (v : WorkerState). record v { moves = h.carried.moves; carries = h.carried.carries; tree = t.tree }) h.splices.rest
            ∙ (λ i. record u { core = sym core_is i; tree = t.tree; moves = sym moves_is i; carries = sym carries_is i })));
      }

  module _ (by : Serial) (group : ℕ) (s u t : WorkerState) (b : HasBegunTo x group s u) (moved deferred : ℕ) (made : List TreeMade) (h : IsHandedTo x by group moved deferred made u t) where
    abbrev pub handed_work : Work
    handed_work = then_work (giving b.made) (handing h.spliced.made h.spliced.sets (carry_moves (shape_of x.core) h.amounts) (carries_noted by h.amounts) made)

    abbrev pub handed_step : Reply → Step
    handed_step r = step_of by (command.Offline group) (without r) s t handed_work

    then_does : Does u t (handing h.spliced.made h.spliced.sets (carry_moves shape h.amounts) (carries_noted by h.amounts) made)
    then_does = let n = does_none u in subst (λ (v : WorkerState). Does u v (handing h.spliced.made h.spliced.sets (carry_moves shape h.amounts) (carries_noted by h.amounts) made)) (sym h.rest) record {
      core = h.spliced.adds;
      uses = n.uses;
      noted = n.noted;
      words = ap (λ (y : TreeView). y.loaded) h.tree ∙ n.words;
      tree = ap (λ (y : TreeView). y.made) h.tree;
      gives = ap (λ (y : TreeView). y.gives) h.tree;
      known = h.grows;
      heard = ap (λ (y : TreeView). y.heard) h.tree;
      hand = (ap (λ (y : TreeView). y.in_hand) h.tree ∙ sym b.hand.out, ap (λ (y : TreeView). y.hand) h.tree ∙ sym b.hand.none);
      rise = n.rise;
      few = n.few;
      moves = h.moves;
      walks = n.walks;
      carries = h.carries;
    }

    -- all that it added
    pub handed_does : Does s t handed_work
    handed_does = does_then s u t (giving b.made) (handing h.spliced.made h.spliced.sets (carry_moves shape h.amounts) (carries_noted by h.amounts) made) b.does then_does

    -- the group's Begin is still known
    pub known_begin : Contains t.tree.known (Begin group)
    known_begin = subst (λ (l : List TreeEntry). Contains l (Begin group)) (sym h.grows.1) (Contains-append_left u.tree.known h.grows.0 (Begin group) b.known)

    row : AreInRow shape by group 0 (count_of_places shape) (carries_noted by h.amounts)
    row = in_row shape by group (count_of_places shape) 0 (count_of_places shape) h.amounts (omega arith) h.places

    of_group : (ns : List ℕ) → AllByRecursion (λ (p : Place). p.group ≡ group) (map (place_by_number shape group) ns)
    of_group [] = tt
    of_group (n ∷ ns) = (refl, of_group ns)

    by_places : (amounts : List PlaceAmount) → AllByRecursion (λ (p : Place). p.group ≡ group) (map carry.amount_place amounts) → AllByRecursion (λ (a : PlaceAmount). a.place.group ≡ group) amounts
    by_places [] all = tt
    by_places (a ∷ more) all = (all.0, by_places more all.1)

    module _ (there : group < length (parents_of x.script)) (r : Reply) where
      carried_one : HasCarried r → (c : Carry) → IsCarryAt shape by group 0 (count_of_places shape) c → DidCarry x.script (handed_step r) c
      carried_one answer c is =
          let within = row_of shape.nodes shape.ids is.number few_nodes is.within in
          let ids = tables.shared.ids in
          let nodes = tables.shared.nodes in
          let a = within.0 in
          let d = within.1 in
          record {
            by = is.own;
            there = subst (IsThere x.script) (sym is.place) (record { id = omega (arith, a, ids); node = omega (arith, d, nodes); group = there });
            command = ap (λ (p : Place). Some (command.Offline p.group)) (sym is.place);
            answer = answer;
            some = is.some;
            undone = λ n e. b.undone n (subst (λ (g : ℕ). slice_get s.tree.known n ≡ Some (Done g)) (ap (λ (p : Place). p.group) is.place) e);
          }

      carried_all : HasCarried r → (cs : List Carry) → AllByRecursion (IsCarryAt shape by group 0 (count_of_places shape)) cs → AllByRecursion (DidCarry x.script (handed_step r)) cs
      carried_all answer [] all = tt
      carried_all answer (c ∷ cs) all = (carried_one answer c all.0, carried_all answer cs all.1)

      -- all was handed over, and the answer tells of no list and no registration
      pub handed_did : MayHaveBegun r → HasCarried r → ((family : Family) → IsReply (parents_of x.script) family by (command.Offline group) None r) → cited_by r ≡ None → pool_told r ≡ [] → pool_made r ≡ []
          → All (λ (m : TreeMade). (length s.tree.known ≤ m.number) × IsEntryOf x.script (handed_step r) m.number m.entry) made → IsCausedBy x.script (handed_step r) r → HasDid x.script by (command.Offline group) (without r) s t
      handed_did may carried replied uncited untold unmade ended cause =
          let z : Step = handed_step r in
          let each = subst (λ (v : View). AllByRecursion (IsSpliceEntry (parents_of x.script) group v h.spliced.made) h.spliced.made) (ap (λ (v : WorkerState). v.core) b.same) h.spliced.each in
          let low = b.below in
          let same = same_groups in
          record {
            work = handed_work;
            does = brings_of handed_does;
            did = record {
              entries = record {
                each = each_rec (λ (m : core.Made). MayMakeEntry x.script z m m.entry) h.spliced.made (spliced_may x z group h.spliced.made h.spliced.made refl refl may known_begin each);
                reply = λ family stands. replied family;
                sets = set_filled h.spliced.made [] h.spliced.sets h.spliced.filled;
                cited = λ c e. absurd (none-some c (sym uncited ∙ e));
              };
              lookups = unfound_lookups x.script z refl refl;
              walks = calm_walks x.script z tt (record { walks = refl; seen = refl; maps = refl; cleared = refl });
              charges = still_charges x.script z (record {
                ops = refl;
                charges = refl;
                uncharges = refl;
                freed = λ g. (spliced_freed (parents_of x.script) (parents_of x.script) group g s.core h.spliced.made h.spliced.made each).0;
                added = λ g. (spliced_freed (parents_of x.script) (parents_of x.script) group g s.core h.spliced.made h.spliced.made each).1;
                charged = λ g. refl;
              });
              moves = record {
                taken = λ p. carried_taken shape by h.amounts p;
                given = λ p. carried_given shape by group h.amounts p low (omega (arith, there, same)) (by_places h.amounts (subst (λ (l : List Place). AllByRecursion (λ (q : Place). q.group ≡ group) l) (sym h.places) (of_group (range_with_len 0 (count_of_places shape)))))
                    ∙ ap (λ (ps : List ℕ). given_at ps [] (carries_noted by h.amounts) p) (tree_is x tables.shared);
                carries = All-from_recursion (DidCarry x.script z) (carries_noted by h.amounts) (carried_all carried (carries_noted by h.amounts) (each_in_row shape by group (count_of_places shape) 0 (carries_noted by h.amounts) row));
                rise = rising shape by group (count_of_places shape) some_nodes few_nodes 0 (carries_noted by h.amounts) row;
                handed = h.amounts;
                places = inr (h.places ∙ places_same group, carried);
                noted = refl;
                steps = told_handed shape x.script (tree_is x tables.shared) h.amounts;
              };
              pool = still_pool x.script z handed_does.core.pool (record { turns = refl; made = unmade }) (subst (IsToldOnce z) (sym untold) tt);
              tree = record {
                each = All-append (λ (m : TreeMade). (length s.tree.known ≤ m.number) × IsEntryOf x.script z m.number m.entry) b.made made (b.each z refl refl may) ended;
                online = λ g asks above. absurd (none-some g asks);
                meets = known_meets x tables.shared z group (subst (λ (l : List TreeEntry). is_made (hierarchy_of (shape_of x.core)) l group ≡ true) (sym h.grows.1) (is_made_grows (hierarchy_of (shape_of x.core)) u.tree.known h.grows.0 group b.met)) (λ g e. some_met (is_past_group r) group g e) (λ g e. subst MayHaveBegun e may);
              };
              cause = cause;
            };
          }

module _ (x : Shared) (tables : AreTables x) (by : Serial) (group : ℕ) (s t : WorkerState) where
  abbrev hierarchy : Hierarchy
  hierarchy = hierarchy_of (shape_of x.core)

  -- a group that began is there
  in_tree : (moved deferred : ℕ) (made : List TreeMade) (u : WorkerState) (b : HasBegunTo x group s u) (h : IsHandedTo x by group moved deferred made u t) → IsTreeJournal hierarchy t.tree.known → group < length (parents_of x.script)
  in_tree moved deferred made u b h legal =
      let at = contains_slice t.tree.known (Begin group) (known_begin x tables by group s u t b moved deferred made h) in
      let may : MayBegin hierarchy (take at.0 t.tree.known) group = legal at.0 (Begin group) at.1 in
      let there = may.there in
      let same = same_groups x tables in omega (arith, there, same)

  pub done : (entry moved deferred : ℕ) (u : WorkerState) → HasBegunTo x group s u → offlined.HandsOver x by group moved deferred (ended.Done entry) u t → HasDid x.script by (command.Offline group) (without (reply.OfflineDone entry moved deferred)) s t
  done entry moved deferred u b over =
      let mark : TreeMade = record { number = entry; entry = Done group } in
      let h = handed_to x tables by group moved deferred (ended.Done entry) (mark ∷ []) u t over over.ends.leaves in
      let there = in_tree moved deferred (mark ∷ []) u b h over.ends.knows.legal in
      let r = reply.OfflineDone entry moved deferred in
      let tells = over.ends.tells in
      let number = tells.gains.number_is in
      let seen = begins_length over.carried.tree.known tells.before tells.seen.known in
      let was : over.carried.tree.known ≡ u.tree.known = ap (λ (v : WorkerState). v.tree.known) over.carries.rest ∙ ap (λ (v : WorkerState). v.tree.known) over.splices.rest in
      let begun = begins_length s.tree.known u.tree.known b.does.known in
      handed_did x tables by group s u t b moved deferred (mark ∷ []) h there r tt tt (λ family. tt) refl refl refl
      (All-from_recursion (λ (m : TreeMade). (length s.tree.known ≤ m.number) × IsEntryOf x.script (handed_step x tables by group s u t b moved deferred (mark ∷ []) h r) m.number m.entry) (mark ∷ []) (
        (
          omega (arith, number, seen, begun, ap (λ (l : List TreeEntry). length l) was),
          record {
            command = refl;
            answer = eq-eqb entry entry refl;
            closed = λ place at here. let id = at.id in let node = at.node in let ids = tables.shared.ids in let nodes = tables.shared.nodes in
                subst (λ (g : ℕ). KnowsClosed t.core (place_number (group_place place.id place.node g))) (sym here) (h.closed.own place.id place.node (omega (arith, id, ids)) (omega (arith, node, nodes)));
          },
        ),
        tt,
      ))
      (record {
        group = group;
        named = refl;
        made = among_right b.made (mark ∷ []) mark (0, refl);
        known = omega (arith, number, ap (λ (l : List TreeEntry). length l) tells.gains.whole, length-append tells.before (Done group ∷ []));
        moved_is = h.moved_is;
        deferred_is = h.deferred_is ∙ ap (λ (n : ℕ). n % 2 ^ 64) (carried_sum by h.amounts);
        took = ap (map (λ (a : PlaceAmount). a.place)) (takes_are (shape_of x.core) h.amounts) ∙ (h.places ∙ places_same x tables group);
        unwalked = refl;
      })

  pub done_before : (entry : ℕ) (u : WorkerState) → HasBegunTo x group s u → offlined.WasDoneBefore x by group entry u t → HasDid x.script by (command.Offline group) (without (reply.AlreadyDone entry)) s t
  done_before entry u b was =
      let over = was.handed in
      let h = handed_to x tables by group was.moved was.deferred (ended.AlreadyDone entry) [] u t over over.ends.leaves in
      let there = in_tree was.moved was.deferred [] u b h over.ends.knows.legal in
      let r = reply.AlreadyDone entry in
      handed_did x tables by group s u t b was.moved was.deferred [] h there r tt tt (λ family. tt) refl refl refl
      (All-nil (λ (m : TreeMade). (length s.tree.known ≤ m.number) × IsEntryOf x.script (handed_step x tables by group s u t b was.moved was.deferred [] h r) m.number m.entry))
      (record { group = group; named = refl; done = over.ends.tells })

pub offline_did : (x : Shared) (tables : AreTables x) (by : Serial) (group : ℕ) (s t : WorkerState) → IsHandless s.tree → (a : Answered) → worker.Offlines x by group a s t → HasDid x.script by (command.Offline group) a s t
offline_did x tables by group s t home a h = by_end.offline_did x tables by group s t home (done x tables by group s t) (done_before x tables by group s t) a h
