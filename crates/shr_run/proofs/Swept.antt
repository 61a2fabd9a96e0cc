-- SPDX-License-Identifier: GPL-2.0-only
-- What the helpers of a sweep did, by the results of the workers.
use Rattle.shr_run.proofs.Common.{◌≡◌, ℕ, ◌+◌, ◌<◌, ◌≤◌, List, [], ◌∷◌, ◌++◌, length, map, sym, refl, ap, subst, ◌∙◌, arith, All, IsTrue, flat_map, slice_get, Option, Some, None, option_map, length-map, slice_get-map, slice_get_within, same_Some, Sweep, WorkerScript, content_of, within_of_valid, PlainSeated, SweepItem, JobQueue, PassView, queue_line, IsShared, Shared, WorkerResult, command_serial, parents_of, HasHelped, there_at, all_slice, all_popped, Helped, Helping, helped_of, last_of, IsWorkerDone, worker_of, popped_of, HasPass, HasHelpedOut, IsPassBack, AreOnce, HaveSwept, IfSome, shape_of, sweep_reply, IsHelperReady, HaveHelpedOut, HasAnswered, HasSweptAt}
use Rattle.shr_base.specs.declared.replies.Answered.{Answered}
use Rattle.shr_base.specs.declared.scripts.GroupDecl.{GroupDecl}
use Rattle.shr_script.specs.Bounds.{IsWithin, IsSweepWithin}
use Rattle.shr_plain.specs.Seat as plain
use Rattle.shr_pool.specs.Passes as passes
use Rattle.shr_seats.specs.Shapes.{groups_in}
use Rattle.shr_pool.specs.Helping.{IsLineWithin}
use Rattle.shr_worker.specs.Replies.{unfound}
use Rattle.shr_assemble.proofs.QuietSteps.{tree_is}
use Rattle.shr_run.proofs.Ending.{all_from_slices}
use Rattle.shr_run.proofs.Passing.{popped_at, popped_by_number}

from_some : {A B : Type 0} (f : A → B) (o : Option A) (y : B) → option_map f o ≡ Some y → (x : A) × (o ≡ Some x) × (f x ≡ y)
from_some f None y e = absurd (cc)
from_some f (Some x) y e = (x, refl, same_Some (f x) y e)

-- what stands in a list that is mapped to another
pub under : {A B : Type 0} (f : A → B) (xs : List A) (ys : List B) (i : ℕ) (y : B) → map f xs ≡ ys → slice_get ys i ≡ Some y → (x : A) × (slice_get xs i ≡ Some x) × (f x ≡ y)
under f xs ys i y same at = from_some f (slice_get xs i) y (sym (slice_get-map f xs i) ∙ (ap (λ l. slice_get l i) same ∙ at))

-- helpers whose workers are done, with new passes of a queue that has a job for each group on each node of the tables
pub all_ready : (x : Shared) (q : JobQueue) (nodes groups : ℕ) (pushed : List SweepItem) (results : List WorkerResult) (helpers : List Helping) → pushed ≡ queue_line nodes groups → nodes ≤ (shape_of x.core).nodes → groups ≤ groups_in (shape_of x.core)
    → map worker_of helpers ≡ results → All (IsWorkerDone x) results → All (λ (w : WorkerResult). IsTrue w.whole) results → All (HasPass x q pushed) helpers → All (IsHelperReady q) helpers
all_ready x q nodes groups pushed results helpers line on low same done whole passed = all_from_slices (IsHelperReady q) helpers (λ i h at.
    let p = all_slice (HasPass x q pushed) helpers i h passed at in
    let there : slice_get results i ≡ Some h.worker = ap (λ l. slice_get l i) (sym same) ∙ (slice_get-map worker_of helpers i ∙ ap (option_map worker_of) at) in
    let own : IsLineWithin x (passes.pass_view h.pass) = record { nodes = nodes; groups = groups; line = ap (λ (v : PassView). v.pushed) p.view ∙ line; nodes_within = on; groups_within = low } in record {
      done = subst (λ (y : Shared). IsWorkerDone y h.worker) (sym p.shared) (all_slice (IsWorkerDone x) results i h.worker done there);
      whole = all_slice (λ (w : WorkerResult). IsTrue w.whole) results i h.worker whole there;
      pass = (p.pass, ap (λ (v : PassView). v.standing.first) p.view);
      fresh = ap (λ (v : PassView). v.popped) p.view;
      line = subst (λ (y : Shared). IsLineWithin y (passes.pass_view h.pass)) (sym p.shared) own;
    })

-- passes that come back may be joined
pub all_back : (q : JobQueue) (z : Sweep) (hs : List Helping) (ks : List Helped) → length ks ≡ length hs → HaveHelpedOut q z hs ks → All (IsPassBack q) ks
all_back q z hs ks same helped = all_from_slices (IsPassBack q) ks (λ i k at.
    let h = there_at hs i (let lt = slice_get_within ks i k at in omega (arith, lt, same)) in (helped i h.0 k h.1 at).pass)

-- the sweep was made
pub have_swept : (x : Shared) (q : JobQueue) (z : Sweep) (pushed : List SweepItem) (results swept : List WorkerResult) (hs : List Helping) (ks : List Helped) → map worker_of hs ≡ results → swept ≡ map helped_of ks → length ks ≡ length hs → All (HasPass x q pushed) hs → All (IsHelperReady q) hs
    → All (λ (w : WorkerResult). IsTrue w.whole) results → HaveHelpedOut q z hs ks → AreOnce x.script.nodes (length (parents_of x.script)) (flat_map popped_of ks) → HaveSwept x z results swept
have_swept x q z pushed results swept hs ks old new same passed ready whole helped once = record {
  same = ap (λ (l : List WorkerResult). length l) new ∙ (length-map ks helped_of ∙ (same ∙ (sym (length-map hs worker_of) ∙ ap (λ (l : List WorkerResult). length l) old)));
  whole = whole;
  popped = λ i. popped_at (slice_get ks i);
  each = each;
  once = record { view = once.view; same = once.same ∙ (sym (popped_by_number ks) ∙ ap (all_popped (λ i. popped_at (slice_get ks i))) many); once = once.once };
}
  where
    many : length ks ≡ length results
    many = same ∙ (sym (length-map hs worker_of) ∙ ap (λ (l : List WorkerResult). length l) old)

    answered : (h : Helping) (k : Helped) → IsHelperReady q h → HasHelpedOut q z h k → HasAnswered z h k
        → (told : List Answered) × (k.worker.answers.items ≡ h.worker.answers.items ++ told) × HasHelped h.shared z (command_serial h.worker.number (length h.worker.answers.items)) told (popped_of k) (last_of h.worker) (last_of k.worker)
    answered h k is out a = (
      unfound (sweep_reply a.answer) ∷ [],
      a.answers,
      record {
        answer = a.answer;
        told_is = refl;
        pass = passes.pass_view h.pass;
        fresh = is.fresh;
        ended = passes.pass_view k.pass;
        popped_is = refl;
        gives = a.gives;
        plain = ap (λ (s : PlainSeated). plain.plain_state_of s) out.plain;
        isolations = out.isolations;
      },
    )

    one : (h : Helping) (k : Helped) → IsHelperReady q h → HasHelpedOut q z h k → HasSweptAt h.shared z (popped_of k) h.worker k.worker
    one h k is out = record {
      number = out.number;
      plain = out.plain;
      rested = out.rested;
      helped = λ done. answered h k is out (out.whole done);
    }

    each : (i : ℕ) (v w : WorkerResult) → slice_get results i ≡ Some v → slice_get swept i ≡ Some w → HasSweptAt x z (popped_at (slice_get ks i)) v w
    each i v w at_v at_w =
        let h = under worker_of hs results i v old at_v in
        let k = under helped_of ks swept i w (sym new) at_w in
        let here = subst (λ (y : Shared). HasSweptAt y z (popped_of k.0) h.0.worker k.0.worker) (all_slice (HasPass x q pushed) hs i h.0 passed h.1).shared (one h.0 k.0 (all_slice (IsHelperReady q) hs i h.0 ready h.1) (helped i h.0 k.0 h.1 k.1)) in
        subst (λ (o : Option Helped). HasSweptAt x z (popped_at o) v w) (sym k.1)
        (subst (λ (u : WorkerResult). HasSweptAt x z (popped_of k.0) u w) h.2 (subst (λ (u : WorkerResult). HasSweptAt x z (popped_of k.0) h.0.worker u) k.2 here))

-- ---- a script with a sweep fits the queue
module _ (x : Shared) (shared : IsShared x) where
  within : IsWithin (content_of x.script)
  within = within_of_valid (content_of x.script) shared.script

  pub nodes_fit : (0 < x.script.nodes) × (x.script.nodes ≤ 4)
  nodes_fit = (within.some_node, within.nodes)

  pub groups_fit : length x.script.groups.items ≤ 255
  groups_fit = within.groups

  pub groups_are : length (parents_of x.script) ≡ length x.script.groups.items + 1
  groups_are = let same = length-map x.script.groups.items (λ (g : GroupDecl). g.parent) in omega (arith, same)

  pub nodes_there : x.script.nodes ≤ (shape_of x.core).nodes
  nodes_there = let same = shared.nodes in omega (arith, same)

  pub groups_there : length x.script.groups.items + 1 ≤ groups_in (shape_of x.core)
  groups_there = let same = ap (λ (l : List ℕ). length l) (tree_is x shared) in omega (arith, same, groups_are)

  -- the sweep's priority
  pub urgent : (z : Sweep) → x.script.sweep ≡ Some z → (z.priority ≤ 12) × (0 < length x.script.workers.items)
  urgent z asked = let fits = subst (λ (o : Option Sweep). IfSome o (IsSweepWithin (content_of x.script))) asked within.sweep in
      let some = fits.some_worker in let same = length-map x.script.workers.items (λ (w : WorkerScript). w.commands.items) in (fits.urgent, omega (arith, some, same))
