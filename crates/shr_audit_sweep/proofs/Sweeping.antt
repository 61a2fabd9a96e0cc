-- SPDX-License-Identifier: GPL-2.0-only
-- The walks that a worker made for the sweep, in its part.
use Rattle.shr_audit_sweep.proofs.Common.{◌≡◌, ℕ, ◌<◌, ◌≤◌, Bool, true, false, cond, List, [], ◌∷◌, length, get_or, Some, refl, sym, ap, ◌∙◌, ◌==◌, ◌&&◌, slice_get, Decides, WorkerPart, Script, Sweep, WalkRecord, Report, IsSweepWalk, IsSwept, sweep_serial, sweep_walks, EachItem, clash, suc, Option, None, filter, is_some, not, commands_of, serial_of, walks_in, Adjacent, IsWorkerCommand, all_of, each_in}
use Rattle.shr_base.specs.declared.replies.Answered.{Answered}
use Rattle.shr_model.specs.Commands.{is_serial}
use Rattle.shr_laws.specs.WellFormed.{IsWellFormed}
use Rattle.shr_audit_formed.proofs.WellParts.{parts_of}
use Rattle.shr_audit_sweep.specs.Swept.{IsSweepTold}
use Rattle.shr_audit_passes.proofs.Answered.{here_at, same_test}

own_walks : (worker n answers : ℕ) (walks : List WalkRecord) → EachItem (λ x. IsWorkerCommand worker answers x.by) walks → filter (λ (w : WalkRecord). is_serial (serial_of worker n) w.by) walks ≡ filter (λ (w : WalkRecord). w.by.command == n) walks
own_walks worker n answers [] h = refl
own_walks worker n answers (w ∷ ws) h =
    ap (λ (t : Bool). cond t (w ∷ filter (λ (x : WalkRecord). is_serial (serial_of worker n) x.by) ws) (filter (λ (x : WalkRecord). is_serial (serial_of worker n) x.by) ws)) (same_test worker n w.by.worker w.by.command (h 0 w refl).0)
    ∙ ap (λ (xs : List WalkRecord). cond (w.by.command == n) (w ∷ xs) xs) (own_walks worker n answers ws (λ k x e. h (suc k) x e))

-- the walks of a worker stand in the order of their commands
pub swept_stand : (r : Report) (parts : List WorkerPart) (worker : ℕ) (part : WorkerPart) → IsWellFormed r → parts ≡ r.workers.items → worker < length parts → part ≡ get_or parts worker part → Adjacent (λ (x y : WalkRecord). x.by.command ≤ y.by.command) part.walks.items
swept_stand r parts worker part well e lt is = (parts_of r well worker part (here_at parts r.workers.items worker part e lt is)).1.0.1.1

-- and are those behind its commands
pub swept_are : (s : Script) (r : Report) (parts : List WorkerPart) (worker n : ℕ) (part : WorkerPart) (walks found : List WalkRecord) → IsWellFormed r → parts ≡ r.workers.items → worker < length parts → part ≡ get_or parts worker part
    → walks ≡ part.walks.items → n ≡ length (commands_of s worker) → found ≡ filter (λ (w : WalkRecord). w.by.command == n) walks → found ≡ sweep_walks s r worker
swept_are s r parts worker n part walks found well e lt is own count h =
    let at : slice_get r.workers.items worker ≡ Some part = here_at parts r.workers.items worker part e lt is in
    h ∙ (ap (λ (ws : List WalkRecord). filter (λ (w : WalkRecord). w.by.command == n) ws) own
    ∙ (ap (λ (k : ℕ). filter (λ (w : WalkRecord). w.by.command == k) part.walks.items) count
    ∙ (sym (own_walks worker (length (commands_of s worker)) (length part.answers.items) part.walks.items (parts_of r well worker part at).1.0.1.0)
    ∙ ap (λ (o : Option WorkerPart). filter (λ (w : WalkRecord). is_serial (sweep_serial s worker) w.by) (walks_in o)) (sym at))))

-- ---- one answer

none_of : {X : Type 0} (o : Option X) (b : Bool) → is_some o ≡ not b → b ≡ true → o ≡ None
none_of None b e t = refl
none_of (Some x) b e t = absurd (let f : not b ≡ false = ap not t in cc)

-- an answer that found no cache and tells these walks is right if these are of the sweep
pub swept_told : (s : Script) (z : Sweep) (walks : List WalkRecord) (a : Answered) (n t b : Bool) → is_some a.found ≡ not n → n ≡ true → Decides t (IsSweepTold walks a.reply) → t ≡ true → Decides b (EachItem (IsSweepWalk s z) walks) → Decides b (IsSwept s z walks a)
swept_told s z walks a n t b found is_none told is_told d = (
  λ u. (let h = told.0 is_told in record { alone = none_of a.found n found is_none; kind = h.kind; walks_are = all_of (IsSweepWalk s z) walks (d.0 u); jobs = h.jobs; freed = h.freed }),
  λ h. d.1 (each_in (IsSweepWalk s z) walks h.walks_are),
)

-- not where the first test failed
pub swept_cut : (s : Script) (z : Sweep) (walks : List WalkRecord) (a : Answered) (v b : Bool) → v ≡ false → v ≡ true → Decides b (IsSwept s z walks a)
swept_cut s z walks a v b f t = absurd (clash v t f)
