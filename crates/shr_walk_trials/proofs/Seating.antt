-- SPDX-License-Identifier: GPL-2.0-only
-- What each call leaves of its seats.
use Rattle.std.proofs.Common.{◌≡◌, ℕ, ◌%◌, ◌==◌, Bool, true, false, cond, List, [], ap, ◌∙◌}
use Rattle.std.specs.Prelude.{None}
use Rattle.std.proofs.lemmas.List.{append-nil}
use Rattle.shr_base.specs.declared.objects.Object.{Object}
use Rattle.shr_base.specs.declared.objects.Policy.{Policy}
use Rattle.shr_base.specs.declared.places.Place.{Place}
use Rattle.shr_base.specs.declared.ends.LookupWord.{LookupWord}
use Rattle.shr_base.specs.declared.places.Serial.{Serial}
use Rattle.shr_base.specs.declared.replies.Spent.{Spent}
use Rattle.shr_base.specs.declared.replies.Spent.TheVariants as spent
use Rattle.shr_base.specs.declared.journals.PoolEntry.{PoolEntry}
use Rattle.shr_base.specs.declared.journals.Entry.{Entry}
use Rattle.shr_list.specs.Listed.{Listed}
use Rattle.shr_core.specs.declared.view.View.{View}
use Rattle.shr_seats.specs.declared.shape.Shape.{Shape}
use Rattle.shr_core.specs.declared.setting.Setting.{Setting}
use Rattle.shr_core.specs.declared.lookups.Lookup.TheVariants as lookup
use Rattle.shr_core.specs.Answers.{Finds}
use Rattle.shr_core.specs.Parts.{Made, Claims, no_rooms}
use Rattle.shr_core.specs.Gained.{Gained, IsIdle, OwesNoMore}
use Rattle.shr_core.specs.Seats.{Seated, IsPlaceOfShape, view_of, shape_of}
use Rattle.shr_core.specs.Steps.{with_put, with_word, without_id}
use Rattle.shr_core.proofs.Owing.{still_none}
use Rattle.shr_node.specs.declared.answers.NodeScan.{NodeScan}
use Rattle.shr_node.specs.declared.answers.NodeScan.TheVariants as scan
use Rattle.shr_node.specs.Gains.{Gains}
use Rattle.shr_node.specs.declared.answers.NodeAnswer.{NodeAnswer}
use Rattle.shr_node.specs.declared.answers.NodeAnswer.TheVariants as answers
use Rattle.shr_node.specs.Answers.{TenantGives, ScanWorn, ScanGives}
use Rattle.shr_registry.specs.Adding.{Brings}
use Rattle.shr_registry.specs.declared.answers.RegisterAnswer.{RegisterAnswer}
use Rattle.shr_registry.specs.declared.answers.RegisterAnswer.TheVariants as register
use Rattle.shr_registry.specs.declared.answers.UnregisterAnswer.{UnregisterAnswer}
use Rattle.shr_registry.specs.declared.answers.UnregisterAnswer.TheVariants as unregister
use Rattle.shr_registry.specs.Answers.{RegisterGives}
use Rattle.shr_registry.specs.Ending.{UnregisterGives}
use Rattle.shr_walk.specs.declared.seats.Seats.{Seats}
use Rattle.shr_walk.specs.declared.seats.Shared.{Shared}
use Rattle.shr_walk.proofs.Looking.{with_core, looked_worn, looked_gone, looked_held}
use Rattle.shr_walk.specs.Acting.{IsFit}
use Rattle.shr_walk_trials.specs.Desk.{IsHolder}

-- ---- seats whose core seat was stepped with

-- a call left its seat idle, and owing nothing if it owed nothing before
pub record Leaves (v w : View) : Type 0 where
  pub idle : IsIdle w
  pub owed : v.marks.owed ≡ [] → w.marks.owed ≡ []

-- the load of a lookup word leaves nothing owed if nothing was
owes_none : (v : View) (id : ℕ) (word : LookupWord) → v.marks.owed ≡ [] → (with_word v id word).marks.owed ≡ []
owes_none v id word none = by_test (word.phase % 3 == 1)
  where
    by_test : (b : Bool) → cond b v.marks.owed (without_id id v.marks.owed) ≡ []
    by_test true = none
    by_test false = ap (without_id id) none

pub seated : (x : Shared) (s : Seats) (seat : Seated) → IsFit x s → seat.core ≡ s.cache.core.core → Leaves (view_of s.cache.core) (view_of seat) → IsFit x (with_core s seat)
seated x s seat h is left = record {
  shared = h.shared;
  rested = record { core = is ∙ h.rested.core; idle = left.idle; owed = left.owed h.rested.owed; charge = h.rested.charge; deferred = h.rested.deferred };
}

-- ---- the registry

leaves_brings : (v w : View) (more : Gained) → Brings v w more → w.holding ≡ no_rooms → w.claims.held ≡ None → w.claims.owner ≡ None → Leaves v w
leaves_brings v w more b rooms held owner = record { idle = record { rooms = rooms; held = held; owner = owner }; owed = λ none. still_none v w none b.owed }

pub leaves_register : (key : Setting) (v w : View) (decl : ℕ) (pool : List PoolEntry) (gives : ℕ) (a : RegisterAnswer) → w.holding ≡ no_rooms → RegisterGives key v decl pool gives a w → Leaves v w
leaves_register key v w decl pool gives (register.AlreadyRegistered entry) rooms h = leaves_brings v w _ h.gains rooms h.free.held h.free.owner
leaves_register key v w decl pool gives (register.NoId entry) rooms h = leaves_brings v w _ h.misses.gains rooms h.misses.free.held h.misses.free.owner
leaves_register key v w decl pool gives register.Memory rooms h = leaves_brings v w _ h.gains rooms h.free.held h.free.owner
leaves_register key v w decl pool gives (register.Registered id entry) rooms h = leaves_brings v w _ h.gains rooms h.free.held h.free.owner

pub leaves_unregister : (shape : Shape) (v w : View) (decl : ℕ) (by : Serial) (a : UnregisterAnswer) → w.holding ≡ no_rooms → UnregisterGives shape v decl by a w → Leaves v w
leaves_unregister shape v w decl by (unregister.NoCache entry) rooms h = leaves_brings v w _ h.gains rooms h.free.held h.free.owner
leaves_unregister shape v w decl by unregister.Memory rooms h = leaves_brings v w _ h.gains rooms h.free.held h.free.owner
leaves_unregister shape v w decl by (unregister.Freed id entry from to objects) rooms h = leaves_brings v w _ h.gains rooms h.free.held h.free.owner
leaves_unregister shape v w decl by (unregister.Half id entry from to objects why) rooms h = leaves_brings v w _ h.gains rooms h.free.held h.free.owner

-- ---- holding an id

pub leaves_gone : (v w : View) (id number : ℕ) → IsIdle v → Finds v id w (lookup.Gone number) → Leaves v w
leaves_gone v w id number idle f = let a = looked_gone v w id number idle.held f in record { idle = record { rooms = a.holding ∙ idle.rooms; held = a.held; owner = a.owner ∙ idle.owner }; owed = λ none. ap (λ (y : View). y.marks.owed) f.step ∙ owes_none v id f.first none }

pub leaves_worn : (v w : View) (id seen : ℕ) → IsIdle v → Finds v id w (lookup.Worn seen) → Leaves v w
leaves_worn v w id seen idle f = let a = looked_worn v w id seen idle.held f in record { idle = record { rooms = a.holding ∙ idle.rooms; held = a.held; owner = a.owner ∙ idle.owner }; owed = λ none. ap (λ (y : View). y.marks.owed) f.step ∙ owes_none v id f.first none }

pub holder_of : (x : Shared) (place : Place) (s : Seats) (seat : Seated) (number decl : ℕ) → IsFit x s → IsPlaceOfShape (shape_of x.core) place → seat.core ≡ s.cache.core.core → Finds (view_of s.cache.core) place.id (view_of seat) (lookup.Held number decl) → IsHolder x place (with_core s seat)
holder_of x place s seat number decl h inside is f = let v = view_of s.cache.core in let w = view_of seat in let a = looked_held v w place.id number decl h.rested.idle.held f in record {
  shared = h.shared;
  inside = inside;
  core = is ∙ h.rested.core;
  rooms = a.holding ∙ h.rested.idle.rooms;
  held = a.held;
  owner = a.owner ∙ h.rested.idle.owner;
  owed = ap (λ (y : View). y.marks.owed) f.step ∙ owes_none v place.id f.first h.rested.owed;
  charge = h.rested.charge;
  deferred = h.rested.deferred;
}

pub seated_again : (x : Shared) (place : Place) (s : Seats) (seat : Seated) → IsHolder x place s → seat ≡ record s.cache.core { view = with_put (view_of s.cache.core) } → IsFit x (with_core s seat)
seated_again x place s seat h e = record {
  shared = h.shared;
  rested = record {
    core = ap (λ (y : Seated). y.core) e ∙ h.core;
    idle = record { rooms = ap (λ (y : Seated). y.view.holding) e ∙ h.rooms; held = ap (λ (y : Seated). y.view.claims.held) e; owner = ap (λ (y : Seated). y.view.claims.owner) e ∙ h.owner };
    owed = ap (λ (y : Seated). y.view.marks.owed) e ∙ h.owed;
    charge = h.charge;
    deferred = h.deferred;
  };
}

-- ---- the calls on lists

-- the rooms in hand, what is held and the counts seen stay, and no more is owed
pub record IsKept (v w : View) : Type 0 where
  pub holding : w.holding ≡ v.holding
  pub seen : w.traces.seen ≡ v.traces.seen
  pub claims : v.claims.owner ≡ None → w.claims ≡ v.claims
  pub owed : OwesNoMore v w

kept : (v w : View) (more : List Made) (bits : List ℕ) → Gains v w more bits → IsKept v w
kept v w more bits g = record { holding = g.holding; seen = g.adds.seen ∙ append-nil v.traces.seen; claims = g.marks; owed = g.owed }

pub holder_still : (x : Shared) (place : Place) (s : Seats) (seat : Seated) → IsHolder x place s → seat.core ≡ s.cache.core.core → IsKept (view_of s.cache.core) (view_of seat) → IsHolder x place (with_core s seat)
holder_still x place s seat h is k = let same = k.claims h.owner in record {
  shared = h.shared;
  inside = h.inside;
  core = is ∙ h.core;
  rooms = k.holding ∙ h.rooms;
  held = ap (λ (c : Claims). c.held) same ∙ h.held;
  owner = ap (λ (c : Claims). c.owner) same ∙ h.owner;
  owed = still_none (view_of s.cache.core) (view_of seat) h.owed k.owed;
  charge = h.charge;
  deferred = h.deferred;
}

-- a tenant's call keeps it, whatever it answered
pub kept_call : {A : Type 0} (shape : Shape) (v w : View) (id node birth : ℕ) (tells : List Object → A) (e : Listed → Entry) (a : NodeAnswer A) → TenantGives shape v id node birth tells e a w → IsKept v w
kept_call shape v w id node birth tells e (answers.Told at told) h = kept v w _ _ h.gains
kept_call shape v w id node birth tells e (answers.Worn (spent.List place entries items)) h = kept v w _ _ h.full.gains
kept_call shape v w id node birth tells e (answers.Worn s) h = absurd h
kept_call shape v w id node birth tells e answers.Memory h = kept v w _ _ h.free.gains

scan_worn : (shape : Shape) (v w : View) (place : Place) (e : Listed → Entry) (s : Spent) → ScanWorn shape v w place e s → IsKept v w
scan_worn shape v w place e (spent.List at entries items) h = kept v w _ _ h.full.gains
scan_worn shape v w place e (spent.Lookups i seen) h = absurd h
scan_worn shape v w place e (spent.Charges charges uncharges) h = absurd h

pub kept_scan : (shape : Shape) (v w : View) (place : Place) (worker walk : ℕ) (policy : Policy) (asked : ℕ) (a : NodeScan) → ScanGives shape v place worker walk policy asked a w → IsKept v w
kept_scan shape v w place worker walk policy asked (scan.Scanned freed visits stopped) h = kept v w _ _ h.gains
kept_scan shape v w place worker walk policy asked scan.Closed h = kept v w _ _ h.gains
kept_scan shape v w place worker walk policy asked (scan.Worn s) h = scan_worn shape v w place _ s h
kept_scan shape v w place worker walk policy asked scan.Memory h = kept v w _ _ h.free.gains
