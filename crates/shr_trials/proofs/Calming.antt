-- SPDX-License-Identifier: GPL-2.0-only
-- Each call leaves its seat calm, and where it stands among the seats.
use Rattle.shr_trials.proofs.Common.{◌≡◌, ℕ, List, ap, ◌∙◌, IsCalm, StaysCalm, None}
use Rattle.shr_base.specs.declared.objects.Object.{Object}
use Rattle.shr_base.specs.declared.objects.Policy.{Policy}
use Rattle.shr_base.specs.declared.places.Place.{Place}
use Rattle.shr_base.specs.declared.places.Serial.{Serial}
use Rattle.shr_base.specs.declared.replies.Spent.{Spent}
use Rattle.shr_base.specs.declared.replies.Spent.TheVariants as spent
use Rattle.shr_base.specs.declared.journals.PoolEntry.{PoolEntry}
use Rattle.shr_base.specs.declared.journals.Entry.{Entry}
use Rattle.shr_list.specs.Listed.{Listed}
use Rattle.shr_core.specs.declared.view.View.{View}
use Rattle.shr_core.specs.Seats.{Seated, view_of}
use Rattle.shr_seats.specs.declared.shape.Shape.{Shape}
use Rattle.shr_core.specs.Parts.{Made, Claims, no_rooms}
use Rattle.shr_node.specs.declared.answers.NodeAnswer.{NodeAnswer}
use Rattle.shr_node.specs.declared.answers.NodeAnswer.TheVariants as answers
use Rattle.shr_node.specs.declared.answers.NodeScan.{NodeScan}
use Rattle.shr_node.specs.declared.answers.NodeScan.TheVariants as scan
use Rattle.shr_node.specs.declared.answers.SpliceAnswer.{SpliceAnswer}
use Rattle.shr_node.specs.declared.answers.SpliceAnswer.TheVariants as splice
use Rattle.shr_node.specs.Gains.{Gains}
use Rattle.shr_node.specs.Answers.{TenantGives, ScanWorn, ScanGives}
use Rattle.shr_node.specs.Splicing.{SpliceGives}
use Rattle.shr_core.specs.declared.setting.Setting.{Setting}
use Rattle.shr_core.specs.Gained.{Gained}
use Rattle.shr_core.proofs.Owing.{still_none}
use Rattle.shr_registry.specs.Adding.{Brings}
use Rattle.shr_registry.specs.declared.answers.FindAnswer.{FindAnswer}
use Rattle.shr_registry.specs.declared.answers.FindAnswer.TheVariants as find
use Rattle.shr_registry.specs.declared.answers.RegisterAnswer.{RegisterAnswer}
use Rattle.shr_registry.specs.declared.answers.RegisterAnswer.TheVariants as register
use Rattle.shr_registry.specs.declared.answers.UnregisterAnswer.{UnregisterAnswer}
use Rattle.shr_registry.specs.declared.answers.UnregisterAnswer.TheVariants as unregister
use Rattle.shr_registry.specs.Answers.{FindGives, RegisterGives}
use Rattle.shr_registry.specs.Ending.{UnregisterGives}

-- the second view is calm where the first is, and stands where it stood
pub record Keeps (v w : View) : Type 0 where
  pub calm : IsCalm v → IsCalm w
  pub standing : w.standing ≡ v.standing

-- so a call that keeps it, at its core, leaves it calm
pub calm_by : (s t : Seated) → IsCalm (view_of s) → t.core ≡ s.core → Keeps (view_of s) (view_of t) → StaysCalm s t
calm_by s t calm core k = record { core = core; calm = k.calm calm; standing = k.standing }

-- a call that gains only entries and bits keeps the seat calm
pub keeps_gains : (v w : View) (more : List Made) (bits : List ℕ) → Gains v w more bits → Keeps v w
keeps_gains v w more bits g = record {
  calm = λ (c : IsCalm v). record {
    rooms = g.holding ∙ c.rooms;
    owed = still_none v w c.owed g.owed;
    owner = ap (λ (x : Claims). x.owner) (g.marks c.owner) ∙ c.owner;
  };
  standing = g.adds.standing;
}

-- a tenant's call does, by each of its answers
pub keeps_call : {A : Type 0} (shape : Shape) (v w : View) (id node birth : ℕ) (tells : List Object → A) (e : Listed → Entry) (a : NodeAnswer A) → TenantGives shape v id node birth tells e a w → Keeps v w
keeps_call shape v w id node birth tells e (answers.Told at told) h = keeps_gains v w _ _ h.gains
keeps_call shape v w id node birth tells e (answers.Worn (spent.List place entries items)) h = keeps_gains v w _ _ h.full.gains
keeps_call shape v w id node birth tells e (answers.Worn s) h = absurd h
keeps_call shape v w id node birth tells e answers.Memory h = keeps_gains v w _ _ h.free.gains

scan_worn : (shape : Shape) (v w : View) (place : Place) (e : Listed → Entry) (s : Spent) → ScanWorn shape v w place e s → Keeps v w
scan_worn shape v w place e (spent.List at entries items) h = keeps_gains v w _ _ h.full.gains
scan_worn shape v w place e (spent.Lookups i seen) h = absurd h
scan_worn shape v w place e (spent.Charges charges uncharges) h = absurd h

-- the same for `scan`
pub keeps_scan : (shape : Shape) (v w : View) (place : Place) (worker walk : ℕ) (policy : Policy) (asked : ℕ) (a : NodeScan) → ScanGives shape v place worker walk policy asked a w → Keeps v w
keeps_scan shape v w place worker walk policy asked (scan.Scanned freed visits stopped) h = keeps_gains v w _ _ h.gains
keeps_scan shape v w place worker walk policy asked scan.Closed h = keeps_gains v w _ _ h.gains
keeps_scan shape v w place worker walk policy asked (scan.Worn s) h = scan_worn shape v w place _ s h
keeps_scan shape v w place worker walk policy asked scan.Memory h = keeps_gains v w _ _ h.free.gains

-- the same for `splice`
pub keeps_splice : (shape : Shape) (v w : View) (id node group : ℕ) (a : SpliceAnswer) → SpliceGives shape v id node group a w → Keeps v w
keeps_splice shape v w id node group (splice.Spliced moved) h = keeps_gains v w _ _ h.closings.gains
keeps_splice shape v w id node group (splice.Worn s) h = keeps_gains v w _ _ h.stops.closings.gains
keeps_splice shape v w id node group splice.Memory h = keeps_gains v w _ _ h.stops.closings.gains

-- what a call of the registry brings keeps a seat calm, where it has no room and owns no id after
-- it
keeps_brings : (v w : View) (more : Gained) → Brings v w more → w.holding ≡ no_rooms → w.claims.owner ≡ None → Keeps v w
keeps_brings v w more b rooms owner = record {
  calm = λ (c : IsCalm v). record {
    rooms = rooms;
    owed = still_none v w c.owed b.owed;
    owner = owner;
  };
  standing = b.adds.standing;
}

-- the same for `find`
pub keeps_find : (shape : Shape) (v w : View) (decl : ℕ) (pool : List PoolEntry) (gives : ℕ) (a : FindAnswer) → w.holding ≡ no_rooms → FindGives shape v decl pool gives a w → Keeps v w
keeps_find shape v w decl pool gives (find.Held id number entry) rooms h = keeps_brings v w _ h.gains rooms h.holds.owner
keeps_find shape v w decl pool gives (find.NoCache entry) rooms h = keeps_brings v w _ h.gains rooms h.free.owner
keeps_find shape v w decl pool gives (find.Worn s) rooms h = keeps_brings v w _ h.gains rooms h.free.owner

-- the same for `register`
pub keeps_register : (key : Setting) (v w : View) (decl : ℕ) (pool : List PoolEntry) (gives : ℕ) (a : RegisterAnswer) → w.holding ≡ no_rooms → RegisterGives key v decl pool gives a w → Keeps v w
keeps_register key v w decl pool gives (register.AlreadyRegistered entry) rooms h = keeps_brings v w _ h.gains rooms h.free.owner
keeps_register key v w decl pool gives (register.NoId entry) rooms h = keeps_brings v w _ h.misses.gains rooms h.misses.free.owner
keeps_register key v w decl pool gives register.Memory rooms h = keeps_brings v w _ h.gains rooms h.free.owner
keeps_register key v w decl pool gives (register.Registered id entry) rooms h = keeps_brings v w _ h.gains rooms h.free.owner

-- the same for `unregister`
pub keeps_unregister : (shape : Shape) (v w : View) (decl : ℕ) (by : Serial) (a : UnregisterAnswer) → w.holding ≡ no_rooms → UnregisterGives shape v decl by a w → Keeps v w
keeps_unregister shape v w decl by (unregister.NoCache entry) rooms h = keeps_brings v w _ h.gains rooms h.free.owner
keeps_unregister shape v w decl by unregister.Memory rooms h = keeps_brings v w _ h.gains rooms h.free.owner
keeps_unregister shape v w decl by (unregister.Freed id entry from to objects) rooms h = keeps_brings v w _ h.gains rooms h.free.owner
keeps_unregister shape v w decl by (unregister.Half id entry from to objects why) rooms h = keeps_brings v w _ h.gains rooms h.free.owner
