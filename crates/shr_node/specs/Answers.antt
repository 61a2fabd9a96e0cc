-- SPDX-License-Identifier: GPL-2.0-only
-- What the calls on one list answer, and what their seat gains. An entry and what is so of a list
-- are functions of the list as it was in hand.
use Rattle.std.specs.Prelude.{◌≡◌, ℕ, Bool, not, Option, List, [], ◌∷◌, ◌++◌, length, option_map}
use Rattle.shr_base.specs.declared.objects.Object.{Object}
use Rattle.shr_base.specs.declared.objects.Policy.{Policy}
use Rattle.shr_base.specs.declared.places.At.{At}
use Rattle.shr_base.specs.declared.places.Place.{Place}
use Rattle.shr_base.specs.declared.places.Serial.{Serial}
use Rattle.shr_base.specs.declared.journals.Entry.{Entry}
use Rattle.shr_base.specs.declared.journals.DropKind.{DropKind}
use Rattle.shr_base.specs.declared.replies.Spent.{Spent}
use Rattle.shr_base.specs.declared.replies.Spent.TheVariants as spent
use Rattle.shr_model.specs.PlaceNumbers.{place_number}
use Rattle.shr_model.specs.Objects.{holds, named_in}
use Rattle.shr_model.specs.Items.{step, IsOutcome, drop_kind_of}
use Rattle.shr_list.specs.Listed.{Listed}
use Rattle.shr_list.specs.Answers.{HasRoom, IsWorn, add_entry, look_entry, drop_entry, pin_entry, scan_entry, TellsScan}
use Rattle.shr_core.specs.declared.view.View.{View}
use Rattle.shr_seats.specs.declared.shape.Shape.{Shape}
use Rattle.shr_core.specs.Rule.{AreBorn}
use Rattle.shr_seats.specs.Shapes.{groups_in}
use Rattle.shr_node.specs.declared.answers.NodeAnswer.{NodeAnswer}
use Rattle.shr_node.specs.declared.answers.NodeAnswer.TheVariants as answer
use Rattle.shr_node.specs.declared.answers.NodeScan.{NodeScan}
use Rattle.shr_node.specs.declared.answers.NodeScan.TheVariants as scan
use Rattle.shr_node.specs.Gains.{Gains, Knows, KnowsClosed, bits_for}
use Rattle.shr_node.specs.Opening.{IsFirstOpen, WasOpen, entry_made}

-- A tenant's call made this entry at the end of the journal of the first open list, which had room
-- for it. Its outcome is so, and so is this of the list's objects before.
pub record Acts (shape : Shape) (v w : View) (id node birth : ℕ) (at : At) (so : List Object → Type 0) (e : Listed → Entry) : Type 0 where
  pub old : Listed
  pub before : so old.items
  pub first : IsFirstOpen shape w id node birth at.place
  pub was : WasOpen shape v (place_number at.place) old
  pub room : HasRoom old [] (e old)
  pub number : at.entry ≡ length old.entries
  pub outcome : IsOutcome [] old.items (e old)
  pub gains : Gains v w (entry_made (place_number at.place) old (e old) ∷ []) (bits_for (place_number at.place) old.items (step [] old.items (e old)))
  pub known : Knows w (place_number at.place) (old.entries ++ e old ∷ [])

-- an open list has no room for this entry within its limits; it stays as it was, and its journal is
-- known
pub record LackedRoom (shape : Shape) (v w : View) (k : ℕ) (old : Listed) (e : Entry) (entries items : ℕ) : Type 0 where
  pub was : WasOpen shape v k old
  pub worn : IsWorn old [] e entries items
  pub gains : Gains v w [] []
  pub known : Knows w k old.entries

-- an open list has room for this entry within its limits, and stays as it was; its journal is known
pub record HadRoom (shape : Shape) (v w : View) (k : ℕ) (old : Listed) (e : Entry) : Type 0 where
  pub was : WasOpen shape v k old
  pub room : HasRoom old [] e
  pub gains : Gains v w [] []
  pub known : Knows w k old.entries

-- the first open list has no room for the entry that would be made of it
pub record TenantIsWorn (shape : Shape) (v w : View) (id node birth : ℕ) (place : Place) (e : Listed → Entry) (entries items : ℕ) : Type 0 where
  pub old : Listed
  pub first : IsFirstOpen shape w id node birth place
  pub full : LackedRoom shape v w (place_number place) old (e old) entries items

-- a tenant's call tells of no counter but the full list
abbrev pub TenantWorn : Shape → View → View → ℕ → ℕ → ℕ → (Listed → Entry) → Spent → Type 0
TenantWorn shape v w id node birth e (spent.List place entries items) = TenantIsWorn shape v w id node birth place e entries items
TenantWorn shape v w id node birth e (spent.Lookups i seen) = ⊥
TenantWorn shape v w id node birth e (spent.Charges charges uncharges) = ⊥

-- there was no memory, and the first open list has room for the entry
pub record TenantLacks (shape : Shape) (v w : View) (id node birth : ℕ) (e : Listed → Entry) : Type 0 where
  pub place : Place
  pub old : Listed
  pub first : IsFirstOpen shape w id node birth place
  pub free : HadRoom shape v w (place_number place) old (e old)

-- What a tenant's call answers that makes this entry of a list, and tells this of its objects
abbrev pub TenantGives : {A : Type 0} → Shape → View → ℕ → ℕ → ℕ → (List Object → A) → (Listed → Entry) → NodeAnswer A → View → Type 0
TenantGives shape v id node birth tells e (answer.Told at told) w = Acts shape v w id node birth at (λ items. tells items ≡ told) e
TenantGives shape v id node birth tells e (answer.Worn s) w = TenantWorn shape v w id node birth e s
TenantGives shape v id node birth tells e answer.Memory w = TenantLacks shape v w id node birth e

-- what `add` answers: whether the object was added
abbrev pub AddGives : Shape → View → ℕ → ℕ → Object → NodeAnswer Bool → View → Type 0
AddGives shape v id node o = TenantGives shape v id node o.birth (λ items. not (holds o.birth o.key items)) (λ old. add_entry old o)

-- what `look` answers: the object's value
abbrev pub LookGives : Shape → View → ℕ → ℕ → Serial → ℕ → List ℕ → NodeAnswer (Option (List ℕ)) → View → Type 0
LookGives shape v id node by birth key = TenantGives shape v id node birth (λ items. option_map (λ o. o.value) (named_in birth key items)) (λ old. look_entry old by birth key)

-- what `drop_key` answers: what the drop did
abbrev pub DropGives : Shape → View → ℕ → ℕ → Serial → ℕ → List ℕ → NodeAnswer DropKind → View → Type 0
DropGives shape v id node by birth key = TenantGives shape v id node birth (λ items. drop_kind_of (named_in birth key items)) (λ old. drop_entry old by birth key)

-- what `set_pin` answers: whether the object is there
abbrev pub PinGives : Shape → View → ℕ → ℕ → Serial → ℕ → List ℕ → Bool → NodeAnswer Bool → View → Type 0
PinGives shape v id node by birth key pinned = TenantGives shape v id node birth (λ items. holds birth key items) (λ old. pin_entry old by birth key pinned)

-- a scan made its entry at the end of its place's journal, which had room for it, and freed these
-- objects
pub record ScansPlace (shape : Shape) (v w : View) (place : Place) (worker walk : ℕ) (policy : Policy) (asked : ℕ) (freed : List Object) (visits : ℕ) (stopped : Bool) : Type 0 where
  pub old : Listed
  pub told : TellsScan policy asked old.items freed visits stopped
  pub born : AreBorn (groups_in shape) freed
  pub was : WasOpen shape v (place_number place) old
  pub room : HasRoom old [] (scan_entry old worker walk policy asked)
  pub outcome : IsOutcome [] old.items (scan_entry old worker walk policy asked)
  pub gains : Gains v w (entry_made (place_number place) old (scan_entry old worker walk policy asked) ∷ []) []
  pub known : Knows w (place_number place) (old.entries ++ scan_entry old worker walk policy asked ∷ [])

-- the list of the place is closed
pub record IsScanClosed (v w : View) (place : Place) : Type 0 where
  pub closed : KnowsClosed w (place_number place)
  pub gains : Gains v w [] []

-- the list of the place has no room for the scan's entry
pub record ScanIsWorn (shape : Shape) (v w : View) (place at : Place) (e : Listed → Entry) (entries items : ℕ) : Type 0 where
  pub old : Listed
  pub here : at ≡ place
  pub full : LackedRoom shape v w (place_number place) old (e old) entries items

-- a scan tells of no counter but the full list of its place
abbrev pub ScanWorn : Shape → View → View → Place → (Listed → Entry) → Spent → Type 0
ScanWorn shape v w place e (spent.List at entries items) = ScanIsWorn shape v w place at e entries items
ScanWorn shape v w place e (spent.Lookups i seen) = ⊥
ScanWorn shape v w place e (spent.Charges charges uncharges) = ⊥

-- there was no memory, and the list of the place has room for the scan's entry
pub record ScanLacks (shape : Shape) (v w : View) (place : Place) (e : Listed → Entry) : Type 0 where
  pub old : Listed
  pub free : HadRoom shape v w (place_number place) old (e old)

-- what `scan` answers
abbrev pub ScanGives : Shape → View → Place → ℕ → ℕ → Policy → ℕ → NodeScan → View → Type 0
ScanGives shape v place worker walk policy asked (scan.Scanned freed visits stopped) w = ScansPlace shape v w place worker walk policy asked freed.items visits stopped
ScanGives shape v place worker walk policy asked scan.Closed w = IsScanClosed v w place
ScanGives shape v place worker walk policy asked (scan.Worn s) w = ScanWorn shape v w place (λ old. scan_entry old worker walk policy asked) s
ScanGives shape v place worker walk policy asked scan.Memory w = ScanLacks shape v w place (λ old. scan_entry old worker walk policy asked)
