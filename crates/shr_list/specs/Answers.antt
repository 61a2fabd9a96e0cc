-- SPDX-License-Identifier: GPL-2.0-only
-- What each call of a list answers, and when.
use Rattle.std.specs.Prelude.{◌≡◌, ℕ, Bool, Some, ◌+◌, ◌<◌, ◌≤◌, true, false, not, List, [], ◌∷◌, ◌++◌, length, option_map, ◌⊎◌}
use Rattle.shr_base.specs.declared.objects.Object.{Object}
use Rattle.shr_base.specs.declared.journals.Entry.{Entry}
use Rattle.shr_base.specs.declared.journals.Entry.TheVariants as entry
use Rattle.shr_base.specs.declared.journals.DropKind.TheVariants as kind
use Rattle.shr_base.specs.declared.places.Serial.{Serial}
use Rattle.shr_model.specs.Items.{step, IsOutcome, is_closed, drop_kind_of}
use Rattle.shr_model.specs.Objects.{holds, named_in}
use Rattle.shr_model.specs.Scan.{scan_of}
use Rattle.shr_base.specs.declared.objects.Policy.{Policy}
use Rattle.shr_list.specs.Listed.{Listed}
use Rattle.shr_list.specs.Nodes.{KeepsKeys}
use Rattle.shr_list.specs.declared.answers.AddAnswer.{AddAnswer}
use Rattle.shr_list.specs.declared.answers.AddAnswer.TheVariants as add
use Rattle.shr_list.specs.declared.answers.LookAnswer.{LookAnswer}
use Rattle.shr_list.specs.declared.answers.LookAnswer.TheVariants as look
use Rattle.shr_list.specs.declared.answers.DropAnswer.{DropAnswer}
use Rattle.shr_list.specs.declared.answers.DropAnswer.TheVariants as drop
use Rattle.shr_list.specs.declared.answers.PinAnswer.{PinAnswer}
use Rattle.shr_list.specs.declared.answers.PinAnswer.TheVariants as pin
use Rattle.shr_list.specs.declared.answers.ListScan.{ListScan}
use Rattle.shr_list.specs.declared.answers.ListScan.TheVariants as scan
use Rattle.shr_list.specs.declared.answers.CloseAnswer.{CloseAnswer}
use Rattle.shr_list.specs.declared.answers.CloseAnswer.TheVariants as close
use Rattle.shr_list.specs.declared.answers.DrainAnswer.{DrainAnswer}
use Rattle.shr_list.specs.declared.answers.DrainAnswer.TheVariants as drain

-- The journal gains this entry, whose outcome is so, the items are those after it, and the limits
-- stay. The objects that a MovedIn moves are given.
pub record ListGains (old new : Listed) (moved : List Object) (e : Entry) : Type 0 where
  pub entries : new.entries ≡ old.entries ++ e ∷ []
  pub items : new.items ≡ step moved old.items e
  pub outcome : IsOutcome moved old.items e
  pub most_items : new.most_items ≡ old.most_items
  pub most_entries : new.most_entries ≡ old.most_entries

-- with this entry the journal and the items are within their limits
pub record HasRoom (l : Listed) (moved : List Object) (e : Entry) : Type 0 where
  pub entries : length l.entries + 1 ≤ l.most_entries
  pub items : length (step moved l.items e) ≤ l.most_items

-- with this entry the journal and the items would have these numbers, and one is above its limit
pub record IsWorn (l : Listed) (moved : List Object) (e : Entry) (entries items : ℕ) : Type 0 where
  pub entries_then : entries ≡ length l.entries + 1
  pub items_then : items ≡ length (step moved l.items e)
  pub over : (l.most_entries < entries) ⊎ (l.most_items < items)

-- the list takes the entry, which gets this number, and no object that stays is moved
pub record Takes (old new : Listed) (e : Entry) (n : ℕ) : Type 0 where
  pub was_open : is_closed old.entries ≡ false
  pub room : HasRoom old [] e
  pub number : n ≡ length old.entries
  pub gains : ListGains old new [] e
  pub keys : KeepsKeys old.keys old.items new.keys new.items

-- the list is closed, and stays as it is
pub record RefusesClosed (old new : Listed) : Type 0 where
  pub closed : is_closed old.entries ≡ true
  pub same : new ≡ old

-- the list is open and has no room for the entry within its limits, and stays as it is
pub record RefusesWorn (old new : Listed) (e : Entry) (entries items : ℕ) : Type 0 where
  pub was_open : is_closed old.entries ≡ false
  pub worn : IsWorn old [] e entries items
  pub same : new ≡ old

-- the list is open and has room within its limits, and stays as it is
pub record LacksMemory (old new : Listed) (e : Entry) : Type 0 where
  pub was_open : is_closed old.entries ≡ false
  pub room : HasRoom old [] e
  pub same : new ≡ old

-- the entry of an add
abbrev pub add_entry : Listed → Object → Entry
add_entry l o = entry.Add o.serial o.birth (not (holds o.birth o.key l.items)) o.key o.value

-- what `add` answers
abbrev pub ListAddGives : Listed → Object → AddAnswer → Listed → Type 0
ListAddGives old o (add.Added n) new = (holds o.birth o.key old.items ≡ false) × Takes old new (add_entry old o) n
ListAddGives old o (add.Exists n) new = (holds o.birth o.key old.items ≡ true) × Takes old new (add_entry old o) n
ListAddGives old o add.Closed new = RefusesClosed old new
ListAddGives old o (add.Worn entries items) new = RefusesWorn old new (add_entry old o) entries items
ListAddGives old o (add.Memory back) new = (back ≡ o) × LacksMemory old new (add_entry old o)

-- the entry of a look
abbrev pub look_entry : Listed → Serial → ℕ → List ℕ → Entry
look_entry l by birth key = entry.Look by birth key (holds birth key l.items)

-- what `look` answers
abbrev pub ListLookGives : Listed → Serial → ℕ → List ℕ → LookAnswer → Listed → Type 0
ListLookGives old by birth key (look.Hit n value) new = (option_map (λ o. o.value) (named_in birth key old.items) ≡ Some value) × Takes old new (look_entry old by birth key) n
ListLookGives old by birth key (look.Miss n) new = (holds birth key old.items ≡ false) × Takes old new (look_entry old by birth key) n
ListLookGives old by birth key look.Closed new = RefusesClosed old new
ListLookGives old by birth key (look.Worn entries items) new = RefusesWorn old new (look_entry old by birth key) entries items
ListLookGives old by birth key look.Memory new = LacksMemory old new (look_entry old by birth key)

-- the entry of a drop
abbrev pub drop_entry : Listed → Serial → ℕ → List ℕ → Entry
drop_entry l by birth key = entry.Drop by birth key (drop_kind_of (named_in birth key l.items))

-- what `drop_key` answers
abbrev pub ListDropGives : Listed → Serial → ℕ → List ℕ → DropAnswer → Listed → Type 0
ListDropGives old by birth key (drop.Dropped n object) new = (named_in birth key old.items ≡ Some object) × (object.pinned ≡ false) × Takes old new (drop_entry old by birth key) n
ListDropGives old by birth key (drop.Pinned n) new = (drop_kind_of (named_in birth key old.items) ≡ kind.Pinned) × Takes old new (drop_entry old by birth key) n
ListDropGives old by birth key (drop.Miss n) new = (drop_kind_of (named_in birth key old.items) ≡ kind.Miss) × Takes old new (drop_entry old by birth key) n
ListDropGives old by birth key drop.Closed new = RefusesClosed old new
ListDropGives old by birth key (drop.Worn entries items) new = RefusesWorn old new (drop_entry old by birth key) entries items
ListDropGives old by birth key drop.Memory new = LacksMemory old new (drop_entry old by birth key)

-- the entry of a pin
abbrev pub pin_entry : Listed → Serial → ℕ → List ℕ → Bool → Entry
pin_entry l by birth key pinned = entry.Pin by birth key pinned (holds birth key l.items)

-- what `set_pin` answers
abbrev pub ListPinGives : Listed → Serial → ℕ → List ℕ → Bool → PinAnswer → Listed → Type 0
ListPinGives old by birth key pinned (pin.Done n) new = (holds birth key old.items ≡ true) × Takes old new (pin_entry old by birth key pinned) n
ListPinGives old by birth key pinned (pin.Miss n) new = (holds birth key old.items ≡ false) × Takes old new (pin_entry old by birth key pinned) n
ListPinGives old by birth key pinned pin.Closed new = RefusesClosed old new
ListPinGives old by birth key pinned (pin.Worn entries items) new = RefusesWorn old new (pin_entry old by birth key pinned) entries items
ListPinGives old by birth key pinned pin.Memory new = LacksMemory old new (pin_entry old by birth key pinned)

-- the entry of a scan
abbrev pub scan_entry : Listed → ℕ → ℕ → Policy → ℕ → Entry
scan_entry l worker walk policy asked =
    let scanned = scan_of policy asked l.items in entry.Scan worker walk asked policy scanned.visits (length scanned.freed) scanned.stopped

-- what a scan answered of its outcome is that of the scan
pub record TellsScan (policy : Policy) (asked : ℕ) (items freed : List Object) (visits : ℕ) (stopped : Bool) : Type 0 where
  pub removed : freed ≡ (scan_of policy asked items).freed
  pub met : visits ≡ (scan_of policy asked items).visits
  pub halted : stopped ≡ (scan_of policy asked items).stopped

-- what `scan` answers
abbrev pub ScanOfListGives : Listed → ℕ → ℕ → Policy → ℕ → ListScan → Listed → Type 0
ScanOfListGives old worker walk policy asked (scan.Scanned n freed visits stopped) new =
    TellsScan policy asked old.items freed.items visits stopped × Takes old new (scan_entry old worker walk policy asked) n
ScanOfListGives old worker walk policy asked scan.Closed new = RefusesClosed old new
ScanOfListGives old worker walk policy asked (scan.Worn entries items) new = RefusesWorn old new (scan_entry old worker walk policy asked) entries items
ScanOfListGives old worker walk policy asked scan.Memory new = LacksMemory old new (scan_entry old worker walk policy asked)

-- where a scan was made this is so of what it freed and of its visits
abbrev pub IfScanned : ListScan → (List Object → ℕ → Type 0) → Type 0
IfScanned (scan.Scanned n freed visits stopped) P = P freed.items visits
IfScanned scan.Closed P = Unit {0}
IfScanned (scan.Worn entries items) P = Unit {0}
IfScanned scan.Memory P = Unit {0}

-- the entry of the parent's journal where this list is closed into it
abbrev pub moved_entry : Listed → ℕ → Entry
moved_entry l child = entry.MovedIn child (length l.items)

-- what `close_into` answers
abbrev pub CloseGives : Listed → Listed → ℕ → CloseAnswer → Listed → Listed → Type 0
CloseGives old parent child (close.Moved objects) new parent_new =
    (objects ≡ length old.items) × HasRoom parent old.items (moved_entry old child) × ListGains parent parent_new old.items (moved_entry old child) × ListGains old new [] entry.Closed
CloseGives old parent child (close.Worn entries items) new parent_new =
    IsWorn parent old.items (moved_entry old child) entries items × (new ≡ old) × (parent_new ≡ parent)
CloseGives old parent child close.Memory new parent_new =
    HasRoom parent old.items (moved_entry old child) × (new ≡ old) × (parent_new ≡ parent)

-- the entry of a drain
abbrev pub drain_entry : Listed → Serial → Entry
drain_entry l by = entry.Drained by (length l.items)

-- what `drain` answers
abbrev pub ListDrainGives : Listed → Serial → DrainAnswer → Listed → Type 0
ListDrainGives old by (drain.Drained objects) new = (objects.items ≡ old.items) × Takes old new (drain_entry old by) (length old.entries)
ListDrainGives old by (drain.Worn entries items) new = RefusesWorn old new (drain_entry old by) entries items
ListDrainGives old by drain.Memory new = LacksMemory old new (drain_entry old by)
